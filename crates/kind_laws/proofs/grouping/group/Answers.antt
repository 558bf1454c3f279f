use Rattle.std.proofs.Common.{◌≡◌, ◌∙◌, ◌+◌, ◌<◌, ◌++◌, ◌∷◌, [], List, length, take, sym, ap, subst, arith}
use Rattle.std.proofs.lemmas.List.{length-take-le}
use Rattle.tuple_schema.specs.Tuples.{part}
use Rattle.list_algebra.specs.Bags.{Tuple, same}
use Rattle.list_algebra.specs.Groups.{groups}
use Rattle.kind_laws.specs.Keys.{key_number, with_key}
use Rattle.kind_laws.specs.Grouping.{IsGrouping}
use Rattle.kind_laws.proofs.GroupsNumbered.{AreNumbered, numbers_more}
use Rattle.kind_laws.proofs.GroupsMore.{groups_more, grouping_known, grouping_new, rows_next}
use Rattle.kind_laws.proofs.grouping.group.Goals as goal
use Rattle.kind_laws.proofs.grouping.group.Goals.{then-group-len+in_ok-push, else-group-len}

pub loop-number-preserved : goal.loop-number-preserved
loop-number-preserved c =
    let rows = c.args.rows.now.rows in
    let by = c.args.by.now in
    let n = c.loop-number.number in
    let row = c.row.result in
    let before : List Tuple = take n rows in
    let small : n < length rows = omega (arith, c.len-number-end.ensures.len, c.loop-number-test.true) in
    let next : take (n + 1) rows ≡ before ++ row ∷ [] = rows_next rows n row small c.row.ensures.row in
    let key : part row c.loop-number.keys.cols ≡ part row by = ap (part row) c.loop-number.invariant.cols in
    let number : c.in_ok-group.group ≡ key_number same (groups by before) (part row by) =
    c.in_ok-group.ensures.number ∙ ap (key_number same c.loop-number.keys.keys) key
    ∙ ap (λ ks. key_number same ks (part row by)) c.loop-number.invariant.keys in
    let keys : c.number.new.self.keys ≡ with_key same (groups by before) (part row by) =
    c.in_ok-group.ensures.keys ∙ ap (with_key same c.loop-number.keys.keys) key
    ∙ ap (λ ks. with_key same ks (part row by)) c.loop-number.invariant.keys in
    let each : AreNumbered (groups by before) = subst AreNumbered c.loop-number.invariant.keys c.loop-number.invariant.numbers in
    let group_of : c.push-in-loop-number.new.self.items ≡ c.loop-number.group_of.items ++ key_number same (groups by before) (part row by) ∷ [] =
    c.in_ok-push-2.ensures.items ∙ ap (λ g. c.loop-number.group_of.items ++ g ∷ []) number in
    let count : n ≡ length before = sym (length-take-le n rows (omega (arith, small))) in
    let all : IsGrouping by (take (n + 1) rows) c.push-in-loop-number.new.self.items c.if-group-len.firsts.items =
    elim c.if-group-len.branch [
      | then-group-len+in_ok-push w ↦
          let firsts : c.if-group-len.firsts.items ≡ c.loop-number.firsts.items ++ length before ∷ [] =
          ap (λ v. v.items) w.firsts-is ∙ w.in_ok-push.ensures.items ∙ ap (λ m. c.loop-number.firsts.items ++ m ∷ []) count in
          let new : key_number same (groups by before) (part row by) ≡ length c.loop-number.firsts.items =
          omega (arith, number, c.len.ensures, w.if-group-len.true) in
          rw (next, group_of, firsts) (grouping_new by before row c.loop-number.group_of.items c.loop-number.firsts.items c.loop-number.invariant.grouping each new)
      | else-group-len w ↦
          let firsts : c.if-group-len.firsts.items ≡ c.loop-number.firsts.items = ap (λ v. v.items) w.firsts-is in
          let known : key_number same (groups by before) (part row by) ≡ length c.loop-number.firsts.items → ⊥ =
          λ last. absurd (omega (arith, last, number, c.len.ensures, w.if-group-len.false)) in
          rw (next, group_of, firsts)
          (grouping_known by before row c.loop-number.group_of.items c.loop-number.firsts.items c.loop-number.invariant.grouping each known)
    ] in
    record {
      columns = c.in_ok-group.ensures.columns ∙ c.loop-number.invariant.columns;
      cols = c.in_ok-group.ensures.cols ∙ c.loop-number.invariant.cols;
      keys = keys ∙ sym (ap (groups by) next ∙ groups_more by before row);
      grouping = all;
      numbers = subst AreNumbered (sym keys) (numbers_more (groups by before) (part row by) each);
    }
