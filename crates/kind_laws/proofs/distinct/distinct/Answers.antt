use Rattle.std.proofs.Common.{◌≡◌, ◌+◌, ◌<◌, length, map, take, All, sym, ap, subst, ◌∙◌, arith}
use Rattle.std.specs.Str.{bytes_eq}
use Rattle.std.proofs.lemmas.List.Elements.{All-weaker}
use Rattle.row_codec.specs.Rows.{row_bytes}
use Rattle.row_codec.specs.Decoding.{IsRowOf}
use Rattle.row_batch.specs.Packing.{BatchOf}
use Rattle.list_algebra.specs.Bags.{same}
use Rattle.list_algebra.specs.Groups.{distinct}
use Rattle.kind_laws.specs.Keys.{key_number, with_key}
use Rattle.kind_laws.proofs.KeysNumbered.{number_form, with_form, with_known, with_new}
use Rattle.kind_laws.proofs.DistinctMore.{distinct_next}
use Rattle.kind_laws.proofs.distinct.distinct.Goals as goal
use Rattle.kind_laws.proofs.distinct.distinct.Goals.{then-branch-len+in_ok-push_view, else-branch-len}

pub loop-number-preserved : goal.loop-number-preserved
loop-number-preserved c =
    let columns = c.args.rows.now.columns in
    let rows = c.args.rows.now.rows in
    let kept = c.loop-number.kept.rows in
    let row = c.row-row.result in
    let small : c.loop-number.number < length rows = omega (arith, c.len-number-end.ensures.len, c.loop-number-test.true) in
    let each : All (IsRowOf columns) kept = subst (λ cs. All (IsRowOf cs) kept) c.loop-number.invariant.columns c.len.ensures.each in
    let agree : All (λ k. bytes_eq (row_bytes row) (row_bytes k) ≡ same row k) kept =
    All-weaker (IsRowOf columns) (λ k. bytes_eq (row_bytes row) (row_bytes k) ≡ same row k)
    (λ k is. c.rows_by_bytes.ensures.same_bytes columns row k c.row-row.ensures.row_of is) kept each in
    let number : c.in_ok-number.field-0 ≡ key_number same kept row =
    c.in_ok-number.ensures.number ∙ ap (key_number bytes_eq c.loop-number.seen) c.bytes.ensures.bytes
    ∙ ap (λ ks. key_number bytes_eq ks (row_bytes row)) c.loop-number.invariant.seen ∙ number_form row_bytes same bytes_eq kept row agree in
    let seen : c.number.new.self ≡ map row_bytes (with_key same kept row) =
    c.in_ok-number.ensures.keys ∙ ap (with_key bytes_eq c.loop-number.seen) c.bytes.ensures.bytes
    ∙ ap (λ ks. with_key bytes_eq ks (row_bytes row)) c.loop-number.invariant.seen ∙ with_form row_bytes same bytes_eq kept row agree in
    let next : with_key same kept row ≡ distinct (take (c.loop-number.number + 1) rows) =
    ap (λ ks. with_key same ks row) c.loop-number.invariant.rows ∙ sym (distinct_next rows c.loop-number.number row small c.row-row.ensures.row) in
    elim c.if-branch-len.branch [
      | then-branch-len+in_ok-push_view w ↦
          let behind : key_number same kept row ≡ length kept = omega (arith, number, c.len.ensures.len, w.if-branch-len.true) in
          let grown : c.if-branch-len.kept.rows ≡ with_key same kept row =
          ap (λ (b : BatchOf). b.rows) w.kept-is ∙ w.in_ok-push_view.ensures.ok ∙ sym (with_new same kept row behind) in
          record {
            columns = ap (λ (b : BatchOf). b.columns) w.kept-is ∙ w.in_ok-push_view.ensures.columns ∙ c.loop-number.invariant.columns;
            rows = grown ∙ next;
            seen = seen ∙ ap (map row_bytes) (sym grown);
          }
      | else-branch-len w ↦
          let among : key_number same kept row ≡ length kept → ⊥ = λ behind. absurd (omega (arith, behind, number, c.len.ensures.len, w.if-branch-len.false)) in
          let grown : c.if-branch-len.kept.rows ≡ with_key same kept row =
          ap (λ (b : BatchOf). b.rows) w.kept-is ∙ sym (with_known same kept row among) in
          record {
            columns = ap (λ (b : BatchOf). b.columns) w.kept-is ∙ c.loop-number.invariant.columns;
            rows = grown ∙ next;
            seen = seen ∙ ap (map row_bytes) (sym grown);
          }
    ]
