use Rattle.std.proofs.Common.{◌≡◌, ◌∙◌, ◌++◌, [], ◌∷◌, ℕ, Bool, Vec, Global, sym, ap}
use Rattle.std.specs.List.{list_all}
use Rattle.std.proofs.lemmas.Option.{get_or_from_slice_get}
use Rattle.tuple_schema.specs.Tuples.{part}
use Rattle.list_algebra.specs.Joins.{is_given}
use Rattle.kind_laws.specs.Indexes.{row_at}
use Rattle.kind_laws.proofs.Keyed.{within_row}
use Rattle.kind_laws.proofs.Numbered.{no_numbers, number_kept, number_left}
use Rattle.kind_laws.proofs.sorted.given_rows.Goals as goal
use Rattle.kind_laws.proofs.sorted.given_rows.Goals.{then-is_given+in_ok-push, else-is_given}

pub loop-number-init : goal.loop-number-init
loop-number-init c = c.new-numbers.ensures.items ∙ sym (no_numbers _)

pub is_given-requires : goal.is_given-requires
is_given-requires c = within_row c.args.rows.now.columns c.row.result c.args.cols.now c.row.ensures.fits c.requires

pub loop-number-preserved : goal.loop-number-preserved
loop-number-preserved c =
    let test : ℕ → Bool = λ n. list_all is_given (part (row_at c.args.rows.now.rows n) c.args.cols.now) in
    let row : row_at c.args.rows.now.rows c.loop-number.number ≡ c.row.result = get_or_from_slice_get c.args.rows.now.rows c.loop-number.number c.row.result [] c.row.ensures.row in
    let is : test c.loop-number.number ≡ c.is_given.result = ap (λ r. list_all is_given (part r c.args.cols.now)) row ∙ sym c.is_given.ensures in
    elim c.if-is_given.branch [
      | then-is_given+in_ok-push w ↦
          ap (λ (v : Vec ℕ Global). v.items) w.numbers-is ∙ w.in_ok-push.ensures.items ∙ ap (λ ns. ns ++ c.loop-number.number ∷ []) c.loop-number.invariant
          ∙ sym (number_kept test c.loop-number.number (is ∙ w.if-is_given.true))
      | else-is_given w ↦
          ap (λ (v : Vec ℕ Global). v.items) w.numbers-is ∙ c.loop-number.invariant ∙ sym (number_left test c.loop-number.number (is ∙ w.if-is_given.false))
    ]
