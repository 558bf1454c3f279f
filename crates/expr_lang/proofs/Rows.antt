-- Columns that a row doesn't have.
use Rattle.std.proofs.Common.{◌≡◌, ℕ, ◌≤◌, List, length, Option, Some, None, slice_get, refl, sym, ap, ◌∙◌}
use Rattle.std.proofs.lemmas.Option.{slice_get_past}
use Rattle.tuple_schema.specs.declared.schema.Column.{Column}
use Rattle.tuple_schema.specs.declared.value.Value.{Value}
use Rattle.expr_lang.specs.Values.{nothing, meaning_if, meaning_at}

no_value : (c : Option Column) → meaning_if c None ≡ nothing
no_value None = refl
no_value (Some c) = refl

pub past_row : (columns : List Column) (tuple : List Value) (place : ℕ) → length tuple ≤ place → nothing ≡ meaning_at columns tuple (Some place)
past_row columns tuple place h =
    sym (no_value (slice_get columns place)) ∙ ap (meaning_if (slice_get columns place)) (sym (slice_get_past tuple place h))
