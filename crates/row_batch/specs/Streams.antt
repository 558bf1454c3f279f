-- Rows that come in batches.
use Rattle.std.specs.Prelude.{ℕ, List, ◌≤◌, length}
use Rattle.tuple_schema.specs.declared.value.Value.{Value}

-- there is at least one row, and there are no more than wanted
pub record IsFilled (want : ℕ) (rows : List (List Value)) : Type 0 where
  pub some : 1 ≤ length rows
  pub few : length rows ≤ want
