use Rattle.std.proofs.Common.{◌≡◌, ◌∙◌, ◌-◌, ℕ, List, length, Result, Ok, Err, refl, sym}
use Rattle.tuple_schema.specs.Stops.{◌>>=◌}
use Rattle.tuple_schema.specs.declared.schema.Column.{Column}
use Rattle.tuple_schema.specs.declared.value.Value.{Value}
use Rattle.row_codec.specs.declared.decode.RowFault.{RowFault}
use Rattle.row_codec.specs.Decoding.{row_at, row_size_at}
use Rattle.table_read.specs.Rows.{or_place}
use Rattle.table_read.proofs.rows.row_len.Goals as goal

-- where no row has a size, none is there
no_row : (place : ℕ) (columns : List Column) (bytes : List ℕ) (fault : RowFault) → row_size_at columns bytes ≡ Err fault
    → or_place place (row_at columns bytes) ≡ Err place
unfolding row_size_at
no_row place columns bytes fault is = by_reading (row_at columns bytes) is
  where
    by_reading : (r : Result (List Value × List ℕ) RowFault) → (r >>= λ found. Ok (length bytes - length found.1)) ≡ Err fault → or_place place r ≡ Err place
    by_reading (Ok found) is = absurd cc
    by_reading (Err other) is = refl

pub returns-in-Err : goal.returns-in-Err
returns-in-Err c =
    (refl, no_row c.args.place c.args.schema.now c.args.bytes.now c.in-Err.field-0 (sym c.skip_row.ensures.size ∙ c.in-Err.is))
