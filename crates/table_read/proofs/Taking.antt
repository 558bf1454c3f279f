-- Taking rows one after the other.
use Rattle.std.proofs.Common.{◌≡◌, ℕ, zero, suc, ◌+◌, ◌<◌, List, [], ◌∷◌, ◌++◌, length, drop, Result, Ok, Err, refl, sym, ap, ◌∙◌, add-one, append_assoc, append-nil, arith}
use Rattle.tuple_schema.specs.declared.memory.Stop.{Stop}
use Rattle.tuple_schema.specs.declared.memory.Stop.TheVariants as stop
use Rattle.tuple_schema.specs.declared.value.Value.{Value}
use Rattle.tuple_schema.specs.declared.schema.Column.{Column}
use Rattle.tuple_schema.specs.Stops.{◌>>=◌}
use Rattle.row_codec.specs.declared.decode.RowFault.{RowFault}
use Rattle.row_codec.specs.Rows.{row_bytes}
use Rattle.row_codec.specs.Decoding.{row_at}
use Rattle.commit_disk.specs.declared.attaching.TableFault.{TableFault}
use Rattle.commit_disk.specs.declared.attaching.TableFault.TheVariants as fault
use Rattle.table_read.specs.Rows.{or_place, no_rows_at, rows_at}
use Rattle.table_read.specs.Blocks.{TakesRows, TakesRow}

abbrev Rows : Type 0
Rows = List (List Value)

-- the rows of a reading behind these
abbrev pub behind_rows : Rows → Result Rows ℕ → Result Rows ℕ
behind_rows taken (Ok more) = Ok (taken ++ more)
behind_rows taken (Err place) = Err place

pub behind_none : (taken : Rows) (reading : Result Rows ℕ) → taken ≡ [] → reading ≡ behind_rows taken reading
behind_none taken (Ok more) none = ap (λ (rows : Rows). Ok (rows ++ more)) (sym none)
behind_none taken (Err place) none = refl

abbrev rows_from : List Column → ℕ → ℕ → Result (List Value × List ℕ) RowFault → Result Rows ℕ
rows_from columns count place reading = or_place place reading >>= λ first. rows_at columns count (place + length (row_bytes first.0)) first.1 >>= λ others. Ok (first.0 ∷ others)

first_off : (columns : List Column) (count place : ℕ) (bytes : List ℕ) → rows_at columns (suc count) place bytes ≡ rows_from columns count place (row_at columns bytes)
unfolding rows_at
first_off columns count place bytes = refl

none_off : (columns : List Column) (place : ℕ) (bytes : List ℕ) → rows_at columns zero place bytes ≡ no_rows_at place bytes
unfolding rows_at
none_off columns place bytes = refl

one_more : (taken : Rows) (row : List Value) (reading : Result Rows ℕ) → behind_rows taken (reading >>= λ others. Ok (row ∷ others)) ≡ behind_rows (taken ++ row ∷ []) reading
one_more taken row (Ok others) = ap Ok (sym (append_assoc taken (row ∷ []) others))
one_more taken row (Err place) = refl

no_row : (columns : List Column) (count place : ℕ) (taken : Rows) (reading : Result (List Value × List ℕ) RowFault) → or_place place reading ≡ Err place → behind_rows taken (rows_from columns count place reading) ≡ Err place
no_row columns count place taken (Ok found) is = absurd cc
no_row columns count place taken (Err f) is = refl

module _ (columns : List Column) (left more place : ℕ) (bytes : List ℕ) (old new : Rows) (whole : Result Rows ℕ) (is : left ≡ more + 1) (so_far : whole ≡ behind_rows old (rows_at columns left place bytes)) where
  next : whole ≡ behind_rows old (rows_from columns more place (row_at columns bytes))
  next = so_far ∙ ap (λ (n : ℕ). behind_rows old (rows_at columns n place bytes)) (is ∙ add-one more) ∙ ap (behind_rows old) (first_off columns more place bytes)

  -- a row that is there is the next one
  pub taken_on : (len : ℕ) → TakesRow columns place bytes old new (Ok len) → whole ≡ behind_rows new (rows_at columns more (place + len) (drop len bytes))
  taken_on len (row, reads, long, within, now) =
      next ∙ ap (λ (r : Result (List Value × List ℕ) RowFault). behind_rows old (rows_from columns more place r)) reads
      ∙ one_more old row (rows_at columns more (place + length (row_bytes row)) (drop len bytes))
      ∙ (λ i. behind_rows (sym now i) (rows_at columns more (place + long i) (drop len bytes)))

  -- and where none is, the reading ends
  pub taken_not : (e : Stop TableFault) (now : Rows) → TakesRow columns place bytes old new (Err e) → TakesRows {X = Unit {0}} (Err e) now whole
  taken_not stop.Memory now tells = tt
  taken_not (stop.Fault fault.Disk) now tells = absurd tells
  taken_not (stop.Fault fault.WorkflowDiffers) now tells = absurd tells
  taken_not (stop.Fault (fault.NotATable at)) now tells = next ∙ no_row columns more place old (row_at columns bytes) tells.1 ∙ ap (λ (n : ℕ). Err n) (sym tells.0)

module _ (columns : List Column) (left place : ℕ) (bytes : List ℕ) (taken : Rows) (whole : Result Rows ℕ) (none : left ≡ 0) (so_far : whole ≡ behind_rows taken (rows_at columns left place bytes)) where
  last : whole ≡ behind_rows taken (no_rows_at place bytes)
  last = so_far ∙ ap (λ (n : ℕ). behind_rows taken (rows_at columns n place bytes)) none ∙ ap (behind_rows taken) (none_off columns place bytes)

pub all_taken : (columns : List Column) (left place : ℕ) (bytes : List ℕ) (taken : Rows) (whole : Result Rows ℕ) → left ≡ 0 → length bytes ≡ 0 → whole ≡ behind_rows taken (rows_at columns left place bytes) → whole ≡ Ok taken
all_taken columns left place [] taken whole none empty so_far = last columns left place [] taken whole none so_far ∙ ap Ok (append-nil taken)
all_taken columns left place (b ∷ bytes) taken whole none empty so_far = absurd (omega (arith, empty))

pub some_over : (columns : List Column) (left place : ℕ) (bytes : List ℕ) (taken : Rows) (whole : Result Rows ℕ) → left ≡ 0 → 0 < length bytes → whole ≡ behind_rows taken (rows_at columns left place bytes) → whole ≡ Err place
some_over columns left place [] taken whole none some so_far = absurd (omega (arith, some))
some_over columns left place (b ∷ bytes) taken whole none some so_far = last columns left place (b ∷ bytes) taken whole none so_far
