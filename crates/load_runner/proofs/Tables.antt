-- Of an image and a text there is one table, and one list of rows.
use Rattle.std.proofs.Common.{◌≡◌, inl, inr, ◌∙◌, ℕ, zero, suc, ◌+◌, List, [], ◌∷◌, ◌++◌, length, Bool, false, Result, Ok, Err, refl, sym, ap, length-append, arith}
use Rattle.std.proofs.lemmas.List.Sums.{sum_by-cons}
use Rattle.tuple_schema.specs.declared.value.Value.{Value}
use Rattle.tuple_schema.specs.declared.schema.Column.{Column}
use Rattle.tuple_schema.specs.declared.memory.Stop.TheVariants.{Fault}
use Rattle.tuple_schema.specs.Stops.{◌>>=◌}
use Rattle.row_codec.specs.Rows.{row_bytes}
use Rattle.row_codec.specs.Decoding.{row_at}
use Rattle.commit_disk.specs.declared.attaching.TableFault.TheVariants.{NotATable, WorkflowDiffers}
use Rattle.commit_disk.specs.declared.attaching.Attached.TheVariants.{NotMade, Made}
use Rattle.commit_disk.specs.Table.{Stored, Holds, HoldsOnce, IsNotMade}
use Rattle.commit_disk.specs.RowTables.{holds_rows_once, journal_of, table_tells}
use Rattle.commit_disk.specs.Journal.{JournalState}
use Rattle.commit_disk.specs.Attach.{TellsOf, VerdictsAgree, rows_in}
use Rattle.table_read.specs.Rows.{or_place, no_rows_at, rows_at, block_rows, next_gate, table_rows}
use Rattle.table_write.specs.Rows.{HoldsRows}
use Rattle.load_runner.specs.Found.{unmade, rows, wrong, other, IsFound, FoundOnce}

-- what a reading that goes on has read first
bind_ok : {A B F : Type 0} (first : Result A F) (next : A → Result B F) (b : B) → (first >>= next) ≡ Ok b → (a : A) × (first ≡ Ok a) × (next a ≡ Ok b)
bind_ok (Ok a) next b is = (a, refl, is)
bind_ok (Err e) next b is = absurd cc

abbrev read_rows : List (List Value) → Result (List (List Value)) ℕ
read_rows found = Ok found

pub same_rows : (some others : List (List Value)) → read_rows some ≡ read_rows others → some ≡ others
same_rows some others is = cc

none_left : (place : ℕ) (bytes : List ℕ) (found : List (List Value)) → no_rows_at place bytes ≡ Ok found → found ≡ []
none_left place [] found is = sym (same_rows [] found is)
none_left place (b ∷ bytes) found is = absurd cc

module _ (columns : List Column) where
  rows_at-length : (count place : ℕ) (bytes : List ℕ) (found : List (List Value)) → rows_at columns count place bytes ≡ Ok found → length found ≡ count
  unfolding rows_at
  rows_at-length zero place bytes found is = ap length (none_left place bytes found is)
  rows_at-length (suc count) place bytes found is =
      let a = bind_ok (or_place place (row_at columns bytes)) (λ first. rows_at columns count (place + length (row_bytes first.0)) first.1 >>= λ others. Ok (first.0 ∷ others)) found is in
      let b = bind_ok (rows_at columns count (place + length (row_bytes a.0.0)) a.0.1) (λ others. Ok (a.0.0 ∷ others)) found a.2 in
      ap length (sym (same_rows (a.0.0 ∷ b.0) found b.2)) ∙ ap suc (rows_at-length count (place + length (row_bytes a.0.0)) a.0.1 b.0 b.1)

  -- a table has as many rows as its blocks count
  pub table_rows-length : (gate : ℕ) (blocks : List Stored) (found : List (List Value)) → table_rows columns gate blocks ≡ Ok found → length found ≡ rows_in blocks
  unfolding table_rows
  table_rows-length gate [] found is = ap length (sym (same_rows [] found is))
  table_rows-length gate (block ∷ blocks) found is =
      let a = bind_ok (block_rows columns gate block) (λ own. table_rows columns (next_gate gate block) blocks >>= λ others. Ok (own ++ others)) found is in
      let b = bind_ok (table_rows columns (next_gate gate block) blocks) (λ others. Ok (a.0 ++ others)) found a.2 in
      let own = rows_at-length block.count (gate + 10) block.bytes a.0 a.1 in
      let more = table_rows-length (next_gate gate block) blocks b.0 b.1 in
      let sum : length found ≡ length a.0 + length b.0 = ap length (sym (same_rows (a.0 ++ b.0) found b.2)) ∙ length-append a.0 b.0 in
      let split = sum_by-cons (λ (block : Stored). block.count) block blocks in
      omega (arith, sum, own, more, split)

-- a table is attached
pub made_tells : (image text : List ℕ) (blocks : List Stored) (ended : Bool) → Holds image text blocks ended → (journal : JournalState) × TellsOf journal image text
made_tells image text blocks ended holds = (journal_of text blocks ended, table_tells image text blocks ended holds)

module _ (agree : VerdictsAgree) (once : HoldsOnce) where
  -- what is a table isn't one that isn't made
  pub not_both : (image text : List ℕ) (blocks : List Stored) (ended : Bool) → Holds image text blocks ended → IsNotMade image → ⊥
  not_both image text blocks ended holds not_made =
      let made = made_tells image text blocks ended holds in
      let same = agree image text (Ok (Made made.0)) (Ok NotMade) tt tt made.1 not_made in
      cc

  pub rows_once : (image text : List ℕ) (columns : List Column) (some others : List (List Value)) (ended stopped : Bool)
      → HoldsRows image text columns some ended → HoldsRows image text columns others stopped → (some ≡ others) × (ended ≡ stopped)
  rows_once image text columns some others ended stopped (inl one) (inl two) =
      let same = holds_rows_once once image text text one.blocks two.blocks ended stopped one.holds two.holds in
      (same_rows _ _ (sym one.decodes ∙ ap (table_rows columns (16 + length text)) same.1 ∙ two.decodes), same.2)
  rows_once image text columns some others ended stopped (inl one) (inr two) = absurd (not_both image text one.blocks ended one.holds two.0)
  rows_once image text columns some others ended stopped (inr one) (inl two) = absurd (not_both image text two.blocks stopped two.holds one.0)
  rows_once image text columns some others ended stopped (inr one) (inr two) = (one.1 ∙ sym two.1, one.2 ∙ sym two.2)

  -- rows that are read from a table are not wrong ones
  rows_not_wrong : (image text : List ℕ) (columns : List Column) (some : List (List Value)) (ended : Bool) (place : ℕ)
      → HoldsRows image text columns some ended → IsFound image text columns (wrong place) → ⊥
  rows_not_wrong image text columns some ended place (inl one) (inl bad) =
      let made = made_tells image text one.blocks ended one.holds in
      let same = agree image text (Ok (Made made.0)) (Err (Fault (NotATable place))) tt tt made.1 bad in
      cc
  rows_not_wrong image text columns some ended place (inr one) (inl bad) =
      let same = agree image text (Ok NotMade) (Err (Fault (NotATable place))) tt tt one.0 bad in
      cc
  rows_not_wrong image text columns some ended place (inl one) (inr bad) =
      let same = holds_rows_once once image text text one.blocks bad.blocks ended bad.ended one.holds bad.holds in
      let no : Ok some ≡ Err place = sym one.decodes ∙ ap (table_rows columns (16 + length text)) same.1 ∙ bad.wrong in
      cc
  rows_not_wrong image text columns some ended place (inr one) (inr bad) = absurd (not_both image text bad.blocks bad.ended bad.holds one.0)

  rows_not_other : (image text : List ℕ) (columns : List Column) (some : List (List Value)) (ended : Bool)
      → HoldsRows image text columns some ended → IsFound image text columns other → ⊥
  rows_not_other image text columns some ended (inl one) bad =
      let made = made_tells image text one.blocks ended one.holds in
      let same = agree image text (Ok (Made made.0)) (Err (Fault WorkflowDiffers)) tt tt made.1 bad in
      cc
  rows_not_other image text columns some ended (inr one) bad =
      let same = agree image text (Ok NotMade) (Err (Fault WorkflowDiffers)) tt tt one.0 bad in
      cc

  wrong_not_other : (image text : List ℕ) (columns : List Column) (place : ℕ) → IsFound image text columns (wrong place) → IsFound image text columns other → ⊥
  wrong_not_other image text columns place (inl bad) differs =
      let same = agree image text (Err (Fault (NotATable place))) (Err (Fault WorkflowDiffers)) tt tt bad differs in
      cc
  wrong_not_other image text columns place (inr bad) differs =
      let made = made_tells image text bad.blocks bad.ended bad.holds in
      let same = agree image text (Ok (Made made.0)) (Err (Fault WorkflowDiffers)) tt tt made.1 differs in
      cc

  wrong_once : (image text : List ℕ) (columns : List Column) (place place' : ℕ) → IsFound image text columns (wrong place) → IsFound image text columns (wrong place') → place ≡ place'
  wrong_once image text columns place place' (inl one) (inl two) =
      let same = agree image text (Err (Fault (NotATable place))) (Err (Fault (NotATable place'))) tt tt one two in
      cc
  wrong_once image text columns place place' (inl one) (inr two) =
      let made = made_tells image text two.blocks two.ended two.holds in
      let same = agree image text (Ok (Made made.0)) (Err (Fault (NotATable place))) tt tt made.1 one in
      cc
  wrong_once image text columns place place' (inr one) (inl two) =
      let made = made_tells image text one.blocks one.ended one.holds in
      let same = agree image text (Ok (Made made.0)) (Err (Fault (NotATable place'))) tt tt made.1 two in
      cc
  wrong_once image text columns place place' (inr one) (inr two) =
      let same = holds_rows_once once image text text one.blocks two.blocks one.ended two.ended one.holds two.holds in
      let e : (let r : Result (List (List Value)) ℕ = Err place in r) ≡ Err place' = sym one.wrong ∙ ap (table_rows columns (16 + length text)) same.1 ∙ two.wrong in
      cc

  -- an image is found to be one thing
  pub found_once : FoundOnce
  found_once image text columns unmade unmade is too = refl
  found_once image text columns unmade (rows others stopped) is too = absurd (not_both image text too.blocks stopped too.holds is)
  found_once image text columns unmade (wrong place) is too = absurd (rows_not_wrong image text columns [] false place (inr (is, refl, refl)) too)
  found_once image text columns unmade other is too = absurd (rows_not_other image text columns [] false (inr (is, refl, refl)) too)
  found_once image text columns (rows some ended) unmade is too = absurd (not_both image text is.blocks ended is.holds too)
  found_once image text columns (rows some ended) (rows others stopped) is too =
      let same = rows_once image text columns some others ended stopped (inl is) (inl too) in cc
  found_once image text columns (rows some ended) (wrong place) is too = absurd (rows_not_wrong image text columns some ended place (inl is) too)
  found_once image text columns (rows some ended) other is too = absurd (rows_not_other image text columns some ended (inl is) too)
  found_once image text columns (wrong place) unmade is too = absurd (rows_not_wrong image text columns [] false place (inr (too, refl, refl)) is)
  found_once image text columns (wrong place) (rows some ended) is too = absurd (rows_not_wrong image text columns some ended place (inl too) is)
  found_once image text columns (wrong place) (wrong place') is too = ap wrong (wrong_once image text columns place place' is too)
  found_once image text columns (wrong place) other is too = absurd (wrong_not_other image text columns place is too)
  found_once image text columns other unmade is too = absurd (rows_not_other image text columns [] false (inr (too, refl, refl)) is)
  found_once image text columns other (rows some ended) is too = absurd (rows_not_other image text columns some ended (inl too) is)
  found_once image text columns other (wrong place) is too = absurd (wrong_not_other image text columns place too is)
  found_once image text columns other other is too = refl
