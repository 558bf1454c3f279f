-- What a load leaves is a step of a history.
use Rattle.std.proofs.Common.{All, subst, IsTrue, ◌≡◌, ◌≤◌, ◌+◌, ℕ, List, [], ◌++◌, length, take, Bool, false, Ok, inl, inr, refl, sym, ap, ◌∙◌}
use Rattle.tuple_schema.specs.declared.value.Value.{Value}
use Rattle.tuple_schema.specs.declared.schema.Column.{Column}
use Rattle.row_codec.specs.Decoding.{IsRowOf}
use Rattle.commit_disk.specs.Table.{Stored, Holds, HoldsOnce}
use Rattle.commit_disk.specs.Attach.{VerdictsAgree}
use Rattle.table_read.specs.Rows.{table_rows}
use Rattle.table_write.specs.Rows.{HoldsRows}
use Rattle.table_write.specs.Cut.{IsCut, cut, together}
use Rattle.table_write.specs.Adds.{with_blocks}
use Rattle.flow_types.specs.Flows.{TypedFlow}
use Rattle.kind_laws.specs.Wholes.{Lists}
use Rattle.load_runner.specs.Trimmed.{IsRest}
use Rattle.load_runner.specs.Safe.{IsGrown}
use Rattle.load_runner.specs.Histories.{IsStep}
use Rattle.load_runner.proofs.Tables.{rows_once, same_rows}

-- a table without blocks has no rows
none_stored : (columns : List Column) (gate : ℕ) (committed : List (List Value)) → table_rows columns gate [] ≡ Ok committed
    → committed ≡ []
unfolding table_rows
none_stored columns gate committed is = same_rows committed [] (sym is)

module _ (agree : VerdictsAgree) (once : HoldsOnce)
    (law : (image text : List ℕ) (columns : List Column) (olds : List Stored) (blocks : List (List (List Value)))
    (rows : List (List Value)) (ended : Bool) → table_rows columns (16 + length text) olds ≡ Ok rows
    → Holds image text (with_blocks olds blocks) ended → All (IsRowOf columns) (together blocks)
    → HoldsRows image text columns (rows ++ together blocks) ended)
    (cuts : (batch : ℕ) (rows : List (List Value)) → 1 ≤ batch → IsCut batch rows (cut batch rows)) where
  pub is_step : (flow : TypedFlow) (truth : Lists) (file text image : List ℕ) (columns : List Column) (olds : List Stored) (batch : ℕ)
      (committed rest rows : List (List Value)) (ended : Bool) → 1 ≤ batch → batch ≤ 4096
      → table_rows columns (16 + length text) olds ≡ Ok committed
      → IsRest flow truth committed rest
      → IsGrown file text columns olds (cut batch rest) image
      → HoldsRows image text columns rows ended
      → IsStep flow truth (record { rows = committed; ended = false }) (record { rows = rows; ended = ended })
  is_step flow truth file text image columns olds batch committed rest rows ended some few decodes trimmed (inl front) holds =
      let blocks = cut batch rest in
      let own = law image text columns olds (take front.count blocks) committed front.ended decodes front.holds front.of_columns in
      let same = rows_once agree once image text columns rows (committed ++ together (take front.count blocks)) ended front.ended holds own in
      inr (record {
        unended = refl;
        batch = batch;
        some = some;
        few = few;
        rest = rest;
        trimmed = trimmed;
        blocks = blocks;
        cut = cuts batch rest some;
        count = front.count;
        within = front.within;
        rows = same.0;
        ended = λ is. front.whole (subst IsTrue same.1 is);
      })
  is_step flow truth file text image columns olds batch committed rest rows ended some few decodes trimmed (inr not_yet) holds =
      let none = none_stored columns (16 + length text) committed
      (ap (table_rows columns (16 + length text)) (sym not_yet.none) ∙ decodes) in
      let same = rows_once agree once image text columns rows [] ended false holds (inr (not_yet.is, refl, refl)) in
      let one = same.0 ∙ sym none in
      let two = same.1 in
      inl cc
