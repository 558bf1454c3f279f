-- What a load begins from, and what stands behind it.
use Rattle.std.proofs.Common.{◌≡◌, inl, inr, ◌∙◌, ℕ, ◌+◌, List, [], ◌++◌, length, take, All, Bool, false, IsTrue, Ok, refl, sym, ap, subst, append_assoc, append-nil, arith}
use Rattle.std.proofs.lemmas.List.Elements.{All-nil}
use Rattle.tuple_schema.specs.declared.value.Value.{Value}
use Rattle.tuple_schema.specs.declared.schema.Column.{Column}
use Rattle.row_codec.specs.Decoding.{IsRowOf}
use Rattle.commit_disk.specs.declared.attaching.Attached.{Attached}
use Rattle.commit_disk.specs.declared.attaching.Attached.TheVariants.{NotMade, Made}
use Rattle.commit_disk.specs.Table.{Stored, Holds, HoldsUpTo, HoldsOnce, IsNotMade, row_blocks}
use Rattle.commit_disk.specs.RowTables.{told_rows}
use Rattle.commit_disk.specs.Attach.{VerdictsAgree}
use Rattle.commit_disk.specs.Crashes.{IsEmptyOrNotMade}
use Rattle.table_read.specs.Rows.{table_rows}
use Rattle.table_write.specs.Cut.{together}
use Rattle.table_write.specs.Rows.{HoldsRows, HoldsFirst}
use Rattle.table_write.specs.Adds.{with_blocks}
use Rattle.load_runner.specs.Standing.{Begins}
use Rattle.load_runner.specs.Safe.{IsGrown}
use Rattle.load_runner.specs.Starts.{Starts, IsAt, count_of, is_ended, gate_of}
use Rattle.load_runner.specs.Loads.{IsNextGate}
use Rattle.load_runner.proofs.Tables.{same_rows, table_rows-length, rows_once}

-- the rows that were found, and their blocks
pub record Begun (found : Attached) (image text : List ℕ) (columns : List Column) : Type 0 where
  pub olds : List Stored
  pub committed : List (List Value)
  pub decodes : table_rows columns (16 + length text) olds ≡ Ok committed
  pub holds : HoldsRows image text columns committed (is_ended found)
  pub count : count_of found ≡ length committed
  pub at : is_ended found ≡ false → IsAt found image text olds
  pub next : is_ended found ≡ false → IsNextGate image text olds (gate_of found text)

pub begun : (found : Attached) (image text : List ℕ) (columns : List Column) → Starts found image text columns → Begun found image text columns
unfolding table_rows
begun NotMade image text columns not_made = record {
  olds = [];
  committed = [];
  decodes = refl;
  holds = inr (not_made, refl, refl);
  count = refl;
  at = λ unended. (not_made, refl);
  next = λ unended. inr (not_made, refl, refl);
}
begun (Made journal) image text columns (told, (rows, decodes)) = record {
  olds = row_blocks told.blocks;
  committed = rows;
  decodes = decodes;
  holds = inl (record { blocks = row_blocks told.blocks; holds = (told_rows journal image text told).holds; decodes = decodes });
  count = told.counts ∙ sym (table_rows-length columns (16 + length text) (row_blocks told.blocks) rows decodes);
  at = λ unended. subst (λ (b : Bool). HoldsUpTo journal.gate image text (row_blocks told.blocks) b) unended (told_rows journal image text told);
  next = λ unended. inl (subst (λ (b : Bool). HoldsUpTo journal.gate image text (row_blocks told.blocks) b) unended (told_rows journal image text told));
}

-- new blocks behind old ones that have rows hold the rows of both
abbrev pub BlocksHold : Type 0
BlocksHold = (image text : List ℕ) (columns : List Column) (olds : List Stored) (blocks : List (List (List Value))) (rows : List (List Value)) (ended : Bool) →
    table_rows columns (16 + length text) olds ≡ Ok rows → Holds image text (with_blocks olds blocks) ended → All (IsRowOf columns) (together blocks) →
    HoldsRows image text columns (rows ++ together blocks) ended

-- which rows an image has to which blocks are added
pub record HasCommitted (image text : List ℕ) (columns : List Column) (committed : List (List Value)) (blocks : List (List (List Value))) : Type 0 where
  pub count : ℕ
  pub ended : Bool
  pub holds : HoldsRows image text columns (committed ++ together (take count blocks)) ended
  pub all : IsTrue ended → count ≡ length blocks

none_decoded : (columns : List Column) (place : ℕ) (olds : List Stored) (committed : List (List Value)) → table_rows columns place olds ≡ Ok committed → olds ≡ [] → committed ≡ []
unfolding table_rows
none_decoded columns place olds committed decodes none = sym (same_rows _ _ (ap (table_rows columns place) (sym none) ∙ decodes))

pub grown_rows : BlocksHold → (file image text : List ℕ) (columns : List Column) (olds : List Stored) (committed : List (List Value)) (blocks : List (List (List Value)))
    → table_rows columns (16 + length text) olds ≡ Ok committed → IsGrown file text columns olds blocks image → HasCommitted image text columns committed blocks
grown_rows law file image text columns olds committed blocks decodes (inl front) = record {
  count = front.count;
  ended = front.ended;
  holds = law image text columns olds (take front.count blocks) committed front.ended decodes front.holds front.of_columns;
  all = front.whole;
}
grown_rows law file image text columns olds committed blocks decodes (inr not_yet) = record {
  count = 0;
  ended = false;
  holds = inr (not_yet.is, append-nil committed ∙ none_decoded columns _ olds committed decodes not_yet.none, refl);
  all = λ ended. cc;
}

module _ (agree : VerdictsAgree) (once : HoldsOnce) (image text : List ℕ) (columns : List Column) where
  -- the rows that an image holds begin with those that it holds first
  pub begins_first : (committed acknowledged : List (List Value)) (ended : Bool) → HoldsRows image text columns committed ended
      → HoldsFirst text columns acknowledged image → Begins acknowledged committed
  begins_first committed acknowledged ended holds first =
      let same = rows_once agree once image text columns committed (acknowledged ++ first.0) ended first.1 holds first.2 in
      record { others = first.0; whole_is = same.0 }

-- rows with which an image's rows begin are held first
pub held_first : (image text : List ℕ) (columns : List Column) (committed more acknowledged : List (List Value)) (ended : Bool)
    → HoldsRows image text columns (committed ++ more) ended → Begins acknowledged committed → HoldsFirst text columns acknowledged image
held_first image text columns committed more acknowledged ended holds begins =
    let is : committed ++ more ≡ acknowledged ++ (begins.others ++ more) = ap (λ rows. rows ++ more) begins.whole_is ∙ append_assoc acknowledged begins.others more in
    (begins.others ++ more, ended, subst (λ (rows : List (List Value)). HoldsRows image text columns rows ended) is holds)

-- the rows that an image holds are held first
pub itself_first : (image text : List ℕ) (columns : List Column) (rows : List (List Value)) (ended : Bool) → HoldsRows image text columns rows ended → HoldsFirst text columns rows image
itself_first image text columns rows ended holds = ([], ended, subst (λ (rs : List (List Value)). HoldsRows image text columns rs ended) (sym (append-nil rows)) holds)

-- a table that is being made is one to which nothing is added yet
pub made_grows : (file text : List ℕ) (columns : List Column) (blocks : List (List (List Value))) (image : List ℕ) → IsNotMade file → IsEmptyOrNotMade text image → IsGrown file text columns [] blocks image
made_grows file text columns blocks image was (inl not_made) = inr (record { was = was; none = refl; is = not_made })
made_grows file text columns blocks image was (inr empty) = inl (record {
  count = 0;
  ended = false;
  holds = empty;
  within = omega arith;
  whole = λ ended. cc;
  of_columns = All-nil (IsRowOf columns);
})
