-- What a table with new blocks holds, in rows.
use Rattle.std.proofs.Common.{◌≡◌, inl, ◌+◌, ℕ, List, [], ◌∷◌, ◌++◌, length, map, Result, Ok, Err, All, Bool, refl, sym, ap, subst, ◌∙◌, arith, append_assoc, length-append}
use Rattle.std.proofs.lemmas.List.{get_or_append_left, drop_at}
use Rattle.std.proofs.lemmas.List.Elements.{All-drop}
use Rattle.tuple_schema.specs.declared.schema.Column.{Column}
use Rattle.tuple_schema.specs.Stops.{◌>>=◌}
use Rattle.row_codec.specs.Decoding.{IsRowOf}
use Rattle.commit_disk.specs.Table.{Stored, Holds}
use Rattle.table_read.specs.Rows.{block_rows, next_gate, table_rows, StoreAll}
use Rattle.table_write.specs.Cut.{together}
use Rattle.table_write.specs.Rows.{stored_of, HoldsRows}
use Rattle.table_write.specs.Adds.{with_blocks}
use Rattle.table_write.proofs.Fronts.{Rows}

-- the value of a step that did not fail
pub bind_ok : {A B F : Type 0} (r : Result A F) (f : A → Result B F) (y : B) → (r >>= f) ≡ Ok y → (x : A) × (r ≡ Ok x) × (f x ≡ Ok y)
bind_ok (Ok x) f y e = (x, refl, e)
bind_ok (Err d) f y e = absurd cc

abbrev pub rows_done : Rows → Result Rows ℕ
rows_done rows = Ok rows

pub rows_is : (xs ys : Rows) → rows_done xs ≡ rows_done ys → xs ≡ ys
rows_is xs ys e = cc

-- the rows of blocks, and behind them those of others, which are read wherever they stand
read_on : (columns : List Column) (gate : ℕ) (olds news : List Stored) (rows more : Rows) → ((place : ℕ) → table_rows columns place news ≡ Ok more) → table_rows columns gate olds ≡ Ok rows
    → table_rows columns gate (olds ++ news) ≡ Ok (rows ++ more)
unfolding table_rows
read_on columns gate [] news rows more reads e = reads gate ∙ ap (λ (rs : Rows). rows_done (rs ++ more)) (rows_is [] rows e)
read_on columns gate (block ∷ olds) news rows more reads e =
    let a = bind_ok (block_rows columns gate block) (λ own. table_rows columns (next_gate gate block) olds >>= λ others. Ok (own ++ others)) rows e in
    let b = bind_ok (table_rows columns (next_gate gate block) olds) (λ others. Ok (a.0 ++ others)) rows a.2 in
    ap (λ r. r >>= λ own. table_rows columns (next_gate gate block) (olds ++ news) >>= λ others. Ok (own ++ others)) a.1
    ∙ ap (λ r. r >>= λ others. Ok (a.0 ++ others)) (read_on columns (next_gate gate block) olds news b.0 more reads b.1)
    ∙ ap rows_done (sym (append_assoc a.0 b.0 more) ∙ ap (λ (rs : Rows). rs ++ more) (rows_is (a.0 ++ b.0) rows b.2))

module _ (columns : List Column) where
  of_front : (xs ys : Rows) → All (IsRowOf columns) (xs ++ ys) → All (IsRowOf columns) xs
  of_front xs ys are = λ k d below. subst (IsRowOf columns) (get_or_append_left xs ys d k below) (are k d (omega (arith, length-append xs ys)))

  of_back : (xs ys : Rows) → All (IsRowOf columns) (xs ++ ys) → All (IsRowOf columns) ys
  of_back xs ys are = subst (All (IsRowOf columns)) (drop_at xs ys (length xs) refl) (All-drop (IsRowOf columns) (length xs) (xs ++ ys) are)

  -- blocks of rows of the columns are their stored form
  blocks_store : (blocks : List Rows) → All (IsRowOf columns) (together blocks) → StoreAll columns (map stored_of blocks) (together blocks)
  unfolding StoreAll
  blocks_store [] are = refl
  blocks_store (block ∷ blocks) are = (
    block,
    together blocks,
    record { counted = refl; spelled = refl; of_columns = of_front block (together blocks) are },
    blocks_store blocks (of_back block (together blocks) are),
    refl,
  )

pub blocks_hold : ((columns : List Column) (gate : ℕ) (blocks : List Stored) (rows : Rows) → StoreAll columns blocks rows → table_rows columns gate blocks ≡ Ok rows)
    → (image text : List ℕ) (columns : List Column) (olds : List Stored) (blocks : List Rows) (rows : Rows) (ended : Bool) → table_rows columns (16 + length text) olds ≡ Ok rows
    → Holds image text (with_blocks olds blocks) ended → All (IsRowOf columns) (together blocks) → HoldsRows image text columns (rows ++ together blocks) ended
blocks_hold reads image text columns olds blocks rows ended e holds of_columns =
    inl (record {
      blocks = with_blocks olds blocks;
      holds = holds;
      decodes = read_on columns (16 + length text) olds (map stored_of blocks) rows (together blocks)
          (λ place. reads columns place (map stored_of blocks) (together blocks) (blocks_store columns blocks of_columns)) e;
    })
