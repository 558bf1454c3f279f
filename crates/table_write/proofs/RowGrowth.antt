-- What an image has still, in rows.
use Rattle.std.proofs.Common.{◌≡◌, inl, inr, ◌+◌, ℕ, List, [], ◌∷◌, ◌++◌, length, Ok, Bool, refl, sym, ap, subst, ◌∙◌, append_assoc}
use Rattle.std.proofs.lemmas.Bool.{true≢false}
use Rattle.std.proofs.lemmas.List.{append-nil}
use Rattle.tuple_schema.specs.declared.schema.Column.{Column}
use Rattle.tuple_schema.specs.Stops.{◌>>=◌}
use Rattle.commit_disk.specs.declared.attaching.Attached.TheVariants.{NotMade, Made}
use Rattle.commit_disk.specs.Table.{Stored, Holds, IsNotMade, HoldsOnce}
use Rattle.commit_disk.specs.RowTables.{holds_rows_once, journal_of, table_tells}
use Rattle.commit_disk.specs.Attach.{VerdictsAgree}
use Rattle.commit_disk.specs.Crashes.{HasBlocks, HasStill}
use Rattle.table_read.specs.Rows.{block_rows, next_gate, table_rows}
use Rattle.table_write.specs.Rows.{HoldsFirst, HoldsEnded}
use Rattle.table_write.proofs.Fronts.{Rows}
use Rattle.table_write.proofs.BlockRows.{bind_ok, rows_done, rows_is}

-- the rows of the first blocks are the first rows
rows_begin : (columns : List Column) (gate : ℕ) (blocks more : List Stored) (rows all : Rows) → table_rows columns gate blocks ≡ Ok rows → table_rows columns gate (blocks ++ more) ≡ Ok all → (rest : Rows) × (all ≡ rows ++ rest)
unfolding table_rows
rows_begin columns gate [] more rows all some whole = (all, ap (λ (rs : Rows). rs ++ all) (rows_is [] rows some))
rows_begin columns gate (block ∷ blocks) more rows all some whole =
    let a = bind_ok (block_rows columns gate block) (λ own. table_rows columns (next_gate gate block) blocks >>= λ others. Ok (own ++ others)) rows some in
    let b = bind_ok (table_rows columns (next_gate gate block) blocks) (λ others. Ok (a.0 ++ others)) rows a.2 in
    let c = bind_ok (block_rows columns gate block) (λ own. table_rows columns (next_gate gate block) (blocks ++ more) >>= λ others. Ok (own ++ others)) all whole in
    let d = bind_ok (table_rows columns (next_gate gate block) (blocks ++ more)) (λ others. Ok (c.0 ++ others)) all c.2 in
    let same : c.0 ≡ a.0 = rows_is c.0 a.0 (sym c.1 ∙ a.1) in
    let rest = rows_begin columns (next_gate gate block) blocks more b.0 d.0 b.1 d.1 in (
      rest.0,
      sym (rows_is (c.0 ++ d.0) all d.2) ∙ ap (λ (rs : Rows). rs ++ d.0) same ∙ ap (λ (rs : Rows). a.0 ++ rs) rest.1 ∙ sym (append_assoc a.0 b.0 rest.0)
          ∙ ap (λ (rs : Rows). rs ++ rest.0) (rows_is (a.0 ++ b.0) rows b.2),
    )

nothing : (xs ys : Rows) → xs ++ ys ≡ [] → xs ≡ []
nothing [] ys e = refl
nothing (x ∷ xs) ys e = absurd cc

no_blocks : (columns : List Column) (gate : ℕ) → table_rows columns gate [] ≡ Ok []
unfolding table_rows
no_blocks columns gate = refl

module _ (once : HoldsOnce) (agree : VerdictsAgree) (text : List ℕ) (columns : List Column) where
  -- a made table is no image that isn't made
  not_both : (image : List ℕ) (blocks : List Stored) (ended : Bool) → Holds image text blocks ended → IsNotMade image → ⊥
  not_both image blocks ended holds none =
      let same : Ok NotMade ≡ Ok (Made (journal_of text blocks ended)) =
      agree image text (Ok NotMade) (Ok (Made (journal_of text blocks ended))) tt tt none (table_tells image text blocks ended holds) in
      absurd cc

  has_itself : (image : List ℕ) (blocks : List Stored) (ended : Bool) → Holds image text blocks ended → HasBlocks text blocks image
  has_itself image blocks ended holds = inl ([], ended, subst (λ (bs : List Stored). Holds image text bs ended) (sym (append-nil blocks)) holds)

  -- rows with which the old image begins, the image begins with, where it holds rows at all
  still_first : (old image : List ℕ) (rows : Rows) → HasStill text old image → HoldsFirst text columns rows old → HoldsFirst text columns [] image → HoldsFirst text columns rows image
  still_first old image rows still (more, ended, inr none) some = subst (λ (rs : Rows). HoldsFirst text columns rs image) (sym (nothing rows more none.1)) some
  still_first old image rows still (more, ended, inl was) (all, whole, inr none) =
      elim (still.blocks was.blocks (has_itself old was.blocks ended was.holds)) [
        | inl has ↦ absurd (not_both image (was.blocks ++ has.0) has.1 has.2 none.0)
        | inr bare ↦
            let empty : rows ++ more ≡ [] = rows_is (rows ++ more) [] (sym was.decodes ∙ ap (table_rows columns (16 + length text)) bare.1 ∙ no_blocks columns (16 + length text)) in
            subst (λ (rs : Rows). HoldsFirst text columns rs image) (sym (nothing rows more empty)) (all, whole, inr none)
      ]
  still_first old image rows still (more, ended, inl was) (all, whole, inl is) =
      elim (still.blocks was.blocks (has_itself old was.blocks ended was.holds)) [
        | inl has ↦
            let same : is.blocks ≡ was.blocks ++ has.0 = (holds_rows_once once image text text is.blocks (was.blocks ++ has.0) whole has.1 is.holds has.2).1 in
            let rest = rows_begin columns (16 + length text) was.blocks has.0 (rows ++ more) all was.decodes (sym (ap (table_rows columns (16 + length text)) same) ∙ is.decodes) in (
              more ++ rest.0,
              whole,
              inl (record { blocks = is.blocks; holds = is.holds; decodes = is.decodes ∙ ap rows_done (rest.1 ∙ append_assoc rows more rest.0) }),
            )
        | inr bare ↦ absurd (not_both image is.blocks whole is.holds bare.0)
      ]

pub rows_stay : HoldsOnce → VerdictsAgree → (text old image : List ℕ) (columns : List Column) (rows : Rows) → HasStill text old image → HoldsFirst text columns rows old → HoldsFirst text columns [] image
    → HoldsFirst text columns rows image
rows_stay once agree text old image columns rows = still_first once agree text columns old image rows

-- where the old image is ended, so is the image
pub end_stays : (text old image : List ℕ) (columns : List Column) → HasStill text old image → HoldsEnded text columns old → HoldsEnded text columns image
end_stays text old image columns still (rows, inl was) = (rows, inl (record { blocks = was.blocks; holds = still.ended was.blocks was.holds; decodes = was.decodes }))
end_stays text old image columns still (rows, inr none) = absurd (true≢false none.2)
