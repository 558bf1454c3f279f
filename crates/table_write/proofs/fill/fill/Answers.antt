use Rattle.std.proofs.Common.{◌≡◌, inl, inr, ◌<◌, ◌+◌, ℕ, List, ◌∷◌, take, drop, get_or, length, true, false, ap, sym, subst, ◌∙◌, arith, All, length-drop}
use Rattle.std.proofs.lemmas.List.{drop_all, drop-drop, length-take}
use Rattle.std.proofs.lemmas.List.Elements.{All-push}
use Rattle.row_codec.specs.Rows.{row_bytes}
use Rattle.row_codec.specs.Decoding.{IsRowOf}
use Rattle.commit_disk.specs.Table.{Stored}
use Rattle.commit_disk.specs.Buffer.{with_row}
use Rattle.table_write.specs.Cut.{is_full, cut, cut_on}
use Rattle.table_write.proofs.Cuts.{cut_begins, cut_behind, cut_more, has_rows}
use Rattle.table_write.proofs.Rows.{row_behind, row_taken, row_dropped, stored_more}
use Rattle.table_write.proofs.fill.fill.Goals as goal

pub loop-count-init : goal.loop-count-init
loop-count-init c = record {
  within = omega arith;
  block = c.clear.ensures;
  of_columns = λ k d below. absurd (omega arith);
  rest = cut_begins c.args.batch (drop c.args.from c.args.rows.now.rows);
}

pub loop-count-preserved : goal.loop-count-preserved
loop-count-preserved c =
    let rows = drop c.args.from c.args.rows.now.rows in
    let batch = c.args.batch in
    let count = c.loop-count.count in
    let row = c.row.result in
    let below : count < length rows = omega (arith, length-drop c.args.from c.args.rows.now.rows) in
    let is : row ≡ get_or rows count row = row_behind c.args.rows.now.rows c.args.from count row c.row.ensures.row in
    let front = take count rows in
    let open_yet : is_full batch front ≡ false = sym (c.is_full.ensures front c.loop-count.invariant.block) ∙ c.if-not-is_full.true in
    let taken = row_taken rows count row below is in
    record {
      within = omega arith;
      block = c.add.ensures ∙ ap (λ (bytes : List ℕ). with_row c.loop-count.block bytes) c.bytes.ensures.bytes
          ∙ ap (λ (b : Stored). with_row b (row_bytes row)) c.loop-count.invariant.block ∙ sym (stored_more rows count row below is);
      of_columns = subst (All (IsRowOf c.args.rows.now.columns)) (sym taken) (All-push (IsRowOf c.args.rows.now.columns) front row c.loop-count.invariant.of_columns c.row.ensures.row_of);
      rest = c.loop-count.invariant.rest ∙ ap (cut_on batch front) (row_dropped rows count row below is) ∙ cut_more batch front (drop (count + 1) rows) row open_yet
          ∙ ap (λ rs. cut_on batch rs (drop (count + 1) rows)) (sym taken);
    }

pub returns-else-not-is_full-clause-first : goal.returns-else-not-is_full-clause-first
returns-else-not-is_full-clause-first c =
    let rows = drop c.args.from c.args.rows.now.rows in
    let count = c.loop-count.count in
    let front = take count rows in
    let full : is_full c.args.batch front ≡ true = sym (c.is_full.ensures front c.loop-count.invariant.block) ∙ c.if-not-is_full.false in
    c.loop-count.invariant.rest ∙ cut_behind c.args.batch front (drop count rows) c.requires.some (inl full) (has_rows c.args.batch front c.requires.some full)
    ∙ ap (λ rs. front ∷ cut c.args.batch rs) (drop-drop count c.args.from c.args.rows.now.rows)

pub returns-after-loop-count-clause-first : goal.returns-after-loop-count-clause-first
returns-after-loop-count-clause-first c =
    let rows = drop c.args.from c.args.rows.now.rows in
    let count = c.loop-count.count in
    let front = take count rows in
    let long = length-drop c.args.from c.args.rows.now.rows in
    c.loop-count.invariant.rest ∙ cut_behind c.args.batch front (drop count rows) c.requires.some (inr (drop_all count rows (omega (arith, long)))) (omega (arith, long, length-take count rows))
    ∙ ap (λ rs. front ∷ cut c.args.batch rs) (drop-drop count c.args.from c.args.rows.now.rows)
