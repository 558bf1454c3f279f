-- What opening a gate does to what the image holds.
use Rattle.std.proofs.Common.{◌≡◌, ◌≤◌, ◌<◌, ◌+◌, ◌^◌, ℕ, List, [], ◌∷◌, ◌++◌, length, get_or, drop, false, ap, sym, ◌∙◌, refl, arith, append_assoc, length-append}
use Rattle.std.specs.List.{flat_map}
use Rattle.std.proofs.lemmas.List.{append-nil, drop_more}
use Rattle.std.proofs.lemmas.List.Concat.{flat_map-append}
use Rattle.std.proofs.lemmas.List.Elements.{All-push, All-nil}
use Rattle.commit_disk.specs.Table.{TableBlock, end_block, IsTableBlock, AreInPlace, HoldsUpTo, front, opened, head, block_bytes, content_of, table}
use Rattle.commit_disk.specs.Buffer.{behind_gate}
use Rattle.commit_disk.specs.Journal.{Commits}
use Rattle.commit_disk.specs.Gate.{OpensGate, HasClosedGate}
use Rattle.commit_disk.proofs.Buffers.{length-block_bytes}

pub length-head : (text : List ℕ) → length (head text) ≡ 15 + length text
unfolding head
length-head text = omega arith

-- a table with no rows has no blocks
pub no_blocks : [] ≡ table [] false
unfolding table
no_blocks = refl

pub front-new : (text : List ℕ) → front text [] ≡ opened (head text)
front-new text = append-nil (opened (head text))

pub front-part : (text : List ℕ) (blocks more : List TableBlock) → front text (blocks ++ more) ≡ front text blocks ++ flat_map (λ block. opened (block_bytes block)) more
front-part text blocks more =
    let spell = λ (block : TableBlock). opened (block_bytes block) in
    ap (λ (l : List ℕ). opened (head text) ++ l) (flat_map-append spell blocks more) ∙ sym (append_assoc (opened (head text)) (flat_map spell blocks) (flat_map spell more))

pub front-push : (text : List ℕ) (blocks : List TableBlock) (block : TableBlock) → front text (blocks ++ block ∷ []) ≡ front text blocks ++ opened (block_bytes block)
front-push text blocks block = front-part text blocks (block ∷ []) ∙ ap (λ (l : List ℕ). front text blocks ++ l) (append-nil (opened (block_bytes block)))

-- no end block stands among none
pub none_placed : AreInPlace []
none_placed before behind is = absurd (omega (arith, ap length is, length-append before (end_block ∷ behind)))

-- behind a front whose gate is opened stand the bytes from behind the gate, and then a closed gate
closed_behind : (before more left : List ℕ) → before ++ 1 ∷ (more ++ 0 ∷ []) ++ left ≡ before ++ opened more ++ 0 ∷ left
closed_behind before more left =
    ap (λ (l : List ℕ). l ++ left) (sym (append_assoc before (opened more) (0 ∷ []))) ∙ append_assoc (before ++ opened more) (0 ∷ []) left

-- where the gate of a block is opened behind the front of a table, the image holds the blocks and this one
pub commits : (place : ℕ) (old new : List ℕ) (next : ℕ) (block : TableBlock) → IsTableBlock block → next ≡ place + 10 + length (content_of block).bytes → next < 2 ^ 48
    → OpensGate place (behind_gate block) old new → Commits place next block old new
commits place old new next block good size room opens text blocks placed was =
    let before = front text blocks in
    let more = block_bytes block in
    let is : front text (blocks ++ block ∷ []) ≡ before ++ opened more = front-push text blocks block in
    let at : length (front text (blocks ++ block ∷ [])) ≡ next = omega (arith, ap length is, length-append before (opened more), was.at, length-block_bytes block) in
    let left = drop (length (more ++ 0 ∷ [])) was.holds.rest in
    let spelled : new ≡ before ++ 1 ∷ (more ++ 0 ∷ []) ++ left = opens before was.holds.gate was.holds.rest was.at was.holds.spelled in
    record {
      holds = record {
        gate = 0;
        rest = left;
        spelled = spelled ∙ closed_behind before more left ∙ ap (λ (l : List ℕ). l ++ 0 ∷ left) (sym is);
        closed = λ e. cc e;
        short = was.holds.short;
        stored = All-push IsTableBlock blocks block was.holds.stored good;
        placed = placed;
        room = omega arith;
      };
      at = at;
    }

-- a made gate that was closed becomes the gate of a table with no rows
pub made : (next : ℕ) (old new text : List ℕ) → length text ≤ 65536 → next ≡ 16 + length text → HasClosedGate old → OpensGate 0 (head text ++ 0 ∷ []) old new → HoldsUpTo next new text [] false
unfolding table
made next old new text short size was opens =
    let rest = drop 1 old in
    let split : old ≡ get_or old 0 0 ∷ rest = drop_more old 0 0 was.some in
    let left = drop (length (head text ++ 0 ∷ [])) rest in
    let spelled : new ≡ opened (head text) ++ 0 ∷ left = opens [] (get_or old 0 0) rest refl split ∙ closed_behind [] (head text) left in
    let at : length (front text []) ≡ next = omega (arith, ap length (front-new text), length-head text) in
    record {
      holds = record {
        gate = 0;
        rest = left;
        spelled = spelled ∙ ap (λ (l : List ℕ). l ++ 0 ∷ left) (sym (front-new text));
        closed = λ e. cc e;
        short = short;
        stored = All-nil IsTableBlock;
        placed = none_placed;
        room = omega arith;
      };
      at = at;
    }
