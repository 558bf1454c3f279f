-- An image holds one table at most.
use Rattle.std.proofs.Common.{◌≡◌, ◌⊎◌, inl, inr, ⊎_elim, ◌≤◌, ◌<◌, ◌^◌, ℕ, List, [], ◌∷◌, ◌++◌, length, get_or, take, drop, ap, sym, ◌∙◌, refl, arith, append_assoc, codes}
use Rattle.std.specs.List.{flat_map, All}
use Rattle.std.specs.Int.{w32, to_be_bytes, from_be_bytes}
use Rattle.std.proofs.lemmas.List.{take_at, drop_at, append_cancel_left}
use Rattle.std.proofs.lemmas.List.Elements.{All-head, All-tail}
use Rattle.std.proofs.lemmas.Nat.{from_be_bytes-to_be_bytes_4}
use Rattle.commit_disk.specs.Table.{TableBlock, rows_block, end_block, IsTableBlock, HoldsOnce, front, opened, head, block_bytes, kind_of, content_of}

-- two lists in two parts, of which the first are as long
parts_same : (xs ys xs' ys' : List ℕ) → length xs ≡ length xs' → xs ++ ys ≡ xs' ++ ys' → (xs ≡ xs') × (ys ≡ ys')
parts_same xs ys xs' ys' long is = (
  sym (take_at xs ys (length xs) refl) ∙ ap (λ (l : List ℕ). take (length xs) l) is ∙ take_at xs' ys' (length xs) (sym long),
  sym (drop_at xs ys (length xs) refl) ∙ ap (λ (l : List ℕ). drop (length xs) l) is ∙ drop_at xs' ys' (length xs) (sym long),
)

numbers_same : (m n : ℕ) (xs ys : List ℕ) → m < 2 ^ 32 → n < 2 ^ 32 → to_be_bytes w32 m ++ xs ≡ to_be_bytes w32 n ++ ys → (m ≡ n) × (xs ≡ ys)
numbers_same m n xs ys small less is =
    let parts = parts_same (to_be_bytes w32 m) xs (to_be_bytes w32 n) ys refl is in (
      sym (from_be_bytes-to_be_bytes_4 m small) ∙ ap (λ (l : List ℕ). from_be_bytes w32 l) parts.0 ∙ from_be_bytes-to_be_bytes_4 n less,
      parts.1,
    )

opened_block : (block : TableBlock) (rest : List ℕ) → opened (block_bytes block) ++ rest
    ≡ 1 ∷ kind_of block ∷ (to_be_bytes w32 (content_of block).count ++ (to_be_bytes w32 (length (content_of block).bytes) ++ ((content_of block).bytes ++ rest)))
unfolding block_bytes
opened_block block rest = simp append_assoc

opened_head : (text rest : List ℕ) → opened (head text) ++ rest ≡ (1 ∷ codes "WHTABLE" ++ to_be_bytes w32 1) ++ (to_be_bytes w32 (length text) ++ (text ++ rest))
unfolding head
opened_head text rest = simp append_assoc

-- what a block stores is small
pub content_small : (block : TableBlock) → IsTableBlock block → ((content_of block).count < 2 ^ 32) × (length (content_of block).bytes < 2 ^ 32)
content_small (rows_block rows) good = (omega (arith, good.few), omega (arith, good.short))
content_small end_block good = (omega arith, omega arith)

-- a block is its kind and what it stores
kinds_same : (block other : TableBlock) → kind_of block ≡ kind_of other → content_of block ≡ content_of other → block ≡ other
kinds_same (rows_block rows) (rows_block others) kind is = ap rows_block is
kinds_same (rows_block rows) end_block kind is = absurd (omega (arith, kind))
kinds_same end_block (rows_block others) kind is = absurd (omega (arith, kind))
kinds_same end_block end_block kind is = refl

-- behind two equal opened blocks stands the same
blocks_same : (block other : TableBlock) (rest left : List ℕ) → IsTableBlock block → IsTableBlock other → opened (block_bytes block) ++ rest ≡ opened (block_bytes other) ++ left → (block ≡ other) × (rest ≡ left)
blocks_same block other rest left good fine is =
    let same = sym (opened_block block rest) ∙ is ∙ opened_block other left in
    let small = content_small block good in
    let less = content_small other fine in
    let kinds : kind_of block ≡ kind_of other = ap (λ (l : List ℕ). get_or l 1 0) same in
    let counts = numbers_same (content_of block).count (content_of other).count _ _ small.0 less.0 (ap (λ (l : List ℕ). drop 2 l) same) in
    let lengths = numbers_same (length (content_of block).bytes) (length (content_of other).bytes) _ _ small.1 less.1 counts.1 in
    let bytes = parts_same (content_of block).bytes rest (content_of other).bytes left lengths.0 lengths.1 in
    (kinds_same block other kinds (λ i. record { count = counts.0 i; bytes = bytes.0 i }), bytes.1)

texts_same : (text other rest left : List ℕ) → length text ≤ 65536 → length other ≤ 65536 → opened (head text) ++ rest ≡ opened (head other) ++ left → (text ≡ other) × (rest ≡ left)
texts_same text other rest left short brief is =
    let lengths = numbers_same (length text) (length other) _ _ (omega arith) (omega arith)
    (append_cancel_left (1 ∷ codes "WHTABLE" ++ to_be_bytes w32 1) _ _ (sym (opened_head text rest) ∙ is ∙ opened_head other left)) in
    parts_same text rest other left lengths.0 lengths.1

abbrev blocks_then : List TableBlock → List ℕ → List ℕ
blocks_then blocks rest = flat_map (λ block. opened (block_bytes block)) blocks ++ rest

first_byte : (gate : ℕ) (rest more : List ℕ) → gate ∷ rest ≡ 1 ∷ more → gate ≡ 1
first_byte gate rest more is = ap (λ (l : List ℕ). get_or l 0 0) is

-- blocks go on, where others have an open gate
pub record Outgoes (blocks others : List TableBlock) (gate : ℕ) : Type 0 where
  pub open_gate : gate ≡ 1
  pub longer : (block : TableBlock) × (more : List TableBlock) × (others ≡ blocks ++ block ∷ more)

-- two fronts of one image are the same, or one of them goes on where the other has an open gate
abbrev pub Compared : List TableBlock → List TableBlock → ℕ → ℕ → Type 0
Compared blocks others gate other = (blocks ≡ others) ⊎ (Outgoes blocks others gate ⊎ Outgoes others blocks other)

longer_by : (b o : TableBlock) (blocks others : List TableBlock) (gate : ℕ) → o ≡ b → Outgoes blocks others gate → Outgoes (b ∷ blocks) (o ∷ others) gate
longer_by b o blocks others gate same on = record {
  open_gate = on.open_gate;
  longer = (on.longer.0, on.longer.1, λ i. same i ∷ on.longer.2 i);
}

block_off : (block : TableBlock) (blocks : List TableBlock) (rest : List ℕ) → blocks_then (block ∷ blocks) rest ≡ opened (block_bytes block) ++ blocks_then blocks rest
block_off block blocks rest = append_assoc (opened (block_bytes block)) (flat_map (λ b. opened (block_bytes b)) blocks) rest

-- going down the blocks
tables_compare : (blocks others : List TableBlock) (gate other : ℕ) (rest left : List ℕ) → All IsTableBlock blocks → All IsTableBlock others
    → blocks_then blocks (gate ∷ rest) ≡ blocks_then others (other ∷ left) → Compared blocks others gate other
tables_compare [] [] gate other rest left good fine is = inl refl
tables_compare [] (o ∷ others) gate other rest left good fine is =
    inr (inl (record { open_gate = first_byte gate rest _ (is ∙ block_off o others (other ∷ left)); longer = (o, others, refl) }))
tables_compare (b ∷ blocks) [] gate other rest left good fine is =
    inr (inr (record { open_gate = first_byte other left _ (sym is ∙ block_off b blocks (gate ∷ rest)); longer = (b, blocks, refl) }))
tables_compare (b ∷ blocks) (o ∷ others) gate other rest left good fine is =
    let here = blocks_same b o _ _ (All-head IsTableBlock b blocks good) (All-head IsTableBlock o others fine)
    (sym (block_off b blocks (gate ∷ rest)) ∙ is ∙ block_off o others (other ∷ left)) in
    let more = tables_compare blocks others gate other rest left (All-tail IsTableBlock b blocks good) (All-tail IsTableBlock o others fine) here.1 in
    ⊎_elim (λ same. inl (λ i. here.0 i ∷ same i))
    (⊎_elim (λ on. inr (inl (longer_by b o blocks others gate (sym here.0) on))) (λ off. inr (inr (longer_by o b others blocks other here.0 off))))
    more

front_off : (text : List ℕ) (blocks : List TableBlock) (gate : ℕ) (rest : List ℕ) → front text blocks ++ gate ∷ rest ≡ opened (head text) ++ blocks_then blocks (gate ∷ rest)
front_off text blocks gate rest = append_assoc (opened (head text)) (flat_map (λ b. opened (block_bytes b)) blocks) (gate ∷ rest)

-- two spellings of one image
pub compared : (image text other : List ℕ) (blocks others : List TableBlock) (gate gate' : ℕ) (rest left : List ℕ) → image ≡ front text blocks ++ gate ∷ rest → image ≡ front other others ++ gate' ∷ left
    → length text ≤ 65536 → length other ≤ 65536 → All IsTableBlock blocks → All IsTableBlock others → (text ≡ other) × Compared blocks others gate gate'
compared image text other blocks others gate gate' rest left one two short brief good fine =
    let texts = texts_same text other _ _ short brief (sym (front_off text blocks gate rest) ∙ sym one ∙ two ∙ front_off other others gate' left) in
    (texts.0, tables_compare blocks others gate gate' rest left good fine texts.1)

pub once : HoldsOnce
once image text other blocks others one two =
    let both = compared image text other blocks others one.gate two.gate one.rest two.rest one.spelled two.spelled one.short two.short one.stored two.stored in
    ⊎_elim (λ same. (both.0, same)) (⊎_elim (λ on. absurd (one.closed on.open_gate)) (λ off. absurd (two.closed off.open_gate))) both.1
