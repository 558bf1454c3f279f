-- What the bytes of a head spell, and what leads on from a gate.
use Rattle.std.proofs.Common.{◌≡◌, ◌≤◌, ◌<◌, ◌+◌, ◌^◌, ℕ, List, [], ◌∷◌, ◌++◌, length, get_or, take, drop, None, codes, ap, sym, subst, ◌∙◌, refl, arith, append_assoc, length-drop, take-append-drop}
use Rattle.std.specs.Int.{w32, to_be_bytes, from_be_bytes}
use Rattle.std.proofs.lemmas.Nat.{from_be_bytes-to_be_bytes_4}
use Rattle.std.proofs.lemmas.List.{take_at, drop_at, drop_more, take_all, take_more, drop-drop, drop-take, get_or-drop, get_or-take, take-take, length-take-le}
use Rattle.std.proofs.Math.Seq.{take-add}
use Rattle.std.proofs.lemmas.List.Elements.{All-nil}
use Rattle.commit_disk.specs.declared.block_head.BlockHead.{BlockHead}
use Rattle.commit_disk.specs.declared.block_head.BlockHead.TheVariants.{Rows, End}
use Rattle.commit_disk.specs.Table.{IsTableBlock, opened, head}
use Rattle.commit_disk.specs.Attach.{LeadsTo, HasName, IsMade, TellsOf}
use Rattle.commit_disk.specs.Journal.{JournalState}
use Rattle.commit_disk.specs.BlockHeads.{kind_in, count_in, len_in, StandsIn, BlockTells}
use Rattle.commit_disk.proofs.Tables.{front-new, none_placed}

-- a kind and two numbers
abbrev pub numbers_head : ℕ → ℕ → ℕ → List ℕ
numbers_head kind count len = kind ∷ to_be_bytes w32 count ++ to_be_bytes w32 len

module _ (bytes : List ℕ) (long : length bytes ≡ 10) where
  parts : drop 1 bytes ≡ get_or bytes 1 0 ∷ take 4 (drop 2 bytes) ++ take 4 (drop 6 bytes)
  parts =
      let last : take 4 (drop 6 bytes) ≡ drop 6 bytes = take_all 4 (drop 6 bytes) (omega (arith, length-drop 6 bytes)) in
      drop_more bytes 1 0 (omega arith)
      ∙ ap (λ (l : List ℕ). get_or bytes 1 0 ∷ l) (sym (take-append-drop 4 (drop 2 bytes)) ∙ ap (λ (l : List ℕ). take 4 (drop 2 bytes) ++ l) (drop-drop 4 2 bytes ∙ sym last))

  pub spells_head : (kind count len : ℕ) → get_or bytes 1 0 ≡ kind → to_be_bytes w32 count ≡ take 4 (drop 2 bytes) → to_be_bytes w32 len ≡ take 4 (drop 6 bytes) → drop 1 bytes ≡ numbers_head kind count len
  spells_head kind count len is counts lens =
      let first = sym counts in
      let last = sym lens in
      parts ∙ (λ i. is i ∷ first i ++ last i)

  pub reads_head : (kind count len m n : ℕ) → drop 1 bytes ≡ numbers_head kind count len → count < 2 ^ 32 → len < 2 ^ 32 → m ≡ from_be_bytes w32 (take 4 (drop 2 bytes)) → n ≡ from_be_bytes w32 (take 4 (drop 6 bytes))
      → (get_or bytes 1 0 ≡ kind) × (m ≡ count) × (n ≡ len)
  reads_head kind count len m n is small short reads_m reads_n =
      let behind : drop 2 bytes ≡ to_be_bytes w32 count ++ to_be_bytes w32 len = sym (drop-drop 1 1 bytes) ∙ ap (λ (l : List ℕ). drop 1 l) is in
      let first : take 4 (drop 2 bytes) ≡ to_be_bytes w32 count = ap (λ (l : List ℕ). take 4 l) behind ∙ take_at (to_be_bytes w32 count) (to_be_bytes w32 len) 4 refl in
      let second : drop 6 bytes ≡ to_be_bytes w32 len = sym (drop-drop 4 2 bytes) ∙ ap (λ (l : List ℕ). drop 4 l) behind ∙ drop_at (to_be_bytes w32 count) (to_be_bytes w32 len) 4 refl in
      let last : take 4 (drop 6 bytes) ≡ to_be_bytes w32 len = ap (λ (l : List ℕ). take 4 l) second ∙ take_all 4 (to_be_bytes w32 len) (omega arith) in (
        sym (get_or-drop 1 bytes 0 0) ∙ ap (λ (l : List ℕ). get_or l 0 0) is,
        reads_m ∙ ap (λ (l : List ℕ). from_be_bytes w32 l) first ∙ from_be_bytes-to_be_bytes_4 count small,
        reads_n ∙ ap (λ (l : List ℕ). from_be_bytes w32 l) last ∙ from_be_bytes-to_be_bytes_4 len short,
      )

  -- the head that stands there is read
  head_read : (room m n : ℕ) (head : BlockHead) → m ≡ from_be_bytes w32 (take 4 (drop 2 bytes)) → n ≡ from_be_bytes w32 (take 4 (drop 6 bytes)) → StandsIn room (drop 1 bytes) head
      → (get_or bytes 1 0 ≡ kind_in head) × (m ≡ count_in head) × (n ≡ len_in head)
  head_read room m n (Rows count len) reads_m reads_n is = reads_head 0 count len m n is.spelled (omega (arith, is.allowed.1)) (omega (arith, is.allowed.2)) reads_m reads_n
  head_read room m n End reads_m reads_n is = reads_head 1 0 0 m n is.spelled (omega arith) (omega arith) reads_m reads_n

  -- two heads that stand there are the same
  pub heads_same : (room : ℕ) (head other : BlockHead) → StandsIn room (drop 1 bytes) head → StandsIn room (drop 1 bytes) other → head ≡ other
  heads_same room (Rows count len) (Rows count' len') one two =
      let m = from_be_bytes w32 (take 4 (drop 2 bytes)) in
      let n = from_be_bytes w32 (take 4 (drop 6 bytes)) in
      let first = head_read room m n (Rows count len) refl refl one in
      let second = head_read room m n (Rows count' len') refl refl two in
      let counts = sym first.1 ∙ second.1 in
      let lens = sym first.2 ∙ second.2 in
      λ i. Rows (counts i) (lens i)
  heads_same room (Rows count len) End one two = absurd (omega (arith, (head_read room _ _ (Rows count len) refl refl one).0, (head_read room _ _ End refl refl two).0))
  heads_same room End (Rows count len) one two = absurd (omega (arith, (head_read room _ _ End refl refl one).0, (head_read room _ _ (Rows count len) refl refl two).0))
  heads_same room End End one two = refl

  -- where these numbers may stand before no rows and no end, no block begins so
  pub no_block : (room m n : ℕ) → m ≡ from_be_bytes w32 (take 4 (drop 2 bytes)) → n ≡ from_be_bytes w32 (take 4 (drop 6 bytes))
      → (get_or bytes 1 0 ≡ 0 → 1 ≤ m → m ≤ 4096 → n < 4456640 → 11 + n ≤ room → ⊥) → (get_or bytes 1 0 ≡ 1 → m ≡ 0 → n ≡ 0 → 11 ≤ room → ⊥) → BlockTells None room (drop 1 bytes)
  no_block room m n reads_m reads_n no_rows no_end (Rows count len) is =
      let reads = head_read room m n (Rows count len) reads_m reads_n is in
      no_rows reads.0 (omega (arith, is.allowed.0, reads.1)) (omega (arith, is.allowed.1, reads.1)) (omega (arith, is.allowed.2, reads.2)) (omega (arith, is.fits, reads.2))
  no_block room m n reads_m reads_n no_rows no_end End is =
      let reads = head_read room m n End reads_m reads_n is in no_end reads.0 reads.1 reads.2 is.fits

pub opened-head : (text : List ℕ) → opened (head text) ≡ (1 ∷ codes "WHTABLE" ++ to_be_bytes w32 1) ++ to_be_bytes w32 (length text) ++ text
unfolding head
opened-head text = simp append_assoc

module _ (image bytes : List ℕ) (is : bytes ≡ take 16 image) where
  -- what stands in the head stands in the image
  pub head_part : (n k m : ℕ) → n + k ≡ 16 → m ≤ k → take m (drop n bytes) ≡ take m (drop n image)
  head_part n k m sum within =
      ap (λ (l : List ℕ). take m (drop n l)) (is ∙ ap (λ (t : ℕ). take t image) (sym sum)) ∙ ap (λ (l : List ℕ). take m l) (drop-take n k image) ∙ take-take m k (drop n image) within

  -- the name, the version and the length of a text that stands behind them lead to the first gate
  pub text_leads : (len : ℕ) → 17 + len ≤ length image → len ≤ 65536 → get_or bytes 0 0 ≡ 1 → HasName bytes → to_be_bytes w32 1 ≡ take 4 (drop 8 bytes) → to_be_bytes w32 len ≡ take 4 (drop 12 bytes)
      → (text : List ℕ) × (length text ≡ len) × LeadsTo (16 + len) image text []
  text_leads len long short gate name version number =
      let text = take len (drop 16 image) in
      let size : length text ≡ len = length-take-le len (drop 16 image) (omega (arith, length-drop 16 image)) in
      let byte : get_or image 0 0 ≡ 1 = sym (get_or-take 16 image 0 0 (omega arith)) ∙ ap (λ (l : List ℕ). get_or l 0 0) (sym is) ∙ gate in
      let first : take 1 image ≡ 1 ∷ [] = take_more image 0 0 (omega arith) ∙ ap (λ (b : ℕ). b ∷ []) byte in
      let begins : take 16 image ≡ (1 ∷ codes "WHTABLE" ++ to_be_bytes w32 1) ++ to_be_bytes w32 len =
      take-add 12 4 image
      ∙ ap (λ (l : List ℕ). l ++ take 4 (drop 12 image)) (take-add 8 4 image
      ∙ ap (λ (l : List ℕ). l ++ take 4 (drop 8 image)) (take-add 1 7 image ∙ ap (λ (l : List ℕ). l ++ take 7 (drop 1 image)) first ∙ ap (λ (l : List ℕ). 1 ∷ l) (sym (head_part 1 15 7 refl (omega arith)) ∙ name))
      ∙ ap (λ (l : List ℕ). (1 ∷ codes "WHTABLE") ++ l) (sym (version ∙ head_part 8 8 4 refl (omega arith))))
      ∙ ap (λ (l : List ℕ). (1 ∷ codes "WHTABLE" ++ to_be_bytes w32 1) ++ l) (sym (number ∙ head_part 12 4 4 refl (omega arith))) in (
        text,
        size,
        record {
          spelled = take-add 16 len image ∙ ap (λ (l : List ℕ). l ++ text) begins
              ∙ ap (λ (n : ℕ). (1 ∷ codes "WHTABLE" ++ to_be_bytes w32 1) ++ to_be_bytes w32 n ++ text) (sym size) ∙ sym (front-new text ∙ opened-head text);
          gate = omega arith;
          short = omega arith;
          stored = All-nil IsTableBlock;
          placed = none_placed;
          room = omega arith;
        },
      )

  -- of a text that stands in the head the length is read
  pub text_read : (text : List ℕ) (n : ℕ) → LeadsTo (16 + length text) image text [] → n ≡ from_be_bytes w32 (take 4 (drop 12 bytes)) → n ≡ length text
  text_read text n leads reads =
      let begins : bytes ≡ (1 ∷ codes "WHTABLE" ++ to_be_bytes w32 1) ++ to_be_bytes w32 (length text) =
      is ∙ sym (take-take 16 (16 + length text) image (omega arith)) ∙ ap (λ (l : List ℕ). take 16 l) (leads.spelled ∙ front-new text ∙ opened-head text)
      ∙ take_at ((1 ∷ codes "WHTABLE" ++ to_be_bytes w32 1) ++ to_be_bytes w32 (length text)) text 16 refl in
      reads ∙ ap (λ (l : List ℕ). from_be_bytes w32 (take 4 (drop 12 l))) begins ∙ from_be_bytes-to_be_bytes_4 (length text) (omega (arith, leads.short))

  pub is_made : 17 ≤ length image → get_or bytes 0 0 ≡ 1 → IsMade image
  is_made long gate = record { long = long; gate = sym (get_or-take 16 image 0 0 (omega arith)) ∙ ap (λ (l : List ℕ). get_or l 0 0) (sym is) ∙ gate }

-- the text that stands in the head
pub stored_text : (image text : List ℕ) (len : ℕ) → length text ≡ len → LeadsTo (16 + len) image text [] → take len (drop 16 image) ≡ text
stored_text image text len size leads =
    sym (drop-take 16 len image) ∙ ap (λ (l : List ℕ). drop 16 l) (leads.spelled ∙ front-new text ∙ opened-head text)
    ∙ drop_at ((1 ∷ codes "WHTABLE" ++ to_be_bytes w32 1) ++ to_be_bytes w32 (length text)) text 16 refl

-- what the gates tell of a file that was read on is told of the file, and of the text in its head
pub table_told : (file one two : List ℕ) (len : ℕ) (journal : JournalState) → one ≡ file → two ≡ file → (head : (text : List ℕ) × (length text ≡ len) × LeadsTo (16 + len) file text [])
    → ((text : List ℕ) → 16 + len ≡ 16 + length text → LeadsTo (16 + len) one text [] → TellsOf journal one text)
    → TellsOf journal file head.0 × (16 + len ≤ length two) × (take len (drop 16 two) ≡ head.0)
table_told file one two len journal same still head tells = (
  subst (λ (f : List ℕ). TellsOf journal f head.0) same (tells head.0 (ap (λ (n : ℕ). 16 + n) (sym head.1)) (subst (λ (f : List ℕ). LeadsTo (16 + len) f head.0 []) (sym same) head.2)),
  omega (arith, head.2.gate, ap length still),
  ap (λ (f : List ℕ). take len (drop 16 f)) still ∙ stored_text file head.0 len head.1 head.2,
)
