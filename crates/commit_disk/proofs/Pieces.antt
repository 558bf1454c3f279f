-- Texts that are compared piece by piece.
use Rattle.std.proofs.Common.{length-drop, ◌≡◌, ◌≤◌, ◌+◌, ◌-◌, ◌++◌, ◌∙◌, ℕ, List, length, take, drop, ap, sym, arith}
use Rattle.std.proofs.lemmas.List.{drop-drop, drop-take, length-take-le, take-take}
use Rattle.std.proofs.Math.Seq.{take-add}

-- a front that is the same, and the same piece behind it, are a longer front that is the same
pub longer_same : (place done count : ℕ) (file text : List ℕ) → take done (drop place file) ≡ take done text
    → take count (drop (place + done) file) ≡ take count (drop done text)
    → take (done + count) (drop place file) ≡ take (done + count) text
longer_same place done count file text front piece =
    take-add done count (drop place file)
    ∙ ap (λ (l : List ℕ). take done (drop place file) ++ l) (ap (λ (l : List ℕ). take count l) (drop-drop done place file) ∙ piece)
    ∙ ap (λ (l : List ℕ). l ++ take count (drop done text)) front
    ∙ sym (take-add done count text)

-- the same text has the same pieces
pub piece_same : (place done count : ℕ) (file text : List ℕ) → done + count ≤ length text
    → take (length text) (drop place file) ≡ text
    → take count (drop (place + done) file) ≡ take count (drop done text)
piece_same place done count file text within same =
    let rest = length text - done in
    let split : length text ≡ done + rest = omega (arith, within) in
    let behind : drop done text ≡ take rest (drop (place + done) file) =
    ap (λ (l : List ℕ). drop done l) (sym same)
    ∙ ap (λ (n : ℕ). drop done (take n (drop place file))) split
    ∙ drop-take done rest (drop place file)
    ∙ ap (λ (l : List ℕ). take rest l) (drop-drop done place file) in
    sym (ap (λ (l : List ℕ). take count l) behind ∙ take-take count rest (drop (place + done) file) (omega (arith, within)))

-- a piece within the text has its length
pub length-piece : (done count : ℕ) (text : List ℕ) → done + count ≤ length text
    → length (take count (drop done text)) ≡ count
length-piece done count text within = length-take-le count (drop done text) (omega (arith, within, length-drop done text))

module _ (place done count : ℕ) (file is text : List ℕ) (same : is ≡ file) (within : done + count ≤ length text) where
  -- what was read of the file as it is, and what would have been read of it as it was
  read_same : take (length (take count (drop done text))) (drop (place + done) is) ≡ take count (drop (place + done) file)
  read_same = λ i. take (length-piece done count text within i) (drop (place + done) (same i))

  -- a piece that was read and is the text's makes the same front longer
  pub longer_read : take done (drop place file) ≡ take done text
      → take (length (take count (drop done text))) (drop (place + done) is) ≡ take count (drop done text)
      → take (done + count) (drop place file) ≡ take (done + count) text
  longer_read front read = longer_same place done count file text front (sym read_same ∙ read)

  -- where the texts are the same, a piece that was read is the text's
  pub piece_read : take (length text) (drop place file) ≡ text
      → take (length (take count (drop done text))) (drop (place + done) is) ≡ take count (drop done text)
  piece_read whole = read_same ∙ piece_same place done count file text within whole
