-- What a torn write leaves behind a closed gate, and of the gate itself.
use Rattle.std.proofs.Common.{◌≡◌, ◌≤◌, ◌<◌, ◌+◌, ◌⊎◌, inl, inr, ℕ, List, [], ◌∷◌, ◌++◌, length, get_or, take, drop, ap, sym, subst, ◌∙◌, refl, arith, append_assoc, length-append, take-append-drop}
use Rattle.std.proofs.lemmas.List.{take_at, drop_at, drop_more, take-take, get_or-take, length-take-le}
use Rattle.std.proofs.lemmas.Bool.{cases_eq}
use Rattle.outside.specs.Disk.{overwritten}
use Rattle.outside.specs.Images.{Torn}
use Rattle.commit_disk.specs.Gate.{HasClosedGateAt, KeepsClosed, OpensGate}
use Rattle.commit_disk.proofs.Gates.{overwritten-append}

-- nothing written is a torn write too
pub torn-same : (at count : ℕ) (file : List ℕ) → Torn at count file file
torn-same at count file = record { before = refl; after = refl; no_shorter = omega arith; no_longer = omega arith }

-- with the same bytes through the gate, the closed gate is kept
through_gate : (place : ℕ) (old new : List ℕ) → HasClosedGateAt place old → take (place + 1) new ≡ take (place + 1) old → place < length new → KeepsClosed place old new
through_gate place old new closed same some =
    let byte : get_or new place 0 ≡ get_or old place 0 =
    sym (get_or-take (place + 1) new place 0 (omega arith)) ∙ ap (λ (l : List ℕ). get_or l place 0) same ∙ get_or-take (place + 1) old place 0 (omega arith) in
    record {
      gate = record { some = some; closed = λ is. closed.closed (sym byte ∙ is) };
      before = sym (take-take place (place + 1) new (omega arith)) ∙ ap (λ (l : List ℕ). take place l) same ∙ take-take place (place + 1) old (omega arith);
    }

-- the file itself keeps its gate
pub kept-same : (place : ℕ) (old new : List ℕ) → HasClosedGateAt place old → new ≡ old → KeepsClosed place old new
kept-same place old new closed is = subst (KeepsClosed place old) (sym is) (record { gate = closed; before = refl })

-- whatever part of a write behind the gate is left
pub torn_behind : (place count : ℕ) (old image : List ℕ) → HasClosedGateAt place old → Torn (place + 1) count old image → KeepsClosed place old image
torn_behind place count old image closed torn = through_gate place old image closed torn.before (omega (arith, closed.some, torn.no_shorter))

length-overwritten : (file bytes : List ℕ) (at : ℕ) → at ≤ length file → at + length bytes ≤ length (overwritten file at bytes)
length-overwritten file bytes at le =
    omega (arith, length-append (take at file ++ bytes) (drop (at + length bytes) file), length-append (take at file) bytes, length-take-le at file le)

-- a write behind the gate that was done
pub written_behind : (place : ℕ) (behind old staged : List ℕ) → HasClosedGateAt place old → staged ≡ overwritten old (place + 1) behind → KeepsClosed place old staged
written_behind place behind old staged closed is =
    let le : place + 1 ≤ length old = omega (arith, closed.some) in
    let front : length (take (place + 1) old) ≡ place + 1 = length-take-le (place + 1) old le in
    let same : take (place + 1) staged ≡ take (place + 1) old =
    ap (λ (l : List ℕ). take (place + 1) l) (is ∙ append_assoc (take (place + 1) old) behind (drop (place + 1 + length behind) old))
    ∙ take_at (take (place + 1) old) (behind ++ drop (place + 1 + length behind) old) (place + 1) front in
    through_gate place old staged closed same (omega (arith, ap length is, length-overwritten old behind (place + 1) le))

-- the gate torn, when all behind it is done: it is closed still, or it is open
pub torn_gate : (place : ℕ) (behind old staged image : List ℕ) → HasClosedGateAt place old → staged ≡ overwritten old (place + 1) behind → Torn place 1 staged image → KeepsClosed place old image ⊎ OpensGate place behind old image
torn_gate place behind old staged image closed is torn = elim (cases_eq byte 1) [
  | inl is_open ↦ inr (λ before gate rest at split.
      let left = drop (length behind) rest in
      let through : length (before ++ gate ∷ []) ≡ place + 1 = omega (arith, length-append before (gate ∷ []), at) in
      let was : staged ≡ (before ++ gate ∷ []) ++ (behind ++ left) =
      is ∙ ap (λ (l : List ℕ). overwritten l (place + 1) behind) (split ∙ sym (append_assoc before (gate ∷ []) rest))
      ∙ overwritten-append (before ++ gate ∷ []) rest behind (place + 1) through ∙ append_assoc (before ++ gate ∷ []) behind left in
      let back : drop (place + 1) image ≡ behind ++ left =
      torn.after ∙ ap (λ (l : List ℕ). drop (place + 1) l) was ∙ drop_at (before ++ gate ∷ []) (behind ++ left) (place + 1) through in
      let front : take place image ≡ before = torn.before ∙ kept.before ∙ ap (λ (l : List ℕ). take place l) split ∙ take_at before (gate ∷ rest) place at in
      sym (take-append-drop place image) ∙ ap (λ (l : List ℕ). l ++ drop place image) front
      ∙ ap (λ (l : List ℕ). before ++ l) (drop_more image place 0 some ∙ ap (λ (b : ℕ). b ∷ drop (place + 1) image) is_open ∙ ap (λ (l : List ℕ). 1 ∷ l) back)
      ∙ sym (append_assoc before (1 ∷ behind) left))
  | inr shut ↦ inl (record { gate = record { some = some; closed = shut }; before = torn.before ∙ kept.before })
]
  where
    byte : ℕ
    byte = get_or image place 0

    kept : KeepsClosed place old staged
    kept = written_behind place behind old staged closed is

    some : place < length image
    some = omega (arith, torn.no_shorter, kept.gate.some)
