-- What writing over bytes at a place does to the image.
use Rattle.std.proofs.Common.{◌≡◌, ◌+◌, ℕ, List, [], ◌∷◌, ◌++◌, length, drop, ap, sym, ◌∙◌, arith, append_assoc, length-append}
use Rattle.std.proofs.lemmas.List.{take_at, drop_at, drop-drop}
use Rattle.outside.specs.Disk.{overwritten}
use Rattle.commit_disk.specs.Gate.{OpensGate}

pub overwritten-append : (front rest bytes : List ℕ) (at : ℕ) → length front ≡ at → overwritten (front ++ rest) at bytes ≡ front ++ bytes ++ drop (length bytes) rest
overwritten-append front rest bytes at is =
    let after : drop (at + length bytes) (front ++ rest) ≡ drop (length bytes) rest =
    sym (drop-drop (length bytes) at (front ++ rest)) ∙ ap (λ (l : List ℕ). drop (length bytes) l) (drop_at front rest at is) in
    ap (λ (l : List ℕ). l ++ bytes ++ drop (at + length bytes) (front ++ rest)) (take_at front rest at is) ∙ ap (λ (l : List ℕ). front ++ bytes ++ l) after

-- bytes written behind a gate, and then the gate as open
pub opens_gate : (place : ℕ) (behind old staged new : List ℕ) → staged ≡ overwritten old (place + 1) behind → new ≡ overwritten staged place (1 ∷ []) → OpensGate place behind old new
opens_gate place behind old staged new writes opens before gate rest at is =
    let left = drop (length behind) rest in
    let split : before ++ gate ∷ rest ≡ (before ++ gate ∷ []) ++ rest = sym (append_assoc before (gate ∷ []) rest) in
    let behind_it : length (before ++ gate ∷ []) ≡ place + 1 = omega (arith, length-append before (gate ∷ [])) in
    let first : staged ≡ before ++ gate ∷ (behind ++ left) =
    writes ∙ ap (λ (l : List ℕ). overwritten l (place + 1) behind) (is ∙ split) ∙ overwritten-append (before ++ gate ∷ []) rest behind (place + 1) behind_it
    ∙ append_assoc (before ++ gate ∷ []) behind left ∙ append_assoc before (gate ∷ []) (behind ++ left) in
    opens ∙ ap (λ (l : List ℕ). overwritten l place (1 ∷ [])) first ∙ overwritten-append before (gate ∷ (behind ++ left)) (1 ∷ []) place at
    ∙ append_assoc before (1 ∷ []) (behind ++ left) ∙ sym (append_assoc before (1 ∷ behind) left)
