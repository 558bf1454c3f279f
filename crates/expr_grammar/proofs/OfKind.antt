-- What a kind says of a token.
use Rattle.std.proofs.Common.{◌≡◌, ℕ, List, [], ◌∷◌, bytes_eq, Bool, true, false, cond, refl}
use Rattle.std.proofs.lemmas.Slice.Eq.{bytes_eq-Decides}
use Rattle.expr_grammar.specs.Kinds.{is_plain_name}
use Rattle.expr_grammar.specs.Tokens.{is_number, is_text}
use Rattle.expr_grammar.specs.Kinds.{kind_of, kind_among, fixed, spelling}
use Rattle.expr_grammar.specs.declared.state.Kind.{Kind}
use Rattle.expr_grammar.specs.declared.state.Kind.TheVariants as kind
use Rattle.expr_grammar.proofs.Complete.{IsPlain}

abbrev pub IsFixed : Kind → Type 0
IsFixed kind.Number = ⊥
IsFixed kind.Text = ⊥
IsFixed kind.Name = ⊥
IsFixed kind.Other = ⊥
IsFixed _ = Unit {0}

abbrev pub IsOfKind : Kind → List ℕ → Type 0
IsOfKind kind.Number w = is_number w ≡ true
IsOfKind kind.Text w = (is_text w ≡ true) × (is_number w ≡ false)
IsOfKind kind.Name w = (is_plain_name w ≡ true) × IsPlain w
IsOfKind kind.Other w = Unit {0}
IsOfKind k w = w ≡ spelling k

of_fixed : (k : Kind) (w : List ℕ) → IsFixed k → w ≡ spelling k → IsOfKind k w
of_fixed (kind.Infix o) w h same = same
of_fixed kind.Is w h same = same
of_fixed kind.Not w h same = same
of_fixed kind.Null w h same = same
of_fixed (kind.Call g) w h same = same
of_fixed kind.Open w h same = same
of_fixed kind.Close w h same = same
of_fixed kind.Comma w h same = same
of_fixed kind.Number w h same = absurd h
of_fixed kind.Text w h same = absurd h
of_fixed kind.Name w h same = absurd h
of_fixed kind.Other w h same = absurd h

abbrev AreFixed : List Kind → Type 0
AreFixed [] = Unit {0}
AreFixed (k ∷ ks) = IsFixed k × AreFixed ks

chosen_among : (k : Kind) (ks : List Kind) (w : List ℕ) (b : Bool) → bytes_eq w (spelling k) ≡ b → IsFixed k
    → IsOfKind (kind_among ks w) w → IsOfKind (cond b k (kind_among ks w)) w
chosen_among k ks w true same h rest = of_fixed k w h ((bytes_eq-Decides w (spelling k)).0 same)
chosen_among k ks w false same h rest = rest

of_kind_among : (ks : List Kind) (w : List ℕ) → AreFixed ks → IsOfKind (kind_among ks w) w
of_kind_among [] w h = tt
of_kind_among (k ∷ ks) w h = chosen_among k ks w (bytes_eq w (spelling k)) refl h.0 (of_kind_among ks w h.1)

chosen_name : (w : List ℕ) (b : Bool) → is_plain_name w ≡ b → IsPlain w → IsOfKind (cond b kind.Name (kind_among fixed w)) w
chosen_name w true same n = (same, n)
chosen_name w false same n = of_kind_among fixed w (tt, (tt, (tt, (tt, (tt, (tt, (tt, (tt, (tt, (tt, (tt, (tt, (tt, (tt, (tt, (tt, (tt, (tt, (tt, (tt, (tt, (tt, (tt, (tt, tt))))))))))))))))))))))))

chosen_text : (w : List ℕ) (b : Bool) → is_text w ≡ b → is_number w ≡ false → IsOfKind (cond b kind.Text (cond (is_plain_name w) kind.Name (kind_among fixed w))) w
chosen_text w true same n = (same, n)
chosen_text w false same n = chosen_name w (is_plain_name w) refl (n, same)

chosen_number : (w : List ℕ) (b : Bool) → is_number w ≡ b → IsOfKind (cond b kind.Number (cond (is_text w) kind.Text (cond (is_plain_name w) kind.Name (kind_among fixed w)))) w
chosen_number w true same = same
chosen_number w false same = chosen_text w (is_text w) refl same

pub of_kind : (w : List ℕ) → IsOfKind (kind_of w) w
of_kind w = chosen_number w (is_number w) refl
