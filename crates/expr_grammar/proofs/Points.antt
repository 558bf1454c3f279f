-- Digits and a point, with nothing after it.
use Rattle.std.proofs.Common.{◌≡◌, ℕ, List, [], ◌∷◌, ◌++◌, length, filter, Bool, true, false, cond, ◌&&◌, ◌⊎◌, inl, inr, nat_le, ◌==◌, refl, sym, ap, ◌∙◌, arith}
use Rattle.std.specs.List.{list_all}
use Rattle.std.proofs.lemmas.Bool.{false≢true, and_parts, and_from, le-leb, eqb-true}
use Rattle.std.proofs.lemmas.Bool.Decides.{nat_tests}
use Rattle.tuple_schema.specs.Texts.{is_digit}
use Rattle.expr_grammar.specs.Tokens.{is_number, ends_number, are_places, is_token}
use Rattle.expr_grammar.specs.Kinds.{goes_number}
use Rattle.expr_grammar.proofs.Lexical.{tokens_of, symbol_plain, digit_no_letter, not_true}

-- a number without its last point
pub record Pointed (cs : List ℕ) : Type 0 where
  pub digits : List ℕ
  pub same : cs ≡ digits ++ 46 ∷ []
  pub number : ends_number digits ≡ true
  pub filtered : filter is_digit cs ≡ filter is_digit digits

pointed_byte : (b : ℕ) (u : List ℕ) (d : Bool) → is_digit b ≡ d → (goes_number u ≡ true → (ends_number u ≡ true) ⊎ Pointed u)
    → cond d (goes_number u) ((b == 46) && list_all is_digit u && nat_le (length u) 6) ≡ true
    → (cond d (ends_number u) ((b == 46) && are_places u) ≡ true) ⊎ Pointed (b ∷ u)
pointed_byte b u true is rest h =
    elim (rest h) [
      | inl z ↦ inl z
      | inr p ↦ inr (record {
        digits = b ∷ p.digits;
        same = ap (λ v. b ∷ v) p.same;
        number = rw is p.number;
        filtered = rw is (ap (λ v. b ∷ v) p.filtered);
      })
    ]
pointed_byte b [] false is rest h = inr (record { digits = []; same = ap (λ x. x ∷ []) (eqb-true b 46 (and_parts _ _ (and_parts _ _ h).0).0); number = refl; filtered = rw is refl })
pointed_byte b (x ∷ u) false is rest h =
    let one = and_parts _ _ h in
    let two = and_parts _ _ one.0 in
    inl (and_from _ _ two.0 (and_from _ _ (and_from _ _ two.1 (le-leb 1 (length (x ∷ u)) (omega arith))) one.1))

pub pointed : (u : List ℕ) → goes_number u ≡ true → (ends_number u ≡ true) ⊎ Pointed u
pointed [] h = inl refl
pointed (b ∷ u) h = pointed_byte b u (is_digit b) refl (λ g. pointed u g) h

-- a token that begins with a digit is a number
digit_no_quote : (b : ℕ) → is_digit b ≡ true → (b == 39) ≡ false
digit_no_quote b h = grind (arith, nat_tests)

pub digit_token : (c : ℕ) (cs : List ℕ) → is_digit c ≡ true → is_token (c ∷ cs) ≡ true → is_number (c ∷ cs) ≡ true
digit_token c cs d h =
    elim (tokens_of (c ∷ cs) h) [
      | inl z ↦ absurd (false≢true (sym (digit_no_letter c d) ∙ (and_parts _ _ z).0))
      | inr (inl z) ↦ z
      | inr (inr (inl z)) ↦ absurd (false≢true (sym (digit_no_quote c d) ∙ (and_parts _ _ z).0))
      | inr (inr (inr z)) ↦ absurd (false≢true (sym (not_true (is_digit c) (and_parts _ _ (and_parts _ _ (symbol_plain (c ∷ cs) z)).0).1) ∙ d))
    ]
