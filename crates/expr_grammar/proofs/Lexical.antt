-- Tokens by their bytes: with which byte one goes on, and which can stand in a state.
use Rattle.std.proofs.Common.{◌≡◌, ℕ, ◌+◌, ◌≤◌, List, [], ◌∷◌, ◌++◌, length, bytes_eq, Bool, true, false, cond, not, ◌&&◌, ◌⊎◌, inl, inr, nat_le, ◌==◌, refl, sym, ap, subst, ◌∙◌, append_assoc, append-nil, length-append, eq-eqb, arith}
use Rattle.std.specs.List.{list_all, list_any}
use Rattle.std.proofs.lemmas.Bool.{false≢true, and_parts, and_from, and_left, and_right, or_cases, or_left, or_right, eqb-true, le-leb, leb-true, false_from_ne_true}
use Rattle.std.proofs.lemmas.Bool.Decides.{nat_tests}
use Rattle.std.proofs.lemmas.List.Folds.{list_all-append}
use Rattle.std.proofs.lemmas.Slice.Eq.{bytes_eq-Decides}
use Rattle.tuple_schema.specs.Texts.{is_lower, is_digit, is_name_byte, is_among}
use Rattle.expr_grammar.specs.Tokens.{is_word, is_number, ends_number, are_places, is_text, ends_text, symbols, is_token, is_front, IsLongest, AreSpaces, Reads}
use Rattle.expr_grammar.specs.Kinds.{continues, goes_number, begins_number, goes_text, begins_text}

same_bytes : (w v : List ℕ) → bytes_eq w v ≡ true → w ≡ v
same_bytes w v h = (bytes_eq-Decides w v).0 h

bytes_same : (w v : List ℕ) → w ≡ v → bytes_eq w v ≡ true
bytes_same w v h = (bytes_eq-Decides w v).1 h

-- first bytes

pub digit_no_letter : (b : ℕ) → is_digit b ≡ true → is_lower b ≡ false
digit_no_letter b h = grind (arith, nat_tests)

quote_plain : (b : ℕ) → (b == 39) ≡ true → (is_lower b ≡ false) × (is_digit b ≡ false)
quote_plain b h = (grind (arith, nat_tests), grind (arith, nat_tests))

-- a token begins neither as a word nor as a number nor as a text
abbrev is_plain : List ℕ → Bool
is_plain [] = false
is_plain (b ∷ bs) = not (is_lower b) && not (is_digit b) && not (b == 39)

abbrev is_short : List ℕ → Bool
is_short w = nat_le (length w) 2

pub among_all : (p : List ℕ → Bool) (vs : List (List ℕ)) (w : List ℕ) → list_all p vs ≡ true → is_among vs w ≡ true → p w ≡ true
among_all p [] w h a = absurd (false≢true a)
among_all p (v ∷ vs) w h a =
    let parts = and_parts (p v) _ h in
    elim (or_cases _ _ a) [ inl same ↦ ap p (same_bytes w v same) ∙ parts.0 | inr rest ↦ among_all p vs w parts.1 rest ]

pub symbol_plain : (w : List ℕ) → is_among symbols w ≡ true → is_plain w ≡ true
symbol_plain w h = among_all is_plain symbols w refl h

symbol_short : (w : List ℕ) → is_among symbols w ≡ true → is_short w ≡ true
symbol_short w h = among_all is_short symbols w refl h

-- what a token is

abbrev Tokens : List ℕ → Type 0
Tokens w = (is_word w ≡ true) ⊎ ((is_number w ≡ true) ⊎ ((is_text w ≡ true) ⊎ (is_among symbols w ≡ true)))

pub tokens_of : (w : List ℕ) → is_token w ≡ true → Tokens w
tokens_of w h =
    elim (or_cases _ _ h) [
      | inr z ↦ inr (inr (inr z))
      | inl h3 ↦ elim (or_cases _ _ h3) [
        | inr z ↦ inr (inr (inl z))
        | inl h2 ↦ elim (or_cases _ _ h2) [ inr z ↦ inr (inl z) | inl z ↦ inl z ]
      ]
    ]

pub token_word : (w : List ℕ) → is_word w ≡ true → is_token w ≡ true
token_word w h = or_left _ _ (or_left _ _ (or_left _ _ h))

pub token_number : (w : List ℕ) → is_number w ≡ true → is_token w ≡ true
token_number w h = or_left _ _ (or_left _ _ (or_right _ _ h))

pub token_text : (w : List ℕ) → is_text w ≡ true → is_token w ≡ true
token_text w h = or_left _ _ (or_right _ _ h)

pub token_symbol : (w : List ℕ) → is_among symbols w ≡ true → is_token w ≡ true
token_symbol w h = or_right _ _ h

-- fronts

pub front_append : (u v : List ℕ) → is_front u (u ++ v) ≡ true
front_append [] v = refl
front_append (x ∷ u) v = and_from _ _ (eq-eqb x x refl) (front_append u v)

pub rest_of_front : (u w : List ℕ) → is_front u w ≡ true → (v : List ℕ) × (w ≡ u ++ v)
rest_of_front [] w h = (w, refl)
rest_of_front (x ∷ u) [] h = absurd (false≢true h)
rest_of_front (x ∷ u) (y ∷ w) h =
    let parts = and_parts (x == y) _ h in
    let rest = rest_of_front u w parts.1 in
    (rest.0, let first : x ≡ y = eqb-true x y parts.0 in ap (λ z. z ∷ w) (sym first) ∙ ap (λ z. x ∷ z) rest.1)

front_places : (u v : List ℕ) → are_places (u ++ v) ≡ true → (list_all is_digit u && nat_le (length u) 6) ≡ true
front_places u v h =
    let both = and_parts _ _ h in
    let one = and_parts _ _ both.0 in
    let size : length (u ++ v) ≤ 6 = leb-true _ _ both.1 in
    and_from _ _ (and_parts _ _ (sym (list_all-append is_digit u v) ∙ one.0)).0 (le-leb (length u) 6 (omega (arith, size, length-append u v)))

-- rest is the law for the bytes after the first
front_number_byte : (b : ℕ) (u v : List ℕ) (d : Bool) → is_digit b ≡ d → (ends_number (u ++ v) ≡ true → goes_number u ≡ true)
    → cond d (ends_number (u ++ v)) ((b == 46) && are_places (u ++ v)) ≡ true
    → cond d (goes_number u) ((b == 46) && list_all is_digit u && nat_le (length u) 6) ≡ true
front_number_byte b u v true is rest h = rest h
front_number_byte b u v false is rest h =
    let parts = and_parts (b == 46) _ h in
    let places = and_parts _ _ (front_places u v parts.1) in
    and_from _ _ (and_from _ _ parts.0 places.0) places.1

pub front_number : (u v : List ℕ) → ends_number (u ++ v) ≡ true → goes_number u ≡ true
front_number [] v h = refl
front_number (b ∷ u) v h = front_number_byte b u v (is_digit b) refl (λ r. front_number u v r) h

pub front_text : (o : Bool) (u v : List ℕ) → ends_text o (u ++ v) ≡ true → goes_text o u ≡ true
front_text true [] v h = refl
front_text false [] v h = refl
front_text true (b ∷ u) v h = front_text (not (b == 39)) u v h
front_text false (b ∷ u) v h = let parts = and_parts (b == 39) _ h in and_from _ _ parts.0 (front_text true u v parts.1)

front_symbol : (u v : List ℕ) (vs : List (List ℕ)) → is_among vs (u ++ v) ≡ true → list_any (is_front u) vs ≡ true
front_symbol u v [] h = absurd (false≢true h)
front_symbol u v (s ∷ vs) h =
    elim (or_cases _ _ h) [
      | inl same ↦ or_left _ _ (ap (is_front u) (sym (same_bytes (u ++ v) s same)) ∙ front_append u v)
      | inr rest ↦ or_right _ _ (front_symbol u v vs rest)
    ]

-- a byte inside a token is one with which its front goes on

continues_word : (c b : ℕ) (cs : List ℕ) → is_lower c ≡ true → is_name_byte b ≡ true → continues (c ∷ cs) b ≡ true
continues_word c b cs l h = rw l h

continues_number : (c b : ℕ) (cs : List ℕ) → is_digit c ≡ true → begins_number ((c ∷ cs) ++ b ∷ []) ≡ true → continues (c ∷ cs) b ≡ true
continues_number c b cs d h = let l = digit_no_letter c d in rw (l, d) (and_parts _ _ h).1

continues_text : (c b : ℕ) (cs : List ℕ) → (c == 39) ≡ true → begins_text ((c ∷ cs) ++ b ∷ []) ≡ true → continues (c ∷ cs) b ≡ true
continues_text c b cs q h = let p = quote_plain c q in let l = p.0 in let d = p.1 in rw (l, d, q) (and_parts _ _ h).1

pub not_true : (b : Bool) → not b ≡ true → b ≡ false
not_true true h = absurd (false≢true h)
not_true false h = refl

continues_symbol : (c b : ℕ) (cs : List ℕ) → is_plain (c ∷ cs) ≡ true → list_any (is_front ((c ∷ cs) ++ b ∷ [])) symbols ≡ true → continues (c ∷ cs) b ≡ true
continues_symbol c b cs p h =
    let both = and_parts _ _ p in
    let one = and_parts _ _ both.0 in
    let l = not_true (is_lower c) one.0 in
    let d = not_true (is_digit c) one.1 in
    let q = not_true (c == 39) both.1 in
    rw (l, d, q) h

regroup : (u v : List ℕ) (b : ℕ) → u ++ b ∷ v ≡ (u ++ b ∷ []) ++ v
regroup u v b = sym (append_assoc u (b ∷ []) v)

pub inside_continues : (c b : ℕ) (cs v : List ℕ) → is_token ((c ∷ cs) ++ b ∷ v) ≡ true → continues (c ∷ cs) b ≡ true
inside_continues c b cs v h =
    elim (tokens_of ((c ∷ cs) ++ b ∷ v) h) [
      | inl z ↦ (let parts = and_parts (is_lower c) _ z in
          let bytes : (list_all is_name_byte cs && list_all is_name_byte (b ∷ v)) ≡ true = sym (list_all-append is_name_byte cs (b ∷ v)) ∙ parts.1 in
          continues_word c b cs parts.0 (and_parts _ _ (and_parts _ _ bytes).1).0)
      | inr (inl z) ↦ (let parts = and_parts (is_digit c) _ z in
          continues_number c b cs parts.0 (and_from _ _ parts.0 (front_number (cs ++ b ∷ []) v (ap ends_number (sym (regroup cs v b)) ∙ parts.1))))
      | inr (inr (inl z)) ↦ (let parts = and_parts (c == 39) _ z in
          continues_text c b cs parts.0 (and_from _ _ parts.0 (front_text true (cs ++ b ∷ []) v (ap (ends_text true) (sym (regroup cs v b)) ∙ parts.1))))
      | inr (inr (inr z)) ↦ continues_symbol c b cs (symbol_plain ((c ∷ cs) ++ b ∷ v) z)
          (front_symbol ((c ∷ cs) ++ b ∷ []) v symbols (ap (is_among symbols) (sym (regroup (c ∷ cs) v b)) ∙ z))
    ]

-- what follows a token in a text: nothing, a space, or a token

abbrev pub Tidy : List ℕ → Type 0
Tidy after = (after ≡ []) ⊎ (((bs : List ℕ) × (after ≡ 32 ∷ bs)) ⊎ ((t rest : List ℕ) × (is_token t ≡ true) × (after ≡ t ++ rest)))

abbrev pub Stops : List ℕ → List ℕ → Type 0
Stops w [] = Unit {0}
Stops w (b ∷ bs) = continues w b ≡ false

-- no token goes on with a space, but for a text that isn't closed

no_space_word : (c : ℕ) (cs : List ℕ) → is_lower c ≡ true → continues (c ∷ cs) 32 ≡ false
no_space_word c cs l = rw l refl

goes_space_byte : (b : ℕ) (u : List ℕ) (d : Bool) → is_digit b ≡ d → goes_number (u ++ 32 ∷ []) ≡ false
    → cond d (goes_number (u ++ 32 ∷ [])) ((b == 46) && list_all is_digit (u ++ 32 ∷ []) && nat_le (length (u ++ 32 ∷ [])) 6) ≡ false
goes_space_byte b u true is h = h
goes_space_byte b u false is h =
    let none : list_all is_digit (u ++ 32 ∷ []) ≡ false = list_all-append is_digit u (32 ∷ []) ∙ and_right _ _ refl in
    and_left _ _ (and_right _ _ none)

goes_space : (u : List ℕ) → goes_number (u ++ 32 ∷ []) ≡ false
goes_space [] = refl
goes_space (b ∷ u) = goes_space_byte b u (is_digit b) refl (goes_space u)

no_space_number : (c : ℕ) (cs : List ℕ) → is_digit c ≡ true → continues (c ∷ cs) 32 ≡ false
no_space_number c cs d = let l = digit_no_letter c d in rw (l, d) (goes_space cs)

closed_space : (o : Bool) (u : List ℕ) → ends_text o u ≡ true → goes_text o (u ++ 32 ∷ []) ≡ false
closed_space true [] h = absurd (false≢true h)
closed_space false [] h = refl
closed_space true (b ∷ u) h = closed_space (not (b == 39)) u h
closed_space false (b ∷ u) h = let parts = and_parts (b == 39) _ h in let q = parts.0 in rw q (closed_space true u parts.1)

no_space_text : (c : ℕ) (cs : List ℕ) → is_text (c ∷ cs) ≡ true → continues (c ∷ cs) 32 ≡ false
no_space_text c cs h =
    let parts = and_parts (c == 39) _ h in
    let p = quote_plain c parts.0 in
    let l = p.0 in let d = p.1 in let q = parts.0 in
    rw (l, d, q) (closed_space true cs parts.1)

-- two texts in a row are one
joined_texts : (o : Bool) (u v : List ℕ) → ends_text o u ≡ true → ends_text true v ≡ true → ends_text o (u ++ 39 ∷ v) ≡ true
joined_texts true [] v h g = absurd (false≢true h)
joined_texts false [] v h g = g
joined_texts true (b ∷ u) v h g = joined_texts (not (b == 39)) u v h g
joined_texts false (b ∷ u) v h g = let parts = and_parts (b == 39) _ h in and_from _ _ parts.0 (joined_texts true u v parts.1 g)

-- a symbol with a byte with which it goes on is a symbol
none_more : (w : List ℕ) (b : ℕ) (rest : List ℕ) → length rest ≡ 0 → (w ++ b ∷ []) ++ rest ≡ w ++ b ∷ []
none_more w b [] h = append-nil (w ++ b ∷ [])
none_more w b (x ∷ xs) h = absurd (omega (arith, h))

pub grown_symbol : (c b : ℕ) (cs : List ℕ) (vs : List (List ℕ)) → list_all is_short vs ≡ true → list_any (is_front ((c ∷ cs) ++ b ∷ [])) vs ≡ true → is_among vs ((c ∷ cs) ++ b ∷ []) ≡ true
grown_symbol c b cs [] short h = absurd (false≢true h)
grown_symbol c b cs (v ∷ vs) short h =
    let parts = and_parts (is_short v) _ short in
    elim (or_cases _ _ h) [
      | inl front ↦ (let rest = rest_of_front ((c ∷ cs) ++ b ∷ []) v front in
          let size : length v ≤ 2 = leb-true _ _ parts.0 in
          let sizes : length v ≡ length (c ∷ cs) + 1 + length rest.0 = ap length rest.1 ∙ simp length-append in
          or_left _ _ (bytes_same ((c ∷ cs) ++ b ∷ []) v (sym (rest.1 ∙ none_more (c ∷ cs) b rest.0 (omega (arith, size, sizes))))))
      | inr others ↦ or_right _ _ (grown_symbol c b cs vs parts.1 others)
    ]

snoc_all : (p : ℕ → Bool) (cs : List ℕ) (b : ℕ) → list_all p cs ≡ true → p b ≡ true → list_all p (cs ++ b ∷ []) ≡ true
snoc_all p cs b h q = list_all-append p cs (b ∷ []) ∙ and_from _ _ h (and_from _ _ q refl)

-- a word with a byte with which it goes on is a word
pub grown_word : (c b : ℕ) (cs : List ℕ) → is_word (c ∷ cs) ≡ true → continues (c ∷ cs) b ≡ true → is_token ((c ∷ cs) ++ b ∷ []) ≡ true
grown_word c b cs h goes =
    let parts = and_parts (is_lower c) _ h in
    let byte : is_name_byte b ≡ true = let z = parts.0 in rw z at goes in
    token_word ((c ∷ cs) ++ b ∷ []) (and_from _ _ parts.0 (snoc_all is_name_byte cs b parts.1 byte))

-- a number goes on as a number, or with a point
one_byte : (b : ℕ) (d : Bool) → is_digit b ≡ d → cond d true ((b == 46) && true && true) ≡ true → (cond d true ((b == 46) && false) ≡ true) ⊎ (b ≡ 46)
one_byte b true is h = inl refl
one_byte b false is h = inr (eqb-true b 46 (and_parts _ _ (and_parts _ _ h).0).0)

number_byte : (x b : ℕ) (xs : List ℕ) (d : Bool) → is_digit x ≡ d
    → (ends_number xs ≡ true → goes_number (xs ++ b ∷ []) ≡ true → (ends_number (xs ++ b ∷ []) ≡ true) ⊎ (b ≡ 46))
    → cond d (ends_number xs) ((x == 46) && are_places xs) ≡ true
    → cond d (goes_number (xs ++ b ∷ [])) ((x == 46) && list_all is_digit (xs ++ b ∷ []) && nat_le (length (xs ++ b ∷ [])) 6) ≡ true
    → (cond d (ends_number (xs ++ b ∷ [])) ((x == 46) && are_places (xs ++ b ∷ [])) ≡ true) ⊎ (b ≡ 46)
number_byte x b xs true is rest h goes = rest h goes
number_byte x b xs false is rest h goes =
    let one = and_parts _ _ goes in
    let two = and_parts _ _ one.0 in
    inl (and_from _ _ two.0 (and_from _ _ (and_from _ _ two.1 (le-leb 1 (length (xs ++ b ∷ [])) (omega (arith, length-append xs (b ∷ []))))) one.1))

pub number_grows : (cs : List ℕ) (b : ℕ) → ends_number cs ≡ true → goes_number (cs ++ b ∷ []) ≡ true → (ends_number (cs ++ b ∷ []) ≡ true) ⊎ (b ≡ 46)
number_grows [] b h goes = one_byte b (is_digit b) refl goes
number_grows (x ∷ xs) b h goes = number_byte x b xs (is_digit x) refl (λ e g. number_grows xs b e g) h goes

-- a closed text goes on with a quote
pub text_grows : (o : Bool) (cs : List ℕ) (b : ℕ) → ends_text o cs ≡ true → goes_text o (cs ++ b ∷ []) ≡ true → (b == 39) ≡ true
text_grows true [] b h goes = absurd (false≢true h)
text_grows false [] b h goes = (and_parts (b == 39) _ goes).0
text_grows true (x ∷ xs) b h goes = text_grows (not (x == 39)) xs b h goes
text_grows false (x ∷ xs) b h goes = text_grows true xs b (and_parts (x == 39) _ h).1 (and_parts (x == 39) _ goes).1

point_no_token : (t : List ℕ) → is_token (46 ∷ t) ≡ false
point_no_token t = refl

quote_text : (t : List ℕ) → is_token (39 ∷ t) ≡ true → ends_text true t ≡ true
quote_text t h =
    elim (tokens_of (39 ∷ t) h) [
      | inl z ↦ absurd (false≢true z)
      | inr (inl z) ↦ absurd (false≢true z)
      | inr (inr (inl z)) ↦ z
      | inr (inr (inr z)) ↦ absurd (false≢true (symbol_plain (39 ∷ t) z))
    ]

pub digit_of : (c b : ℕ) (cs : List ℕ) → is_digit c ≡ true → continues (c ∷ cs) b ≡ true → goes_number (cs ++ b ∷ []) ≡ true
digit_of c b cs d goes = let l = digit_no_letter c d in rw (l, d) at goes

pub quote_of : (c b : ℕ) (cs : List ℕ) → (c == 39) ≡ true → continues (c ∷ cs) b ≡ true → goes_text true (cs ++ b ∷ []) ≡ true
quote_of c b cs q goes = let p = quote_plain c q in let l = p.0 in let d = p.1 in rw (l, d, q) at goes

pub symbol_of : (c b : ℕ) (cs : List ℕ) → is_plain (c ∷ cs) ≡ true → continues (c ∷ cs) b ≡ true → list_any (is_front ((c ∷ cs) ++ b ∷ [])) symbols ≡ true
symbol_of c b cs p goes =
    let both = and_parts _ _ p in
    let one = and_parts _ _ both.0 in
    let l = not_true (is_lower c) one.0 in
    let d = not_true (is_digit c) one.1 in
    let q = not_true (c == 39) both.1 in
    rw (l, d, q) at goes

-- what would be longer isn't there
pub not_longer : (w after v rest : List ℕ) (b : ℕ) → IsLongest w after → after ≡ (b ∷ v) ++ rest → is_token (w ++ b ∷ v) ≡ true → ⊥
not_longer w after v rest b longest same token = let none : b ∷ v ≡ [] = longest (b ∷ v) rest same token in cc

-- with what follows it, a token doesn't go on
no_more : (c b : ℕ) (cs t rest after : List ℕ) → is_token (c ∷ cs) ≡ true → IsLongest (c ∷ cs) after → is_token (b ∷ t) ≡ true → after ≡ (b ∷ t) ++ rest
    → continues (c ∷ cs) b ≡ true → ⊥
no_more c b cs t rest after token longest next same goes =
    elim (tokens_of (c ∷ cs) token) [
      | inl z ↦ not_longer (c ∷ cs) after [] (t ++ rest) b longest same (grown_word c b cs z goes)
      | inr (inl z) ↦ (let parts = and_parts (is_digit c) _ z in
          elim (number_grows cs b parts.1 (digit_of c b cs parts.0 goes)) [
            | inl number ↦ not_longer (c ∷ cs) after [] (t ++ rest) b longest same (token_number ((c ∷ cs) ++ b ∷ []) (and_from _ _ parts.0 number))
            | inr point ↦ false≢true (sym (point_no_token t) ∙ ap (λ x. is_token (x ∷ t)) (sym point) ∙ next)
          ])
      | inr (inr (inl z)) ↦ (let parts = and_parts (c == 39) _ z in
          let quote = eqb-true b 39 (text_grows true cs b parts.1 (quote_of c b cs parts.0 goes)) in
          let text = quote_text t (ap (λ x. is_token (x ∷ t)) (sym quote) ∙ next) in
          not_longer (c ∷ cs) after t rest b longest same (ap (λ x. is_token ((c ∷ cs) ++ x ∷ t)) quote ∙ token_text ((c ∷ cs) ++ 39 ∷ t) (and_from _ _ parts.0 (joined_texts true cs t parts.1 text))))
      | inr (inr (inr z)) ↦ not_longer (c ∷ cs) after [] (t ++ rest) b longest same
          (token_symbol ((c ∷ cs) ++ b ∷ []) (grown_symbol c b cs symbols refl (symbol_of c b cs (symbol_plain (c ∷ cs) z) goes)))
    ]

abbrev has_no_space : List ℕ → Bool
has_no_space w = list_all (λ b. not (b == 32)) w

symbol_no_space : (c : ℕ) (cs : List ℕ) → is_among symbols (c ∷ cs) ≡ true → continues (c ∷ cs) 32 ≡ true → ⊥
symbol_no_space c cs z goes =
    let grown = grown_symbol c 32 cs symbols refl (symbol_of c 32 cs (symbol_plain (c ∷ cs) z) goes) in
    let none : has_no_space ((c ∷ cs) ++ 32 ∷ []) ≡ true = among_all has_no_space symbols ((c ∷ cs) ++ 32 ∷ []) refl grown in
    let last : has_no_space ((c ∷ cs) ++ 32 ∷ []) ≡ false = list_all-append (λ b. not (b == 32)) (c ∷ cs) (32 ∷ []) ∙ and_right _ _ refl in
    false≢true (sym last ∙ none)

pub no_space : (c : ℕ) (cs : List ℕ) → is_token (c ∷ cs) ≡ true → continues (c ∷ cs) 32 ≡ false
no_space c cs token =
    elim (tokens_of (c ∷ cs) token) [
      | inl z ↦ no_space_word c cs (and_parts _ _ z).0
      | inr (inl z) ↦ no_space_number c cs (and_parts _ _ z).0
      | inr (inr (inl z)) ↦ no_space_text c cs z
      | inr (inr (inr z)) ↦ false_from_ne_true (continues (c ∷ cs) 32) (symbol_no_space c cs z)
    ]

stops_at : (w after other : List ℕ) → after ≡ other → Stops w other → Stops w after
stops_at w after other same h = subst (Stops w) (sym same) h

stops_token : (c : ℕ) (cs after t rest : List ℕ) → is_token (c ∷ cs) ≡ true → IsLongest (c ∷ cs) after → is_token t ≡ true → after ≡ t ++ rest → Stops (c ∷ cs) after
stops_token c cs after [] rest token longest next same = absurd (false≢true next)
stops_token c cs after (b ∷ t) rest token longest next same =
    stops_at (c ∷ cs) after (b ∷ (t ++ rest)) same (false_from_ne_true (continues (c ∷ cs) b) (no_more c b cs t rest after token longest next same))

pub stops_tidy : (c : ℕ) (cs after : List ℕ) → is_token (c ∷ cs) ≡ true → IsLongest (c ∷ cs) after → Tidy after → Stops (c ∷ cs) after
stops_tidy c cs after token longest (inl none) = stops_at (c ∷ cs) after [] none tt
stops_tidy c cs after token longest (inr (inl space)) = stops_at (c ∷ cs) after (32 ∷ space.0) space.1 (no_space c cs token)
stops_tidy c cs after token longest (inr (inr next)) = stops_token c cs after next.0 next.1 token longest next.2 next.3

stops_first : (w : List ℕ) (b : ℕ) (a rest : List ℕ) → Stops w a → a ≡ b ∷ rest → continues w b ≡ false
stops_first w b [] rest h same = absurd cc
stops_first w b (x ∷ xs) rest h same = let first : b ≡ x = cc in ap (continues w) first ∙ h

pub longest_from_stops : (c : ℕ) (cs a : List ℕ) → Stops (c ∷ cs) a → IsLongest (c ∷ cs) a
longest_from_stops c cs a h [] rest same token = refl
longest_from_stops c cs a h (b ∷ v) rest same token =
    absurd (false≢true (sym (stops_first (c ∷ cs) b a (v ++ rest) h same) ∙ inside_continues c b cs v token))

-- what is read is tidy

pub tidy_spaces : (spaces : List ℕ) → AreSpaces spaces → Tidy spaces
tidy_spaces [] h = inl refl
tidy_spaces (b ∷ bs) h = inr (inl (bs, ap (λ x. x ∷ bs) (eqb-true b 32 (and_parts _ _ h).0)))

pub tidy_word : (spaces w after : List ℕ) → AreSpaces spaces → is_token w ≡ true → Tidy (spaces ++ w ++ after)
tidy_word [] w after h token = inr (inr (w, after, token, refl))
tidy_word (b ∷ bs) w after h token = inr (inl (bs ++ w ++ after, ap (λ x. x ∷ (bs ++ w ++ after)) (eqb-true b 32 (and_parts _ _ h).0)))

pub tidy_reads : (ws : List (List ℕ)) (text rest : List ℕ) → Reads ws text rest → Tidy rest → Tidy text
tidy_reads [] text rest h tidy = subst Tidy (sym h) tidy
tidy_reads (w ∷ ws) text rest h tidy = subst Tidy (sym h.3) (tidy_word h.0 w h.1 h.2 h.4)
