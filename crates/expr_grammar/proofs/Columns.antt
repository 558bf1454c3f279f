-- A column is a word of at most 40 bytes that isn't reserved.
use Rattle.std.proofs.Common.{◌≡◌, ℕ, List, [], ◌∷◌, length, codes, Bool, true, false, not, nat_le, nat_lt, ◌||◌, ◌&&◌, refl, sym, ◌∙◌, arith}
use Rattle.std.proofs.lemmas.Bool.{false≢true, lt-ltb, and_parts, and_from, or_left, or_from, or_parts, not_from_false}
use Rattle.std.proofs.lemmas.List.Folds.{list_any-append}
use Rattle.std.specs.Prelude.{bytes_eq}
use Rattle.std.specs.List.{list_all}
use Rattle.tuple_schema.specs.Texts.{is_lower, is_name_byte, is_name, is_among}
use Rattle.expr_grammar.specs.Tokens.{is_word, words, is_column}
use Rattle.expr_grammar.specs.Kinds.{reserved, is_plain_name}

pub not_true : (b : Bool) → not b ≡ true → b ≡ false
not_true true h = sym h
not_true false h = refl

name_byte : (b : ℕ) → is_lower b ≡ true → is_name_byte b ≡ true
name_byte b h = or_left _ _ (or_left _ _ h)

abbrev two : List (List ℕ)
two = codes "table" ∷ codes "none" ∷ []

reserved_parts : (w : List ℕ) → is_among reserved w ≡ (is_among words w || is_among two w)
reserved_parts w = list_any-append (bytes_eq w) words two

pub column_plain : (w : List ℕ) → is_column w ≡ true → is_plain_name w ≡ true
unfolding is_name
column_plain [] h = absurd (false≢true h)
column_plain (b ∷ bs) h =
    let outer = and_parts _ _ h in
    let name = and_parts _ _ outer.0 in
    let made = and_parts _ _ name.0 in
    let sized = and_parts _ _ made.0 in
    let free = and_parts _ _ name.1 in
    let w = b ∷ bs in
    let no_word : is_among words w ≡ false = not_true (is_among words w) outer.1 in
    let no_table : bytes_eq w (codes "table") ≡ false = not_true (bytes_eq w (codes "table")) free.0 in
    let no_none : bytes_eq w (codes "none") ≡ false = not_true (bytes_eq w (codes "none")) free.1 in
    let no_two : is_among two w ≡ false = or_from (bytes_eq w (codes "table")) (bytes_eq w (codes "none") || false) no_table (or_from (bytes_eq w (codes "none")) false no_none refl) in
    let none : is_among reserved w ≡ false = reserved_parts w ∙ or_from (is_among words w) (is_among two w) no_word no_two in
    let word : is_word w ≡ true = and_from (is_lower b) (list_all is_name_byte bs) made.1 (and_parts (is_name_byte b) (list_all is_name_byte bs) sized.1).1 in
    let short : nat_le (length w) 40 ≡ true = (and_parts (nat_lt 0 (length w)) (nat_le (length w) 40) sized.0).1 in
    and_from (is_word w && nat_le (length w) 40) (not (is_among reserved w)) (and_from (is_word w) (nat_le (length w) 40) word short) (not_from_false (is_among reserved w) none)

pub plain_column : (w : List ℕ) → is_plain_name w ≡ true → is_column w ≡ true
unfolding is_name
plain_column [] h = absurd (false≢true h)
plain_column (b ∷ bs) h =
    let outer = and_parts _ _ h in
    let sized = and_parts _ _ outer.0 in
    let word = and_parts _ _ sized.0 in
    let apart = or_parts _ _ (sym (reserved_parts (b ∷ bs)) ∙ not_true _ outer.1) in
    let table = or_parts _ _ apart.1 in
    let none = or_parts _ _ table.1 in
    let some = lt-ltb 0 (length (b ∷ bs)) (omega arith) in
    let letters = and_from _ _ (name_byte b word.0) word.1 in
    and_from _ _
    (and_from _ _ (and_from _ _ (and_from _ _ (and_from _ _ some sized.1) letters) word.0) (and_from _ _ (not_from_false _ table.0) (not_from_false _ none.0)))
    (not_from_false _ apart.0)

same_by : (p q : Bool) → (p ≡ true → q ≡ true) → (q ≡ true → p ≡ true) → p ≡ q
same_by true q f g = sym (f refl)
same_by false true f g = g refl
same_by false false f g = refl

pub column_same : (w : List ℕ) → is_plain_name w ≡ is_column w
column_same w = same_by (is_plain_name w) (is_column w) (plain_column w) (column_plain w)
