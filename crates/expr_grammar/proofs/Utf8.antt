-- Names are ASCII, and what a text in a text says is UTF-8.
use Rattle.std.proofs.Common.{◌≡◌, ℕ, zero, suc, ◌+◌, ◌<◌, ◌≤◌, List, [], ◌∷◌, ◌++◌, length, ◌-◌, get_or, take, drop, slice_range, cond, Bool, true, false, not, ◌==◌, refl, sym, ap, subst, ◌∙◌, append_assoc, append-nil, length-append, length-drop, arith}
use Rattle.std.proofs.lemmas.Bool.{false≢true, and_parts, leb-true, eqb-true}
use Rattle.std.proofs.lemmas.Bool.Decides.{nat_tests}
use Rattle.std.proofs.lemmas.Str.{IsUtf8-append, IsUtf8-take, IsUtf8-drop, IsUtf8-from_ascii, IsCharBoundary-before_ascii, IsCharBoundary-after_ascii}
use Rattle.std.proofs.lemmas.List.{get_or-drop, drop-drop, take-append-drop}
use Rattle.std.proofs.Math.Seq.{take-append_seam, get_or-append_seam, drop-append-add}
use Rattle.std.specs.List.{list_all}
use Rattle.std.specs.Str.{IsUtf8}
use Rattle.tuple_schema.specs.Texts.{is_name_byte, is_name}
use Rattle.expr_grammar.specs.Tokens.{is_column, is_text, ends_text, unquoted, said}

name_byte_small : (b : ℕ) → is_name_byte b ≡ true → b < 128
name_byte_small b h = grind (arith, nat_tests)

names_ascii : (bs : List ℕ) → list_all is_name_byte bs ≡ true → (i : ℕ) → get_or bs i 0 < 128
names_ascii [] h i = omega arith
names_ascii (b ∷ bs) h zero = name_byte_small b (and_parts (is_name_byte b) (list_all is_name_byte bs) h).0
names_ascii (b ∷ bs) h (suc i) = names_ascii bs (and_parts (is_name_byte b) (list_all is_name_byte bs) h).1 i

pub column_utf8 : (w : List ℕ) → is_column w ≡ true → IsUtf8 w
unfolding is_name
column_utf8 w h =
    let made = (and_parts _ _ (and_parts _ _ (and_parts _ _ h).0).0).0 in
    IsUtf8-from_ascii w (names_ascii w (and_parts _ _ made).1)

pub column_short : (w : List ℕ) → is_column w ≡ true → length w ≤ 4096
unfolding is_name
column_short w h =
    let made = (and_parts _ _ (and_parts _ _ (and_parts _ _ h).0).0).0 in
    let small = leb-true (length w) 40 (and_parts _ _ (and_parts _ _ made).0).1 in
    omega (arith, small)

-- a text cut at a quote
quote_parts : (front tail : List ℕ) → IsUtf8 (front ++ 39 ∷ tail) → IsUtf8 front × IsUtf8 tail
quote_parts front tail u =
    let whole = front ++ 39 ∷ tail in
    let at = length front in
    let byte : get_or whole at 0 ≡ 39 = get_or-append_seam front 39 tail 0 in
    let small : get_or whole at 0 < 128 = omega (arith, byte) in
    let inside : at < length whole = omega (arith, length-append front (39 ∷ tail)) in
    let first : take at whole ≡ front = take-append_seam front (39 ∷ tail) in
    let last : drop (at + 1) whole ≡ tail = drop-append-add front (39 ∷ tail) 1 in (
      subst IsUtf8 first (IsUtf8-take whole at u (IsCharBoundary-before_ascii whole at inside small)),
      subst IsUtf8 last (IsUtf8-drop whole (at + 1) u (IsCharBoundary-after_ascii whole at u inside small)),
    )

abbrev Keeps : List ℕ → Type 0
Keeps bs = (front rest : List ℕ) → ends_text true bs ≡ true → IsUtf8 (front ++ (bs ++ rest)) → IsUtf8 (front ++ unquoted true bs)

same_quote : (b : ℕ) → (b == 39) ≡ true → b ≡ 39
same_quote b h = eqb-true b 39 h

keeps_last : (b : ℕ) (q : Bool) (front rest : List ℕ) → (b == 39) ≡ q → not (not q) ≡ true → IsUtf8 (front ++ b ∷ rest) → IsUtf8 (front ++ cond q [] (b ∷ []))
keeps_last b false front rest e h u = absurd (false≢true h)
keeps_last b true front rest e h u =
    let same = same_quote b e in
    subst IsUtf8 (sym (append-nil front)) (quote_parts front rest (subst (λ x. IsUtf8 (front ++ x ∷ rest)) same u)).0

keeps_more : (b c : ℕ) (cs : List ℕ) (q : Bool) (front rest : List ℕ) → (b == 39) ≡ q → Keeps cs → Keeps (c ∷ cs)
    → ends_text (not q) (c ∷ cs) ≡ true → IsUtf8 (front ++ b ∷ (c ∷ (cs ++ rest))) → IsUtf8 (front ++ cond q (c ∷ unquoted true cs) (b ∷ unquoted true (c ∷ cs)))
keeps_more b c cs true front rest e short long h u =
    let same = same_quote b e in
    let parts = quote_parts front (c ∷ (cs ++ rest)) (subst (λ x. IsUtf8 (front ++ x ∷ (c ∷ (cs ++ rest)))) same u) in
    IsUtf8-append front (c ∷ unquoted true cs) parts.0 (short (c ∷ []) rest (and_parts (c == 39) (ends_text true cs) h).1 parts.1)
keeps_more b c cs false front rest e short long h u =
    subst IsUtf8 (append_assoc front (b ∷ []) (unquoted true (c ∷ cs)))
    (long (front ++ b ∷ []) rest h (subst IsUtf8 (sym (append_assoc front (b ∷ []) ((c ∷ cs) ++ rest))) u))

keeps : (bs : List ℕ) → Keeps bs
keeps [] front rest h u = absurd (false≢true h)
keeps (b ∷ []) front rest h u = keeps_last b (b == 39) front rest refl h u
keeps (b ∷ c ∷ cs) front rest h u = keeps_more b c cs (b == 39) front rest refl (keeps cs) (keeps (c ∷ cs)) h u

said_within : (text w rest : List ℕ) (start : ℕ) → IsUtf8 text → drop start text ≡ w ++ rest → is_text w ≡ true → IsUtf8 (said w)
said_within text [] rest start u here h = absurd (false≢true h)
said_within text (b ∷ bs) rest start u here h =
    let parts = and_parts (b == 39) (ends_text true bs) h in
    let quote = same_quote b parts.0 in
    let byte : get_or text start 0 ≡ b =
    ap (λ n. get_or text n 0) (let e : start ≡ start + 0 = omega arith in e) ∙ sym (get_or-drop start text 0 0) ∙ ap (λ xs. get_or xs 0 0) here in
    let small : get_or text start 0 < 128 = omega (arith, byte, quote) in
    let inside : start < length text = let size = ap length here in omega (arith, size, length-drop start text) in
    let after : drop (start + 1) text ≡ bs ++ rest = sym (drop-drop 1 start text) ∙ ap (drop 1) here in
    let cut : IsUtf8 (bs ++ rest) = subst IsUtf8 after (IsUtf8-drop text (start + 1) u (IsCharBoundary-after_ascii text start u inside small)) in
    keeps bs [] rest parts.1 cut

pub range_said : (text : List ℕ) (start at : ℕ) → IsUtf8 text → is_text (slice_range text start at) ≡ true → IsUtf8 (said (slice_range text start at))
range_said text start at u h =
    said_within text (slice_range text start at) (drop (at - start) (drop start text)) start u (sym (take-append-drop (at - start) (drop start text))) h
