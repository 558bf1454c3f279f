-- What a scan says of the bytes that it has read.
use Rattle.std.proofs.Common.{◌≡◌, ◌≢◌, ℕ, ◌+◌, ◌<◌, ◌≤◌, List, [], ◌∷◌, ◌++◌, length, Bool, true, false, not, cond, ◌&&◌, ◌==◌, nat_le, nat_lt, if◌then◌else◌, refl, sym, ap, ◌∙◌, arith}
use Rattle.std.proofs.lemmas.Bool.{false≢true, and_right, and_parts, le-leb, leb-true, lt-ltb, lt-leb, ltb-true, ltb-false}
use Rattle.std.proofs.lemmas.Bool.Decides.{nat_tests}
use Rattle.std.specs.List.{list_all, list_any}
use Rattle.tuple_schema.specs.Texts.{is_lower, is_digit, is_name_byte}
use Rattle.expr_grammar.specs.Tokens.{is_word, is_number, ends_number, are_places, places, is_text, ends_text, is_front, symbols}
use Rattle.expr_grammar.specs.Kinds.{goes_number, begins_number, goes_text, begins_text, continues}
use Rattle.expr_grammar.specs.Scans.{scan_first, goes_by, count_of, IsScanned, scan_next, scan_after, scan_of, scans_word, scans_number, is_whole_number, scans_text, is_whole_text}
use Rattle.expr_grammar.specs.declared.scan.Scan.{Scan}
use Rattle.expr_grammar.specs.declared.scan.Scan.TheVariants as scan

after-more : (s : Scan) (w : List ℕ) (b : ℕ) → scan_after s (w ++ b ∷ []) ≡ scan_next (scan_after s w) b
after-more s [] b = refl
after-more s (c ∷ cs) b = after-more (scan_next s c) cs b

pub scan_more : (w : List ℕ) (b : ℕ) → scan_of (w ++ b ∷ []) ≡ scan_next (scan_of w) b
unfolding scan_of
scan_more w b = after-more scan.Empty w b

-- what a byte keeps

stays : (t : Scan → Bool) → ((s : Scan) (b : ℕ) → t s ≡ true → t (scan_next s b) ≡ true) → (s : Scan) (bs : List ℕ) → t s ≡ true → t (scan_after s bs) ≡ true
stays t next s [] h = h
stays t next s (b ∷ bs) h = stays t next (scan_next s b) bs (next s b h)

both : (t : Scan → Bool) (c : Bool) (x y : Scan) → t x ≡ true → t y ≡ true → t (cond c x y) ≡ true
both t true x y p q = p
both t false x y p q = q

abbrev no_number : Scan → Bool
no_number scan.Word = true
no_number scan.Quoted = true
no_number scan.Closed = true
no_number scan.Symbol = true
no_number scan.Broken = true
no_number _ = false

abbrev no_text : Scan → Bool
no_text scan.Word = true
no_text scan.Digits = true
no_text (scan.Places n) = true
no_text scan.Symbol = true
no_text scan.Broken = true
no_text _ = false

abbrev no_word : Scan → Bool
no_word scan.Digits = true
no_word (scan.Places n) = true
no_word scan.Quoted = true
no_word scan.Closed = true
no_word scan.Symbol = true
no_word scan.Broken = true
no_word _ = false

number_stays : (s : Scan) (b : ℕ) → no_number s ≡ true → no_number (scan_next s b) ≡ true
number_stays scan.Empty b h = absurd (false≢true h)
number_stays scan.Word b h = both no_number (is_name_byte b) scan.Word scan.Broken refl refl
number_stays scan.Digits b h = absurd (false≢true h)
number_stays (scan.Places n) b h = absurd (false≢true h)
number_stays scan.Quoted b h = both no_number (b == 39) scan.Closed scan.Quoted refl refl
number_stays scan.Closed b h = both no_number (b == 39) scan.Quoted scan.Broken refl refl
number_stays scan.Symbol b h = refl
number_stays scan.Broken b h = refl

text_stays : (s : Scan) (b : ℕ) → no_text s ≡ true → no_text (scan_next s b) ≡ true
text_stays scan.Empty b h = absurd (false≢true h)
text_stays scan.Word b h = both no_text (is_name_byte b) scan.Word scan.Broken refl refl
text_stays scan.Digits b h = both no_text (is_digit b) scan.Digits (cond (b == 46) (scan.Places 0) scan.Broken) refl (both no_text (b == 46) (scan.Places 0) scan.Broken refl refl)
text_stays (scan.Places n) b h = both no_text (is_digit b && nat_lt n 6) (scan.Places (n + 1)) scan.Broken refl refl
text_stays scan.Quoted b h = absurd (false≢true h)
text_stays scan.Closed b h = absurd (false≢true h)
text_stays scan.Symbol b h = refl
text_stays scan.Broken b h = refl

word_stays : (s : Scan) (b : ℕ) → no_word s ≡ true → no_word (scan_next s b) ≡ true
word_stays scan.Empty b h = absurd (false≢true h)
word_stays scan.Word b h = absurd (false≢true h)
word_stays scan.Digits b h = both no_word (is_digit b) scan.Digits (cond (b == 46) (scan.Places 0) scan.Broken) refl (both no_word (b == 46) (scan.Places 0) scan.Broken refl refl)
word_stays (scan.Places n) b h = both no_word (is_digit b && nat_lt n 6) (scan.Places (n + 1)) scan.Broken refl refl
word_stays scan.Quoted b h = both no_word (b == 39) scan.Closed scan.Quoted refl refl
word_stays scan.Closed b h = both no_word (b == 39) scan.Quoted scan.Broken refl refl
word_stays scan.Symbol b h = refl
word_stays scan.Broken b h = refl

-- a number so far whose count of places passes
abbrev counts : (ℕ → Bool) → Scan → Bool
counts ok scan.Digits = true
counts ok (scan.Places n) = ok n
counts ok _ = false

none_counts : (ok : ℕ → Bool) (s : Scan) → no_number s ≡ true → counts ok s ≡ false
none_counts ok scan.Empty h = refl
none_counts ok scan.Word h = refl
none_counts ok scan.Digits h = absurd (false≢true h)
none_counts ok (scan.Places n) h = absurd (false≢true h)
none_counts ok scan.Quoted h = refl
none_counts ok scan.Closed h = refl
none_counts ok scan.Symbol h = refl
none_counts ok scan.Broken h = refl

no_word_scans : (s : Scan) → no_word s ≡ true → scans_word s ≡ false
no_word_scans scan.Word h = absurd (false≢true h)
no_word_scans scan.Empty h = refl
no_word_scans scan.Digits h = refl
no_word_scans (scan.Places n) h = refl
no_word_scans scan.Quoted h = refl
no_word_scans scan.Closed h = refl
no_word_scans scan.Symbol h = refl
no_word_scans scan.Broken h = refl

-- numbers

abbrev PlacesCount : (ℕ → Bool) → ℕ → List ℕ → Type 0
PlacesCount ok n bs = (list_all is_digit bs && ok (n + length bs) && nat_le (n + length bs) 6) ≡ counts ok (scan_after (scan.Places n) bs)

broken_counts : (ok : ℕ → Bool) (bs : List ℕ) → counts ok (scan_after scan.Broken bs) ≡ false
broken_counts ok bs = none_counts ok (scan_after scan.Broken bs) (stays no_number number_stays scan.Broken bs refl)

longer : (n : ℕ) (b : ℕ) (bs : List ℕ) → n + length (b ∷ bs) ≡ n + 1 + length bs
longer n b bs = omega arith

place_counts : (ok : ℕ → Bool) (n b : ℕ) (bs : List ℕ) (d l : Bool) → nat_lt n 6 ≡ l → (n + 1 ≤ 6 → PlacesCount ok (n + 1) bs)
    → ((d && list_all is_digit bs) && ok (n + length (b ∷ bs)) && nat_le (n + length (b ∷ bs)) 6) ≡ counts ok (scan_after (cond (d && l) (scan.Places (n + 1)) scan.Broken) bs)
place_counts ok n b bs false l h rest = sym (broken_counts ok bs)
place_counts ok n b bs true true h rest =
    let below = ltb-true n 6 h in
    ap (λ k. list_all is_digit bs && ok k && nat_le k 6) (longer n b bs) ∙ rest (omega (arith, below))
place_counts ok n b bs true false h rest =
    let least = ltb-false n 6 h in
    let many : 6 < n + length (b ∷ bs) = omega (arith, least) in
    and_right _ _ (lt-leb (n + length (b ∷ bs)) 6 many) ∙ sym (broken_counts ok bs)

and_end : (p : Bool) → (true && p && true) ≡ p
and_end true = refl
and_end false = refl

places_count : (ok : ℕ → Bool) (n : ℕ) (bs : List ℕ) → n ≤ 6 → PlacesCount ok n bs
places_count ok n [] h =
    let same : n + length {A = ℕ} [] ≡ n = omega arith in
    ap (λ k. true && ok k && nat_le k 6) same ∙ ap (λ c. true && ok n && c) (le-leb n 6 h) ∙ and_end (ok n)
places_count ok n (b ∷ bs) h = place_counts ok n b bs (is_digit b) (nat_lt n 6) refl (places_count ok (n + 1) bs)

-- what follows the first digit of a number passes, by the count of its places
abbrev after_digit : (ℕ → Bool) → List ℕ → Bool
after_digit ok [] = true
after_digit ok (b ∷ bs) = if is_digit b then after_digit ok bs else ((b == 46) && (list_all is_digit bs && ok (length bs) && nat_le (length bs) 6))

digit_counts : (ok : ℕ → Bool) (b : ℕ) (bs : List ℕ) (d p : Bool) → after_digit ok bs ≡ counts ok (scan_after scan.Digits bs)
    → cond d (after_digit ok bs) (p && (list_all is_digit bs && ok (length bs) && nat_le (length bs) 6))
    ≡ counts ok (scan_after (cond d scan.Digits (cond p (scan.Places 0) scan.Broken)) bs)
digit_counts ok b bs true p rest = rest
digit_counts ok b bs false true rest =
    let same : length bs ≡ 0 + length bs = omega arith in
    ap (λ k. list_all is_digit bs && ok k && nat_le k 6) same ∙ places_count ok 0 bs (omega arith)
digit_counts ok b bs false false rest = sym (broken_counts ok bs)

digits_count : (ok : ℕ → Bool) (bs : List ℕ) → after_digit ok bs ≡ counts ok (scan_after scan.Digits bs)
digits_count ok [] = refl
digits_count ok (b ∷ bs) = digit_counts ok b bs (is_digit b) (b == 46) (digits_count ok bs)

-- a token's first byte

apart_counts : (ok : ℕ → Bool) (s : Scan) (bs : List ℕ) → no_number s ≡ true → counts ok (scan_after s bs) ≡ false
apart_counts ok s bs h = none_counts ok (scan_after s bs) (stays no_number number_stays s bs h)

lower_no_digit : (b : ℕ) → is_lower b ≡ true → is_digit b ≡ false
lower_no_digit b h = grind (arith, nat_tests)

first_counts : (ok : ℕ → Bool) (bs : List ℕ) (l d q : Bool) → (l ≡ true → d ≡ false)
    → (d && after_digit ok bs) ≡ counts ok (scan_after (cond l scan.Word (cond d scan.Digits (cond q scan.Quoted scan.Symbol))) bs)
first_counts ok bs true true q h = absurd (false≢true (sym (h refl)))
first_counts ok bs true false q h = sym (apart_counts ok scan.Word bs refl)
first_counts ok bs false true q h = digits_count ok bs
first_counts ok bs false false true h = sym (apart_counts ok scan.Quoted bs refl)
first_counts ok bs false false false h = sym (apart_counts ok scan.Symbol bs refl)

and_regroup : (p q r : Bool) → (p && q && r) ≡ (p && (q && true && r))
and_regroup true true r = refl
and_regroup true false r = refl
and_regroup false q r = refl

goes_is : (bs : List ℕ) → goes_number bs ≡ after_digit (λ n. true) bs
goes_is [] = refl
goes_is (b ∷ bs) =
    ap (λ c. cond (is_digit b) c ((b == 46) && list_all is_digit bs && nat_le (length bs) 6)) (goes_is bs)
    ∙ ap (λ c. cond (is_digit b) (after_digit (λ n. true) bs) c) (and_regroup (b == 46) (list_all is_digit bs) (nat_le (length bs) 6))

ends_is : (bs : List ℕ) → ends_number bs ≡ after_digit (nat_le 1) bs
ends_is [] = refl
ends_is (b ∷ bs) = ap (λ c. cond (is_digit b) c ((b == 46) && are_places bs)) (ends_is bs)

token_counts : (ok : ℕ → Bool) (b : ℕ) (bs : List ℕ) → (is_digit b && after_digit ok bs) ≡ counts ok (scan_after (scan_first b) bs)
token_counts ok b bs = first_counts ok bs (is_lower b) (is_digit b) (b == 39) (lower_no_digit b)

scans_is : (s : Scan) → counts (λ n. true) s ≡ scans_number s
scans_is scan.Empty = refl
scans_is scan.Word = refl
scans_is scan.Digits = refl
scans_is (scan.Places n) = refl
scans_is scan.Quoted = refl
scans_is scan.Closed = refl
scans_is scan.Symbol = refl
scans_is scan.Broken = refl

whole_is : (s : Scan) → counts (nat_le 1) s ≡ is_whole_number s
whole_is scan.Empty = refl
whole_is scan.Word = refl
whole_is scan.Digits = refl
whole_is (scan.Places n) = refl
whole_is scan.Quoted = refl
whole_is scan.Closed = refl
whole_is scan.Symbol = refl
whole_is scan.Broken = refl

pub number_begins : (w : List ℕ) → begins_number w ≡ scans_number (scan_of w)
unfolding scan_of
number_begins [] = refl
number_begins (b ∷ bs) =
    ap (λ c. is_digit b && c) (goes_is bs) ∙ token_counts (λ n. true) b bs ∙ scans_is (scan_after (scan_first b) bs)

pub number_whole : (w : List ℕ) → is_number w ≡ is_whole_number (scan_of w)
unfolding scan_of
number_whole [] = refl
number_whole (b ∷ bs) =
    ap (λ c. is_digit b && c) (ends_is bs) ∙ token_counts (nat_le 1) b bs ∙ whole_is (scan_after (scan_first b) bs)

-- texts

-- a text so far, which passes where no quote has closed it only if is_open
abbrev quoted_passes : Bool → Scan → Bool
quoted_passes is_open scan.Quoted = is_open
quoted_passes is_open scan.Closed = true
quoted_passes is_open _ = false

abbrev after_quote : Bool → Bool → List ℕ → Bool
after_quote o true [] = o
after_quote o false [] = true
after_quote o true (b ∷ bs) = after_quote o (not (b == 39)) bs
after_quote o false (b ∷ bs) = (b == 39) && after_quote o true bs

abbrev quoted : Bool → Scan
quoted true = scan.Quoted
quoted false = scan.Closed

none_quoted : (o : Bool) (s : Scan) → no_text s ≡ true → quoted_passes o s ≡ false
none_quoted o scan.Empty h = refl
none_quoted o scan.Word h = refl
none_quoted o scan.Digits h = refl
none_quoted o (scan.Places n) h = refl
none_quoted o scan.Quoted h = absurd (false≢true h)
none_quoted o scan.Closed h = absurd (false≢true h)
none_quoted o scan.Symbol h = refl
none_quoted o scan.Broken h = refl

apart_quoted : (o : Bool) (s : Scan) (bs : List ℕ) → no_text s ≡ true → quoted_passes o (scan_after s bs) ≡ false
apart_quoted o s bs h = none_quoted o (scan_after s bs) (stays no_text text_stays s bs h)

quote_opens : (o q : Bool) (bs : List ℕ) → ((t : Bool) → after_quote o t bs ≡ quoted_passes o (scan_after (quoted t) bs))
    → after_quote o (not q) bs ≡ quoted_passes o (scan_after (cond q scan.Closed scan.Quoted) bs)
quote_opens o true bs rest = rest false
quote_opens o false bs rest = rest true

quote_doubles : (o q : Bool) (bs : List ℕ) → after_quote o true bs ≡ quoted_passes o (scan_after scan.Quoted bs)
    → (q && after_quote o true bs) ≡ quoted_passes o (scan_after (cond q scan.Quoted scan.Broken) bs)
quote_doubles o true bs rest = rest
quote_doubles o false bs rest = sym (apart_quoted o scan.Broken bs refl)

quote_goes : (o t : Bool) (bs : List ℕ) → after_quote o t bs ≡ quoted_passes o (scan_after (quoted t) bs)
quote_goes o true [] = refl
quote_goes o false [] = refl
quote_goes o true (b ∷ bs) = quote_opens o (b == 39) bs (λ t. quote_goes o t bs)
quote_goes o false (b ∷ bs) = quote_doubles o (b == 39) bs (quote_goes o true bs)

goes_quote : (t : Bool) (bs : List ℕ) → goes_text t bs ≡ after_quote true t bs
goes_quote true [] = refl
goes_quote false [] = refl
goes_quote true (b ∷ bs) = goes_quote (not (b == 39)) bs
goes_quote false (b ∷ bs) = ap (λ c. (b == 39) && c) (goes_quote true bs)

ends_quote : (t : Bool) (bs : List ℕ) → ends_text t bs ≡ after_quote false t bs
ends_quote true [] = refl
ends_quote false [] = refl
ends_quote true (b ∷ bs) = ends_quote (not (b == 39)) bs
ends_quote false (b ∷ bs) = ap (λ c. (b == 39) && c) (ends_quote true bs)

first_quoted : (o : Bool) (bs : List ℕ) (l d q : Bool) → (l ≡ true → q ≡ false) → (d ≡ true → q ≡ false)
    → (q && after_quote o true bs) ≡ quoted_passes o (scan_after (cond l scan.Word (cond d scan.Digits (cond q scan.Quoted scan.Symbol))) bs)
first_quoted o bs true d true h k = absurd (false≢true (sym (h refl)))
first_quoted o bs true d false h k = sym (apart_quoted o scan.Word bs refl)
first_quoted o bs false true true h k = absurd (false≢true (sym (k refl)))
first_quoted o bs false true false h k = sym (apart_quoted o scan.Digits bs refl)
first_quoted o bs false false true h k = quote_goes o true bs
first_quoted o bs false false false h k = sym (apart_quoted o scan.Symbol bs refl)

lower_no_quote : (b : ℕ) → is_lower b ≡ true → (b == 39) ≡ false
lower_no_quote b h = grind (arith, nat_tests)

digit_no_quote : (b : ℕ) → is_digit b ≡ true → (b == 39) ≡ false
digit_no_quote b h = grind (arith, nat_tests)

token_quoted : (o : Bool) (b : ℕ) (bs : List ℕ) → ((b == 39) && after_quote o true bs) ≡ quoted_passes o (scan_after (scan_first b) bs)
token_quoted o b bs = first_quoted o bs (is_lower b) (is_digit b) (b == 39) (lower_no_quote b) (digit_no_quote b)

text_is : (s : Scan) → quoted_passes true s ≡ scans_text s
text_is scan.Empty = refl
text_is scan.Word = refl
text_is scan.Digits = refl
text_is (scan.Places n) = refl
text_is scan.Quoted = refl
text_is scan.Closed = refl
text_is scan.Symbol = refl
text_is scan.Broken = refl

whole_text_is : (s : Scan) → quoted_passes false s ≡ is_whole_text s
whole_text_is scan.Empty = refl
whole_text_is scan.Word = refl
whole_text_is scan.Digits = refl
whole_text_is (scan.Places n) = refl
whole_text_is scan.Quoted = refl
whole_text_is scan.Closed = refl
whole_text_is scan.Symbol = refl
whole_text_is scan.Broken = refl

pub text_begins : (w : List ℕ) → begins_text w ≡ scans_text (scan_of w)
unfolding scan_of
text_begins [] = refl
text_begins (b ∷ bs) =
    ap (λ c. (b == 39) && c) (goes_quote true bs) ∙ token_quoted true b bs ∙ text_is (scan_after (scan_first b) bs)

pub text_whole : (w : List ℕ) → is_text w ≡ is_whole_text (scan_of w)
unfolding scan_of
text_whole [] = refl
text_whole (b ∷ bs) =
    ap (λ c. (b == 39) && c) (ends_quote true bs) ∙ token_quoted false b bs ∙ whole_text_is (scan_after (scan_first b) bs)

-- words

apart_word : (s : Scan) (bs : List ℕ) → no_word s ≡ true → scans_word (scan_after s bs) ≡ false
apart_word s bs h = no_word_scans (scan_after s bs) (stays no_word word_stays s bs h)

word_more : (c : Bool) (bs : List ℕ) → list_all is_name_byte bs ≡ scans_word (scan_after scan.Word bs)
    → (c && list_all is_name_byte bs) ≡ scans_word (scan_after (cond c scan.Word scan.Broken) bs)
word_more true bs rest = rest
word_more false bs rest = sym (apart_word scan.Broken bs refl)

word_goes : (bs : List ℕ) → list_all is_name_byte bs ≡ scans_word (scan_after scan.Word bs)
word_goes [] = refl
word_goes (b ∷ bs) = word_more (is_name_byte b) bs (word_goes bs)

first_word : (bs : List ℕ) (l d q : Bool) → (l && list_all is_name_byte bs) ≡ scans_word (scan_after (cond l scan.Word (cond d scan.Digits (cond q scan.Quoted scan.Symbol))) bs)
first_word bs true d q = word_goes bs
first_word bs false true q = sym (apart_word scan.Digits bs refl)
first_word bs false false true = sym (apart_word scan.Quoted bs refl)
first_word bs false false false = sym (apart_word scan.Symbol bs refl)

pub word_scanned : (w : List ℕ) → is_word w ≡ scans_word (scan_of w)
unfolding scan_of
word_scanned [] = refl
word_scanned (b ∷ bs) = first_word bs (is_lower b) (is_digit b) (b == 39)

-- how a token goes on

abbrev is_wordy : Scan → Bool
is_wordy scan.Word = true
is_wordy scan.Broken = true
is_wordy _ = false

abbrev is_numeric : Scan → Bool
is_numeric scan.Digits = true
is_numeric (scan.Places n) = true
is_numeric scan.Broken = true
is_numeric _ = false

abbrev is_textual : Scan → Bool
is_textual scan.Quoted = true
is_textual scan.Closed = true
is_textual scan.Broken = true
is_textual _ = false

abbrev is_symbolic : Scan → Bool
is_symbolic scan.Symbol = true
is_symbolic _ = false

stays_wordy : (s : Scan) (b : ℕ) → is_wordy s ≡ true → is_wordy (scan_next s b) ≡ true
stays_wordy scan.Word b h = both is_wordy (is_name_byte b) scan.Word scan.Broken refl refl
stays_wordy scan.Broken b h = refl
stays_wordy scan.Empty b h = absurd (false≢true h)
stays_wordy scan.Digits b h = absurd (false≢true h)
stays_wordy (scan.Places n) b h = absurd (false≢true h)
stays_wordy scan.Quoted b h = absurd (false≢true h)
stays_wordy scan.Closed b h = absurd (false≢true h)
stays_wordy scan.Symbol b h = absurd (false≢true h)

stays_numeric : (s : Scan) (b : ℕ) → is_numeric s ≡ true → is_numeric (scan_next s b) ≡ true
stays_numeric scan.Digits b h = both is_numeric (is_digit b) scan.Digits (cond (b == 46) (scan.Places 0) scan.Broken) refl (both is_numeric (b == 46) (scan.Places 0) scan.Broken refl refl)
stays_numeric (scan.Places n) b h = both is_numeric (is_digit b && nat_lt n 6) (scan.Places (n + 1)) scan.Broken refl refl
stays_numeric scan.Broken b h = refl
stays_numeric scan.Empty b h = absurd (false≢true h)
stays_numeric scan.Word b h = absurd (false≢true h)
stays_numeric scan.Quoted b h = absurd (false≢true h)
stays_numeric scan.Closed b h = absurd (false≢true h)
stays_numeric scan.Symbol b h = absurd (false≢true h)

stays_textual : (s : Scan) (b : ℕ) → is_textual s ≡ true → is_textual (scan_next s b) ≡ true
stays_textual scan.Quoted b h = both is_textual (b == 39) scan.Closed scan.Quoted refl refl
stays_textual scan.Closed b h = both is_textual (b == 39) scan.Quoted scan.Broken refl refl
stays_textual scan.Broken b h = refl
stays_textual scan.Empty b h = absurd (false≢true h)
stays_textual scan.Word b h = absurd (false≢true h)
stays_textual scan.Digits b h = absurd (false≢true h)
stays_textual (scan.Places n) b h = absurd (false≢true h)
stays_textual scan.Symbol b h = absurd (false≢true h)

stays_symbolic : (s : Scan) (b : ℕ) → is_symbolic s ≡ true → is_symbolic (scan_next s b) ≡ true
stays_symbolic scan.Symbol b h = refl
stays_symbolic scan.Broken b h = absurd (false≢true h)
stays_symbolic scan.Empty b h = absurd (false≢true h)
stays_symbolic scan.Word b h = absurd (false≢true h)
stays_symbolic scan.Digits b h = absurd (false≢true h)
stays_symbolic (scan.Places n) b h = absurd (false≢true h)
stays_symbolic scan.Quoted b h = absurd (false≢true h)
stays_symbolic scan.Closed b h = absurd (false≢true h)

wordy_goes : (s : Scan) (longer : List ℕ) (b : ℕ) → is_wordy s ≡ true → s ≢ scan.Broken → is_name_byte b ≡ goes_by s b longer
wordy_goes scan.Word longer b h ok = refl
wordy_goes scan.Broken longer b h ok = absurd (ok refl)
wordy_goes scan.Empty longer b h ok = absurd (false≢true h)
wordy_goes scan.Digits longer b h ok = absurd (false≢true h)
wordy_goes (scan.Places n) longer b h ok = absurd (false≢true h)
wordy_goes scan.Quoted longer b h ok = absurd (false≢true h)
wordy_goes scan.Closed longer b h ok = absurd (false≢true h)
wordy_goes scan.Symbol longer b h ok = absurd (false≢true h)

numeric_goes : (s : Scan) (longer : List ℕ) (b : ℕ) → is_numeric s ≡ true → s ≢ scan.Broken → scans_number (scan_next s b) ≡ goes_by s b longer
numeric_goes scan.Digits longer b h ok = refl
numeric_goes (scan.Places n) longer b h ok = refl
numeric_goes scan.Broken longer b h ok = absurd (ok refl)
numeric_goes scan.Word longer b h ok = absurd (false≢true h)
numeric_goes scan.Empty longer b h ok = absurd (false≢true h)
numeric_goes scan.Quoted longer b h ok = absurd (false≢true h)
numeric_goes scan.Closed longer b h ok = absurd (false≢true h)
numeric_goes scan.Symbol longer b h ok = absurd (false≢true h)

textual_goes : (s : Scan) (longer : List ℕ) (b : ℕ) → is_textual s ≡ true → s ≢ scan.Broken → scans_text (scan_next s b) ≡ goes_by s b longer
textual_goes scan.Quoted longer b h ok = refl
textual_goes scan.Closed longer b h ok = refl
textual_goes scan.Broken longer b h ok = absurd (ok refl)
textual_goes scan.Word longer b h ok = absurd (false≢true h)
textual_goes scan.Empty longer b h ok = absurd (false≢true h)
textual_goes scan.Digits longer b h ok = absurd (false≢true h)
textual_goes (scan.Places n) longer b h ok = absurd (false≢true h)
textual_goes scan.Symbol longer b h ok = absurd (false≢true h)

symbolic_goes : (s : Scan) (longer : List ℕ) (b : ℕ) → is_symbolic s ≡ true → list_any (is_front longer) symbols ≡ goes_by s b longer
symbolic_goes scan.Symbol longer b h = refl
symbolic_goes scan.Broken longer b h = absurd (false≢true h)
symbolic_goes scan.Word longer b h = absurd (false≢true h)
symbolic_goes scan.Empty longer b h = absurd (false≢true h)
symbolic_goes scan.Digits longer b h = absurd (false≢true h)
symbolic_goes (scan.Places n) longer b h = absurd (false≢true h)
symbolic_goes scan.Quoted longer b h = absurd (false≢true h)
symbolic_goes scan.Closed longer b h = absurd (false≢true h)

goes_first : (longer cs : List ℕ) (b : ℕ) (l d q : Bool) (s : Scan) → s ≡ scan_after (cond l scan.Word (cond d scan.Digits (cond q scan.Quoted scan.Symbol))) cs → s ≢ scan.Broken
    → begins_number longer ≡ scans_number (scan_next s b) → begins_text longer ≡ scans_text (scan_next s b)
    → cond l (is_name_byte b) (cond d (begins_number longer) (cond q (begins_text longer) (list_any (is_front longer) symbols))) ≡ goes_by s b longer
goes_first longer cs b true d q s is ok n t = wordy_goes s longer b (ap is_wordy is ∙ stays is_wordy stays_wordy scan.Word cs refl) ok
goes_first longer cs b false true q s is ok n t = n ∙ numeric_goes s longer b (ap is_numeric is ∙ stays is_numeric stays_numeric scan.Digits cs refl) ok
goes_first longer cs b false false true s is ok n t = t ∙ textual_goes s longer b (ap is_textual is ∙ stays is_textual stays_textual scan.Quoted cs refl) ok
goes_first longer cs b false false false s is ok n t = symbolic_goes s longer b (ap is_symbolic is ∙ stays is_symbolic stays_symbolic scan.Symbol cs refl)

pub token_goes : (s : Scan) (w : List ℕ) (b : ℕ) → IsScanned s w → continues w b ≡ goes_by s b (w ++ b ∷ [])
unfolding scan_of
token_goes s [] b h = ap (λ t. goes_by t b (b ∷ [])) (sym h.0)
token_goes s (c ∷ cs) b h =
    let longer = (c ∷ cs) ++ b ∷ [] in
    let next : scan_of longer ≡ scan_next s b = scan_more (c ∷ cs) b ∙ ap (λ t. scan_next t b) (sym h.0) in
    goes_first longer cs b (is_lower c) (is_digit c) (c == 39) s h.0 h.1
    (number_begins longer ∙ ap scans_number next) (text_begins longer ∙ ap scans_text next)

-- the next scan

-- Broken, told apart by a test
abbrev is_broken : Scan → Bool
is_broken scan.Broken = true
is_broken _ = false

sound_by : (s : Scan) → is_broken s ≡ false → s ≢ scan.Broken
sound_by s h e = false≢true (sym h ∙ ap is_broken e)

number_sound : (s : Scan) → scans_number s ≡ true → s ≢ scan.Broken
number_sound s h e = false≢true (sym (ap scans_number e) ∙ h)

text_sound : (s : Scan) → scans_text s ≡ true → s ≢ scan.Broken
text_sound s h e = false≢true (sym (ap scans_text e) ∙ h)

word_sound : (c : Bool) → c ≡ true → cond c scan.Word scan.Broken ≢ scan.Broken
word_sound true h = sound_by scan.Word refl
word_sound false h = absurd (false≢true h)

first_sound : (l d q : Bool) → cond l scan.Word (cond d scan.Digits (cond q scan.Quoted scan.Symbol)) ≢ scan.Broken
first_sound true d q = sound_by scan.Word refl
first_sound false true q = sound_by scan.Digits refl
first_sound false false true = sound_by scan.Quoted refl
first_sound false false false = sound_by scan.Symbol refl

next_sound : (s : Scan) (b : ℕ) (longer : List ℕ) → goes_by s b longer ≡ true → scan_next s b ≢ scan.Broken
next_sound scan.Empty b longer h = absurd (false≢true h)
next_sound scan.Word b longer h = word_sound (is_name_byte b) h
next_sound scan.Digits b longer h = number_sound (scan_next scan.Digits b) h
next_sound (scan.Places n) b longer h = number_sound (scan_next (scan.Places n) b) h
next_sound scan.Quoted b longer h = text_sound (scan_next scan.Quoted b) h
next_sound scan.Closed b longer h = text_sound (scan_next scan.Closed b) h
next_sound scan.Symbol b longer h = sound_by scan.Symbol refl
next_sound scan.Broken b longer h = absurd (false≢true h)

pub scanned_more : (s : Scan) (w : List ℕ) (b : ℕ) → IsScanned s w → continues w b ≡ true → IsScanned (scan_next s b) (w ++ b ∷ [])
scanned_more s w b h goes =
    (ap (λ t. scan_next t b) h.0 ∙ sym (scan_more w b), next_sound s b (w ++ b ∷ []) (sym (token_goes s w b h) ∙ goes))

pub scanned_first : (b : ℕ) → IsScanned (scan_first b) (b ∷ [])
unfolding scan_of
scanned_first b = (refl, first_sound (is_lower b) (is_digit b) (b == 39))

pub scan_one : (b : ℕ) → scan_of (b ∷ []) ≡ scan_first b
unfolding scan_of
scan_one b = refl

pub scanned_none : IsScanned scan.Empty []
unfolding scan_of
scanned_none = (refl, sound_by scan.Empty refl)

-- the places of a number

digit_point : (b : ℕ) → is_digit b ≡ true → (b == 46) ≡ false
digit_point b h = grind (arith, nat_tests)

digit_no_point : (b : ℕ) → is_digit b ≡ true → (b == 46) ≡ true → ⊥
digit_no_point b h p = false≢true (sym (digit_point b h) ∙ p)

places_count_of : (n : ℕ) (bs : List ℕ) → list_all is_digit bs ≡ true → n + length bs ≤ 6 → count_of (scan_after (scan.Places n) bs) ≡ n + length bs
places_count_of n [] h few = omega arith
places_count_of n (b ∷ bs) h few =
    let parts = and_parts (is_digit b) (list_all is_digit bs) h in
    let digit = parts.0 in
    let below : nat_lt n 6 ≡ true = lt-ltb n 6 (omega arith) in
    let rest = places_count_of (n + 1) bs parts.1 (omega arith) in
    rw (digit, below) (rest ∙ (let e : n + 1 + length bs ≡ n + length (b ∷ bs) = omega arith in e))

point_count : (b : ℕ) (bs : List ℕ) (d p : Bool) → is_digit b ≡ d → (b == 46) ≡ p → (ends_number bs ≡ true → places bs ≡ count_of (scan_after scan.Digits bs))
    → cond d (ends_number bs) (p && are_places bs) ≡ true
    → cond p (length bs) (places bs) ≡ count_of (scan_after (cond d scan.Digits (cond p (scan.Places 0) scan.Broken)) bs)
point_count b bs true true e f rest h = absurd (digit_no_point b e f)
point_count b bs true false e f rest h = rest h
point_count b bs false true e f rest h =
    let parts = and_parts (list_all is_digit bs && nat_le 1 (length bs)) (nat_le (length bs) 6) h in
    let few = leb-true (length bs) 6 parts.1 in
    let count = places_count_of 0 bs (and_parts (list_all is_digit bs) (nat_le 1 (length bs)) parts.0).0 (omega (arith, few)) in
    (let e2 : length bs ≡ 0 + length bs = omega arith in e2) ∙ sym count
point_count b bs false false e f rest h = absurd (false≢true h)

ends_count : (bs : List ℕ) → ends_number bs ≡ true → places bs ≡ count_of (scan_after scan.Digits bs)
ends_count [] h = refl
ends_count (b ∷ bs) h = point_count b bs (is_digit b) (b == 46) refl refl (λ g. ends_count bs g) h

number_places : (b : ℕ) (bs : List ℕ) (l d p q : Bool) → (l ≡ true → d ≡ false) → (d ≡ true → p ≡ false) → (d && ends_number bs) ≡ true
    → cond p (length bs) (places bs) ≡ count_of (scan_after (cond l scan.Word (cond d scan.Digits (cond q scan.Quoted scan.Symbol))) bs)
number_places b bs l false p q f g h = absurd (false≢true h)
number_places b bs true true p q f g h = absurd (false≢true (sym (f refl)))
number_places b bs false true true q f g h = absurd (false≢true (sym (g refl)))
number_places b bs false true false q f g h = ends_count bs h

pub places_scanned : (w : List ℕ) → is_number w ≡ true → places w ≡ count_of (scan_of w)
unfolding scan_of
places_scanned [] h = absurd (false≢true h)
places_scanned (b ∷ bs) h =
    number_places b bs (is_lower b) (is_digit b) (b == 46) (b == 39) (lower_no_digit b) (digit_point b) h
