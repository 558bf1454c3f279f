-- The laws of the reading: what it finds, and what it refuses.
use Rattle.std.proofs.Common.{◌≡◌, ℕ, ◌+◌, ◌-◌, ◌<◌, ◌≤◌, ◌^◌, List, [], ◌∷◌, ◌++◌, length, take, drop, filter, reverse, ◌==◌, Option, Some, None, Result, Ok, Err, Bool, true, false, cond, ◌⊎◌, inl, inr, nat_le, nat_lt, refl, sym, ap, subst, ◌∙◌, append_assoc, append-nil, length-append, arith}
use Rattle.std.proofs.lemmas.List.{take-append-drop, take-take, reverse-append, reverse-reverse}
use Rattle.std.proofs.Math.Seq.{take-append_seam}
use Rattle.std.proofs.lemmas.Bool.{false≢true, le-leb, lt-leb, lt-ltb, leb-true, leb-false, cases_order, and_parts, and_from, false_from_ne_true, not_from_false}
use Rattle.std.specs.Str.Parse.{digits_value}
use Rattle.expr_grammar.specs.Kinds.{continues, begins_number}
use Rattle.expr_grammar.specs.declared.state.Kind.TheVariants as kind
use Rattle.expr_grammar.specs.declared.state.Frame.{Frame}
use Rattle.expr_grammar.specs.declared.state.Mode.{Mode}
use Rattle.expr_grammar.specs.declared.state.Mode.TheVariants as m
use Rattle.tuple_schema.specs.Texts.{is_digit}
use Rattle.expr_grammar.specs.Tokens.{is_number, ends_number, is_text, is_scale, units, said, unquoted, symbols, is_token, IsLongest, AreSpaces, Reads, Spells}
use Rattle.expr_grammar.specs.Texts.{IsSpelt, IsRead, IsText, GoesOn, BeginsWithin, IsBeyond, IsFault, IsFirstFault, StaysWithin, IsUnexpected}
use Rattle.expr_grammar.specs.Phrases.{Phrase, tokens, IsWithin, tree}
use Rattle.std.specs.Prelude.{IfOk}
use Rattle.tuple_schema.specs.Stops.{◌>>=◌, Gives, IfFault}
use Rattle.tuple_schema.specs.declared.memory.Stop.{Stop}
use Rattle.tuple_schema.specs.declared.memory.Stop.TheVariants as stop
use Rattle.expr_grammar.specs.Machine.{State, takes, takes_in, begins, is_bad_already, beyond, levels_in, judged, fault, begun, read, reading, ended, start}
use Rattle.expr_grammar.specs.declared.expr.Expr.{Expr}
use Rattle.expr_grammar.specs.declared.fault.ExprFault.{ExprFault}
use Rattle.expr_grammar.specs.declared.fault.ExprWhat.{ExprWhat}
use Rattle.expr_grammar.specs.declared.fault.ExprWhat.TheVariants as what
use Rattle.expr_grammar.proofs.Complete.{advance, led_to, allowed, go, tokens_taken, number_kind, text_no_number, scale_number}
use Rattle.expr_grammar.proofs.Holes.{Holds, completed}
use Rattle.expr_grammar.proofs.Sound.{next_holds, limits_from}
use Rattle.expr_grammar.proofs.Lexical.{Stops, Tidy, tidy_word, tokens_of, symbol_plain, grown_word, grown_symbol, number_grows, digit_of, symbol_of, not_longer, token_number, token_symbol}
use Rattle.expr_grammar.proofs.Standing.{taken_token, begins_front, number_end}
use Rattle.expr_grammar.proofs.Points.{pointed}
use Rattle.expr_grammar.proofs.Bytes.{passes, run, run_first, run_split, read_spaces, read_token, reads_expression, past-some, past-bad, stepped-on, read-goes, read-end, stepped-past, read-fails}
use Rattle.expr_grammar.proofs.Verdict.{Outcome, Wrong, Found, Stuck, Starts, outcome_of, within_of, begins_within, never_unexpected, number_taken}

-- what is found

abbrev pub Spelling : List ℕ → Expr → Type 0
Spelling text x = (p : Phrase) × IsWithin p × IsSpelt p text × (tree p ≡ x)

spelling_of : (text : List ℕ) (x : Expr) → Found x text → Spelling text x
spelling_of text x h =
    let w = h.whole in
    (w.phrase, within_of w.phrase w.room, (w.is_phrase, subst (λ ws. Spells ws text) w.spelt h.spelt), w.tree_is)

pub found : (text : List ℕ) (x : Expr) → read true 0 start [] text ≡ Ok x → Spelling text x
found text x h = spelling_of text x (subst (Outcome 0 start [] [] text) h (outcome_of text))

pub only : (strict : Bool) (text : List ℕ) (p : Phrase) → (strict ≡ true → IsWithin p) → IsSpelt p text → read strict 0 start [] text ≡ Ok (tree p)
only strict text p within spelt = reads_expression strict (tokens p) text (tree p) spelt.1 (tokens_taken strict p spelt.0 within)

-- where nothing goes on

abbrev failed : ExprFault → Result Expr ExprFault
failed f = Err f

err_same : (f g : ExprFault) → failed f ≡ failed g → f ≡ g
err_same f g h = cc

abbrev fine : Expr → Result Expr ExprFault
fine x = Ok x

ok_same : (x y : Expr) → fine x ≡ fine y → x ≡ y
ok_same x y h = cc

ok_err : (x : Expr) (f : ExprFault) → fine x ≡ failed f → ⊥
ok_err x f h = cc

what_of : (f g : ExprFault) → failed f ≡ failed g → f.what ≡ g.what
what_of f g same = let both : f ≡ g = err_same f g same in ap (λ h. h.what) both

loose : (b : Bool) → b ≡ true → b ≡ false → ⊥
loose b h g = false≢true (sym g ∙ h)

never : (text : List ℕ) (p : Phrase) (f : ExprFault) → IsSpelt p text → read false 0 start [] text ≡ Err f → ⊥
never text p f spelt h = let ok : read false 0 start [] text ≡ Ok (tree p) = only false text p (λ d. absurd (false≢true d)) spelt in cc

take_one_more : (done left : List ℕ) (b : ℕ) → take (length done + 1) (done ++ b ∷ left) ≡ done ++ b ∷ []
take_one_more done left b =
    let whole : done ++ b ∷ left ≡ (done ++ b ∷ []) ++ left = sym (append_assoc done (b ∷ []) left) in
    let size : length done + 1 ≡ length (done ++ b ∷ []) = sym (simp length-append) in
    ap (take (length done + 1)) whole ∙ ap (λ n. take n ((done ++ b ∷ []) ++ left)) size ∙ take-append_seam (done ++ b ∷ []) left

none_longer : (text done left : List ℕ) (place : ℕ) → text ≡ done ++ left → place ≡ length done
    → ((after : List ℕ) → Starts left after → read false 0 start [] (done ++ after) ≡ fault place what.Unexpected)
    → place < length text → GoesOn (take (place + 1) text) → ⊥
none_longer text done [] place split count refused inside goes =
    let sizes : length text ≡ length done + 0 = ap length split ∙ simp length-append in omega (arith, sizes, count)
none_longer text done (b ∷ bs) place split count refused inside goes =
    let same : take (place + 1) text ≡ done ++ b ∷ [] = ap (λ n. take (n + 1) text) count ∙ ap (take (length done + 1)) split ∙ take_one_more done bs b in
    let spelt : IsSpelt goes.1 ((done ++ b ∷ []) ++ goes.0) = subst (λ t. IsSpelt goes.1 (t ++ goes.0)) same goes.2 in
    let regroup : (done ++ b ∷ []) ++ goes.0 ≡ done ++ b ∷ goes.0 = append_assoc done (b ∷ []) goes.0 in
    never (done ++ b ∷ goes.0) goes.1 (record { at = place; what = what.Unexpected }) (subst (IsSpelt goes.1) regroup spelt) (refused (b ∷ goes.0) (goes.0, refl))

starts_itself : (left : List ℕ) → Starts left left
starts_itself [] = refl
starts_itself (b ∷ bs) = (bs, refl)

unexpected : (text : List ℕ) (place : ℕ) → Stuck 0 start [] [] text place → IsUnexpected text place
unexpected text place h =
    let count : place ≡ length h.done = let c = h.count in omega (arith, c) in
    record {
      inside = let sizes : length text ≡ length h.done + length h.left = ap length h.split ∙ simp length-append in omega (arith, sizes, count);
      front = subst GoesOn (sym (ap (λ n. take n text) count ∙ ap (take (length h.done)) h.split ∙ take-append_seam h.done h.left)) h.goes_on;
      longest = none_longer text h.done h.left place h.split count h.only;
      refused = λ p spelt. never text p (record { at = place; what = what.Unexpected }) spelt (ap (read false 0 start []) h.split ∙ h.only h.left (starts_itself h.left));
    }

-- nothing goes beyond the limits

reads_split : (ws vs : List (List ℕ)) (text rest : List ℕ) → Reads (ws ++ vs) text rest → (mid : List ℕ) × Reads ws text mid × Reads vs mid rest
reads_split [] vs text rest h = (text, refl, h)
reads_split (w ∷ ws) vs text rest h =
    let more = reads_split ws vs h.1 rest h.6 in
    (more.0, (h.0, h.1, h.2, h.3, h.4, h.5, more.1), more.2)

allowed_parts : (w : List ℕ) (u t : State) (b : Option ExprWhat) → beyond true w u ≡ b → allowed b u ≡ Some t → (Some u ≡ Some t) × (beyond true w t ≡ None)
allowed_parts w u t None is h = (h, (let same : u ≡ t = cc in ap (beyond true w) (sym same) ∙ is))
allowed_parts w u t (Some found) is h = absurd cc

led_parts : (w : List ℕ) (t : State) (o : Option State) → led_to true w o ≡ Some t → (o ≡ Some t) × (beyond true w t ≡ None)
led_parts w t None h = absurd cc
led_parts w t (Some u) h = allowed_parts w u t (beyond true w u) refl h

run_holds : (ws ts : List (List ℕ)) (s t : State) → Holds true s ts → run true s ws ≡ Some t → Holds true t (ts ++ ws)
run_holds [] ts s t h r = subst (λ v. Holds true t v) (sym (append-nil ts)) (let same : s ≡ t = cc in subst (λ v. Holds true v ts) same h)
run_holds (w ∷ ws) ts s t h r =
    let next = run_first true w ws t (advance true s w) r in
    let parts = led_parts w next.0 (takes s w) next.1 in
    subst (Holds true t) (append_assoc ts (w ∷ []) ws)
    (run_holds ws (ts ++ w ∷ []) next.0 t (next_holds true s next.0 ts w h parts.0 (limits_from true w next.0 parts.1)) next.2)

run_loose : (ws : List (List ℕ)) (s t : State) → run true s ws ≡ Some t → run false s ws ≡ Some t
run_loose [] s t r = r
run_loose (w ∷ ws) s t r =
    let next = run_first true w ws t (advance true s w) r in
    let parts = led_parts w next.0 (takes s w) next.1 in
    let step : advance false s w ≡ Some next.0 = ap (led_to false w) parts.0 in
    rw (run, step) (run_loose ws next.0 t next.2)

start_holds : Holds true start []
start_holds = (refl, λ d. omega arith)

taken_next : (s : State) (w : List ℕ) (more : List (List ℕ)) (x : Expr) (o : Option State) → takes s w ≡ o → go false s (w ∷ more) ≡ Some x → (t : State) × (takes s w ≡ Some t)
taken_next s w more x None is h =
    let none : advance false s w ≡ None = ap (led_to false w) is in
    let stop : go false s (w ∷ more) ≡ None = rw (go, none) refl in
    absurd cc
taken_next s w more x (Some t) is h = (t, is)

stopped_there : (at : ℕ) (s t : State) (c : ℕ) (cs after : List ℕ) (found : ExprWhat) → Stops (c ∷ cs) after → takes s (c ∷ cs) ≡ Some t → beyond true (c ∷ cs) t ≡ Some found
    → read true at s (c ∷ cs) after ≡ fault (at - length (c ∷ cs)) found
stopped_there at s t c cs [] found stops h out =
    let w = c ∷ cs in
    read-end true at s w ∙ ap (λ p. p >>= λ t. ended at t) (past-some true at s t c cs h ∙ ap (judged (at - length w) t) out)
stopped_there at s t c cs (b ∷ bs) found stops h out =
    let w = c ∷ cs in
    read-fails true at s w b bs (record { at = at - length w; what = found })
    (stepped-past true at s w b stops ∙ ap (λ p. p >>= λ t. begun at t b) (past-some true at s t c cs h ∙ ap (judged (at - length w) t) out))

-- which fault a token is that leads beyond the limits

number_fault_by : (w : List ℕ) (t : State) (found : ExprWhat) (b : Bool) → nat_lt (units w) (2 ^ 63) ≡ b → is_number w ≡ true → beyond true w t ≡ Some found → (b ≡ false) × (found ≡ what.BadNumber)
number_fault_by w t found true small n out = let none : beyond true w t ≡ None = rw (n, small) refl in absurd cc
number_fault_by w t found false small n out = let bad : beyond true w t ≡ Some what.BadNumber = rw (n, small) refl in (refl, cc)

number_fault : (w : List ℕ) (t : State) (found : ExprWhat) → beyond true w t ≡ Some found → is_number w ≡ true → found ≡ what.BadNumber
number_fault w t found out n = (number_fault_by w t found (nat_lt (units w) (2 ^ 63)) refl n out).1

large_number : (w : List ℕ) (t : State) → is_number w ≡ true → beyond true w t ≡ Some what.BadNumber → nat_lt (units w) (2 ^ 63) ≡ false
large_number w t n out = (number_fault_by w t what.BadNumber (nat_lt (units w) (2 ^ 63)) refl n out).0

text_fault_by : (w : List ℕ) (t : State) (found : ExprWhat) (b : Bool) → nat_le (length (said w)) 4096 ≡ b → is_number w ≡ false → is_text w ≡ true → beyond true w t ≡ Some found → (4096 < length (said w)) × (found ≡ what.BadText)
text_fault_by w t found true small n x out = let none : beyond true w t ≡ None = rw (n, x, small) refl in absurd cc
text_fault_by w t found false small n x out = let bad : beyond true w t ≡ Some what.BadText = rw (n, x, small) refl in (leb-false _ _ small, cc)

text_fault : (w : List ℕ) (t : State) (found : ExprWhat) → is_number w ≡ false → is_text w ≡ true → beyond true w t ≡ Some found → (4096 < length (said w)) × (found ≡ what.BadText)
text_fault w t found n x out = text_fault_by w t found (nat_le (length (said w)) 4096) refl n x out

depth_fault_by : (w : List ℕ) (t : State) (found : ExprWhat) (b : Bool) → nat_le (levels_in t.mode t.frames) 64 ≡ b → is_number w ≡ false → is_text w ≡ false → beyond true w t ≡ Some found → found ≡ what.TooDeep
depth_fault_by w t found true small n x out = let none : beyond true w t ≡ None = rw (n, x, small) refl in absurd cc
depth_fault_by w t found false small n x out = let bad : beyond true w t ≡ Some what.TooDeep = rw (n, x, small) refl in cc

depth_fault : (w : List ℕ) (t : State) (found : ExprWhat) → beyond true w t ≡ Some found → (is_number w ≡ true → ⊥) → (is_text w ≡ true → ⊥) → found ≡ what.TooDeep
depth_fault w t found out n x =
    depth_fault_by w t found (nat_le (levels_in t.mode t.frames) 64) refl (false_from_ne_true (is_number w) n) (false_from_ne_true (is_text w) x) out

nil_apart : (a : ℕ) (more : List ℕ) → a ∷ more ≡ [] → ⊥
nil_apart a more h = cc

some_cond : (b : Bool) (s t : State) → cond b (Some s) None ≡ Some t → b ≡ true
some_cond true s t h = refl
some_cond false s t h = absurd cc

-- a number that is too large stands where an operand comes next
operand_number : (o : Mode) (fs : List Frame) (w : List ℕ) (t : State) → nat_lt (units w) (2 ^ 63) ≡ false → takes_in o fs kind.Number w ≡ Some t → o ≡ m.Operand
operand_number m.Operand fs w t large h = refl
operand_number (m.Opening g) fs w t large h = absurd cc
operand_number (m.After l x) fs w t large h = absurd cc
operand_number (m.Is x) fs w t large h = absurd cc
operand_number (m.IsNot x) fs w t large h = absurd cc
operand_number (m.Digit x) fs w t large h = absurd (false≢true (sym large ∙ lt-ltb _ _ (scale_number w (some_cond (is_scale w) _ t h)).1))
operand_number (m.Scaled x n) fs w t large h = absurd cc

point_begins : (s t : State) (c : ℕ) (cs : List ℕ) → is_number (c ∷ cs) ≡ true → nat_lt (units (c ∷ cs)) (2 ^ 63) ≡ false → takes s (c ∷ cs) ≡ Some t → continues (c ∷ cs) 46 ≡ true
    → begins s ((c ∷ cs) ++ 46 ∷ []) ≡ true
point_begins s t c cs n large h goes =
    let w = c ∷ cs in
    let digits = and_parts (is_digit c) _ n in
    let mode = operand_number s.mode s.frames w t large (ap (λ k. takes_in s.mode s.frames k w) (sym (number_kind w n)) ∙ h) in
    elim (number_end (cs ++ 46 ∷ []) (digit_of c 46 cs digits.0 goes)) [
      | inl z ↦ (let u = c ∷ (cs ++ 46 ∷ []) in
          let took = number_taken s.mode s.frames u mode (and_from _ _ digits.0 z) in
          begins_front s took.0 c (cs ++ 46 ∷ []) [] (ap (takes s) (append-nil u) ∙ took.1))
      | inr z ↦ (let u = (c ∷ (cs ++ 46 ∷ [])) ++ 48 ∷ [] in
          let took = number_taken s.mode s.frames u mode (and_from _ _ digits.0 z) in
          begins_front s took.0 c (cs ++ 46 ∷ []) (48 ∷ []) took.1)
    ]

-- digits that are too many already, and a point

refused_point : (at : ℕ) (s : State) (c : ℕ) (u bs : List ℕ) → takes s (c ∷ u) ≡ None → is_bad_already true (c ∷ u) ≡ true → Stops (c ∷ u) bs
    → read true at s (c ∷ u) bs ≡ fault (at - length (c ∷ u)) what.BadNumber
refused_point at s c u [] none bad stops = read-end true at s (c ∷ u) ∙ ap (λ p. p >>= λ t. ended at t) (past-bad at s c u bad none)
refused_point at s c u (b ∷ bs) none bad stops =
    read-fails true at s (c ∷ u) b bs (record { at = at - length (c ∷ u); what = what.BadNumber })
    (stepped-past true at s (c ∷ u) b stops ∙ ap (λ p. p >>= λ t. begun at t b) (past-bad at s c u bad none))

none_of : (s : State) (w : List ℕ) (o : Option State) → takes s w ≡ o → (is_token w ≡ true → ⊥) → o ≡ None
none_of s w None h apart = refl
none_of s w (Some t) h apart = absurd (apart (taken_token s t w h))

snoc_same : (u v : List ℕ) (a b : ℕ) → u ++ a ∷ [] ≡ v ++ b ∷ [] → u ≡ v
snoc_same u v a b h =
    let flipped : a ∷ reverse u ≡ b ∷ reverse v = sym (reverse-append u (a ∷ [])) ∙ ap reverse h ∙ reverse-append v (b ∷ []) in
    let backs : reverse u ≡ reverse v = cc in
    sym (reverse-reverse u) ∙ ap reverse backs ∙ reverse-reverse v

filter_point : (u : List ℕ) → filter is_digit (u ++ 46 ∷ []) ≡ filter is_digit u
filter_point [] = refl
filter_point (b ∷ u) =
    elim (is_digit b) as (λ d. cond d (b ∷ filter is_digit (u ++ 46 ∷ [])) (filter is_digit (u ++ 46 ∷ [])) ≡ cond d (b ∷ filter is_digit u) (filter is_digit u))
    [ true ↦ ap (λ v. b ∷ v) (filter_point u) | false ↦ filter_point u ]

-- what follows the point is no digit
point_ends : (c : ℕ) (cs : List ℕ) (b : ℕ) (bs : List ℕ) → is_digit c ≡ true → IsLongest (c ∷ cs) (46 ∷ b ∷ bs) → (is_token (c ∷ (cs ++ 46 ∷ [])) ≡ true → ⊥)
    → continues (c ∷ (cs ++ 46 ∷ [])) b ≡ true → ⊥
point_ends c cs b bs d longest apart goes =
    elim (pointed ((cs ++ 46 ∷ []) ++ b ∷ []) (digit_of c b (cs ++ 46 ∷ []) d goes)) [
      | inl z ↦ nil_apart 46 (b ∷ []) (longest (46 ∷ b ∷ []) bs refl
          (ap (λ v. is_token (c ∷ v)) (sym (append_assoc cs (46 ∷ []) (b ∷ []))) ∙ token_number (c ∷ ((cs ++ 46 ∷ []) ++ b ∷ [])) (and_from _ _ d z)))
      | inr p ↦ apart (token_number (c ∷ (cs ++ 46 ∷ [])) (and_from _ _ d (ap ends_number (snoc_same (cs ++ 46 ∷ []) p.digits b 46 p.same) ∙ p.number)))
    ]

point_stops : (c : ℕ) (cs bs : List ℕ) → is_digit c ≡ true → ends_number cs ≡ true → IsLongest (c ∷ cs) (46 ∷ bs) → (is_token (c ∷ (cs ++ 46 ∷ [])) ≡ true → ⊥) → Stops (c ∷ (cs ++ 46 ∷ [])) bs
point_stops c cs [] d n longest apart = tt
point_stops c cs (b ∷ bs) d n longest apart = false_from_ne_true (continues (c ∷ (cs ++ 46 ∷ [])) b) (point_ends c cs b bs d longest apart)

point_case : (at : ℕ) (s t : State) (c : ℕ) (cs bs : List ℕ) → is_number (c ∷ cs) ≡ true → takes s (c ∷ cs) ≡ Some t → beyond true (c ∷ cs) t ≡ Some what.BadNumber
    → IsLongest (c ∷ cs) (46 ∷ bs) → continues (c ∷ cs) 46 ≡ true → begins s ((c ∷ cs) ++ 46 ∷ []) ≡ true
    → nat_lt (units (c ∷ cs)) (2 ^ 63) ≡ false → read true at s (c ∷ cs) (46 ∷ bs) ≡ fault (at - length (c ∷ cs)) what.BadNumber
point_case at s t c cs bs n h out longest goes first large =
    let w = c ∷ cs in
    let u = c ∷ (cs ++ 46 ∷ []) in
    let digits = and_parts (is_digit c) _ n in
    let apart : is_token u ≡ true → ⊥ = λ (token : is_token u ≡ true). let none : 46 ∷ [] ≡ [] = longest (46 ∷ []) bs refl token in nil_apart 46 [] none in
    let none : takes s u ≡ None = none_of s u (takes s u) refl apart in
    let d = digits.0 in
    let filtered : filter is_digit u ≡ filter is_digit w = rw d (ap (λ v. c ∷ v) (filter_point cs)) in
    let value : units u ≡ units w = ap (digits_value 10) filtered in
    let big : nat_lt (units u) (2 ^ 63) ≡ false = ap (λ n. nat_lt n (2 ^ 63)) value ∙ large in
    let whole : is_number u ≡ false = false_from_ne_true (is_number u) (λ k. apart (token_number u k)) in
    let starts : begins_number u ≡ true = and_from _ _ digits.0 (digit_of c 46 cs digits.0 goes) in
    let bad : is_bad_already true u ≡ true = and_from _ _ (and_from _ _ starts (not_from_false _ whole)) (not_from_false _ big) in
    read-goes true at s s w u 46 bs (stepped-on true at s w 46 goes first)
    ∙ refused_point (at + 1) s c (cs ++ 46 ∷ []) bs none bad (point_stops c cs bs digits.0 digits.1 longest apart)
    ∙ ap (λ k. fault k what.BadNumber) (let size : length u ≡ length w + 1 = length-append w (46 ∷ []) in let e : at + 1 - length u ≡ at - length w = omega (arith, size) in e)

-- a token beyond the limits stops the reader there

said_length : (o : Bool) (bs : List ℕ) → length (unquoted o bs) ≤ length bs
said_length true [] = omega arith
said_length false [] = omega arith
said_length true (b ∷ bs) =
    elim (b == 39) as (λ q. length (cond q (unquoted false bs) (b ∷ unquoted true bs)) ≤ length (b ∷ bs))
    [ true ↦ omega (arith, said_length false bs) | false ↦ omega (arith, said_length true bs) ]
said_length false (b ∷ bs) = omega (arith, said_length true bs)

-- after a token beyond the limits comes what it doesn't go on with, or it is a number and a point follows
abbrev Follows : List ℕ → List ℕ → Type 0
Follows w after = Stops w after ⊎ ((bs : List ℕ) × (after ≡ 46 ∷ bs) × (is_number w ≡ true) × (continues w 46 ≡ true))

follows_byte : (c : ℕ) (cs : List ℕ) (b : ℕ) (bs : List ℕ) (t : State) (found : ExprWhat) (g : Bool) → continues (c ∷ cs) b ≡ g → is_token (c ∷ cs) ≡ true → IsLongest (c ∷ cs) (b ∷ bs)
    → length (c ∷ cs) ≤ 4096 → beyond true (c ∷ cs) t ≡ Some found → Follows (c ∷ cs) (b ∷ bs)
follows_byte c cs b bs t found false goes token longest small out = inl goes
follows_byte c cs b bs t found true goes token longest small out =
    let w = c ∷ cs in
    elim (tokens_of w token) [
      | inl z ↦ absurd (not_longer w (b ∷ bs) [] bs b longest refl (grown_word c b cs z goes))
      | inr (inl z) ↦ (let parts = and_parts (is_digit c) _ z in
          elim (number_grows cs b parts.1 (digit_of c b cs parts.0 goes)) [
            | inl number ↦ absurd (not_longer w (b ∷ bs) [] bs b longest refl (token_number (w ++ b ∷ []) (and_from _ _ parts.0 number)))
            | inr point ↦ inr (bs, ap (λ x. x ∷ bs) point, z, ap (continues w) (sym point) ∙ goes)
          ])
      | inr (inr (inl z)) ↦ (let long = (text_fault w t found (text_no_number w z) z out).0 in
          let quoted = said_length true cs in
          absurd (omega (arith, long, quoted, small)))
      | inr (inr (inr z)) ↦ absurd (not_longer w (b ∷ bs) [] bs b longest refl
          (token_symbol (w ++ b ∷ []) (grown_symbol c b cs symbols refl (symbol_of c b cs (symbol_plain w z) goes))))
    ]

follows : (c : ℕ) (cs after : List ℕ) (t : State) (found : ExprWhat) → is_token (c ∷ cs) ≡ true → IsLongest (c ∷ cs) after
    → length (c ∷ cs) ≤ 4096 → beyond true (c ∷ cs) t ≡ Some found → Follows (c ∷ cs) after
follows c cs [] t found token longest small out = inl tt
follows c cs (b ∷ bs) t found token longest small out = follows_byte c cs b bs t found (continues (c ∷ cs) b) refl token longest small out

longest_at : (w one two : List ℕ) → one ≡ two → IsLongest w one → IsLongest w two
longest_at w one two same h = subst (IsLongest w) same h

stopped_by : (at : ℕ) (s t : State) (c : ℕ) (cs after : List ℕ) (found : ExprWhat) → Follows (c ∷ cs) after → IsLongest (c ∷ cs) after → takes s (c ∷ cs) ≡ Some t → beyond true (c ∷ cs) t ≡ Some found
    → read true at s (c ∷ cs) after ≡ fault (at - length (c ∷ cs)) found
stopped_by at s t c cs after found (inl stops) longest h out = stopped_there at s t c cs after found stops h out
stopped_by at s t c cs after found (inr p) longest h out =
    let w = c ∷ cs in
    let is : found ≡ what.BadNumber = number_fault w t found out p.2 in
    let out_number : beyond true w t ≡ Some what.BadNumber = out ∙ ap Some is in
    let digits = and_parts (is_digit c) _ p.2 in
    ap (read true at s w) p.1
    ∙ point_case at s t c cs p.0 p.2 h out_number (longest_at w after (46 ∷ p.0) p.1 longest) p.3 (point_begins s t c cs p.2 (large_number w t p.2 out_number) h p.3)
    (large_number w t p.2 out_number)
    ∙ ap (fault (at - length w)) (sym is)

read_beyond : (s t : State) (w : List ℕ) (at place : ℕ) (spaces after mid : List ℕ) (found : ExprWhat) → AreSpaces spaces → mid ≡ spaces ++ w ++ after → is_token w ≡ true
    → IsLongest w after → length w ≤ 4096 → takes s w ≡ Some t → beyond true w t ≡ Some found → place ≡ at + length spaces → read true at s [] mid ≡ fault place found
read_beyond s t [] at place spaces after mid found blank same token longest small h out count = absurd (false≢true token)
read_beyond s t (c ∷ cs) at place spaces after mid found blank same token longest small h out count =
    let w = c ∷ cs in
    let there = at + length spaces + length w in
    ap (read true at s []) (same ∙ append_assoc spaces w after) ∙ read_spaces true at s spaces (w ++ after) blank ∙ read_token true (at + length spaces) s t c cs after h
    ∙ stopped_by there s t c cs after found (follows c cs after t found token longest small out) longest h out
    ∙ ap (λ n. fault n found) (let e : at + length spaces + length w - length w ≡ place = omega (arith, count) in e)

-- the reader is stopped by what is beyond the limits
record IsStopped (text : List ℕ) (at : ℕ) (w : List ℕ) : Type 0 where
  next : State
  found : ExprWhat
  out : beyond true w next ≡ Some found
  same : read true 0 start [] text ≡ fault at found

stopped_at : (text : List ℕ) (place : ℕ) (s t : State) (w : List ℕ) (before : List (List ℕ)) (at : ℕ) (spaces after mid : List ℕ) (o : Option ExprWhat) → beyond true w t ≡ o → takes s w ≡ Some t
    → Holds true s before → (BeginsWithin (before ++ w ∷ []) → ⊥) → AreSpaces spaces → mid ≡ spaces ++ w ++ after → is_token w ≡ true → IsLongest w after → length w ≤ 4096
    → place ≡ at + length spaces → read true 0 start [] text ≡ read true at s [] mid → IsStopped text place w
stopped_at text place s t w before at spaces after mid None inside h holds beyond_it blank same token longest small count r =
    absurd (beyond_it (begins_within (before ++ w ∷ []) (completed true t (before ++ w ∷ []) (next_holds true s t before w holds h (limits_from true w t inside)))))
stopped_at text place s t w before at spaces after mid (Some found) out h holds beyond_it blank same token longest small count r =
    record { next = t; found = found; out = out; same = r ∙ read_beyond s t w at place spaces after mid found blank same token longest small h out count }

stopped : (text : List ℕ) (at : ℕ) (w : List ℕ) → length text ≤ 4096 → IsBeyond text at w → IsStopped text at w
stopped text at w size b =
    let p = b.within.1 in
    let inside : go true start (b.before ++ b.within.0) ≡ Some (tree p) =
    ap (go true start) (sym b.within.4) ∙ tokens_taken true p b.within.2 (λ d. b.within.3) in
    let ran = run_split true b.before b.within.0 start (tree p) inside in
    let s = ran.0 in
    let reads = reads_split b.before (w ∷ []) text b.rest b.read in
    let passed = passes true b.before 0 start s text reads.0 reads.1 (subst Tidy (sym reads.2.3) (tidy_word reads.2.0 w reads.2.1 reads.2.2 reads.2.4)) ran.1 in
    let q = b.goes_on.1 in
    let opened : go false start (b.before ++ w ∷ b.goes_on.0) ≡ Some (tree q) =
    ap (go false start) (sym (b.goes_on.3 ∙ append_assoc b.before (w ∷ []) b.goes_on.0)) ∙ tokens_taken false q b.goes_on.2 (λ d. absurd (false≢true d)) in
    let other = run_split false b.before (w ∷ b.goes_on.0) start (tree q) opened in
    let same : other.0 ≡ s = let one = run_loose b.before start s ran.1 in let two = other.1 in cc in
    let more : go false s (w ∷ b.goes_on.0) ≡ Some (tree q) = subst (λ v. go false v (w ∷ b.goes_on.0) ≡ Some (tree q)) same other.2 in
    let next = taken_next s w b.goes_on.0 (tree q) (takes s w) refl more in
    let ends : reads.2.1 ≡ b.rest = reads.2.6 in
    let sizes : length reads.0 ≡ length reads.2.0 + length w + length b.rest = ap length reads.2.3 ∙ ap (λ z. length (reads.2.0 ++ w ++ z)) ends ∙ simp length-append in
    let counted = passed.count in
    let placed = b.place in
    let count : at ≡ passed.place + length reads.2.0 = omega (arith, sizes, counted, placed) in
    stopped_at text at s next.0 w b.before passed.place reads.2.0 reads.2.1 reads.0 (beyond true w next.0) refl next.1
    (run_holds b.before [] start s start_holds ran.1) b.beyond reads.2.2 reads.2.3 reads.2.4 reads.2.5 (omega (arith, placed, size)) count passed.same

not_unexpected : (w : List ℕ) (t : State) (found : ExprWhat) → beyond true w t ≡ Some found → (what.Unexpected ≡ found) → ⊥
not_unexpected w t found out same = never_unexpected w t (out ∙ ap Some (sym same))

stays : (text : List ℕ) (place : ℕ) → length text ≤ 4096 → read true 0 start [] text ≡ fault place what.Unexpected → StaysWithin text
stays text place size h at w b =
    let stop = stopped text at w size b in
    let both : failed (record { at = place; what = what.Unexpected }) ≡ failed (record { at = at; what = stop.found }) = sym h ∙ stop.same in
    not_unexpected w stop.next stop.found stop.out (what_of (record { at = place; what = what.Unexpected }) (record { at = at; what = stop.found }) both)

-- the fault

fault_is : (text : List ℕ) (place : ℕ) (w : ExprWhat) → length text ≤ 4096 → read true 0 start [] text ≡ fault place w → Wrong 0 start [] [] text place w → IsFault text place w
fault_is text place what.Unexpected size r h = (stays text place size r, unexpected text place h)
fault_is text place what.BadNumber size r h = h
fault_is text place what.BadText size r h = h
fault_is text place what.TooDeep size r h = h
fault_is text place what.TooLong size r h = h

pub faulted : (text : List ℕ) (f : ExprFault) → length text ≤ 4096 → read true 0 start [] text ≡ Err f → IsFault text f.at f.what
faulted text f size r = fault_is text f.at f.what size r (subst (Outcome 0 start [] [] text) r (outcome_of text))

-- the reading of a text

short : (text : List ℕ) → length text ≤ 4096 → reading text ≡ read true 0 start [] text
unfolding reading
short text h = rw (le-leb (length text) 4096 h) refl

long : (text : List ℕ) → 4096 < length text → reading text ≡ fault 4096 what.TooLong
unfolding reading
long text h = rw (lt-leb (length text) 4096 h) refl

pub reading_only : (text : List ℕ) (x : Expr) → IsText text x → reading text ≡ Ok x
reading_only text x h =
    short text h.0 ∙ only true text h.1 (λ d. h.2) h.3 ∙ ap Ok h.4

found_in : (text : List ℕ) (x : Expr) (b : Bool) → nat_le (length text) 4096 ≡ b → reading text ≡ Ok x → IsText text x
found_in text x true small h =
    let size = leb-true (length text) 4096 small in
    let s = found text x (sym (short text size) ∙ h) in
    (size, s.0, s.1, s.2, s.3)
found_in text x false large h = let e = long text (leb-false (length text) 4096 large) in absurd cc

pub reading_found : (text : List ℕ) (x : Expr) → reading text ≡ Ok x → IsText text x
reading_found text x h = found_in text x (nat_le (length text) 4096) refl h

faulted_in : (text : List ℕ) (f : ExprFault) (b : Bool) → nat_le (length text) 4096 ≡ b → reading text ≡ Err f → IsFirstFault text f
faulted_in text f true small h =
    let size = leb-true (length text) 4096 small in
    inr (size, faulted text f size (sym (short text size) ∙ h))
faulted_in text f false large h =
    let size = leb-false (length text) 4096 large in
    let both : (record { at = 4096; what = what.TooLong }) ≡ f = err_same (record { at = 4096; what = what.TooLong }) f (sym (long text size) ∙ h) in
    inl (size, ap (λ g. g.at) (sym both), ap (λ g. g.what) (sym both))

pub reading_faulted : (text : List ℕ) (f : ExprFault) → reading text ≡ Err f → IsFirstFault text f
reading_faulted text f h = faulted_in text f (nat_le (length text) 4096) refl h

-- each text has one first fault

take_of_take : (text : List ℕ) (m n : ℕ) → m ≤ n → take m (take n text) ≡ take m text
take_of_take text m n h = take-take m n text h

take_front : (text : List ℕ) (m n : ℕ) → m ≤ n → take n text ≡ take m text ++ drop m (take n text)
take_front text m n h =
    sym (take-append-drop m (take n text)) ∙ ap (λ t. t ++ drop m (take n text)) (take_of_take text m n h)

goes_front : (u v : List ℕ) → GoesOn (u ++ v) → GoesOn u
goes_front u v g = (v ++ g.0, g.1, subst (IsSpelt g.1) (append_assoc u v g.0) g.2)

no_earlier : (text : List ℕ) (m n : ℕ) → m < n → IsUnexpected text m → IsUnexpected text n → ⊥
no_earlier text m n h one two =
    let inside = two.inside in
    one.longest (omega (arith, inside)) (goes_front (take (m + 1) text) (drop (m + 1) (take n text)) (subst GoesOn (take_front text (m + 1) n (omega arith)) two.front))

one_place : (text : List ℕ) (m n : ℕ) → IsUnexpected text m → IsUnexpected text n → m ≡ n
one_place text m n one two =
    elim (cases_order m n) [
      | inl same ↦ same
      | inr (inl before) ↦ absurd (no_earlier text m n before one two)
      | inr (inr after) ↦ absurd (no_earlier text n m after two one)
    ]

unexpected_what : (text : List ℕ) (at place : ℕ) (w : ExprWhat) → StaysWithin text → IsUnexpected text at → IsFault text place w → failed (record { at = place; what = w }) ≡ failed (record { at = at; what = what.Unexpected })
unexpected_what text at place what.Unexpected stay h g = ap (λ n. failed (record { at = n; what = what.Unexpected })) (one_place text place at g.1 h)
unexpected_what text at place what.BadNumber stay h g = absurd (stay place g.0 g.2)
unexpected_what text at place what.BadText stay h g = absurd (stay place g.0 g.2)
unexpected_what text at place what.TooDeep stay h g = absurd (stay place g.0 g.3)
unexpected_what text at place what.TooLong stay h g = absurd g

unexpected_read : (text : List ℕ) (at : ℕ) (r : Result Expr ExprFault) → length text ≤ 4096 → read true 0 start [] text ≡ r → StaysWithin text → IsUnexpected text at → r ≡ fault at what.Unexpected
unexpected_read text at (Ok x) size same stay h = let s = found text x same in absurd (h.refused s.0 s.2)
unexpected_read text at (Err g) size same stay h = unexpected_what text at g.at g.what stay h (faulted text g size same)

fault_read : (text : List ℕ) (at : ℕ) (w : ExprWhat) → length text ≤ 4096 → IsFault text at w → read true 0 start [] text ≡ fault at w
fault_read text at what.Unexpected size h = unexpected_read text at (read true 0 start [] text) size refl h.0 h.1
fault_read text at what.BadNumber size h =
    let stop = stopped text at h.0 size h.2 in
    stop.same ∙ ap (λ w. fault at w) (number_fault h.0 stop.next stop.found stop.out h.1)
fault_read text at what.BadText size h =
    let stop = stopped text at h.0 size h.2 in
    stop.same ∙ ap (λ w. fault at w) (text_fault h.0 stop.next stop.found (text_no_number h.0 h.1) h.1 stop.out).1
fault_read text at what.TooDeep size h =
    let stop = stopped text at h.0 size h.3 in
    stop.same ∙ ap (λ w. fault at w) (depth_fault h.0 stop.next stop.found stop.out h.1 h.2)
fault_read text at what.TooLong size h = absurd h

pub reading_exact : (text : List ℕ) (f : ExprFault) → IsFirstFault text f → reading text ≡ Err f
reading_exact text f (inl h) = long text h.0 ∙ ap (λ n. fault n what.TooLong) (sym h.1) ∙ ap (λ w. fault f.at w) (sym h.2)
reading_exact text f (inr h) = short text h.0 ∙ fault_read text f.at f.what h.0 h.1

-- what a call that gives the reading says

pub given_found : (text : List ℕ) (r : Result Expr (Stop ExprFault)) → Gives r (reading text) → IfOk r (λ x. IsText text x)
given_found text (Ok x) h = reading_found text x h
given_found text (Err e) h = tt

pub given_fault : (text : List ℕ) (r : Result Expr (Stop ExprFault)) → Gives r (reading text) → IfFault r (λ f. IsFirstFault text f)
given_fault text (Ok x) h = tt
given_fault text (Err stop.Memory) h = tt
given_fault text (Err (stop.Fault f)) h = reading_faulted text f h

pub given_at : (r : Result Expr (Stop ExprFault)) (one two : Result Expr ExprFault) → one ≡ two → Gives r one → Gives r two
given_at r one two same h = subst (Gives r) same h

-- each text has one expression or one first fault

pub one_expression : (text : List ℕ) (x y : Expr) → IsText text x → IsText text y → x ≡ y
one_expression text x y h k = ok_same x y (sym (reading_only text x h) ∙ reading_only text y k)

pub one_fault : (text : List ℕ) (f g : ExprFault) → IsFirstFault text f → IsFirstFault text g → f ≡ g
one_fault text f g h k = err_same f g (sym (reading_exact text f h) ∙ reading_exact text g k)

pub not_both : (text : List ℕ) (x : Expr) (f : ExprFault) → IsText text x → IsFirstFault text f → ⊥
not_both text x f h k = ok_err x f (sym (reading_only text x h) ∙ reading_exact text f k)

either_by : (text : List ℕ) (r : Result Expr ExprFault) → reading text ≡ r → ((x : Expr) × IsText text x) ⊎ ((f : ExprFault) × IsFirstFault text f)
either_by text (Ok x) h = inl (x, reading_found text x h)
either_by text (Err f) h = inr (f, reading_faulted text f h)

pub either : (text : List ℕ) → ((x : Expr) × IsText text x) ⊎ ((f : ExprFault) × IsFirstFault text f)
either text = either_by text (reading text) refl

read_by : (text : List ℕ) (r : Result Expr ExprFault) → reading text ≡ r → IsRead text r
read_by text (Ok x) h = reading_found text x h
read_by text (Err f) h = reading_faulted text f h

pub reads : (text : List ℕ) → IsRead text (reading text)
reads text = read_by text (reading text) refl
