-- The reader's answer: an expression, a fault of limits, or the place where nothing goes on.
use Rattle.std.proofs.Common.{◌≡◌, ℕ, pos, ◌+◌, ◌-◌, ◌≤◌, ◌^◌, List, [], ◌∷◌, ◌++◌, length, filter, Option, Some, None, Result, Ok, Err, Bool, true, false, cond, ◌⊎◌, inl, inr, nat_le, nat_lt, eqb, refl, sym, ap, subst, ◌∙◌, append_assoc, append-nil, length-append, arith}
use Rattle.std.proofs.lemmas.Bool.{false≢true, and_parts, and_from}
use Rattle.std.specs.Str.Parse.{digits_value}
use Rattle.tuple_schema.specs.Texts.{is_digit}
use Rattle.expr_grammar.specs.Tokens.{is_number, is_text, units, places, said, is_token, IsLongest, Spells}
use Rattle.expr_grammar.specs.Texts.{GoesOn, Begins, BeginsWithin, IsBeyond, IsFault}
use Rattle.expr_grammar.specs.Kinds.{kind_of, continues}
use Rattle.expr_grammar.specs.declared.state.Kind.TheVariants as kind
use Rattle.expr_grammar.specs.Phrases.{Phrase, tokens, depth, LeavesFit, IsWithin, tree}
use Rattle.tuple_schema.specs.Stops.{◌>>=◌}
use Rattle.expr_grammar.specs.Machine.{State, at_mode, reduce, is_bad_already, takes, takes_in, begins, beyond, levels_in, judged, fault, begun, stepped, read, ended, whole, start}
use Rattle.expr_grammar.specs.declared.expr.Expr.{Expr}
use Rattle.expr_grammar.specs.declared.expr.Expr.TheVariants as e
use Rattle.expr_grammar.specs.declared.fault.ExprFault.{ExprFault}
use Rattle.expr_grammar.specs.declared.fault.ExprWhat.{ExprWhat}
use Rattle.expr_grammar.specs.declared.fault.ExprWhat.TheVariants as what
use Rattle.expr_grammar.specs.declared.state.Frame.{Frame}
use Rattle.expr_grammar.specs.declared.state.Mode.{Mode}
use Rattle.expr_grammar.specs.declared.state.Mode.TheVariants as m
use Rattle.expr_grammar.proofs.Complete.{advance, led_to, allowed, go, tokens_taken, all_of, finish_in, number_kind, after}
use Rattle.expr_grammar.proofs.Holes.{Holds, Completed, completed}
use Rattle.expr_grammar.proofs.Sound.{next_holds, limits_from, Whole, whole_of}
use Rattle.expr_grammar.proofs.Lexical.{Stops, longest_from_stops, not_true, token_number}
use Rattle.expr_grammar.proofs.Standing.{ended_of, taken_token}
use Rattle.expr_grammar.proofs.Points.{Pointed, pointed, digit_token}
use Rattle.expr_grammar.proofs.Bytes.{past-none, past-bad, past-some, past-nothing, read-end, stepped-on, stepped-off, stepped-past, begun-token, begun-none, read-goes, read-fails}
use Rattle.expr_grammar.proofs.Outcome.{Reached, Ready, reached_start, ready_between, ready_token, reached_space, reached_first, reached_longer, goes, regroup_bytes, regroup_words}

abbrev pub Starts : List ℕ → List ℕ → Type 0
Starts [] after = after ≡ []
Starts (b ∷ bs) after = (more : List ℕ) × (after ≡ b ∷ more)

-- the text goes on up to this place, and whatever begins so and with the next byte, if there is one, is refused there
pub record Stuck (at : ℕ) (s : State) (u read_so_far rest : List ℕ) (place : ℕ) : Type 0 where
  pub done : List ℕ
  pub left : List ℕ
  pub split : rest ≡ done ++ left
  pub count : place ≡ at + length done
  pub goes_on : GoesOn (read_so_far ++ done)
  pub only : (after : List ℕ) → Starts left after → read false at s u (done ++ after) ≡ fault place what.Unexpected

pub record Found (x : Expr) (text : List ℕ) : Type 0 where
  pub words : List (List ℕ)
  pub whole : Whole true x words
  pub spelt : Spells words text

abbrev pub Wrong : ℕ → State → List ℕ → List ℕ → List ℕ → ℕ → ExprWhat → Type 0
Wrong at s u front rest place what.Unexpected = Stuck at s u (front ++ u) rest place
Wrong at s u front rest place what.BadNumber = IsFault (front ++ (u ++ rest)) place what.BadNumber
Wrong at s u front rest place what.BadText = IsFault (front ++ (u ++ rest)) place what.BadText
Wrong at s u front rest place what.TooDeep = IsFault (front ++ (u ++ rest)) place what.TooDeep
Wrong at s u front rest place what.TooLong = ⊥

abbrev pub Outcome : ℕ → State → List ℕ → List ℕ → List ℕ → Result Expr ExprFault → Type 0
Outcome at s u front rest (Ok x) = Found x (front ++ (u ++ rest))
Outcome at s u front rest (Err f) = Wrong at s u front rest f.at f.what

-- one byte earlier

same_text : (front u front2 u2 bs : List ℕ) (b : ℕ) → front2 ++ u2 ≡ (front ++ u) ++ b ∷ [] → front2 ++ (u2 ++ bs) ≡ front ++ (u ++ b ∷ bs)
same_text front u front2 u2 bs b h =
    regroup_bytes front2 u2 bs ∙ ap (λ t. t ++ bs) h ∙ append_assoc (front ++ u) (b ∷ []) bs ∙ append_assoc front u (b ∷ bs)

wrong_later : (at : ℕ) (s s2 : State) (u front u2 front2 bs : List ℕ) (b place : ℕ) (w : ExprWhat) → front2 ++ u2 ≡ (front ++ u) ++ b ∷ []
    → ((more : List ℕ) → read false at s u (b ∷ more) ≡ read false (at + 1) s2 u2 more)
    → Wrong (at + 1) s2 u2 front2 bs place w → Wrong at s u front (b ∷ bs) place w
wrong_later at s s2 u front u2 front2 bs b place what.Unexpected same next h = record {
  done = b ∷ h.done;
  left = h.left;
  split = ap (λ t. b ∷ t) h.split;
  count = let c = h.count in omega (arith, c);
  goes_on = subst GoesOn (ap (λ t. t ++ h.done) same ∙ append_assoc (front ++ u) (b ∷ []) h.done) h.goes_on;
  only = λ after starts. next (h.done ++ after) ∙ h.only after starts;
}
wrong_later at s s2 u front u2 front2 bs b place what.BadNumber same next h = subst (λ t. IsFault t place what.BadNumber) (same_text front u front2 u2 bs b same) h
wrong_later at s s2 u front u2 front2 bs b place what.BadText same next h = subst (λ t. IsFault t place what.BadText) (same_text front u front2 u2 bs b same) h
wrong_later at s s2 u front u2 front2 bs b place what.TooDeep same next h = subst (λ t. IsFault t place what.TooDeep) (same_text front u front2 u2 bs b same) h
wrong_later at s s2 u front u2 front2 bs b place what.TooLong same next h = h

later : (at : ℕ) (s s2 : State) (u front u2 front2 bs : List ℕ) (b : ℕ) (r : Result Expr ExprFault) → front2 ++ u2 ≡ (front ++ u) ++ b ∷ []
    → ((more : List ℕ) → read false at s u (b ∷ more) ≡ read false (at + 1) s2 u2 more)
    → Outcome (at + 1) s2 u2 front2 bs r → Outcome at s u front (b ∷ bs) r
later at s s2 u front u2 front2 bs b (Ok x) same next h = subst (Found x) (same_text front u front2 u2 bs b same) h
later at s s2 u front u2 front2 bs b (Err f) same next h = wrong_later at s s2 u front u2 front2 bs b f.at f.what same next h

-- here

here : (at : ℕ) (s : State) (u front rest : List ℕ) → Reached s u front → ((after : List ℕ) → Starts rest after → read false at s u after ≡ fault at what.Unexpected)
    → Stuck at s u (front ++ u) rest at
here at s u front rest r only = record {
  done = [];
  left = rest;
  split = refl;
  count = omega arith;
  goes_on = subst GoesOn (sym (append-nil (front ++ u))) (goes s u front r);
  only = only;
}

-- refused at this byte
here_byte : (at : ℕ) (s : State) (u front bs : List ℕ) (b : ℕ) → Reached s u front
    → stepped false at s u b ≡ fault at what.Unexpected → stepped true at s u b ≡ fault at what.Unexpected
    → Outcome at s u front (b ∷ bs) (read true at s u (b ∷ bs))
here_byte at s u front bs b r loose strict =
    subst (Outcome at s u front (b ∷ bs)) (sym (read-fails true at s u b bs (record { at = at; what = what.Unexpected }) strict))
    (here at s u front (b ∷ bs) r (λ after starts.
    ap (read false at s u) starts.1 ∙ read-fails false at s u b starts.0 (record { at = at; what = what.Unexpected }) loose))

-- gone on with this byte
later_byte : (at : ℕ) (s s2 : State) (u front u2 front2 bs : List ℕ) (b : ℕ) → front2 ++ u2 ≡ (front ++ u) ++ b ∷ []
    → stepped false at s u b ≡ Ok (s2, u2) → stepped true at s u b ≡ Ok (s2, u2)
    → Outcome (at + 1) s2 u2 front2 bs (read true (at + 1) s2 u2 bs) → Outcome at s u front (b ∷ bs) (read true at s u (b ∷ bs))
later_byte at s s2 u front u2 front2 bs b same loose strict h =
    subst (Outcome at s u front (b ∷ bs)) (sym (read-goes true at s s2 u u2 b bs strict))
    (later at s s2 u front u2 front2 bs b (read true (at + 1) s2 u2 bs) same (λ more. read-goes false at s s2 u u2 b more loose) h)

-- a token that leads beyond the limits

pub within_of : (p : Phrase) → (true ≡ true → (0 + depth p ≤ 64) × LeavesFit p) → IsWithin p
within_of p h = let r = (h refl).0 in (omega (arith, r), (h refl).1)

pub begins_within : (ws : List (List ℕ)) → Completed true ws → BeginsWithin ws
begins_within ws c = (c.more, c.phrase, c.is_phrase, within_of c.phrase c.room, c.spelt)

begins_some : (ws : List (List ℕ)) → Completed false ws → Begins ws
begins_some ws c = (c.more, c.phrase, c.is_phrase, c.spelt)

stops_at : (s t : State) (w : List ℕ) (more : List (List ℕ)) (found : ExprWhat) → takes s w ≡ Some t → beyond true w t ≡ Some found → go true s (w ∷ more) ≡ None
stops_at s t w more found h out =
    let none : advance true s w ≡ None = ap (led_to true w) h ∙ ap (λ o. allowed o t) out in
    rw (go, none) refl

not_within : (s t : State) (w : List ℕ) (ws : List (List ℕ)) (found : ExprWhat) → ((more : List (List ℕ)) → go true start (ws ++ more) ≡ go true s more)
    → takes s w ≡ Some t → beyond true w t ≡ Some found → BeginsWithin (ws ++ w ∷ []) → ⊥
not_within s t w ws found ran h out b =
    let p = b.1 in
    let ok : go true start (tokens p) ≡ Some (tree p) = tokens_taken true p b.2 (λ d. b.3) in
    let none : go true s (w ∷ b.0) ≡ None = stops_at s t w b.0 found h out in
    let same : go true start (tokens p) ≡ None = ap (go true start) (b.4 ∙ sym (regroup_words ws b.0 w)) ∙ ran (w ∷ b.0) ∙ none in
    cc

-- which fault it is

abbrev pub Found_by : Bool → Bool → Bool → Bool → Bool → Option ExprWhat
Found_by n b x c d = cond n (cond b None (Some what.BadNumber)) (cond x (cond c None (Some what.BadText)) (cond d None (Some what.TooDeep)))

fault_what : (place_of : List ℕ) (place : ℕ) (w : List ℕ) (found : ExprWhat) (n b x c d : Bool) → is_number w ≡ n → is_text w ≡ x → IsBeyond place_of place w
    → Found_by n b x c d ≡ Some found → IsFault place_of place found
fault_what t place w found true true x c d is tx h same = absurd cc
fault_what t place w found true false x c d is tx h same = subst (IsFault t place) (let both : what.BadNumber ≡ found = cc in both) (w, is, h)
fault_what t place w found false b true true d is tx h same = absurd cc
fault_what t place w found false b true false d is tx h same = subst (IsFault t place) (let both : what.BadText ≡ found = cc in both) (w, tx, h)
fault_what t place w found false b false c true is tx h same = absurd cc
fault_what t place w found false b false c false is tx h same =
    subst (IsFault t place) (let both : what.TooDeep ≡ found = cc in both) (w, (λ n. false≢true (sym is ∙ n)), (λ n. false≢true (sym tx ∙ n)), h)

abbrev small_number : List ℕ → Bool
small_number w = nat_lt (units w) (2 ^ 63)

abbrev small_text : List ℕ → Bool
small_text w = nat_le (length (said w)) 4096

abbrev not_deep : State → Bool
not_deep t = nat_le (levels_in t.mode t.frames) 64

beyond_fault : (place_of : List ℕ) (place : ℕ) (w : List ℕ) (t : State) (found : ExprWhat) → beyond true w t ≡ Some found → IsBeyond place_of place w → IsFault place_of place found
beyond_fault o place w t found out h =
    fault_what o place w found (is_number w) (small_number w) (is_text w) (small_text w) (not_deep t) refl refl h out

never_by : (n b x c d : Bool) → Found_by n b x c d ≡ Some what.Unexpected → ⊥
never_by true true x c d h = cc
never_by true false x c d h = cc
never_by false b true true d h = cc
never_by false b true false d h = cc
never_by false b false c true h = cc
never_by false b false c false h = cc

pub never_unexpected : (w : List ℕ) (t : State) → beyond true w t ≡ Some what.Unexpected → ⊥
never_unexpected w t h = never_by (is_number w) (small_number w) (is_text w) (small_text w) (not_deep t) h

-- the fault in the reader's answer
wrong_from : (at : ℕ) (s : State) (u front rest : List ℕ) (place : ℕ) (w : List ℕ) (t : State) (found : ExprWhat) → beyond true w t ≡ Some found
    → IsFault (front ++ (u ++ rest)) place found → Wrong at s u front rest place found
wrong_from at s u front rest place w t what.BadNumber out h = h
wrong_from at s u front rest place w t what.BadText out h = h
wrong_from at s u front rest place w t what.TooDeep out h = h
wrong_from at s u front rest place w t what.TooLong out h = h
wrong_from at s u front rest place w t what.Unexpected out h = absurd (never_unexpected w t out)

beyond_here : (at : ℕ) (s t : State) (c : ℕ) (cs front rest : List ℕ) (found : ExprWhat) → Reached s (c ∷ cs) front → at ≡ length front + length (c ∷ cs)
    → takes s (c ∷ cs) ≡ Some t → beyond true (c ∷ cs) t ≡ Some found → Stops (c ∷ cs) rest
    → Wrong at s (c ∷ cs) front rest (at - length (c ∷ cs)) found
beyond_here at s t c cs front rest found r place h out stops =
    let w = c ∷ cs in
    let text = front ++ (w ++ rest) in
    let sizes : length text ≡ length front + (length w + length rest) = simp length-append in
    wrong_from at s w front rest (at - length w) w t found out
    (beyond_fault text (at - length w) w t found out
    (record {
      before = r.words;
      rest = rest;
      read = r.onward w [] rest rest ([], rest, refl, refl, taken_token s t w h, longest_from_stops c cs rest stops, refl);
      place = omega (arith, sizes, place);
      within = begins_within r.words (completed true s r.words r.strictly);
      goes_on = begins_some (r.words ++ w ∷ []) (completed false t (r.words ++ w ∷ []) (next_holds false s t r.words w r.loosely h (limits_from false w t refl)));
      beyond = not_within s t w r.words found r.ran h out;
    }))

-- digits that are too many already, and a point after them that leads nowhere

operand_of : (o : Mode) (fs : List Frame) (c d : ℕ) (ds : List ℕ) (t : State) → takes_in o fs kind.Number (c ∷ d ∷ ds) ≡ Some t → o ≡ m.Operand
operand_of m.Operand fs c d ds t h = refl
operand_of (m.Opening g) fs c d ds t h = absurd cc
operand_of (m.After l x) fs c d ds t h = absurd cc
operand_of (m.Is x) fs c d ds t h = absurd cc
operand_of (m.IsNot x) fs c d ds t h = absurd cc
operand_of (m.Digit x) fs c d ds t h = absurd cc
operand_of (m.Scaled x n) fs c d ds t h = absurd cc

operand_at : (o : Mode) (fs : List Frame) (c : ℕ) (ds tail : List ℕ) (t : State) → is_number ((c ∷ (ds ++ 46 ∷ [])) ++ tail) ≡ true
    → takes_in o fs (kind_of ((c ∷ (ds ++ 46 ∷ [])) ++ tail)) ((c ∷ (ds ++ 46 ∷ [])) ++ tail) ≡ Some t → o ≡ m.Operand
operand_at o fs c [] tail t n h = operand_of o fs c 46 tail t (ap (λ k. takes_in o fs k (c ∷ 46 ∷ tail)) (sym (number_kind (c ∷ 46 ∷ tail) n)) ∙ h)
operand_at o fs c (d ∷ ds) tail t n h =
    let w = c ∷ d ∷ ((ds ++ 46 ∷ []) ++ tail) in
    operand_of o fs c d ((ds ++ 46 ∷ []) ++ tail) t (ap (λ k. takes_in o fs k w) (sym (number_kind w n)) ∙ h)

-- where an operand comes next a number is taken
pub number_taken : (o : Mode) (fs : List Frame) (w : List ℕ) → o ≡ m.Operand → is_number w ≡ true → (t : State) × (takes (at_mode o fs) w ≡ Some t)
number_taken o fs w same n =
    let t : State = after 8 (e.Number (pos (units w)) (places w)) fs in
    (t, ap (λ x. takes_in x fs (kind_of w) w) same ∙ ap (λ k. takes_in m.Operand fs k w) (number_kind w n))

-- the number is the longest token there
pointed_longest : (c : ℕ) (ds rest : List ℕ) → is_digit c ≡ true → (is_token (c ∷ (ds ++ 46 ∷ [])) ≡ true → ⊥) → Stops (c ∷ (ds ++ 46 ∷ [])) rest → IsLongest (c ∷ ds) (46 ∷ rest)
pointed_longest c ds rest d none stops [] after same token = refl
pointed_longest c ds rest d none stops (b ∷ []) after same token = let point : b ≡ 46 = cc in absurd (none (ap (λ x. is_token (c ∷ (ds ++ x ∷ []))) (sym point) ∙ token))
pointed_longest c ds rest d none stops (b ∷ x ∷ v) after same token =
    let point : b ≡ 46 = cc in
    let next : rest ≡ (x ∷ v) ++ after = cc in
    let u = c ∷ (ds ++ 46 ∷ []) in
    let longer : is_token (u ++ x ∷ v) ≡ true = ap is_token (append_assoc (c ∷ ds) (46 ∷ []) (x ∷ v)) ∙ ap (λ y. is_token ((c ∷ ds) ++ y ∷ x ∷ v)) (sym point) ∙ token in
    let none_more : x ∷ v ≡ [] = longest_from_stops c (ds ++ 46 ∷ []) rest stops (x ∷ v) after next longer in
    cc

bad_with : (at : ℕ) (s : State) (c : ℕ) (cs front rest : List ℕ) → Reached s (c ∷ cs) front → at ≡ length front + length (c ∷ cs) → is_digit c ≡ true
    → (is_token (c ∷ cs) ≡ true → ⊥) → nat_lt (units (c ∷ cs)) (2 ^ 63) ≡ false → Stops (c ∷ cs) rest → Pointed cs
    → IsFault (front ++ ((c ∷ cs) ++ rest)) (at - length (c ∷ cs)) what.BadNumber
bad_with at s c cs front rest r place d none large stops p =
    let w = c ∷ p.digits in
    let u = c ∷ cs in
    let same : c ∷ (p.digits ++ 46 ∷ []) ≡ c ∷ cs = ap (λ v. c ∷ v) (sym p.same) in
    let number : is_number w ≡ true = and_from _ _ d p.number in
    let end = ended_of s u r.first in
    let longer : is_number (u ++ end.tail) ≡ true = digit_token c (cs ++ end.tail) d (taken_token s end.next (u ++ end.tail) end.taken) in
    let mode = operand_at s.mode s.frames c p.digits end.tail end.next (ap (λ v. is_number (v ++ end.tail)) same ∙ longer)
    (ap (λ v. takes_in s.mode s.frames (kind_of (v ++ end.tail)) (v ++ end.tail)) same ∙ end.taken) in
    let took = number_taken s.mode s.frames w mode number in
    let t = took.0 in
    let filtered : filter is_digit w ≡ filter is_digit u = rw d (ap (λ v. c ∷ v) (sym p.filtered)) in
    let value : units w ≡ units u = ap (digits_value 10) filtered in
    let out : beyond true w t ≡ Some what.BadNumber = let big : nat_lt (units w) (2 ^ 63) ≡ false = ap (λ n. nat_lt n (2 ^ 63)) value ∙ large in rw (number, big) refl in
    let sizes : length (front ++ (u ++ rest)) ≡ length front + (length u + length rest) = simp length-append in
    let shorter : length u ≡ length w + 1 = ap length (sym same) ∙ length-append w (46 ∷ []) in
    let moved : u ++ rest ≡ w ++ 46 ∷ rest = ap (λ v. v ++ rest) (sym same) ∙ append_assoc w (46 ∷ []) rest in (
      w,
      number,
      record {
        before = r.words;
        rest = 46 ∷ rest;
        read = r.onward w [] rest (46 ∷ rest) (
          [],
          46 ∷ rest,
          refl,
          moved,
          token_number w number,
          pointed_longest c p.digits rest d (λ k. none (ap is_token (sym same) ∙ k)) (subst (λ v. Stops v rest) (sym same) stops),
          refl,
        );
        place = omega (arith, sizes, place, shorter);
        within = begins_within r.words (completed true s r.words r.strictly);
        goes_on = begins_some (r.words ++ w ∷ []) (completed false t (r.words ++ w ∷ []) (next_holds false s t r.words w r.loosely took.1 (limits_from false w t refl)));
        beyond = not_within s t w r.words what.BadNumber r.ran took.1 out;
      },
    )

none_token : (s : State) (w : List ℕ) (c : ℕ) (cs : List ℕ) → is_digit c ≡ true → is_number (c ∷ cs) ≡ false → is_token (c ∷ cs) ≡ true → ⊥
none_token s w c cs d n h = false≢true (sym n ∙ digit_token c cs d h)

bad_here : (at : ℕ) (s : State) (c : ℕ) (cs front rest : List ℕ) → Reached s (c ∷ cs) front → at ≡ length front + length (c ∷ cs)
    → is_bad_already true (c ∷ cs) ≡ true → Stops (c ∷ cs) rest → IsFault (front ++ ((c ∷ cs) ++ rest)) (at - length (c ∷ cs)) what.BadNumber
bad_here at s c cs front rest r place bad stops =
    let u = c ∷ cs in
    let one = and_parts _ _ bad in
    let two = and_parts _ _ one.0 in
    let large = not_true (nat_lt (units u) (2 ^ 63)) one.1 in
    let whole = not_true (is_number u) two.1 in
    let digits = and_parts (is_digit c) _ two.0 in
    elim (pointed cs digits.1) [
      | inl z ↦ absurd (false≢true (sym whole ∙ and_from _ _ digits.0 z))
      | inr p ↦ bad_with at s c cs front rest r place digits.0 (none_token s u c cs digits.0 whole) large stops p
    ]

-- one byte

abbrev After : ℕ → List ℕ → Type 0
After at bs = (s : State) (u front : List ℕ) → Reached s u front → at ≡ length front + length u → Outcome at s u front bs (read true at s u bs)

begun_blank : (at : ℕ) (t : State) (b : ℕ) → eqb b 32 ≡ true → begun at t b ≡ Ok (t, [])
unfolding begun
begun_blank at t b h = rw h refl

ready_outcome : (at : ℕ) (s t : State) (u front front2 bs : List ℕ) (b : ℕ) (space begin : Bool) → eqb b 32 ≡ space → begins t (b ∷ []) ≡ begin
    → After (at + 1) bs → Reached s u front → at ≡ length front + length u → front2 ≡ front ++ u → Ready t front2 b
    → stepped false at s u b ≡ begun at t b → stepped true at s u b ≡ begun at t b
    → Outcome at s u front (b ∷ bs) (read true at s u (b ∷ bs))
ready_outcome at s t u front front2 bs b true begin is first next r place same ready loose strict =
    later_byte at s t u front [] (front2 ++ b ∷ []) bs b (append-nil (front2 ++ b ∷ []) ∙ ap (λ f. f ++ b ∷ []) same)
    (loose ∙ begun_blank at t b is) (strict ∙ begun_blank at t b is)
    (next t [] (front2 ++ b ∷ []) (reached_space t front2 b is ready)
    (let sizes : length (front2 ++ b ∷ []) ≡ length (front ++ u) + 1 = ap (λ f. length (f ++ b ∷ [])) same ∙ simp length-append in
    let both = length-append front u in omega (arith, sizes, both, place)))
ready_outcome at s t u front front2 bs b false true is first next r place same ready loose strict =
    later_byte at s t u front (b ∷ []) front2 bs b (ap (λ f. f ++ b ∷ []) same)
    (loose ∙ begun-token at t b is first) (strict ∙ begun-token at t b is first)
    (next t (b ∷ []) front2 (reached_first t front2 b first ready)
    (let sizes : length front2 ≡ length (front ++ u) = ap length same in let both = length-append front u in omega (arith, sizes, both, place)))
ready_outcome at s t u front front2 bs b false false is first next r place same ready loose strict =
    here_byte at s u front bs b r (loose ∙ begun-none at t b is first) (strict ∙ begun-none at t b is first)

taken_outcome : (at : ℕ) (s t : State) (c : ℕ) (cs front bs : List ℕ) (b : ℕ) (o : Option ExprWhat) → beyond true (c ∷ cs) t ≡ o → takes s (c ∷ cs) ≡ Some t
    → continues (c ∷ cs) b ≡ false → After (at + 1) bs → Reached s (c ∷ cs) front → at ≡ length front + length (c ∷ cs)
    → Outcome at s (c ∷ cs) front (b ∷ bs) (read true at s (c ∷ cs) (b ∷ bs))
taken_outcome at s t c cs front bs b None inside is stop next r place =
    let w = c ∷ cs in
    ready_outcome at s t w front (front ++ w) bs b (eqb b 32) (begins t (b ∷ [])) refl refl next r place refl (ready_token s t c b cs front r is inside stop)
    (stepped-past false at s w b stop ∙ ap (λ p. p >>= λ t. begun at t b) (past-some false at s t c cs is))
    (stepped-past true at s w b stop ∙ ap (λ p. p >>= λ t. begun at t b) (past-some true at s t c cs is ∙ ap (judged (at - length w) t) inside))
taken_outcome at s t c cs front bs b (Some found) out is stop next r place =
    let w = c ∷ cs in
    let fails : stepped true at s w b ≡ fault (at - length w) found =
    stepped-past true at s w b stop ∙ ap (λ p. p >>= λ t. begun at t b) (past-some true at s t c cs is ∙ ap (judged (at - length w) t) out) in
    subst (Outcome at s w front (b ∷ bs)) (sym (read-fails true at s w b bs (record { at = at - length w; what = found }) fails))
    (beyond_here at s t c cs front (b ∷ bs) found r place is out stop)

none_outcome : (at : ℕ) (s : State) (c : ℕ) (cs front bs : List ℕ) (b : ℕ) (bad : Bool) → is_bad_already true (c ∷ cs) ≡ bad → takes s (c ∷ cs) ≡ None → continues (c ∷ cs) b ≡ false
    → Reached s (c ∷ cs) front → at ≡ length front + length (c ∷ cs) → Outcome at s (c ∷ cs) front (b ∷ bs) (read true at s (c ∷ cs) (b ∷ bs))
none_outcome at s c cs front bs b false bad is stop r place =
    here_byte at s (c ∷ cs) front bs b r
    (stepped-past false at s (c ∷ cs) b stop ∙ ap (λ p. p >>= λ t. begun at t b) (past-none false at s c cs refl is))
    (stepped-past true at s (c ∷ cs) b stop ∙ ap (λ p. p >>= λ t. begun at t b) (past-none true at s c cs bad is))
none_outcome at s c cs front bs b true bad is stop r place =
    let w = c ∷ cs in
    let fails : stepped true at s w b ≡ fault (at - length w) what.BadNumber =
    stepped-past true at s w b stop ∙ ap (λ p. p >>= λ t. begun at t b) (past-bad at s c cs bad is) in
    subst (Outcome at s w front (b ∷ bs)) (sym (read-fails true at s w b bs (record { at = at - length w; what = what.BadNumber }) fails))
    (bad_here at s c cs front (b ∷ bs) r place bad stop)

token_outcome : (at : ℕ) (s : State) (c : ℕ) (cs front bs : List ℕ) (b : ℕ) (o : Option State) → takes s (c ∷ cs) ≡ o → continues (c ∷ cs) b ≡ false
    → After (at + 1) bs → Reached s (c ∷ cs) front → at ≡ length front + length (c ∷ cs)
    → Outcome at s (c ∷ cs) front (b ∷ bs) (read true at s (c ∷ cs) (b ∷ bs))
token_outcome at s c cs front bs b None is stop next r place = none_outcome at s c cs front bs b (is_bad_already true (c ∷ cs)) refl is stop r place
token_outcome at s c cs front bs b (Some t) is stop next r place = taken_outcome at s t c cs front bs b (beyond true (c ∷ cs) t) refl is stop next r place

byte_outcome : (at : ℕ) (s : State) (u front bs : List ℕ) (b : ℕ) (go begin : Bool) → continues u b ≡ go → begins s (u ++ b ∷ []) ≡ begin
    → After (at + 1) bs → Reached s u front → at ≡ length front + length u → Outcome at s u front (b ∷ bs) (read true at s u (b ∷ bs))
byte_outcome at s u front bs b true true go first next r place =
    later_byte at s s u front (u ++ b ∷ []) front bs b (regroup_bytes front u (b ∷ []))
    (stepped-on false at s u b go first) (stepped-on true at s u b go first)
    (next s (u ++ b ∷ []) front (reached_longer s u front b first r)
    (let sizes : length (u ++ b ∷ []) ≡ length u + 1 = simp length-append in omega (arith, sizes, place)))
byte_outcome at s u front bs b true false go first next r place =
    here_byte at s u front bs b r (stepped-off false at s u b go first) (stepped-off true at s u b go first)
byte_outcome at s [] front bs b false begin go first next r place =
    ready_outcome at s s [] front front bs b (eqb b 32) (begins s (b ∷ [])) refl refl next r place (sym (append-nil front)) (ready_between s front b r)
    (stepped-past false at s [] b go ∙ ap (λ p. p >>= λ t. begun at t b) (past-nothing false at s))
    (stepped-past true at s [] b go ∙ ap (λ p. p >>= λ t. begun at t b) (past-nothing true at s))
byte_outcome at s (c ∷ cs) front bs b false begin go first next r place = token_outcome at s c cs front bs b (takes s (c ∷ cs)) refl go next r place

-- the end

-- what the end of a text makes of a state
EndOf : ℕ → State → Type 0
EndOf at t = ((x : Expr) × (ended at t ≡ Ok x) × (finish_in t.mode t.frames ≡ Some x)) ⊎ (ended at t ≡ fault at what.Unexpected)

whole_end : (at l : ℕ) (y : Expr) (fs : List Frame) → ((x : Expr) × (whole at (record { level = l; expr = y; frames = fs }) ≡ Ok x) × (all_of y fs ≡ Some x)) ⊎ (whole at (record { level = l; expr = y; frames = fs }) ≡ fault at what.Unexpected)
whole_end at l y [] = inl (y, refl, refl)
whole_end at l y (g ∷ gs) = inr refl

end_of : (at : ℕ) (m : Mode) (fs : List Frame) → EndOf at (at_mode m fs)
unfolding EndOf ended
end_of at (m.After l y) fs = let r = reduce fs 1 l y in whole_end at r.level r.expr r.frames
end_of at m.Operand fs = inr refl
end_of at (m.Opening g) fs = inr refl
end_of at (m.Is y) fs = inr refl
end_of at (m.IsNot y) fs = inr refl
end_of at (m.Digit y) fs = inr refl
end_of at (m.Scaled y k) fs = inr refl

found_at : (x : Expr) (s : State) (ws : List (List ℕ)) (text : List ℕ) → Holds true s ws → finish_in s.mode s.frames ≡ Some x → Spells ws text → Found x text
found_at x s ws text h finish spelt = record { words = ws; whole = whole_of true s.mode s.frames ws x h finish; spelt = spelt }

-- a text that ends in a state that it is not yet done with
here_end : (at : ℕ) (s : State) (u front : List ℕ) → Reached s u front → read false at s u [] ≡ fault at what.Unexpected → read true at s u [] ≡ fault at what.Unexpected
    → Outcome at s u front [] (read true at s u [])
here_end at s u front r loose strict =
    subst (Outcome at s u front []) (sym strict) (here at s u front [] r (λ after starts. ap (read false at s u) starts ∙ loose))

found_end : (at : ℕ) (s : State) (u front : List ℕ) (x : Expr) → read true at s u [] ≡ Ok x → Found x (front ++ (u ++ [])) → Outcome at s u front [] (read true at s u [])
found_end at s u front x same h = subst (Outcome at s u front []) (sym same) h

end_between : (at : ℕ) (s : State) (front : List ℕ) → Reached s [] front → EndOf at s → Outcome at s [] front [] (read true at s [] [])
unfolding EndOf
end_between at s front r (inl found) =
    found_end at s [] front found.0 (read-end true at s [] ∙ ap (λ p. p >>= λ t. ended at t) (past-nothing true at s) ∙ found.1)
    (found_at found.0 s r.words (front ++ []) r.strictly found.2 (r.last [] refl refl))
end_between at s front r (inr none) =
    here_end at s [] front r
    (read-end false at s [] ∙ ap (λ p. p >>= λ t. ended at t) (past-nothing false at s) ∙ none)
    (read-end true at s [] ∙ ap (λ p. p >>= λ t. ended at t) (past-nothing true at s) ∙ none)

end_after : (at : ℕ) (s t : State) (c : ℕ) (cs front : List ℕ) → Reached s (c ∷ cs) front → takes s (c ∷ cs) ≡ Some t → beyond true (c ∷ cs) t ≡ None
    → EndOf at t → Outcome at s (c ∷ cs) front [] (read true at s (c ∷ cs) [])
unfolding EndOf
end_after at s t c cs front r is inside (inl found) =
    let w = c ∷ cs in
    found_end at s w front found.0
    (read-end true at s w ∙ ap (λ p. p >>= λ t. ended at t) (past-some true at s t c cs is ∙ ap (judged (at - length w) t) inside) ∙ found.1)
    (found_at found.0 t (r.words ++ w ∷ []) (front ++ (w ++ [])) (next_holds true s t r.words w r.strictly is (limits_from true w t inside)) found.2
    ([], refl, r.onward w [] [] [] ([], [], refl, refl, taken_token s t w is, longest_from_stops c cs [] tt, refl)))
end_after at s t c cs front r is inside (inr none) =
    let w = c ∷ cs in
    here_end at s w front r
    (read-end false at s w ∙ ap (λ p. p >>= λ t. ended at t) (past-some false at s t c cs is) ∙ none)
    (read-end true at s w ∙ ap (λ p. p >>= λ t. ended at t) (past-some true at s t c cs is ∙ ap (judged (at - length w) t) inside) ∙ none)

end_taken : (at : ℕ) (s t : State) (c : ℕ) (cs front : List ℕ) (o : Option ExprWhat) → beyond true (c ∷ cs) t ≡ o → Reached s (c ∷ cs) front
    → at ≡ length front + length (c ∷ cs) → takes s (c ∷ cs) ≡ Some t → Outcome at s (c ∷ cs) front [] (read true at s (c ∷ cs) [])
end_taken at s t c cs front None inside r place is = end_after at s t c cs front r is inside (end_of at t.mode t.frames)
end_taken at s t c cs front (Some found) out r place is =
    let w = c ∷ cs in
    let fails : read true at s w [] ≡ fault (at - length w) found =
    read-end true at s w ∙ ap (λ p. p >>= λ t. ended at t) (past-some true at s t c cs is ∙ ap (judged (at - length w) t) out) in
    subst (Outcome at s w front []) (sym fails) (beyond_here at s t c cs front [] found r place is out tt)

end_none : (at : ℕ) (s : State) (c : ℕ) (cs front : List ℕ) (bad : Bool) → is_bad_already true (c ∷ cs) ≡ bad → takes s (c ∷ cs) ≡ None → Reached s (c ∷ cs) front
    → at ≡ length front + length (c ∷ cs) → Outcome at s (c ∷ cs) front [] (read true at s (c ∷ cs) [])
end_none at s c cs front false bad is r place =
    let w = c ∷ cs in
    here_end at s w front r
    (read-end false at s w ∙ ap (λ p. p >>= λ t. ended at t) (past-none false at s c cs refl is))
    (read-end true at s w ∙ ap (λ p. p >>= λ t. ended at t) (past-none true at s c cs bad is))
end_none at s c cs front true bad is r place =
    let w = c ∷ cs in
    subst (Outcome at s w front []) (sym (read-end true at s w ∙ ap (λ p. p >>= λ t. ended at t) (past-bad at s c cs bad is)))
    (bad_here at s c cs front [] r place bad tt)

end_token : (at : ℕ) (s : State) (c : ℕ) (cs front : List ℕ) (o : Option State) → takes s (c ∷ cs) ≡ o → Reached s (c ∷ cs) front
    → at ≡ length front + length (c ∷ cs) → Outcome at s (c ∷ cs) front [] (read true at s (c ∷ cs) [])
end_token at s c cs front None is r place = end_none at s c cs front (is_bad_already true (c ∷ cs)) refl is r place
end_token at s c cs front (Some t) is r place = end_taken at s t c cs front (beyond true (c ∷ cs) t) refl r place is

end_outcome : (at : ℕ) (s : State) (u front : List ℕ) → Reached s u front → at ≡ length front + length u → Outcome at s u front [] (read true at s u [])
end_outcome at s [] front r place = end_between at s front r (end_of at s.mode s.frames)
end_outcome at s (c ∷ cs) front r place = end_token at s c cs front (takes s (c ∷ cs)) refl r place

outcome : (rest : List ℕ) (at : ℕ) → After at rest
outcome [] at s u front r place = end_outcome at s u front r place
outcome (b ∷ bs) at s u front r place =
    byte_outcome at s u front bs b (continues u b) (begins s (u ++ b ∷ [])) refl refl (λ t v f. outcome bs (at + 1) t v f) r place

-- what the reader's answer says of a text
pub outcome_of : (text : List ℕ) → Outcome 0 start [] [] text (read true 0 start [] text)
outcome_of text = outcome text 0 start [] [] reached_start refl
