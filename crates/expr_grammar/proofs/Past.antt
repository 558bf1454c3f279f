-- The state past a token.
use Rattle.std.proofs.Common.{◌≡◌, ◌≢◌, ℕ, ◌-◌, ◌<◌, ◌≤◌, ◌^◌, List, [], ◌∷◌, length, slice_index, Bool, true, false, not, cond, ◌&&◌, ◌==◌, nat_le, nat_lt, Option, Some, None, Result, Ok, refl, sym, ap, subst, ◌∙◌, arith}
use Rattle.std.proofs.lemmas.Bool.{false≢true, and_left, and_right, and_parts, le-leb, le-ltb, lt-ltb}
use Rattle.std.proofs.lemmas.Bool.Decides.{nat_tests}
use Rattle.tuple_schema.specs.Stops.{GivesView}
use Rattle.tuple_schema.specs.declared.memory.Stop.{Stop}
use Rattle.tuple_schema.specs.Texts.{is_digit}
use Rattle.expr_grammar.specs.Tokens.{is_number, is_text, is_column, is_scale, ends_text, units, said, unquoted}
use Rattle.expr_grammar.specs.Kinds.{kind_of, begins_number, goes_number}
use Rattle.expr_grammar.specs.declared.state.Kind.{Kind}
use Rattle.expr_grammar.specs.declared.state.Kind.TheVariants as kind
use Rattle.expr_grammar.specs.declared.expr.Expr.{Expr}
use Rattle.expr_grammar.specs.declared.state.Frame.{Frame}
use Rattle.expr_grammar.specs.declared.state.Mode.TheVariants as m
use Rattle.expr_grammar.specs.declared.fault.ExprFault.{ExprFault}
use Rattle.expr_grammar.specs.declared.fault.ExprWhat.TheVariants as what
use Rattle.expr_grammar.specs.Machine.{State, past, led, judged, beyond, at_mode, fault, is_bad_already, takes, takes_in, levels_in}
use Rattle.expr_grammar.proofs.Columns.{plain_column}
use Rattle.expr_grammar.proofs.Complete.{number_kind, scale_number}
use Rattle.expr_grammar.proofs.OfKind.{IsOfKind, of_kind}

pub past_led : (strict : Bool) (at : ℕ) (s : State) (w : List ℕ) → 0 < length w → past strict at s w ≡ led strict at w (takes s w)
unfolding past
past_led strict at s [] h = absurd (omega arith)
past_led strict at s (c ∷ cs) h = refl

pub past_by : (strict : Bool) (at : ℕ) (s : State) (w : List ℕ) (k : Kind) (next : Option State) → 0 < length w → k ≡ kind_of w
    → next ≡ takes_in s.mode s.frames k w → led strict at w next ≡ past strict at s w
past_by strict at s w k next h is same =
    ap (led strict at w) (same ∙ ap (λ j. takes_in s.mode s.frames j w) is) ∙ sym (past_led strict at s w h)

-- what is given is given of an equal reading
pub given_at : {X Y : Type 0} (view : X → Y) (result : Result X (Stop ExprFault)) (one two : Result Y ExprFault) → one ≡ two → GivesView view result one → GivesView view result two
given_at view result one two same h = subst (GivesView view result) same h

-- numbers

pub number_refused : (at : ℕ) (w : List ℕ) → is_number w ≡ true → led true at w None ≡ fault at what.Unexpected
number_refused at w n =
    let bad : is_bad_already true w ≡ false = and_left _ (not (nat_lt (units w) (2 ^ 63))) (and_right (true && begins_number w) (not (is_number w)) (ap not n)) in
    rw bad refl

pub number_led : (at : ℕ) (w : List ℕ) (s : State) → is_number w ≡ true → units w < 2 ^ 63 → led true at w (Some s) ≡ Ok s
number_led at w s n small = let below = lt-ltb (units w) (2 ^ 63) small in let out : beyond true w s ≡ None = rw (n, below) refl in ap (judged (at - length w) s) out

pub number_large : (at : ℕ) (w : List ℕ) (s : State) → is_number w ≡ true → 2 ^ 63 ≤ units w → led true at w (Some s) ≡ fault (at - length w) what.BadNumber
number_large at w s n large =
    let over : nat_lt (units w) (2 ^ 63) ≡ false = le-ltb (units w) (2 ^ 63) large in
    let out : beyond true w s ≡ Some what.BadNumber = rw (n, over) refl in ap (judged (at - length w) s) out

pub digit_led : (at : ℕ) (w : List ℕ) (s : State) → is_scale w ≡ true → led true at w (Some s) ≡ Ok s
digit_led at w s h = let number = scale_number w h in number_led at w s number.0 number.1

some_same : (s t : State) → Some s ≡ Some t → s ≡ t
some_same s t h = cc

no_some : (t : State) → Some t ≡ None → ⊥
no_some t h = cc

digit_some_by : (at : ℕ) (w : List ℕ) (t u : State) (b : Bool) → is_scale w ≡ b → Some t ≡ cond b (Some u) None → led true at w (cond b (Some u) None) ≡ Ok t
digit_some_by at w t u true is h = digit_led at w u is ∙ ap Ok (sym (some_same t u h))
digit_some_by at w t u false is h = absurd (no_some t h)

pub digit_some : (at : ℕ) (w : List ℕ) (x : Expr) (fs : List Frame) (t : State) → Some t ≡ takes_in (m.Digit x) fs kind.Number w → led true at w (takes_in (m.Digit x) fs kind.Number w) ≡ Ok t
digit_some at w x fs t h = digit_some_by at w t (at_mode (m.Scaled x (slice_index w 0 - 48)) fs) (is_scale w) refl h

pub digit_none : (at : ℕ) (w : List ℕ) (next : Option State) → is_number w ≡ true → None ≡ next → led true at w next ≡ fault at what.Unexpected
digit_none at w next n h = ap (led true at w) (sym h) ∙ number_refused at w n

-- texts

quote_digit : (b : ℕ) → (b == 39) ≡ true → is_digit b ≡ false
quote_digit b h = grind (arith, nat_tests)

quote_scale : (b : ℕ) → (b == 39) ≡ true → (nat_le 48 b && nat_le b 54) ≡ false
quote_scale b h = grind (arith, nat_tests)

no_number_quote : (b : ℕ) (bs : List ℕ) → (b == 39) ≡ true → begins_number (b ∷ bs) ≡ false
no_number_quote b bs h = and_left (is_digit b) (goes_number bs) (quote_digit b h)

text_begins_none : (w : List ℕ) → is_text w ≡ true → begins_number w ≡ false
text_begins_none [] h = refl
text_begins_none (b ∷ bs) h = no_number_quote b bs (and_parts (b == 39) (ends_text true bs) h).0

pub text_refused : (at : ℕ) (w : List ℕ) → is_text w ≡ true → led true at w None ≡ fault at what.Unexpected
text_refused at w x =
    let bad : is_bad_already true w ≡ false = and_left _ (not (nat_lt (units w) (2 ^ 63))) (and_left (true && begins_number w) (not (is_number w)) (text_begins_none w x)) in
    rw bad refl

said_length : (o : Bool) (bs : List ℕ) → length (unquoted o bs) ≤ length bs
said_length true [] = omega arith
said_length false [] = omega arith
said_length true (b ∷ bs) =
    elim (b == 39) as (λ q. length (cond q (unquoted false bs) (b ∷ unquoted true bs)) ≤ length (b ∷ bs))
    [ true ↦ omega (arith, said_length false bs) | false ↦ omega (arith, said_length true bs) ]
said_length false (b ∷ bs) = omega (arith, said_length true bs)

pub said_short : (w : List ℕ) → length w ≤ 4096 → length (said w) ≤ 4096
said_short [] h = omega arith
said_short (b ∷ bs) h = omega (arith, said_length true bs)

pub text_no_number : (w : List ℕ) → is_text w ≡ true → is_number w ≡ false
text_no_number [] h = refl
text_no_number (b ∷ bs) h = and_left (is_digit b) _ (quote_digit b (and_parts (b == 39) (ends_text true bs) h).0)

pub text_some : (w : List ℕ) → is_text w ≡ true → 0 < length w
text_some [] h = absurd (false≢true h)
text_some (b ∷ bs) h = omega arith

pub text_led : (at : ℕ) (w : List ℕ) (s : State) → is_text w ≡ true → length w ≤ 4096 → led true at w (Some s) ≡ Ok s
text_led at w s x short =
    let n = text_no_number w x in
    let small = le-leb (length (said w)) 4096 (said_short w short) in
    let out : beyond true w s ≡ None = rw (n, x, small) refl in ap (judged (at - length w) s) out

pub text_no_scale : (w : List ℕ) → is_text w ≡ true → is_scale w ≡ false
text_no_scale [] h = refl
text_no_scale (b ∷ []) h = quote_scale b (and_parts (b == 39) (ends_text true []) h).0
text_no_scale (b ∷ c ∷ cs) h = refl

-- other tokens

pub other_within : (at : ℕ) (w : List ℕ) (s : State) → is_number w ≡ false → is_text w ≡ false → nat_le (levels_in s.mode s.frames) 64 ≡ true → led true at w (Some s) ≡ Ok s
other_within at w s n x within = let out : beyond true w s ≡ None = rw (n, x, within) refl in ap (judged (at - length w) s) out

pub other_deep : (at : ℕ) (w : List ℕ) (s : State) → is_number w ≡ false → is_text w ≡ false → nat_le (levels_in s.mode s.frames) 64 ≡ false → led true at w (Some s) ≡ fault (at - length w) what.TooDeep
other_deep at w s n x deep = let out : beyond true w s ≡ Some what.TooDeep = rw (n, x, deep) refl in ap (judged (at - length w) s) out

kind_parts : (k : Kind) (w : List ℕ) → IsOfKind k w → (k ≡ kind.Number → is_number w ≡ true) × (k ≡ kind.Text → is_text w ≡ true) × (k ≡ kind.Name → is_column w ≡ true)
kind_parts kind.Number w h = ((λ e. h), (λ e. absurd cc), (λ e. absurd cc))
kind_parts kind.Text w h = ((λ e. absurd cc), (λ e. h.0), (λ e. absurd cc))
kind_parts kind.Name w h = ((λ e. absurd cc), (λ e. absurd cc), (λ e. plain_column w h.0))
kind_parts kind.Other w h = ((λ e. absurd cc), (λ e. absurd cc), (λ e. absurd cc))
kind_parts (kind.Infix o) w h = ((λ e. absurd cc), (λ e. absurd cc), (λ e. absurd cc))
kind_parts kind.Is w h = ((λ e. absurd cc), (λ e. absurd cc), (λ e. absurd cc))
kind_parts kind.Not w h = ((λ e. absurd cc), (λ e. absurd cc), (λ e. absurd cc))
kind_parts kind.Null w h = ((λ e. absurd cc), (λ e. absurd cc), (λ e. absurd cc))
kind_parts (kind.Call g) w h = ((λ e. absurd cc), (λ e. absurd cc), (λ e. absurd cc))
kind_parts kind.Open w h = ((λ e. absurd cc), (λ e. absurd cc), (λ e. absurd cc))
kind_parts kind.Close w h = ((λ e. absurd cc), (λ e. absurd cc), (λ e. absurd cc))
kind_parts kind.Comma w h = ((λ e. absurd cc), (λ e. absurd cc), (λ e. absurd cc))

pub kind_number : (k : Kind) (w : List ℕ) → k ≡ kind_of w → is_number w ≡ false → k ≢ kind.Number
kind_number k w is n e = false≢true (sym n ∙ (kind_parts (kind_of w) w (of_kind w)).0 (sym is ∙ e))

pub kind_text : (k : Kind) (w : List ℕ) → k ≡ kind_of w → is_text w ≡ false → k ≢ kind.Text
kind_text k w is x e = false≢true (sym x ∙ (kind_parts (kind_of w) w (of_kind w)).1 (sym is ∙ e))

pub kind_name : (k : Kind) (w : List ℕ) → k ≡ kind_of w → k ≡ kind.Name → is_column w ≡ true
kind_name k w is e = (kind_parts (kind_of w) w (of_kind w)).2 (sym is ∙ e)

number_some : (w : List ℕ) → is_number w ≡ true → 0 < length w
number_some [] h = absurd (false≢true h)
number_some (b ∷ bs) h = omega arith

pub past_number_is : (at : ℕ) (s : State) (w : List ℕ) → is_number w ≡ true → led true at w (takes_in s.mode s.frames kind.Number w) ≡ past true at s w
past_number_is at s w n = past_by true at s w kind.Number (takes_in s.mode s.frames kind.Number w) (number_some w n) (sym (number_kind w n)) refl
