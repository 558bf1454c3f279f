-- What spells a phrase is taken, token after token, and makes its tree.
use Rattle.std.proofs.Common.{◌≡◌, ℕ, pos, ◌+◌, ◌-◌, ◌*◌, ◌<◌, ◌≤◌, ◌^◌, List, [], ◌∷◌, ◌++◌, length, codes, slice_index, Option, Some, None, Bool, true, false, nat_le, ◌==◌, ◌&&◌, refl, sym, ap, ◌∙◌, append_assoc, append-nil, arith}
use Rattle.std.proofs.lemmas.Bool.{le-leb, lt-leb, lt-ltb, leb-true, false≢true, and_parts, and_left}
use Rattle.std.proofs.lemmas.Bool.Decides.{nat_tests}
use Rattle.std.specs.Char.{digit_value}
use Rattle.tuple_schema.specs.Texts.{is_lower, is_digit}
use Rattle.expr_grammar.specs.Kinds.{is_plain_name}
use Rattle.expr_grammar.specs.Tokens.{is_word, is_number, is_text, is_scale, units, places, said}
use Rattle.expr_grammar.proofs.Columns.{column_plain}
use Rattle.expr_grammar.specs.Kinds.{kind_of, word_of}
use Rattle.expr_grammar.specs.Phrases.{Phrase, number, text, name, parens, abs, len, scale, coalesce, choice, joined, denied, negated, is_null, is_not_null, sign, level_of, left_of, right_of, level, IsPhrase, tokens, depth, LeavesFit, tree}
use Rattle.expr_grammar.specs.Machine.{State, at_mode, Reduced, reduce, rank, made, room, hole, takes, takes_in, takes_after, with_operator, with_is, closed_in, parted_in, levels, levels_in, beyond}
use Rattle.expr_grammar.specs.declared.expr.Expr.{Expr}
use Rattle.expr_grammar.specs.declared.expr.Expr.TheVariants as e
use Rattle.expr_grammar.specs.declared.expr.Operator.{Operator}
use Rattle.expr_grammar.specs.declared.expr.Operator.TheVariants as op
use Rattle.expr_grammar.specs.declared.fault.ExprWhat.{ExprWhat}
use Rattle.expr_grammar.specs.declared.state.Kind.{Kind}
use Rattle.expr_grammar.specs.declared.state.Kind.TheVariants as kind
use Rattle.expr_grammar.specs.declared.state.Function.{Function}
use Rattle.expr_grammar.specs.declared.state.Function.TheVariants as fn
use Rattle.expr_grammar.specs.declared.state.Frame.{Frame}
use Rattle.expr_grammar.specs.declared.state.Frame.TheVariants as f
use Rattle.expr_grammar.specs.declared.state.Mode.{Mode}
use Rattle.expr_grammar.specs.declared.state.Mode.TheVariants as m

-- tokens taken one after another

abbrev pub allowed : Option ExprWhat → State → Option State
allowed None t = Some t
allowed (Some what) t = None

abbrev pub led_to : Bool → List ℕ → Option State → Option State
led_to strict w None = None
led_to strict w (Some t) = allowed (beyond strict w t) t

abbrev pub advance : Bool → State → List ℕ → Option State
advance strict s w = led_to strict w (takes s w)

abbrev pub all_of : Expr → List Frame → Option Expr
all_of x [] = Some x
all_of x (g ∷ gs) = None

abbrev pub finish_in : Mode → List Frame → Option Expr
finish_in (m.After l x) fs = let r = reduce fs 1 l x in all_of r.expr r.frames
finish_in m.Operand fs = None
finish_in (m.Opening g) fs = None
finish_in (m.Is x) fs = None
finish_in (m.IsNot x) fs = None
finish_in (m.Digit x) fs = None
finish_in (m.Scaled x k) fs = None

-- what the tokens make of a state
abbrev pub go : Bool → State → List (List ℕ) → Option Expr
go strict s [] = finish_in s.mode s.frames
go strict s (w ∷ ws) = elim (advance strict s w) [ None ↦ None | Some t ↦ go strict t ws ]

pub go_on : (strict : Bool) (s t : State) (w : List ℕ) (ws : List (List ℕ)) → advance strict s w ≡ Some t
    → go strict s (w ∷ ws) ≡ go strict t ws
go_on strict s t w ws h = rw (go, h) refl

-- how tightly a token pulls at what stands on its left
abbrev pub pull : Kind → ℕ
pull (kind.Infix o) = level_of o
pull kind.Is = 4
pull _ = 0

-- the tokens don't pull at a phrase of this level
abbrev pub Ends : ℕ → List (List ℕ) → Type 0
Ends l [] = Unit {0}
Ends l (w ∷ ws) = pull (kind_of w) ≤ l

abbrev pub Room : Bool → List Frame → Phrase → Type 0
Room strict fs p = strict ≡ true → (levels fs + depth p ≤ 64) × LeavesFit p

abbrev pub Completes : Bool → Phrase → Type 0
Completes strict p = (fs : List Frame) (ws : List (List ℕ)) → hole fs ≤ level p → Ends (level p) ws → Room strict fs p
    → go strict (at_mode m.Operand fs) (tokens p ++ ws) ≡ go strict (at_mode (m.After (level p) (tree p)) fs) ws

-- steps

-- a token that is no leaf
abbrev pub IsPlain : List ℕ → Type 0
IsPlain w = (is_number w ≡ false) × (is_text w ≡ false)

pub fits_beyond : (w : List ℕ) (t : State) → IsPlain w → levels_in t.mode t.frames ≤ 64 → beyond true w t ≡ None
fits_beyond w t h l = rw (h.0, h.1, le-leb _ _ l) refl

pub advanced : (strict : Bool) (s t : State) (w : List ℕ) → IsPlain w → takes s w ≡ Some t
    → (strict ≡ true → levels_in t.mode t.frames ≤ 64) → advance strict s w ≡ Some t
advanced true s t w n h l = rw (h, fits_beyond w t n (l refl)) refl
advanced false s t w n h l = rw h refl

number_fits : (w : List ℕ) (t : State) → is_number w ≡ true → units w < 2 ^ 63 → beyond true w t ≡ None
number_fits w t h l = rw (h, lt-ltb _ _ l) refl

pub advanced_number : (strict : Bool) (s t : State) (w : List ℕ) → is_number w ≡ true → takes s w ≡ Some t
    → (strict ≡ true → units w < 2 ^ 63) → advance strict s w ≡ Some t
advanced_number true s t w n h l = rw (h, number_fits w t n (l refl)) refl
advanced_number false s t w n h l = rw h refl

text_fits : (w : List ℕ) (t : State) → is_number w ≡ false → is_text w ≡ true → length (said w) ≤ 4096 → beyond true w t ≡ None
text_fits w t n h l = rw (n, h, le-leb _ _ l) refl

pub advanced_text : (strict : Bool) (s t : State) (w : List ℕ) → is_number w ≡ false → is_text w ≡ true → takes s w ≡ Some t
    → (strict ≡ true → length (said w) ≤ 4096) → advance strict s w ≡ Some t
advanced_text true s t w n x h l = rw (h, text_fits w t n x (l refl)) refl
advanced_text false s t w n x h l = rw h refl

pub go_on_by : (strict : Bool) (s t : State) (w : List ℕ) (ws : List (List ℕ)) → IsPlain w → takes s w ≡ Some t
    → (strict ≡ true → levels_in t.mode t.frames ≤ 64) → go strict s (w ∷ ws) ≡ go strict t ws
go_on_by strict s t w ws n h l = go_on strict s t w ws (advanced strict s t w n h l)

-- operators

pub sign_kind : (o : Operator) → kind_of (sign o) ≡ kind.Infix o
sign_kind op.Or = refl
sign_kind op.And = refl
sign_kind op.Equal = refl
sign_kind op.NotEqual = refl
sign_kind op.Less = refl
sign_kind op.LessOrEqual = refl
sign_kind op.Greater = refl
sign_kind op.GreaterOrEqual = refl
sign_kind op.Plus = refl
sign_kind op.Minus = refl
sign_kind op.Join = refl
sign_kind op.Times = refl
sign_kind op.Over = refl

pub sign_plain : (o : Operator) → IsPlain (sign o)
sign_plain op.Or = (refl, refl)
sign_plain op.And = (refl, refl)
sign_plain op.Equal = (refl, refl)
sign_plain op.NotEqual = (refl, refl)
sign_plain op.Less = (refl, refl)
sign_plain op.LessOrEqual = (refl, refl)
sign_plain op.Greater = (refl, refl)
sign_plain op.GreaterOrEqual = (refl, refl)
sign_plain op.Plus = (refl, refl)
sign_plain op.Minus = (refl, refl)
sign_plain op.Join = (refl, refl)
sign_plain op.Times = (refl, refl)
sign_plain op.Over = (refl, refl)

-- the levels of an operator: what stands on its left is no looser, what stands on its right is tighter, and none is of the level of `not`
pub record Levels (o : Operator) : Type 0 where
  pub some : 1 ≤ level_of o
  pub small : level_of o ≤ 6
  pub left : level_of o ≤ left_of o
  pub right : level_of o + 1 ≡ right_of o
  pub apart : 3 ≤ level_of o → 4 ≤ level_of o

pub levels_of : (o : Operator) → Levels o
levels_of op.Or = record { some = omega arith; small = omega arith; left = omega arith; right = refl; apart = λ h. absurd (omega (arith, h)) }
levels_of op.And = record { some = omega arith; small = omega arith; left = omega arith; right = refl; apart = λ h. absurd (omega (arith, h)) }
levels_of op.Equal = record { some = omega arith; small = omega arith; left = omega arith; right = refl; apart = λ h. omega arith }
levels_of op.NotEqual = record { some = omega arith; small = omega arith; left = omega arith; right = refl; apart = λ h. omega arith }
levels_of op.Less = record { some = omega arith; small = omega arith; left = omega arith; right = refl; apart = λ h. omega arith }
levels_of op.LessOrEqual = record { some = omega arith; small = omega arith; left = omega arith; right = refl; apart = λ h. omega arith }
levels_of op.Greater = record { some = omega arith; small = omega arith; left = omega arith; right = refl; apart = λ h. omega arith }
levels_of op.GreaterOrEqual = record { some = omega arith; small = omega arith; left = omega arith; right = refl; apart = λ h. omega arith }
levels_of op.Plus = record { some = omega arith; small = omega arith; left = omega arith; right = refl; apart = λ h. omega arith }
levels_of op.Minus = record { some = omega arith; small = omega arith; left = omega arith; right = refl; apart = λ h. omega arith }
levels_of op.Join = record { some = omega arith; small = omega arith; left = omega arith; right = refl; apart = λ h. omega arith }
levels_of op.Times = record { some = omega arith; small = omega arith; left = omega arith; right = refl; apart = λ h. omega arith }
levels_of op.Over = record { some = omega arith; small = omega arith; left = omega arith; right = refl; apart = λ h. omega arith }

-- what stands in a frame binds no looser than an operator that comes next, so that the frame isn't joined
frame_below : (g : Frame) (o : Operator) → room g ≤ level_of o → rank g < level_of o
frame_below (f.Left p a) o h = let r = (levels_of p).right in omega (arith, r, h)
frame_below f.Not o h = let r = (levels_of o).apart h in omega (arith, r)
frame_below f.Negated o h = let r = (levels_of o).small in absurd (omega (arith, r, h))
frame_below f.Parens o h = let r = (levels_of o).some in omega (arith, r)
frame_below (f.First g) o h = let r = (levels_of o).some in omega (arith, r)
frame_below (f.CoalesceSecond a) o h = let r = (levels_of o).some in omega (arith, r)
frame_below (f.IfSecond a) o h = let r = (levels_of o).some in omega (arith, r)
frame_below (f.IfThird a b) o h = let r = (levels_of o).some in omega (arith, r)

pub reduce-none : (fs : List Frame) (o : Operator) (l : ℕ) (x : Expr) → hole fs ≤ level_of o → reduce fs (level_of o) l x ≡ record { level = l; expr = x; frames = fs }
reduce-none [] o l x h = refl
reduce-none (g ∷ gs) o l x h = rw (lt-leb (level_of o) (rank g) (frame_below g o h)) refl

-- the frame is joined with what stands in it by whatever doesn't pull more
pub reduce-frame : (g : Frame) (gs : List Frame) (least l : ℕ) (x : Expr) → least ≤ rank g
    → reduce (g ∷ gs) least l x ≡ reduce gs least (rank g) (made g x)
reduce-frame g gs least l x h = rw (le-leb least (rank g) h) refl

same_taken : (g : Frame) (gs : List Frame) (x : Expr) (l : ℕ) (k : Kind) → 1 ≤ rank g → pull k ≤ rank g
    → takes_after l x (g ∷ gs) k ≡ takes_after (rank g) (made g x) gs k
same_taken g gs x l (kind.Infix p) s h = ap (with_operator p) (reduce-frame g gs (level_of p) l x h)
same_taken g gs x l kind.Is s h = ap with_is (reduce-frame g gs 4 l x h)
same_taken g gs x l kind.Close s h = ap (λ (r : Reduced). closed_in r.expr r.frames) (reduce-frame g gs 1 l x s)
same_taken g gs x l kind.Comma s h = ap (λ (r : Reduced). parted_in r.expr r.frames) (reduce-frame g gs 1 l x s)
same_taken g gs x l kind.Number s h = refl
same_taken g gs x l kind.Text s h = refl
same_taken g gs x l kind.Name s h = refl
same_taken g gs x l kind.Not s h = refl
same_taken g gs x l kind.Null s h = refl
same_taken g gs x l (kind.Call c) s h = refl
same_taken g gs x l kind.Open s h = refl
same_taken g gs x l kind.Other s h = refl

-- what follows what stands in a frame makes the same of it as of the whole
pub same_after : (strict : Bool) (g : Frame) (gs : List Frame) (x : Expr) (l : ℕ) (ws : List (List ℕ)) → 1 ≤ rank g → Ends (rank g) ws
    → go strict (at_mode (m.After l x) (g ∷ gs)) ws ≡ go strict (at_mode (m.After (rank g) (made g x)) gs) ws
same_after strict g gs x l [] s h = ap (λ (r : Reduced). all_of r.expr r.frames) (reduce-frame g gs 1 l x s)
same_after strict g gs x l (w ∷ ws) s h =
    ap (λ (t : Option State). elim (led_to strict w t) [ None ↦ None | Some u ↦ go strict u ws ]) (same_taken g gs x l (kind_of w) s h)

-- leaves

letter_no_digit : (b : ℕ) → is_lower b ≡ true → is_digit b ≡ false
letter_no_digit b h = grind (arith, nat_tests)

letter_no_quote : (b : ℕ) → is_lower b ≡ true → (b == 39) ≡ false
letter_no_quote b h = grind (arith, nat_tests)

quote_no_digit : (b : ℕ) → (b == 39) ≡ true → is_digit b ≡ false
quote_no_digit b h = grind (arith, nat_tests)

pub word_plain : (w : List ℕ) → is_word w ≡ true → IsPlain w
word_plain [] h = absurd (false≢true h)
word_plain (b ∷ bs) h = (and_left _ _ (letter_no_digit b (and_parts _ _ h).0), and_left _ _ (letter_no_quote b (and_parts _ _ h).0))

pub text_no_number : (w : List ℕ) → is_text w ≡ true → is_number w ≡ false
text_no_number [] h = absurd (false≢true h)
text_no_number (b ∷ bs) h = and_left _ _ (quote_no_digit b (and_parts _ _ h).0)

pub name_word : (w : List ℕ) → is_plain_name w ≡ true → is_word w ≡ true
name_word w h = (and_parts _ _ (and_parts _ _ h).0).0

pub number_kind : (w : List ℕ) → is_number w ≡ true → kind_of w ≡ kind.Number
number_kind w h = rw h refl

pub text_kind : (w : List ℕ) → is_text w ≡ true → kind_of w ≡ kind.Text
text_kind w h = rw (text_no_number w h, h) refl

pub name_kind : (w : List ℕ) → is_plain_name w ≡ true → kind_of w ≡ kind.Name
name_kind w h = let plain = word_plain w (name_word w h) in let n = plain.0 in let x = plain.1 in rw (n, x, h) refl

digit_is : (d : ℕ) → is_digit d ≡ true → digit_value d ≡ d - 48
digit_is d h = grind (arith, nat_tests)

scale_digit : (b : ℕ) → (nat_le 48 b && nat_le b 54) ≡ true → is_digit b ≡ true
scale_digit b h = grind (arith, nat_tests)

pub scale_number : (w : List ℕ) → is_scale w ≡ true → (is_number w ≡ true) × (units w < 2 ^ 63)
scale_number [] h = absurd (false≢true h)
scale_number (b ∷ c ∷ bs) h = absurd (false≢true h)
scale_number (b ∷ []) h =
    let digit = scale_digit b h in
    let small = leb-true b 54 (and_parts _ _ h).1 in
    let value : units (b ∷ []) ≡ 0 * 10 + digit_value b = rw digit refl in
    let one = digit_is b digit in
    (rw digit refl, let bound : digit_value b < 2 ^ 63 = omega (arith, one, small) in omega (arith, value, bound))

-- phrases

abbrev pub operand : List Frame → State
operand fs = at_mode m.Operand fs

abbrev pub after : ℕ → Expr → List Frame → State
after l x fs = at_mode (m.After l x) fs

pub level_positive : (p : Phrase) → 1 ≤ level p
level_positive (number w) = omega arith
level_positive (text w) = omega arith
level_positive (name w) = omega arith
level_positive (parens p) = omega arith
level_positive (abs p) = omega arith
level_positive (len p) = omega arith
level_positive (scale p w) = omega arith
level_positive (coalesce p q) = omega arith
level_positive (choice p q r) = omega arith
level_positive (joined o p q) = (levels_of o).some
level_positive (denied p) = omega arith
level_positive (negated p) = omega arith
level_positive (is_null p) = omega arith
level_positive (is_not_null p) = omega arith

complete_number : (strict : Bool) (w : List ℕ) → is_number w ≡ true → Completes strict (number w)
complete_number strict w n fs ws low ends room =
    let t : State = after 8 (e.Number (pos (units w)) (places w)) fs in
    go_on strict (operand fs) t w ws (advanced_number strict (operand fs) t w n (ap (λ k. takes_in m.Operand fs k w) (number_kind w n)) (λ s. (room s).1))

complete_text : (strict : Bool) (w : List ℕ) → is_text w ≡ true → Completes strict (text w)
complete_text strict w n fs ws low ends room =
    let t : State = after 8 (e.Text (said w)) fs in
    go_on strict (operand fs) t w ws (advanced_text strict (operand fs) t w (text_no_number w n) n (ap (λ k. takes_in m.Operand fs k w) (text_kind w n)) (λ s. (room s).1))

complete_name : (strict : Bool) (w : List ℕ) → is_plain_name w ≡ true → Completes strict (name w)
complete_name strict w n fs ws low ends room =
    go_on_by strict (operand fs) (after 8 (e.Column w) fs) w ws (word_plain w (name_word w n))
    (ap (λ k. takes_in m.Operand fs k w) (name_kind w n)) (λ s. let r = (room s).0 in omega (arith, r))

complete_parens : (strict : Bool) (p : Phrase) → Completes strict p → Completes strict (parens p)
complete_parens strict p ih fs ws low ends room =
    go_on_by strict (operand fs) (operand (f.Parens ∷ fs)) (codes "(") (tokens p ++ codes ")" ∷ [] ++ ws) (refl, refl) refl
    (λ s. let r = (room s).0 in omega (arith, r))
    ∙ ap (go strict (operand (f.Parens ∷ fs))) (append_assoc (tokens p) (codes ")" ∷ []) ws)
    ∙ ih (f.Parens ∷ fs) (codes ")" ∷ ws) (level_positive p) (omega arith) (λ s. let r = (room s).0 in (omega (arith, r), (room s).1))
    ∙ go_on_by strict (after (level p) (tree p) (f.Parens ∷ fs)) (after 8 (tree p) fs) (codes ")") ws (refl, refl) refl
    (λ s. let r = (room s).0 in omega (arith, r))

call_kind : (g : Function) → kind_of (word_of g) ≡ kind.Call g
call_kind fn.Abs = refl
call_kind fn.Length = refl
call_kind fn.Scale = refl
call_kind fn.Coalesce = refl
call_kind fn.If = refl

pub call_plain : (g : Function) → IsPlain (word_of g)
call_plain fn.Abs = (refl, refl)
call_plain fn.Length = (refl, refl)
call_plain fn.Scale = (refl, refl)
call_plain fn.Coalesce = (refl, refl)
call_plain fn.If = (refl, refl)

call_taken : (fs : List Frame) (g : Function) → takes (operand fs) (word_of g) ≡ Some (at_mode (m.Opening g) fs)
call_taken fs g = ap (λ k. takes_in m.Operand fs k (word_of g)) (call_kind g)

-- a function's name and its parenthesis
opening : (strict : Bool) (g : Function) (fs : List Frame) (ws : List (List ℕ)) → (strict ≡ true → 1 + levels fs ≤ 64)
    → go strict (operand fs) (word_of g ∷ codes "(" ∷ ws) ≡ go strict (operand (f.First g ∷ fs)) ws
opening strict g fs ws room =
    go_on_by strict (operand fs) (at_mode (m.Opening g) fs) (word_of g) (codes "(" ∷ ws) (call_plain g) (call_taken fs g) room
    ∙ go_on_by strict (at_mode (m.Opening g) fs) (operand (f.First g ∷ fs)) (codes "(") ws (refl, refl) refl room

complete_abs : (strict : Bool) (p : Phrase) → Completes strict p → Completes strict (abs p)
complete_abs strict p ih fs ws low ends room =
    let inner : List Frame = f.First fn.Abs ∷ fs in
    opening strict fn.Abs fs (tokens p ++ codes ")" ∷ [] ++ ws) (λ s. let r = (room s).0 in omega (arith, r))
    ∙ ap (go strict (operand inner)) (append_assoc (tokens p) (codes ")" ∷ []) ws)
    ∙ ih inner (codes ")" ∷ ws) (level_positive p) (omega arith) (λ s. let r = (room s).0 in (omega (arith, r), (room s).1))
    ∙ go_on_by strict (after (level p) (tree p) inner) (after 8 (e.Abs (tree p)) fs) (codes ")") ws (refl, refl) refl (λ s. let r = (room s).0 in omega (arith, r))

complete_len : (strict : Bool) (p : Phrase) → Completes strict p → Completes strict (len p)
complete_len strict p ih fs ws low ends room =
    let inner : List Frame = f.First fn.Length ∷ fs in
    opening strict fn.Length fs (tokens p ++ codes ")" ∷ [] ++ ws) (λ s. let r = (room s).0 in omega (arith, r))
    ∙ ap (go strict (operand inner)) (append_assoc (tokens p) (codes ")" ∷ []) ws)
    ∙ ih inner (codes ")" ∷ ws) (level_positive p) (omega arith) (λ s. let r = (room s).0 in (omega (arith, r), (room s).1))
    ∙ go_on_by strict (after (level p) (tree p) inner) (after 8 (e.Length (tree p)) fs) (codes ")") ws (refl, refl) refl (λ s. let r = (room s).0 in omega (arith, r))

scale_tokens : (p ws : List (List ℕ)) (c w z : List ℕ) → p ++ c ∷ w ∷ [] ++ z ∷ [] ++ ws ≡ p ++ c ∷ w ∷ z ∷ ws
scale_tokens p ws c w z = simp append_assoc

digit_taken : (strict : Bool) (x : Expr) (fs : List Frame) (w : List ℕ) → is_scale w ≡ true
    → advance strict (at_mode (m.Digit x) fs) w ≡ Some (at_mode (m.Scaled x (slice_index w 0 - 48)) fs)
digit_taken strict x fs w h =
    let n = scale_number w h in
    advanced_number strict (at_mode (m.Digit x) fs) (at_mode (m.Scaled x (slice_index w 0 - 48)) fs) w n.0 (rw h refl) (λ s. n.1)

complete_scale : (strict : Bool) (p : Phrase) (w : List ℕ) → is_scale w ≡ true → Completes strict p → Completes strict (scale p w)
complete_scale strict p w digit ih fs ws low ends room =
    let inner : List Frame = f.First fn.Scale ∷ fs in
    let k = slice_index w 0 - 48 in
    opening strict fn.Scale fs (tokens p ++ codes "," ∷ w ∷ [] ++ codes ")" ∷ [] ++ ws) (λ s. let r = (room s).0 in omega (arith, r))
    ∙ ap (go strict (operand inner)) (scale_tokens (tokens p) ws (codes ",") w (codes ")"))
    ∙ ih inner (codes "," ∷ w ∷ codes ")" ∷ ws) (level_positive p) (omega arith) (λ s. let r = (room s).0 in (omega (arith, r), (room s).1))
    ∙ go_on_by strict (after (level p) (tree p) inner) (at_mode (m.Digit (tree p)) fs) (codes ",") (w ∷ codes ")" ∷ ws) (refl, refl) refl (λ s. let r = (room s).0 in omega (arith, r))
    ∙ go_on strict (at_mode (m.Digit (tree p)) fs) (at_mode (m.Scaled (tree p) k) fs) w (codes ")" ∷ ws) (digit_taken strict (tree p) fs w digit)
    ∙ go_on_by strict (at_mode (m.Scaled (tree p) k) fs) (after 8 (e.Scale (tree p) k) fs) (codes ")") ws (refl, refl) refl (λ s. let r = (room s).0 in omega (arith, r))

coalesce_tokens : (p q ws : List (List ℕ)) (c z : List ℕ) → p ++ c ∷ q ++ z ∷ [] ++ ws ≡ p ++ c ∷ (q ++ z ∷ ws)
coalesce_tokens p q ws c z = simp append_assoc

complete_coalesce : (strict : Bool) (p q : Phrase) → Completes strict p → Completes strict q → Completes strict (coalesce p q)
complete_coalesce strict p q ihp ihq fs ws low ends room =
    let inner : List Frame = f.First fn.Coalesce ∷ fs in
    let second : List Frame = f.CoalesceSecond (tree p) ∷ fs in
    opening strict fn.Coalesce fs (tokens p ++ codes "," ∷ tokens q ++ codes ")" ∷ [] ++ ws) (λ s. let r = (room s).0 in omega (arith, r))
    ∙ ap (go strict (operand inner)) (coalesce_tokens (tokens p) (tokens q) ws (codes ",") (codes ")"))
    ∙ ihp inner (codes "," ∷ (tokens q ++ codes ")" ∷ ws)) (level_positive p) (omega arith) (λ s. let r = (room s).0 in (omega (arith, r), (room s).1.0))
    ∙ go_on_by strict (after (level p) (tree p) inner) (operand second) (codes ",") (tokens q ++ codes ")" ∷ ws) (refl, refl) refl (λ s. let r = (room s).0 in omega (arith, r))
    ∙ ihq second (codes ")" ∷ ws) (level_positive q) (omega arith) (λ s. let r = (room s).0 in (omega (arith, r), (room s).1.1))
    ∙ go_on_by strict (after (level q) (tree q) second) (after 8 (e.Coalesce (tree p) (tree q)) fs) (codes ")") ws (refl, refl) refl (λ s. let r = (room s).0 in omega (arith, r))

choice_tokens : (p q r ws : List (List ℕ)) (c z : List ℕ) → p ++ c ∷ (q ++ c ∷ r) ++ z ∷ [] ++ ws ≡ p ++ c ∷ (q ++ c ∷ (r ++ z ∷ ws))
choice_tokens p q r ws c z = simp append_assoc

complete_choice : (strict : Bool) (p q r : Phrase) → Completes strict p → Completes strict q → Completes strict r → Completes strict (choice p q r)
complete_choice strict p q r ihp ihq ihr fs ws low ends room =
    let inner : List Frame = f.First fn.If ∷ fs in
    let second : List Frame = f.IfSecond (tree p) ∷ fs in
    let third : List Frame = f.IfThird (tree p) (tree q) ∷ fs in
    opening strict fn.If fs (tokens p ++ codes "," ∷ (tokens q ++ codes "," ∷ tokens r) ++ codes ")" ∷ [] ++ ws) (λ s. let d = (room s).0 in omega (arith, d))
    ∙ ap (go strict (operand inner)) (choice_tokens (tokens p) (tokens q) (tokens r) ws (codes ",") (codes ")"))
    ∙ ihp inner (codes "," ∷ (tokens q ++ codes "," ∷ (tokens r ++ codes ")" ∷ ws))) (level_positive p) (omega arith) (λ s. let d = (room s).0 in (omega (arith, d), (room s).1.0))
    ∙ go_on_by strict (after (level p) (tree p) inner) (operand second) (codes ",") (tokens q ++ codes "," ∷ (tokens r ++ codes ")" ∷ ws)) (refl, refl) refl (λ s. let d = (room s).0 in omega (arith, d))
    ∙ ihq second (codes "," ∷ (tokens r ++ codes ")" ∷ ws)) (level_positive q) (omega arith) (λ s. let d = (room s).0 in (omega (arith, d), (room s).1.1))
    ∙ go_on_by strict (after (level q) (tree q) second) (operand third) (codes ",") (tokens r ++ codes ")" ∷ ws) (refl, refl) refl (λ s. let d = (room s).0 in omega (arith, d))
    ∙ ihr third (codes ")" ∷ ws) (level_positive r) (omega arith) (λ s. let d = (room s).0 in (omega (arith, d), (room s).1.2))
    ∙ go_on_by strict (after (level r) (tree r) third) (after 8 (e.If (tree p) (tree q) (tree r)) fs) (codes ")") ws (refl, refl) refl (λ s. let d = (room s).0 in omega (arith, d))

sign_taken : (fs : List Frame) (o : Operator) (l : ℕ) (x : Expr) → hole fs ≤ level_of o → left_of o ≤ l
    → takes (after l x fs) (sign o) ≡ Some (operand (f.Left o x ∷ fs))
sign_taken fs o l x low left =
    ap (λ k. takes_in (m.After l x) fs k (sign o)) (sign_kind o)
    ∙ ap (with_operator o) (reduce-none fs o l x low)
    ∙ rw (le-leb (left_of o) l left) refl

sign_ends : (o : Operator) (l : ℕ) (ws : List (List ℕ)) → left_of o ≤ l → Ends l (sign o ∷ ws)
sign_ends o l ws h = let d = (levels_of o).left in rw (sign_kind o) (omega (arith, d))

ends_within : (k l : ℕ) (ws : List (List ℕ)) → k ≤ l → Ends k ws → Ends l ws
ends_within k l [] h e = e
ends_within k l (w ∷ ws) h e = omega (arith, e)

complete_joined : (strict : Bool) (o : Operator) (p q : Phrase) → left_of o ≤ level p → right_of o ≤ level q → Completes strict p → Completes strict q
    → Completes strict (joined o p q)
complete_joined strict o p q left right ihp ihq fs ws low ends room =
    let inner : List Frame = f.Left o (tree p) ∷ fs in
    let d = levels_of o in
    ap (go strict (operand fs)) (append_assoc (tokens p) (sign o ∷ tokens q) ws)
    ∙ ihp fs (sign o ∷ (tokens q ++ ws)) (let e = d.left in omega (arith, e, low)) (sign_ends o (level p) (tokens q ++ ws) left)
    (λ s. let r = (room s).0 in (omega (arith, r), (room s).1.0))
    ∙ go_on_by strict (after (level p) (tree p) fs) (operand inner) (sign o) (tokens q ++ ws) (sign_plain o)
    (sign_taken fs o (level p) (tree p) low left) (λ s. let r = (room s).0 in omega (arith, r))
    ∙ ihq inner ws right (ends_within (level_of o) (level q) ws (let e = d.right in omega (arith, e)) ends)
    (λ s. let r = (room s).0 in (omega (arith, r), (room s).1.1))
    ∙ same_after strict (f.Left o (tree p)) fs (tree q) (level q) ws d.some ends

complete_denied : (strict : Bool) (p : Phrase) → 3 ≤ level p → Completes strict p → Completes strict (denied p)
complete_denied strict p high ih fs ws low ends room =
    let inner : List Frame = f.Not ∷ fs in
    go_on_by strict (operand fs) (operand inner) (codes "not") (tokens p ++ ws) (refl, refl) (rw (le-leb (hole fs) 3 low) refl)
    (λ s. let r = (room s).0 in omega (arith, r))
    ∙ ih inner ws high (ends_within 3 (level p) ws high ends) (λ s. let r = (room s).0 in (omega (arith, r), (room s).1))
    ∙ same_after strict f.Not fs (tree p) (level p) ws (omega arith) ends

complete_negated : (strict : Bool) (p : Phrase) → 7 ≤ level p → Completes strict p → Completes strict (negated p)
complete_negated strict p high ih fs ws low ends room =
    let inner : List Frame = f.Negated ∷ fs in
    go_on_by strict (operand fs) (operand inner) (codes "-") (tokens p ++ ws) (refl, refl) refl
    (λ s. let r = (room s).0 in omega (arith, r))
    ∙ ih inner ws high (ends_within 7 (level p) ws high ends) (λ s. let r = (room s).0 in (omega (arith, r), (room s).1))
    ∙ same_after strict f.Negated fs (tree p) (level p) ws (omega arith) ends

is_taken : (fs : List Frame) (l : ℕ) (x : Expr) → hole fs ≤ 4 → 5 ≤ l → takes (after l x fs) (codes "is") ≡ Some (at_mode (m.Is x) fs)
is_taken fs l x low left = ap with_is (reduce-none fs op.Less l x low) ∙ rw (le-leb 5 l left) refl

complete_is_null : (strict : Bool) (p : Phrase) → 5 ≤ level p → Completes strict p → Completes strict (is_null p)
complete_is_null strict p left ih fs ws low ends room =
    ap (go strict (operand fs)) (append_assoc (tokens p) (codes "is" ∷ codes "null" ∷ []) ws)
    ∙ ih fs (codes "is" ∷ codes "null" ∷ ws) (omega (arith, low)) (omega (arith, left)) room
    ∙ go_on_by strict (after (level p) (tree p) fs) (at_mode (m.Is (tree p)) fs) (codes "is") (codes "null" ∷ ws) (refl, refl)
    (is_taken fs (level p) (tree p) low left) (λ s. let r = (room s).0 in omega (arith, r))
    ∙ go_on_by strict (at_mode (m.Is (tree p)) fs) (after 4 (e.IsNull (tree p)) fs) (codes "null") ws (refl, refl) refl
    (λ s. let r = (room s).0 in omega (arith, r))

complete_is_not_null : (strict : Bool) (p : Phrase) → 5 ≤ level p → Completes strict p → Completes strict (is_not_null p)
complete_is_not_null strict p left ih fs ws low ends room =
    ap (go strict (operand fs)) (append_assoc (tokens p) (codes "is" ∷ codes "not" ∷ codes "null" ∷ []) ws)
    ∙ ih fs (codes "is" ∷ codes "not" ∷ codes "null" ∷ ws) (omega (arith, low)) (omega (arith, left)) room
    ∙ go_on_by strict (after (level p) (tree p) fs) (at_mode (m.Is (tree p)) fs) (codes "is") (codes "not" ∷ codes "null" ∷ ws) (refl, refl)
    (is_taken fs (level p) (tree p) low left) (λ s. let r = (room s).0 in omega (arith, r))
    ∙ go_on_by strict (at_mode (m.Is (tree p)) fs) (at_mode (m.IsNot (tree p)) fs) (codes "not") (codes "null" ∷ ws) (refl, refl) refl
    (λ s. let r = (room s).0 in omega (arith, r))
    ∙ go_on_by strict (at_mode (m.IsNot (tree p)) fs) (after 4 (e.IsNotNull (tree p)) fs) (codes "null") ws (refl, refl) refl
    (λ s. let r = (room s).0 in omega (arith, r))

pub completes : (strict : Bool) (p : Phrase) → IsPhrase p → Completes strict p
completes strict (number w) h = complete_number strict w h
completes strict (text w) h = complete_text strict w h
completes strict (name w) h = complete_name strict w (column_plain w h)
completes strict (parens p) h = complete_parens strict p (completes strict p h)
completes strict (abs p) h = complete_abs strict p (completes strict p h)
completes strict (len p) h = complete_len strict p (completes strict p h)
completes strict (scale p w) h = complete_scale strict p w h.1 (completes strict p h.0)
completes strict (coalesce p q) h = complete_coalesce strict p q (completes strict p h.0) (completes strict q h.1)
completes strict (choice p q r) h = complete_choice strict p q r (completes strict p h.0) (completes strict q h.1) (completes strict r h.2)
completes strict (joined o p q) h = complete_joined strict o p q h.0 h.1 (completes strict p h.2) (completes strict q h.3)
completes strict (denied p) h = complete_denied strict p h.0 (completes strict p h.1)
completes strict (negated p) h = complete_negated strict p h.0 (completes strict p h.1)
completes strict (is_null p) h = complete_is_null strict p h.0 (completes strict p h.1)
completes strict (is_not_null p) h = complete_is_not_null strict p h.0 (completes strict p h.1)

pub tokens_taken : (strict : Bool) (p : Phrase) → IsPhrase p → (strict ≡ true → (depth p ≤ 64) × LeavesFit p)
    → go strict (operand []) (tokens p) ≡ Some (tree p)
tokens_taken strict p h room =
    ap (go strict (operand [])) (sym (append-nil (tokens p)))
    ∙ completes strict p h [] [] (level_positive p) tt (λ s. let r = (room s).0 in (omega (arith, r), (room s).1))
