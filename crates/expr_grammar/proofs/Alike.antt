-- Whether a token can stand in a state, by its kind.
use Rattle.std.proofs.Common.{◌≡◌, ℕ, List, [], ◌∷◌, length, Some, None, is_some, Bool, true, false, cond, ◌&&◌, ◌||◌, nat_le, refl, sym, ap, ◌∙◌}
use Rattle.std.specs.List.{list_any}
use Rattle.expr_grammar.specs.Tokens.{is_word, is_front}
use Rattle.expr_grammar.specs.Phrases.{level_of, left_of}
use Rattle.expr_grammar.specs.Kinds.{fixed, spelling, begins_number, begins_text}
use Rattle.expr_grammar.specs.Machine.{State, at_mode, Reduced, reduce, rank, made, hole, takes_in, takes_operand, takes_opening, takes_after, takes_is, takes_is_not, takes_scaled, with_operator, with_is, closed_in, ended_call, parted_in, gone_on, begins}
use Rattle.expr_grammar.specs.Allowing.{reduced_level, closes, closes_call, parts, parts_call, allows, allows_operand, allows_opening, allows_after, allows_is, allows_is_not, allows_scaled, begins_by, begins_if}
use Rattle.expr_grammar.specs.declared.expr.Expr.{Expr}
use Rattle.expr_grammar.specs.declared.expr.Expr.TheVariants as e
use Rattle.expr_grammar.specs.declared.expr.Operator.{Operator}
use Rattle.expr_grammar.specs.declared.expr.Operator.TheVariants as op
use Rattle.expr_grammar.specs.declared.state.Function.{Function}
use Rattle.expr_grammar.specs.declared.state.Function.TheVariants as fn
use Rattle.expr_grammar.specs.declared.state.Kind.{Kind}
use Rattle.expr_grammar.specs.declared.state.Kind.TheVariants as kind
use Rattle.expr_grammar.specs.declared.state.Frame.{Frame}
use Rattle.expr_grammar.specs.declared.state.Frame.TheVariants as f
use Rattle.expr_grammar.specs.declared.state.Mode.{Mode}
use Rattle.expr_grammar.specs.declared.state.Mode.TheVariants as m
use Rattle.expr_grammar.proofs.Complete.{levels_of, reduce-frame}

reduced_level-is : (fs : List Frame) (least l : ℕ) (x : Expr) → (reduce fs least l x).level ≡ reduced_level fs least l
reduced_level-is [] least l x = refl
reduced_level-is (g ∷ gs) least l x =
    elim (nat_le least (rank g)) as (λ b. (cond b (reduce gs least (rank g) (made g x)) (record { level = l; expr = x; frames = g ∷ gs })).level
    ≡ cond b (reduced_level gs least (rank g)) l)
    [ true ↦ reduced_level-is gs least (rank g) (made g x) | false ↦ refl ]

some_cond : (b : Bool) (s : State) → is_some (cond b (Some s) None) ≡ b
some_cond true s = refl
some_cond false s = refl

operator_alike : (o : Operator) (fs : List Frame) (l : ℕ) (x : Expr) → is_some (with_operator o (reduce fs (level_of o) l x)) ≡ nat_le (left_of o) (reduced_level fs (level_of o) l)
operator_alike o fs l x =
    let r = reduce fs (level_of o) l x in
    some_cond (nat_le (left_of o) r.level) _ ∙ ap (nat_le (left_of o)) (reduced_level-is fs (level_of o) l x)

is_alike : (fs : List Frame) (l : ℕ) (x : Expr) → is_some (with_is (reduce fs 4 l x)) ≡ nat_le 5 (reduced_level fs 4 l)
is_alike fs l x =
    let r = reduce fs 4 l x in
    some_cond (nat_le 5 r.level) _ ∙ ap (nat_le 5) (reduced_level-is fs 4 l x)

call_alike : (g : Function) (x : Expr) (fs : List Frame) → is_some (ended_call g x fs) ≡ closes_call g
call_alike fn.Abs x fs = refl
call_alike fn.Length x fs = refl
call_alike fn.Scale x fs = refl
call_alike fn.Coalesce x fs = refl
call_alike fn.If x fs = refl

comma_alike : (g : Function) (x : Expr) (fs : List Frame) → is_some (gone_on g x fs) ≡ parts_call g
comma_alike fn.Abs x fs = refl
comma_alike fn.Length x fs = refl
comma_alike fn.Scale x fs = refl
comma_alike fn.Coalesce x fs = refl
comma_alike fn.If x fs = refl

close_alike : (fs : List Frame) (l : ℕ) (x : Expr) → is_some (closed_in (reduce fs 1 l x).expr (reduce fs 1 l x).frames) ≡ closes fs
close_alike [] l x = refl
close_alike (f.Left o a ∷ fs) l x =
    ap (λ (r : Reduced). is_some (closed_in r.expr r.frames)) (reduce-frame (f.Left o a) fs 1 l x (levels_of o).some) ∙ close_alike fs (level_of o) (e.Infix o a x)
close_alike (f.Not ∷ fs) l x = close_alike fs 3 (e.Not x)
close_alike (f.Negated ∷ fs) l x = close_alike fs 7 (e.Negated x)
close_alike (f.Parens ∷ fs) l x = refl
close_alike (f.First g ∷ fs) l x = call_alike g x fs
close_alike (f.CoalesceSecond a ∷ fs) l x = refl
close_alike (f.IfSecond a ∷ fs) l x = refl
close_alike (f.IfThird a b ∷ fs) l x = refl

part_alike : (fs : List Frame) (l : ℕ) (x : Expr) → is_some (parted_in (reduce fs 1 l x).expr (reduce fs 1 l x).frames) ≡ parts fs
part_alike [] l x = refl
part_alike (f.Left o a ∷ fs) l x =
    ap (λ (r : Reduced). is_some (parted_in r.expr r.frames)) (reduce-frame (f.Left o a) fs 1 l x (levels_of o).some) ∙ part_alike fs (level_of o) (e.Infix o a x)
part_alike (f.Not ∷ fs) l x = part_alike fs 3 (e.Not x)
part_alike (f.Negated ∷ fs) l x = part_alike fs 7 (e.Negated x)
part_alike (f.Parens ∷ fs) l x = refl
part_alike (f.First g ∷ fs) l x = comma_alike g x fs
part_alike (f.CoalesceSecond a ∷ fs) l x = refl
part_alike (f.IfSecond a ∷ fs) l x = refl
part_alike (f.IfThird a b ∷ fs) l x = refl

operand_alike : (fs : List Frame) (k : Kind) (w : List ℕ) → is_some (takes_operand fs k w) ≡ allows_operand fs k
operand_alike fs kind.Number w = refl
operand_alike fs kind.Text w = refl
operand_alike fs kind.Name w = refl
operand_alike fs (kind.Infix op.Or) w = refl
operand_alike fs (kind.Infix op.And) w = refl
operand_alike fs (kind.Infix op.Equal) w = refl
operand_alike fs (kind.Infix op.NotEqual) w = refl
operand_alike fs (kind.Infix op.Less) w = refl
operand_alike fs (kind.Infix op.LessOrEqual) w = refl
operand_alike fs (kind.Infix op.Greater) w = refl
operand_alike fs (kind.Infix op.GreaterOrEqual) w = refl
operand_alike fs (kind.Infix op.Plus) w = refl
operand_alike fs (kind.Infix op.Minus) w = refl
operand_alike fs (kind.Infix op.Join) w = refl
operand_alike fs (kind.Infix op.Times) w = refl
operand_alike fs (kind.Infix op.Over) w = refl
operand_alike fs kind.Is w = refl
operand_alike fs kind.Not w = some_cond (nat_le (hole fs) 3) _
operand_alike fs kind.Null w = refl
operand_alike fs (kind.Call c) w = refl
operand_alike fs kind.Open w = refl
operand_alike fs kind.Close w = refl
operand_alike fs kind.Comma w = refl
operand_alike fs kind.Other w = refl

opening_alike : (g : Function) (fs : List Frame) (k : Kind) → is_some (takes_opening g fs k) ≡ allows_opening k
opening_alike g fs kind.Number = refl
opening_alike g fs kind.Text = refl
opening_alike g fs kind.Name = refl
opening_alike g fs (kind.Infix o) = refl
opening_alike g fs kind.Is = refl
opening_alike g fs kind.Not = refl
opening_alike g fs kind.Null = refl
opening_alike g fs (kind.Call c) = refl
opening_alike g fs kind.Open = refl
opening_alike g fs kind.Close = refl
opening_alike g fs kind.Comma = refl
opening_alike g fs kind.Other = refl

after_alike : (l : ℕ) (x : Expr) (fs : List Frame) (k : Kind) → is_some (takes_after l x fs k) ≡ allows_after l fs k
after_alike l x fs kind.Number = refl
after_alike l x fs kind.Text = refl
after_alike l x fs kind.Name = refl
after_alike l x fs (kind.Infix o) = operator_alike o fs l x
after_alike l x fs kind.Is = is_alike fs l x
after_alike l x fs kind.Not = refl
after_alike l x fs kind.Null = refl
after_alike l x fs (kind.Call c) = refl
after_alike l x fs kind.Open = refl
after_alike l x fs kind.Close = close_alike fs l x
after_alike l x fs kind.Comma = part_alike fs l x
after_alike l x fs kind.Other = refl

test_alike : (x : Expr) (fs : List Frame) (k : Kind) → is_some (takes_is x fs k) ≡ allows_is k
test_alike x fs kind.Number = refl
test_alike x fs kind.Text = refl
test_alike x fs kind.Name = refl
test_alike x fs (kind.Infix o) = refl
test_alike x fs kind.Is = refl
test_alike x fs kind.Not = refl
test_alike x fs kind.Null = refl
test_alike x fs (kind.Call c) = refl
test_alike x fs kind.Open = refl
test_alike x fs kind.Close = refl
test_alike x fs kind.Comma = refl
test_alike x fs kind.Other = refl

not_alike : (x : Expr) (fs : List Frame) (k : Kind) → is_some (takes_is_not x fs k) ≡ allows_is_not k
not_alike x fs kind.Number = refl
not_alike x fs kind.Text = refl
not_alike x fs kind.Name = refl
not_alike x fs (kind.Infix o) = refl
not_alike x fs kind.Is = refl
not_alike x fs kind.Not = refl
not_alike x fs kind.Null = refl
not_alike x fs (kind.Call c) = refl
not_alike x fs kind.Open = refl
not_alike x fs kind.Close = refl
not_alike x fs kind.Comma = refl
not_alike x fs kind.Other = refl

scaled_alike : (x : Expr) (n : ℕ) (fs : List Frame) (k : Kind) → is_some (takes_scaled x n fs k) ≡ allows_scaled k
scaled_alike x n fs kind.Number = refl
scaled_alike x n fs kind.Text = refl
scaled_alike x n fs kind.Name = refl
scaled_alike x n fs (kind.Infix o) = refl
scaled_alike x n fs kind.Is = refl
scaled_alike x n fs kind.Not = refl
scaled_alike x n fs kind.Null = refl
scaled_alike x n fs (kind.Call c) = refl
scaled_alike x n fs kind.Open = refl
scaled_alike x n fs kind.Close = refl
scaled_alike x n fs kind.Comma = refl
scaled_alike x n fs kind.Other = refl

abbrev IsByKind : Mode → Type 0
IsByKind (m.Digit x) = ⊥
IsByKind _ = Unit {0}

pub allowed_is : (o : Mode) (fs : List Frame) (k : Kind) (w : List ℕ) → IsByKind o → is_some (takes_in o fs k w) ≡ allows o fs k
allowed_is m.Operand fs k w by = operand_alike fs k w
allowed_is (m.Opening g) fs k w by = opening_alike g fs k
allowed_is (m.After l x) fs k w by = after_alike l x fs k
allowed_is (m.Is x) fs k w by = test_alike x fs k
allowed_is (m.IsNot x) fs k w by = not_alike x fs k
allowed_is (m.Digit x) fs k w by = absurd by
allowed_is (m.Scaled x n) fs k w by = scaled_alike x n fs k

any_same : (p q : Kind → Bool) (ks : List Kind) → ((k : Kind) → p k ≡ q k) → list_any p ks ≡ list_any q ks
any_same p q [] h = refl
any_same p q (k ∷ ks) h = ap (λ b. b || list_any p ks) (h k) ∙ ap (λ b. q k || b) (any_same p q ks h)

abbrev BeginsAny : Mode → List Frame → List ℕ → Bool
BeginsAny o fs w =
    (begins_number w && is_some (takes_in o fs kind.Number w))
    || (begins_text w && is_some (takes_in o fs kind.Text w))
    || ((is_word w && nat_le (length w) 40) && is_some (takes_in o fs kind.Name w))
    || list_any (λ k. is_front w (spelling k) && is_some (takes_in o fs k w)) fixed

abbrev Four : Bool → Bool → Bool → Bool → Bool
Four a b c d = a || b || c || d

four : (a b c d a2 b2 c2 d2 : Bool) → a ≡ a2 → b ≡ b2 → c ≡ c2 → d ≡ d2 → Four a b c d ≡ Four a2 b2 c2 d2
four a b c d a2 b2 c2 d2 p q r s = ap (λ x. Four x b c d) p ∙ ap (λ x. Four a2 x c d) q ∙ ap (λ x. Four a2 b2 x d) r ∙ ap (λ x. Four a2 b2 c2 x) s

begins_alike : (o : Mode) (fs : List Frame) (w : List ℕ) → IsByKind o → BeginsAny o fs w ≡ begins_by o fs w
begins_alike o fs w by =
    four _ _ _ _ _ _ _ _
    (ap (λ b. begins_number w && b) (allowed_is o fs kind.Number w by))
    (ap (λ b. begins_text w && b) (allowed_is o fs kind.Text w by))
    (ap (λ b. (is_word w && nat_le (length w) 40) && b) (allowed_is o fs kind.Name w by))
    (any_same (λ k. is_front w (spelling k) && is_some (takes_in o fs k w)) (λ k. is_front w (spelling k) && allows o fs k) fixed
    (λ k. ap (λ b. is_front w (spelling k) && b) (allowed_is o fs k w by)))

pub begins_is : (o : Mode) (fs : List Frame) (w : List ℕ) → begins_if o fs w ≡ begins (at_mode o fs) w
unfolding begins
begins_is m.Operand fs w = sym (begins_alike m.Operand fs w tt)
begins_is (m.Opening g) fs w = sym (begins_alike (m.Opening g) fs w tt)
begins_is (m.After l x) fs w = sym (begins_alike (m.After l x) fs w tt)
begins_is (m.Is x) fs w = sym (begins_alike (m.Is x) fs w tt)
begins_is (m.IsNot x) fs w = sym (begins_alike (m.IsNot x) fs w tt)
begins_is (m.Digit x) fs w = refl
begins_is (m.Scaled x n) fs w = sym (begins_alike (m.Scaled x n) fs w tt)
