-- Which kinds of tokens can stand in a state, without taking one.
use Rattle.std.specs.Prelude.{ℕ, nat_le, List, [], ◌∷◌, length, Bool, true, false, ◌&&◌, ◌||◌, if◌then◌else◌}
use Rattle.std.specs.List.{list_any}
use Rattle.expr_grammar.specs.Tokens.{is_word, is_scale, is_front}
use Rattle.expr_grammar.specs.Phrases.{level_of, left_of}
use Rattle.expr_grammar.specs.Kinds.{fixed, spelling, begins_number, begins_text}
use Rattle.expr_grammar.specs.Machine.{rank, hole}
use Rattle.expr_grammar.specs.declared.expr.Operator.TheVariants as op
use Rattle.expr_grammar.specs.declared.state.Function.{Function}
use Rattle.expr_grammar.specs.declared.state.Function.TheVariants as fn
use Rattle.expr_grammar.specs.declared.state.Kind.{Kind}
use Rattle.expr_grammar.specs.declared.state.Kind.TheVariants as kind
use Rattle.expr_grammar.specs.declared.state.Frame.{Frame}
use Rattle.expr_grammar.specs.declared.state.Frame.TheVariants as f
use Rattle.expr_grammar.specs.declared.state.Mode.{Mode}
use Rattle.expr_grammar.specs.declared.state.Mode.TheVariants as m

abbrev pub reduced_level : List Frame → ℕ → ℕ → ℕ
reduced_level [] least l = l
reduced_level (g ∷ gs) least l = if nat_le least (rank g) then reduced_level gs least (rank g) else l

abbrev pub closes_call : Function → Bool
closes_call fn.Abs = true
closes_call fn.Length = true
closes_call _ = false

-- the innermost bracket can be closed
abbrev pub closes : List Frame → Bool
closes [] = false
closes (f.Left o a ∷ fs) = closes fs
closes (f.Not ∷ fs) = closes fs
closes (f.Negated ∷ fs) = closes fs
closes (f.Parens ∷ fs) = true
closes (f.First g ∷ fs) = closes_call g
closes (f.CoalesceSecond a ∷ fs) = true
closes (f.IfSecond a ∷ fs) = false
closes (f.IfThird a b ∷ fs) = true

abbrev pub parts_call : Function → Bool
parts_call fn.Abs = false
parts_call fn.Length = false
parts_call _ = true

-- the innermost bracket goes on with a comma
abbrev pub parts : List Frame → Bool
parts [] = false
parts (f.Left o a ∷ fs) = parts fs
parts (f.Not ∷ fs) = parts fs
parts (f.Negated ∷ fs) = parts fs
parts (f.Parens ∷ fs) = false
parts (f.First g ∷ fs) = parts_call g
parts (f.CoalesceSecond a ∷ fs) = false
parts (f.IfSecond a ∷ fs) = true
parts (f.IfThird a b ∷ fs) = false

abbrev pub allows_operand : List Frame → Kind → Bool
allows_operand fs kind.Number = true
allows_operand fs kind.Text = true
allows_operand fs kind.Name = true
allows_operand fs kind.Open = true
allows_operand fs (kind.Call g) = true
allows_operand fs (kind.Infix op.Minus) = true
allows_operand fs kind.Not = nat_le (hole fs) 3
allows_operand fs _ = false

abbrev pub allows_opening : Kind → Bool
allows_opening kind.Open = true
allows_opening _ = false

abbrev pub allows_after : ℕ → List Frame → Kind → Bool
allows_after l fs (kind.Infix o) = nat_le (left_of o) (reduced_level fs (level_of o) l)
allows_after l fs kind.Is = nat_le 5 (reduced_level fs 4 l)
allows_after l fs kind.Close = closes fs
allows_after l fs kind.Comma = parts fs
allows_after l fs _ = false

abbrev pub allows_is : Kind → Bool
allows_is kind.Not = true
allows_is kind.Null = true
allows_is _ = false

abbrev pub allows_is_not : Kind → Bool
allows_is_not kind.Null = true
allows_is_not _ = false

abbrev pub allows_scaled : Kind → Bool
allows_scaled kind.Close = true
allows_scaled _ = false

-- a token of this kind can stand there, where that doesn't depend on the token
abbrev pub allows : Mode → List Frame → Kind → Bool
allows m.Operand fs k = allows_operand fs k
allows (m.Opening g) fs k = allows_opening k
allows (m.After l x) fs k = allows_after l fs k
allows (m.Is x) fs k = allows_is k
allows (m.IsNot x) fs k = allows_is_not k
allows (m.Digit x) fs k = false
allows (m.Scaled x n) fs k = allows_scaled k

-- some token that can stand there begins so, in such a mode
abbrev pub begins_by : Mode → List Frame → List ℕ → Bool
begins_by m fs w =
    (begins_number w && allows m fs kind.Number)
    || (begins_text w && allows m fs kind.Text)
    || ((is_word w && nat_le (length w) 40) && allows m fs kind.Name)
    || list_any (λ k. is_front w (spelling k) && allows m fs k) fixed

abbrev pub begins_if : Mode → List Frame → List ℕ → Bool
begins_if (m.Digit x) fs w = is_scale w
begins_if m fs w = begins_by m fs w
