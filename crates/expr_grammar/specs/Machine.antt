-- A reader that takes byte after byte, and refuses the first one with which no text goes on.
use Rattle.std.specs.Prelude.{pos, ℕ, ◌+◌, ◌-◌, ◌^◌, nat_le, nat_lt, List, [], ◌∷◌, ◌++◌, length, slice_index, Option, Some, None, is_some, Result, Ok, Err, Bool, true, not, ◌&&◌, ◌||◌, ◌==◌, if◌then◌else◌}
use Rattle.std.specs.List.{list_any}
use Rattle.expr_grammar.specs.Tokens.{is_word, is_number, is_text, is_scale, is_front, units, places, said}
use Rattle.tuple_schema.specs.Stops.{◌>>=◌}
use Rattle.expr_grammar.specs.Phrases.{level_of, left_of, right_of}
use Rattle.expr_grammar.specs.Kinds.{fixed, spelling, kind_of, continues, begins_number, begins_text}
use Rattle.expr_grammar.specs.declared.expr.Expr.{Expr}
use Rattle.expr_grammar.specs.declared.expr.Expr.TheVariants as e
use Rattle.expr_grammar.specs.declared.expr.Operator.{Operator}
use Rattle.expr_grammar.specs.declared.expr.Operator.TheVariants as op
use Rattle.expr_grammar.specs.declared.fault.ExprFault.{ExprFault}
use Rattle.expr_grammar.specs.declared.fault.ExprWhat.{ExprWhat}
use Rattle.expr_grammar.specs.declared.fault.ExprWhat.TheVariants as what
use Rattle.expr_grammar.specs.declared.state.Function.{Function}
use Rattle.expr_grammar.specs.declared.state.Function.TheVariants as fn
use Rattle.expr_grammar.specs.declared.state.Kind.{Kind}
use Rattle.expr_grammar.specs.declared.state.Kind.TheVariants as kind
use Rattle.expr_grammar.specs.declared.state.Frame.{Frame}
use Rattle.expr_grammar.specs.declared.state.Frame.TheVariants as f
use Rattle.expr_grammar.specs.declared.state.Mode.{Mode}
use Rattle.expr_grammar.specs.declared.state.Mode.TheVariants as m

-- where a text stands after some tokens; the innermost frame comes first
pub record State : Type 0 where
  pub mode : Mode
  pub frames : List Frame

abbrev pub at_mode : Mode → List Frame → State
at_mode m fs = record { mode = m; frames = fs }

-- the level of what a frame makes of an operand, or 0 for what is closed by a token
abbrev pub rank : Frame → ℕ
rank (f.Left o a) = level_of o
rank f.Not = 3
rank f.Negated = 7
rank _ = 0

abbrev pub made : Frame → Expr → Expr
made (f.Left o a) x = e.Infix o a x
made f.Not x = e.Not x
made f.Negated x = e.Negated x
made _ x = x

-- the least level of what stands in a frame
abbrev pub room : Frame → ℕ
room (f.Left o a) = right_of o
room f.Not = 3
room f.Negated = 7
room _ = 1

abbrev pub hole : List Frame → ℕ
hole [] = 1
hole (g ∷ gs) = room g

pub record Reduced : Type 0 where
  pub level : ℕ
  pub expr : Expr
  pub frames : List Frame

-- an operand joined with what binds at least so tightly on its left; least isn't 0
abbrev pub reduce : List Frame → ℕ → ℕ → Expr → Reduced
reduce [] least l x = record { level = l; expr = x; frames = [] }
reduce (g ∷ gs) least l x = if nat_le least (rank g) then reduce gs least (rank g) (made g x)
    else record { level = l; expr = x; frames = g ∷ gs }

-- an operator after the operand
abbrev pub with_operator : Operator → Reduced → Option State
with_operator o r = if nat_le (left_of o) r.level then Some (at_mode m.Operand (f.Left o r.expr ∷ r.frames)) else None

abbrev pub with_is : Reduced → Option State
with_is r = if nat_le 5 r.level then Some (at_mode (m.Is r.expr) r.frames) else None

abbrev pub whole_in : Expr → List Frame → Option State
whole_in x fs = Some (at_mode (m.After 8 x) fs)

abbrev pub ended_call : Function → Expr → List Frame → Option State
ended_call fn.Abs x fs = whole_in (e.Abs x) fs
ended_call fn.Length x fs = whole_in (e.Length x) fs
ended_call _ x fs = None

abbrev pub closed_by : Frame → Expr → List Frame → Option State
closed_by f.Parens x fs = whole_in x fs
closed_by (f.First g) x fs = ended_call g x fs
closed_by (f.CoalesceSecond a) x fs = whole_in (e.Coalesce a x) fs
closed_by (f.IfThird a b) x fs = whole_in (e.If a b x) fs
closed_by _ x fs = None

abbrev pub closed_in : Expr → List Frame → Option State
closed_in x [] = None
closed_in x (g ∷ gs) = closed_by g x gs

abbrev pub gone_on : Function → Expr → List Frame → Option State
gone_on fn.Scale x fs = Some (at_mode (m.Digit x) fs)
gone_on fn.Coalesce x fs = Some (at_mode m.Operand (f.CoalesceSecond x ∷ fs))
gone_on fn.If x fs = Some (at_mode m.Operand (f.IfSecond x ∷ fs))
gone_on _ x fs = None

abbrev pub parted_by : Frame → Expr → List Frame → Option State
parted_by (f.First g) x fs = gone_on g x fs
parted_by (f.IfSecond a) x fs = Some (at_mode m.Operand (f.IfThird a x ∷ fs))
parted_by _ x fs = None

abbrev pub parted_in : Expr → List Frame → Option State
parted_in x [] = None
parted_in x (g ∷ gs) = parted_by g x gs

abbrev pub takes_operand : List Frame → Kind → List ℕ → Option State
takes_operand fs kind.Number w = whole_in (e.Number (pos (units w)) (places w)) fs
takes_operand fs kind.Text w = whole_in (e.Text (said w)) fs
takes_operand fs kind.Name w = whole_in (e.Column w) fs
takes_operand fs kind.Open w = Some (at_mode m.Operand (f.Parens ∷ fs))
takes_operand fs (kind.Call g) w = Some (at_mode (m.Opening g) fs)
takes_operand fs (kind.Infix op.Minus) w = Some (at_mode m.Operand (f.Negated ∷ fs))
takes_operand fs kind.Not w = if nat_le (hole fs) 3 then Some (at_mode m.Operand (f.Not ∷ fs)) else None
takes_operand fs _ w = None

abbrev pub takes_opening : Function → List Frame → Kind → Option State
takes_opening g fs kind.Open = Some (at_mode m.Operand (f.First g ∷ fs))
takes_opening g fs _ = None

abbrev pub takes_after : ℕ → Expr → List Frame → Kind → Option State
takes_after l x fs (kind.Infix o) = with_operator o (reduce fs (level_of o) l x)
takes_after l x fs kind.Is = with_is (reduce fs 4 l x)
takes_after l x fs kind.Close = let r = reduce fs 1 l x in closed_in r.expr r.frames
takes_after l x fs kind.Comma = let r = reduce fs 1 l x in parted_in r.expr r.frames
takes_after l x fs _ = None

abbrev pub takes_is : Expr → List Frame → Kind → Option State
takes_is x fs kind.Not = Some (at_mode (m.IsNot x) fs)
takes_is x fs kind.Null = Some (at_mode (m.After 4 (e.IsNull x)) fs)
takes_is x fs _ = None

abbrev pub takes_is_not : Expr → List Frame → Kind → Option State
takes_is_not x fs kind.Null = Some (at_mode (m.After 4 (e.IsNotNull x)) fs)
takes_is_not x fs _ = None

abbrev pub takes_scaled : Expr → ℕ → List Frame → Kind → Option State
takes_scaled x k fs kind.Close = whole_in (e.Scale x k) fs
takes_scaled x k fs _ = None

-- where the text stands after one more token of this kind, if it can stand there
abbrev pub takes_in : Mode → List Frame → Kind → List ℕ → Option State
takes_in m.Operand fs k w = takes_operand fs k w
takes_in (m.Opening g) fs k w = takes_opening g fs k
takes_in (m.After l x) fs k w = takes_after l x fs k
takes_in (m.Is x) fs k w = takes_is x fs k
takes_in (m.IsNot x) fs k w = takes_is_not x fs k
takes_in (m.Digit x) fs k w = if is_scale w then Some (at_mode (m.Scaled x (slice_index w 0 - 48)) fs) else None
takes_in (m.Scaled x k) fs j w = takes_scaled x k fs j

abbrev pub takes : State → List ℕ → Option State
takes s w = takes_in s.mode s.frames (kind_of w) w

-- how many levels are open
abbrev pub opens : Frame → ℕ
opens (f.Left o a) = 0
opens _ = 1

abbrev pub levels : List Frame → ℕ
levels [] = 0
levels (g ∷ gs) = opens g + levels gs

abbrev pub levels_in : Mode → List Frame → ℕ
levels_in (m.Opening g) fs = 1 + levels fs
levels_in _ fs = levels fs

-- what is beyond the limits in a state that a token led to
abbrev pub beyond : Bool → List ℕ → State → Option ExprWhat
beyond strict w s =
    if strict then (if is_number w then (if nat_lt (units w) (2 ^ 63) then None else Some what.BadNumber)
    else (if is_text w then (if nat_le (length (said w)) 4096 then None else Some what.BadText)
    else (if nat_le (levels_in s.mode s.frames) 64 then None else Some what.TooDeep)))
    else None

abbrev pub fault : {X : Type 0} → ℕ → ExprWhat → Result X ExprFault
fault at w = Err (record { at = at; what = w })

abbrev pub judged : ℕ → State → Option ExprWhat → Result State ExprFault
judged start s None = Ok s
judged start s (Some w) = fault start w

-- digits and a point, with nothing after it, whose digits are too many already
abbrev pub is_bad_already : Bool → List ℕ → Bool
is_bad_already strict w = strict && begins_number w && not (is_number w) && not (nat_lt (units w) (2 ^ 63))

abbrev pub led : Bool → ℕ → List ℕ → Option State → Result State ExprFault
led strict at w None = if is_bad_already strict w then fault (at - length w) what.BadNumber
    else fault at what.Unexpected
led strict at w (Some s) = judged (at - length w) s (beyond strict w s)

-- the state once a token that ends at this place is taken, if there is one
unfoldable pub past : Bool → ℕ → State → List ℕ → Result State ExprFault
past strict at s [] = Ok s
past strict at s (c ∷ cs) = led strict at (c ∷ cs) (takes s (c ∷ cs))

-- some token that can stand there begins so
abbrev pub begins_in : Mode → List Frame → List ℕ → Bool
begins_in (m.Digit x) fs w = is_scale w
begins_in m fs w =
    (begins_number w && is_some (takes_in m fs kind.Number w))
    || (begins_text w && is_some (takes_in m fs kind.Text w))
    || ((is_word w && nat_le (length w) 40) && is_some (takes_in m fs kind.Name w))
    || list_any (λ k. is_front w (spelling k) && is_some (takes_in m fs k w)) fixed

unfoldable pub begins : State → List ℕ → Bool
begins s w = begins_in s.mode s.frames w

abbrev pub whole : ℕ → Reduced → Result Expr ExprFault
whole at r = elim r.frames [ [] ↦ Ok r.expr | (g ∷ gs) ↦ fault at what.Unexpected ]

-- the expression, where the text ends so
unfoldable pub ended : ℕ → State → Result Expr ExprFault
ended at s = elim s.mode [ m.After l x ↦ whole at (reduce s.frames 1 l x) | _ ↦ fault at what.Unexpected ]

-- a byte after a whole token: a space, or the first of the next one
unfoldable pub begun : ℕ → State → ℕ → Result (State × List ℕ) ExprFault
begun at t b = if b == 32 then Ok (t, []) else (if begins t (b ∷ []) then Ok (t, b ∷ []) else fault at what.Unexpected)

-- the state and the bytes of the token so far, after one more byte
unfoldable pub stepped : Bool → ℕ → State → List ℕ → ℕ → Result (State × List ℕ) ExprFault
stepped strict at s w b =
    if continues w b then (if begins s (w ++ b ∷ []) then Ok (s, w ++ b ∷ []) else fault at what.Unexpected)
    else (past strict at s w >>= λ t. begun at t b)

-- reads on from this place, in a state and with the bytes of a token so far
unfoldable pub read : Bool → ℕ → State → List ℕ → List ℕ → Result Expr ExprFault
read strict at s w [] = past strict at s w >>= λ t. ended at t
read strict at s w (b ∷ bs) = stepped strict at s w b >>= λ n. read strict (at + 1) n.0 n.1 bs

abbrev pub start : State
start = at_mode m.Operand []

-- the expression of a text, or its first fault
unfoldable pub reading : List ℕ → Result Expr ExprFault
reading text = if nat_le (length text) 4096 then read true 0 start [] text else fault 4096 what.TooLong
