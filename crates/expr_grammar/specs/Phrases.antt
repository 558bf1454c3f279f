-- The grammar: phrases, which are expressions with their parentheses, and the tokens that they are.
use Rattle.std.specs.Prelude.{◌≡◌, ℕ, pos, true, ◌+◌, ◌-◌, ◌≤◌, ◌<◌, ◌^◌, max, List, [], ◌∷◌, ◌++◌, length, codes, slice_index}
use Rattle.expr_grammar.specs.Tokens.{is_number, is_text, is_column, is_scale, units, places, said}
use Rattle.expr_grammar.specs.declared.expr.Expr.{Expr}
use Rattle.expr_grammar.specs.declared.expr.Expr.TheVariants as e
use Rattle.expr_grammar.specs.declared.expr.Operator.{Operator}
use Rattle.expr_grammar.specs.declared.expr.Operator.TheVariants as op

pub data Phrase : Type 0 where
  number : List ℕ → Phrase
  text : List ℕ → Phrase
  name : List ℕ → Phrase
  parens : Phrase → Phrase
  abs : Phrase → Phrase
  len : Phrase → Phrase
  scale : Phrase → List ℕ → Phrase
  coalesce : Phrase → Phrase → Phrase
  choice : Phrase → Phrase → Phrase → Phrase
  joined : Operator → Phrase → Phrase → Phrase
  denied : Phrase → Phrase
  negated : Phrase → Phrase
  is_null : Phrase → Phrase
  is_not_null : Phrase → Phrase

abbrev pub sign : Operator → List ℕ
sign op.Or = codes "or"
sign op.And = codes "and"
sign op.Equal = codes "="
sign op.NotEqual = codes "<>"
sign op.Less = codes "<"
sign op.LessOrEqual = codes "<="
sign op.Greater = codes ">"
sign op.GreaterOrEqual = codes ">="
sign op.Plus = codes "+"
sign op.Minus = codes "-"
sign op.Join = codes "||"
sign op.Times = codes "*"
sign op.Over = codes "/"

-- how tightly an operator binds: 1 or, 2 and, 3 not, 4 comparisons and `is null`, 5 sums, 6 products, 7 minus, 8 what
-- needs no parentheses
abbrev pub level_of : Operator → ℕ
level_of op.Or = 1
level_of op.And = 2
level_of op.Plus = 5
level_of op.Minus = 5
level_of op.Join = 5
level_of op.Times = 6
level_of op.Over = 6
level_of _ = 4

-- the least level of what stands on its left: comparisons don't follow one another, the others group to the left
abbrev pub left_of : Operator → ℕ
left_of op.Or = 1
left_of op.And = 2
left_of op.Times = 6
left_of op.Over = 6
left_of _ = 5

-- the least level of what stands on its right
abbrev pub right_of : Operator → ℕ
right_of op.Or = 2
right_of op.And = 3
right_of op.Plus = 6
right_of op.Minus = 6
right_of op.Join = 6
right_of op.Times = 7
right_of op.Over = 7
right_of _ = 5

abbrev pub level : Phrase → ℕ
level (joined o p q) = level_of o
level (denied p) = 3
level (is_null p) = 4
level (is_not_null p) = 4
level (negated p) = 7
level _ = 8

-- the phrases of the grammar
abbrev pub IsPhrase : Phrase → Type 0
IsPhrase (number w) = is_number w ≡ true
IsPhrase (text w) = is_text w ≡ true
IsPhrase (name w) = is_column w ≡ true
IsPhrase (parens p) = IsPhrase p
IsPhrase (abs p) = IsPhrase p
IsPhrase (len p) = IsPhrase p
IsPhrase (scale p w) = IsPhrase p × (is_scale w ≡ true)
IsPhrase (coalesce p q) = IsPhrase p × IsPhrase q
IsPhrase (choice p q r) = IsPhrase p × IsPhrase q × IsPhrase r
IsPhrase (joined o p q) = (left_of o ≤ level p) × (right_of o ≤ level q) × IsPhrase p × IsPhrase q
IsPhrase (denied p) = (3 ≤ level p) × IsPhrase p
IsPhrase (negated p) = (7 ≤ level p) × IsPhrase p
IsPhrase (is_null p) = (5 ≤ level p) × IsPhrase p
IsPhrase (is_not_null p) = (5 ≤ level p) × IsPhrase p

-- a function's name and its parts
abbrev pub call : List ℕ → List (List ℕ) → List (List ℕ)
call w parts = w ∷ codes "(" ∷ (parts ++ codes ")" ∷ [])

abbrev pub tokens : Phrase → List (List ℕ)
tokens (number w) = w ∷ []
tokens (text w) = w ∷ []
tokens (name w) = w ∷ []
tokens (parens p) = codes "(" ∷ (tokens p ++ codes ")" ∷ [])
tokens (abs p) = call (codes "abs") (tokens p)
tokens (len p) = call (codes "length") (tokens p)
tokens (scale p w) = call (codes "scale") (tokens p ++ codes "," ∷ w ∷ [])
tokens (coalesce p q) = call (codes "coalesce") (tokens p ++ codes "," ∷ tokens q)
tokens (choice p q r) = call (codes "if") (tokens p ++ codes "," ∷ (tokens q ++ codes "," ∷ tokens r))
tokens (joined o p q) = tokens p ++ sign o ∷ tokens q
tokens (denied p) = codes "not" ∷ tokens p
tokens (negated p) = codes "-" ∷ tokens p
tokens (is_null p) = tokens p ++ codes "is" ∷ codes "null" ∷ []
tokens (is_not_null p) = tokens p ++ codes "is" ∷ codes "not" ∷ codes "null" ∷ []

-- how many levels lie within one another
abbrev pub depth : Phrase → ℕ
depth (parens p) = 1 + depth p
depth (abs p) = 1 + depth p
depth (len p) = 1 + depth p
depth (scale p w) = 1 + depth p
depth (coalesce p q) = 1 + max (depth p) (depth q)
depth (choice p q r) = 1 + max (depth p) (max (depth q) (depth r))
depth (joined o p q) = max (depth p) (depth q)
depth (denied p) = 1 + depth p
depth (negated p) = 1 + depth p
depth (is_null p) = depth p
depth (is_not_null p) = depth p
depth _ = 0

-- each number is below 2^63, and each text has at most 4,096 bytes
abbrev pub LeavesFit : Phrase → Type 0
LeavesFit (number w) = units w < 2 ^ 63
LeavesFit (text w) = length (said w) ≤ 4096
LeavesFit (name w) = Unit {0}
LeavesFit (parens p) = LeavesFit p
LeavesFit (abs p) = LeavesFit p
LeavesFit (len p) = LeavesFit p
LeavesFit (scale p w) = LeavesFit p
LeavesFit (coalesce p q) = LeavesFit p × LeavesFit q
LeavesFit (choice p q r) = LeavesFit p × LeavesFit q × LeavesFit r
LeavesFit (joined o p q) = LeavesFit p × LeavesFit q
LeavesFit (denied p) = LeavesFit p
LeavesFit (negated p) = LeavesFit p
LeavesFit (is_null p) = LeavesFit p
LeavesFit (is_not_null p) = LeavesFit p

abbrev pub IsWithin : Phrase → Type 0
IsWithin p = (depth p ≤ 64) × LeavesFit p

-- the expression, without the parentheses
abbrev pub tree : Phrase → Expr
tree (number w) = e.Number (pos (units w)) (places w)
tree (text w) = e.Text (said w)
tree (name w) = e.Column w
tree (parens p) = tree p
tree (abs p) = e.Abs (tree p)
tree (len p) = e.Length (tree p)
tree (scale p w) = e.Scale (tree p) (slice_index w 0 - 48)
tree (coalesce p q) = e.Coalesce (tree p) (tree q)
tree (choice p q r) = e.If (tree p) (tree q) (tree r)
tree (joined o p q) = e.Infix o (tree p) (tree q)
tree (denied p) = e.Not (tree p)
tree (negated p) = e.Negated (tree p)
tree (is_null p) = e.IsNull (tree p)
tree (is_not_null p) = e.IsNotNull (tree p)
