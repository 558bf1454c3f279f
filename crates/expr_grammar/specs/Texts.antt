-- The texts of expressions, and what is wrong with others.
use Rattle.std.specs.Prelude.{◌≡◌, ℕ, true, ◌+◌, ◌<◌, ◌≤◌, List, [], ◌∷◌, ◌++◌, length, take, ◌⊎◌, Result, Ok, Err}
use Rattle.expr_grammar.specs.Tokens.{Reads, Spells, is_number, is_text}
use Rattle.expr_grammar.specs.Phrases.{Phrase, IsPhrase, tokens, IsWithin, tree}
use Rattle.expr_grammar.specs.declared.expr.Expr.{Expr}
use Rattle.expr_grammar.specs.declared.fault.ExprWhat.{ExprWhat}
use Rattle.expr_grammar.specs.declared.fault.ExprWhat.TheVariants as what
use Rattle.expr_grammar.specs.declared.fault.ExprFault.{ExprFault}

-- the text spells the phrase, which is of the grammar
abbrev pub IsSpelt : Phrase → List ℕ → Type 0
IsSpelt p text = IsPhrase p × Spells (tokens p) text

-- the text is the expression's
abbrev pub IsText : List ℕ → Expr → Type 0
IsText text x = (length text ≤ 4096) × (p : Phrase) × IsWithin p × IsSpelt p text × (tree p ≡ x)

-- some text of the grammar begins so, however deep and long it is
abbrev pub GoesOn : List ℕ → Type 0
GoesOn front = (more : List ℕ) × (p : Phrase) × IsSpelt p (front ++ more)

-- some phrase begins with these tokens
abbrev pub Begins : List (List ℕ) → Type 0
Begins ws = (more : List (List ℕ)) × (p : Phrase) × IsPhrase p × (tokens p ≡ ws ++ more)

-- the same of a phrase within the limits
abbrev pub BeginsWithin : List (List ℕ) → Type 0
BeginsWithin ws = (more : List (List ℕ)) × (p : Phrase) × IsPhrase p × IsWithin p × (tokens p ≡ ws ++ more)

-- at this place begins the first token that leads beyond the limits, though not beyond the grammar
pub record IsBeyond (text : List ℕ) (at : ℕ) (w : List ℕ) : Type 0 where
  pub before : List (List ℕ)
  pub rest : List ℕ
  pub read : Reads (before ++ w ∷ []) text rest
  pub place : at + length w + length rest ≡ length text
  pub within : BeginsWithin before
  pub goes_on : Begins (before ++ w ∷ [])
  pub beyond : BeginsWithin (before ++ w ∷ []) → ⊥

-- no token leads beyond the limits
abbrev pub StaysWithin : List ℕ → Type 0
StaysWithin text = (at : ℕ) (w : List ℕ) → IsBeyond text at w → ⊥

-- the place is the length of the longest front that goes on, and the text is not of the grammar
pub record IsUnexpected (text : List ℕ) (at : ℕ) : Type 0 where
  pub inside : at ≤ length text
  pub front : GoesOn (take at text)
  pub longest : at < length text → GoesOn (take (at + 1) text) → ⊥
  pub refused : (p : Phrase) → IsSpelt p text → ⊥

abbrev pub IsFault : List ℕ → ℕ → ExprWhat → Type 0
IsFault text at what.Unexpected = StaysWithin text × IsUnexpected text at
IsFault text at what.BadNumber = (w : List ℕ) × (is_number w ≡ true) × IsBeyond text at w
IsFault text at what.BadText = (w : List ℕ) × (is_text w ≡ true) × IsBeyond text at w
IsFault text at what.TooDeep = (w : List ℕ) × (is_number w ≡ true → ⊥) × (is_text w ≡ true → ⊥) × IsBeyond text at w
IsFault text at what.TooLong = ⊥

-- the first fault of the text
abbrev pub IsFirstFault : List ℕ → ExprFault → Type 0
IsFirstFault text f =
    ((4096 < length text) × (f.at ≡ 4096) × (f.what ≡ what.TooLong)) ⊎ ((length text ≤ 4096) × IsFault text f.at f.what)

-- what the text is: an expression's, or wrong by this first fault
abbrev pub IsRead : List ℕ → Result Expr ExprFault → Type 0
IsRead text (Ok x) = IsText text x
IsRead text (Err f) = IsFirstFault text f
