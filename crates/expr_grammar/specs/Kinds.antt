-- What a token is.
use Rattle.std.specs.Prelude.{ℕ, nat_le, List, [], ◌∷◌, ◌++◌, length, codes, bytes_eq, Bool, true, false, not, if◌then◌else◌, ◌==◌, ◌&&◌}
use Rattle.std.specs.List.{list_all, list_any}
use Rattle.tuple_schema.specs.Texts.{is_lower, is_digit, is_name_byte, is_among}
use Rattle.expr_grammar.specs.Tokens.{is_word, is_number, is_text, is_front, symbols}
use Rattle.expr_grammar.specs.Phrases.{sign}
use Rattle.expr_grammar.specs.declared.state.Kind.{Kind}
use Rattle.expr_grammar.specs.declared.state.Kind.TheVariants as kind
use Rattle.expr_grammar.specs.declared.state.Function.{Function}
use Rattle.expr_grammar.specs.declared.state.Function.TheVariants as fn
use Rattle.expr_grammar.specs.declared.expr.Operator.TheVariants as op

-- the tokens that are always spelt alike
abbrev pub fixed_words : List Kind
fixed_words =
    kind.Is ∷ kind.Not ∷ kind.Null ∷ kind.Call fn.Abs ∷ kind.Call fn.Length ∷ kind.Call fn.Scale ∷ kind.Call fn.Coalesce
    ∷ kind.Call fn.If ∷ kind.Open ∷ kind.Close ∷ kind.Comma ∷ []

abbrev pub fixed : List Kind
fixed =
    kind.Infix op.Or ∷ kind.Infix op.And ∷ kind.Infix op.Equal ∷ kind.Infix op.NotEqual ∷ kind.Infix op.Less
    ∷ kind.Infix op.LessOrEqual
    ∷ kind.Infix op.Greater ∷ kind.Infix op.GreaterOrEqual ∷ kind.Infix op.Plus ∷ kind.Infix op.Minus
    ∷ kind.Infix op.Join ∷ kind.Infix op.Times
    ∷ kind.Infix op.Over ∷ fixed_words

abbrev pub word_of : Function → List ℕ
word_of fn.Abs = codes "abs"
word_of fn.Length = codes "length"
word_of fn.Scale = codes "scale"
word_of fn.Coalesce = codes "coalesce"
word_of fn.If = codes "if"

abbrev pub spelling : Kind → List ℕ
spelling (kind.Infix o) = sign o
spelling (kind.Call g) = word_of g
spelling kind.Is = codes "is"
spelling kind.Not = codes "not"
spelling kind.Null = codes "null"
spelling kind.Open = codes "("
spelling kind.Close = codes ")"
spelling kind.Comma = codes ","
spelling _ = []

-- the first of these that is spelt so
abbrev pub kind_among : List Kind → List ℕ → Kind
kind_among [] w = kind.Other
kind_among (k ∷ ks) w = if bytes_eq w (spelling k) then k else kind_among ks w

-- the words of the language, and the words that name nothing
abbrev pub reserved : List (List ℕ)
reserved =
    codes "or" ∷ codes "and" ∷ codes "not" ∷ codes "is" ∷ codes "null" ∷ codes "abs" ∷ codes "length" ∷ codes "scale"
    ∷ codes "coalesce" ∷ codes "if"
    ∷ codes "table" ∷ codes "none" ∷ []

-- a word of 1 to 40 bytes that isn't reserved, which is a column
abbrev pub is_plain_name : List ℕ → Bool
is_plain_name w = is_word w && nat_le (length w) 40 && not (is_among reserved w)

abbrev pub kind_of : List ℕ → Kind
kind_of w =
    if is_number w then kind.Number
    else (if is_text w then kind.Text
    else (if is_plain_name w then kind.Name else kind_among fixed w))

-- some number begins with the first digit and these bytes
abbrev pub goes_number : List ℕ → Bool
goes_number [] = true
goes_number (b ∷ bs) = if is_digit b then goes_number bs else
    ((b == 46) && list_all is_digit bs && nat_le (length bs) 6)

abbrev pub begins_number : List ℕ → Bool
begins_number [] = false
begins_number (b ∷ bs) = is_digit b && goes_number bs

-- some text begins with the first quote and these bytes
abbrev pub goes_text : Bool → List ℕ → Bool
goes_text b [] = true
goes_text true (b ∷ bs) = goes_text (not (b == 39)) bs
goes_text false (b ∷ bs) = (b == 39) && goes_text true bs

abbrev pub begins_text : List ℕ → Bool
begins_text [] = false
begins_text (b ∷ bs) = (b == 39) && goes_text true bs

-- some token begins with w, which isn't empty, and this byte
abbrev pub continues : List ℕ → ℕ → Bool
continues [] b = false
continues (c ∷ cs) b =
    if is_lower c then is_name_byte b
    else (if is_digit c then begins_number ((c ∷ cs) ++ b ∷ [])
    else (if c == 39 then begins_text ((c ∷ cs) ++ b ∷ []) else list_any (is_front ((c ∷ cs) ++ b ∷ [])) symbols))
