-- Which tokens can stand in a state, and which bytes begin one.
use Rattle.std.proofs.Common.{◌≡◌, ℕ, ◌-◌, ◌≤◌, List, [], ◌∷◌, ◌++◌, length, codes, slice_index, Option, Some, None, is_some, Bool, true, false, cond, not, ◌&&◌, ◌||◌, ◌⊎◌, inl, inr, nat_le, ◌==◌, refl, sym, ap, ◌∙◌, append-nil, length-append, arith}
use Rattle.std.specs.List.{list_all, list_any}
use Rattle.std.proofs.lemmas.Bool.{false≢true, and_parts, and_from, or_cases, or_left, or_right, not_from_false, le-leb, leb-true}
use Rattle.std.proofs.lemmas.List.Folds.{list_all-append}
use Rattle.tuple_schema.specs.Texts.{is_lower, is_digit, is_name_byte, is_among}
use Rattle.expr_grammar.specs.Kinds.{is_plain_name, reserved}
use Rattle.expr_grammar.specs.Tokens.{is_word, is_number, ends_number, are_places, is_text, ends_text, is_scale, is_token, is_front}
use Rattle.expr_grammar.specs.Kinds.{kind_of, fixed, spelling, goes_number, begins_number, goes_text, begins_text}
use Rattle.expr_grammar.specs.Machine.{State, at_mode, takes, takes_in, takes_operand, begins, begins_in}
use Rattle.expr_grammar.specs.declared.expr.Expr.{Expr}
use Rattle.expr_grammar.specs.declared.expr.Operator.TheVariants as op
use Rattle.expr_grammar.specs.declared.state.Function.TheVariants as fn
use Rattle.expr_grammar.specs.declared.state.Kind.{Kind}
use Rattle.expr_grammar.specs.declared.state.Kind.TheVariants as kind
use Rattle.expr_grammar.specs.declared.state.Frame.{Frame}
use Rattle.expr_grammar.specs.declared.state.Mode.{Mode}
use Rattle.expr_grammar.specs.declared.state.Mode.TheVariants as m
use Rattle.expr_grammar.proofs.Complete.{number_kind, text_kind, name_kind, scale_number, name_word}
use Rattle.expr_grammar.proofs.OfKind.{IsFixed, IsOfKind, of_kind}
use Rattle.expr_grammar.proofs.Lexical.{among_all, front_number, front_text, front_append, rest_of_front, token_word, token_number, token_text}

some_is : {A : Type 0} (o : Option A) (x : A) → o ≡ Some x → is_some o ≡ true
some_is o x h = ap is_some h

some_of : {A : Type 0} (o : Option A) → is_some o ≡ true → (x : A) × (o ≡ Some x)
some_of None h = absurd (false≢true h)
some_of (Some x) h = (x, refl)

-- the modes in which whether a token can stand depends on its kind alone
abbrev IsByKind : Mode → Type 0
IsByKind (m.Digit x) = ⊥
IsByKind _ = Unit {0}

operand_alike : (fs : List Frame) (k : Kind) (v w : List ℕ) → is_some (takes_operand fs k v) ≡ is_some (takes_operand fs k w)
operand_alike fs kind.Number v w = refl
operand_alike fs kind.Text v w = refl
operand_alike fs kind.Name v w = refl
operand_alike fs (kind.Infix op.Or) v w = refl
operand_alike fs (kind.Infix op.And) v w = refl
operand_alike fs (kind.Infix op.Equal) v w = refl
operand_alike fs (kind.Infix op.NotEqual) v w = refl
operand_alike fs (kind.Infix op.Less) v w = refl
operand_alike fs (kind.Infix op.LessOrEqual) v w = refl
operand_alike fs (kind.Infix op.Greater) v w = refl
operand_alike fs (kind.Infix op.GreaterOrEqual) v w = refl
operand_alike fs (kind.Infix op.Plus) v w = refl
operand_alike fs (kind.Infix op.Minus) v w = refl
operand_alike fs (kind.Infix op.Join) v w = refl
operand_alike fs (kind.Infix op.Times) v w = refl
operand_alike fs (kind.Infix op.Over) v w = refl
operand_alike fs kind.Is v w = refl
operand_alike fs kind.Not v w = refl
operand_alike fs kind.Null v w = refl
operand_alike fs (kind.Call fn.Abs) v w = refl
operand_alike fs (kind.Call fn.Length) v w = refl
operand_alike fs (kind.Call fn.Scale) v w = refl
operand_alike fs (kind.Call fn.Coalesce) v w = refl
operand_alike fs (kind.Call fn.If) v w = refl
operand_alike fs kind.Open v w = refl
operand_alike fs kind.Close v w = refl
operand_alike fs kind.Comma v w = refl
operand_alike fs kind.Other v w = refl

alike : (m : Mode) (fs : List Frame) (k : Kind) (v w : List ℕ) → IsByKind m → is_some (takes_in m fs k v) ≡ is_some (takes_in m fs k w)
alike m.Operand fs k v w by = operand_alike fs k v w
alike (m.Opening g) fs k v w by = refl
alike (m.After l x) fs k v w by = refl
alike (m.Is x) fs k v w by = refl
alike (m.IsNot x) fs k v w by = refl
alike (m.Digit x) fs k v w by = absurd by
alike (m.Scaled x n) fs k v w by = refl

-- some token that can stand there begins so, in such a mode
abbrev BeginsAny : Mode → List Frame → List ℕ → Bool
BeginsAny m fs w =
    (begins_number w && is_some (takes_in m fs kind.Number w))
    || (begins_text w && is_some (takes_in m fs kind.Text w))
    || ((is_word w && nat_le (length w) 40) && is_some (takes_in m fs kind.Name w))
    || list_any (λ k. is_front w (spelling k) && is_some (takes_in m fs k w)) fixed

begins_any : (m : Mode) (fs : List Frame) (w : List ℕ) → IsByKind m → begins_in m fs w ≡ BeginsAny m fs w
begins_any m.Operand fs w by = refl
begins_any (m.Opening g) fs w by = refl
begins_any (m.After l x) fs w by = refl
begins_any (m.Is x) fs w by = refl
begins_any (m.IsNot x) fs w by = refl
begins_any (m.Digit x) fs w by = absurd by
begins_any (m.Scaled x n) fs w by = refl

-- the tokens that are always spelt alike

abbrev Among : Kind → List Kind → Type 0
Among k [] = ⊥
Among k (j ∷ ks) = (k ≡ j) ⊎ Among k ks

any_among : (p : Kind → Bool) (k : Kind) (ks : List Kind) → Among k ks → p k ≡ true → list_any p ks ≡ true
any_among p k [] h q = absurd h
any_among p k (j ∷ ks) (inl same) q = or_left _ _ (ap p (sym same) ∙ q)
any_among p k (j ∷ ks) (inr h) q = or_right _ _ (any_among p k ks h q)

any_of : (p : Kind → Bool) (ks : List Kind) → list_any p ks ≡ true → (k : Kind) × Among k ks × (p k ≡ true)
any_of p [] h = absurd (false≢true h)
any_of p (j ∷ ks) h =
    elim (or_cases (p j) _ h) [
      | inl q ↦ (j, inl refl, q)
      | inr q ↦ (let rest = any_of p ks q in (rest.0, inr rest.1, rest.2))
    ]

abbrev AreSpelt : List Kind → Type 0
AreSpelt [] = Unit {0}
AreSpelt (k ∷ ks) = (kind_of (spelling k) ≡ k) × AreSpelt ks

spelt_among : (k : Kind) (ks : List Kind) → AreSpelt ks → Among k ks → kind_of (spelling k) ≡ k
spelt_among k [] each h = absurd h
spelt_among k (j ∷ ks) each (inl same) = ap (λ z. kind_of (spelling z)) same ∙ each.0 ∙ sym same
spelt_among k (j ∷ ks) each (inr h) = spelt_among k ks each.1 h

fixed_spelt : AreSpelt fixed
fixed_spelt = (refl, (refl, (refl, (refl, (refl, (refl, (refl, (refl, (refl, (refl, (refl, (refl, (refl, (refl, (refl, (refl, (refl, (refl, (refl, (refl, (refl, (refl, (refl, (refl, tt))))))))))))))))))))))))

among_fixed : (k : Kind) → IsFixed k → Among k fixed
among_fixed (kind.Infix op.Or) h = inl refl
among_fixed (kind.Infix op.And) h = inr (inl refl)
among_fixed (kind.Infix op.Equal) h = inr (inr (inl refl))
among_fixed (kind.Infix op.NotEqual) h = inr (inr (inr (inl refl)))
among_fixed (kind.Infix op.Less) h = inr (inr (inr (inr (inl refl))))
among_fixed (kind.Infix op.LessOrEqual) h = inr (inr (inr (inr (inr (inl refl)))))
among_fixed (kind.Infix op.Greater) h = inr (inr (inr (inr (inr (inr (inl refl))))))
among_fixed (kind.Infix op.GreaterOrEqual) h = inr (inr (inr (inr (inr (inr (inr (inl refl)))))))
among_fixed (kind.Infix op.Plus) h = inr (inr (inr (inr (inr (inr (inr (inr (inl refl))))))))
among_fixed (kind.Infix op.Minus) h = inr (inr (inr (inr (inr (inr (inr (inr (inr (inl refl)))))))))
among_fixed (kind.Infix op.Join) h = inr (inr (inr (inr (inr (inr (inr (inr (inr (inr (inl refl))))))))))
among_fixed (kind.Infix op.Times) h = inr (inr (inr (inr (inr (inr (inr (inr (inr (inr (inr (inl refl)))))))))))
among_fixed (kind.Infix op.Over) h = inr (inr (inr (inr (inr (inr (inr (inr (inr (inr (inr (inr (inl refl))))))))))))
among_fixed kind.Is h = inr (inr (inr (inr (inr (inr (inr (inr (inr (inr (inr (inr (inr (inl refl)))))))))))))
among_fixed kind.Not h = inr (inr (inr (inr (inr (inr (inr (inr (inr (inr (inr (inr (inr (inr (inl refl))))))))))))))
among_fixed kind.Null h = inr (inr (inr (inr (inr (inr (inr (inr (inr (inr (inr (inr (inr (inr (inr (inl refl)))))))))))))))
among_fixed (kind.Call fn.Abs) h = inr (inr (inr (inr (inr (inr (inr (inr (inr (inr (inr (inr (inr (inr (inr (inr (inl refl))))))))))))))))
among_fixed (kind.Call fn.Length) h = inr (inr (inr (inr (inr (inr (inr (inr (inr (inr (inr (inr (inr (inr (inr (inr (inr (inl refl)))))))))))))))))
among_fixed (kind.Call fn.Scale) h = inr (inr (inr (inr (inr (inr (inr (inr (inr (inr (inr (inr (inr (inr (inr (inr (inr (inr (inl refl))))))))))))))))))
among_fixed (kind.Call fn.Coalesce) h = inr (inr (inr (inr (inr (inr (inr (inr (inr (inr (inr (inr (inr (inr (inr (inr (inr (inr (inr (inl refl)))))))))))))))))))
among_fixed (kind.Call fn.If) h = inr (inr (inr (inr (inr (inr (inr (inr (inr (inr (inr (inr (inr (inr (inr (inr (inr (inr (inr (inr (inl refl))))))))))))))))))))
among_fixed kind.Open h = inr (inr (inr (inr (inr (inr (inr (inr (inr (inr (inr (inr (inr (inr (inr (inr (inr (inr (inr (inr (inr (inl refl)))))))))))))))))))))
among_fixed kind.Close h = inr (inr (inr (inr (inr (inr (inr (inr (inr (inr (inr (inr (inr (inr (inr (inr (inr (inr (inr (inr (inr (inr (inl refl))))))))))))))))))))))
among_fixed kind.Comma h = inr (inr (inr (inr (inr (inr (inr (inr (inr (inr (inr (inr (inr (inr (inr (inr (inr (inr (inr (inr (inr (inr (inr (inl refl)))))))))))))))))))))))
among_fixed kind.Number h = absurd h
among_fixed kind.Text h = absurd h
among_fixed kind.Name h = absurd h
among_fixed kind.Other h = absurd h

-- a front of a token that can stand begins one

front_number_of : (c : ℕ) (cs v : List ℕ) → is_number ((c ∷ cs) ++ v) ≡ true → begins_number (c ∷ cs) ≡ true
front_number_of c cs v h = let parts = and_parts (is_digit c) _ h in and_from _ _ parts.0 (front_number cs v parts.1)

front_text_of : (c : ℕ) (cs v : List ℕ) → is_text ((c ∷ cs) ++ v) ≡ true → begins_text (c ∷ cs) ≡ true
front_text_of c cs v h = let parts = and_parts (c == 39) _ h in and_from _ _ parts.0 (front_text true cs v parts.1)

front_word : (c : ℕ) (cs v : List ℕ) → is_word ((c ∷ cs) ++ v) ≡ true → is_word (c ∷ cs) ≡ true
front_word c cs v h =
    let parts = and_parts (is_lower c) _ h in
    and_from _ _ parts.0 (and_parts _ _ (sym (list_all-append is_name_byte cs v) ∙ parts.1)).0

front_length : (u v : List ℕ) (n : ℕ) → nat_le (length (u ++ v)) n ≡ true → nat_le (length u) n ≡ true
front_length u v n h = let size : length (u ++ v) ≤ n = leb-true _ _ h in le-leb (length u) n (omega (arith, size, length-append u v))

none_other : (m : Mode) (fs : List Frame) (w : List ℕ) → IsByKind m → is_some (takes_in m fs kind.Other w) ≡ true → ⊥
none_other m.Operand fs w by h = false≢true h
none_other (m.Opening g) fs w by h = false≢true h
none_other (m.After l x) fs w by h = false≢true h
none_other (m.Is x) fs w by h = false≢true h
none_other (m.IsNot x) fs w by h = false≢true h
none_other (m.Digit x) fs w by h = by
none_other (m.Scaled x n) fs w by h = false≢true h

begins_fixed : (m : Mode) (fs : List Frame) (c : ℕ) (cs v : List ℕ) (k : Kind) → IsFixed k → (c ∷ cs) ++ v ≡ spelling k
    → is_some (takes_in m fs k (c ∷ cs)) ≡ true → BeginsAny m fs (c ∷ cs) ≡ true
begins_fixed m fs c cs v k fix is h =
    let front : is_front (c ∷ cs) (spelling k) ≡ true = ap (is_front (c ∷ cs)) (sym is) ∙ front_append (c ∷ cs) v in
    or_right _ _ (any_among (λ j. is_front (c ∷ cs) (spelling j) && is_some (takes_in m fs j (c ∷ cs))) k fixed (among_fixed k fix) (and_from _ _ front h))

begins_kind : (m : Mode) (fs : List Frame) (c : ℕ) (cs v : List ℕ) (k : Kind) → IsByKind m → IsOfKind k ((c ∷ cs) ++ v) → is_some (takes_in m fs k (c ∷ cs)) ≡ true
    → BeginsAny m fs (c ∷ cs) ≡ true
begins_kind m fs c cs v kind.Number by is h = or_left _ _ (or_left _ _ (or_left _ _ (and_from _ _ (front_number_of c cs v is) h)))
begins_kind m fs c cs v kind.Text by is h = or_left _ _ (or_left _ _ (or_right _ _ (and_from _ _ (front_text_of c cs v is.0) h)))
begins_kind m fs c cs v kind.Name by is h =
    let parts = and_parts _ _ is.0 in
    let both = and_parts _ _ parts.0 in
    or_left _ _ (or_right _ _ (and_from _ _ (and_from _ _ (front_word c cs v both.0) (front_length (c ∷ cs) v 40 both.1)) h))
begins_kind m fs c cs v kind.Other by is h = absurd (none_other m fs (c ∷ cs) by h)
begins_kind m fs c cs v (kind.Infix o) by is h = begins_fixed m fs c cs v (kind.Infix o) tt is h
begins_kind m fs c cs v kind.Is by is h = begins_fixed m fs c cs v kind.Is tt is h
begins_kind m fs c cs v kind.Not by is h = begins_fixed m fs c cs v kind.Not tt is h
begins_kind m fs c cs v kind.Null by is h = begins_fixed m fs c cs v kind.Null tt is h
begins_kind m fs c cs v (kind.Call g) by is h = begins_fixed m fs c cs v (kind.Call g) tt is h
begins_kind m fs c cs v kind.Open by is h = begins_fixed m fs c cs v kind.Open tt is h
begins_kind m fs c cs v kind.Close by is h = begins_fixed m fs c cs v kind.Close tt is h
begins_kind m fs c cs v kind.Comma by is h = begins_fixed m fs c cs v kind.Comma tt is h

begins_by : (m : Mode) (fs : List Frame) (c : ℕ) (cs v : List ℕ) (t : State) → IsByKind m → takes_in m fs (kind_of ((c ∷ cs) ++ v)) ((c ∷ cs) ++ v) ≡ Some t
    → begins_in m fs (c ∷ cs) ≡ true
begins_by m fs c cs v t by h =
    let w = (c ∷ cs) ++ v in
    begins_any m fs (c ∷ cs) by ∙ begins_kind m fs c cs v (kind_of w) by (of_kind w) (alike m fs (kind_of w) (c ∷ cs) w by ∙ some_is _ t h)

some_cond : (b : Bool) (s t : State) → cond b (Some s) None ≡ Some t → b ≡ true
some_cond true s t h = refl
some_cond false s t h = absurd cc

front_scale : (c : ℕ) (cs v : List ℕ) → is_scale ((c ∷ cs) ++ v) ≡ true → is_scale (c ∷ cs) ≡ true
front_scale c [] [] h = h
front_scale c [] (x ∷ v) h = absurd (false≢true h)
front_scale c (d ∷ cs) v h = absurd (false≢true h)

begins_mode : (m : Mode) (fs : List Frame) (c : ℕ) (cs v : List ℕ) (t : State) → takes_in m fs (kind_of ((c ∷ cs) ++ v)) ((c ∷ cs) ++ v) ≡ Some t
    → begins_in m fs (c ∷ cs) ≡ true
begins_mode m.Operand fs c cs v t h = begins_by m.Operand fs c cs v t tt h
begins_mode (m.Opening g) fs c cs v t h = begins_by (m.Opening g) fs c cs v t tt h
begins_mode (m.After l x) fs c cs v t h = begins_by (m.After l x) fs c cs v t tt h
begins_mode (m.Is x) fs c cs v t h = begins_by (m.Is x) fs c cs v t tt h
begins_mode (m.IsNot x) fs c cs v t h = begins_by (m.IsNot x) fs c cs v t tt h
begins_mode (m.Digit x) fs c cs v t h = front_scale c cs v (some_cond (is_scale ((c ∷ cs) ++ v)) _ t h)
begins_mode (m.Scaled x n) fs c cs v t h = begins_by (m.Scaled x n) fs c cs v t tt h

pub begins_front : (s t : State) (c : ℕ) (cs v : List ℕ) → takes s ((c ∷ cs) ++ v) ≡ Some t → begins s (c ∷ cs) ≡ true
unfolding begins
begins_front s t c cs v h = begins_mode s.mode s.frames c cs v t h

-- what begins a token that can stand is completed to one

pub record Ended (s : State) (u : List ℕ) : Type 0 where
  pub tail : List ℕ
  pub next : State
  pub taken : takes s (u ++ tail) ≡ Some next

ended_by : (m : Mode) (fs : List Frame) (u v w : List ℕ) (k : Kind) → IsByKind m → w ≡ u ++ v → kind_of w ≡ k → is_some (takes_in m fs k u) ≡ true → Ended (at_mode m fs) u
ended_by m fs u v w k by same of h =
    let some = some_of _ (alike m fs k w u by ∙ h) in
    record {
      tail = v;
      next = some.0;
      taken = ap (takes (at_mode m fs)) (sym same) ∙ ap (λ j. takes_in m fs j w) of ∙ some.1;
    }

number_byte : (b : ℕ) (u : List ℕ) (d : Bool) → is_digit b ≡ d → (goes_number u ≡ true → (ends_number u ≡ true) ⊎ (ends_number (u ++ 48 ∷ []) ≡ true))
    → cond d (goes_number u) ((b == 46) && list_all is_digit u && nat_le (length u) 6) ≡ true
    → (cond d (ends_number u) ((b == 46) && are_places u) ≡ true) ⊎ (cond d (ends_number (u ++ 48 ∷ [])) ((b == 46) && are_places (u ++ 48 ∷ [])) ≡ true)
number_byte b u true is rest h = rest h
number_byte b [] false is rest h = inr (and_from _ _ (and_parts _ _ (and_parts _ _ h).0).0 refl)
number_byte b (x ∷ u) false is rest h =
    let one = and_parts _ _ h in
    let two = and_parts _ _ one.0 in
    inl (and_from _ _ two.0 (and_from _ _ (and_from _ _ two.1 (le-leb 1 (length (x ∷ u)) (omega arith))) one.1))

pub number_end : (u : List ℕ) → goes_number u ≡ true → (ends_number u ≡ true) ⊎ (ends_number (u ++ 48 ∷ []) ≡ true)
number_end [] h = inl refl
number_end (b ∷ u) h = number_byte b u (is_digit b) refl (λ g. number_end u g) h

text_end : (o : Bool) (u : List ℕ) → goes_text o u ≡ true → (ends_text o u ≡ true) ⊎ (ends_text o (u ++ 39 ∷ []) ≡ true)
text_end true [] h = inr refl
text_end false [] h = inl refl
text_end true (b ∷ u) h = text_end (not (b == 39)) u h
text_end false (b ∷ u) h =
    let parts = and_parts (b == 39) _ h in
    elim (text_end true u parts.1) [ inl z ↦ inl (and_from _ _ parts.0 z) | inr z ↦ inr (and_from _ _ parts.0 z) ]

ended_number : (m : Mode) (fs : List Frame) (u : List ℕ) → IsByKind m → begins_number u ≡ true → is_some (takes_in m fs kind.Number u) ≡ true → Ended (at_mode m fs) u
ended_number m fs [] by n h = absurd (false≢true n)
ended_number m fs (c ∷ cs) by n h =
    let parts = and_parts (is_digit c) _ n in
    elim (number_end cs parts.1) [
      | inl z ↦ ended_by m fs (c ∷ cs) [] (c ∷ cs) kind.Number by (sym (append-nil (c ∷ cs))) (number_kind (c ∷ cs) (and_from _ _ parts.0 z)) h
      | inr z ↦ ended_by m fs (c ∷ cs) (48 ∷ []) ((c ∷ cs) ++ 48 ∷ []) kind.Number by refl (number_kind ((c ∷ cs) ++ 48 ∷ []) (and_from _ _ parts.0 z)) h
    ]

ended_text : (m : Mode) (fs : List Frame) (u : List ℕ) → IsByKind m → begins_text u ≡ true → is_some (takes_in m fs kind.Text u) ≡ true → Ended (at_mode m fs) u
ended_text m fs [] by n h = absurd (false≢true n)
ended_text m fs (c ∷ cs) by n h =
    let parts = and_parts (c == 39) _ n in
    elim (text_end true cs parts.1) [
      | inl z ↦ ended_by m fs (c ∷ cs) [] (c ∷ cs) kind.Text by (sym (append-nil (c ∷ cs))) (text_kind (c ∷ cs) (and_from _ _ parts.0 z)) h
      | inr z ↦ ended_by m fs (c ∷ cs) (39 ∷ []) ((c ∷ cs) ++ 39 ∷ []) kind.Text by refl (text_kind ((c ∷ cs) ++ 39 ∷ []) (and_from _ _ parts.0 z)) h
    ]

-- a reserved word goes on as a name
reserved_longer : (u : List ℕ) → is_among reserved u ≡ true → is_plain_name (u ++ codes "x") ≡ true
reserved_longer u h = among_all (λ v. is_plain_name (v ++ codes "x")) reserved u refl h

ended_name : (m : Mode) (fs : List Frame) (u : List ℕ) (b : Bool) → IsByKind m → is_among reserved u ≡ b → is_word u ≡ true → nat_le (length u) 40 ≡ true
    → is_some (takes_in m fs kind.Name u) ≡ true → Ended (at_mode m fs) u
ended_name m fs u true by r word short h =
    ended_by m fs u (codes "x") (u ++ codes "x") kind.Name by refl (name_kind (u ++ codes "x") (reserved_longer u r)) h
ended_name m fs u false by r word short h =
    ended_by m fs u [] u kind.Name by (sym (append-nil u)) (name_kind u (and_from _ _ (and_from _ _ word short) (not_from_false _ r))) h

ended_fixed : (m : Mode) (fs : List Frame) (u : List ℕ) → IsByKind m → list_any (λ k. is_front u (spelling k) && is_some (takes_in m fs k u)) fixed ≡ true → Ended (at_mode m fs) u
ended_fixed m fs u by h =
    let found = any_of (λ k. is_front u (spelling k) && is_some (takes_in m fs k u)) fixed h in
    let parts = and_parts _ _ found.2 in
    let rest = rest_of_front u (spelling found.0) parts.0 in
    ended_by m fs u rest.0 (spelling found.0) found.0 by rest.1 (spelt_among found.0 fixed fixed_spelt found.1) parts.1

ended_any : (m : Mode) (fs : List Frame) (u : List ℕ) → IsByKind m → begins_in m fs u ≡ true → Ended (at_mode m fs) u
ended_any m fs u by h =
    let any : BeginsAny m fs u ≡ true = sym (begins_any m fs u by) ∙ h in
    elim (or_cases _ _ any) [
      | inr z ↦ ended_fixed m fs u by z
      | inl y ↦ elim (or_cases _ _ y) [
        | inr z ↦ (let parts = and_parts _ _ z in let word = and_parts _ _ parts.0 in ended_name m fs u (is_among reserved u) by refl word.0 word.1 parts.1)
        | inl x ↦ elim (or_cases _ _ x) [
          | inr z ↦ (let parts = and_parts _ _ z in ended_text m fs u by parts.0 parts.1)
          | inl z ↦ (let parts = and_parts _ _ z in ended_number m fs u by parts.0 parts.1)
        ]
      ]
    ]

ended_digit : (x : Expr) (fs : List Frame) (u : List ℕ) → is_scale u ≡ true → Ended (at_mode (m.Digit x) fs) u
ended_digit x fs u h = record {
  tail = [];
  next = at_mode (m.Scaled x (slice_index u 0 - 48)) fs;
  taken = ap (takes (at_mode (m.Digit x) fs)) (append-nil u) ∙ rw h refl;
}

ended_mode : (m : Mode) (fs : List Frame) (u : List ℕ) → begins_in m fs u ≡ true → Ended (at_mode m fs) u
ended_mode m.Operand fs u h = ended_any m.Operand fs u tt h
ended_mode (m.Opening g) fs u h = ended_any (m.Opening g) fs u tt h
ended_mode (m.After l x) fs u h = ended_any (m.After l x) fs u tt h
ended_mode (m.Is x) fs u h = ended_any (m.Is x) fs u tt h
ended_mode (m.IsNot x) fs u h = ended_any (m.IsNot x) fs u tt h
ended_mode (m.Digit x) fs u h = ended_digit x fs u h
ended_mode (m.Scaled x n) fs u h = ended_any (m.Scaled x n) fs u tt h

pub ended_of : (s : State) (u : List ℕ) → begins s u ≡ true → Ended s u
unfolding begins
ended_of s u h = ended_mode s.mode s.frames u h

-- what can stand is a token

abbrev AreTokens : List Kind → Type 0
AreTokens [] = Unit {0}
AreTokens (k ∷ ks) = (is_token (spelling k) ≡ true) × AreTokens ks

token_among : (k : Kind) (ks : List Kind) → AreTokens ks → Among k ks → is_token (spelling k) ≡ true
token_among k [] each h = absurd h
token_among k (j ∷ ks) each (inl same) = ap (λ z. is_token (spelling z)) same ∙ each.0
token_among k (j ∷ ks) each (inr h) = token_among k ks each.1 h

fixed_tokens : AreTokens fixed
fixed_tokens = (refl, (refl, (refl, (refl, (refl, (refl, (refl, (refl, (refl, (refl, (refl, (refl, (refl, (refl, (refl, (refl, (refl, (refl, (refl, (refl, (refl, (refl, (refl, (refl, tt))))))))))))))))))))))))

fixed_token : (k : Kind) (w : List ℕ) → IsFixed k → w ≡ spelling k → is_token w ≡ true
fixed_token k w fix is = ap is_token is ∙ token_among k fixed fixed_tokens (among_fixed k fix)

kind_token : (m : Mode) (fs : List Frame) (k : Kind) (w : List ℕ) → IsByKind m → IsOfKind k w → is_some (takes_in m fs k w) ≡ true → is_token w ≡ true
kind_token m fs kind.Number w by is h = token_number w is
kind_token m fs kind.Text w by is h = token_text w is.0
kind_token m fs kind.Name w by is h = token_word w (name_word w is.0)
kind_token m fs kind.Other w by is h = absurd (none_other m fs w by h)
kind_token m fs (kind.Infix o) w by is h = fixed_token (kind.Infix o) w tt is
kind_token m fs kind.Is w by is h = fixed_token kind.Is w tt is
kind_token m fs kind.Not w by is h = fixed_token kind.Not w tt is
kind_token m fs kind.Null w by is h = fixed_token kind.Null w tt is
kind_token m fs (kind.Call g) w by is h = fixed_token (kind.Call g) w tt is
kind_token m fs kind.Open w by is h = fixed_token kind.Open w tt is
kind_token m fs kind.Close w by is h = fixed_token kind.Close w tt is
kind_token m fs kind.Comma w by is h = fixed_token kind.Comma w tt is

token_by : (m : Mode) (fs : List Frame) (w : List ℕ) (t : State) → IsByKind m → takes_in m fs (kind_of w) w ≡ Some t → is_token w ≡ true
token_by m fs w t by h = kind_token m fs (kind_of w) w by (of_kind w) (some_is _ t h)

token_mode : (m : Mode) (fs : List Frame) (w : List ℕ) (t : State) → takes_in m fs (kind_of w) w ≡ Some t → is_token w ≡ true
token_mode m.Operand fs w t h = token_by m.Operand fs w t tt h
token_mode (m.Opening g) fs w t h = token_by (m.Opening g) fs w t tt h
token_mode (m.After l x) fs w t h = token_by (m.After l x) fs w t tt h
token_mode (m.Is x) fs w t h = token_by (m.Is x) fs w t tt h
token_mode (m.IsNot x) fs w t h = token_by (m.IsNot x) fs w t tt h
token_mode (m.Digit x) fs w t h = token_number w (scale_number w (some_cond (is_scale w) _ t h)).0
token_mode (m.Scaled x n) fs w t h = token_by (m.Scaled x n) fs w t tt h

pub taken_token : (s t : State) (w : List ℕ) → takes s w ≡ Some t → is_token w ≡ true
taken_token s t w h = token_mode s.mode s.frames w t h
