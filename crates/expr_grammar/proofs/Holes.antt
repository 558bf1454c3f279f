-- Phrases with a hole: what has been taken is the beginning of a phrase, and can be completed.
use Rattle.std.proofs.Common.{◌≡◌, ℕ, ◌+◌, ◌-◌, ◌≤◌, List, [], ◌∷◌, ◌++◌, codes, slice_index, Bool, true, refl, sym, ap, subst, ◌∙◌, append_assoc, append-nil, lit<, arith}
use Rattle.expr_grammar.specs.Tokens.{is_scale}
use Rattle.expr_grammar.specs.Kinds.{word_of}
use Rattle.expr_grammar.specs.Phrases.{Phrase, number, parens, abs, len, scale, coalesce, choice, joined, denied, negated, is_null, is_not_null, sign, level_of, left_of, right_of, level, IsPhrase, tokens, tree}
use Rattle.expr_grammar.specs.Machine.{State, room, hole, levels}
use Rattle.expr_grammar.specs.declared.expr.Expr.{Expr}
use Rattle.expr_grammar.specs.declared.expr.Operator.{Operator}
use Rattle.expr_grammar.specs.declared.state.Function.{Function}
use Rattle.expr_grammar.specs.declared.state.Function.TheVariants as fn
use Rattle.expr_grammar.specs.declared.state.Frame.{Frame}
use Rattle.expr_grammar.specs.declared.state.Frame.TheVariants as f
use Rattle.expr_grammar.specs.declared.state.Mode.{Mode}
use Rattle.expr_grammar.specs.declared.state.Mode.TheVariants as m
use Rattle.expr_grammar.proofs.Complete.{Room, levels_of}

-- the tokens are what stands before the hole
abbrev pub Stands : Bool → List Frame → List (List ℕ) → Type 0
Stands strict [] ts = ts ≡ []
Stands strict (f.Left o a ∷ fs) ts =
    (p : Phrase) × (us : List (List ℕ)) × IsPhrase p × (left_of o ≤ level p) × (hole fs ≤ level_of o) × Room strict fs p × (tree p ≡ a)
    × (ts ≡ us ++ tokens p ++ sign o ∷ []) × Stands strict fs us
Stands strict (f.Not ∷ fs) ts = (us : List (List ℕ)) × (hole fs ≤ 3) × (ts ≡ us ++ codes "not" ∷ []) × Stands strict fs us
Stands strict (f.Negated ∷ fs) ts = (us : List (List ℕ)) × (ts ≡ us ++ codes "-" ∷ []) × Stands strict fs us
Stands strict (f.Parens ∷ fs) ts = (us : List (List ℕ)) × (ts ≡ us ++ codes "(" ∷ []) × Stands strict fs us
Stands strict (f.First g ∷ fs) ts = (us : List (List ℕ)) × (ts ≡ us ++ word_of g ∷ codes "(" ∷ []) × Stands strict fs us
Stands strict (f.CoalesceSecond a ∷ fs) ts =
    (p : Phrase) × (us : List (List ℕ)) × IsPhrase p × Room strict (f.Parens ∷ fs) p × (tree p ≡ a)
    × (ts ≡ us ++ (codes "coalesce" ∷ codes "(" ∷ tokens p) ++ codes "," ∷ []) × Stands strict fs us
Stands strict (f.IfSecond a ∷ fs) ts =
    (p : Phrase) × (us : List (List ℕ)) × IsPhrase p × Room strict (f.Parens ∷ fs) p × (tree p ≡ a)
    × (ts ≡ us ++ (codes "if" ∷ codes "(" ∷ tokens p) ++ codes "," ∷ []) × Stands strict fs us
Stands strict (f.IfThird a b ∷ fs) ts =
    (p q : Phrase) × (us : List (List ℕ)) × IsPhrase p × IsPhrase q × Room strict (f.Parens ∷ fs) p × Room strict (f.Parens ∷ fs) q × (tree p ≡ a) × (tree q ≡ b)
    × (ts ≡ us ++ (codes "if" ∷ codes "(" ∷ (tokens p ++ codes "," ∷ tokens q)) ++ codes "," ∷ []) × Stands strict fs us

-- a phrase that stands in the hole
pub record Stood (strict : Bool) (l : ℕ) (x : Expr) (fs : List Frame) (ts : List (List ℕ)) : Type 0 where
  pub phrase : Phrase
  pub before : List (List ℕ)
  pub is_phrase : IsPhrase phrase
  pub level_is : level phrase ≡ l
  pub tree_is : tree phrase ≡ x
  pub fits : hole fs ≤ level phrase
  pub room : Room strict fs phrase
  pub spelt : ts ≡ before ++ tokens phrase
  pub stands : Stands strict fs before

-- a phrase of the fifth level and what follows it
pub record Tested (strict : Bool) (x : Expr) (fs : List Frame) (word : List (List ℕ)) (ts : List (List ℕ)) : Type 0 where
  pub phrase : Phrase
  pub before : List (List ℕ)
  pub is_phrase : IsPhrase phrase
  pub high : 5 ≤ level phrase
  pub tree_is : tree phrase ≡ x
  pub fits : hole fs ≤ 4
  pub room : Room strict fs phrase
  pub spelt : ts ≡ before ++ tokens phrase ++ word
  pub stands : Stands strict fs before

-- `scale(`, a phrase, and what follows it
pub record Scaling (strict : Bool) (x : Expr) (fs : List Frame) (word : List (List ℕ)) (ts : List (List ℕ)) : Type 0 where
  pub phrase : Phrase
  pub before : List (List ℕ)
  pub is_phrase : IsPhrase phrase
  pub tree_is : tree phrase ≡ x
  pub room : Room strict (f.Parens ∷ fs) phrase
  pub spelt : ts ≡ before ++ (codes "scale" ∷ codes "(" ∷ tokens phrase) ++ codes "," ∷ word
  pub stands : Stands strict fs before

abbrev pub HoldsIn : Bool → Mode → List Frame → List (List ℕ) → Type 0
HoldsIn strict m.Operand fs ts = Stands strict fs ts × (strict ≡ true → levels fs ≤ 64)
HoldsIn strict (m.Opening g) fs ts = (us : List (List ℕ)) × (ts ≡ us ++ word_of g ∷ []) × Stands strict fs us × (strict ≡ true → 1 + levels fs ≤ 64)
HoldsIn strict (m.After l x) fs ts = Stood strict l x fs ts
HoldsIn strict (m.Is x) fs ts = Tested strict x fs (codes "is" ∷ []) ts
HoldsIn strict (m.IsNot x) fs ts = Tested strict x fs (codes "is" ∷ codes "not" ∷ []) ts
HoldsIn strict (m.Digit x) fs ts = Scaling strict x fs [] ts
HoldsIn strict (m.Scaled x k) fs ts = (w : List ℕ) × (is_scale w ≡ true) × (slice_index w 0 - 48 ≡ k) × Scaling strict x fs (w ∷ []) ts

-- the state is that after the tokens
abbrev pub Holds : Bool → State → List (List ℕ) → Type 0
Holds strict s ts = HoldsIn strict s.mode s.frames ts

-- a whole phrase that begins so
pub record Completed (strict : Bool) (ts : List (List ℕ)) : Type 0 where
  pub phrase : Phrase
  pub more : List (List ℕ)
  pub is_phrase : IsPhrase phrase
  pub room : Room strict [] phrase
  pub spelt : tokens phrase ≡ ts ++ more

completed_at : (strict : Bool) (ts us : List (List ℕ)) → ts ≡ us → Completed strict us → Completed strict ts
completed_at strict ts us same c = subst (Completed strict) (sym same) c

completed_by : (strict : Bool) (ts us more : List (List ℕ)) → us ≡ ts ++ more → Completed strict us → Completed strict ts
completed_by strict ts us more same c = record {
  phrase = c.phrase;
  more = more ++ c.more;
  is_phrase = c.is_phrase;
  room = c.room;
  spelt = c.spelt ∙ ap (λ v. v ++ c.more) same ∙ append_assoc ts more c.more;
}

right_small : (o : Operator) → right_of o ≤ 7
right_small o = let r = (levels_of o).right in let s = (levels_of o).small in omega (arith, r, s)

pub hole_small : (fs : List Frame) → hole fs ≤ 7
hole_small [] = omega arith
hole_small (f.Left o a ∷ fs) = right_small o
hole_small (f.Not ∷ fs) = omega arith
hole_small (f.Negated ∷ fs) = omega arith
hole_small (f.Parens ∷ fs) = omega arith
hole_small (f.First g ∷ fs) = omega arith
hole_small (f.CoalesceSecond a ∷ fs) = omega arith
hole_small (f.IfSecond a ∷ fs) = omega arith
hole_small (f.IfThird a b ∷ fs) = omega arith

hole_eight : (fs : List Frame) → hole fs ≤ 8
hole_eight fs = omega (arith, hole_small fs)

abbrev zero_number : Phrase
zero_number = number (codes "0")

-- tokens, regrouped

pub regroup_left : (us p q : List (List ℕ)) (o : List ℕ) → us ++ (p ++ o ∷ q) ≡ (us ++ p ++ o ∷ []) ++ q
regroup_left us p q o = simp append_assoc

pub regroup_prefix : (us p : List (List ℕ)) (a : List ℕ) → us ++ (a ∷ p) ≡ (us ++ a ∷ []) ++ p
regroup_prefix us p a = simp append_assoc

pub regroup_parens : (us p : List (List ℕ)) (a z : List ℕ) → us ++ (a ∷ (p ++ z ∷ [])) ≡ ((us ++ a ∷ []) ++ p) ++ z ∷ []
regroup_parens us p a z = simp append_assoc

pub regroup_call : (us p : List (List ℕ)) (w a z : List ℕ) → us ++ (w ∷ a ∷ (p ++ z ∷ [])) ≡ ((us ++ w ∷ a ∷ []) ++ p) ++ z ∷ []
regroup_call us p w a z = simp append_assoc

regroup_first : (us p rest : List (List ℕ)) (w a z : List ℕ) → us ++ (w ∷ a ∷ ((p ++ rest) ++ z ∷ [])) ≡ ((us ++ w ∷ a ∷ []) ++ p) ++ (rest ++ z ∷ [])
regroup_first us p rest w a z = simp append_assoc

pub regroup_second : (us p q : List (List ℕ)) (w a c z : List ℕ) → us ++ (w ∷ a ∷ (p ++ c ∷ q ++ z ∷ [])) ≡ ((us ++ (w ∷ a ∷ p) ++ c ∷ []) ++ q) ++ z ∷ []
regroup_second us p q w a c z = simp append_assoc

regroup_middle : (us p q : List (List ℕ)) (w a c r z : List ℕ) → us ++ (w ∷ a ∷ (p ++ c ∷ (q ++ c ∷ (r ∷ [])) ++ z ∷ [])) ≡ ((us ++ (w ∷ a ∷ p) ++ c ∷ []) ++ q) ++ c ∷ r ∷ z ∷ []
regroup_middle us p q w a c r z = simp append_assoc

pub regroup_third : (us p q r : List (List ℕ)) (w a c z : List ℕ) → us ++ (w ∷ a ∷ (p ++ c ∷ (q ++ c ∷ r) ++ z ∷ [])) ≡ ((us ++ (w ∷ a ∷ (p ++ c ∷ q)) ++ c ∷ []) ++ r) ++ z ∷ []
regroup_third us p q r w a c z = simp append_assoc

-- the phrase that a function's first part is completed to
abbrev called : Function → Phrase → Phrase
called fn.Abs p = abs p
called fn.Length p = len p
called fn.Scale p = scale p (codes "0")
called fn.Coalesce p = coalesce p zero_number
called fn.If p = choice p zero_number zero_number

abbrev called_more : Function → List (List ℕ)
called_more fn.Abs = codes ")" ∷ []
called_more fn.Length = codes ")" ∷ []
called_more fn.Scale = codes "," ∷ codes "0" ∷ codes ")" ∷ []
called_more fn.Coalesce = codes "," ∷ codes "0" ∷ codes ")" ∷ []
called_more fn.If = codes "," ∷ codes "0" ∷ codes "," ∷ codes "0" ∷ codes ")" ∷ []

called_spelt : (g : Function) (us : List (List ℕ)) (p : Phrase) → us ++ tokens (called g p) ≡ ((us ++ word_of g ∷ codes "(" ∷ []) ++ tokens p) ++ called_more g
called_spelt fn.Abs us p = regroup_call us (tokens p) (codes "abs") (codes "(") (codes ")")
called_spelt fn.Length us p = regroup_call us (tokens p) (codes "length") (codes "(") (codes ")")
called_spelt fn.Scale us p = regroup_first us (tokens p) (codes "," ∷ codes "0" ∷ []) (codes "scale") (codes "(") (codes ")")
called_spelt fn.Coalesce us p = regroup_first us (tokens p) (codes "," ∷ codes "0" ∷ []) (codes "coalesce") (codes "(") (codes ")")
called_spelt fn.If us p = regroup_first us (tokens p) (codes "," ∷ codes "0" ∷ codes "," ∷ codes "0" ∷ []) (codes "if") (codes "(") (codes ")")

called_phrase : (g : Function) (p : Phrase) → IsPhrase p → IsPhrase (called g p)
called_phrase fn.Abs p h = h
called_phrase fn.Length p h = h
called_phrase fn.Scale p h = (h, refl)
called_phrase fn.Coalesce p h = (h, refl)
called_phrase fn.If p h = (h, refl, refl)

called_level : (g : Function) (p : Phrase) (fs : List Frame) → hole fs ≤ level (called g p)
called_level fn.Abs p fs = hole_eight fs
called_level fn.Length p fs = hole_eight fs
called_level fn.Scale p fs = hole_eight fs
called_level fn.Coalesce p fs = hole_eight fs
called_level fn.If p fs = hole_eight fs

called_room : (strict : Bool) (g : Function) (p : Phrase) (fs : List Frame) → Room strict (f.Parens ∷ fs) p → Room strict fs (called g p)
called_room strict fn.Abs p fs h = λ d. let r = (h d).0 in (omega (arith, r), (h d).1)
called_room strict fn.Length p fs h = λ d. let r = (h d).0 in (omega (arith, r), (h d).1)
called_room strict fn.Scale p fs h = λ d. let r = (h d).0 in (omega (arith, r), (h d).1)
called_room strict fn.Coalesce p fs h = λ d. let r = (h d).0 in (omega (arith, r), ((h d).1, lit< tt))
called_room strict fn.If p fs h = λ d. let r = (h d).0 in (omega (arith, r), ((h d).1, lit< tt, lit< tt))

-- what stands in the hole of a phrase is completed with the phrase
pub plugged : (strict : Bool) (fs : List Frame) (us : List (List ℕ)) (p : Phrase) → Stands strict fs us → IsPhrase p → hole fs ≤ level p
    → Room strict fs p → Completed strict (us ++ tokens p)
plugged strict [] us p s h fits room = record {
  phrase = p;
  more = [];
  is_phrase = h;
  room = room;
  spelt = let none : us ≡ [] = s in rw none (sym (append-nil (tokens p)));
}
plugged strict (f.Left o a ∷ fs) ts p s h fits room =
    let q = s.0 in
    let us = s.1 in
    completed_at strict (ts ++ tokens p) (us ++ tokens (joined o q p))
    (ap (λ v. v ++ tokens p) s.7 ∙ sym (regroup_left us (tokens q) (tokens p) (sign o)))
    (plugged strict fs us (joined o q p) s.8 (s.3, fits, s.2, h) s.4
    (λ d. let r = (room d).0 in let z = (s.5 d).0 in (omega (arith, r, z), ((s.5 d).1, (room d).1))))
plugged strict (f.Not ∷ fs) ts p s h fits room =
    let us = s.0 in
    completed_at strict (ts ++ tokens p) (us ++ tokens (denied p))
    (ap (λ v. v ++ tokens p) s.2 ∙ sym (regroup_prefix us (tokens p) (codes "not")))
    (plugged strict fs us (denied p) s.3 (fits, h) s.1 (λ d. let r = (room d).0 in (omega (arith, r), (room d).1)))
plugged strict (f.Negated ∷ fs) ts p s h fits room =
    let us = s.0 in
    completed_at strict (ts ++ tokens p) (us ++ tokens (negated p))
    (ap (λ v. v ++ tokens p) s.1 ∙ sym (regroup_prefix us (tokens p) (codes "-")))
    (plugged strict fs us (negated p) s.2 (fits, h) (hole_small fs) (λ d. let r = (room d).0 in (omega (arith, r), (room d).1)))
plugged strict (f.Parens ∷ fs) ts p s h fits room =
    let us = s.0 in
    completed_by strict (ts ++ tokens p) (us ++ tokens (parens p)) (codes ")" ∷ [])
    (regroup_parens us (tokens p) (codes "(") (codes ")") ∙ ap (λ v. (v ++ tokens p) ++ codes ")" ∷ []) (sym s.1))
    (plugged strict fs us (parens p) s.2 h (hole_eight fs) (λ d. let r = (room d).0 in (omega (arith, r), (room d).1)))
plugged strict (f.First g ∷ fs) ts p s h fits room =
    let us = s.0 in
    completed_by strict (ts ++ tokens p) (us ++ tokens (called g p)) (called_more g)
    (called_spelt g us p ∙ ap (λ v. (v ++ tokens p) ++ called_more g) (sym s.1))
    (plugged strict fs us (called g p) s.2 (called_phrase g p h) (called_level g p fs) (called_room strict g p fs room))
plugged strict (f.CoalesceSecond a ∷ fs) ts p s h fits room =
    let q = s.0 in
    let us = s.1 in
    completed_by strict (ts ++ tokens p) (us ++ tokens (coalesce q p)) (codes ")" ∷ [])
    (regroup_second us (tokens q) (tokens p) (codes "coalesce") (codes "(") (codes ",") (codes ")")
    ∙ ap (λ v. (v ++ tokens p) ++ codes ")" ∷ []) (sym s.5))
    (plugged strict fs us (coalesce q p) s.6 (s.2, h) (hole_eight fs)
    (λ d. let r = (room d).0 in let z = (s.3 d).0 in (omega (arith, r, z), ((s.3 d).1, (room d).1))))
plugged strict (f.IfSecond a ∷ fs) ts p s h fits room =
    let q = s.0 in
    let us = s.1 in
    completed_by strict (ts ++ tokens p) (us ++ tokens (choice q p zero_number)) (codes "," ∷ codes "0" ∷ codes ")" ∷ [])
    (regroup_middle us (tokens q) (tokens p) (codes "if") (codes "(") (codes ",") (codes "0") (codes ")")
    ∙ ap (λ v. (v ++ tokens p) ++ codes "," ∷ codes "0" ∷ codes ")" ∷ []) (sym s.5))
    (plugged strict fs us (choice q p zero_number) s.6 (s.2, h, refl) (hole_eight fs)
    (λ d. let r = (room d).0 in let z = (s.3 d).0 in (omega (arith, r, z), ((s.3 d).1, (room d).1, lit< tt))))
plugged strict (f.IfThird a b ∷ fs) ts p s h fits room =
    let us = s.2 in
    completed_by strict (ts ++ tokens p) (us ++ tokens (choice s.0 s.1 p)) (codes ")" ∷ [])
    (regroup_third us (tokens s.0) (tokens s.1) (tokens p) (codes "if") (codes "(") (codes ",") (codes ")")
    ∙ ap (λ v. (v ++ tokens p) ++ codes ")" ∷ []) (sym s.9))
    (plugged strict fs us (choice s.0 s.1 p) s.10 (s.3, s.4, h) (hole_eight fs)
    (λ d. let r = (room d).0 in let y = (s.5 d).0 in let z = (s.6 d).0 in (omega (arith, r, y, z), ((s.5 d).1, (s.6 d).1, (room d).1))))

zero_room : (strict : Bool) (fs : List Frame) → (strict ≡ true → levels fs ≤ 64) → Room strict fs zero_number
zero_room strict fs h = λ d. let r = h d in (omega (arith, r), lit< tt)

called_tokens : (us : List (List ℕ)) (w a p : List ℕ) (more : List (List ℕ)) → ((us ++ w ∷ a ∷ []) ++ p ∷ []) ++ more ≡ (us ++ w ∷ []) ++ a ∷ p ∷ more
called_tokens us w a p more = simp append_assoc

is_tokens : (us p : List (List ℕ)) (a b : List ℕ) → us ++ (p ++ a ∷ b ∷ []) ≡ (us ++ p ++ a ∷ []) ++ b ∷ []
is_tokens us p a b = simp append_assoc

is_not_tokens : (us p : List (List ℕ)) (a b c : List ℕ) → us ++ (p ++ a ∷ b ∷ c ∷ []) ≡ (us ++ p ++ a ∷ b ∷ []) ++ c ∷ []
is_not_tokens us p a b c = simp append_assoc

digit_tokens : (us p : List (List ℕ)) (w a c d z : List ℕ) → us ++ (w ∷ a ∷ ((p ++ c ∷ d ∷ []) ++ z ∷ [])) ≡ (us ++ (w ∷ a ∷ p) ++ c ∷ []) ++ d ∷ z ∷ []
digit_tokens us p w a c d z = simp append_assoc

pub scaled_tokens : (us p : List (List ℕ)) (w a c d z : List ℕ) → us ++ (w ∷ a ∷ ((p ++ c ∷ d ∷ []) ++ z ∷ [])) ≡ (us ++ (w ∷ a ∷ p) ++ c ∷ d ∷ []) ++ z ∷ []
scaled_tokens us p w a c d z = simp append_assoc

completed_in : (strict : Bool) (m : Mode) (fs : List Frame) (ts : List (List ℕ)) → HoldsIn strict m fs ts → Completed strict ts
completed_in strict m.Operand fs ts h =
    completed_by strict ts (ts ++ tokens zero_number) (codes "0" ∷ []) refl
    (plugged strict fs ts zero_number h.0 refl (hole_eight fs) (zero_room strict fs h.1))
completed_in strict (m.Opening g) fs ts h =
    let us = h.0 in
    completed_by strict ts (us ++ tokens (called g zero_number)) (codes "(" ∷ codes "0" ∷ called_more g)
    (called_spelt g us zero_number ∙ called_tokens us (word_of g) (codes "(") (codes "0") (called_more g) ∙ ap (λ v. v ++ codes "(" ∷ codes "0" ∷ called_more g) (sym h.1))
    (plugged strict fs us (called g zero_number) h.2 (called_phrase g zero_number refl) (called_level g zero_number fs)
    (called_room strict g zero_number fs (λ d. let r = h.3 d in (omega (arith, r), lit< tt))))
completed_in strict (m.After l x) fs ts h =
    completed_at strict ts (h.before ++ tokens h.phrase) h.spelt (plugged strict fs h.before h.phrase h.stands h.is_phrase h.fits h.room)
completed_in strict (m.Is x) fs ts h =
    completed_by strict ts (h.before ++ tokens (is_null h.phrase)) (codes "null" ∷ [])
    (is_tokens h.before (tokens h.phrase) (codes "is") (codes "null") ∙ ap (λ v. v ++ codes "null" ∷ []) (sym h.spelt))
    (plugged strict fs h.before (is_null h.phrase) h.stands (h.high, h.is_phrase) h.fits h.room)
completed_in strict (m.IsNot x) fs ts h =
    completed_by strict ts (h.before ++ tokens (is_not_null h.phrase)) (codes "null" ∷ [])
    (is_not_tokens h.before (tokens h.phrase) (codes "is") (codes "not") (codes "null") ∙ ap (λ v. v ++ codes "null" ∷ []) (sym h.spelt))
    (plugged strict fs h.before (is_not_null h.phrase) h.stands (h.high, h.is_phrase) h.fits h.room)
completed_in strict (m.Digit x) fs ts h =
    completed_by strict ts (h.before ++ tokens (scale h.phrase (codes "0"))) (codes "0" ∷ codes ")" ∷ [])
    (digit_tokens h.before (tokens h.phrase) (codes "scale") (codes "(") (codes ",") (codes "0") (codes ")") ∙ ap (λ v. v ++ codes "0" ∷ codes ")" ∷ []) (sym h.spelt))
    (plugged strict fs h.before (scale h.phrase (codes "0")) h.stands (h.is_phrase, refl) (hole_eight fs) (λ d. let r = (h.room d).0 in (omega (arith, r), (h.room d).1)))
completed_in strict (m.Scaled x k) fs ts h =
    let s = h.3 in
    completed_by strict ts (s.before ++ tokens (scale s.phrase h.0)) (codes ")" ∷ [])
    (scaled_tokens s.before (tokens s.phrase) (codes "scale") (codes "(") (codes ",") h.0 (codes ")") ∙ ap (λ v. v ++ codes ")" ∷ []) (sym s.spelt))
    (plugged strict fs s.before (scale s.phrase h.0) s.stands (s.is_phrase, h.1) (hole_eight fs) (λ d. let r = (s.room d).0 in (omega (arith, r), (s.room d).1)))

-- what has been taken is the beginning of a phrase
pub completed : (strict : Bool) (s : State) (ts : List (List ℕ)) → Holds strict s ts → Completed strict ts
completed strict s ts h = completed_in strict s.mode s.frames ts h
