-- What holds of a state holds of the next: each step of the reader keeps the beginning of a phrase.
use Rattle.std.proofs.Common.{◌≡◌, ℕ, pos, ◌+◌, ◌-◌, ◌<◌, ◌≤◌, ◌^◌, List, [], ◌∷◌, ◌++◌, length, codes, slice_index, Option, Some, None, Bool, true, false, cond, nat_le, nat_lt, refl, sym, ap, subst, ◌∙◌, append_assoc, arith}
use Rattle.std.proofs.lemmas.Bool.{lt-leb, leb-true, leb-false, ltb-true, false≢true}
use Rattle.expr_grammar.specs.Tokens.{is_number, is_text, is_scale, units, places, said}
use Rattle.expr_grammar.specs.Kinds.{kind_of, word_of}
use Rattle.expr_grammar.specs.Phrases.{Phrase, number, text, name, parens, abs, len, scale, coalesce, choice, joined, denied, negated, is_null, is_not_null, sign, level_of, left_of, level, IsPhrase, tokens, tree}
use Rattle.expr_grammar.specs.Machine.{State, at_mode, Reduced, reduce, rank, made, room, hole, takes, takes_in, with_operator, with_is, closed_in, ended_call, parted_in, gone_on, levels, levels_in, beyond}
use Rattle.expr_grammar.specs.declared.expr.Expr.{Expr}
use Rattle.expr_grammar.specs.declared.expr.Expr.TheVariants as e
use Rattle.expr_grammar.specs.declared.expr.Operator.{Operator}
use Rattle.expr_grammar.specs.declared.expr.Operator.TheVariants as op
use Rattle.expr_grammar.specs.declared.fault.ExprWhat.{ExprWhat}
use Rattle.expr_grammar.specs.declared.fault.ExprWhat.TheVariants as what
use Rattle.expr_grammar.specs.declared.state.Function.{Function}
use Rattle.expr_grammar.specs.declared.state.Function.TheVariants as fn
use Rattle.expr_grammar.specs.declared.state.Kind.{Kind}
use Rattle.expr_grammar.specs.declared.state.Kind.TheVariants as kind
use Rattle.expr_grammar.specs.declared.state.Frame.{Frame}
use Rattle.expr_grammar.specs.declared.state.Frame.TheVariants as f
use Rattle.expr_grammar.specs.declared.state.Mode.{Mode}
use Rattle.expr_grammar.specs.declared.state.Mode.TheVariants as m
use Rattle.expr_grammar.proofs.Columns.{plain_column}
use Rattle.expr_grammar.proofs.Complete.{Room, IsPlain, levels_of, reduce-frame, operand, after, all_of, finish_in, call_plain}
use Rattle.expr_grammar.proofs.OfKind.{IsOfKind, of_kind}
use Rattle.expr_grammar.proofs.Holes.{Stands, Stood, HoldsIn, Holds, hole_small, regroup_left, regroup_prefix, regroup_parens, regroup_call, regroup_second, regroup_third, scaled_tokens}

-- an operand that has been joined with what binds at least so tightly
abbrev IsReduced : Bool → ℕ → List (List ℕ) → Reduced → Type 0
IsReduced strict least ts r = Stood strict r.level r.expr r.frames ts × (hole r.frames ≤ least)

reduce-kept : (g : Frame) (gs : List Frame) (least l : ℕ) (x : Expr) → rank g < least
    → reduce (g ∷ gs) least l x ≡ record { level = l; expr = x; frames = g ∷ gs }
reduce-kept g gs least l x h = rw (lt-leb least (rank g) h) refl

room_next : (g : Frame) → room g ≤ rank g + 1
room_next (f.Left o a) = let r = (levels_of o).right in omega (arith, r)
room_next f.Not = omega arith
room_next f.Negated = omega arith
room_next f.Parens = omega arith
room_next (f.First g) = omega arith
room_next (f.CoalesceSecond a) = omega arith
room_next (f.IfSecond a) = omega arith
room_next (f.IfThird a b) = omega arith

joined_tokens : (us p q ts : List (List ℕ)) (o : List ℕ) (before : List (List ℕ)) → before ≡ us ++ p ++ o ∷ [] → ts ≡ before ++ q → ts ≡ us ++ (p ++ o ∷ q)
joined_tokens us p q ts o before same h = h ∙ ap (λ v. v ++ q) same ∙ sym (regroup_left us p q o)

prefix_tokens : (us p ts : List (List ℕ)) (a : List ℕ) (before : List (List ℕ)) → before ≡ us ++ a ∷ [] → ts ≡ before ++ p → ts ≡ us ++ (a ∷ p)
prefix_tokens us p ts a before same h = h ∙ ap (λ v. v ++ p) same ∙ sym (regroup_prefix us p a)

-- an operand joined with its frame
stood_made : (strict : Bool) (g : Frame) (gs : List Frame) (l : ℕ) (x : Expr) (ts : List (List ℕ)) → 1 ≤ rank g
    → Stood strict l x (g ∷ gs) ts → Stood strict (rank g) (made g x) gs ts
stood_made strict (f.Left o a) gs l x ts some h =
    let s = h.stands in
    record {
      phrase = joined o s.0 h.phrase;
      before = s.1;
      is_phrase = (s.3, h.fits, s.2, h.is_phrase);
      level_is = refl;
      tree_is = ap (λ b. e.Infix o b (tree h.phrase)) s.6 ∙ ap (e.Infix o a) h.tree_is;
      fits = s.4;
      room = λ d. let r = (h.room d).0 in let z = (s.5 d).0 in (omega (arith, r, z), ((s.5 d).1, (h.room d).1));
      spelt = joined_tokens s.1 (tokens s.0) (tokens h.phrase) ts (sign o) h.before s.7 h.spelt;
      stands = s.8;
    }
stood_made strict f.Not gs l x ts some h =
    let s = h.stands in
    record {
      phrase = denied h.phrase;
      before = s.0;
      is_phrase = (h.fits, h.is_phrase);
      level_is = refl;
      tree_is = ap e.Not h.tree_is;
      fits = s.1;
      room = λ d. let r = (h.room d).0 in (omega (arith, r), (h.room d).1);
      spelt = prefix_tokens s.0 (tokens h.phrase) ts (codes "not") h.before s.2 h.spelt;
      stands = s.3;
    }
stood_made strict f.Negated gs l x ts some h =
    let s = h.stands in
    record {
      phrase = negated h.phrase;
      before = s.0;
      is_phrase = (h.fits, h.is_phrase);
      level_is = refl;
      tree_is = ap e.Negated h.tree_is;
      fits = hole_small gs;
      room = λ d. let r = (h.room d).0 in (omega (arith, r), (h.room d).1);
      spelt = prefix_tokens s.0 (tokens h.phrase) ts (codes "-") h.before s.1 h.spelt;
      stands = s.2;
    }
stood_made strict f.Parens gs l x ts some h = absurd (omega (arith, some))
stood_made strict (f.First g) gs l x ts some h = absurd (omega (arith, some))
stood_made strict (f.CoalesceSecond a) gs l x ts some h = absurd (omega (arith, some))
stood_made strict (f.IfSecond a) gs l x ts some h = absurd (omega (arith, some))
stood_made strict (f.IfThird a b) gs l x ts some h = absurd (omega (arith, some))

-- rest is the law for the outer frames
reduced_frame : (strict : Bool) (g : Frame) (gs : List Frame) (least l : ℕ) (x : Expr) (ts : List (List ℕ)) → 1 ≤ least
    → Stood strict l x (g ∷ gs) ts
    → (Stood strict (rank g) (made g x) gs ts → IsReduced strict least ts (reduce gs least (rank g) (made g x)))
    → (b : Bool) → nat_le least (rank g) ≡ b
    → IsReduced strict least ts (reduce (g ∷ gs) least l x)
reduced_frame strict g gs least l x ts low h rest true is =
    let large = leb-true least (rank g) is in
    subst (IsReduced strict least ts) (sym (reduce-frame g gs least l x large)) (rest (stood_made strict g gs l x ts (omega (arith, large, low)) h))
reduced_frame strict g gs least l x ts low h rest false is =
    let small = leb-false least (rank g) is in
    subst (IsReduced strict least ts) (sym (reduce-kept g gs least l x small)) (h, omega (arith, small, room_next g))

reduced : (strict : Bool) (fs : List Frame) (least l : ℕ) (x : Expr) (ts : List (List ℕ)) → 1 ≤ least → Stood strict l x fs ts
    → IsReduced strict least ts (reduce fs least l x)
reduced strict [] least l x ts low h = (h, low)
reduced strict (g ∷ gs) least l x ts low h =
    reduced_frame strict g gs least l x ts low h (λ s. reduced strict gs least (rank g) (made g x) ts low s) (nat_le least (rank g)) refl

-- what an equation of options gives
given : (P : State → Type 0) (s t : State) → Some s ≡ Some t → P s → P t
given P s t same h = subst P (let both : s ≡ t = cc in both) h

no_state : (P : State → Type 0) (t : State) → None ≡ Some t → P t
no_state P t same = absurd cc

-- leaves that fit and levels, once a token was allowed
pub record InLimits (w : List ℕ) (t : State) : Type 0 where
  pub number_fits : is_number w ≡ true → units w < 2 ^ 63
  pub text_fits : is_number w ≡ false → is_text w ≡ true → length (said w) ≤ 4096
  pub depth_fits : IsPlain w → levels_in t.mode t.frames ≤ 64

abbrev pub Limits : Bool → List ℕ → State → Type 0
Limits strict w t = strict ≡ true → InLimits w t

levels_room : (strict : Bool) (fs : List Frame) (p : Phrase) → Room strict fs p → strict ≡ true → levels fs ≤ 64
levels_room strict fs p room s = let r = (room s).0 in omega (arith, r)

with_operator_holds : (strict : Bool) (o : Operator) (r : Reduced) (ts : List (List ℕ)) (t : State) → IsReduced strict (level_of o) ts r
    → (b : Bool) → nat_le (left_of o) r.level ≡ b → with_operator o r ≡ Some t → Holds strict t (ts ++ sign o ∷ [])
with_operator_holds strict o r ts t h true is same =
    let s = h.0 in
    let made_it : with_operator o r ≡ Some (operand (f.Left o r.expr ∷ r.frames)) = rw is refl in
    given (λ u. Holds strict u (ts ++ sign o ∷ [])) (operand (f.Left o r.expr ∷ r.frames)) t (sym made_it ∙ same) (
      (
        s.phrase,
        s.before,
        s.is_phrase,
        (let left : left_of o ≤ r.level = leb-true _ _ is in let same_level = s.level_is in omega (arith, left, same_level)),
        h.1,
        s.room,
        s.tree_is,
        ap (λ v. v ++ sign o ∷ []) s.spelt,
        s.stands,
      ),
      λ d. let open_now = levels_room strict r.frames s.phrase s.room d in omega (arith, open_now),
    )
with_operator_holds strict o r ts t h false is same =
    let none : with_operator o r ≡ None = rw is refl in
    no_state (λ u. Holds strict u (ts ++ sign o ∷ [])) t (sym none ∙ same)

with_is_holds : (strict : Bool) (r : Reduced) (ts : List (List ℕ)) (t : State) → IsReduced strict 4 ts r
    → (b : Bool) → nat_le 5 r.level ≡ b → with_is r ≡ Some t → Holds strict t (ts ++ codes "is" ∷ [])
with_is_holds strict r ts t h true is same =
    let s = h.0 in
    let made_it : with_is r ≡ Some (at_mode (m.Is r.expr) r.frames) = rw is refl in
    given (λ u. Holds strict u (ts ++ codes "is" ∷ [])) (at_mode (m.Is r.expr) r.frames) t (sym made_it ∙ same)
    (record {
      phrase = s.phrase;
      before = s.before;
      is_phrase = s.is_phrase;
      high = let left : 5 ≤ r.level = leb-true _ _ is in let same_level = s.level_is in omega (arith, left, same_level);
      tree_is = s.tree_is;
      fits = h.1;
      room = s.room;
      spelt = ap (λ v. v ++ codes "is" ∷ []) s.spelt;
      stands = s.stands;
    })
with_is_holds strict r ts t h false is same =
    let none : with_is r ≡ None = rw is refl in
    no_state (λ u. Holds strict u (ts ++ codes "is" ∷ [])) t (sym none ∙ same)

-- brackets that close and go on

abbrev Closes : Bool → Expr → List Frame → List (List ℕ) → State → Type 0
Closes strict x fs ts t = Holds strict t (ts ++ codes ")" ∷ [])

parens_tokens : (us p before ts : List (List ℕ)) (a z : List ℕ) → before ≡ us ++ a ∷ [] → ts ≡ before ++ p → ts ++ z ∷ [] ≡ us ++ (a ∷ (p ++ z ∷ []))
parens_tokens us p before ts a z same h = ap (λ v. v ++ z ∷ []) (h ∙ ap (λ v. v ++ p) same) ∙ sym (regroup_parens us p a z)

call_tokens : (us p before ts : List (List ℕ)) (w a z : List ℕ) → before ≡ us ++ w ∷ a ∷ [] → ts ≡ before ++ p → ts ++ z ∷ [] ≡ us ++ (w ∷ a ∷ (p ++ z ∷ []))
call_tokens us p before ts w a z same h = ap (λ v. v ++ z ∷ []) (h ∙ ap (λ v. v ++ p) same) ∙ sym (regroup_call us p w a z)

second_tokens : (us p q before ts : List (List ℕ)) (w a c z : List ℕ) → before ≡ us ++ (w ∷ a ∷ p) ++ c ∷ [] → ts ≡ before ++ q
    → ts ++ z ∷ [] ≡ us ++ (w ∷ a ∷ (p ++ c ∷ q ++ z ∷ []))
second_tokens us p q before ts w a c z same h = ap (λ v. v ++ z ∷ []) (h ∙ ap (λ v. v ++ q) same) ∙ sym (regroup_second us p q w a c z)

third_tokens : (us p q r before ts : List (List ℕ)) (w a c z : List ℕ) → before ≡ us ++ (w ∷ a ∷ (p ++ c ∷ q)) ++ c ∷ [] → ts ≡ before ++ r
    → ts ++ z ∷ [] ≡ us ++ (w ∷ a ∷ (p ++ c ∷ (q ++ c ∷ r) ++ z ∷ []))
third_tokens us p q r before ts w a c z same h = ap (λ v. v ++ z ∷ []) (h ∙ ap (λ v. v ++ r) same) ∙ sym (regroup_third us p q r w a c z)

-- a bracket's phrase stands where the bracket began
stood_whole : (strict : Bool) (fs : List Frame) (q : Phrase) (us ts : List (List ℕ)) (x : Expr) (t : State) → Some (after 8 x fs) ≡ Some t → IsPhrase q → level q ≡ 8
    → tree q ≡ x → Room strict fs q → ts ≡ us ++ tokens q → Stands strict fs us → Holds strict t ts
stood_whole strict fs q us ts x t same h lev tr room spelt stands =
    given (λ u. Holds strict u ts) (after 8 x fs) t same
    (record { phrase = q; before = us; is_phrase = h; level_is = lev; tree_is = tr; fits = omega (arith, lev, hole_small fs); room = room; spelt = spelt; stands = stands })

closed_call : (strict : Bool) (g : Function) (l : ℕ) (x : Expr) (fs : List Frame) (ts : List (List ℕ)) (t : State) → Stood strict l x (f.First g ∷ fs) ts
    → ended_call g x fs ≡ Some t → Holds strict t (ts ++ codes ")" ∷ [])
closed_call strict fn.Abs l x fs ts t h same =
    let s = h.stands in
    stood_whole strict fs (abs h.phrase) s.0 (ts ++ codes ")" ∷ []) (e.Abs x) t same h.is_phrase refl (ap e.Abs h.tree_is)
    (λ d. let r = (h.room d).0 in (omega (arith, r), (h.room d).1))
    (call_tokens s.0 (tokens h.phrase) h.before ts (codes "abs") (codes "(") (codes ")") s.1 h.spelt) s.2
closed_call strict fn.Length l x fs ts t h same =
    let s = h.stands in
    stood_whole strict fs (len h.phrase) s.0 (ts ++ codes ")" ∷ []) (e.Length x) t same h.is_phrase refl (ap e.Length h.tree_is)
    (λ d. let r = (h.room d).0 in (omega (arith, r), (h.room d).1))
    (call_tokens s.0 (tokens h.phrase) h.before ts (codes "length") (codes "(") (codes ")") s.1 h.spelt) s.2
closed_call strict fn.Scale l x fs ts t h same = no_state (λ u. Holds strict u (ts ++ codes ")" ∷ [])) t same
closed_call strict fn.Coalesce l x fs ts t h same = no_state (λ u. Holds strict u (ts ++ codes ")" ∷ [])) t same
closed_call strict fn.If l x fs ts t h same = no_state (λ u. Holds strict u (ts ++ codes ")" ∷ [])) t same

closed_holds : (strict : Bool) (l : ℕ) (x : Expr) (fs : List Frame) (ts : List (List ℕ)) (t : State) → Stood strict l x fs ts
    → closed_in x fs ≡ Some t → Holds strict t (ts ++ codes ")" ∷ [])
closed_holds strict l x [] ts t h same = no_state (λ u. Holds strict u (ts ++ codes ")" ∷ [])) t same
closed_holds strict l x (f.Left o a ∷ fs) ts t h same = no_state (λ u. Holds strict u (ts ++ codes ")" ∷ [])) t same
closed_holds strict l x (f.Not ∷ fs) ts t h same = no_state (λ u. Holds strict u (ts ++ codes ")" ∷ [])) t same
closed_holds strict l x (f.Negated ∷ fs) ts t h same = no_state (λ u. Holds strict u (ts ++ codes ")" ∷ [])) t same
closed_holds strict l x (f.IfSecond a ∷ fs) ts t h same = no_state (λ u. Holds strict u (ts ++ codes ")" ∷ [])) t same
closed_holds strict l x (f.First g ∷ fs) ts t h same = closed_call strict g l x fs ts t h same
closed_holds strict l x (f.Parens ∷ fs) ts t h same =
    let s = h.stands in
    stood_whole strict fs (parens h.phrase) s.0 (ts ++ codes ")" ∷ []) x t same h.is_phrase refl h.tree_is
    (λ d. let r = (h.room d).0 in (omega (arith, r), (h.room d).1))
    (parens_tokens s.0 (tokens h.phrase) h.before ts (codes "(") (codes ")") s.1 h.spelt) s.2
closed_holds strict l x (f.CoalesceSecond a ∷ fs) ts t h same =
    let s = h.stands in
    stood_whole strict fs (coalesce s.0 h.phrase) s.1 (ts ++ codes ")" ∷ []) (e.Coalesce a x) t same (s.2, h.is_phrase) refl
    (ap (λ b. e.Coalesce b (tree h.phrase)) s.4 ∙ ap (e.Coalesce a) h.tree_is)
    (λ d. let r = (h.room d).0 in let z = (s.3 d).0 in (omega (arith, r, z), ((s.3 d).1, (h.room d).1)))
    (second_tokens s.1 (tokens s.0) (tokens h.phrase) h.before ts (codes "coalesce") (codes "(") (codes ",") (codes ")") s.5 h.spelt) s.6
closed_holds strict l x (f.IfThird a b ∷ fs) ts t h same =
    let s = h.stands in
    stood_whole strict fs (choice s.0 s.1 h.phrase) s.2 (ts ++ codes ")" ∷ []) (e.If a b x) t same (s.3, s.4, h.is_phrase) refl
    (ap (λ c. e.If c (tree s.1) (tree h.phrase)) s.7 ∙ ap (λ c. e.If a c (tree h.phrase)) s.8 ∙ ap (e.If a b) h.tree_is)
    (λ d. let r = (h.room d).0 in let y = (s.5 d).0 in let z = (s.6 d).0 in (omega (arith, r, y, z), ((s.5 d).1, (s.6 d).1, (h.room d).1)))
    (third_tokens s.2 (tokens s.0) (tokens s.1) (tokens h.phrase) h.before ts (codes "if") (codes "(") (codes ",") (codes ")") s.9 h.spelt) s.10

first_tokens : (us p before ts : List (List ℕ)) (w a c : List ℕ) → before ≡ us ++ w ∷ a ∷ [] → ts ≡ before ++ p
    → ts ++ c ∷ [] ≡ us ++ (w ∷ a ∷ p) ++ c ∷ []
first_tokens us p before ts w a c same h = ap (λ v. v ++ c ∷ []) (h ∙ ap (λ v. v ++ p) same) ∙ simp append_assoc

middle_tokens : (us p q before ts : List (List ℕ)) (w a c : List ℕ) → before ≡ us ++ (w ∷ a ∷ p) ++ c ∷ [] → ts ≡ before ++ q
    → ts ++ c ∷ [] ≡ us ++ (w ∷ a ∷ (p ++ c ∷ q)) ++ c ∷ []
middle_tokens us p q before ts w a c same h = ap (λ v. v ++ c ∷ []) (h ∙ ap (λ v. v ++ q) same) ∙ simp append_assoc

parted_call : (strict : Bool) (g : Function) (l : ℕ) (x : Expr) (fs : List Frame) (ts : List (List ℕ)) (t : State) → Stood strict l x (f.First g ∷ fs) ts
    → gone_on g x fs ≡ Some t → Holds strict t (ts ++ codes "," ∷ [])
parted_call strict fn.Abs l x fs ts t h same = no_state (λ u. Holds strict u (ts ++ codes "," ∷ [])) t same
parted_call strict fn.Length l x fs ts t h same = no_state (λ u. Holds strict u (ts ++ codes "," ∷ [])) t same
parted_call strict fn.Scale l x fs ts t h same =
    let s = h.stands in
    given (λ u. Holds strict u (ts ++ codes "," ∷ [])) (at_mode (m.Digit x) fs) t same
    (record {
      phrase = h.phrase;
      before = s.0;
      is_phrase = h.is_phrase;
      tree_is = h.tree_is;
      room = h.room;
      spelt = first_tokens s.0 (tokens h.phrase) h.before ts (codes "scale") (codes "(") (codes ",") s.1 h.spelt;
      stands = s.2;
    })
parted_call strict fn.Coalesce l x fs ts t h same =
    let s = h.stands in
    given (λ u. Holds strict u (ts ++ codes "," ∷ [])) (operand (f.CoalesceSecond x ∷ fs)) t same (
      (h.phrase, s.0, h.is_phrase, h.room, h.tree_is, first_tokens s.0 (tokens h.phrase) h.before ts (codes "coalesce") (codes "(") (codes ",") s.1 h.spelt, s.2),
      levels_room strict (f.First fn.Coalesce ∷ fs) h.phrase h.room,
    )
parted_call strict fn.If l x fs ts t h same =
    let s = h.stands in
    given (λ u. Holds strict u (ts ++ codes "," ∷ [])) (operand (f.IfSecond x ∷ fs)) t same (
      (h.phrase, s.0, h.is_phrase, h.room, h.tree_is, first_tokens s.0 (tokens h.phrase) h.before ts (codes "if") (codes "(") (codes ",") s.1 h.spelt, s.2),
      levels_room strict (f.First fn.If ∷ fs) h.phrase h.room,
    )

parted_holds : (strict : Bool) (l : ℕ) (x : Expr) (fs : List Frame) (ts : List (List ℕ)) (t : State) → Stood strict l x fs ts
    → parted_in x fs ≡ Some t → Holds strict t (ts ++ codes "," ∷ [])
parted_holds strict l x [] ts t h same = no_state (λ u. Holds strict u (ts ++ codes "," ∷ [])) t same
parted_holds strict l x (f.First g ∷ fs) ts t h same = parted_call strict g l x fs ts t h same
parted_holds strict l x (f.IfSecond a ∷ fs) ts t h same =
    let s = h.stands in
    given (λ u. Holds strict u (ts ++ codes "," ∷ [])) (operand (f.IfThird a x ∷ fs)) t same (
      (
        s.0,
        h.phrase,
        s.1,
        s.2,
        h.is_phrase,
        s.3,
        h.room,
        s.4,
        h.tree_is,
        middle_tokens s.1 (tokens s.0) (tokens h.phrase) h.before ts (codes "if") (codes "(") (codes ",") s.5 h.spelt,
        s.6,
      ),
      levels_room strict (f.IfSecond a ∷ fs) h.phrase h.room,
    )
parted_holds strict l x (f.Left o a ∷ fs) ts t h same = no_state (λ u. Holds strict u (ts ++ codes "," ∷ [])) t same
parted_holds strict l x (f.Not ∷ fs) ts t h same = no_state (λ u. Holds strict u (ts ++ codes "," ∷ [])) t same
parted_holds strict l x (f.Negated ∷ fs) ts t h same = no_state (λ u. Holds strict u (ts ++ codes "," ∷ [])) t same
parted_holds strict l x (f.Parens ∷ fs) ts t h same = no_state (λ u. Holds strict u (ts ++ codes "," ∷ [])) t same
parted_holds strict l x (f.CoalesceSecond a ∷ fs) ts t h same = no_state (λ u. Holds strict u (ts ++ codes "," ∷ [])) t same
parted_holds strict l x (f.IfThird a b ∷ fs) ts t h same = no_state (λ u. Holds strict u (ts ++ codes "," ∷ [])) t same

-- one more token, by what it is

not_tokens : (ts us p : List (List ℕ)) (a b : List ℕ) → ts ≡ us ++ p ++ a ∷ [] → ts ++ b ∷ [] ≡ us ++ p ++ a ∷ b ∷ []
not_tokens ts us p a b h = ap (λ v. v ++ b ∷ []) h ∙ simp append_assoc

null_tokens : (ts us p : List (List ℕ)) (a b : List ℕ) → ts ≡ us ++ p ++ a ∷ [] → ts ++ b ∷ [] ≡ us ++ (p ++ a ∷ b ∷ [])
null_tokens ts us p a b h = ap (λ v. v ++ b ∷ []) h ∙ simp append_assoc

not_null_tokens : (ts us p : List (List ℕ)) (a b c : List ℕ) → ts ≡ us ++ p ++ a ∷ b ∷ [] → ts ++ c ∷ [] ≡ us ++ (p ++ a ∷ b ∷ c ∷ [])
not_null_tokens ts us p a b c h = ap (λ v. v ++ c ∷ []) h ∙ simp append_assoc

open_tokens : (ts us : List (List ℕ)) (a b : List ℕ) → ts ≡ us ++ a ∷ [] → ts ++ b ∷ [] ≡ us ++ a ∷ b ∷ []
open_tokens ts us a b h = ap (λ v. v ++ b ∷ []) h ∙ append_assoc us (a ∷ []) (b ∷ [])

picked_tokens : (ts us p : List (List ℕ)) (w a c d : List ℕ) → ts ≡ us ++ (w ∷ a ∷ p) ++ c ∷ [] → ts ++ d ∷ [] ≡ us ++ (w ∷ a ∷ p) ++ c ∷ d ∷ []
picked_tokens ts us p w a c d h = ap (λ v. v ++ d ∷ []) h ∙ simp append_assoc

scale_spelt : (ts us p : List (List ℕ)) (w a c d z : List ℕ) → ts ≡ us ++ (w ∷ a ∷ p) ++ c ∷ d ∷ [] → ts ++ z ∷ [] ≡ us ++ (w ∷ a ∷ ((p ++ c ∷ d ∷ []) ++ z ∷ []))
scale_spelt ts us p w a c d z h = ap (λ v. v ++ z ∷ []) h ∙ sym (scaled_tokens us p w a c d z)

-- the state after a token of this kind
abbrev Next : Bool → Mode → List Frame → Kind → Type 0
Next strict m fs k = (ts : List (List ℕ)) (w : List ℕ) (t : State) → HoldsIn strict m fs ts → IsOfKind k w → Limits strict w t
    → takes_in m fs k w ≡ Some t → Holds strict t (ts ++ w ∷ [])

refused : (strict : Bool) (ts : List (List ℕ)) (w : List ℕ) (t : State) → None ≡ Some t → Holds strict t (ts ++ w ∷ [])
refused strict ts w t same = no_state (λ u. Holds strict u (ts ++ w ∷ [])) t same

limits_levels : (strict : Bool) (w : List ℕ) (s t : State) → Some s ≡ Some t → Limits strict w t → IsPlain w
    → strict ≡ true → levels_in s.mode s.frames ≤ 64
limits_levels strict w s t same limits n d = subst (λ u. levels_in u.mode u.frames ≤ 64) (let both : t ≡ s = cc in both) ((limits d).depth_fits n)

holds_at : (strict : Bool) (t : State) (ts : List (List ℕ)) (v w : List ℕ) → w ≡ v → Holds strict t (ts ++ v ∷ []) → Holds strict t (ts ++ w ∷ [])
holds_at strict t ts v w same h = subst (λ u. Holds strict t (ts ++ u ∷ [])) (sym same) h

plain_at : (w v : List ℕ) → w ≡ v → IsPlain v → IsPlain w
plain_at w v same h = subst IsPlain (sym same) h

next_not : (strict : Bool) (fs : List Frame) (ts : List (List ℕ)) (w : List ℕ) (t : State) (b : Bool) → nat_le (hole fs) 3 ≡ b → HoldsIn strict m.Operand fs ts → w ≡ codes "not"
    → Limits strict w t → cond b (Some (operand (f.Not ∷ fs))) None ≡ Some t → Holds strict t (ts ++ w ∷ [])
next_not strict fs ts w t true low h k limits same =
    given (λ u. Holds strict u (ts ++ w ∷ [])) (operand (f.Not ∷ fs)) t same
    ((ts, leb-true (hole fs) 3 low, ap (λ v. ts ++ v ∷ []) k, h.0), limits_levels strict w (operand (f.Not ∷ fs)) t same limits (plain_at w (codes "not") k (refl, refl)))
next_not strict fs ts w t false low h k limits same = refused strict ts w t same

next_operand : (strict : Bool) (fs : List Frame) (k : Kind) → Next strict m.Operand fs k
next_operand strict fs kind.Number ts w t h k limits same =
    stood_whole strict fs (number w) ts (ts ++ w ∷ []) (e.Number (pos (units w)) (places w)) t same k refl refl
    (λ d. let r = h.1 d in (omega (arith, r), (limits d).number_fits k)) refl h.0
next_operand strict fs kind.Text ts w t h k limits same =
    stood_whole strict fs (text w) ts (ts ++ w ∷ []) (e.Text (said w)) t same k.0 refl refl
    (λ d. let r = h.1 d in (omega (arith, r), (limits d).text_fits k.1 k.0)) refl h.0
next_operand strict fs kind.Name ts w t h k limits same =
    stood_whole strict fs (name w) ts (ts ++ w ∷ []) (e.Column w) t same (plain_column w k.0) refl refl
    (λ d. let r = h.1 d in (omega (arith, r), tt)) refl h.0
next_operand strict fs kind.Open ts w t h k limits same =
    given (λ u. Holds strict u (ts ++ w ∷ [])) (operand (f.Parens ∷ fs)) t same
    ((ts, ap (λ v. ts ++ v ∷ []) k, h.0), limits_levels strict w (operand (f.Parens ∷ fs)) t same limits (plain_at w (codes "(") k (refl, refl)))
next_operand strict fs (kind.Call g) ts w t h k limits same =
    given (λ u. Holds strict u (ts ++ w ∷ [])) (at_mode (m.Opening g) fs) t same
    (ts, ap (λ v. ts ++ v ∷ []) k, h.0, limits_levels strict w (at_mode (m.Opening g) fs) t same limits (plain_at w (word_of g) k (call_plain g)))
next_operand strict fs kind.Not ts w t h k limits same = next_not strict fs ts w t (nat_le (hole fs) 3) refl h k limits same
next_operand strict fs (kind.Infix op.Minus) ts w t h k limits same =
    given (λ u. Holds strict u (ts ++ w ∷ [])) (operand (f.Negated ∷ fs)) t same
    ((ts, ap (λ v. ts ++ v ∷ []) k, h.0), limits_levels strict w (operand (f.Negated ∷ fs)) t same limits (plain_at w (codes "-") k (refl, refl)))
next_operand strict fs (kind.Infix op.Or) ts w t h k limits same = refused strict ts w t same
next_operand strict fs (kind.Infix op.And) ts w t h k limits same = refused strict ts w t same
next_operand strict fs (kind.Infix op.Equal) ts w t h k limits same = refused strict ts w t same
next_operand strict fs (kind.Infix op.NotEqual) ts w t h k limits same = refused strict ts w t same
next_operand strict fs (kind.Infix op.Less) ts w t h k limits same = refused strict ts w t same
next_operand strict fs (kind.Infix op.LessOrEqual) ts w t h k limits same = refused strict ts w t same
next_operand strict fs (kind.Infix op.Greater) ts w t h k limits same = refused strict ts w t same
next_operand strict fs (kind.Infix op.GreaterOrEqual) ts w t h k limits same = refused strict ts w t same
next_operand strict fs (kind.Infix op.Plus) ts w t h k limits same = refused strict ts w t same
next_operand strict fs (kind.Infix op.Join) ts w t h k limits same = refused strict ts w t same
next_operand strict fs (kind.Infix op.Times) ts w t h k limits same = refused strict ts w t same
next_operand strict fs (kind.Infix op.Over) ts w t h k limits same = refused strict ts w t same
next_operand strict fs kind.Is ts w t h k limits same = refused strict ts w t same
next_operand strict fs kind.Null ts w t h k limits same = refused strict ts w t same
next_operand strict fs kind.Close ts w t h k limits same = refused strict ts w t same
next_operand strict fs kind.Comma ts w t h k limits same = refused strict ts w t same
next_operand strict fs kind.Other ts w t h k limits same = refused strict ts w t same

next_opening : (strict : Bool) (g : Function) (fs : List Frame) (k : Kind) → Next strict (m.Opening g) fs k
next_opening strict g fs kind.Open ts w t h k limits same =
    given (λ u. Holds strict u (ts ++ w ∷ [])) (operand (f.First g ∷ fs)) t same
    ((h.0, ap (λ v. ts ++ v ∷ []) k ∙ open_tokens ts h.0 (word_of g) (codes "(") h.1, h.2), h.3)
next_opening strict g fs kind.Number ts w t h k limits same = refused strict ts w t same
next_opening strict g fs kind.Text ts w t h k limits same = refused strict ts w t same
next_opening strict g fs kind.Name ts w t h k limits same = refused strict ts w t same
next_opening strict g fs (kind.Infix o) ts w t h k limits same = refused strict ts w t same
next_opening strict g fs kind.Is ts w t h k limits same = refused strict ts w t same
next_opening strict g fs kind.Not ts w t h k limits same = refused strict ts w t same
next_opening strict g fs kind.Null ts w t h k limits same = refused strict ts w t same
next_opening strict g fs (kind.Call c) ts w t h k limits same = refused strict ts w t same
next_opening strict g fs kind.Close ts w t h k limits same = refused strict ts w t same
next_opening strict g fs kind.Comma ts w t h k limits same = refused strict ts w t same
next_opening strict g fs kind.Other ts w t h k limits same = refused strict ts w t same

next_after : (strict : Bool) (l : ℕ) (x : Expr) (fs : List Frame) (k : Kind) → Next strict (m.After l x) fs k
next_after strict l x fs (kind.Infix o) ts w t h k limits same =
    let r = reduce fs (level_of o) l x in
    holds_at strict t ts (sign o) w k
    (with_operator_holds strict o r ts t (reduced strict fs (level_of o) l x ts (levels_of o).some h) (nat_le (left_of o) r.level) refl same)
next_after strict l x fs kind.Is ts w t h k limits same =
    let r = reduce fs 4 l x in
    holds_at strict t ts (codes "is") w k (with_is_holds strict r ts t (reduced strict fs 4 l x ts (omega arith) h) (nat_le 5 r.level) refl same)
next_after strict l x fs kind.Close ts w t h k limits same =
    let r = reduce fs 1 l x in
    holds_at strict t ts (codes ")") w k (closed_holds strict r.level r.expr r.frames ts t (reduced strict fs 1 l x ts (omega arith) h).0 same)
next_after strict l x fs kind.Comma ts w t h k limits same =
    let r = reduce fs 1 l x in
    holds_at strict t ts (codes ",") w k (parted_holds strict r.level r.expr r.frames ts t (reduced strict fs 1 l x ts (omega arith) h).0 same)
next_after strict l x fs kind.Number ts w t h k limits same = refused strict ts w t same
next_after strict l x fs kind.Text ts w t h k limits same = refused strict ts w t same
next_after strict l x fs kind.Name ts w t h k limits same = refused strict ts w t same
next_after strict l x fs kind.Not ts w t h k limits same = refused strict ts w t same
next_after strict l x fs kind.Null ts w t h k limits same = refused strict ts w t same
next_after strict l x fs (kind.Call c) ts w t h k limits same = refused strict ts w t same
next_after strict l x fs kind.Open ts w t h k limits same = refused strict ts w t same
next_after strict l x fs kind.Other ts w t h k limits same = refused strict ts w t same

next_is : (strict : Bool) (x : Expr) (fs : List Frame) (k : Kind) → Next strict (m.Is x) fs k
next_is strict x fs kind.Not ts w t h k limits same =
    holds_at strict t ts (codes "not") w k
    (given (λ u. Holds strict u (ts ++ codes "not" ∷ [])) (at_mode (m.IsNot x) fs) t same
    (record {
      phrase = h.phrase;
      before = h.before;
      is_phrase = h.is_phrase;
      high = h.high;
      tree_is = h.tree_is;
      fits = h.fits;
      room = h.room;
      spelt = not_tokens ts h.before (tokens h.phrase) (codes "is") (codes "not") h.spelt;
      stands = h.stands;
    }))
next_is strict x fs kind.Null ts w t h k limits same =
    holds_at strict t ts (codes "null") w k
    (given (λ u. Holds strict u (ts ++ codes "null" ∷ [])) (after 4 (e.IsNull x) fs) t same
    (record {
      phrase = is_null h.phrase;
      before = h.before;
      is_phrase = (h.high, h.is_phrase);
      level_is = refl;
      tree_is = ap e.IsNull h.tree_is;
      fits = h.fits;
      room = h.room;
      spelt = null_tokens ts h.before (tokens h.phrase) (codes "is") (codes "null") h.spelt;
      stands = h.stands;
    }))
next_is strict x fs kind.Number ts w t h k limits same = refused strict ts w t same
next_is strict x fs kind.Text ts w t h k limits same = refused strict ts w t same
next_is strict x fs kind.Name ts w t h k limits same = refused strict ts w t same
next_is strict x fs (kind.Infix o) ts w t h k limits same = refused strict ts w t same
next_is strict x fs kind.Is ts w t h k limits same = refused strict ts w t same
next_is strict x fs (kind.Call c) ts w t h k limits same = refused strict ts w t same
next_is strict x fs kind.Open ts w t h k limits same = refused strict ts w t same
next_is strict x fs kind.Close ts w t h k limits same = refused strict ts w t same
next_is strict x fs kind.Comma ts w t h k limits same = refused strict ts w t same
next_is strict x fs kind.Other ts w t h k limits same = refused strict ts w t same

next_is_not : (strict : Bool) (x : Expr) (fs : List Frame) (k : Kind) → Next strict (m.IsNot x) fs k
next_is_not strict x fs kind.Null ts w t h k limits same =
    holds_at strict t ts (codes "null") w k
    (given (λ u. Holds strict u (ts ++ codes "null" ∷ [])) (after 4 (e.IsNotNull x) fs) t same
    (record {
      phrase = is_not_null h.phrase;
      before = h.before;
      is_phrase = (h.high, h.is_phrase);
      level_is = refl;
      tree_is = ap e.IsNotNull h.tree_is;
      fits = h.fits;
      room = h.room;
      spelt = not_null_tokens ts h.before (tokens h.phrase) (codes "is") (codes "not") (codes "null") h.spelt;
      stands = h.stands;
    }))
next_is_not strict x fs kind.Number ts w t h k limits same = refused strict ts w t same
next_is_not strict x fs kind.Text ts w t h k limits same = refused strict ts w t same
next_is_not strict x fs kind.Name ts w t h k limits same = refused strict ts w t same
next_is_not strict x fs (kind.Infix o) ts w t h k limits same = refused strict ts w t same
next_is_not strict x fs kind.Is ts w t h k limits same = refused strict ts w t same
next_is_not strict x fs kind.Not ts w t h k limits same = refused strict ts w t same
next_is_not strict x fs (kind.Call c) ts w t h k limits same = refused strict ts w t same
next_is_not strict x fs kind.Open ts w t h k limits same = refused strict ts w t same
next_is_not strict x fs kind.Close ts w t h k limits same = refused strict ts w t same
next_is_not strict x fs kind.Comma ts w t h k limits same = refused strict ts w t same
next_is_not strict x fs kind.Other ts w t h k limits same = refused strict ts w t same

next_scaled : (strict : Bool) (x : Expr) (n : ℕ) (fs : List Frame) (k : Kind) → Next strict (m.Scaled x n) fs k
next_scaled strict x n fs kind.Close ts w t h k limits same =
    let s = h.3 in
    holds_at strict t ts (codes ")") w k
    (stood_whole strict fs (scale s.phrase h.0) s.before (ts ++ codes ")" ∷ []) (e.Scale x n) t same (s.is_phrase, h.1) refl
    (ap (λ y. e.Scale y (slice_index h.0 0 - 48)) s.tree_is ∙ ap (e.Scale x) h.2)
    (λ d. let r = (s.room d).0 in (omega (arith, r), (s.room d).1))
    (scale_spelt ts s.before (tokens s.phrase) (codes "scale") (codes "(") (codes ",") h.0 (codes ")") s.spelt) s.stands)
next_scaled strict x n fs kind.Number ts w t h k limits same = refused strict ts w t same
next_scaled strict x n fs kind.Text ts w t h k limits same = refused strict ts w t same
next_scaled strict x n fs kind.Name ts w t h k limits same = refused strict ts w t same
next_scaled strict x n fs (kind.Infix o) ts w t h k limits same = refused strict ts w t same
next_scaled strict x n fs kind.Is ts w t h k limits same = refused strict ts w t same
next_scaled strict x n fs kind.Not ts w t h k limits same = refused strict ts w t same
next_scaled strict x n fs kind.Null ts w t h k limits same = refused strict ts w t same
next_scaled strict x n fs (kind.Call c) ts w t h k limits same = refused strict ts w t same
next_scaled strict x n fs kind.Open ts w t h k limits same = refused strict ts w t same
next_scaled strict x n fs kind.Comma ts w t h k limits same = refused strict ts w t same
next_scaled strict x n fs kind.Other ts w t h k limits same = refused strict ts w t same

next_digit : (strict : Bool) (x : Expr) (fs : List Frame) (k : Kind) (ts : List (List ℕ)) (w : List ℕ) (t : State) (b : Bool) → is_scale w ≡ b → HoldsIn strict (m.Digit x) fs ts
    → cond b (Some (at_mode (m.Scaled x (slice_index w 0 - 48)) fs)) None ≡ Some t → Holds strict t (ts ++ w ∷ [])
next_digit strict x fs k ts w t true digit h same =
    given (λ u. Holds strict u (ts ++ w ∷ [])) (at_mode (m.Scaled x (slice_index w 0 - 48)) fs) t same (
      w,
      digit,
      refl,
      record {
        phrase = h.phrase;
        before = h.before;
        is_phrase = h.is_phrase;
        tree_is = h.tree_is;
        room = h.room;
        spelt = picked_tokens ts h.before (tokens h.phrase) (codes "scale") (codes "(") (codes ",") w h.spelt;
        stands = h.stands;
      },
    )
next_digit strict x fs k ts w t false digit h same = refused strict ts w t same

next_in : (strict : Bool) (m : Mode) (fs : List Frame) (k : Kind) → Next strict m fs k
next_in strict m.Operand fs k = next_operand strict fs k
next_in strict (m.Opening g) fs k = next_opening strict g fs k
next_in strict (m.After l x) fs k = next_after strict l x fs k
next_in strict (m.Is x) fs k = next_is strict x fs k
next_in strict (m.IsNot x) fs k = next_is_not strict x fs k
next_in strict (m.Digit x) fs k = λ ts w t h is limits same. next_digit strict x fs k ts w t (is_scale w) refl h same
next_in strict (m.Scaled x n) fs k = next_scaled strict x n fs k

-- what holds of a state holds of the next
pub next_holds : (strict : Bool) (s t : State) (ts : List (List ℕ)) (w : List ℕ) → Holds strict s ts → takes s w ≡ Some t → Limits strict w t
    → Holds strict t (ts ++ w ∷ [])
next_holds strict s t ts w h same limits = next_in strict s.mode s.frames (kind_of w) ts w t h (of_kind w) limits same

-- the end

pub record Whole (strict : Bool) (x : Expr) (ts : List (List ℕ)) : Type 0 where
  pub phrase : Phrase
  pub is_phrase : IsPhrase phrase
  pub room : Room strict [] phrase
  pub tree_is : tree phrase ≡ x
  pub spelt : ts ≡ tokens phrase

whole_at : (strict : Bool) (l : ℕ) (y x : Expr) (fs : List Frame) (ts : List (List ℕ)) → Stood strict l y fs ts → all_of y fs ≡ Some x → Whole strict x ts
whole_at strict l y x [] ts h same = record {
  phrase = h.phrase;
  is_phrase = h.is_phrase;
  room = h.room;
  tree_is = h.tree_is ∙ (let both : y ≡ x = cc in both);
  spelt = let none : h.before ≡ [] = h.stands in h.spelt ∙ ap (λ v. v ++ tokens h.phrase) none;
}
whole_at strict l y x (g ∷ gs) ts h same = absurd cc

pub whole_of : (strict : Bool) (m : Mode) (fs : List Frame) (ts : List (List ℕ)) (x : Expr) → HoldsIn strict m fs ts → finish_in m fs ≡ Some x → Whole strict x ts
whole_of strict (m.After l y) fs ts x h same =
    let r = reduce fs 1 l y in
    whole_at strict r.level r.expr x r.frames ts (reduced strict fs 1 l y ts (omega arith) h).0 same
whole_of strict m.Operand fs ts x h same = absurd cc
whole_of strict (m.Opening g) fs ts x h same = absurd cc
whole_of strict (m.Is y) fs ts x h same = absurd cc
whole_of strict (m.IsNot y) fs ts x h same = absurd cc
whole_of strict (m.Digit y) fs ts x h same = absurd cc
whole_of strict (m.Scaled y k) fs ts x h same = absurd cc

-- limits

limits_number : (w : List ℕ) (t : State) (n b : Bool) (rest : Option ExprWhat) → is_number w ≡ n → nat_lt (units w) (2 ^ 63) ≡ b
    → cond n (cond b None (Some what.BadNumber)) rest ≡ None → is_number w ≡ true → units w < 2 ^ 63
limits_number w t true true rest n b h d = ltb-true _ _ b
limits_number w t true false rest n b h d = absurd cc
limits_number w t false b rest n is h d = absurd (false≢true (sym n ∙ d))

limits_text : (w : List ℕ) (t : State) (n x b : Bool) (first rest : Option ExprWhat) → is_number w ≡ n → is_text w ≡ x → nat_le (length (said w)) 4096 ≡ b
    → cond n first (cond x (cond b None (Some what.BadText)) rest) ≡ None → is_number w ≡ false → is_text w ≡ true → length (said w) ≤ 4096
limits_text w t true x b first rest n is l h d g = absurd (false≢true (sym d ∙ n))
limits_text w t false false b first rest n is l h d g = absurd (false≢true (sym is ∙ g))
limits_text w t false true true first rest n is l h d g = leb-true _ _ l
limits_text w t false true false first rest n is l h d g = absurd cc

limits_deep : (w : List ℕ) (t : State) (n x b : Bool) (first second : Option ExprWhat) → is_number w ≡ n → is_text w ≡ x → nat_le (levels_in t.mode t.frames) 64 ≡ b
    → cond n first (cond x second (cond b None (Some what.TooDeep))) ≡ None → IsPlain w → levels_in t.mode t.frames ≤ 64
limits_deep w t true x b first second n is l h d = absurd (false≢true (sym d.0 ∙ n))
limits_deep w t false true b first second n is l h d = absurd (false≢true (sym d.1 ∙ is))
limits_deep w t false false true first second n is l h d = leb-true _ _ l
limits_deep w t false false false first second n is l h d = absurd cc

pub limits_from : (strict : Bool) (w : List ℕ) (t : State) → beyond strict w t ≡ None → Limits strict w t
limits_from true w t h d = record {
  number_fits = limits_number w t (is_number w) (nat_lt (units w) (2 ^ 63)) _ refl refl h;
  text_fits = limits_text w t (is_number w) (is_text w) (nat_le (length (said w)) 4096) _ _ refl refl refl h;
  depth_fits = limits_deep w t (is_number w) (is_text w) (nat_le (levels_in t.mode t.frames) 64) _ _ refl refl refl h;
}
limits_from false w t h d = absurd (false≢true d)
