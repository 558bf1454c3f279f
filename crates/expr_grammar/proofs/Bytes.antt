-- Reading byte by byte is reading token by token.
use Rattle.std.proofs.Common.{◌≡◌, ℕ, ◌+◌, ◌-◌, List, [], ◌∷◌, ◌++◌, length, Option, Some, None, Ok, Err, Bool, true, false, eqb, refl, sym, ap, ◌∙◌, append_assoc, append-nil, length-append, arith}
use Rattle.std.proofs.lemmas.Bool.{false≢true, and_parts, eqb-true}
use Rattle.expr_grammar.specs.Tokens.{is_token, IsLongest, AreSpaces, Reads, Spells}
use Rattle.expr_grammar.specs.Kinds.{continues}
use Rattle.tuple_schema.specs.Stops.{◌>>=◌}
use Rattle.expr_grammar.specs.Machine.{State, at_mode, is_bad_already, reduce, takes, begins, beyond, past, led, judged, fault, begun, stepped, read, ended, whole, start}
use Rattle.expr_grammar.specs.declared.expr.Expr.{Expr}
use Rattle.expr_grammar.specs.declared.fault.ExprFault.{ExprFault}
use Rattle.expr_grammar.specs.declared.fault.ExprWhat.{ExprWhat}
use Rattle.expr_grammar.specs.declared.fault.ExprWhat.TheVariants as what
use Rattle.expr_grammar.specs.declared.state.Frame.{Frame}
use Rattle.expr_grammar.specs.declared.state.Mode.{Mode}
use Rattle.expr_grammar.specs.declared.state.Mode.TheVariants as m
use Rattle.expr_grammar.proofs.Complete.{advance, led_to, allowed, go, all_of, finish_in}
use Rattle.expr_grammar.proofs.Lexical.{inside_continues, Stops, Tidy, stops_tidy, tidy_spaces, tidy_reads}
use Rattle.expr_grammar.proofs.Standing.{begins_front, taken_token}

-- one token

past_judged : (place : ℕ) (u t : State) (o : Option ExprWhat) → allowed o u ≡ Some t → judged place u o ≡ Ok t
past_judged place u t None h = let same : u ≡ t = cc in ap Ok same
past_judged place u t (Some what) h = absurd cc

past_at : (strict : Bool) (at : ℕ) (t : State) (w : List ℕ) (o : Option State) → led_to strict w o ≡ Some t → led strict at w o ≡ Ok t
past_at strict at t w None h = absurd cc
past_at strict at t w (Some u) h = past_judged (at - length w) u t (beyond strict w u) h

past-taken : (strict : Bool) (at : ℕ) (s t : State) (c : ℕ) (cs : List ℕ) → advance strict s (c ∷ cs) ≡ Some t → past strict at s (c ∷ cs) ≡ Ok t
unfolding past
past-taken strict at s t c cs h = past_at strict at t (c ∷ cs) (takes s (c ∷ cs)) h

pub past-none : (strict : Bool) (at : ℕ) (s : State) (c : ℕ) (cs : List ℕ) → is_bad_already strict (c ∷ cs) ≡ false → takes s (c ∷ cs) ≡ None
    → past strict at s (c ∷ cs) ≡ fault at what.Unexpected
unfolding past
past-none strict at s c cs good h = ap (led strict at (c ∷ cs)) h ∙ rw good refl

pub past-bad : (at : ℕ) (s : State) (c : ℕ) (cs : List ℕ) → is_bad_already true (c ∷ cs) ≡ true → takes s (c ∷ cs) ≡ None
    → past true at s (c ∷ cs) ≡ fault (at - length (c ∷ cs)) what.BadNumber
unfolding past
past-bad at s c cs bad h = ap (led true at (c ∷ cs)) h ∙ rw bad refl

pub past-some : (strict : Bool) (at : ℕ) (s t : State) (c : ℕ) (cs : List ℕ) → takes s (c ∷ cs) ≡ Some t
    → past strict at s (c ∷ cs) ≡ judged (at - length (c ∷ cs)) t (beyond strict (c ∷ cs) t)
unfolding past
past-some strict at s t c cs h = ap (led strict at (c ∷ cs)) h

pub past-nothing : (strict : Bool) (at : ℕ) (s : State) → past strict at s [] ≡ Ok s
unfolding past
past-nothing strict at s = refl

pub read-end : (strict : Bool) (at : ℕ) (s : State) (u : List ℕ) → read strict at s u [] ≡ (past strict at s u >>= λ t. ended at t)
unfolding read
read-end strict at s u = refl

pub read-step : (strict : Bool) (at : ℕ) (s : State) (u : List ℕ) (b : ℕ) (bs : List ℕ)
    → read strict at s u (b ∷ bs) ≡ (stepped strict at s u b >>= λ n. read strict (at + 1) n.0 n.1 bs)
unfolding read
read-step strict at s u b bs = refl

pub stepped-on : (strict : Bool) (at : ℕ) (s : State) (u : List ℕ) (b : ℕ) → continues u b ≡ true → begins s (u ++ b ∷ []) ≡ true
    → stepped strict at s u b ≡ Ok (s, u ++ b ∷ [])
unfolding stepped
stepped-on strict at s u b c h = rw (c, h) refl

pub stepped-off : (strict : Bool) (at : ℕ) (s : State) (u : List ℕ) (b : ℕ) → continues u b ≡ true → begins s (u ++ b ∷ []) ≡ false
    → stepped strict at s u b ≡ fault at what.Unexpected
unfolding stepped
stepped-off strict at s u b c h = rw (c, h) refl

pub stepped-past : (strict : Bool) (at : ℕ) (s : State) (u : List ℕ) (b : ℕ) → continues u b ≡ false
    → stepped strict at s u b ≡ (past strict at s u >>= λ t. begun at t b)
unfolding stepped
stepped-past strict at s u b c = rw c refl

pub begun-space : (at : ℕ) (t : State) → begun at t 32 ≡ Ok (t, [])
unfolding begun
begun-space at t = refl

pub begun-token : (at : ℕ) (t : State) (b : ℕ) → eqb b 32 ≡ false → begins t (b ∷ []) ≡ true → begun at t b ≡ Ok (t, b ∷ [])
unfolding begun
begun-token at t b n h = rw (n, h) refl

pub begun-none : (at : ℕ) (t : State) (b : ℕ) → eqb b 32 ≡ false → begins t (b ∷ []) ≡ false → begun at t b ≡ fault at what.Unexpected
unfolding begun
begun-none at t b n h = rw (n, h) refl

pub read-goes : (strict : Bool) (at : ℕ) (s t : State) (u v : List ℕ) (b : ℕ) (bs : List ℕ) → stepped strict at s u b ≡ Ok (t, v)
    → read strict at s u (b ∷ bs) ≡ read strict (at + 1) t v bs
read-goes strict at s t u v b bs h = read-step strict at s u b bs ∙ ap (λ r. r >>= λ n. read strict (at + 1) n.0 n.1 bs) h

pub read-fails : (strict : Bool) (at : ℕ) (s : State) (u : List ℕ) (b : ℕ) (bs : List ℕ) (f : ExprFault) → stepped strict at s u b ≡ Err f
    → read strict at s u (b ∷ bs) ≡ Err f
read-fails strict at s u b bs f h = read-step strict at s u b bs ∙ ap (λ r. r >>= λ n. read strict (at + 1) n.0 n.1 bs) h

-- the bytes of a token

enters : (strict : Bool) (at : ℕ) (s t : State) (c : ℕ) (cs v a : List ℕ) → takes s ((c ∷ cs) ++ v) ≡ Some t
    → read strict at s (c ∷ cs) (v ++ a) ≡ read strict (at + length v) s ((c ∷ cs) ++ v) a
enters strict at s t c cs [] a h = ap (λ n. read strict n s (c ∷ cs) a) (let e : at ≡ at + 0 = omega arith in e) ∙ ap (λ w. read strict (at + 0) s w a) (sym (append-nil (c ∷ cs)))
enters strict at s t c cs (b ∷ v) a h =
    let regroup : (c ∷ cs) ++ b ∷ v ≡ (c ∷ (cs ++ b ∷ [])) ++ v = sym (append_assoc (c ∷ cs) (b ∷ []) v) in
    let taken : takes s ((c ∷ (cs ++ b ∷ [])) ++ v) ≡ Some t = ap (takes s) (sym regroup) ∙ h in
    read-goes strict at s s (c ∷ cs) (c ∷ (cs ++ b ∷ [])) b (v ++ a)
    (stepped-on strict at s (c ∷ cs) b (inside_continues c b cs v (taken_token s t ((c ∷ cs) ++ b ∷ v) h)) (begins_front s t c (cs ++ b ∷ []) v taken))
    ∙ enters strict (at + 1) s t c (cs ++ b ∷ []) v a taken
    ∙ ap (λ n. read strict n s ((c ∷ (cs ++ b ∷ [])) ++ v) a) (let e : at + 1 + length v ≡ at + length (b ∷ v) = omega arith in e)
    ∙ ap (λ w. read strict (at + length (b ∷ v)) s w a) (sym regroup)

token_some : (cs : List ℕ) → is_token cs ≡ true → cs ≡ [] → ⊥
token_some cs h same = let at_none : is_token [] ≡ true = ap is_token (sym same) ∙ h in false≢true at_none

space_no_token : (cs : List ℕ) → is_token (32 ∷ cs) ≡ false
space_no_token cs = refl

token_no_space : (cs : List ℕ) (b : Bool) (c : ℕ) → eqb c 32 ≡ b → is_token (c ∷ cs) ≡ true → eqb c 32 ≡ false
token_no_space cs false c same h = same
token_no_space cs true c same h =
    let at_space : is_token (32 ∷ cs) ≡ true = ap (λ z. is_token (z ∷ cs)) (sym (eqb-true c 32 same)) ∙ h in
    absurd (false≢true (sym (space_no_token cs) ∙ at_space))

pub read_token : (strict : Bool) (at : ℕ) (s t : State) (c : ℕ) (cs a : List ℕ) → takes s (c ∷ cs) ≡ Some t
    → read strict at s [] ((c ∷ cs) ++ a) ≡ read strict (at + length (c ∷ cs)) s (c ∷ cs) a
read_token strict at s t c cs a h =
    read-goes strict at s s [] (c ∷ []) c (cs ++ a)
    (stepped-past strict at s [] c refl ∙ ap (λ r. r >>= λ t. begun at t c) (past-nothing strict at s)
    ∙ begun-token at s c (token_no_space cs (eqb c 32) c refl (taken_token s t (c ∷ cs) h)) (begins_front s t c [] cs h))
    ∙ enters strict (at + 1) s t c [] cs a h
    ∙ ap (λ n. read strict n s (c ∷ cs) a) (let e : at + 1 + length cs ≡ at + length (c ∷ cs) = omega arith in e)

read_next : (strict : Bool) (at : ℕ) (s t : State) (c : ℕ) (cs a : List ℕ) → Stops (c ∷ cs) a → advance strict s (c ∷ cs) ≡ Some t
    → read strict at s (c ∷ cs) a ≡ read strict at t [] a
read_next strict at s t c cs [] stops h =
    read-end strict at s (c ∷ cs) ∙ ap (λ r. r >>= λ t. ended at t) (past-taken strict at s t c cs h ∙ sym (past-nothing strict at t)) ∙ sym (read-end strict at t [])
read_next strict at s t c cs (b ∷ bs) stops h =
    read-step strict at s (c ∷ cs) b bs
    ∙ ap (λ r. r >>= λ n. read strict (at + 1) n.0 n.1 bs)
    (stepped-past strict at s (c ∷ cs) b stops ∙ ap (λ r. r >>= λ t. begun at t b) (past-taken strict at s t c cs h ∙ sym (past-nothing strict at t)) ∙ sym (stepped-past strict at t [] b refl))
    ∙ sym (read-step strict at t [] b bs)

pub read_spaces : (strict : Bool) (at : ℕ) (s : State) (spaces a : List ℕ) → AreSpaces spaces → read strict at s [] (spaces ++ a) ≡ read strict (at + length spaces) s [] a
read_spaces strict at s [] a h = ap (λ n. read strict n s [] a) (let e : at ≡ at + 0 = omega arith in e)
read_spaces strict at s (b ∷ bs) a h =
    let both = and_parts (eqb b 32) _ h in
    let space : b ≡ 32 = eqb-true b 32 both.0 in
    ap (λ z. read strict at s [] (z ∷ (bs ++ a))) space
    ∙ read-goes strict at s s [] [] 32 (bs ++ a) (stepped-past strict at s [] 32 refl ∙ ap (λ r. r >>= λ t. begun at t 32) (past-nothing strict at s) ∙ begun-space at s)
    ∙ read_spaces strict (at + 1) s bs a both.1
    ∙ ap (λ n. read strict n s [] a) (let e : at + 1 + length bs ≡ at + length (b ∷ bs) = omega arith in e)

-- several tokens

abbrev pub run : Bool → State → List (List ℕ) → Option State
run strict s [] = Some s
run strict s (w ∷ ws) = elim (advance strict s w) [ None ↦ None | Some t ↦ run strict t ws ]

-- what is read after some tokens
pub record Passed (strict : Bool) (at : ℕ) (s t : State) (text rest : List ℕ) : Type 0 where
  pub place : ℕ
  pub same : read strict at s [] text ≡ read strict place t [] rest
  pub count : place + length rest ≡ at + length text

regroup_text : (spaces w a : List ℕ) → spaces ++ w ++ a ≡ spaces ++ (w ++ a)
regroup_text spaces w a = append_assoc spaces w a

passed_word : (strict : Bool) (at : ℕ) (s t : State) (w : List ℕ) (spaces a text : List ℕ) → AreSpaces spaces → text ≡ spaces ++ w ++ a → is_token w ≡ true
    → IsLongest w a → Tidy a → advance strict s w ≡ Some t → (o : Option State) → takes s w ≡ o → Passed strict at s t text a
passed_word strict at s t w spaces a text blank same token longest tidy h None is = absurd (let none : led_to strict w None ≡ Some t = ap (led_to strict w) (sym is) ∙ h in cc)
passed_word strict at s t [] spaces a text blank same token longest tidy h (Some u) is = absurd (token_some [] token refl)
passed_word strict at s t (c ∷ cs) spaces a text blank same token longest tidy h (Some u) is =
    let w = c ∷ cs in
    record {
      place = at + length spaces + length w;
      same =
          ap (read strict at s []) (same ∙ regroup_text spaces w a)
          ∙ read_spaces strict at s spaces (w ++ a) blank
          ∙ read_token strict (at + length spaces) s u c cs a is
          ∙ read_next strict (at + length spaces + length w) s t c cs a (stops_tidy c cs a token longest tidy) h;
      count = let sizes : length text ≡ length spaces + length w + length a = ap length same ∙ simp length-append in omega (arith, sizes);
    }

passed_more : (strict : Bool) (at : ℕ) (s t u : State) (text a rest : List ℕ) → Passed strict at s t text a → ((place : ℕ) → Passed strict place t u a rest) → Passed strict at s u text rest
passed_more strict at s t u text a rest one more =
    let two = more one.place in
    record { place = two.place; same = one.same ∙ two.same; count = two.count ∙ one.count }

pub run_first : (strict : Bool) (w : List ℕ) (ws : List (List ℕ)) (u : State) (o : Option State) → elim o [ None ↦ None | Some t ↦ run strict t ws ] ≡ Some u
    → (t : State) × (o ≡ Some t) × (run strict t ws ≡ Some u)
run_first strict w ws u None h = absurd cc
run_first strict w ws u (Some t) h = (t, refl, h)

pub passes : (strict : Bool) (ws : List (List ℕ)) (at : ℕ) (s u : State) (text rest : List ℕ) → Reads ws text rest → Tidy rest → run strict s ws ≡ Some u
    → Passed strict at s u text rest
passes strict [] at s u text rest reads tidy h = record {
  place = at;
  same = let both : s ≡ u = cc in ap (λ v. read strict at v [] text) both ∙ ap (read strict at u []) reads;
  count = let both : text ≡ rest = reads in ap (λ v. at + length v) (sym both);
}
passes strict (w ∷ ws) at s u text rest reads tidy h =
    let next = run_first strict w ws u (advance strict s w) h in
    passed_more strict at s next.0 u text reads.1 rest
    (passed_word strict at s next.0 w reads.0 reads.1 text reads.2 reads.3 reads.4 reads.5 (tidy_reads ws reads.1 rest reads.6 tidy) next.1 (takes s w) refl)
    (λ place. passes strict ws place next.0 u reads.1 rest reads.6 tidy next.2)

-- the tokens of an expression are run through

run_split_at : (strict : Bool) (ws more : List (List ℕ)) (x : Expr) (o : Option State)
    → ((t : State) → go strict t (ws ++ more) ≡ Some x → (u : State) × (run strict t ws ≡ Some u) × (go strict u more ≡ Some x))
    → elim o [ None ↦ None | Some t ↦ go strict t (ws ++ more) ] ≡ Some x
    → (u : State) × (elim o [ None ↦ None | Some t ↦ run strict t ws ] ≡ Some u) × (go strict u more ≡ Some x)
run_split_at strict ws more x None rest h = absurd cc
run_split_at strict ws more x (Some t) rest h = rest t h

pub run_split : (strict : Bool) (ws more : List (List ℕ)) (s : State) (x : Expr) → go strict s (ws ++ more) ≡ Some x
    → (t : State) × (run strict s ws ≡ Some t) × (go strict t more ≡ Some x)
run_split strict [] more s x h = (s, refl, h)
run_split strict (w ∷ ws) more s x h = run_split_at strict ws more x (advance strict s w) (λ t. run_split strict ws more t x) h

finished_at : (at l : ℕ) (y : Expr) (fs : List Frame) (x : Expr) → all_of y fs ≡ Some x → whole at (record { level = l; expr = y; frames = fs }) ≡ Ok x
finished_at at l y [] x h = let same : y ≡ x = cc in ap Ok same
finished_at at l y (g ∷ gs) x h = absurd cc

finished : (at : ℕ) (m : Mode) (fs : List Frame) (x : Expr) → finish_in m fs ≡ Some x → ended at (at_mode m fs) ≡ Ok x
unfolding ended
finished at (m.After l y) fs x h = let r = reduce fs 1 l y in finished_at at r.level r.expr r.frames x h
finished at m.Operand fs x h = absurd cc
finished at (m.Opening g) fs x h = absurd cc
finished at (m.Is y) fs x h = absurd cc
finished at (m.IsNot y) fs x h = absurd cc
finished at (m.Digit y) fs x h = absurd cc
finished at (m.Scaled y k) fs x h = absurd cc

-- a text whose tokens make an expression is read as it
pub reads_expression : (strict : Bool) (ws : List (List ℕ)) (text : List ℕ) (x : Expr) → Spells ws text → go strict start ws ≡ Some x
    → read strict 0 start [] text ≡ Ok x
reads_expression strict ws text x spelt h =
    let whole : go strict start (ws ++ []) ≡ Some x = ap (go strict start) (append-nil ws) ∙ h in
    let split = run_split strict ws [] start x whole in
    let t = split.0 in
    let spaces = spelt.0 in
    let one = passes strict ws 0 start t text spaces spelt.2 (tidy_spaces spaces spelt.1) split.1 in
    one.same
    ∙ ap (read strict one.place t []) (sym (append-nil spaces))
    ∙ read_spaces strict one.place t spaces [] spelt.1
    ∙ read-end strict (one.place + length spaces) t []
    ∙ ap (λ r. r >>= λ t. ended (one.place + length spaces) t) (past-nothing strict (one.place + length spaces) t)
    ∙ finished (one.place + length spaces) t.mode t.frames x split.2
