-- What the reader's answer says of the text.
use Rattle.std.proofs.Common.{◌≡◌, ℕ, List, [], ◌∷◌, ◌++◌, codes, Some, None, true, false, eqb, refl, sym, ap, subst, ◌∙◌, append_assoc, append-nil, arith}
use Rattle.std.proofs.lemmas.Bool.{false≢true, and_from}
use Rattle.expr_grammar.specs.Tokens.{is_token, IsLongest, AreSpaces, Reads, Spells}
use Rattle.expr_grammar.specs.Texts.{GoesOn}
use Rattle.expr_grammar.specs.Kinds.{continues}
use Rattle.expr_grammar.specs.Phrases.{Phrase, number, text, name, parens, abs, len, scale, coalesce, choice, joined, denied, negated, is_null, is_not_null, IsPhrase, tokens, call, sign}
use Rattle.expr_grammar.specs.Machine.{State, takes, begins, beyond, start}
use Rattle.expr_grammar.specs.declared.expr.Operator.{Operator}
use Rattle.expr_grammar.specs.declared.expr.Operator.TheVariants as op
use Rattle.expr_grammar.proofs.Columns.{column_plain}
use Rattle.expr_grammar.proofs.Complete.{go, go_on, scale_number, name_word}
use Rattle.expr_grammar.proofs.Holes.{Holds, completed}
use Rattle.expr_grammar.proofs.Sound.{next_holds, limits_from}
use Rattle.expr_grammar.proofs.Lexical.{Stops, longest_from_stops, no_space, token_word, token_number, token_text}
use Rattle.expr_grammar.proofs.Standing.{Ended, ended_of, taken_token}

-- all tokens of a phrase are tokens

abbrev AllTokens : List (List ℕ) → Type 0
AllTokens [] = Unit {0}
AllTokens (w ∷ ws) = (is_token w ≡ true) × AllTokens ws

all_append : (vs ws : List (List ℕ)) → AllTokens vs → AllTokens ws → AllTokens (vs ++ ws)
all_append [] ws a b = b
all_append (v ∷ vs) ws a b = (a.0, all_append vs ws a.1 b)

all_back : (vs ws : List (List ℕ)) → AllTokens (vs ++ ws) → AllTokens ws
all_back [] ws a = a
all_back (v ∷ vs) ws a = all_back vs ws a.1

sign_token : (o : Operator) → is_token (sign o) ≡ true
sign_token op.Or = refl
sign_token op.And = refl
sign_token op.Equal = refl
sign_token op.NotEqual = refl
sign_token op.Less = refl
sign_token op.LessOrEqual = refl
sign_token op.Greater = refl
sign_token op.GreaterOrEqual = refl
sign_token op.Plus = refl
sign_token op.Minus = refl
sign_token op.Join = refl
sign_token op.Times = refl
sign_token op.Over = refl

call_all : (w : List ℕ) (ps : List (List ℕ)) → is_token w ≡ true → AllTokens ps → AllTokens (call w ps)
call_all w ps t h = (t, (refl, all_append ps (codes ")" ∷ []) h (refl, tt)))

phrase_tokens : (p : Phrase) → IsPhrase p → AllTokens (tokens p)
phrase_tokens (number w) h = (token_number w h, tt)
phrase_tokens (text w) h = (token_text w h, tt)
phrase_tokens (name w) h = (token_word w (name_word w (column_plain w h)), tt)
phrase_tokens (parens p) h = (refl, all_append (tokens p) (codes ")" ∷ []) (phrase_tokens p h) (refl, tt))
phrase_tokens (abs p) h = call_all (codes "abs") (tokens p) refl (phrase_tokens p h)
phrase_tokens (len p) h = call_all (codes "length") (tokens p) refl (phrase_tokens p h)
phrase_tokens (scale p w) h =
    call_all (codes "scale") (tokens p ++ codes "," ∷ w ∷ []) refl
    (all_append (tokens p) (codes "," ∷ w ∷ []) (phrase_tokens p h.0) (refl, (token_number w (scale_number w h.1).0, tt)))
phrase_tokens (coalesce p q) h =
    call_all (codes "coalesce") (tokens p ++ codes "," ∷ tokens q) refl (all_append (tokens p) (codes "," ∷ tokens q) (phrase_tokens p h.0) (refl, phrase_tokens q h.1))
phrase_tokens (choice p q r) h =
    call_all (codes "if") (tokens p ++ codes "," ∷ (tokens q ++ codes "," ∷ tokens r)) refl
    (all_append (tokens p) (codes "," ∷ (tokens q ++ codes "," ∷ tokens r)) (phrase_tokens p h.0)
    (refl, all_append (tokens q) (codes "," ∷ tokens r) (phrase_tokens q h.1) (refl, phrase_tokens r h.2)))
phrase_tokens (joined o p q) h = all_append (tokens p) (sign o ∷ tokens q) (phrase_tokens p h.2) (sign_token o, phrase_tokens q h.3)
phrase_tokens (denied p) h = (refl, phrase_tokens p h.1)
phrase_tokens (negated p) h = (refl, phrase_tokens p h.1)
phrase_tokens (is_null p) h = all_append (tokens p) (codes "is" ∷ codes "null" ∷ []) (phrase_tokens p h.1) (refl, (refl, tt))
phrase_tokens (is_not_null p) h = all_append (tokens p) (codes "is" ∷ codes "not" ∷ codes "null" ∷ []) (phrase_tokens p h.1) (refl, (refl, (refl, tt)))

-- tokens with a space before each

spaced : List (List ℕ) → List ℕ
spaced [] = []
spaced (w ∷ ws) = 32 ∷ (w ++ spaced ws)

stops_spaced : (c : ℕ) (cs : List ℕ) (ws : List (List ℕ)) → is_token (c ∷ cs) ≡ true → Stops (c ∷ cs) (spaced ws)
unfolding spaced
stops_spaced c cs [] h = tt
stops_spaced c cs (v ∷ ws) h = no_space c cs h

longest_spaced : (w : List ℕ) (ws : List (List ℕ)) → is_token w ≡ true → IsLongest w (spaced ws)
longest_spaced [] ws h = absurd (false≢true h)
longest_spaced (c ∷ cs) ws h = longest_from_stops c cs (spaced ws) (stops_spaced c cs ws h)

spaced_reads : (ws : List (List ℕ)) → AllTokens ws → Reads ws (spaced ws) []
unfolding spaced
spaced_reads [] h = refl
spaced_reads (w ∷ ws) h = (32 ∷ [], spaced ws, refl, refl, h.0, longest_spaced w ws h.0, spaced_reads ws h.1)

-- where a reading stands

abbrev Begun : State → List ℕ → Type 0
Begun s [] = Unit {0}
Begun s (c ∷ cs) = begins s (c ∷ cs) ≡ true

begun_from : (s : State) (u : List ℕ) → begins s u ≡ true → Begun s u
begun_from s [] h = tt
begun_from s (c ∷ cs) h = h

-- the front is read into the state, and these bytes of a token
pub record Reached (s : State) (u front : List ℕ) : Type 0 where
  pub words : List (List ℕ)
  pub strictly : Holds true s words
  pub loosely : Holds false s words
  pub first : Begun s u
  pub onward : (w : List ℕ) (more : List (List ℕ)) (after rest : List ℕ) → Reads (w ∷ more) (u ++ after) rest → Reads (words ++ w ∷ more) (front ++ (u ++ after)) rest
  pub last : (spaces : List ℕ) → u ≡ [] → AreSpaces spaces → Spells words (front ++ spaces)
  pub ran : (more : List (List ℕ)) → go true start (words ++ more) ≡ go true s more

-- the same where no token has begun, and this byte comes next
pub record Ready (s : State) (front : List ℕ) (b : ℕ) : Type 0 where
  pub words : List (List ℕ)
  pub strictly : Holds true s words
  pub loosely : Holds false s words
  pub onward : (w : List ℕ) (more : List (List ℕ)) (after rest : List ℕ) → Reads (w ∷ more) (b ∷ after) rest → Reads (words ++ w ∷ more) (front ++ b ∷ after) rest
  pub last : (spaces : List ℕ) → AreSpaces (b ∷ spaces) → Spells words (front ++ b ∷ spaces)
  pub ran : (more : List (List ℕ)) → go true start (words ++ more) ≡ go true s more

pub reached_start : Reached start [] []
reached_start = record {
  words = [];
  strictly = (refl, λ d. omega arith);
  loosely = (refl, λ d. omega arith);
  first = tt;
  onward = λ w more after rest reads. reads;
  last = λ spaces none blank. (spaces, blank, refl);
  ran = λ more. refl;
}

pub ready_between : (s : State) (front : List ℕ) (b : ℕ) → Reached s [] front → Ready s front b
ready_between s front b r = record {
  words = r.words;
  strictly = r.strictly;
  loosely = r.loosely;
  onward = λ w more after rest reads. r.onward w more (b ∷ after) rest reads;
  last = λ spaces blank. r.last (b ∷ spaces) refl blank;
  ran = r.ran;
}

pub regroup_bytes : (front u x : List ℕ) → front ++ (u ++ x) ≡ (front ++ u) ++ x
regroup_bytes front u x = sym (append_assoc front u x)

pub regroup_words : (ws more : List (List ℕ)) (w : List ℕ) → ws ++ w ∷ more ≡ (ws ++ w ∷ []) ++ more
regroup_words ws more w = simp append_assoc

pub reads_at : (ws vs : List (List ℕ)) (one other rest : List ℕ) → ws ≡ vs → one ≡ other → Reads ws one rest → Reads vs other rest
reads_at ws vs one other rest e d h = subst (λ v. Reads v other rest) e (subst (λ t. Reads ws t rest) d h)

-- the token is whole, and the byte is none of its
one_more : (c b : ℕ) (cs : List ℕ) (more : List (List ℕ)) (after rest : List ℕ) → is_token (c ∷ cs) ≡ true → continues (c ∷ cs) b ≡ false
    → Reads more (b ∷ after) rest → Reads ((c ∷ cs) ∷ more) ((c ∷ cs) ++ b ∷ after) rest
one_more c b cs more after rest token stop reads = ([], b ∷ after, refl, refl, token, longest_from_stops c cs (b ∷ after) stop, reads)

taken_run : (s t : State) (w : List ℕ) (more : List (List ℕ)) → takes s w ≡ Some t → beyond true w t ≡ None → go true s (w ∷ more) ≡ go true t more
taken_run s t w more h b = go_on true s t w more (rw h (rw b refl))

pub ready_token : (s t : State) (c b : ℕ) (cs front : List ℕ) → Reached s (c ∷ cs) front → takes s (c ∷ cs) ≡ Some t → beyond true (c ∷ cs) t ≡ None
    → continues (c ∷ cs) b ≡ false → Ready t (front ++ (c ∷ cs)) b
ready_token s t c b cs front r h inside stop =
    let w = c ∷ cs in
    let token = taken_token s t w h in
    record {
      words = r.words ++ w ∷ [];
      strictly = next_holds true s t r.words w r.strictly h (limits_from true w t inside);
      loosely = next_holds false s t r.words w r.loosely h (limits_from false w t refl);
      onward = λ v more after rest reads.
          reads_at (r.words ++ w ∷ v ∷ more) ((r.words ++ w ∷ []) ++ v ∷ more) (front ++ (w ++ b ∷ after)) ((front ++ w) ++ b ∷ after) rest
          (regroup_words r.words (v ∷ more) w) (regroup_bytes front w (b ∷ after))
          (r.onward w (v ∷ more) (b ∷ after) rest (one_more c b cs (v ∷ more) after rest token stop reads));
      last = λ spaces blank. (
        b ∷ spaces,
        blank,
        subst (λ t. Reads (r.words ++ w ∷ []) t (b ∷ spaces)) (regroup_bytes front w (b ∷ spaces))
            (r.onward w [] (b ∷ spaces) (b ∷ spaces) (one_more c b cs [] spaces (b ∷ spaces) token stop refl)),
      );
      ran = λ more. ap (go true start) (sym (regroup_words r.words more w)) ∙ r.ran (w ∷ more) ∙ taken_run s t w more h inside;
    }

spaces_before : (b : ℕ) (w : List ℕ) (more : List (List ℕ)) (after rest : List ℕ) → eqb b 32 ≡ true → Reads (w ∷ more) after rest → Reads (w ∷ more) (b ∷ after) rest
spaces_before b w more after rest space reads =
    (b ∷ reads.0, reads.1, and_from _ _ space reads.2, ap (λ t. b ∷ t) reads.3, reads.4, reads.5, reads.6)

pub reached_space : (t : State) (front : List ℕ) (b : ℕ) → eqb b 32 ≡ true → Ready t front b → Reached t [] (front ++ b ∷ [])
reached_space t front b space r = record {
  words = r.words;
  strictly = r.strictly;
  loosely = r.loosely;
  first = tt;
  onward = λ w more after rest reads.
      subst (λ t. Reads (r.words ++ w ∷ more) t rest) (regroup_bytes front (b ∷ []) after)
      (r.onward w more after rest (spaces_before b w more after rest space reads));
  last = λ spaces none blank. subst (Spells r.words) (regroup_bytes front (b ∷ []) spaces) (r.last spaces (and_from _ _ space blank));
  ran = r.ran;
}

pub reached_first : (t : State) (front : List ℕ) (b : ℕ) → begins t (b ∷ []) ≡ true → Ready t front b → Reached t (b ∷ []) front
reached_first t front b h r = record {
  words = r.words;
  strictly = r.strictly;
  loosely = r.loosely;
  first = h;
  onward = λ w more after rest reads. r.onward w more after rest reads;
  last = λ spaces none blank. absurd (let no : b ∷ [] ≡ [] = none in cc);
  ran = r.ran;
}

snoc_some : (u : List ℕ) (b : ℕ) → u ++ b ∷ [] ≡ [] → ⊥
snoc_some [] b h = cc
snoc_some (c ∷ cs) b h = let no : c ∷ (cs ++ b ∷ []) ≡ [] = h in cc

pub reached_longer : (s : State) (u front : List ℕ) (b : ℕ) → begins s (u ++ b ∷ []) ≡ true → Reached s u front → Reached s (u ++ b ∷ []) front
reached_longer s u front b h r = record {
  words = r.words;
  strictly = r.strictly;
  loosely = r.loosely;
  first = begun_from s (u ++ b ∷ []) h;
  onward = λ w more after rest reads.
      subst (λ t. Reads (r.words ++ w ∷ more) (front ++ t) rest) (regroup_bytes u (b ∷ []) after)
      (r.onward w more (b ∷ after) rest (subst (λ t. Reads (w ∷ more) t rest) (sym (regroup_bytes u (b ∷ []) after)) reads));
  last = λ spaces none blank. absurd (snoc_some u b none);
  ran = r.ran;
}

-- some text of the grammar begins so

goes_by : (front u bytes : List ℕ) (p : Phrase) → IsPhrase p → Spells (tokens p) (front ++ (u ++ bytes)) → GoesOn (front ++ u)
goes_by front u bytes p h s = (bytes, p, (h, subst (Spells (tokens p)) (regroup_bytes front u bytes) s))

goes_between : (s : State) (front : List ℕ) (r : Reached s [] front) (p : Phrase) (more : List (List ℕ)) → IsPhrase p → tokens p ≡ r.words ++ more → GoesOn (front ++ [])
goes_between s front r p [] h same =
    goes_by front [] [] p h (subst (λ ws. Spells ws (front ++ [])) (sym (same ∙ append-nil r.words)) (r.last [] refl refl))
goes_between s front r p (w ∷ more) h same =
    let all = all_back r.words (w ∷ more) (subst AllTokens same (phrase_tokens p h)) in
    goes_by front [] (spaced (w ∷ more)) p h
    ([], refl, subst (λ ws. Reads ws (front ++ spaced (w ∷ more)) []) (sym same) (r.onward w more (spaced (w ∷ more)) [] (spaced_reads (w ∷ more) all)))

goes_token : (s : State) (c : ℕ) (cs front : List ℕ) → Reached s (c ∷ cs) front → Ended s (c ∷ cs) → GoesOn (front ++ (c ∷ cs))
goes_token s c cs front r end =
    let u = c ∷ cs in
    let w = u ++ end.tail in
    let done = completed false end.next (r.words ++ w ∷ []) (next_holds false s end.next r.words w r.loosely end.taken (limits_from false w end.next refl)) in
    let same : tokens done.phrase ≡ r.words ++ w ∷ done.more = done.spelt ∙ sym (regroup_words r.words done.more w) in
    let all = all_back r.words (w ∷ done.more) (subst AllTokens same (phrase_tokens done.phrase done.is_phrase)) in
    let bytes = end.tail ++ spaced done.more in
    goes_by front u bytes done.phrase done.is_phrase (
      [],
      refl,
      subst (λ ws. Reads ws (front ++ (u ++ bytes)) []) (sym same)
          (r.onward w done.more bytes [] ([], spaced done.more, refl, regroup_bytes u end.tail (spaced done.more), all.0, longest_spaced w done.more all.0, spaced_reads done.more all.1)),
    )

pub goes : (s : State) (u front : List ℕ) → Reached s u front → GoesOn (front ++ u)
goes s [] front r = let done = completed false s r.words r.loosely in goes_between s front r done.phrase done.more done.is_phrase done.spelt
goes s (c ∷ cs) front r = goes_token s c cs front r (ended_of s (c ∷ cs) r.first)
