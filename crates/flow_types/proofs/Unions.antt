-- Columns of inputs that hold the same kinds, and the columns of their union.
use Rattle.std.proofs.Common.{◌≡◌, ◌∙◌, ℕ, zero, suc, ◌+◌, ◌<◌, List, [], ◌∷◌, ◌++◌, map, take, get_or, length, slice_get, Bool, true, false, ◌&&◌, All, refl, sym, ap, subst, Option, Some, None, arith}
use Rattle.std.specs.List.{list_all}
use Rattle.std.proofs.lemmas.Bool.{and_parts}
use Rattle.std.proofs.lemmas.List.{length-map}
use Rattle.std.proofs.lemmas.List.Folds.{list_any_at}
use Rattle.std.proofs.lemmas.List.Elements.{All-nil, All-cons, All-head, All-tail}
use Rattle.std.proofs.lemmas.Option.{slice_get_within}
use Rattle.tuple_schema.specs.declared.schema.Column.{Column}
use Rattle.tuple_schema.specs.Schemas.{IsSchema, HasScale, are_distinct}
use Rattle.expr_lang.specs.Kinds.{is_same_kind}
use Rattle.flow_types.specs.Names.{names_in}
use Rattle.flow_types.specs.United.{are_alike, may_be_null, any_nullable, united_column, united_from, AllGoInto}
use Rattle.flow_types.proofs.KeptTexts.{all_pass}
use Rattle.flow_types.proofs.Pairs.{same_kind}

-- ---- lists that hold the same kinds

pub unlike_lengths : (first other : List Column) → (length first ≡ length other → ⊥) → are_alike first other ≡ false
unlike_lengths [] [] differ = absurd (differ refl)
unlike_lengths [] (d ∷ ds) differ = refl
unlike_lengths (c ∷ cs) [] differ = refl
unlike_lengths (c ∷ cs) (d ∷ ds) differ =
    let rest : are_alike cs ds ≡ false = unlike_lengths cs ds (λ same. differ (ap suc same)) in
    nothing_both (is_same_kind c.kind d.kind) (are_alike cs ds) rest
  where
    nothing_both : (a b : Bool) → b ≡ false → (a && b) ≡ false
    nothing_both true b fails = fails
    nothing_both false b fails = refl

alike_kinds : (first other : List Column) → are_alike first other ≡ true → map (λ c. c.kind) first ≡ map (λ c. c.kind) other
alike_kinds [] [] alike = refl
alike_kinds [] (d ∷ ds) alike = absurd (cc)
alike_kinds (c ∷ cs) [] alike = absurd (cc)
alike_kinds (c ∷ cs) (d ∷ ds) alike =
    let parts = and_parts _ _ alike in
    rw (same_kind c.kind d.kind parts.0, alike_kinds cs ds parts.1) refl

-- ---- the columns of a union

module _ (inputs : List (List Column)) where
  united_more : (place : ℕ) (columns : List Column) (i : ℕ) (c : Column) → i < length columns → c ≡ get_or columns i c
      → united_from inputs place (take (i + 1) columns) ≡ united_from inputs place (take i columns) ++ united_column inputs (place + i) c ∷ []
  united_more place [] i c h is = absurd (omega arith)
  united_more place (x ∷ columns) zero c h is =
      let here : place + 0 ≡ place = omega arith in
      rw (is, here) refl
  united_more place (x ∷ columns) (suc i) c h is =
      let rest = united_more (suc place) columns i c (omega arith) is in
      let at : suc place + i ≡ place + suc i = omega arith in
      let more : suc i + 1 ≡ suc (i + 1) = omega arith in
      rw more (ap (λ cs. united_column inputs place x ∷ cs) (rest ∙ ap (λ p. united_from inputs (suc place) (take i columns) ++ united_column inputs p c ∷ []) at))

  pub united_next : (columns : List Column) (i : ℕ) (c : Column) → i < length columns → c ≡ get_or columns i c
      → united_from inputs 0 (take (i + 1) columns) ≡ united_from inputs 0 (take i columns) ++ united_column inputs i c ∷ []
  united_next columns i c h is =
      let here : 0 + i ≡ i = omega arith in
      united_more 0 columns i c h is ∙ ap (λ p. united_from inputs 0 (take i columns) ++ united_column inputs p c ∷ []) here

  names_united : (place : ℕ) (columns : List Column) → names_in (united_from inputs place columns) ≡ names_in columns
  names_united place [] = refl
  names_united place (c ∷ cs) = ap (λ ns. c.name ∷ ns) (names_united (suc place) cs)

  kinds_united : (place : ℕ) (columns : List Column) → map (λ c. c.kind) (united_from inputs place columns) ≡ map (λ c. c.kind) columns
  kinds_united place [] = refl
  kinds_united place (c ∷ cs) = ap (λ ks. c.kind ∷ ks) (kinds_united (suc place) cs)

  length-united : (place : ℕ) (columns : List Column) → length (united_from inputs place columns) ≡ length columns
  length-united place [] = refl
  length-united place (c ∷ cs) = ap suc (length-united (suc place) cs)

  -- what may be Null in an input may be in the union
  null_united : (place : ℕ) (columns : List Column) (k : ℕ) → k < length columns → may_be_null k (united_from inputs place columns) ≡ any_nullable inputs (place + k)
  null_united place [] k h = absurd (omega arith)
  null_united place (c ∷ cs) zero h = let here : place + 0 ≡ place = omega arith in rw here refl
  null_united place (c ∷ cs) (suc k) h =
      let at : suc place + k ≡ place + suc k = omega arith in
      null_united (suc place) cs k (omega arith) ∙ ap (any_nullable inputs) at

  scaled_united : (place : ℕ) (columns : List Column) → All (λ c. HasScale c.kind) columns → All (λ c. HasScale c.kind) (united_from inputs place columns)
  scaled_united place [] scaled = All-nil (λ c. HasScale c.kind)
  scaled_united place (c ∷ cs) scaled =
      All-cons (λ c. HasScale c.kind) (united_column inputs place c) (united_from inputs (suc place) cs) (All-head (λ c. HasScale c.kind) c cs scaled)
      (scaled_united (suc place) cs (All-tail (λ c. HasScale c.kind) c cs scaled))

  -- the columns of a union are a schema, as those of its first input are
  pub united_schema : (first : List Column) → IsSchema first → IsSchema (united_from inputs 0 first)
  united_schema first schema = record {
    some = rw (length-united 0 first) schema.some;
    few = rw (length-united 0 first) schema.few;
    distinct = subst (λ ns. are_distinct ns ≡ true) (sym (names_united 0 first)) schema.distinct;
    scaled = scaled_united 0 first schema.scaled;
  }

  there_within : (k : ℕ) (columns : List Column) → may_be_null k columns ≡ true → k < length columns
  there_within k columns null = by (slice_get columns k) refl
    where
      by : (o : Option Column) → slice_get columns k ≡ o → k < length columns
      by None none = let no : false ≡ true = rw none at null in absurd (cc)
      by (Some c) at = slice_get_within columns k c at

  -- inputs that are all like the first go into the union
  pub all_go : (first : List Column) → list_all (are_alike first) inputs ≡ true → AllGoInto inputs (united_from inputs 0 first)
  all_go first alike i d h =
      let input : List Column = get_or inputs i d in
      let kinds = alike_kinds first input (all_pass (are_alike first) inputs i d alike h) in
      let count : length first ≡ length input = sym (length-map first (λ c. c.kind)) ∙ (ap length kinds ∙ length-map input (λ c. c.kind)) in
      record {
        kinds = sym kinds ∙ sym (kinds_united 0 first);
        nulls = λ place null.
            let within = there_within place input null in
            let here : 0 + place ≡ place = omega arith in
            null_united 0 first place (omega (arith, count, within)) ∙ ap (any_nullable inputs) here ∙ list_any_at (may_be_null place) inputs i d h null;
      }
