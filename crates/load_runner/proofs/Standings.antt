-- Rows that stand, and those that a load adds to them.
use Rattle.std.proofs.Common.{◌≡◌, ◌+◌, ℕ, List, [], ◌∷◌, ◌++◌, length, length-append, take, drop, Bool, true, false, IsTrue, inl, inr, refl, sym, ap, ◌∙◌, append_assoc, arith}
use Rattle.std.proofs.lemmas.List.{take_all, take-append-drop, append-nil}
use Rattle.std.proofs.Math.Seq.{drop-append_seam}
use Rattle.std.proofs.lemmas.Grind.{flat_map-append}
use Rattle.tuple_schema.specs.declared.value.Value.{Value}
use Rattle.table_write.specs.Cut.{together}
use Rattle.list_algebra.specs.Bags.{Tuple, multiplicity, SameBag}
use Rattle.flow_types.specs.Flows.{TypedFlow}
use Rattle.kind_laws.specs.Wholes.{Lists}
use Rattle.load_runner.specs.Missing.{IsAllMissing}
use Rattle.load_runner.specs.Standing.{Begins, Stands, IsAll}
use Rattle.load_runner.specs.Trimmed.{IsRest}
use Rattle.load_runner.specs.Histories.{Standing, nothing, IsStep, IsHistoryFrom, AllStandFrom}

pub begins_itself : (rows : List (List Value)) → Begins rows rows
begins_itself rows = record { others = []; whole_is = sym (append-nil rows) }

pub begins_longer : (rows more : List (List Value)) → Begins rows (rows ++ more)
begins_longer rows more = record { others = more; whole_is = refl }

pub begins_both : (first second third : List (List Value)) → Begins first second → Begins second third → Begins first third
begins_both first second third one two = record {
  others = one.others ++ two.others;
  whole_is = two.whole_is ∙ ap (λ rows. rows ++ two.others) one.whole_is ∙ append_assoc first one.others two.others;
}

-- the blocks behind so many are the rest
together-split : (blocks : List (List (List Value))) (count : ℕ) → together blocks ≡ together (take count blocks) ++ together (drop count blocks)
together-split blocks count =
    ap together (sym (take-append-drop count blocks)) ∙ flat_map-append (λ block. block) (take count blocks) (drop count blocks)

-- what is behind the rows with which the meaning begins
pub rest_behind : (whole committed : List (List Value)) → (begins : Begins committed whole) → drop (length committed) whole ≡ begins.others
rest_behind whole committed begins = ap (drop (length committed)) begins.whole_is ∙ drop-append_seam committed begins.others

-- how bags are counted
abbrev pub Appended : Type 0
Appended = (tuple : Tuple) (xs ys : List Tuple) → multiplicity tuple (xs ++ ys) ≡ multiplicity tuple xs + multiplicity tuple ys

abbrev pub Lengths : Type 0
Lengths = (xs ys : List Tuple) → SameBag xs ys → length xs ≡ length ys

-- rows with which the meaning begins stand for it, in whatever order it is
pub stands_of : Appended → (fixed : Bool) (whole rows : List Tuple) (ended : Bool) → Begins rows whole → (IsTrue ended → rows ≡ whole) → Stands fixed whole rows ended
stands_of appended fixed whole rows ended begins all = record {
  part = λ tuple.
      let is = ap (multiplicity tuple) begins.whole_is in
      let both = appended tuple rows begins.others in
      omega (arith, is, both);
  begins = λ _. begins;
  all = λ is tuple. ap (multiplicity tuple) (all is);
}

-- where the order is fixed, rows that stand in an ended table are all of the meaning, in its order
pub all_of_stands : Lengths → (fixed : Bool) (whole rows : List Tuple) → Stands fixed whole rows true → IsAll fixed whole rows
all_of_stands lengths fixed whole rows stands = record {
  bag = stands.all refl;
  list = λ is. sym (whole_of_begins (stands.begins is));
}
  where
    none_behind : (others : List Tuple) → length rows ≡ length rows + length others → others ≡ []
    none_behind [] same = refl
    none_behind (x ∷ others) same = absurd (omega (arith, same))

    whole_of_begins : Begins rows whole → whole ≡ rows
    whole_of_begins begins =
        let long : length whole ≡ length rows + length begins.others = ap length begins.whole_is ∙ length-append rows begins.others in
        let none = none_behind begins.others (lengths rows whole (stands.all refl) ∙ long) in
        begins.whole_is ∙ ap (λ others. rows ++ others) none ∙ append-nil rows

-- the committed rows, and behind them those that are missing
pub all_rows : (committed whole : List Tuple) → Begins committed whole → committed ++ drop (length committed) whole ≡ whole
all_rows committed whole begins = ap (λ rows. committed ++ rows) (rest_behind whole committed begins) ∙ sym begins.whole_is

pub all_missing : Appended → (fixed : Bool) (whole committed rest : List Tuple) → Begins committed whole → rest ≡ drop (length committed) whole → IsAllMissing fixed whole committed rest
all_missing appended fixed whole committed rest begins is =
    let whole_is : committed ++ rest ≡ whole = ap (λ rows. committed ++ rows) is ∙ all_rows committed whole begins in
    record {
      bag = λ tuple.
          let both = appended tuple committed rest in
          let same = ap (multiplicity tuple) whole_is in
          omega (arith, both, same);
      list = λ _. whole_is;
    }

-- rows that stand, and behind them the first blocks of those that are missing, stand
pub front_stands : Appended → (fixed : Bool) (whole committed : List Tuple) (blocks : List (List Tuple)) (count : ℕ) (ended : Bool)
    → Begins committed whole → drop (length committed) whole ≡ together blocks → (IsTrue ended → count ≡ length blocks)
    → Stands fixed whole (committed ++ together (take count blocks)) ended
front_stands appended fixed whole committed blocks count ended begins missing all =
    let whole_is : whole ≡ committed ++ together blocks = begins.whole_is ∙ ap (λ rows. committed ++ rows) (sym (rest_behind whole committed begins) ∙ missing) in
    stands_of appended fixed whole (committed ++ together (take count blocks)) ended
    (record {
      others = together (drop count blocks);
      whole_is = whole_is ∙ ap (λ rows. committed ++ rows) (together-split blocks count) ∙ sym (append_assoc committed (together (take count blocks)) (together (drop count blocks)));
    })
    (λ is_ended.
    let same : take count blocks ≡ blocks = take_all count blocks (omega (arith, all is_ended)) in
    ap (λ bs. committed ++ together bs) same ∙ sym whole_is)

module _ (appended : Appended) (flow : TypedFlow) (truth : Lists) (fixed : Bool) (is_fixed : IsTrue fixed) (whole : List Tuple)
    (rest_is : (committed rest : List Tuple) → IsRest flow truth committed rest → rest ≡ drop (length committed) whole) where
  step_stands : (before after : Standing) → Stands fixed whole before.rows before.ended → IsStep flow truth before after
      → Stands fixed whole after.rows after.ended × Begins before.rows after.rows
  step_stands before after stands (inl same) = rw same (stands, begins_itself before.rows)
  step_stands before after stands (inr adds) =
      let missing : drop (length before.rows) whole ≡ together adds.blocks = sym (rest_is before.rows adds.rest adds.trimmed) ∙ adds.cut.whole in
      let still = front_stands appended fixed whole before.rows adds.blocks adds.count after.ended (stands.begins is_fixed) missing adds.ended in
      rw adds.rows (still, begins_longer before.rows (together (take adds.count adds.blocks)))

  pub all_stand : (before : Standing) (standings : List Standing) → Stands fixed whole before.rows before.ended
      → IsHistoryFrom flow truth before standings → AllStandFrom fixed whole before standings
  all_stand before [] stands history = tt
  all_stand before (after ∷ others) stands history =
      let step = step_stands before after stands history.0 in
      (step.0, step.1, all_stand after others step.0 history.1)

pub nothing_stands : Appended → (fixed : Bool) (whole : List Tuple) → Stands fixed whole nothing.rows nothing.ended
nothing_stands appended fixed whole = stands_of appended fixed whole [] false (record { others = whole; whole_is = refl }) (λ ended. cc)
