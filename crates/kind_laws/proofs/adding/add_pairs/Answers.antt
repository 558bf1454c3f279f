use Rattle.std.proofs.Common.{◌≡◌, ◌∙◌, ◌+◌, ◌<◌, ◌++◌, ◌∷◌, [], List, ℕ, length, map, take, get_or, sym, ap}
use Rattle.std.proofs.lemmas.List.{map_more, map-append, append_assoc}
use Rattle.std.proofs.lemmas.Option.{get_or_from_slice_get}
use Rattle.tuple_schema.specs.Schemas.{Fits}
use Rattle.tuple_schema.specs.Tuples.{part}
use Rattle.list_algebra.specs.Bags.{Tuple}
use Rattle.list_algebra.specs.Joins.{together}
use Rattle.kind_laws.specs.Indexes.{row_at}
use Rattle.kind_laws.proofs.Rows.{fits-length}
use Rattle.kind_laws.proofs.Keyed.{within_row}
use Rattle.kind_laws.proofs.Added.{front_fits, back_fits}
use Rattle.kind_laws.proofs.adding.add_pairs.Goals as goal

pub add_row-requires : goal.add_row-requires
add_row-requires c = record {
  fits = rw c.loop-number.invariant.columns
      (front_fits c.args.made.now.columns c.loop-number.made.begun c.args.left.now (part c.row-right.result c.args.rest.now) c.loop-number.invariant.begun
      (c.requires.fits c.row-right.result c.row-right.ensures.fits));
}

pub add_places-requires-clause-within : goal.add_places-requires-clause-within
add_places-requires-clause-within c = within_row c.args.rights.now.columns c.row-right.result c.args.rest.now c.row-right.ensures.fits c.requires.rest

pub add_places-requires-clause-fits : goal.add_places-requires-clause-fits
add_places-requires-clause-fits c =
    let left : c.add_row.new.made.begun ≡ c.args.left.now = c.in_ok-add_row.ensures.begun ∙ ap (λ vs. vs ++ c.args.left.now) c.loop-number.invariant.begun in
    rw (c.in_ok-add_row.ensures.columns, c.loop-number.invariant.columns)
    (back_fits c.args.made.now.columns c.add_row.new.made.begun c.args.left.now (part c.row-right.result c.args.rest.now) left
    (c.requires.fits c.row-right.result c.row-right.ensures.fits))

pub end_row-requires : goal.end_row-requires
end_row-requires c =
    let left : c.add_row.new.made.begun ≡ c.args.left.now = c.in_ok-add_row.ensures.begun ∙ ap (λ vs. vs ++ c.args.left.now) c.loop-number.invariant.begun in
    let both : c.add_places.new.made.begun ≡ together c.args.rest.now c.args.left.now c.row-right.result =
    c.in_ok-add_places.ensures.begun ∙ ap (λ vs. vs ++ part c.row-right.result c.args.rest.now) left in
    let columns : c.add_places.new.made.columns ≡ c.args.made.now.columns =
    c.in_ok-add_places.ensures.columns ∙ c.in_ok-add_row.ensures.columns ∙ c.loop-number.invariant.columns in
    let fit : Fits c.args.made.now.columns (together c.args.rest.now c.args.left.now c.row-right.result) = c.requires.fits c.row-right.result c.row-right.ensures.fits in
    record { whole = ap length both ∙ sym (fits-length _ _ fit) ∙ ap length (sym columns) }

-- one pair more
pairs_more : (T : Tuple → Tuple) (rows : List Tuple) (numbers : List ℕ) (i : ℕ) (right : Tuple) → i < length numbers → row_at rows (get_or numbers i 0) ≡ right
    → map T (map (row_at rows) (take (i + 1) numbers)) ≡ map T (map (row_at rows) (take i numbers)) ++ T right ∷ []
pairs_more T rows numbers i right small is =
    ap (map T) (map_more (row_at rows) numbers i 0 small) ∙ map-append T (map (row_at rows) (take i numbers)) (row_at rows (get_or numbers i 0) ∷ [])
    ∙ ap (λ r. map T (map (row_at rows) (take i numbers)) ++ T r ∷ []) is

pub loop-number-preserved : goal.loop-number-preserved
loop-number-preserved c =
    let T : Tuple → Tuple = together c.args.rest.now c.args.left.now in
    let i = c.loop-number.number-index in
    let left : c.add_row.new.made.begun ≡ c.args.left.now = c.in_ok-add_row.ensures.begun ∙ ap (λ vs. vs ++ c.args.left.now) c.loop-number.invariant.begun in
    let both : c.add_places.new.made.begun ≡ T c.row-right.result =
    c.in_ok-add_places.ensures.begun ∙ ap (λ vs. vs ++ part c.row-right.result c.args.rest.now) left in
    let rows : c.add_places.new.made.rows ≡ c.args.made.now.rows ++ map T (map (row_at c.args.rights.now.rows) (take i c.args.numbers.now)) =
    c.in_ok-add_places.ensures.rows ∙ c.in_ok-add_row.ensures.rows ∙ c.loop-number.invariant.rows in
    let is = get_or_from_slice_get c.args.rights.now.rows _ c.row-right.result [] c.row-right.ensures.row in
    record {
      columns = c.in_ok-end_row.ensures.columns ∙ c.in_ok-add_places.ensures.columns ∙ c.in_ok-add_row.ensures.columns ∙ c.loop-number.invariant.columns;
      rows = c.in_ok-end_row.ensures.ok ∙ ap (λ rs. rs ++ c.add_places.new.made.begun ∷ []) rows
          ∙ ap (λ r. (c.args.made.now.rows ++ map T (map (row_at c.args.rights.now.rows) (take i c.args.numbers.now))) ++ r ∷ []) both
          ∙ append_assoc c.args.made.now.rows (map T (map (row_at c.args.rights.now.rows) (take i c.args.numbers.now))) (T c.row-right.result ∷ [])
          ∙ ap (λ rs. c.args.made.now.rows ++ rs) (sym (pairs_more T c.args.rights.now.rows c.args.numbers.now i c.row-right.result c.loop-number-test.true is));
      begun = c.in_ok-end_row.ensures.next;
    }
