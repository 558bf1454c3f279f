use Rattle.std.proofs.Common.{◌≡◌, ◌<◌, ◌∙◌, ℕ, List, [], ◌∷◌, ◌++◌, length, map, take, get_or, slice_get, Some, Vec, Global, append-nil, true, refl, ap, sym, subst, arith}
use Rattle.std.proofs.lemmas.List.{append_assoc, length-map}
use Rattle.std.proofs.lemmas.Option.{slice_get_read, slice_get-get_or, slice_get_within, get_or_from_slice_get}
use Rattle.tuple_schema.specs.declared.value.Value.{Value}
use Rattle.tuple_schema.specs.declared.schema.Column.{Column}
use Rattle.tuple_schema.specs.Schemas.{Fits, is_of}
use Rattle.tuple_schema.specs.Tuples.{part}
use Rattle.list_algebra.specs.Bags.{Tuple}
use Rattle.list_algebra.specs.Groups.{members}
use Rattle.flow_types.specs.declared.node.Agg.TheVariants as agg
use Rattle.flow_types.specs.declared.node.Make.{Make}
use Rattle.kind_laws.specs.Indexes.{FitBehind, row_at}
use Rattle.kind_laws.specs.Makes.{made}
use Rattle.kind_laws.specs.Accumulators.{ReadsWithin, Stands, rows_of, value_held}
use Rattle.kind_laws.specs.Grouping.{AreHeld, IsGrouping, StandForAll, group_at, group_row}
use Rattle.kind_laws.specs.declared.making.Accumulator.{Accumulator}
use Rattle.kind_laws.proofs.Added.{front_fits, row_more}
use Rattle.kind_laws.proofs.Keyed.{within_row}
use Rattle.kind_laws.proofs.GroupsMade.{first_part}
use Rattle.kind_laws.proofs.GroupsHeld.{zip_long, each_at, each_long, stands_for, value_there, value_next}
use Rattle.kind_laws.proofs.aggregating.add_group.Goals as goal

abbrev none : Make
none = record { what = agg.Count; column = 0 }

abbrev items : List (Vec Accumulator Global) → List (List Accumulator)
items = map (λ (v : Vec Accumulator Global). v.items)

-- what is known of the accumulator of a make and a group
module _ (by : List ℕ) (makes : List Make) (rows : List Tuple) (group_of firsts : List ℕ) (is : IsGrouping by rows group_of firsts) (g : ℕ) (small : g < length firsts)
    (held : List (Vec Accumulator Global)) (are : AreHeld rows group_of (length firsts) makes (items held)) (k : ℕ) (within : k < length makes)
    (each : Vec Accumulator Global) (at : each ≡ get_or held k each) (one : Accumulator) (found : one ≡ get_or each.items g one)
  where
    abbrev make : Make
    make = get_or makes k none

    place_held : k < length held
    place_held =
        let long = zip_long (StandForAll rows group_of (length firsts)) makes (items held) are in
        let same = length-map held (λ (v : Vec Accumulator Global). v.items) in
        omega (arith, within, long, same)

    make_at : slice_get makes k ≡ Some make
    make_at = slice_get-get_or makes k none within

    items_at : slice_get (items held) k ≡ Some each.items
    items_at = each_at held k each place_held at

    one_at : slice_get each.items g ≡ Some one
    one_at =
        let counted = each_long by makes rows group_of firsts is g small (items held) are k make each.items make_at items_at in
        slice_get_read each.items (length each.items) g one refl (omega (arith, small, counted)) found

    one_stands : Stands make.what make.column rows one (rows_of group_of rows g)
    one_stands = stands_for by makes rows group_of firsts is g small (items held) are k make each.items make_at items_at one one_at

    abbrev values : List Value
    values = made makes (members by rows (group_at by rows g))

    one_gives : slice_get values k ≡ Some (value_held make.column rows one)
    one_gives = value_there by makes rows group_of firsts is g small (items held) are k make each.items make_at items_at one one_at

    one_next : (columns : List Column) → Fits columns (group_row by makes rows g)
        → (column : Column) × (slice_get columns (length (group_at by rows g ++ take k values)) ≡ Some column)
        × (is_of column.kind column.nullable (value_held make.column rows one) ≡ true)
    one_next = value_next by makes rows group_of firsts is g small (items held) are k make each.items make_at items_at one one_at

pub add_places-requires-clause-within : goal.add_places-requires-clause-within
add_places-requires-clause-within c = within_row c.args.rows.now.columns c.row.result c.args.by.now c.row.ensures.fits c.requires.within

-- the values of a row of a group, in the columns by which the rows are grouped, are the group's
same_part : (by : List ℕ) (rows : List Tuple) (firsts : List ℕ) (g n : ℕ) (row group : Tuple) → g < length firsts → n ≡ get_or firsts g n → slice_get rows n ≡ Some row
    → part (row_at rows (get_or firsts g 0)) by ≡ group → part row by ≡ group
same_part by rows firsts g n row group small at there is =
    let number : get_or firsts g 0 ≡ n = get_or_from_slice_get firsts g n 0 (slice_get_read firsts (length firsts) g n refl small at) in
    ap (λ r. part r by) (sym (get_or_from_slice_get rows n row [] there)) ∙ ap (λ m. part (row_at rows m) by) (sym number) ∙ is

pub add_places-requires-clause-fits : goal.add_places-requires-clause-fits
add_places-requires-clause-fits c =
    let by = c.args.by.now in
    let rows = c.args.rows.now.rows in
    let firsts : List ℕ = c.args.groups.now.firsts.items in
    let g : ℕ = c.args.number in
    let same = same_part by rows firsts g c.index.result.now c.row.result (group_at by rows g) c.requires.number c.index.ensures c.row.ensures.row
    (first_part by rows c.args.groups.now.group_of.items firsts c.requires.groups g c.requires.number) in
    subst (FitBehind c.args.made.now.columns c.args.made.now.begun) (sym same)
    (front_fits c.args.made.now.columns c.args.made.now.begun (group_at by rows g) (made c.args.makes.now (members by rows (group_at by rows g))) c.requires.begins c.requires.fits)

pub loop-place-init : goal.loop-place-init
loop-place-init c =
    let by = c.args.by.now in
    let rows = c.args.rows.now.rows in
    let firsts : List ℕ = c.args.groups.now.firsts.items in
    let g : ℕ = c.args.number in
    let same = same_part by rows firsts g c.index.result.now c.row.result (group_at by rows g) c.requires.number c.index.ensures c.row.ensures.row
    (first_part by rows c.args.groups.now.group_of.items firsts c.requires.groups g c.requires.number) in
    record {
      columns = refl;
      rows = refl;
      begun = c.in_ok-add_places.ensures.begun ∙ ap (λ vs. vs ++ part c.row.result by) c.requires.begins ∙ same ∙ sym (append-nil (group_at by rows g));
    }

pub bounds-held-place : goal.bounds-held-place
bounds-held-place c =
    let makes : List Make = c.args.makes.now in
    let held : List (Vec Accumulator Global) = c.args.held.now in
    let long = zip_long (StandForAll c.args.rows.now.rows c.args.groups.now.group_of.items (length c.args.groups.now.firsts.items)) makes (items held) c.requires.held in
    let same = length-map held (λ (v : Vec Accumulator Global). v.items) in
    omega (arith, c.loop-place-test.true, long, same)

pub index-requires-in-loop-place : goal.index-requires-in-loop-place
index-requires-in-loop-place c =
    let by = c.args.by.now in
    let rows = c.args.rows.now.rows in
    let makes : List Make = c.args.makes.now in
    let held : List (Vec Accumulator Global) = c.args.held.now in
    let group_of : List ℕ = c.args.groups.now.group_of.items in
    let firsts : List ℕ = c.args.groups.now.firsts.items in
    let k : ℕ = c.loop-place.place in
    let long = zip_long (StandForAll rows group_of (length firsts)) makes (items held) c.requires.held in
    let same = length-map held (λ (v : Vec Accumulator Global). v.items) in
    let there : k < length held = omega (arith, c.loop-place-test.true, long, same) in
    let also = each_at held k c.index-held-place.result there c.index-held-place.is in
    let counted = each_long by makes rows group_of firsts c.requires.groups c.args.number c.requires.number (items held) c.requires.held k (get_or makes k none)
    c.index-held-place.result.items (slice_get-get_or makes k none c.loop-place-test.true) also in
    omega (arith, c.requires.number, counted, c.index-held-place.result.ok.0)

pub add_value-requires-clause-column : goal.add_value-requires-clause-column
add_value-requires-clause-column c =
    let stands = one_stands c.args.by.now c.args.makes.now c.args.rows.now.rows c.args.groups.now.group_of.items c.args.groups.now.firsts.items c.requires.groups c.args.number c.requires.number
    c.args.held.now c.requires.held c.loop-place.place c.loop-place-test.true c.index-held-place.result c.index-held-place.is c.index-in-loop-place.result.now c.index-in-loop-place.ensures in
    subst (λ what. ReadsWithin (length c.args.rows.now.columns) what (get_or c.args.makes.now c.loop-place.place none).column) (sym stands.is_for)
    (c.requires.columns c.loop-place.place none c.loop-place-test.true)

pub add_value-requires-clause-within : goal.add_value-requires-clause-within
add_value-requires-clause-within c =
    let stands = one_stands c.args.by.now c.args.makes.now c.args.rows.now.rows c.args.groups.now.group_of.items c.args.groups.now.firsts.items c.requires.groups c.args.number c.requires.number
    c.args.held.now c.requires.held c.loop-place.place c.loop-place-test.true c.index-held-place.result c.index-held-place.is c.index-in-loop-place.result.now c.index-in-loop-place.ensures in
    stands.within

pub add_value-requires-clause-next : goal.add_value-requires-clause-next
add_value-requires-clause-next c =
    let column = one_next c.args.by.now c.args.makes.now c.args.rows.now.rows c.args.groups.now.group_of.items c.args.groups.now.firsts.items c.requires.groups c.args.number c.requires.number
    c.args.held.now c.requires.held c.loop-place.place c.loop-place-test.true c.index-held-place.result c.index-held-place.is c.index-in-loop-place.result.now c.index-in-loop-place.ensures
    c.args.made.now.columns c.requires.fits in
    rw (c.loop-place.invariant.columns, c.in_ok-add_places.ensures.columns, c.loop-place.invariant.begun) (slice_get_within _ _ column.0 column.1)

pub add_value-requires-clause-fits : goal.add_value-requires-clause-fits
add_value-requires-clause-fits c =
    let column = one_next c.args.by.now c.args.makes.now c.args.rows.now.rows c.args.groups.now.group_of.items c.args.groups.now.firsts.items c.requires.groups c.args.number c.requires.number
    c.args.held.now c.requires.held c.loop-place.place c.loop-place-test.true c.index-held-place.result c.index-held-place.is c.index-in-loop-place.result.now c.index-in-loop-place.ensures
    c.args.made.now.columns c.requires.fits in
    rw (c.loop-place.invariant.columns, c.in_ok-add_places.ensures.columns, c.loop-place.invariant.begun, column.1) column.2

pub loop-place-preserved : goal.loop-place-preserved
loop-place-preserved c =
    let by = c.args.by.now in
    let rows = c.args.rows.now.rows in
    let makes : List Make = c.args.makes.now in
    let k : ℕ = c.loop-place.place in
    let group = group_at by rows c.args.number in
    let values : List Value = made makes (members by rows group) in
    let value : Value = value_held (get_or makes k none).column rows c.index-in-loop-place.result.now in
    let gives = one_gives c.args.by.now c.args.makes.now c.args.rows.now.rows c.args.groups.now.group_of.items c.args.groups.now.firsts.items c.requires.groups c.args.number c.requires.number
    c.args.held.now c.requires.held c.loop-place.place c.loop-place-test.true c.index-held-place.result c.index-held-place.is c.index-in-loop-place.result.now c.index-in-loop-place.ensures in
    record {
      columns = c.in_ok-add_value.ensures.columns ∙ c.loop-place.invariant.columns;
      rows = c.in_ok-add_value.ensures.rows ∙ c.loop-place.invariant.rows;
      begun = c.in_ok-add_value.ensures.ok ∙ ap (λ vs. vs ++ value ∷ []) c.loop-place.invariant.begun ∙ append_assoc group (take k values) (value ∷ [])
          ∙ ap (λ vs. group ++ vs) (sym (row_more values k value gives));
    }
