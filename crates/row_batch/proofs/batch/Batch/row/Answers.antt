use Rattle.std.proofs.Common.{◌≤◌, ◌+◌, ◌*◌, length, Some, ap, sym, ◌∙◌, arith, rules}
use Rattle.std.specs.Prelude.{slice_range}
use Rattle.std.proofs.lemmas.Option.{slice_get-get_or}
use Rattle.row_batch.specs.Packing.{BatchOf}
use Rattle.row_batch.proofs.Packed.{row_seen, packed_row, view_row}
use Rattle.row_batch.proofs.batch.Batch.row.Goals as goal

pub index-from-requires : goal.index-from-requires
index-from-requires c =
    let at = row_seen _ _ _ _ _ _ _ _ _ c.self.invariant c.self.view_is c.columns-columns.ensures.same c.requires in
    let started = at.started in
    omega arith

pub index-to-requires : goal.index-to-requires
index-to-requires c =
    let at = row_seen _ _ _ _ _ _ _ _ _ c.self.invariant c.self.view_is c.columns-columns.ensures.same c.requires in
    let started = at.started in
    omega arith

pub slice_bounds-result-count : goal.slice_bounds-result-count
slice_bounds-result-count c =
    let at = row_seen _ _ _ _ _ _ _ _ _ c.self.invariant c.self.view_is c.columns-columns.ensures.same c.requires in
    (at.outer _ _ c.index-from.ensures c.index-to.ensures).ordered

pub slice_bounds-result-start : goal.slice_bounds-result-start
slice_bounds-result-start c =
    let at = row_seen _ _ _ _ _ _ _ _ _ c.self.invariant c.self.view_is c.columns-columns.ensures.same c.requires in
    let outer = at.outer _ _ c.index-from.ensures c.index-to.ensures in
    let ordered = outer.ordered in
    let within = outer.within in
    search rules

pub slice_bounds-result-end : goal.slice_bounds-result-end
slice_bounds-result-end c =
    let at = row_seen _ _ _ _ _ _ _ _ _ c.self.invariant c.self.view_is c.columns-columns.ensures.same c.requires in
    let outer = at.outer _ _ c.index-from.ensures c.index-to.ensures in
    let within : c.index-to.result.now ≤ length c.deref.result.now = rw c.deref.ensures.value outer.within in
    search rules

pub slice_bounds-result-end-2 : goal.slice_bounds-result-end-2
slice_bounds-result-end-2 c =
    let at = row_seen _ _ _ _ _ _ _ _ _ c.self.invariant c.self.view_is c.columns-columns.ensures.same c.requires in
    let within : c.args.i * (length c.columns-columns.result.now + 1) + (length c.columns-columns.result.now + 1) ≤ length c.deref-2.result.now = rw c.deref-2.ensures.value at.places.within in
    search rules

pub invariant_of-result : goal.invariant_of-result
invariant_of-result c =
    let at = row_seen _ _ _ _ _ _ _ _ _ c.self.invariant c.self.view_is c.columns-columns.ensures.same c.requires in
    let outer = at.outer _ _ c.index-from.ensures c.index-to.ensures in
    let bytes =
    ap (λ bs. slice_range bs c.index-from.result.now c.index-to.result.now) c.deref.ensures.value ∙ outer.cut in
    let places =
    ap (λ ps. slice_range ps (c.args.i * (length c.columns-columns.result.now + 1)) (c.args.i * (length c.columns-columns.result.now + 1) + (length c.columns-columns.result.now + 1))) c.deref-2.ensures.value
    ∙ at.places.cut in
    let few = c.columns-columns.ensures.schema.few in
    (packed_row _ _ _ _ (rw c.columns-columns.ensures.same few) at.row_is bytes places).1

pub returns-clause-row : goal.returns-clause-row
returns-clause-row c =
    let at = row_seen _ _ _ _ _ _ _ _ _ c.self.invariant c.self.view_is c.columns-columns.ensures.same c.requires in
    let outer = at.outer _ _ c.index-from.ensures c.index-to.ensures in
    let bytes =
    ap (λ bs. slice_range bs c.index-from.result.now c.index-to.result.now) c.deref.ensures.value ∙ outer.cut in
    let places =
    ap (λ ps. slice_range ps (c.args.i * (length c.columns-columns.result.now + 1)) (c.args.i * (length c.columns-columns.result.now + 1) + (length c.columns-columns.result.now + 1))) c.deref-2.ensures.value
    ∙ at.places.cut in
    let few = c.columns-columns.ensures.schema.few in
    slice_get-get_or c.args.self.now.rows c.args.i _ c.requires
    ∙ ap (λ r. Some r) (sym (packed_row _ _ _ _ (rw c.columns-columns.ensures.same few) at.row_is bytes places).0)

pub returns-clause-row_of : goal.returns-clause-row_of
returns-clause-row_of c =
    let at = row_seen _ _ _ _ _ _ _ _ _ c.self.invariant c.self.view_is c.columns-columns.ensures.same c.requires in
    let outer = at.outer _ _ c.index-from.ensures c.index-to.ensures in
    let bytes =
    ap (λ bs. slice_range bs c.index-from.result.now c.index-to.result.now) c.deref.ensures.value ∙ outer.cut in
    let columns = c.columns-columns.ensures.same ∙ ap (λ (b : BatchOf). b.columns) c.self.view_is in
    view_row _ _ _ _ at.row_is bytes columns

pub returns-clause-fits : goal.returns-clause-fits
returns-clause-fits c =
    let at = row_seen _ _ _ _ _ _ _ _ _ c.self.invariant c.self.view_is c.columns-columns.ensures.same c.requires in
    let outer = at.outer _ _ c.index-from.ensures c.index-to.ensures in
    let bytes =
    ap (λ bs. slice_range bs c.index-from.result.now c.index-to.result.now) c.deref.ensures.value ∙ outer.cut in
    let columns = c.columns-columns.ensures.same ∙ ap (λ (b : BatchOf). b.columns) c.self.view_is in
    (view_row _ _ _ _ at.row_is bytes columns).fits

pub overflow_add-i : goal.overflow_add-i
overflow_add-i c =
    let at = row_seen _ _ _ _ _ _ _ _ _ c.self.invariant c.self.view_is c.columns-columns.ensures.same c.requires in
    let started = at.started in
    let small = c.self.inside.starts.small in
    let ok = c.self.inside.starts.ok in
    search rules

pub overflow_mul-first : goal.overflow_mul-first
overflow_mul-first c =
    let at = row_seen _ _ _ _ _ _ _ _ _ c.self.invariant c.self.view_is c.columns-columns.ensures.same c.requires in
    let within = at.places.within in
    let small = c.self.inside.places.small in
    let ok = c.self.inside.places.ok in
    search rules

pub overflow_add-result : goal.overflow_add-result
overflow_add-result c =
    let at = row_seen _ _ _ _ _ _ _ _ _ c.self.invariant c.self.view_is c.columns-columns.ensures.same c.requires in
    let within = at.places.within in
    let small = c.self.inside.places.small in
    let ok = c.self.inside.places.ok in
    search rules

pub offset_bounds-deref-first : goal.offset_bounds-deref-first
offset_bounds-deref-first c =
    let at = row_seen _ _ _ _ _ _ _ _ _ c.self.invariant c.self.view_is c.columns-columns.ensures.same c.requires in
    let within : c.args.i * (length c.columns-columns.result.now + 1) + (length c.columns-columns.result.now + 1) ≤ length c.deref-2.result.now = rw c.deref-2.ensures.value at.places.within in
    search rules
