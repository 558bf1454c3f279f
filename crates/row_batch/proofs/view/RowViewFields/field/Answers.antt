use Rattle.std.proofs.Common.{Some, ap, sym, subst, ◌∙◌, rules}
use Rattle.tuple_schema.specs.Tuples.{IsShort}
use Rattle.row_batch.proofs.Fields.{field_is}
use Rattle.row_batch.proofs.view.RowViewFields.field.Goals as goal

pub bounds-places-i : goal.bounds-places-i
bounds-places-i c =
    let at = field_is _ _ _ _ _ _ c.self.invariant c.self.view_is c.requires in
    let small = at.small in
    let wide = at.wide in
    let narrow = at.narrow in
    search rules

pub bounds-places-i-2 : goal.bounds-places-i-2
bounds-places-i-2 c =
    let at = field_is _ _ _ _ _ _ c.self.invariant c.self.view_is c.requires in
    let small = at.small in
    let wide = at.wide in
    let narrow = at.narrow in
    search rules

pub offset_bounds-places-i : goal.offset_bounds-places-i
offset_bounds-places-i c =
    let at = field_is _ _ _ _ _ _ c.self.invariant c.self.view_is c.requires in
    let small = at.small in
    let wide = at.wide in
    let narrow = at.narrow in
    search rules

pub offset_bounds-places-i-2 : goal.offset_bounds-places-i-2
offset_bounds-places-i-2 c =
    let at = field_is _ _ _ _ _ _ c.self.invariant c.self.view_is c.requires in
    let small = at.small in
    let wide = at.wide in
    let narrow = at.narrow in
    search rules

pub overflow_add-to : goal.overflow_add-to
overflow_add-to c =
    let at = field_is _ _ _ _ _ _ c.self.invariant c.self.view_is c.requires in
    let small = at.small in
    let wide = at.wide in
    let narrow = at.narrow in
    search rules

pub offset_bounds-self-inside-i : goal.offset_bounds-self-inside-i
offset_bounds-self-inside-i c =
    let at = field_is _ _ _ _ _ _ c.self.invariant c.self.view_is c.requires in
    let small = at.small in
    let wide = at.wide in
    let narrow = at.narrow in
    search rules

pub bounds-self-inside-i : goal.bounds-self-inside-i
bounds-self-inside-i c =
    let at = field_is _ _ _ _ _ _ c.self.invariant c.self.view_is c.requires in
    let small = at.small in
    let wide = at.wide in
    let narrow = at.narrow in
    search rules

pub slice_bounds-read_cell-count : goal.slice_bounds-read_cell-count
slice_bounds-read_cell-count c = (field_is _ _ _ _ _ _ c.self.invariant c.self.view_is c.requires).cell.ordered

pub slice_bounds-read_cell-start : goal.slice_bounds-read_cell-start
slice_bounds-read_cell-start c =
    let at = field_is _ _ _ _ _ _ c.self.invariant c.self.view_is c.requires in
    let ordered = at.cell.ordered in
    let within = at.cell.within in
    search rules

pub slice_bounds-read_cell-end : goal.slice_bounds-read_cell-end
slice_bounds-read_cell-end c =
    let at = field_is _ _ _ _ _ _ c.self.invariant c.self.view_is c.requires in
    let within = at.cell.within in
    search rules

pub read_cell-requires : goal.read_cell-requires
read_cell-requires c =
    let at = field_is _ _ _ _ _ _ c.self.invariant c.self.view_is c.requires in
    (at.holds _ c.index-self-i.result at.cell.cut).cell

pub returns-clause-value : goal.returns-clause-value
returns-clause-value c =
    let at = field_is _ _ _ _ _ _ c.self.invariant c.self.view_is c.requires in
    at.here ∙ ap (λ v. Some v) (sym (c.read_cell.ensures ∙ (at.holds _ c.index-self-i.result at.cell.cut).read))

pub returns-clause-short : goal.returns-clause-short
returns-clause-short c =
    let at = field_is _ _ _ _ _ _ c.self.invariant c.self.view_is c.requires in
    subst IsShort (sym (c.read_cell.ensures ∙ (at.holds _ c.index-self-i.result at.cell.cut).read)) at.short
