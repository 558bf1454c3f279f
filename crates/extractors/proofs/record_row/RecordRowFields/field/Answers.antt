use Rattle.std.proofs.Common.{sym, ap, ◌∙◌, rules}
use Rattle.csv.proofs.RecordFacts.{field-there}
use Rattle.row_codec.specs.Fields.{field_value}
use Rattle.extractors.proofs.SourceLemmas.{field_of}
use Rattle.extractors.proofs.record_row.RecordRowFields.field.Goals as goal

pub unreachable-requires : goal.unreachable-requires
unreachable-requires c =
    let at = field_of _ _ _ _ c.self.invariant c.self.view_is c.requires in
    field-there _ _ at.in_fields (sym c.in_default.ensures.value)

pub offset_bounds-columns-i : goal.offset_bounds-columns-i
offset_bounds-columns-i c =
    let at = field_of _ _ _ _ c.self.invariant c.self.view_is c.requires in
    let small = at.small in
    search rules

pub bounds-columns-i : goal.bounds-columns-i
bounds-columns-i c = (field_of _ _ _ _ c.self.invariant c.self.view_is c.requires).in_columns

pub lend_field-requires : goal.lend_field-requires
lend_field-requires c =
    let at = field_of _ _ _ _ c.self.invariant c.self.view_is c.requires in
    rw c.index-columns-i.is (at.scaled c.index-columns-i.result)

pub unreachable-requires-in-Err : goal.unreachable-requires-in-Err
unreachable-requires-in-Err c =
    let at = field_of _ _ _ _ c.self.invariant c.self.view_is c.requires in
    let read =
    ap (λ k. field_value k c.in-Some.field.now) c.index-columns-i.is
    ∙ at.read c.index-columns-i.result c.in-Some.field.now (sym c.in-Some.ensures.value) in
    let refused = c.in-Err.ensures.value in
    cc (read, refused)

pub returns-clause-value : goal.returns-clause-value
returns-clause-value c =
    let at = field_of _ _ _ _ c.self.invariant c.self.view_is c.requires in
    let read =
    ap (λ k. field_value k c.in-Some.field.now) c.index-columns-i.is
    ∙ at.read c.index-columns-i.result c.in-Some.field.now (sym c.in-Some.ensures.value) in
    let given = c.in-Ok.ensures.value in
    at.here ∙ cc (read, given)
