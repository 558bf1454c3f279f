use Rattle.std.proofs.Common.{arith}
use Rattle.row_batch.proofs.Building.{begun_at, added}
use Rattle.row_batch.proofs.builder.BatchBuilder.add.Goals as goal

pub append_value-requires-clause-near : goal.append_value-requires-clause-near
append_value-requires-clause-near c =
    let near = (begun_at _ _ _ _ _ _ _ _ _ _ c.self.invariant c.self.view_is).near in
    let ok = c.self.inside.bytes.ok.0 in
    omega arith

pub invariant_of-self-2 : goal.invariant_of-self-2
invariant_of-self-2 c =
    (added _ _ _ _ _ _ _ _ _ _ _ _ _ _ c.self.invariant c.self.view_is c.requires.next c.requires.fits c.in_ok-append_value.ensures.encodable c.self.inside.bytes.ok.0 c.in_ok-append_value.ensures.bytes c.in_ok-append_value.ensures.place).built

pub returns-clause-ok : goal.returns-clause-ok
returns-clause-ok c =
    (added _ _ _ _ _ _ _ _ _ _ _ _ _ _ c.self.invariant c.self.view_is c.requires.next c.requires.fits c.in_ok-append_value.ensures.encodable c.self.inside.bytes.ok.0 c.in_ok-append_value.ensures.bytes c.in_ok-append_value.ensures.place).begun_are

pub returns-clause-rows : goal.returns-clause-rows
returns-clause-rows c =
    (added _ _ _ _ _ _ _ _ _ _ _ _ _ _ c.self.invariant c.self.view_is c.requires.next c.requires.fits c.in_ok-append_value.ensures.encodable c.self.inside.bytes.ok.0 c.in_ok-append_value.ensures.bytes c.in_ok-append_value.ensures.place).rows_are
