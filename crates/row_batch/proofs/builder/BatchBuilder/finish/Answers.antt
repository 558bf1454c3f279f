use Rattle.std.proofs.Common.{◌-◌, ap, ◌∙◌, arith}
use Rattle.row_batch.proofs.Building.{begun_at, finished}
use Rattle.row_batch.proofs.builder.BatchBuilder.finish.Goals as goal

pub overflow_sub-len : goal.overflow_sub-len
overflow_sub-len c =
    let places = (begun_at _ _ _ _ _ _ _ _ _ _ c.self.invariant c.self.view_is).places in
    let long = c.len.ensures ∙ c.self.inside.places.ok.0 in
    omega arith

pub overflow_sub-len-2 : goal.overflow_sub-len-2
overflow_sub-len-2 c =
    let places = (begun_at _ _ _ _ _ _ _ _ _ _ c.self.invariant c.self.view_is).places in
    let long = c.len.ensures ∙ c.self.inside.places.ok.0 in
    omega arith

pub invariant_of-result : goal.invariant_of-result
invariant_of-result c =
    let long = ap (λ n. n - c.self.inside.begun - 1) (c.len.ensures ∙ c.self.inside.places.ok.0) in
    (finished _ _ _ _ _ _ _ _ _ _ _ _ _ c.self.invariant c.self.view_is long c.truncate.ensures.items c.truncate-2.ensures.items).packed

pub returns-clause-rows : goal.returns-clause-rows
returns-clause-rows c =
    let long = ap (λ n. n - c.self.inside.begun - 1) (c.len.ensures ∙ c.self.inside.places.ok.0) in
    (finished _ _ _ _ _ _ _ _ _ _ _ _ _ c.self.invariant c.self.view_is long c.truncate.ensures.items c.truncate-2.ensures.items).rows_are
