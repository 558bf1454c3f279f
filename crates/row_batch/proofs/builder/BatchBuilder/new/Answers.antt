use Rattle.std.proofs.Common.{◌≤◌, List, length, subst, rules}
use Rattle.tuple_schema.specs.declared.schema.Column.{Column}
use Rattle.row_batch.proofs.Building.{none_built}
use Rattle.row_batch.proofs.builder.BatchBuilder.new.Goals as goal

pub invariant_of-result : goal.invariant_of-result
invariant_of-result c =
    let few = subst (λ (cs : List Column). length cs ≤ 64) c.schema.view_is c.schema.invariant.few in
    (none_built c.in_ok-schema.schema c.new.result.items c.push.new.self.items c.push-2.new.self.items few (search rules) (search rules) (search rules)).built

pub returns-clause-empty : goal.returns-clause-empty
returns-clause-empty c =
    let few = subst (λ (cs : List Column). length cs ≤ 64) c.schema.view_is c.schema.invariant.few in
    (none_built c.in_ok-schema.schema c.new.result.items c.push.new.self.items c.push-2.new.self.items few (search rules) (search rules) (search rules)).rows_are

pub returns-clause-begun : goal.returns-clause-begun
returns-clause-begun c =
    let few = subst (λ (cs : List Column). length cs ≤ 64) c.schema.view_is c.schema.invariant.few in
    (none_built c.in_ok-schema.schema c.new.result.items c.push.new.self.items c.push-2.new.self.items few (search rules) (search rules) (search rules)).begun_are
