use Rattle.std.proofs.Common.{rules, sym, ◌+ℤ◌, ◌-◌, FitsSigned, w64}
use Rattle.std.specs.Int.{w128}
use Rattle.expr_lang.proofs.Units.{combined}
use Rattle.expr_lang.proofs.arithmetic.sum.Goals as goal

pub returns : goal.returns
returns c =
    let x = c.args.x in
    let y = c.args.y in
    let left = c.times_ten-left in
    let right = c.times_ten in
    let fx : FitsSigned w64 x.units = search rules in
    let fy : FitsSigned w64 y.units = search rules in
    let fl : FitsSigned w128 left.result = search rules in
    let fr : FitsSigned w128 right.result = search rules in
    rw (sym c.max-places.ensures)
    (combined ◌+ℤ◌ x.units y.units left.result right.result (c.max-places.result - x.places) (c.max-places.result - y.places) c.max-places.result _ fx fy fl fr left.ensures.value right.ensures.value c.added.ensures)
