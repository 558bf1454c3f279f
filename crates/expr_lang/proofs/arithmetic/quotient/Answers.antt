use Rattle.std.proofs.Common.{rules, ap, of_z, FitsSigned, w64}
use Rattle.std.specs.Int.{w128}
use Rattle.expr_lang.proofs.Units.{divided_is}
use Rattle.expr_lang.proofs.arithmetic.quotient.Goals as goal

pub returns : goal.returns
returns c =
    let x = c.args.x in
    let y = c.args.y in
    let fx : FitsSigned w64 x.units = search rules in
    let fy : FitsSigned w64 y.units = search rules in
    let fa : FitsSigned w128 c.times_ten.result = search rules in
    divided_is x.units y.units c.times_ten.result y.places x.places _ fx fy fa (λ e. c.if-y-eq0.false (ap (of_z w64) e)) c.times_ten.ensures.value c.divided.ensures
