use Rattle.std.proofs.Common.{◌≡◌, ◌∙◌, ℕ, take, drop, get_or, ap, sym, arith}
use Rattle.commit_disk.proofs.attaching.pass_gate.Goals as goal

pub returns-in-Err-clause-tells : goal.returns-in-Err-clause-tells
returns-in-Err-clause-tells g c = λ honest sized text way.
    let file = (g.K.Disk.state c.args.disk.now).file in
    let gate : c.gate-gate.result ≡ c.args.journal.now.gate = c.gate-gate.ensures.gate in
    let byte : get_or c.in_ok-head.head 0 0 ≡ get_or file c.args.journal.now.gate 0 = c.in_ok-head.ensures.gate honest (omega (arith, sized)) ∙ ap (λ (place : ℕ). get_or file place 0) gate in
    c.in-Err.ensures.tells file text
    (λ long. c.in_ok-head.ensures.bytes honest (omega (arith, sized)) (omega arith) ∙ ap (λ (place : ℕ). take 10 (drop place file)) gate)
    (sym byte ∙ c.if-head-ne-OPEN.false) (omega arith) way
