use Rattle.std.proofs.Common.{◌≡◌, ◌+◌, ◌-◌, ℕ, drop, ap, sym, subst, arith}
use Rattle.commit_disk.specs.BlockHeads.{StandsIn}
use Rattle.commit_disk.proofs.Leads.{head_of, block_there, rows_there, gate_there, stands_there, head_there}
use Rattle.commit_disk.proofs.journal.Journal.block_at.Goals as goal

pub returns-then-head-ne-OPEN-clause-head : goal.returns-then-head-ne-OPEN-clause-head
returns-then-head-ne-OPEN-clause-head g c = λ honest block at.
    let there = block_there _ _ _ block at in
    let read = c.in_ok-head.ensures.bytes honest (omega (arith, there.within, c.gate-end.ensures.gate)) (omega (arith, there.fits, c.gate-end.ensures.gate)) in
    absurd (c.if-head-ne-OPEN.true (gate_there c.args.gate c.args.self.now.gate _ c.in_ok-head.head block at (omega arith) read))

pub returns-in-Some-clause-head : goal.returns-in-Some-clause-head
returns-in-Some-clause-head g c = λ honest block at.
    let there = block_there _ _ _ block at in
    let read = c.in_ok-head.ensures.bytes honest (omega (arith, there.within, c.gate-end.ensures.gate)) (omega (arith, there.fits, c.gate-end.ensures.gate)) in
    let room : c.gate-end.result + 1 - c.args.gate ≡ c.args.self.now.gate + 1 - c.args.gate = ap (λ (n : ℕ). n + 1 - c.args.gate) c.gate-end.ensures.gate in
    head_there c.args.gate c.args.self.now.gate _ c.in_ok-head.head block at (omega arith) read c.in-Some.block
    (subst (λ (n : ℕ). StandsIn n (drop 1 c.in_ok-head.head) c.in-Some.block) room c.in-Some.ensures)

pub returns-in-Some-clause-rows : goal.returns-in-Some-clause-rows
returns-in-Some-clause-rows g c = λ block at. rows_there c.args.gate c.args.self.now.gate _ block at

pub returns-in-None-clause-head : goal.returns-in-None-clause-head
returns-in-None-clause-head g c = λ honest block at.
    let there = block_there _ _ _ block at in
    let read = c.in_ok-head.ensures.bytes honest (omega (arith, there.within, c.gate-end.ensures.gate)) (omega (arith, there.fits, c.gate-end.ensures.gate)) in
    let room : c.gate-end.result + 1 - c.args.gate ≡ c.args.self.now.gate + 1 - c.args.gate = ap (λ (n : ℕ). n + 1 - c.args.gate) c.gate-end.ensures.gate in
    c.in-None.ensures (head_of block) (subst (λ (n : ℕ). StandsIn n (drop 1 c.in_ok-head.head) (head_of block)) (sym room)
    (stands_there c.args.gate c.args.self.now.gate _ c.in_ok-head.head block at (omega arith) read))
