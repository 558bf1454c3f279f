use Rattle.std.proofs.Common.{◌≡◌, ◌∙◌, ℕ, List, ap, arith, subst}
use Rattle.commit_disk.specs.Buffer.{behind_gate}
use Rattle.commit_disk.specs.Gate.{OpensGate}
use Rattle.commit_disk.specs.Journal.{JournalState}
use Rattle.commit_disk.proofs.Tables.{commits}
use Rattle.commit_disk.proofs.Crashes.{block_passes, grows_by}
use Rattle.commit_disk.proofs.Leads.{passed_frame, len_of}
use Rattle.commit_disk.proofs.journal.Journal.add.Goals as goal

pub returns-clause-done : goal.returns-clause-done
returns-clause-done g c = λ honest block is.
    let gate : c.self.inside.gate ≡ c.args.self.now.gate = ap (λ (j : JournalState). j.gate) c.self.view_is in
    let Opens : ℕ → List ℕ → Type 0 = λ place behind. OpensGate place behind (g.K.Disk.state c.args.disk.now).file (g.K.Disk.state c.open_gate.new.disk).file in
    let opens = subst (Opens c.self.inside.gate) is.spelled (c.in_ok-open_gate.ensures.opened honest) in
    let next = ap (λ (j : JournalState). j.gate) c.pass.ensures ∙ (passed_frame _ c.args.head).0 in
    let len = len_of c.args.head block is.of_head in
    commits _ _ _ _ block is.allowed (omega (arith, next, len, gate)) (omega (arith, next, len, gate)) (subst (λ (place : ℕ). Opens place (behind_gate block)) gate opens)

pub returns-in_err-open_gate-clause-any_moment : goal.returns-in_err-open_gate-clause-any_moment
returns-in_err-open_gate-clause-any_moment g c = λ honest settled block is text blocks placed was.
    let gate : c.self.inside.gate ≡ c.args.self.now.gate = ap (λ (j : JournalState). j.gate) c.self.view_is in
    let len = len_of c.args.head block is.of_head in
    (block_passes _ _ _ _ _ _ block is.allowed gate is.spelled (omega (arith, len)) (c.open_gate.ensures.passes honest settled) text blocks placed was).either

pub returns-in_err-open_gate-clause-grows : goal.returns-in_err-open_gate-clause-grows
returns-in_err-open_gate-clause-grows g c = λ honest settled block is text blocks placed was.
    let gate : c.self.inside.gate ≡ c.args.self.now.gate = ap (λ (j : JournalState). j.gate) c.self.view_is in
    let len = len_of c.args.head block is.of_head in
    grows_by text _ _ blocks block placed (block_passes _ _ _ _ _ _ block is.allowed gate is.spelled (omega (arith, len)) (c.open_gate.ensures.passes honest settled) text blocks placed was)

pub returns-clause-any_moment : goal.returns-clause-any_moment
returns-clause-any_moment g c = λ honest settled block is text blocks placed was.
    let gate : c.self.inside.gate ≡ c.args.self.now.gate = ap (λ (j : JournalState). j.gate) c.self.view_is in
    let len = len_of c.args.head block is.of_head in
    (block_passes _ _ _ _ _ _ block is.allowed gate is.spelled (omega (arith, len)) (c.open_gate.ensures.passes honest settled) text blocks placed was).either

pub returns-clause-grows : goal.returns-clause-grows
returns-clause-grows g c = λ honest settled block is text blocks placed was.
    let gate : c.self.inside.gate ≡ c.args.self.now.gate = ap (λ (j : JournalState). j.gate) c.self.view_is in
    let len = len_of c.args.head block is.of_head in
    grows_by text _ _ blocks block placed (block_passes _ _ _ _ _ _ block is.allowed gate is.spelled (omega (arith, len)) (c.open_gate.ensures.passes honest settled) text blocks placed was)
