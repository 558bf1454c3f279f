use Rattle.std.proofs.Common.{◌∙◌, [], inr, false, ℕ, List, subst, refl}
use Rattle.std.proofs.lemmas.Result.{on_ok_weaker}
use Rattle.commit_disk.specs.Table.{Holds, IsNotMade}
use Rattle.commit_disk.specs.Gate.{OpensGate}
use Rattle.commit_disk.proofs.Tables.{made}
use Rattle.outside.specs.Moments.{in_words, pass_on}
use Rattle.commit_disk.proofs.Crashes.{leaves_made}
use Rattle.commit_disk.proofs.journal.write_head.Goals as goal

pub returns-clause-done : goal.returns-clause-done
returns-clause-done g c =
    on_ok_weaker c.open_gate.result
    (λ opened honest text short is.
    let closed = c.in_ok-close_made_gate.ensures.closed honest in
    let Opens : List ℕ → Type 0 = λ behind. OpensGate 0 behind (g.K.Disk.state c.close_made_gate.new.disk).file (g.K.Disk.state c.open_gate.new.disk).file in
    made _ _ _ text short refl closed (subst Opens is (opened (c.in_ok-close_made_gate.ensures.elapses.honest ∙ honest))))
    c.open_gate.ensures.opened

pub returns-in_err-close_made_gate-clause-passes : goal.returns-in_err-close_made_gate-clause-passes
returns-in_err-close_made_gate-clause-passes g c = λ honest settled not_made text short is.
    in_words _ _ IsNotMade (λ image. Holds image text [] false) _ _ (λ image it. it) (λ image none. absurd none) (c.close_made_gate.ensures.passes honest settled not_made)

pub returns-clause-passes : goal.returns-clause-passes
returns-clause-passes g c = λ honest settled not_made text short is.
    let after = λ (image : List ℕ). Holds image text [] false in
    let still_honest = c.in_ok-close_made_gate.ensures.elapses.honest ∙ honest in
    let still_settled = c.in_ok-close_made_gate.ensures.settled honest settled in
    let closed = c.in_ok-close_made_gate.ensures.closed honest in
    let file = (g.K.Disk.state c.close_made_gate.new.disk).file in
    let closes = in_words _ _ IsNotMade after _ _ (λ image it. it) (λ image none. absurd none) (c.close_made_gate.ensures.passes honest settled not_made) in
    let opens = in_words _ _ IsNotMade after _ _ (λ image keeps. inr keeps.gate.closed)
    (λ image opens. inr (leaves_made text file image short closed (subst (λ (behind : List ℕ). OpensGate 0 behind file image) is opens)))
    (c.open_gate.ensures.passes still_honest still_settled closed) in
    pass_on IsNotMade after _ _ _ honest c.close_made_gate.ensures.elapses c.open_gate.ensures.elapses closes opens
