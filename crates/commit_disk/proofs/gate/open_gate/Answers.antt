use Rattle.std.proofs.Common.{◌∙◌, inl}
use Rattle.std.proofs.lemmas.Result.{on_ok_weaker}
use Rattle.commit_disk.specs.Gate.{KeepsClosed, OpensGate}
use Rattle.commit_disk.proofs.Gates.{opens_gate}
use Rattle.outside.specs.Moments.{in_words, pass_on}
use Rattle.commit_disk.proofs.Torn.{kept-same, torn_behind, written_behind, torn_gate}
use Rattle.commit_disk.proofs.gate.open_gate.Goals as goal

pub returns-clause-opened : goal.returns-clause-opened
returns-clause-opened g c =
    on_ok_weaker c.write_safely-2.result
    (λ wrote honest. opens_gate _ _ _ _ _ (c.in_ok-write_safely.ensures.wrote.file honest) (wrote.file (c.in_ok-write_safely.ensures.elapses.honest ∙ honest)))
    c.write_safely-2.ensures.wrote

pub returns-in_err-write_safely-clause-passes : goal.returns-in_err-write_safely-clause-passes
returns-in_err-write_safely-clause-passes g c = λ honest settled closed.
    in_words _ _ _ _ _ _ (λ image is. kept-same _ _ image closed is) (λ image torn. inl (torn_behind _ _ _ image closed torn)) (c.write_safely.ensures.passes honest settled)

pub returns-clause-passes : goal.returns-clause-passes
returns-clause-passes g c = λ honest settled closed.
    let old = (g.K.Disk.state c.args.disk.now).file in
    let staged = c.in_ok-write_safely.ensures.wrote.file honest in
    let honest_staged = c.in_ok-write_safely.ensures.elapses.honest ∙ honest in
    let before = KeepsClosed c.args.gate old in
    let after = OpensGate c.args.gate c.args.behind.now old in
    let behind = in_words _ _ before after _ _ (λ image is. kept-same _ _ image closed is) (λ image torn. inl (torn_behind _ _ _ image closed torn)) (c.write_safely.ensures.passes honest settled) in
    let gate = in_words _ _ before after _ _ (λ image is. written_behind _ _ _ image closed (is ∙ staged)) (λ image torn. torn_gate _ _ _ _ image closed staged torn)
    (c.write_safely-2.ensures.passes honest_staged (c.in_ok-write_safely.ensures.settled honest)) in
    pass_on before after _ _ _ honest c.write_safely.ensures.elapses c.write_safely-2.ensures.elapses behind gate
