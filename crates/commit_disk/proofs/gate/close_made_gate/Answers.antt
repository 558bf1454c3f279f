use Rattle.std.proofs.Common.{◌∙◌, inl, ℕ, List, sym, subst}
use Rattle.std.proofs.lemmas.Bool.{iff_false}
use Rattle.outside.specs.Moments.{in_words, pass_on}
use Rattle.commit_disk.specs.Table.{IsNotMade}
use Rattle.commit_disk.proofs.Crashes.{torn_unclosed}
use Rattle.commit_disk.proofs.gate.close_made_gate.Goals as goal

pub returns-in_err-is_made_gate_closed-clause-passes : goal.returns-in_err-is_made_gate_closed-clause-passes
returns-in_err-is_made_gate_closed-clause-passes g c = λ honest settled not_made.
    in_words _ _ IsNotMade (λ _. ⊥) _ _ (λ image is. subst IsNotMade (sym is) not_made) (λ image none. absurd none) (c.is_made_gate_closed.ensures.passes honest settled)

pub returns-then-branch-clause-passes : goal.returns-then-branch-clause-passes
returns-then-branch-clause-passes g c = λ honest settled not_made.
    in_words _ _ IsNotMade (λ _. ⊥) _ _ (λ image is. subst IsNotMade (sym is) not_made) (λ image none. absurd none) (c.is_made_gate_closed.ensures.passes honest settled)

pub returns-clause-passes : goal.returns-clause-passes
returns-clause-passes g c = λ honest settled not_made.
    let asked = c.is_made_gate_closed.ensures in
    let file = (g.K.Disk.state c.args.disk.now).file in
    let same = c.in_ok-is_made_gate_closed.ensures.keeps.file honest in
    let still = asked.elapses.honest ∙ honest in
    let still_settled = λ (image : List ℕ) (it : (g.K.Disk.state c.is_made_gate_closed.new.disk).may_leave image).
    settled image ((c.in_ok-is_made_gate_closed.ensures.keeps.images honest image).1 it) ∙ sym same in
    let unclosed = iff_false (c.in_ok-is_made_gate_closed.ensures.closed honest) c.if-branch.false in
    let before = in_words _ _ IsNotMade (λ _. ⊥) _ _ (λ image is. subst IsNotMade (sym is) not_made) (λ image none. absurd none) (asked.passes honest settled) in
    let written = in_words _ _ IsNotMade (λ _. ⊥) _ _ (λ image is. subst IsNotMade (sym (is ∙ same)) not_made)
    (λ image torn. inl (torn_unclosed file image not_made unclosed (rw same at torn)))
    (c.write_safely.ensures.passes still still_settled) in
    pass_on IsNotMade (λ _. ⊥) _ _ _ honest asked.elapses c.write_safely.ensures.elapses before written
