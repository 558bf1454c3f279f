use Rattle.std.proofs.Common.{◌∙◌, ℕ, List, Option, sym, subst}
use Rattle.commands.specs.declared.reason.Reason.{Reason}
use Rattle.commands.specs.Answers.{GainsLine, Notes}
use Rattle.commands.proofs.Told.{noted, no_memory}
use Rattle.commands.proofs.running.tell.Goals as goal

pub returns-in-Ok-clause-notes : goal.returns-in-Ok-clause-notes
returns-in-Ok-clause-notes g c = λ told line.
    let old = g.N.Sink.state c.args.notes.now in
    let new = g.N.Sink.state c.note.new.notes in
    subst (λ (reason : Option Reason). Notes told reason old new) (sym c.note.ensures.reason)
    (noted told c.args.refusal old new line
    (subst (λ (text : List ℕ). GainsLine text old new) (c.as_bytes.ensures ∙ c.in-Ok.ensures.text) c.note.ensures.gains))

pub returns-in-Err-clause-notes : goal.returns-in-Err-clause-notes
returns-in-Err-clause-notes g c = λ told line.
    let old = g.N.Sink.state c.args.notes.now in
    let new = g.N.Sink.state c.note-in-Err.new.notes in
    subst (λ (reason : Option Reason). Notes told reason old new) (sym c.note-in-Err.ensures.reason)
    (no_memory told old new (subst (λ (text : List ℕ). GainsLine text old new) c.as_bytes-in-Err.ensures.value c.note-in-Err.ensures.gains))
