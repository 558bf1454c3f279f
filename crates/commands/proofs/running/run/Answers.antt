use Rattle.std.proofs.Common.{refl, Some, None, map, string_bytes}
use Rattle.commands.proofs.Begun.{untouched}
use Rattle.commands.proofs.Kept.{begins_keeps, promised, unused}
use Rattle.commands.proofs.running.run.Goals as goal

pub returns-in-None-clause-ends : goal.returns-in-None-clause-ends
returns-in-None-clause-ends g c = record {
  ended = Some _;
  promised = unused (map string_bytes c.args.words.now) _ _ _ (rw c.in-None.is at c.command_in.ensures.command) (refl, untouched _);
  told = c.tell.ensures.told;
}

pub returns-in-None-clause-notes : goal.returns-in-None-clause-notes
returns-in-None-clause-notes g c = c.tell.ensures.notes _ (λ files told. refl)

pub returns-in-Ok : goal.returns-in-Ok
returns-in-Ok g c =
    let keeping = begins_keeps _ _ _ _ c.carry_out.ensures.begins in
    record {
      keeps = keeping.on;
      never_lost = keeping.nothing;
      ends = record {
        ended = None;
        promised = promised (map string_bytes c.args.words.now) _ _ _ _ (rw c.in-Some.is at c.command_in.ensures.command) (rw c.in-Ok.is at c.carry_out.ensures.begins);
        told = refl;
      };
      status = refl;
      notes = refl;
    }

pub returns-in-Err : goal.returns-in-Err
returns-in-Err g c =
    let keeping = begins_keeps _ _ _ _ c.carry_out.ensures.begins in
    record {
      keeps = keeping.on;
      never_lost = keeping.nothing;
      ends = record {
        ended = Some c.in-Err.refusal.reason;
        promised = promised (map string_bytes c.args.words.now) _ _ _ _ (rw c.in-Some.is at c.command_in.ensures.command) (rw c.in-Err.is at c.carry_out.ensures.begins);
        told = c.tell-in-Err.ensures.told;
      };
      status = c.tell-in-Err.ensures.status;
      notes = c.tell-in-Err.ensures.notes _ c.in-Err.ensures.line;
    }
