use Rattle.std.proofs.Common.{List, ℕ, Some, None, ap}
use Rattle.commands.specs.Devices.{devices}
use Rattle.commands.specs.Found.{asked_of, flow_text_of}
use Rattle.commands.specs.Texts.{refusal_line}
use Rattle.commands.proofs.Begun.{refused, done}
use Rattle.commands.proofs.carry.carry_out.Goals as goal

pub returns-in-Err : goal.returns-in-Err
returns-in-Err g c = record {
  begins = refused (asked_of c.args.command) (g.D.Depot.state c.args.depot.now) (g.D.Depot.state c.find.new.depot) (g.K.Disk.state c.args.disk.now) (g.S.Sink.state c.args.out.now)
      c.in-Err.ensures.consults c.in-Err.ensures.served c.in-Err.refusal.reason c.in-Err.ensures.tells c.in-Err.ensures.causes;
  line = c.in-Err.ensures.line;
}

pub returns-in-Err-carry_on-clause-begins : goal.returns-in-Err-carry_on-clause-begins
returns-in-Err-carry_on-clause-begins g c =
    let old = devices (g.D.Depot.state c.args.depot.now) (g.K.Disk.state c.args.disk.now) (g.S.Sink.state c.args.out.now) in
    let new = devices (g.D.Depot.state c.carry_on.new.depot) (g.K.Disk.state c.carry_on.new.disk) (g.S.Sink.state c.carry_on.new.out) in
    done (asked_of c.args.command) (flow_text_of c.in-Ok.found) old (g.D.Depot.state c.find.new.depot) new (Some c.in-Err-carry_on.reason)
    c.in-Ok.ensures.consults c.in-Ok.ensures.served c.in-Ok.ensures.tells c.in-Err-carry_on.ensures

pub returns-in-Err-carry_on-clause-line : goal.returns-in-Err-carry_on-clause-line
returns-in-Err-carry_on-clause-line g c = λ files told. ap (λ (names : List (List ℕ)). refusal_line names c.in-Err-carry_on.reason) (c.in-Ok.ensures.named files told)

pub returns-in-Ok-carry_on-clause-begins : goal.returns-in-Ok-carry_on-clause-begins
returns-in-Ok-carry_on-clause-begins g c =
    let old = devices (g.D.Depot.state c.args.depot.now) (g.K.Disk.state c.args.disk.now) (g.S.Sink.state c.args.out.now) in
    let new = devices (g.D.Depot.state c.carry_on.new.depot) (g.K.Disk.state c.carry_on.new.disk) (g.S.Sink.state c.carry_on.new.out) in
    done (asked_of c.args.command) (flow_text_of c.in-Ok.found) old (g.D.Depot.state c.find.new.depot) new None
    c.in-Ok.ensures.consults c.in-Ok.ensures.served c.in-Ok.ensures.tells c.in-Ok-carry_on.ensures
