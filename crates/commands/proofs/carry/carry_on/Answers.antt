use Rattle.commands.proofs.carry.carry_on.Goals as goal

pub returns-in-Dump : goal.returns-in-Dump
returns-in-Dump g c = rw c.in-Dump.is (c.dump.ensures (g.D.Depot.state c.args.depot.now))
