use Rattle.std.proofs.Common.{length, map, take}
use Rattle.kind_laws.specs.Grouping.{AreHeld}
use Rattle.kind_laws.proofs.aggregating.make_all.Given as goal

abbrev pub invariant-loop-make : goal.invariant-loop-make
invariant-loop-make l = AreHeld l.rows.rows l.groups.group_of.items (length l.groups.firsts.items) (take l.make-index l.makes) (map (λ each. each.items) l.held.items)
