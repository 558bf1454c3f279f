use Rattle.std.proofs.Common.{◌≡◌, ◌<◌, ◌+◌, ◌-◌, [], ℕ, List, length, true, IsTrue}
use Rattle.commit_disk.specs.Attach.{LeadsTo}
use Rattle.outside.specs.Disk.{OnlyReads}
use Rattle.commit_disk.specs.Frames.{IsOnTheWay}
use Rattle.commit_disk.proofs.attaching.read_gates.Given as goal

abbrev pub invariant-loop : goal.invariant-loop
invariant-loop g l =
    record {
      within : l.journal.gate < l.size;
      sound : l.journal.sound ≡ true;
      read : OnlyReads (g.K.Disk.state l.fn.disk) (g.K.Disk.state l.disk);
      way : IsTrue (g.K.Disk.state l.fn.disk).honest → l.size ≡ length (g.K.Disk.state l.fn.disk).file → (text : List ℕ) → l.first ≡ 16 + length text → LeadsTo l.first (g.K.Disk.state l.fn.disk).file text []
          → IsOnTheWay l.journal (g.K.Disk.state l.fn.disk).file text;
    }

abbrev pub decreases-loop : goal.decreases-loop
decreases-loop g l = l.size - l.journal.gate
