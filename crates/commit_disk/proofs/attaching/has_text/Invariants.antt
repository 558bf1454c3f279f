use Rattle.std.proofs.Common.{◌≡◌, ◌≤◌, ◌<◌, ◌-◌, length, take, drop, IsTrue}
use Rattle.outside.specs.Disk.{OnlyReads}
use Rattle.commit_disk.proofs.attaching.has_text.Given as goal

abbrev pub invariant-loop-done : goal.invariant-loop-done
invariant-loop-done g l =
    record {
      bound : l.done ≤ length l.text;
      block : 0 < length l.block;
      read : OnlyReads (g.K.Disk.state l.fn.disk) (g.K.Disk.state l.disk);
      same : IsTrue (g.K.Disk.state l.fn.disk).honest
          → take l.done (drop 16 (g.K.Disk.state l.fn.disk).file) ≡ take l.done l.text;
    }

abbrev pub decreases-loop-done : goal.decreases-loop-done
decreases-loop-done g l = length l.text - l.done
