use Rattle.std.proofs.Common.{◌∙◌, [], Option, None, map, string_bytes, refl, ap, subst}
use Rattle.outside.specs.MemoryDisk.{DiskInMemory, file_of, state_of}
use Rattle.outside.specs.Moments.{at_end}
use Rattle.load_runner.specs.Jobs.{columns_of}
use Rattle.load_runner.specs.Safe.{IsSafe}
use Rattle.flow_types.specs.Flows.{has_fixed_root}
use Rattle.commands.specs.declared.reason.Reason.{Reason}
use Rattle.commands.specs.Devices.{devices}
use Rattle.commands.specs.Promises.{Ends}
use Rattle.commands.proofs.Again.{fresh, stays_safe, done_is_whole}
use Rattle.commands.proofs.laws.run_again_after_a_crash.Goals as goal

pub returns : goal.returns
returns g c = record {
  whole = λ none files told job asks whole means.
      let words = map string_bytes c.args.words.now in
      let start = c.stop_at_write.new.self in
      let empty = ap (λ (d : DiskInMemory). d.history) c.stop_at_write.ensures ∙ ap (λ (d : DiskInMemory). d.history) c.in_ok-disk.ensures in
      let before = devices (g.D.Depot.state c.args.depot.now) (state_of start) (g.S.Sink.state c.args.out.now) in
      let after = devices (g.D.Depot.state c.run.new.depot) (state_of c.run.new.disk) (g.S.Sink.state c.run.new.out) in
      let each = stays_safe words files job before after _ c.run.ensures.ends told asks whole means (fresh start.history empty job whole) in
      let safe : IsSafe job.text (columns_of job) (has_fixed_root job.flow.nodes) whole [] (file_of c.in_ok-disk-2.disk) =
      at_end (IsSafe job.text (columns_of job) (has_fixed_root job.flow.nodes) whole []) (state_of start) (state_of c.run.new.disk) c.run.ensures.keeps.time each refl (file_of c.in_ok-disk-2.disk) c.in_ok-disk-2.ensures.image in
      let again = devices (g.D.Depot.state c.run.new.depot) (state_of c.in_ok-disk-2.disk) (g.S.Sink.state c.run.new.out) in
      let last = devices (g.D.Depot.state c.run-ending.new.depot) (state_of c.run-ending.new.disk) (g.S.Sink.state c.run-ending.new.out) in
      let ends : Ends words again last None = subst (λ (answer : Option Reason). Ends words again last answer) none c.run-ending.ensures.ends in
      done_is_whole words files job again last ends (c.run.ensures.keeps.files.files ∙ told) asks whole means refl safe;
}
