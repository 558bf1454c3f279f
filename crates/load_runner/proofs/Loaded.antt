-- The promise of a load, for each way in which it ends.
use Rattle.std.proofs.Common.{◌≡◌, ◌≢◌, ◌≤◌, inl, inr, ◌∙◌, ℕ, ◌+◌, List, [], ◌++◌, length, take, drop, All, IfOk, Bool, true, false, IsTrue, Option, Some, Result, Ok, Err, refl, sym, ap, subst, arith}
use Rattle.std.specs.Bool.{⊤}
use Rattle.outside.specs.Moments.{rose_later, each_settled, spares_on}
use Rattle.outside.specs.Words.{Rose, Each, DiskState, Elapses, IsSettled, Spares, Files, DepotState, Consults}
use Rattle.tuple_schema.specs.declared.value.Value.{Value}
use Rattle.tuple_schema.specs.declared.schema.Column.{Column}
use Rattle.tuple_schema.specs.declared.memory.Stop.{Stop}
use Rattle.tuple_schema.specs.declared.memory.Stop.TheVariants.{Memory, Fault}
use Rattle.tuple_schema.specs.Stops.{IfFault}
use Rattle.row_codec.specs.Decoding.{IsRowOf}
use Rattle.commit_disk.specs.declared.attaching.Attached.{Attached}
use Rattle.commit_disk.specs.declared.attaching.TableFault.{TableFault}
use Rattle.commit_disk.specs.declared.attaching.TableFault.TheVariants as table_fault
use Rattle.table_write.specs.declared.writer.WriteFault.{WriteFault}
use Rattle.table_write.specs.declared.writer.WriteFault.TheVariants as write
use Rattle.extractors.specs.declared.fault.CsvFault.TheVariants as csv
use Rattle.commit_disk.specs.Table.{Stored, Holds, HoldsOnce, front, table}
use Rattle.commit_disk.specs.Attach.{VerdictsAgree}
use Rattle.commit_disk.specs.Growth.{grows_still, nothing_lost}
use Rattle.table_read.specs.Rows.{table_rows}
use Rattle.table_write.specs.Cut.{cut, together}
use Rattle.table_write.specs.Adds.{with_blocks, AllHaveRoom, IsFullBehind}
use Rattle.table_write.specs.Rows.{HasRows, HoldsRows}
use Rattle.flow_types.specs.declared.node.Node.{Node}
use Rattle.flow_types.specs.Linked.{IsFlow}
use Rattle.flow_types.specs.Flows.{root_in, has_fixed_root}
use Rattle.load_runner.specs.declared.fault.SourceFault.{SourceFault}
use Rattle.load_runner.specs.declared.fault.LoadFault.TheVariants as fault
use Rattle.load_runner.specs.declared.fault.SourceWhat.{SourceWhat}
use Rattle.load_runner.specs.declared.fault.SourceWhat.TheVariants as what
use Rattle.load_runner.specs.Adding.{Addition, Finishes, EndsTable, FillsTable, FailsBetween}
use Rattle.load_runner.specs.Asked.{asked_bytes}
use Rattle.load_runner.specs.Stops.{of_table, of_source_fault, of_sources, of_write}
use Rattle.load_runner.specs.declared.report.Report.{Report}
use Rattle.load_runner.specs.Found.{State, unmade, rows, wrong, other, IsFound}
use Rattle.load_runner.specs.Jobs.{Job, Answer, columns_of, run_blocks, IsMade, missing_blocks}
use Rattle.load_runner.specs.Loads.{IsNextGate, IsComplete, IsFull, StoppedAdding, Leaves, AddsTo, FailsOutside, Does, RestsOn, Loads}
use Rattle.load_runner.specs.Reports.{ended_report, skip_report}
use Rattle.load_runner.specs.Safe.{IsStopped, IsSafe, HoldsAll}
use Rattle.load_runner.specs.Sources.{by_depot, contents_in, IsMeaning}
use Rattle.load_runner.specs.Starts.{IsAt, count_of, gate_of}
use Rattle.load_runner.proofs.Begun.{BlocksHold}
use Rattle.load_runner.proofs.Meanings.{Resumed, LastIsRoot, resumed, made_is_meaning}
use Rattle.load_runner.proofs.Ran.{missing_of, tables_kept, none_ended, kept_all, safe_all, grows_all, CutIs, StillFirst, StillEnded, CanResume, MeansOne, Ran, in_rows, begins_committed, committed, olds, held, decodes, at, is_at, counted, adds, added_rows}
use Rattle.load_runner.specs.Standing.{Stands}
use Rattle.load_runner.proofs.Standings.{Lengths, Appended, all_of_stands, all_rows}
use Rattle.load_runner.proofs.Tables.{found_once, rows_once}

-- the depot was not asked
pub unasked : (depot : DepotState) → Consults depot depot
unasked depot = record { files = refl; faults = omega arith; served = omega arith }

-- where it is complete, each image is an ended table of all of the meaning
abbrev pub Completes : Job → DepotState → DiskState → DiskState → Answer → Type 0
Completes job depot disk now answer = (files : Files) → depot.files ≡ Some files → (whole : List (List Value)) → IsMeaning job.flow files whole
    → IsTrue disk.honest → IsSafe job.text (columns_of job) (has_fixed_root job.flow.nodes) whole [] disk.file
    → IfOk answer (λ _. Each now.may_leave (HoldsAll job.text (columns_of job) (has_fixed_root job.flow.nodes) whole))

-- Nothing was written.

-- what stood, not ended
record Stood (file text : List ℕ) (columns : List Column) (had : List (List Value)) : Type 0 where
  olds : List Stored
  decodes : table_rows columns (16 + length text) olds ≡ Ok had
  gate : ℕ
  at : IsNextGate file text olds gate

stood_of : (file text : List ℕ) (columns : List Column) (had : List (List Value)) → HoldsRows file text columns had false → Stood file text columns had
unfolding table_rows
stood_of file text columns had (inl has) = record {
  olds = has.blocks;
  decodes = has.decodes;
  gate = length (front text (table has.blocks false));
  at = inl (record { holds = has.holds; at = refl });
}
stood_of file text columns had (inr none) = record { olds = []; decodes = ap Ok (sym none.1); gate = 16 + length text; at = inr (none.0, refl, refl) }

spared_leaves : (job : Job) (told : Option Files) (had : List (List Value)) (stored : List Stored) (gate : ℕ) (disk now : DiskState) (answer : Answer) → Spares disk now → FailsOutside answer
    → Leaves job told had stored gate disk now answer
spared_leaves job told had stored gate disk now answer spares (inl memory) = rw memory spares
spared_leaves job told had stored gate disk now answer spares (inr failed) = rw failed (inl spares)

outside_adds : (job : Job) (depot : DepotState) (disk now : DiskState) (answer : Answer) (had : List (List Value)) → Spares disk now → FailsOutside answer
    → HoldsRows disk.file job.text (columns_of job) had false → AddsTo job depot.files had disk now answer
outside_adds job depot disk now answer had spares out holds =
    let stood = stood_of disk.file job.text (columns_of job) had holds in
    record {
      olds = stood.olds;
      decodes = stood.decodes;
      gate = stood.gate;
      at = stood.at;
      moments = inl spares.nothing_new;
      leaves = spared_leaves job depot.files had stood.olds stood.gate disk now answer spares out;
    }

-- whatever the file is found to be, want of memory and a failed disk may be answered
outside_does : (job : Job) (depot : DepotState) (disk now : DiskState) (answer : Answer) → Spares disk now → FailsOutside answer → (state : State) → IsFound disk.file job.text (columns_of job) state
    → Does job depot depot disk now answer state
outside_does job depot disk now answer spares out unmade found = outside_adds job depot disk now answer [] spares out (inr (found, refl, refl))
outside_does job depot disk now answer spares out (rows had true) found = record { unread = refl; spares = spares; answers = inr out }
outside_does job depot disk now answer spares out (rows had false) found = outside_adds job depot disk now answer had spares out (inl found)
outside_does job depot disk now answer spares out (wrong place) found = record { unread = refl; spares = spares; answers = inr out }
outside_does job depot disk now answer spares out other found = record { unread = refl; spares = spares; answers = inr out }

-- an ended table is made
made_rows : (image text : List ℕ) (columns : List Column) (had : List (List Value)) → HoldsRows image text columns had true → HasRows image text columns had true
made_rows image text columns had (inl has) = has
made_rows image text columns had (inr none) = absurd (let e = none.2 in cc)

module _ (agree : VerdictsAgree) (once : HoldsOnce) (job : Job) (depot : DepotState) (disk now : DiskState) (spares : Spares disk now) where
  -- of a table that is refused
  refused_does : (s : Stop TableFault)
      → ((place : ℕ) → s ≡ Fault (table_fault.NotATable place) → IsFound disk.file job.text (columns_of job) (wrong place))
      → (s ≡ Fault table_fault.WorkflowDiffers → IsFound disk.file job.text (columns_of job) other)
      → (state : State) → IsFound disk.file job.text (columns_of job) state → Does job depot depot disk now (Err (of_table s)) state
  refused_does Memory no_table differs state found = outside_does job depot disk now (Err Memory) spares (inl refl) state found
  refused_does (Fault table_fault.Disk) no_table differs state found = outside_does job depot disk now (Err (Fault fault.Disk)) spares (inr refl) state found
  refused_does (Fault (table_fault.NotATable place)) no_table differs state found =
      subst (Does job depot depot disk now (Err (Fault (fault.NotATable place)))) (found_once agree once disk.file job.text (columns_of job) (wrong place) state (no_table place refl) found)
      (record { unread = refl; spares = spares; answers = inl refl })
  refused_does (Fault table_fault.WorkflowDiffers) no_table differs state found =
      subst (Does job depot depot disk now (Err (Fault fault.WorkflowDiffers))) (found_once agree once disk.file job.text (columns_of job) other state (differs refl) found)
      (record { unread = refl; spares = spares; answers = inl refl })

  -- where nothing was written, all that a load promises of images holds
  spared : StillFirst → StillEnded → (answer : Answer) → Elapses disk now
      → (IsTrue disk.honest → (state : State) → IsFound disk.file job.text (columns_of job) state → Does job depot depot disk now answer state)
      → RestsOn job depot depot disk now answer → Completes job depot disk now answer → Loads job depot depot disk now answer
  spared first ended answer elapses does rests completes = record {
    consults = unasked depot;
    elapses = elapses;
    loses_nothing = nothing_lost disk now spares.nothing_new;
    kept = λ acknowledged each is image left. each image (spares.nothing_new.each is image left);
    safe = λ files told whole acknowledged means each is image left. each image (spares.nothing_new.each is image left);
    completes = completes;
    grows = λ is each. in_rows first ended job.text (columns_of job) disk now (grows_still job.text disk now is spares.nothing_new) (λ image left. each image (spares.nothing_new.each is image left));
    does = does;
    rests = rests;
    served = λ files told. omega arith;
  }

  -- the disk is blamed only where it failed
  abbrev pub CausedBy : Stop TableFault → Type 0
  CausedBy s = let answer : Result Attached (Stop TableFault) = Err s in IfFault answer (λ f. f ≡ table_fault.Disk → Rose disk.faults now.faults)

  refused_rests : (s : Stop TableFault) → CausedBy s → RestsOn job depot depot disk now (Err (of_table s))
  refused_rests Memory cause = tt
  refused_rests (Fault table_fault.Disk) cause = cause refl
  refused_rests (Fault (table_fault.NotATable place)) cause = tt
  refused_rests (Fault table_fault.WorkflowDiffers) cause = tt

  -- a load that stopped while the table was read
  pub refused : StillFirst → StillEnded → (s : Stop TableFault) → Elapses disk now
      → ((place : ℕ) → s ≡ Fault (table_fault.NotATable place) → IsTrue disk.honest → IsFound disk.file job.text (columns_of job) (wrong place))
      → (s ≡ Fault table_fault.WorkflowDiffers → IsTrue disk.honest → IsFound disk.file job.text (columns_of job) other)
      → CausedBy s → Loads job depot depot disk now (Err (of_table s))
  refused first ended s elapses no_table differs cause =
      spared first ended (Err (of_table s)) elapses
      (λ is state found. refused_does s (λ place at. no_table place at is) (λ at. differs at is) state found)
      (refused_rests s cause) (λ files told whole means is safe. tt)

  -- a load over an ended table
  pub rested : StillFirst → StillEnded → Lengths → (report : Report) → Elapses disk now → (IsTrue disk.honest → IsSettled now × (now.file ≡ disk.file))
      → (IsTrue disk.honest → (committed : List (List Value)) × HoldsRows disk.file job.text (columns_of job) committed true × (report ≡ ended_report (length committed)))
      → Loads job depot depot disk now (Ok report)
  rested first ended lengths report elapses settled holds =
      spared first ended (Ok report) elapses
      (λ is state found.
      let has = holds is in
      subst (Does job depot depot disk now (Ok report)) (found_once agree once disk.file job.text (columns_of job) (rows has.0 true) state (made_rows disk.file job.text (columns_of job) has.0 has.1) found)
      (record { unread = refl; spares = spares; answers = inl (ap Ok has.2) }))
      tt
      (λ files told whole means is safe.
      let has = holds is in
      let same = rows_once agree once disk.file job.text (columns_of job) safe.rows has.0 safe.ended true safe.holds has.1 in
      let stands = subst (λ (e : Bool). Stands (has_fixed_root job.flow.nodes) whole safe.rows e) same.1 safe.stands in
      let all : HoldsAll job.text (columns_of job) (has_fixed_root job.flow.nodes) whole disk.file = record {
        rows = safe.rows;
        holds = subst (λ (e : Bool). HoldsRows disk.file job.text (columns_of job) safe.rows e) same.1 safe.holds;
        all = all_of_stands lengths (has_fixed_root job.flow.nodes) whole safe.rows stands;
      } in
      λ image left. each_settled (HoldsAll job.text (columns_of job) (has_fixed_root job.flow.nodes) whole) now (settled is).0
      (subst (HoldsAll job.text (columns_of job) (has_fixed_root job.flow.nodes) whole) (sym (settled is).1) all) image left)

-- Blocks were added.

-- to a table that isn't ended, or to none that is made
in_state : VerdictsAgree → HoldsOnce → (job : Job) (depot still : DepotState) (disk now : DiskState) (answer : Answer) (had : List (List Value))
    → HoldsRows disk.file job.text (columns_of job) had false → AddsTo job depot.files had disk now answer
    → (state : State) → IsFound disk.file job.text (columns_of job) state → Does job depot still disk now answer state
in_state agree once job depot still disk now answer had (inl has) adds state found =
    subst (Does job depot still disk now answer) (found_once agree once disk.file job.text (columns_of job) (rows had false) state has found) adds
in_state agree once job depot still disk now answer had (inr none) adds state found =
    subst (Does job depot still disk now answer) (found_once agree once disk.file job.text (columns_of job) unmade state none.0 found)
    (subst (λ (rows : List (List Value)). AddsTo job depot.files rows disk now answer) none.1 adds)

module _ (agree : VerdictsAgree) (once : HoldsOnce) (law : BlocksHold) (cuts : CutIs) (job : Job) (told : Option Files) (found_of : Attached) (old mid new : DiskState) (ran : Ran job told found_of old mid new)
    (can : CanResume job told) where
  abbrev rows_of : List (List Value)
  rows_of = committed agree once law job told found_of old mid new ran

  abbrev olds_of : List Stored
  olds_of = olds agree once law job told found_of old mid new ran

  abbrev at_olds : IsAt found_of mid.file job.text olds_of
  at_olds = is_at agree once law job told found_of old mid new ran

  -- in words of the committed rows
  by_count : (P : ℕ → Type 0) → P (count_of found_of) → P (length rows_of)
  by_count P = subst P (counted agree once law job told found_of old mid new ran)

  -- the blocks of a trimmed run are those that are missing
  by_run : (whole : List (List Value)) (made : IsMade job.flow told whole) (P : List (List (List Value)) → Type 0) → P (missing_blocks job.batch (length rows_of) whole)
      → P (run_blocks job (can rows_of whole made).run)
  by_run whole made P = subst P (ap (cut job.batch) (sym (can rows_of whole made).rest))

  -- The rows that are missing were added.

  module _ (whole : List (List Value)) (made : IsMade job.flow told whole) where
    abbrev missing : Addition
    missing = missing_of job found_of whole

    abbrev run_of : Resumed job.flow told rows_of whole
    run_of = can rows_of whole made

    on : IsTrue mid.honest
    on = ran.began.honest ∙ ran.honest

    settled_mid : IsSettled mid
    settled_mid = ran.syncs.settled ran.honest

    -- the rows of the blocks that were missing are those behind the committed ones
    missing_are : 1 ≤ job.batch → drop (length rows_of) whole ≡ together (missing_blocks job.batch (length rows_of) whole)
    missing_are some = (cuts job.batch (drop (length rows_of) whole) some).whole

    all_rows_hold : 1 ≤ job.batch → EndsTable missing mid new → HoldsRows new.file job.text (columns_of job) (rows_of ++ drop (length rows_of) whole) true
    all_rows_hold some ends =
        let Blocks : ℕ → List (List (List Value)) = λ n. missing_blocks job.batch n whole in
        let holds = by_count (λ n. Holds new.file job.text (with_blocks olds_of (Blocks n)) true) (ends.holds on olds_of at_olds) in
        let own : All (IsRowOf (columns_of job)) (drop (length rows_of) whole) = by_count (λ n. All (IsRowOf (columns_of job)) (drop n whole)) ends.of_columns in
        subst (λ rs. HoldsRows new.file job.text (columns_of job) (rows_of ++ rs) true) (sym (missing_are some))
        (added_rows agree once law job told found_of old mid new ran new.file (Blocks (length rows_of)) true holds (subst (λ rs. All (IsRowOf (columns_of job)) rs) (missing_are some) own))

    pub complete : 1 ≤ job.batch → (report : Report) (root : Node) → Some root ≡ root_in job.flow.nodes → report ≡ skip_report root.id (count_of found_of) (length whole) → EndsTable missing mid new
        → IsComplete job told rows_of olds_of (gate_of found_of job.text) new report
    complete some report root last reported ends =
        let Blocks : ℕ → List (List (List Value)) = λ n. missing_blocks job.batch n whole in
        record {
          run = run_of.run;
          resumes = run_of.resumes;
          blocks = by_run whole made (λ bs. Holds new.file job.text (with_blocks olds_of bs) true)
              (by_count (λ n. Holds new.file job.text (with_blocks olds_of (Blocks n)) true) (ends.holds on olds_of at_olds));
          rows = subst (λ rs. HoldsRows new.file job.text (columns_of job) (rows_of ++ rs) true) (sym run_of.rest) (all_rows_hold some ends);
          settled = ends.settled on;
          room = by_run whole made (λ bs. AllHaveRoom (gate_of found_of job.text) bs) (by_count (λ n. AllHaveRoom (gate_of found_of job.text) (Blocks n)) ends.room);
          reported = by_count (λ n. report ≡ skip_report root.id n (length whole)) reported ∙ sym (run_of.reported root last);
        }

    full : FillsTable missing mid new → IsFull job told rows_of olds_of (gate_of found_of job.text) new
    full fills =
        let Taken : ℕ → List (List (List Value)) = λ n. take fills.count (missing_blocks job.batch n whole) in
        let holds = by_count (λ n. Holds new.file job.text (with_blocks olds_of (Taken n)) false) (fills.holds on olds_of at_olds) in
        record {
          run = run_of.run;
          resumes = run_of.resumes;
          count = fills.count;
          full = by_run whole made (λ bs. IsFullBehind (gate_of found_of job.text) bs fills.count)
              (by_count (λ n. IsFullBehind (gate_of found_of job.text) (missing_blocks job.batch n whole) fills.count) fills.full);
          blocks = by_run whole made (λ bs. Holds new.file job.text (with_blocks olds_of (take fills.count bs)) false) holds;
          rows = by_run whole made (λ bs. HoldsRows new.file job.text (columns_of job) (rows_of ++ together (take fills.count bs)) false)
              (added_rows agree once law job told found_of old mid new ran new.file (Taken (length rows_of)) false holds (by_count (λ n. All (IsRowOf (columns_of job)) (together (Taken n))) fills.of_columns));
          settled = fills.settled on settled_mid;
        }

    stopped_adding : FailsBetween missing mid new → StoppedAdding job told rows_of olds_of old new
    stopped_adding fails = record {
      run = run_of.run;
      resumes = run_of.resumes;
      stopped = by_run whole made (λ bs. IsStopped old.file job.text olds_of bs new.may_leave)
          (subst (λ (file : List ℕ). IsStopped file job.text olds_of (missing_blocks job.batch (length rows_of) whole) new.may_leave) (ran.syncs.file ran.honest)
          (by_count (λ n. IsStopped mid.file job.text olds_of (missing_blocks job.batch n whole) new.may_leave) (fails.stops settled_mid on olds_of at_olds)));
    }

    pub write_leaves : (s : Stop WriteFault) → (let answer : Result ⊤ (Stop WriteFault) = Err s in Finishes missing mid new answer)
        → Leaves job told rows_of olds_of (gate_of found_of job.text) old new (Err (of_write s))
    write_leaves Memory reads = spares_on old mid new ran.began ran.spares reads
    write_leaves (Fault write.Full) fills = full fills
    write_leaves (Fault write.Disk) fails = inr (stopped_adding fails)

    -- where it is complete, the table has all of the meaning
    pub all_held : 1 ≤ job.batch → MeansOne job told → IsTrue (has_fixed_root job.flow.nodes) → EndsTable missing mid new → (files : Files) → told ≡ Some files
        → (meaning : List (List Value)) → IsMeaning job.flow files meaning → IsSafe job.text (columns_of job) (has_fixed_root job.flow.nodes) meaning [] old.file
        → Each new.may_leave (HoldsAll job.text (columns_of job) (has_fixed_root job.flow.nodes) meaning)
    all_held some means_one fixed ends files are meaning means safe =
        let begins = begins_committed agree once law job told found_of old mid new ran fixed meaning safe in
        let same : whole ≡ meaning = means_one files are meaning whole means made in
        let rows_are : rows_of ++ drop (length rows_of) whole ≡ meaning = ap (λ rs. rows_of ++ drop (length rows_of) rs) same ∙ all_rows rows_of meaning begins in
        let held : HoldsRows new.file job.text (columns_of job) meaning true = subst (λ rs. HoldsRows new.file job.text (columns_of job) rs true) rows_are (all_rows_hold some ends) in
        each_settled (HoldsAll job.text (columns_of job) (has_fixed_root job.flow.nodes) meaning) new (ends.settled on)
        (record { rows = meaning; holds = held; all = record { bag = λ tuple. refl; list = λ _. refl } })

  adding : (answer : Answer) → Leaves job told rows_of olds_of (gate_of found_of job.text) old new answer → AddsTo job told rows_of old new answer
  adding answer leaves = record {
    olds = olds_of;
    decodes = decodes agree once law job told found_of old mid new ran;
    gate = gate_of found_of job.text;
    at = at agree once law job told found_of old mid new ran;
    moments = adds agree once law job told found_of old mid new ran can;
    leaves = leaves;
  }

  -- a load that went on, on an honest disk
  pub went_on : (depot still : DepotState) → depot.files ≡ told → (answer : Answer) → Leaves job told rows_of olds_of (gate_of found_of job.text) old new answer
      → (state : State) → IsFound old.file job.text (columns_of job) state → Does job depot still old new answer state
  went_on depot still are answer leaves state found =
      in_state agree once job depot still old new answer rows_of (held agree once law job told found_of old mid new ran)
      (subst (λ (o : Option Files). AddsTo job o rows_of old new answer) (sym are) (adding answer leaves)) state found

-- a stop of reading the sources leaves the table as it was
pub sources_leave : (job : Job) (told : Option Files) (had : List (List Value)) (stored : List Stored) (gate : ℕ) (disk now : DiskState) (s : Stop SourceFault) → Spares disk now
    → Leaves job told had stored gate disk now (Err (of_sources s))
sources_leave job told had stored gate disk now Memory spares = spares
sources_leave job told had stored gate disk now (Fault f) spares = by_what f.what
  where
    by_what : (w : SourceWhat) → Leaves job told had stored gate disk now (Err (Fault (of_source_fault f w)))
    by_what (what.Csv csv.Depot) = spares
    by_what (what.Csv csv.Missing) = spares
    by_what (what.Csv (csv.TooLarge size)) = spares
    by_what (what.Csv (csv.BadHeader column)) = spares
    by_what (what.Csv (csv.BadCsv row)) = spares
    by_what (what.Csv (csv.BadRow row column cause)) = spares

-- on what it rests
pub sources_rest : (job : Job) (depot still : DepotState) (disk now : DiskState) (s : Stop SourceFault)
    → ((f : SourceFault) → s ≡ Fault f → f.what ≢ by_depot → (files : Files) → depot.files ≡ Some files → contents_in job.flow.nodes files ≡ Err f)
    → (let answer : Result (List (List Value)) (Stop SourceFault) = Err s in IfFault answer (λ f. f.what ≡ by_depot → Rose depot.faults still.faults))
    → RestsOn job depot still disk now (Err (of_sources s))
sources_rest job depot still disk now Memory first cause = tt
sources_rest job depot still disk now (Fault f) first cause = by_what f.what refl
  where
    by_what : (w : SourceWhat) → f.what ≡ w → RestsOn job depot still disk now (Err (Fault (of_source_fault f w)))
    by_what (what.Csv csv.Depot) is = cause is
    by_what (what.Csv csv.Missing) is = first f refl (λ depot. cc)
    by_what (what.Csv (csv.TooLarge size)) is = first f refl (λ depot. cc)
    by_what (what.Csv (csv.BadHeader column)) is = first f refl (λ depot. cc)
    by_what (what.Csv (csv.BadCsv row)) is = first f refl (λ depot. cc)
    by_what (what.Csv (csv.BadRow row column cause)) is = first f refl (λ depot. cc)

-- on what a stop of writing rests
pub write_rests : (job : Job) (depot still : DepotState) (old mid new : DiskState) (added : Addition) (s : Stop WriteFault) → old.faults ≤ mid.faults
    → (let answer : Result ⊤ (Stop WriteFault) = Err s in Finishes added mid new answer) → RestsOn job depot still old new (Err (of_write s))
write_rests job depot still old mid new added Memory later reads = tt
write_rests job depot still old mid new added (Fault write.Full) later fills = tt
write_rests job depot still old mid new added (Fault write.Disk) later fails = rose_later old.faults mid.faults new.faults later fails.rose

-- a load that went on behind what was found
module _ (agree : VerdictsAgree) (once : HoldsOnce) (law : BlocksHold) (cuts : CutIs) (job : Job) (depot still : DepotState) (found_of : Attached) (old mid new : DiskState)
    (ran : IsTrue old.honest → Ran job depot.files found_of old mid new) (flow : IsFlow job.flow) (last : LastIsRoot) (fixed : IsTrue (has_fixed_root job.flow.nodes)) where
  can : CanResume job depot.files
  can = λ had whole made. resumed job.flow flow last depot.files had whole made

  means_one : MeansOne job depot.files
  means_one = λ files are whole made means makes. made_is_meaning job.flow flow fixed files depot.files are whole made means makes

  -- what its answer leaves
  abbrev pub LeavesThere : Answer → Type 0
  LeavesThere answer = (is : IsTrue old.honest) → Leaves job depot.files (committed agree once law job depot.files found_of old mid new (ran is))
      (olds agree once law job depot.files found_of old mid new (ran is)) (gate_of found_of job.text) old new answer

  pub loads : StillFirst → StillEnded → Appended → 1 ≤ job.batch → Consults depot still → Elapses old new
      → ((files : Files) → depot.files ≡ Some files → still.served ≤ depot.served + asked_bytes job.flow.nodes files)
      → (answer : Answer) → LeavesThere answer → RestsOn job depot still old new answer → Completes job depot old new answer → Loads job depot still old new answer
  loads first ended appended some consults elapses served answer leaves rests completes = record {
    consults = consults;
    elapses = elapses;
    loses_nothing = record {
      blocks = λ text blocks each is. tables_kept agree once law job depot.files found_of old mid new (ran is) text blocks each is;
      ended = λ text blocks each is. absurd (none_ended agree once law job depot.files found_of old mid new (ran is) text blocks each);
    };
    kept = λ acknowledged each is. kept_all agree once law job depot.files found_of old mid new (ran is) acknowledged each is;
    safe = λ files told whole acknowledged means each is.
        safe_all agree once law job depot.files found_of old mid new (ran is) cuts appended means_one fixed some files told whole acknowledged means each is;
    completes = completes;
    grows = λ is each. grows_all agree once law job depot.files found_of old mid new (ran is) first ended each;
    does = λ is. went_on agree once law cuts job depot.files found_of old mid new (ran is) can depot still refl answer (leaves is);
    rests = rests;
    served = served;
  }
