-- The promise of a dump, for each way in which it ends.
use Rattle.std.proofs.Common.{◌≡◌, ◌⊎◌, ◌≤◌, ◌+◌, inl, inr, ℕ, List, [], length, Bool, All, IsTrue, Option, Some, None, Result, Ok, Err, refl, sym, ap, subst, append-nil, arith}
use Rattle.std.proofs.lemmas.List.Elements.{All-nil}
use Rattle.outside.specs.Words.{Rose, DiskState, Elapses, Spares, OnlyReads, DepotState, SinkState, gained, GainsFront}
use Rattle.outside.specs.Moments.{rose_later, time_on}
use Rattle.tuple_schema.specs.declared.value.Value.{Value}
use Rattle.tuple_schema.specs.declared.schema.Column.{Column}
use Rattle.tuple_schema.specs.declared.memory.Stop.{Stop}
use Rattle.tuple_schema.specs.declared.memory.Stop.TheVariants.{Memory, Fault}
use Rattle.tuple_schema.specs.Schemas.{Fits}
use Rattle.tuple_schema.specs.Stops.{IfFault}
use Rattle.commit_disk.specs.declared.attaching.TableFault.{TableFault}
use Rattle.commit_disk.specs.declared.attaching.TableFault.TheVariants as table
use Rattle.commit_disk.specs.declared.attaching.Attached.TheVariants.{Made}
use Rattle.commit_disk.specs.Table.{IsNotMade, row_blocks}
use Rattle.commit_disk.specs.Attach.{TellsOf}
use Rattle.commit_disk.specs.Journal.{JournalState}
use Rattle.commit_disk.specs.RowTables.{told_rows}
use Rattle.table_read.specs.Rows.{table_rows}
use Rattle.table_read.specs.Places.{wrong_place}
use Rattle.table_write.specs.Rows.{HasRows}
use Rattle.table_dump.specs.declared.fault.DumpFault.{DumpFault}
use Rattle.table_dump.specs.declared.fault.DumpFault.TheVariants as dump
use Rattle.table_dump.specs.Texts.{dump_text, Leaves}
use Rattle.table_dump.specs.Stops.{IsCaused, Judges}
use Rattle.load_runner.specs.Found.{State, unmade, rows, wrong, other, IsFound, FoundOnce}
use Rattle.load_runner.specs.Sources.{root_columns}
use Rattle.load_runner.specs.Starts.{Starts}
use Rattle.commands.specs.declared.reason.Reason.{Reason}
use Rattle.commands.specs.declared.reason.Reason.TheVariants as why
use Rattle.commands.specs.Commands.{FlowText}
use Rattle.commands.specs.Devices.{devices}
use Rattle.commands.specs.Dumps.{FailsOutside, Gained, DoesBy, RestsOn, Dumps}
use Rattle.commands.specs.Stops.{reason_of_table, reason_of_dump}

-- what an image is found to be, of the same text and columns
pub found_as : (image text : List ℕ) (columns : List Column) (state : State) (text' : List ℕ) (columns' : List Column) → text ≡ text' → columns ≡ columns'
    → IsFound image text columns state → IsFound image text' columns' state
found_as image text columns state text' columns' same_text same_columns found =
    subst (λ (t : List ℕ). IsFound image t columns' state) same_text (subst (λ (cs : List Column). IsFound image text cs state) same_columns found)

gained_none : (written : Option (List ℕ)) → written ≡ gained written []
gained_none None = refl
gained_none (Some before) = ap Some (sym (append-nil before))

-- no text at all is a front of each
no_front : (text : List ℕ) (out : SinkState) → GainsFront text out out
no_front text out = (0, omega arith, gained_none out.written)

module _ (job : FlowText) where
  abbrev columns : List Column
  columns = root_columns job.flow.nodes

  -- whatever the file is found to be, want of memory and a failed disk may be answered
  outside_does : (out : SinkState) (reason : Reason) → FailsOutside (Some reason) → (state : State) → DoesBy columns out out (Some reason) state
  outside_does out reason fails unmade = record { output = refl; answers = inr fails }
  outside_does out reason fails (rows committed ended) = record { output = no_front (dump_text columns committed) out; answers = inr (inr fails) }
  outside_does out reason fails (wrong place) = record { output = refl; answers = inr fails }
  outside_does out reason fails other = record { output = refl; answers = inr fails }

  module _ (once : FoundOnce) (depot : DepotState) (disk now : DiskState) (out : SinkState) (spares : Spares disk now) (elapses : Elapses disk now) where
    -- the output gained nothing
    unwritten : (reason : Reason) → (IsTrue disk.honest → (state : State) → IsFound disk.file job.text columns state → DoesBy columns out out (Some reason) state)
        → RestsOn (devices depot disk out) (devices depot now out) (Some reason) → Dumps job (devices depot disk out) (devices depot now out) (Some reason)
    unwritten reason does rests = record {
      depot = refl;
      elapses = elapses;
      spares = spares;
      does = does;
      output = ([], All-nil (Fits columns), no_front (dump_text columns []) out);
      rests = rests;
      faults = omega arith;
    }

    -- no table is made in the file
    pub not_made : (IsTrue disk.honest → IsNotMade disk.file) → Dumps job (devices depot disk out) (devices depot now out) (Some why.NotMade)
    not_made is_not = unwritten why.NotMade
        (λ is state found. subst (DoesBy columns out out (Some why.NotMade)) (once disk.file job.text columns unmade state (is_not is) found) (record { output = refl; answers = inl refl }))
        tt

    -- the table couldn't be opened
    pub refused : (s : Stop TableFault)
        → ((place : ℕ) → s ≡ Fault (table.NotATable place) → IsTrue disk.honest → IsFound disk.file job.text columns (wrong place))
        → (s ≡ Fault table.WorkflowDiffers → IsTrue disk.honest → IsFound disk.file job.text columns other)
        → (s ≡ Fault table.Disk → Rose disk.faults now.faults) → Dumps job (devices depot disk out) (devices depot now out) (Some (reason_of_table s))
    refused Memory no_table differs cause = unwritten why.Memory (λ is state found. outside_does out why.Memory (inl refl) state) tt
    refused (Fault table.Disk) no_table differs cause = unwritten why.Disk (λ is state found. outside_does out why.Disk (inr refl) state) (cause refl)
    refused (Fault (table.NotATable place)) no_table differs cause = unwritten (why.NotATable place)
        (λ is state found. subst (DoesBy columns out out (Some (why.NotATable place))) (once disk.file job.text columns (wrong place) state (no_table place refl is) found) (record { output = refl; answers = inl refl }))
        tt
    refused (Fault table.WorkflowDiffers) no_table differs cause = unwritten why.WorkflowDiffers
        (λ is state found. subst (DoesBy columns out out (Some why.WorkflowDiffers)) (once disk.file job.text columns other state (differs refl is) found) (record { output = refl; answers = inl refl }))
        tt

-- The rows were written, or some of them.

abbrev pub reason_in : Result (Unit {0}) (Stop DumpFault) → Option Reason
reason_in (Ok u) = None
reason_in (Err s) = Some (reason_of_dump s)

gained_of : (text : List ℕ) (out then : SinkState) (answer : Result (Unit {0}) (Stop DumpFault)) → Leaves text out then answer → Gained text out then (reason_in answer)
gained_of text out then (Ok u) leaves = leaves
gained_of text out then (Err s) leaves = leaves

-- the answer blames no table
abbrev pub BlamesNone : Result (Unit {0}) (Stop DumpFault) → Type 0
BlamesNone answer = (place : ℕ) → answer ≡ Err (Fault (dump.NotATable place)) → ⊥

answers_of : (answer : Result (Unit {0}) (Stop DumpFault)) → BlamesNone answer → (reason_in answer ≡ None) ⊎ ((reason_in answer ≡ Some why.Sink) ⊎ FailsOutside (reason_in answer))
answers_of (Ok u) none = inl refl
answers_of (Err Memory) none = inr (inr (inl refl))
answers_of (Err (Fault dump.Disk)) none = inr (inr (inr refl))
answers_of (Err (Fault dump.Sink)) none = inr (inl refl)
answers_of (Err (Fault (dump.NotATable place))) none = absurd (none place refl)

rests_of : (depot : DepotState) (disk mid now : DiskState) (out then : SinkState) (answer : Result (Unit {0}) (Stop DumpFault)) → disk.faults ≤ mid.faults → IfFault answer (IsCaused mid now out then)
    → RestsOn (devices depot disk out) (devices depot now then) (reason_in answer)
rests_of depot disk mid now out then (Ok u) later cause = tt
rests_of depot disk mid now out then (Err Memory) later cause = tt
rests_of depot disk mid now out then (Err (Fault dump.Disk)) later cause = rose_later disk.faults mid.faults now.faults later cause
rests_of depot disk mid now out then (Err (Fault dump.Sink)) later cause = cause
rests_of depot disk mid now out then (Err (Fault (dump.NotATable place))) later cause = tt

-- what a dump of a table leaves, of the rows that its blocks decode to
abbrev pub LeavesOf : (journal : JournalState) (image : List ℕ) (columns : List Column) → SinkState → SinkState → Result (Unit {0}) (Stop DumpFault) → Type 0
LeavesOf journal image columns out then answer = (text : List ℕ) → (table : TellsOf journal image text) → (rows : List (List Value))
    → table_rows columns (16 + length text) (row_blocks table.blocks) ≡ Ok rows → Leaves (dump_text columns rows) out then answer

-- and what it says of the table
abbrev pub JudgesOf : (journal : JournalState) (image : List ℕ) (columns : List Column) → Result (Unit {0}) (Stop DumpFault) → Type 0
JudgesOf journal image columns answer = (text : List ℕ) → (table : TellsOf journal image text) → Judges answer (wrong_place (table_rows columns (16 + length text) (row_blocks table.blocks)))

-- rows that decode have no wrong place
none_wrong : (reading : Result (List (List Value)) ℕ) (committed : List (List Value)) (place : ℕ) → reading ≡ Ok committed → wrong_place reading ≡ Some place → ⊥
none_wrong (Ok found) committed place e bad = absurd cc
none_wrong (Err at) committed place e bad = absurd cc

blames_none : (reading : Result (List (List Value)) ℕ) (committed : List (List Value)) (answer : Result (Unit {0}) (Stop DumpFault)) → reading ≡ Ok committed → Judges answer (wrong_place reading) → BlamesNone answer
blames_none reading committed answer decodes judges place is =
    none_wrong reading committed place decodes (subst (λ (r : Result (Unit {0}) (Stop DumpFault)). Judges r (wrong_place reading)) is judges)

-- what any disk's dump leaves: that of some rows of the columns
abbrev pub LeavesSome : List Column → SinkState → SinkState → Result (Unit {0}) (Stop DumpFault) → Type 0
LeavesSome columns out then answer = (some : List (List Value)) × All (Fits columns) some × Leaves (dump_text columns some) out then answer

pub some_as : (columns others : List Column) (out then : SinkState) (answer : Result (Unit {0}) (Stop DumpFault)) → columns ≡ others → LeavesSome columns out then answer → LeavesSome others out then answer
some_as own others out then answer same = subst (λ (cs : List Column). LeavesSome cs out then answer) same

-- what was found of the table, and what its rows' dump did
pub record Showed (job : FlowText) (disk : DiskState) (out then : SinkState) (answer : Result (Unit {0}) (Stop DumpFault)) : Type 0 where
  pub committed : List (List Value)
  pub ended : Bool
  pub has : HasRows disk.file job.text (root_columns job.flow.nodes) committed ended
  pub leaves : Leaves (dump_text (root_columns job.flow.nodes) committed) out then answer
  pub none : BlamesNone answer

pub showed : FoundOnce → (job : FlowText) (depot : DepotState) (disk mid now : DiskState) (out then : SinkState) (answer : Result (Unit {0}) (Stop DumpFault))
    → Spares disk now → Elapses disk mid → OnlyReads mid now → (IsTrue disk.honest → Showed job disk out then answer)
    → LeavesSome (root_columns job.flow.nodes) out then answer → IfFault answer (IsCaused mid now out then) → out.faults ≤ then.faults → Dumps job (devices depot disk out) (devices depot now then) (reason_in answer)
showed once job depot disk mid now out then answer spares earlier reads shows any cause faults = record {
  depot = refl;
  elapses = time_on disk mid now earlier reads.elapses;
  spares = spares;
  does = λ is state found.
      let s = shows is in
      subst (DoesBy (root_columns job.flow.nodes) out then (reason_in answer)) (once disk.file job.text (root_columns job.flow.nodes) (rows s.committed s.ended) state s.has found)
      (record { output = gained_of (dump_text (root_columns job.flow.nodes) s.committed) out then answer s.leaves; answers = answers_of answer s.none });
  output = (any.0, any.1, gained_of (dump_text (root_columns job.flow.nodes) any.0) out then answer any.2);
  rests = rests_of depot disk mid now out then answer earlier.faults cause;
  faults = faults;
}

-- of a table that was opened
pub showed_of : (job : FlowText) (disk : DiskState) (out then : SinkState) (answer : Result (Unit {0}) (Stop DumpFault)) (journal : JournalState) (image text : List ℕ) (columns : List Column)
    → image ≡ disk.file → text ≡ job.text → columns ≡ root_columns job.flow.nodes → Starts (Made journal) image text columns
    → LeavesOf journal image columns out then answer → JudgesOf journal image columns answer → Showed job disk out then answer
showed_of job disk out then answer journal image text own same_image same_text same_columns (told, (committed, decodes)) leaves judges =
    let has : HasRows image text own committed journal.ended = record { blocks = row_blocks told.blocks; holds = (told_rows journal image text told).holds; decodes = decodes } in
    record {
      committed = committed;
      ended = journal.ended;
      has = subst (λ (i : List ℕ). HasRows i job.text (root_columns job.flow.nodes) committed journal.ended) same_image
          (subst (λ (t : List ℕ). HasRows image t (root_columns job.flow.nodes) committed journal.ended) same_text
          (subst (λ (cs : List Column). HasRows image text cs committed journal.ended) same_columns has));
      leaves = subst (λ (cs : List Column). Leaves (dump_text cs committed) out then answer) same_columns (leaves text told committed decodes);
      none = blames_none (table_rows own (16 + length text) (row_blocks told.blocks)) committed answer decodes (judges text told);
    }
