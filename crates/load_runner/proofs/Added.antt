-- Rows that were added to the table that was found.
use Rattle.std.proofs.Common.{◌≡◌, ◌≢◌, inl, inr, ⊎_elim, ◌∙◌, ℕ, List, [], IsTrue, Result, Ok, Err, false, refl, ap, subst}
use Rattle.outside.specs.Words.{DiskState, Elapses, IsSettled}
use Rattle.outside.specs.Moments.{rose_later}
use Rattle.tuple_schema.specs.declared.schema.Column.{Column}
use Rattle.tuple_schema.specs.declared.memory.Stop.{Stop}
use Rattle.tuple_schema.specs.declared.memory.Stop.TheVariants.{Memory, Fault}
use Rattle.list_algebra.specs.Bags.{Tuple}
use Rattle.commit_disk.specs.declared.attaching.Attached.TheVariants.{NotMade, Made}
use Rattle.commit_disk.specs.Journal.{JournalState, new_journal}
use Rattle.commit_disk.specs.Table.{HoldsUpTo}
use Rattle.table_write.specs.declared.writer.WriteFault.{WriteFault}
use Rattle.table_write.specs.declared.writer.WriteFault.TheVariants as write
use Rattle.table_write.specs.Cut.{cut}
use Rattle.table_write.specs.Adds.{AllHaveRoom, IsFullBehind}
use Rattle.load_runner.specs.Adding.{Addition, Finishes, FillsTable, FailsBetween}

-- either fault of writing
pub stopped : {X : Type 0} (adding : Addition) (disk now : DiskState) (f : WriteFault) (answer : Result X (Stop WriteFault)) → answer ≡ Err (Fault f)
    → (f ≡ write.Disk → FailsBetween adding disk now) → (f ≡ write.Full → FillsTable adding disk now) → Finishes adding disk now answer
stopped adding disk now write.Disk answer is failed full = rw is (failed refl)
stopped adding disk now write.Full answer is failed full = rw is (full refl)

module _ (text : List ℕ) (columns : List Column) (batch : ℕ) (rows : List Tuple) (journal : JournalState) (old mid new : DiskState) where
  abbrev unmade : Addition
  unmade = record { found = NotMade; text = text; columns = columns; batch = batch; rows = rows }

  abbrev made : Addition
  made = record { found = Made journal; text = text; columns = columns; batch = batch; rows = rows }

  -- to a table that was made for them
  pub made_finishes : {X : Type 0} → journal ≡ new_journal text → Elapses old mid → (IsTrue old.honest → IsSettled mid)
      → (IsTrue old.honest → HoldsUpTo journal.gate mid.file text [] false) → (answer : Result X (Stop WriteFault)) → answer ≢ Err Memory
      → Finishes made mid new answer → Finishes unmade old new answer
  made_finishes is time settled empty (Ok x) memory ends = record {
    of_columns = ends.of_columns;
    room = subst (λ gate. AllHaveRoom gate (cut batch rows)) (ap (λ (j : JournalState). j.gate) is) ends.room;
    settled = λ honest. ends.settled (time.honest ∙ honest);
    holds = λ honest olds at. rw at.1 (ends.holds (time.honest ∙ honest) [] (empty honest));
  }
  made_finishes is time settled empty (Err Memory) memory ends = absurd (memory refl)
  made_finishes is time settled empty (Err (Fault write.Full)) memory fills = record {
    count = fills.count;
    full = subst (λ gate. IsFullBehind gate (cut batch rows) fills.count) (ap (λ (j : JournalState). j.gate) is) fills.full;
    of_columns = fills.of_columns;
    settled = λ honest _. fills.settled (time.honest ∙ honest) (settled honest);
    holds = λ honest olds at. rw at.1 (fills.holds (time.honest ∙ honest) [] (empty honest));
  }
  made_finishes is time settled empty (Err (Fault write.Disk)) memory fails = record {
    rose = rose_later old.faults mid.faults new.faults time.faults fails.rose;
    stops = λ _ honest olds at. rw at.1 (⊎_elim (λ first. inl (at.0, first.1)) (λ between. inr between) (fails.stops (settled honest) (time.honest ∙ honest) [] (empty honest)));
  }
