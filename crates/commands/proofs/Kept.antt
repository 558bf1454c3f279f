-- What every run keeps, whatever it answers.
use Rattle.std.proofs.Common.{◌≡◌, ◌∙◌, ◌≤◌, ⊎_elim, List, ℕ, Option, Some, None, Result, Ok, Err, ap, sym, subst, arith}
use Rattle.outside.specs.Words.{DepotState, Consults, SinkState}
use Rattle.commit_disk.specs.Crashes.{LosesNothing}
use Rattle.commit_disk.specs.Growth.{nothing_lost}
use Rattle.commands.specs.declared.reason.Reason.{Reason}
use Rattle.commands.specs.Commands.{Asked, Job, loads, dumps, asked_in}
use Rattle.commands.specs.Devices.{Devices, Untouched}
use Rattle.commands.specs.Promises.{Does, Answers, Begins, Promised, KeepsOn}

-- what it keeps, and that no table is lost
pub record Keeping (old new : Devices) : Type 0 where
  pub on : KeepsOn old new
  pub nothing : LosesNothing old.disk new.disk

asks_on : (one two three : DepotState) → Consults one two → Consults two three → Consults one three
asks_on one two three first second = record {
  files = second.files ∙ first.files;
  faults = omega (arith, first.faults, second.faults);
  served = omega (arith, first.served, second.served);
}

same_depot : (one two three : DepotState) → Consults one two → three ≡ two → Consults one three
same_depot one two three consults same = subst (Consults one) (sym same) consults

same_count : (out now : SinkState) → now ≡ out → out.faults ≤ now.faults
same_count out now same = let e = ap (λ (s : SinkState). s.faults) same in omega (arith, e)

untouched_keeps : (old : Devices) (found : DepotState) (new : Devices) → Consults old.depot found → Untouched (record old { depot = found }) new → Keeping old new
untouched_keeps old found new consults still = record {
  on = record {
    files = same_depot old.depot found new.depot consults still.depot;
    time = still.disk.elapses;
    output = same_count old.out new.out still.out;
  };
  nothing = nothing_lost old.disk new.disk still.disk.nothing_new;
}

does_keeps : (job : Job) (old : Devices) (found : DepotState) (new : Devices) (answer : Option Reason) → Consults old.depot found → Does job (record old { depot = found }) new answer → Keeping old new
does_keeps (loads job) old found new answer consults did = record {
  on = record {
    files = asks_on old.depot found new.depot consults did.loads.consults;
    time = did.loads.elapses;
    output = did.output;
  };
  nothing = did.loads.loses_nothing;
}
does_keeps (dumps job) old found new answer consults did = record {
  on = record {
    files = same_depot old.depot found new.depot consults did.depot;
    time = did.elapses;
    output = did.faults;
  };
  nothing = nothing_lost old.disk new.disk did.spares.nothing_new;
}

answers_keep : (asked : Result Job Reason) (old : Devices) (found : DepotState) (new : Devices) (answer : Option Reason) → Consults old.depot found → Answers asked (record old { depot = found }) new answer
    → Keeping old new
answers_keep (Ok job) old found new answer consults did = does_keeps job old found new answer consults did
answers_keep (Err refusal) old found new answer consults did = untouched_keeps old found new consults did.1

-- a command keeps it
pub begins_keeps : (command : Asked) (old new : Devices) (answer : Option Reason) → Begins command old new answer → Keeping old new
begins_keeps command old new answer begins =
    ⊎_elim
    (λ runs. answers_keep runs.asked old runs.found new answer runs.consults runs.does)
    (λ not_begun. untouched_keeps old new.depot new not_begun.consults not_begun.untouched)
    begins

-- the words are a command, and this is what it promises
pub promised : (words : List (List ℕ)) (command : Asked) (old new : Devices) (answer : Option Reason) → Some command ≡ asked_in words → Begins command old new answer → Promised (asked_in words) old new answer
promised words command old new answer is begins = subst (λ (o : Option Asked). Promised o old new answer) is begins

pub unused : (words : List (List ℕ)) (old new : Devices) (answer : Option Reason) → None ≡ asked_in words → Promised None old new answer → Promised (asked_in words) old new answer
unused words old new answer is none = subst (λ (o : Option Asked). Promised o old new answer) is none
