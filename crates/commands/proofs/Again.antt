-- A run, and the next one over what a crash left.
use Rattle.std.proofs.Common.{◌≡◌, ◌∙◌, ◌⊎◌, inl, inr, ⊎_elim, ℕ, List, [], length, false, IsTrue, Option, Some, None, Ok, Err, Result, refl, ap, subst, arith}
use Rattle.outside.specs.Words.{Each, DiskState, AtEachMoment, Files, DepotState, Consults, SinkState}
use Rattle.outside.specs.History.{DiskHistory}
use Rattle.outside.specs.Crashes.{images_of}
use Rattle.tuple_schema.specs.declared.value.Value.{Value}
use Rattle.load_runner.specs.Jobs as jobs
use Rattle.load_runner.specs.Jobs.{columns_of}
use Rattle.load_runner.specs.Loads.{Loads}
use Rattle.load_runner.specs.Safe.{IsSafe, HoldsAll}
use Rattle.load_runner.specs.Sources.{IsMeaning}
use Rattle.flow_types.specs.Flows.{has_fixed_root}
use Rattle.commands.specs.declared.reason.Reason.{Reason}
use Rattle.commands.specs.Commands.{Asked, Job, loads}
use Rattle.commands.specs.Promises as promises
use Rattle.commands.specs.Devices.{Devices}
use Rattle.commands.specs.Promises.{LoadsAndTells, Answers, Runs, NotBegun, Promised, IsTold, Ends}
use Rattle.commands.specs.Verdict.{AsksFor}

-- what was asked for is what there was to be done
same_asked : (asked other : Result Job Reason) (old new : Devices) (answer : Option Reason) → asked ≡ other → Answers asked old new answer → Answers other old new answer
same_asked asked other old new answer same = subst (λ (a : Result Job Reason). Answers a old new answer) same

-- a run that was asked for a load made one, from the depot as it was when the flow was read, or was never begun
pub record Loaded (job : jobs.Job) (old new : Devices) (answer : Option Reason) : Type 0 where
  pub found : DepotState
  pub consults : Consults old.depot found
  pub load : LoadsAndTells job (record old { depot = found }) new answer

pub load_of : (words : List (List ℕ)) (files : Files) (job : jobs.Job) (old new : Devices) (answer : Option Reason) → Ends words old new answer → old.depot.files ≡ Some files → AsksFor words files (loads job)
    → (ended : Option Reason) × IsTold ended answer × (Loaded job old new ended ⊎ NotBegun old new ended)
load_of words files job old new answer ends told asks =
    let begins : promises.Begins asks.command old new ends.ended = subst (λ (o : Option Asked). Promised o old new ends.ended) asks.is ends.promised in (
      ends.ended,
      ends.told,
      ⊎_elim
          (λ runs. inl (record {
            found = runs.found;
            consults = runs.consults;
            load = same_asked runs.asked (Ok (loads job)) (record old { depot = runs.found }) new ends.ended (runs.is_asked.is files told ∙ asks.asks) runs.does;
          }))
          (λ none. inr none)
          begins,
    )

-- images that stand for the meaning stay so
pub stays_safe : (words : List (List ℕ)) (files : Files) (job : jobs.Job) (old new : Devices) (answer : Option Reason) → Ends words old new answer → old.depot.files ≡ Some files → AsksFor words files (loads job)
    → (whole : List (List Value)) → IsMeaning job.flow files whole → Each old.disk.may_leave (IsSafe job.text (columns_of job) (has_fixed_root job.flow.nodes) whole [])
    → AtEachMoment old.disk new.disk (IsSafe job.text (columns_of job) (has_fixed_root job.flow.nodes) whole [])
stays_safe words files job old new answer ends told asks whole means each =
    let did = load_of words files job old new answer ends told asks in
    ⊎_elim
    (λ loaded. loaded.load.loads.safe files (loaded.consults.files ∙ told) whole [] means each)
    (λ none is image left. each image (none.untouched.disk.nothing_new.each is image left))
    did.2

-- a load that is told as done over a table that stands for the meaning leaves all of it
done : (job : jobs.Job) (depot still : DepotState) (disk now : DiskState) (files : Files) → depot.files ≡ Some files → (whole : List (List Value)) → IsMeaning job.flow files whole
    → (ended : jobs.Answer) (out then : SinkState) → IsTrue disk.honest → IsSafe job.text (columns_of job) (has_fixed_root job.flow.nodes) whole [] disk.file
    → Loads job depot still disk now ended → promises.Tells job.flow.nodes ended out then None → HoldsAll job.text (columns_of job) (has_fixed_root job.flow.nodes) whole now.file
done job depot still disk now files told whole means (Ok report) out then is safe load tells = load.completes files told whole means is safe now.file (now.reads_image (load.elapses.honest ∙ is))
done job depot still disk now files told whole means (Err stop) out then is safe load tells = absurd (let e = tells.0 in cc)

-- a run that is done over a table that stands for the meaning leaves all of it
pub done_is_whole : (words : List (List ℕ)) (files : Files) (job : jobs.Job) (old new : Devices) → Ends words old new None → old.depot.files ≡ Some files → AsksFor words files (loads job)
    → (whole : List (List Value)) → IsMeaning job.flow files whole → IsTrue old.disk.honest → IsSafe job.text (columns_of job) (has_fixed_root job.flow.nodes) whole [] old.disk.file
    → HoldsAll job.text (columns_of job) (has_fixed_root job.flow.nodes) whole new.disk.file
done_is_whole words files job old new ends told asks whole means is safe =
    let did = load_of words files job old new None ends told asks in
    let none : did.0 ≡ None = told_none did.0 did.1 in
    ⊎_elim
    (λ loaded.
    let load : LoadsAndTells job (record old { depot = loaded.found }) new None = subst (LoadsAndTells job (record old { depot = loaded.found }) new) none loaded.load in
    done job loaded.found new.depot old.disk new.disk files (loaded.consults.files ∙ told) whole means load.ended old.out new.out is safe load.loads load.tells)
    (λ not_begun. absurd (not_done old new (subst (NotBegun old new) none not_begun)))
    did.2
  where
    told_none : (ended : Option Reason) → IsTold ended None → ended ≡ None
    told_none None told = refl
    told_none (Some reason) told = absurd (⊎_elim (λ e. cc) (λ e. let f = e.1 in cc) told)

    not_done : (old new : Devices) → NotBegun old new None → ⊥
    not_done old new not_begun = ⊎_elim (λ e. cc) (λ e. let f = e.0 in cc) not_begun.outside

-- a disk that nothing was written to stands for any meaning
pub fresh : (history : DiskHistory) → history ≡ record { first = []; events = [] } → (job : jobs.Job) (whole : List (List Value)) → Each (images_of history) (IsSafe job.text (columns_of job) (has_fixed_root job.flow.nodes) whole [])
fresh history is job whole image left =
    let empty : image ≡ [] = subst (λ (h : DiskHistory). images_of h image) is left in
    record {
      rows = [];
      ended = false;
      holds = inr (inl (omega (arith, ap length empty)), refl, refl);
      begins = record { others = []; whole_is = refl };
      stands = record { part = λ tuple. omega arith; begins = λ _. record { others = whole; whole_is = refl }; all = λ ended. cc };
    }
