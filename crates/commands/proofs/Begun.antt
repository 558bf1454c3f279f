-- How a command begins, of what was found of its flow.
use Rattle.std.proofs.Common.{◌≡◌, ◌≤◌, ◌+◌, inl, inr, Option, Some, Ok, Err, codes, refl, sym}
use Rattle.outside.specs.Words.{Rose, DiskState, Files, file_at, DepotState, Consults, SinkState}
use Rattle.outside.specs.Moments.{no_read}
use Rattle.outside.specs.Whole.{size_of}
use Rattle.commands.specs.declared.reason.Reason.{Reason}
use Rattle.commands.specs.declared.reason.Reason.TheVariants as why
use Rattle.commands.specs.Commands.{Asked, load, dump, FlowText, job_for}
use Rattle.commands.specs.Reasons.{RefusesFlow, IsAsked as IsReadingReason}
use Rattle.commands.specs.Devices.{Devices, devices, Untouched}
use Rattle.commands.specs.Promises.{Fits, Does, Begins}
use Rattle.commands.specs.Verdict.{flow_of_files}
use Rattle.commands.proofs.Verdicts.{asked_refused, asked_read}

-- nothing was asked of the devices
pub untouched : (devices : Devices) → Untouched devices devices
untouched devices = record { depot = refl; disk = no_read devices.disk; out = refl }

fits_refusal : (command : Asked) (reason : Reason) → RefusesFlow reason → Fits command (Err reason)
fits_refusal (load batch) reason refuses = refuses
fits_refusal dump reason refuses = refuses

fits_job : (command : Asked) (flow : FlowText) → Fits command (Ok (job_for command flow))
fits_job (load batch) flow = refl
fits_job dump flow = tt

-- no more than the bytes of `flow.toml` were served
abbrev pub ServesFlow : DepotState → DepotState → Type 0
ServesFlow depot still = (files : Files) → depot.files ≡ Some files → still.served ≤ depot.served + size_of (file_at files (codes "flow.toml"))

module _ (command : Asked) (depot still : DepotState) (disk : DiskState) (out : SinkState) (consults : Consults depot still) (served : ServesFlow depot still) where
  refused_flow : (reason : Reason) → RefusesFlow reason → ((files : Files) → depot.files ≡ Some files → RefusesFlow reason → flow_of_files files ≡ Err reason)
      → Begins command (devices depot disk out) (devices still disk out) (Some reason)
  refused_flow reason refuses tells = inl (record {
    found = still;
    consults = consults;
    served = served;
    asked = Err reason;
    is_asked = record {
      is = λ files told. sym (asked_refused command files reason (tells files told refuses));
      fits = fits_refusal command reason refuses;
    };
    does = (refl, untouched (devices still disk out));
  })

  -- where the flow is refused, or it failed outside
  pub refused : (reason : Reason) → ((files : Files) → depot.files ≡ Some files → RefusesFlow reason → flow_of_files files ≡ Err reason)
      → IsReadingReason {X = Unit {0}} (Rose depot.faults still.faults) (Err reason) → Begins command (devices depot disk out) (devices still disk out) (Some reason)
  refused why.Usage tells cause = absurd cause
  refused why.FlowMissing tells cause = refused_flow why.FlowMissing refl tells
  refused (why.FlowTooLong size) tells cause = refused_flow (why.FlowTooLong size) refl tells
  refused (why.Flow fault) tells cause = refused_flow (why.Flow fault) refl tells
  refused (why.Schema fault) tells cause = refused_flow (why.Schema fault) refl tells
  refused why.NotBuilt tells cause = refused_flow why.NotBuilt refl tells
  refused (why.Source fault) tells cause = absurd cause
  refused (why.NotATable place) tells cause = absurd cause
  refused why.NotMade tells cause = absurd cause
  refused why.WorkflowDiffers tells cause = absurd cause
  refused why.Full tells cause = absurd cause
  refused why.Depot tells cause = inr (record { consults = consults; served = served; untouched = untouched (devices still disk out); outside = inr (refl, cause) })
  refused why.Disk tells cause = absurd cause
  refused why.Sink tells cause = absurd cause
  refused why.Memory tells cause = inr (record { consults = consults; served = served; untouched = untouched (devices still disk out); outside = inl refl })

-- the flow was read, and then what there was to be done was done
pub done : (command : Asked) (flow : FlowText) (old : Devices) (found : DepotState) (new : Devices) (answer : Option Reason) → Consults old.depot found → ServesFlow old.depot found
    → ((files : Files) → old.depot.files ≡ Some files → flow_of_files files ≡ Ok flow)
    → Does (job_for command flow) (record old { depot = found }) new answer → Begins command old new answer
done command flow old found new answer consults served tells did = inl (record {
  found = found;
  consults = consults;
  served = served;
  asked = Ok (job_for command flow);
  is_asked = record { is = λ files told. sym (asked_read command files flow (tells files told)); fits = fits_job command flow };
  does = did;
})
