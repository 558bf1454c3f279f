-- How what there is to be done follows from what each step was told.
use Rattle.std.proofs.Common.{◌≡◌, ℕ, List, Ok, Err, codes, refl}
use Rattle.outside.specs.Depot.{Files, file_at}
use Rattle.outside.specs.Whole.{found_in}
use Rattle.workflow_file.specs.declared.raw.RawFlow.{RawFlow}
use Rattle.flow_types.specs.Flows.{TypedFlow}
use Rattle.commands.specs.declared.reason.Reason.{Reason}
use Rattle.commands.specs.Commands.{Asked, FlowText, job_for}
use Rattle.commands.specs.Verdict.{text_in, raw_in, typed_of, flow_of_text, flow_of_files, raw_of_files, asked_over}

pub not_parsed : (text : List ℕ) (e : Reason) → raw_in text ≡ Err e → flow_of_text text ≡ Err e
unfolding flow_of_text
not_parsed text e is = rw is refl

module _ (text : List ℕ) (raw : RawFlow) (parsed : raw_in text ≡ Ok raw) where
  pub not_typed : (e : Reason) → typed_of raw ≡ Err e → flow_of_text text ≡ Err e
  unfolding flow_of_text
  not_typed e is = rw (parsed, is) refl

  pub flow_read : (flow : TypedFlow) → typed_of raw ≡ Ok flow → flow_of_text text ≡ Ok (record { text = text; flow = flow })
  unfolding flow_of_text
  flow_read flow is = rw (parsed, is) refl

pub raw_refused : (files : Files) (e : Reason) → text_in (found_in 65536 (file_at files (codes "flow.toml"))) ≡ Err e → raw_of_files files ≡ Err e
unfolding raw_of_files
raw_refused files e is = rw is refl

pub raw_read : (files : Files) (text : List ℕ) → text_in (found_in 65536 (file_at files (codes "flow.toml"))) ≡ Ok text → raw_of_files files ≡ raw_in text
unfolding raw_of_files
raw_read files text is = rw is refl

pub text_refused : (files : Files) (e : Reason) → text_in (found_in 65536 (file_at files (codes "flow.toml"))) ≡ Err e → flow_of_files files ≡ Err e
unfolding flow_of_files
text_refused files e is = rw is refl

pub text_read : (files : Files) (text : List ℕ) → text_in (found_in 65536 (file_at files (codes "flow.toml"))) ≡ Ok text → flow_of_files files ≡ flow_of_text text
unfolding flow_of_files
text_read files text is = rw is refl

pub asked_refused : (command : Asked) (files : Files) (e : Reason) → flow_of_files files ≡ Err e → asked_over command files ≡ Err e
unfolding asked_over
asked_refused command files e is = rw is refl

pub asked_read : (command : Asked) (files : Files) (flow : FlowText) → flow_of_files files ≡ Ok flow → asked_over command files ≡ Ok (job_for command flow)
unfolding asked_over
asked_read command files flow is = rw is refl
