-- The words of clauses, from one place.
pub use Rattle.commands.specs.Arguments.{are_digits, batch_in, batch_number, begins_with_zero, default_batch}
pub use Rattle.commands.specs.Arguments.{given_batch, is_dump, number_of}
pub use Rattle.commands.specs.Commands.{IsWithin, asked_in, job_for, loads}
pub use Rattle.commands.specs.Reasons.{IsAsked, Tells, TellsView, exit_status_of, status_at, status_of}
pub use Rattle.commands.specs.Reasons.{step_of}
pub use Rattle.commands.specs.Texts.{IsMade, cause_text, csv_text, edge_line, fault_name, fault_text}
pub use Rattle.commands.specs.Texts.{field_text, name_of, place_text, report_text, shape_text, source_text}
pub use Rattle.commands.specs.Stops.{reason_of_dump, reason_of_stop, reason_of_table}
pub use Rattle.commands.specs.Lines.{line_text}
pub use Rattle.commands.specs.Verdict.{AsksFor, built_in, declared_names, flow_of_files, flow_of_text}
pub use Rattle.commands.specs.Verdict.{known_names, raw_in, text_in, typed_in, typed_of}
pub use Rattle.commands.specs.Refusals.{HasLineBy, HasLineOver, in_reasons, line_in, names_in}
pub use Rattle.commands.specs.Found.{asked_of, flow_text_of}
pub use Rattle.commands.specs.Devices.{devices}
pub use Rattle.commands.specs.Dumps.{Dumps}
pub use Rattle.commands.specs.Promises.{Begins, Does, Ends, IsTold, KeepsOn, LoadsAndTells}
pub use Rattle.commands.specs.Answers.{GainsLine, Notes, answer_of, ending_status}
