-- One turn of the reader's loop.
use Rattle.std.proofs.Common.{◌≡◌, ℕ, ◌+◌, ◌<◌, List, length, drop, slice_index, true, Result, Ok, sym, ap, ◌∙◌}
use Rattle.std.proofs.lemmas.List.{drop_more}
use Rattle.tuple_schema.specs.Stops.{Fails}
use Rattle.tuple_schema.specs.declared.memory.Stop.{Stop}
use Rattle.tuple_schema.specs.declared.memory.Stop.TheVariants as stop
use Rattle.expr_grammar.specs.declared.fault.ExprFault.{ExprFault}
use Rattle.expr_grammar.specs.declared.expr.Expr.{Expr}
use Rattle.expr_grammar.specs.Machine.{State, read, stepped}
use Rattle.expr_grammar.proofs.Bytes.{read-goes, read-fails}

pub turn : (text : List ℕ) (at : ℕ) (s t : State) (u v : List ℕ) (whole : Result Expr ExprFault) → at < length text
    → stepped true at s u (slice_index text at) ≡ Ok (t, v) → read true at s u (drop at text) ≡ whole → read true (at + 1) t v (drop (at + 1) text) ≡ whole
turn text at s t u v whole h step same =
    sym (read-goes true at s t u v (slice_index text at) (drop (at + 1) text) step) ∙ ap (read true at s u) (sym (drop_more text at 0 h)) ∙ same

pub turn_fails : (text : List ℕ) (at : ℕ) (s : State) (u : List ℕ) (whole : Result Expr ExprFault) (e : Stop ExprFault) → at < length text
    → Fails e (stepped true at s u (slice_index text at)) → read true at s u (drop at text) ≡ whole → Fails e whole
turn_fails text at s u whole stop.Memory h step same = tt
turn_fails text at s u whole (stop.Fault f) h step same =
    sym same ∙ ap (read true at s u) (drop_more text at 0 h) ∙ read-fails true at s u (slice_index text at) (drop (at + 1) text) f step
