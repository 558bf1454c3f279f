use Rattle.std.proofs.Common.{Ok, Err}
use Rattle.expr_grammar.specs.Machine.{reading}
use Rattle.expr_grammar.proofs.Answering.{given_found, given_fault, given_at, reading_only, reading_exact}
use Rattle.expr_grammar.proofs.parser.parse.Goals as goal

pub returns-clause-found : goal.returns-clause-found
returns-clause-found c = given_found c.args.text.now c.read_text.result (rw c.as_bytes.ensures.value at c.read_text.ensures)

pub returns-clause-only : goal.returns-clause-only
returns-clause-only c = λ x h.
    given_at c.read_text.result (reading c.args.text.now) (Ok x) (reading_only c.args.text.now x h) (rw c.as_bytes.ensures.value at c.read_text.ensures)

pub returns-clause-fault : goal.returns-clause-fault
returns-clause-fault c = given_fault c.args.text.now c.read_text.result (rw c.as_bytes.ensures.value at c.read_text.ensures)

pub returns-clause-exact : goal.returns-clause-exact
returns-clause-exact c = λ f h.
    given_at c.read_text.result (reading c.args.text.now) (Err f) (reading_exact c.args.text.now f h) (rw c.as_bytes.ensures.value at c.read_text.ensures)

pub returns-clause-reads : goal.returns-clause-reads
returns-clause-reads c = rw c.as_bytes.ensures.value at c.read_text.ensures
