use Rattle.expr_grammar.proofs.reader.take.Goals as goal

pub returns-in-Is : goal.returns-in-Is
returns-in-Is c = rw c.in-Is.is (c.take_is.ensures _)

pub returns-in-IsNot : goal.returns-in-IsNot
returns-in-IsNot c = rw c.in-IsNot.is (c.take_is_not.ensures _)

pub returns-in-Scaled : goal.returns-in-Scaled
returns-in-Scaled c = rw c.in-Scaled.is (c.take_scaled.ensures _)

pub returns-in-Digit : goal.returns-in-Digit
returns-in-Digit c = rw c.in-Digit.is (c.take_digit.ensures _ c.args.kind)
