use Rattle.std.proofs.Common.{Err, refl, ap, inr}
use Rattle.std.specs.Bool.{⊤}
use Rattle.load_runner.proofs.Added.{stopped}
use Rattle.load_runner.proofs.finish.append.Goals as goal

pub returns-in-Ok-clause-finishes : goal.returns-in-Ok-clause-finishes
returns-in-Ok-clause-finishes g c = λ text. record {
  of_columns = c.in-Ok.ensures.of_columns;
  room = c.in-Ok.ensures.all_fit;
  settled = c.in-Ok.ensures.settled;
  holds = λ honest olds at. (c.in-Ok.ensures.done honest text olds at).holds;
}

pub returns-in-Err-clause-finishes : goal.returns-in-Err-clause-finishes
returns-in-Err-clause-finishes g c = λ text. stopped {X = ⊤} _ _ _ c.in-Err.fault _ refl
    (λ is. record {
      rose = c.in-Err.ensures.cause (ap Err is);
      stops = λ settled honest olds at. inr (c.in-Err.ensures.stops (ap Err is) honest settled text olds at);
    })
    (λ is.
    let filled = c.in-Err.ensures.full (ap Err is) in
    record {
      count = filled.count;
      full = filled.full;
      of_columns = filled.added.of_columns;
      settled = filled.added.settled;
      holds = λ honest olds at. (filled.added.holds honest text olds at).holds;
    })
