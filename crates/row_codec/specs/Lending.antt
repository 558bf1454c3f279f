-- Readings of whose values only a part is asked, as what a reference lends.
use Rattle.std.specs.Prelude.{Result, Ok, Err}

-- the reading of a part or a view of the value, with the same fault
abbrev pub mapped : {X Y F : Type 0} → (X → Y) → Result X F → Result Y F
mapped view (Ok x) = Ok (view x)
mapped view (Err fault) = Err fault

-- that there is a value, or the fault
abbrev pub tested : {X F : Type 0} → Result X F → Result (Unit {0}) F
tested reading = mapped (λ x. tt) reading
