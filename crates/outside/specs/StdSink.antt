-- A sink over a writer of std as its users see it: its count of failures.
use Rattle.std.specs.Prelude.{ℕ, None}
use Rattle.outside.specs.Counts.{kept_count, kept_few}
use Rattle.outside.specs.Sink.{SinkState}

-- the state that it is in: of the bytes written nothing is told
abbrev pub state_of : ℕ → SinkState
state_of faults = record { written = None; faults = kept_count faults; few_faults = kept_few faults }
