-- A writer of `csv` over a text in memory.
use Rattle.std.specs.Prelude.{◌≡◌, ℕ, List, ◌++◌, false}
use Rattle.std.specs.declared.vec.Vec.{Vec}
use Rattle.csv.specs.declared.writer.Writer.{Writer}
use Rattle.csv.specs.Writing.{default_writer, writer_setup, fields_written, has_written, writer_under, writer_pending}

-- the text so far: what lies in memory, and then what waits in the writer
abbrev pub so_far : {A : Type 0} → Writer (Vec ℕ A) → List ℕ
so_far writer = (writer_under writer).items ++ writer_pending writer

-- a writer with the default settings, which stands between two records
pub record IsBetween {A : Type 0} (writer : Writer (Vec ℕ A)) : Type 0 where
  pub setup : writer_setup writer ≡ default_writer
  pub no_field : fields_written writer ≡ 0
  pub no_byte : has_written writer ≡ false
