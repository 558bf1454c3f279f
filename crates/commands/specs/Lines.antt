-- The line of a reason, without where it lies in memory.
use Rattle.std.specs.Prelude.{ℕ, List, string_bytes}
use Rattle.commands.specs.declared.texts.Line.{Line}
use Rattle.commands.specs.declared.texts.Line.TheVariants as line

abbrev pub line_text : Line → List ℕ
line_text (line.Fixed text) = text.now
line_text (line.Made text) = string_bytes text
