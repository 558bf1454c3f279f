-- How many bytes of its files a load may ask for.
use Rattle.std.specs.Prelude.{ℕ, List, length, map, Option, Some, None}
use Rattle.std.specs.List.{range_with_len, sum_by}
use Rattle.outside.specs.Depot.{Files, file_at}
use Rattle.outside.specs.Whole.{size_of}
use Rattle.flow_types.specs.declared.node.Kind.{Kind}
use Rattle.flow_types.specs.declared.node.Kind.TheVariants as kind
use Rattle.flow_types.specs.declared.node.Node.{Node}
use Rattle.load_runner.specs.Sources.{numbered}

-- of a source its file, and of any other node nothing
abbrev pub asked_at : Files → Kind → ℕ
asked_at files (kind.Source source) = size_of (file_at files source.file)
asked_at files _ = 0

-- the same of a node that may be there
abbrev pub asked_of : Files → Option Node → ℕ
asked_of files None = 0
asked_of files (Some n) = asked_at files n.kind

-- of a flow whose table isn't ended: of each node once, by number
abbrev pub asked_bytes : List Node → Files → ℕ
asked_bytes nodes files = sum_by (asked_of files) (map (numbered nodes) (range_with_len 0 (length nodes)))
