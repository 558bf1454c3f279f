-- What a node takes, and what fits.
use Rattle.std.specs.Prelude.{◌≡◌, List, map, slice_get, Option, All, IfSome, ⊤}
use Rattle.tuple_schema.specs.declared.schema.Column.{Column}
use Rattle.tuple_schema.specs.Schemas.{Fits}
use Rattle.row_batch.specs.Packing.{BatchOf}
use Rattle.list_algebra.specs.Bags.{Tuple}
use Rattle.flow_types.specs.declared.node.Kind.{Kind}
use Rattle.flow_types.specs.declared.node.Kind.TheVariants as kind
use Rattle.flow_types.specs.declared.node.Node.{Node}
use Rattle.flow_types.specs.Flows.{number_of, columns_of}
use Rattle.flow_types.specs.Linked.{IsLinked}
use Rattle.kind_laws.specs.Wholes.{Lists}

-- a node over these inputs takes these batches, which have the inputs' columns, one by one
pub record CanTake (n : Node) (inputs : List Node) (batches : List BatchOf) : Type 0 where
  pub linked : IsLinked n inputs
  pub columns : map (λ b. b.columns) batches ≡ columns_of inputs

-- the batch of a source, where there is one, has its columns
abbrev pub HasOwnColumns : Kind → List Column → Option BatchOf → Type 0
HasOwnColumns (kind.Source file) columns batch = IfSome batch (λ b. b.columns ≡ columns)
HasOwnColumns _ columns batch = ⊤

-- of these batches, one for each number, that of each source does
abbrev pub SourcesHaveColumns : List Node → List BatchOf → Type 0
SourcesHaveColumns nodes batches = All (λ n. HasOwnColumns n.kind n.schema (slice_get batches (number_of n))) nodes

-- the rows of a source's list fit its columns
abbrev pub OwnFit : Kind → List Column → List Tuple → Type 0
OwnFit (kind.Source file) columns rows = All (Fits columns) rows
OwnFit _ columns rows = ⊤

-- those of each source do
abbrev pub SourcesFit : List Node → Lists → Type 0
SourcesFit nodes truth = All (λ n. OwnFit n.kind n.schema (truth n)) nodes
