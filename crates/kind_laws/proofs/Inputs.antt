-- A node that is no source has inputs.
use Rattle.std.proofs.Common.{◌≡◌, ◌≤◌, List, [], ◌∷◌, length, ◌⊎◌, inl, inr, refl, ap, arith}
use Rattle.tuple_schema.specs.declared.schema.Column.{Column}
use Rattle.flow_types.specs.declared.node.Source.{Source}
use Rattle.flow_types.specs.declared.node.Kind.{Kind}
use Rattle.flow_types.specs.declared.node.Kind.TheVariants as kind
use Rattle.flow_types.specs.Linked.{IsOver}

some_of : (inputs : List (List Column)) (columns : List Column) → inputs ≡ columns ∷ [] → 1 ≤ length inputs
some_of inputs columns are = let len = ap length are in omega arith

-- a kind is a source's, or stands over something
pub source_or_over : (k : Kind) (inputs : List (List Column)) (columns : List Column) → IsOver k inputs columns
    → ((file : Source) × (k ≡ kind.Source file)) ⊎ (1 ≤ length inputs)
source_or_over (kind.Source file) inputs columns over = inl (file, refl)
source_or_over (kind.Select test) inputs columns over = inr (some_of inputs columns over.0)
source_or_over (kind.Project from) inputs columns over = let one = over.0 in inr (omega arith)
source_or_over (kind.Map sets) inputs columns over = let one = over.0 in inr (omega arith)
source_or_over (kind.Join left right) inputs columns over = let two = over.0 in inr (omega arith)
source_or_over (kind.Lookup left right) inputs columns over = let two = over.0 in inr (omega arith)
source_or_over (kind.Aggregate by makes order) inputs columns over = let one = over.0 in inr (omega arith)
source_or_over (kind.Sort by) inputs columns over = inr (some_of inputs columns over.0)
source_or_over kind.Distinct inputs columns over = inr (some_of inputs columns over)
source_or_over (kind.Union any) inputs columns over = inr over.1
