-- What sources promise of the truth that their files list.
use Rattle.std.specs.Prelude.{◌≡◌, List, All, Bool, true, false, IfSome, ⊤}
use Rattle.list_algebra.specs.Bags.{Tuple, SameBag}
use Rattle.list_algebra.specs.Keys.{KeepsKey}
use Rattle.list_algebra.specs.Properties.{IsClustered}
use Rattle.flow_types.specs.declared.node.Kind.{Kind}
use Rattle.flow_types.specs.declared.node.Kind.TheVariants as kind
use Rattle.flow_types.specs.declared.node.Node.{Node}
use Rattle.kind_laws.specs.Wholes.{Lists}
use Rattle.kind_laws.specs.Laws.{SourcesFit}

-- the list of a source keeps its key, and is clustered by the columns by which it is grouped
abbrev pub KeepsSource : Kind → List Tuple → Type 0
KeepsSource (kind.Source source) rows = IfSome source.key (λ key. KeepsKey key rows)
    × IfSome source.grouped (λ cols. IsClustered cols rows)
KeepsSource _ rows = ⊤

-- the truth's lists fit their sources' columns, and keep what the sources declare
pub record KeepsPromises (nodes : List Node) (truth : Lists) : Type 0 where
  pub fits : SourcesFit nodes truth
  pub keeps : All (λ n. KeepsSource n.kind (truth n)) nodes

-- a source that keeps its order lists the truth's list, and any other one a permutation of it
abbrev pub IsListed : Bool → List Tuple → List Tuple → Type 0
IsListed true truth listing = listing ≡ truth
IsListed false truth listing = SameBag listing truth

-- the same by kind: of a node that is no source nothing is listed
abbrev pub ListsTruth : Kind → List Tuple → List Tuple → Type 0
ListsTruth (kind.Source source) truth listing = IsListed source.seq truth listing
ListsTruth _ truth listing = ⊤

-- a listing of the truth, by each source
abbrev pub IsListing : List Node → Lists → Lists → Type 0
IsListing nodes truth listing = All (λ n. ListsTruth n.kind (truth n) (listing n)) nodes
