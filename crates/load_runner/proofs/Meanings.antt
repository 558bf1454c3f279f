-- What a flow means over files, and the runs over their contents.
use Rattle.std.proofs.Common.{◌≡◌, ◌-◌, ◌∙◌, ℕ, min, List, [], ◌∷◌, ◌++◌, length, map, drop, All, Bool, true, false, ◌&&◌, Option, Some, Result, Ok, option_map, refl, sym, ap, subst, inl, inr, arith}
use Rattle.std.specs.List.{filter, list_all}
use Rattle.std.proofs.Math.Dec.{eqb-suc-zero}
use Rattle.std.proofs.lemmas.Bool.{cases_lt}
use Rattle.std.proofs.lemmas.List.{length-drop}
use Rattle.std.proofs.lemmas.List.Elements.{All-nil, All-head, All-tail, All-cons, filter-append}
use Rattle.std.proofs.lemmas.Option.{same_Some}
use Rattle.list_algebra.specs.Bags.{Tuple}
use Rattle.list_algebra.specs.Trees.{Tree, node, Trees, no_trees, tree, root_of, roots_of, in_order, all_in_order, EachNode, EachNodeBelow}
use Rattle.outside.specs.Words.{Files}
use Rattle.flow_types.specs.declared.node.Source.{Source}
use Rattle.flow_types.specs.declared.node.Kind.{Kind}
use Rattle.flow_types.specs.declared.node.Kind.TheVariants as kind
use Rattle.flow_types.specs.declared.node.Node.{Node}
use Rattle.flow_types.specs.Flows.{TypedFlow, root_in, tree_of, columns_of, keeps_order, has_fixed_root}
use Rattle.flow_types.specs.Linked.{IsOver, IsLinkedOver, IsFlow}
use Rattle.kind_laws.specs.Wholes.{Lists, by_number, taken, list_of, lists_of, whole_of}
use Rattle.kind_laws.specs.Promises.{IsListed, ListsTruth, IsListing}
use Rattle.kind_laws.proofs.Inputs.{source_or_over}
use Rattle.kind_laws.specs.Runs.{Yield, at_root}
use Rattle.load_runner.specs.declared.fault.SourceFault.{SourceFault}
use Rattle.load_runner.specs.Jobs.{IsMade}
use Rattle.load_runner.specs.Reports.{count_on, counts_of, report_of, skip_counts, skip_report}
use Rattle.load_runner.specs.Sources.{IsMeaning}
use Rattle.load_runner.specs.Trimmed.{is_root, IsTrimmedRun, Resumes}
use Rattle.load_runner.proofs.Runs.{all_left, all_right, Rooted, rooted, Trimming, trimming, brings_behind}

-- Sources that keep their order list the truth.

own_listed : (truth listing : List Tuple) (k : Kind) (source : Source) → k ≡ kind.Source source
    → keeps_order k ≡ true → ListsTruth k truth listing → taken listing [] ≡ taken truth []
own_listed truth listing k source is ordered listed =
    let seq : source.seq ≡ true = subst (λ j. keeps_order j ≡ true) is ordered in
    let one : IsListed source.seq truth listing = subst (λ j. ListsTruth j truth listing) is listed in
    let same : listing ≡ truth = rw seq at one in
    ap (λ rows. rows ∷ []) same

own_same : (truth listing : Lists) (n : Node) (k : Kind) (trees : Trees Node) → n.kind ≡ k → IsOver k (columns_of (roots_of trees)) n.schema
    → keeps_order k ≡ true → ListsTruth k (truth n) (listing n)
    → taken (listing n) (lists_of truth trees) ≡ taken (truth n) (lists_of truth trees)
own_same truth listing n k no_trees is over ordered listed = elim (source_or_over k [] n.schema over) [
  | inl source ↦ own_listed (truth n) (listing n) k source.0 source.1 ordered listed
  | inr some ↦ absurd (omega arith)
]
own_same truth listing n k (tree first rest) is over ordered listed = refl

abbrev IsOrdered : Node → Type 0
IsOrdered n = keeps_order n.kind ≡ true

abbrev Lists_ : Lists → Lists → Node → Type 0
Lists_ truth listing n = ListsTruth n.kind (truth n) (listing n)

mutual
  same_list : (truth listing : Lists) (t : Tree Node) → EachNode IsLinkedOver t → All IsOrdered (in_order t) → All (Lists_ truth listing) (in_order t)
      → list_of listing t ≡ list_of truth t
  same_list truth listing (node n trees) linked ordered listed =
      let inputs = same_lists truth listing trees linked.1 (all_left IsOrdered (all_in_order trees) (n ∷ []) ordered) (all_left (Lists_ truth listing) (all_in_order trees) (n ∷ []) listed) in
      let own = own_same truth listing n n.kind trees refl linked.0.over
      (All-head IsOrdered n [] (all_right IsOrdered (all_in_order trees) (n ∷ []) ordered))
      (All-head (Lists_ truth listing) n [] (all_right (Lists_ truth listing) (all_in_order trees) (n ∷ []) listed)) in
      rw (inputs, own) refl

  same_lists : (truth listing : Lists) (trees : Trees Node) → EachNodeBelow IsLinkedOver trees → All IsOrdered (all_in_order trees) → All (Lists_ truth listing) (all_in_order trees)
      → lists_of listing trees ≡ lists_of truth trees
  same_lists truth listing no_trees linked ordered listed = refl
  same_lists truth listing (tree first rest) linked ordered listed =
      let one = same_list truth listing first linked.0 (all_left IsOrdered (in_order first) (all_in_order rest) ordered) (all_left (Lists_ truth listing) (in_order first) (all_in_order rest) listed) in
      let others = same_lists truth listing rest linked.1 (all_right IsOrdered (in_order first) (all_in_order rest) ordered) (all_right (Lists_ truth listing) (in_order first) (all_in_order rest) listed) in
      rw (one, others) refl

all_pass : {X : Type 0} (p : X → Bool) (xs : List X) → list_all p xs ≡ true → All (λ x. p x ≡ true) xs
all_pass p [] all = All-nil (λ x. p x ≡ true)
all_pass p (x ∷ xs) all = All-cons (λ y. p y ≡ true) x xs (and_left (p x) (list_all p xs) all) (all_pass p xs (and_right (p x) (list_all p xs) all))
  where
    and_left : (a b : Bool) → (a && b) ≡ true → a ≡ true
    and_left true b h = refl
    and_left false b h = cc

    and_right : (a b : Bool) → (a && b) ≡ true → b ≡ true
    and_right true b h = h
    and_right false b h = cc

abbrev pub LastIsRoot : Type 0
LastIsRoot = (flow : TypedFlow) (is : IsFlow flow) → root_in flow.nodes ≡ Some (root_of is.tree)

abbrev Contents : List (List Tuple) → Result (List (List Tuple)) SourceFault
Contents found = Ok found

pub same_contents : (one two : List (List Tuple)) → Contents one ≡ Contents two → one ≡ two
same_contents one two is = cc

module _ (flow : TypedFlow) (is : IsFlow flow) where
  tree_is : (t : Tree Node) → tree_of flow.nodes ≡ Some t → is.tree ≡ t
  tree_is t made = same_Some _ _ (sym is.made ∙ made)

  whole_is : (lists : Lists) (whole : List Tuple) → whole_of flow.nodes lists ≡ Some whole → list_of lists is.tree ≡ whole
  whole_is lists whole makes = same_Some _ _ (sym (ap (option_map (list_of lists)) is.made) ∙ makes)

  listing_same : has_fixed_root flow.nodes ≡ true → (truth listing : Lists) → IsListing flow.nodes truth listing → list_of listing is.tree ≡ list_of truth is.tree
  listing_same fixed truth listing listed =
      same_list truth listing is.tree is.linked
      (subst (All IsOrdered) (sym is.all) (all_pass (λ n. keeps_order n.kind) flow.nodes fixed))
      (subst (All (Lists_ truth listing)) (sym is.all) listed)

  -- what the flow makes of the contents of files is what it means over them
  pub made_is_meaning : has_fixed_root flow.nodes ≡ true → (files : Files) (told : Option Files) → told ≡ Some files → (whole made : List Tuple)
      → IsMeaning flow files whole → IsMade flow told made → made ≡ whole
  made_is_meaning fixed files told are whole made means makes =
      let contents : makes.contents ≡ means.kept.contents = same_contents makes.contents means.kept.contents (sym (makes.are files are) ∙ means.kept.are) in
      let own : list_of (by_number means.kept.contents) is.tree ≡ made = whole_is (by_number means.kept.contents) made (rw contents at makes.makes) in
      sym own ∙ listing_same fixed means.truth (by_number means.kept.contents) means.kept.listed ∙ whole_is means.truth whole means.makes

  -- any trimmed run over a listing of a truth brings what stands behind the committed rows in the meaning
  pub rest_is : LastIsRoot → has_fixed_root flow.nodes ≡ true → (truth : Lists) (whole : List Tuple) → whole_of flow.nodes truth ≡ Some whole
      → (committed : List Tuple) (listing : Lists) (t : Tree Node) (run : Tree Yield) → IsListing flow.nodes truth listing → tree_of flow.nodes ≡ Some t
      → IsTrimmedRun flow committed listing t run → at_root run ≡ drop (length committed) whole
  rest_is last fixed truth whole makes committed listing t run listed made trimmed =
      let same : is.tree ≡ t = tree_is t made in
      let of_tree : IsTrimmedRun flow committed listing is.tree run = subst (λ (s : Tree Node). IsTrimmedRun flow committed listing s run) (sym same) trimmed in
      brings_behind flow committed listing is.tree run (rooted flow is (last flow is)) of_tree
      ∙ ap (drop (length committed)) (listing_same fixed truth listing listed ∙ whole_is truth whole makes)

-- Of the rows that a flow makes of contents there is a trimmed run.

filter_none : {X : Type 0} (p : X → Bool) (xs : List X) → All (λ x. p x ≡ false) xs → filter p xs ≡ []
filter_none p [] none = refl
filter_none p (x ∷ xs) none = rw (All-head (λ y. p y ≡ false) x xs none) (filter_none p xs (All-tail (λ y. p y ≡ false) x xs none))

dropped_is : (w c : ℕ) → w - (w - c) ≡ min c w
dropped_is w c = elim (cases_lt c w) [
  | inl less ↦ omega arith
  | inr more ↦ omega arith
]

module _ (flow : TypedFlow) (committed : List Tuple) (lists : Lists) (t : Tree Node) (r : Trimming flow committed lists t) (is : Rooted flow t) where
  counted : (run : Tree Yield) → r.run ≡ run → filter (λ (y : Yield). is_root flow.nodes y.node) (in_order run) ≡ root_of run ∷ []
  counted (node y below) same =
      let inner = r.inner y below same in
      let own : is_root flow.nodes y.node ≡ true = subst (λ (n : Node). is_root flow.nodes n ≡ true) (sym r.root ∙ ap (λ (s : Tree Yield). (root_of s).node) same) is.root in
      filter-append (λ (z : Yield). is_root flow.nodes z.node) (all_in_order below) (y ∷ [])
      ∙ ap (λ (ys : List Yield). ys ++ filter (λ (z : Yield). is_root flow.nodes z.node) (y ∷ [])) (filter_none (λ (z : Yield). is_root flow.nodes z.node) (all_in_order below) inner)
      ∙ rw own refl

-- a trimmed run, by the whole list of the root
pub record Resumed (flow : TypedFlow) (told : Option Files) (committed whole : List Tuple) : Type 0 where
  pub run : Tree Yield
  pub resumes : Resumes flow told committed run
  pub rest : at_root run ≡ drop (length committed) whole
  pub reported : (root : Node) → Some root ≡ root_in flow.nodes → report_of flow committed run ≡ skip_report root.id (length committed) (length whole)

module _ (flow : TypedFlow) (is : IsFlow flow) (last : LastIsRoot) (committed : List Tuple) (lists : Lists) where
  abbrev r : Trimming flow committed lists is.tree
  r = trimming flow committed lists is.tree (rooted flow is (last flow is))

  reports : (some : List Tuple) → committed ≡ some → (whole : List Tuple) → list_of lists is.tree ≡ whole → (root : Node) → Some root ≡ root_in flow.nodes
      → counts_of flow some r.run ≡ skip_counts root.id (length some) (length whole)
  reports [] same whole own root at = refl
  reports (c ∷ cs) same whole own root at =
      let id : (root_of r.run).node ≡ root = r.root ∙ same_Some _ _ (sym (last flow is) ∙ sym at) in
      let passed : length (root_of r.run).left ≡ length whole - length (c ∷ cs) =
      ap length r.left ∙ length-drop (length committed) (list_of lists is.tree) ∙ rw (own, same) refl in
      let given : length (root_of r.run).given ≡ length whole = ap length (r.given ∙ own) in
      let one = counted flow committed lists is.tree r (rooted flow is (last flow is)) r.run refl in
      ap (map count_on) one ∙ rw (id, passed, given, dropped_is (length whole) (length (c ∷ cs)), eqb-suc-zero (length cs)) refl

pub resumed : (flow : TypedFlow) (is : IsFlow flow) → LastIsRoot → (told : Option Files) (committed whole : List Tuple) → IsMade flow told whole → Resumed flow told committed whole
resumed flow is last told committed whole makes =
    let lists = by_number makes.contents in
    let r : Trimming flow committed lists is.tree = trimming flow committed lists is.tree (rooted flow is (last flow is)) in
    let own : list_of lists is.tree ≡ whole = whole_is flow is lists whole makes.makes in
    record {
      run = r.run;
      resumes = record { contents = makes.contents; are = makes.are; tree = is.tree; made = is.made; trimmed = r.trimmed };
      rest = r.left ∙ ap (drop (length committed)) own;
      reported = λ root at.
          let added : length (at_root r.run) ≡ length whole - length committed = ap length (r.left ∙ ap (drop (length committed)) own) ∙ length-drop (length committed) whole in
          rw (added, reports flow is last committed lists committed refl whole own root at) refl;
    }
