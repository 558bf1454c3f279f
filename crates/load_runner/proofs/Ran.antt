-- A load that went on: what a crash leaves at each moment of it, and what stands behind it.
use Rattle.std.proofs.Common.{◌≡◌, ◌≤◌, ◌⊎◌, inl, inr, ⊎_elim, ◌∙◌, ℕ, ◌+◌, List, [], ◌++◌, length, take, drop, All, Bool, true, false, IsTrue, Option, Some, Ok, map, sym, ap, subst, append_assoc, append-nil, arith}
use Rattle.outside.specs.Words.{Each, DiskState, Elapses, IsSettled, Syncs, Spares, OnlyReads, LeftBetween, AtEachMoment, LeavesNothingNew, Files}
use Rattle.outside.specs.Moments.{each_on, each_settled, nothing_new_on, no_time, no_read}
use Rattle.tuple_schema.specs.declared.value.Value.{Value}
use Rattle.tuple_schema.specs.declared.schema.Column.{Column}
use Rattle.commit_disk.specs.declared.attaching.Attached.{Attached}
use Rattle.commit_disk.specs.declared.attaching.Attached.TheVariants.{NotMade, Made}
use Rattle.row_codec.specs.Decoding.{IsRowOf}
use Rattle.commit_disk.specs.Table.{Stored, Holds, HoldsOnce}
use Rattle.commit_disk.specs.Attach.{VerdictsAgree}
use Rattle.commit_disk.specs.RowTables.{holds_rows_once}
use Rattle.commit_disk.specs.Crashes.{Grows, HasStill, HasTable}
use Rattle.commit_disk.specs.Growth.{grows_on, grows_still}
use Rattle.table_write.specs.Cut.{IsCut, cut, together}
use Rattle.table_read.specs.Rows.{table_rows}
use Rattle.table_write.specs.Adds.{with_blocks}
use Rattle.table_write.specs.Rows.{HoldsRows, HoldsFirst, HoldsEnded, stored_of}
use Rattle.row_batch.specs.Packing.{BatchOf}
use Rattle.load_runner.specs.Adding.{Addition, addition, OfOlds, LeavesGrown}
use Rattle.load_runner.specs.Standing.{Begins}
use Rattle.load_runner.specs.Safe.{IsSafe, TableGrows, IsGrown}
use Rattle.load_runner.specs.Sources.{IsMeaning, columns_of_last}
use Rattle.load_runner.specs.Starts.{Starts, IsAt, count_of, is_ended, gate_of}
use Rattle.load_runner.specs.Jobs.{Job, columns_of, run_blocks, IsMade, missing_blocks}
use Rattle.load_runner.specs.Loads.{IsNextGate, AddsRun}
use Rattle.list_algebra.specs.Bags.{Tuple}
use Rattle.flow_types.specs.declared.node.Node.{Node}
use Rattle.flow_types.specs.Flows.{root_in, has_fixed_root}
use Rattle.load_runner.proofs.Meanings.{Resumed}
use Rattle.load_runner.proofs.Standings.{Appended, begins_both, begins_longer, front_stands}
use Rattle.load_runner.proofs.Tables.{rows_once, not_both}
use Rattle.load_runner.proofs.Begun.{Begun, begun, BlocksHold, grown_rows, begins_first, held_first}

-- there is a cut of any rows
abbrev pub CutIs : Type 0
CutIs = (batch : ℕ) (rows : List (List Value)) → 1 ≤ batch → IsCut batch rows (cut batch rows)

-- what an image has still, in rows
abbrev pub StillFirst : Type 0
StillFirst = (text : List ℕ) (old : List ℕ) (image : List ℕ) (columns : List Column) (rows : List (List Value)) →
    HasStill text old image → HoldsFirst text columns rows old → HoldsFirst text columns [] image → HoldsFirst text columns rows image

abbrev pub StillEnded : Type 0
StillEnded = (text : List ℕ) (old : List ℕ) (image : List ℕ) (columns : List Column) →
    HasStill text old image → HoldsEnded text columns old → HoldsEnded text columns image

-- growth of blocks is growth of rows
pub in_rows : StillFirst → StillEnded → (text : List ℕ) (columns : List Column) (old new : DiskState) → Grows text old new
    → Each (LeftBetween old new) (HoldsFirst text columns []) → TableGrows text columns old new
in_rows still ended text columns old new grows held = record {
  keeps_rows = λ u v from le to acknowledged each image it.
      let was = grows.keeps u v from le to image it in
      still text was.0 image columns acknowledged was.2 (each was.0 was.1) (held image (v, omega arith, to, it));
  keeps_end = λ u v from le to each image it.
      let was = grows.keeps u v from le to image it in
      ended text was.0 image columns was.2 (each was.0 was.1);
}

-- of what the flow makes of the contents there is a trimmed run, and it is what the flow means
abbrev pub CanResume : Job → Option Files → Type 0
CanResume job told = (committed whole : List Tuple) → IsMade job.flow told whole → Resumed job.flow told committed whole

abbrev pub MeansOne : Job → Option Files → Type 0
MeansOne job told = (files : Files) → told ≡ Some files → (whole made : List Tuple) → IsMeaning job.flow files whole → IsMade job.flow told made → made ≡ whole

-- the table was read on an honest disk, and then the load went on from what was found
pub record Ran (job : Job) (told : Option Files) (found : Attached) (old mid new : DiskState) : Type 0 where
  pub honest : IsTrue old.honest
  pub began : Elapses old mid
  pub spares : Spares old mid
  pub syncs : Syncs old mid
  pub time : Elapses mid new
  pub starts : Starts found mid.file job.text (columns_of job)
  pub unended : is_ended found ≡ false
  pub moments : (olds : List Stored) → IsAt found mid.file job.text olds
      → OnlyReads mid new ⊎ ((whole : List (List Value)) × IsMade job.flow told whole
      × Each (LeftBetween mid new) (IsGrown mid.file job.text (columns_of job) olds (missing_blocks job.batch (count_of found) whole)))
  pub grows : (olds : List Stored) → IsAt found mid.file job.text olds → OnlyReads mid new ⊎ Grows job.text mid new

-- the rows that are missing behind what was found
abbrev pub missing_of : Job → Attached → List (List Value) → Addition
missing_of job found whole = record {
  found = found;
  text = job.text;
  columns = columns_of job;
  batch = job.batch;
  rows = drop (count_of found) whole;
}

-- what the beginning of a load found, in a table that isn't ended
pub record Began (job : Job) (found : Attached) (old mid : DiskState) : Type 0 where
  pub time : Elapses old mid
  pub spares : Spares old mid
  pub syncs : Syncs old mid
  pub starts : IsTrue old.honest → Starts found mid.file job.text (columns_of job)
  pub unended : is_ended found ≡ false

-- of the root's columns
pub began_of : (job : Job) (found : Attached) (old mid : DiskState) (root : Node) → Some root ≡ root_in job.flow.nodes → Elapses old mid → Spares old mid → Syncs old mid
    → (IsTrue old.honest → Starts found mid.file job.text root.schema) → false ≡ is_ended found → Began job found old mid
began_of job found old mid root last time spares syncs starts unended = record {
  time = time;
  spares = spares;
  syncs = syncs;
  starts = λ honest. subst (λ columns. Starts found mid.file job.text columns) (ap columns_of_last last) (starts honest);
  unended = sym unended;
}

pub missing_is : (job : Job) (found : Attached) (whole : BatchOf) → whole.columns ≡ columns_of job → (from : ℕ) → drop from whole.rows ≡ drop (count_of found) whole.rows
    → (Fact : Addition → Type 0) → Fact (addition found job.text job.batch whole from) → Fact (missing_of job found whole.rows)
missing_is job found whole columns from are Fact fact =
    let Of : List Column → List (List Value) → Type 0 = λ columns rows. Fact (record { found = found; text = job.text; columns = columns; batch = job.batch; rows = rows }) in
    subst (Of (columns_of job)) are (subst (λ columns. Of columns (drop from whole.rows)) columns fact)

-- a load that wrote nothing then
pub only_read : (job : Job) (told : Option Files) (found : Attached) (old mid : DiskState) → Began job found old mid → IsTrue old.honest → Ran job told found old mid mid
only_read job told found old mid start is = record {
  honest = is;
  began = start.time;
  spares = start.spares;
  syncs = start.syncs;
  time = no_time mid;
  starts = start.starts is;
  unended = start.unended;
  moments = λ olds there. inl (no_read mid);
  grows = λ olds there. inl (no_read mid);
}

-- and one that added what was missing
pub has_added : (job : Job) (told : Option Files) (found : Attached) (old mid new : DiskState) → Began job found old mid → Elapses mid new → (whole : List (List Value)) → IsMade job.flow told whole
    → (IsSettled mid → OfOlds (missing_of job found whole) mid (λ olds. LeavesGrown (missing_of job found whole) olds mid new)) → IsTrue old.honest → Ran job told found old mid new
has_added job told found old mid new start time whole made grown is =
    let grown_there = grown (start.syncs.settled is) (start.time.honest ∙ is) in
    record {
      honest = is;
      began = start.time;
      spares = start.spares;
      syncs = start.syncs;
      time = time;
      starts = start.starts is;
      unended = start.unended;
      moments = λ olds there. inr (whole, made, (grown_there olds there).each);
      grows = λ olds there. inr (grown_there olds there).grows;
    }

module _ (agree : VerdictsAgree) (once : HoldsOnce) (law : BlocksHold) (job : Job) (told : Option Files) (found : Attached) (old mid new : DiskState) (ran : Ran job told found old mid new) where
  abbrev columns : List Column
  columns = columns_of job

  abbrev blocks_of : List (List Value) → List (List (List Value))
  blocks_of whole = missing_blocks job.batch (count_of found) whole

  start : Begun found mid.file job.text columns
  start = begun found mid.file job.text columns ran.starts

  still : IsTrue mid.honest
  still = ran.began.honest ∙ ran.honest

  same : mid.file ≡ old.file
  same = ran.syncs.file ran.honest

  settled : IsSettled mid
  settled = ran.syncs.settled ran.honest

  -- where the disk was only read from then on, each image is what a read gave
  read_on_each : (Fact : List ℕ → Type 0) → Fact mid.file → OnlyReads mid new → Each (LeftBetween mid new) Fact
  read_on_each Fact fact reads image left = each_settled Fact mid settled fact image (reads.nothing_new.each still image left)

  kept_after : (acknowledged : List (List Value)) → HoldsFirst job.text columns acknowledged mid.file → Each (LeftBetween mid new) (HoldsFirst job.text columns acknowledged)
  unfolding start
  kept_after acknowledged first =
      let begins = begins_first agree once mid.file job.text columns start.committed acknowledged (is_ended found) start.holds first in
      ⊎_elim
      (read_on_each (HoldsFirst job.text columns acknowledged) first)
      (λ some image it.
      let has = grown_rows law mid.file image job.text columns start.olds start.committed (blocks_of some.0) start.decodes (some.2 image it) in
      held_first image job.text columns start.committed (together (take has.count (blocks_of some.0))) acknowledged has.ended has.holds begins)
      (ran.moments start.olds (start.at ran.unended))

  pub kept_all : (acknowledged : List (List Value)) → Each old.may_leave (HoldsFirst job.text columns acknowledged)
      → AtEachMoment old new (HoldsFirst job.text columns acknowledged)
  kept_all acknowledged each =
      each_on (HoldsFirst job.text columns acknowledged) old mid new ran.began ran.time
      (λ is image it. each image (ran.spares.nothing_new.each is image it))
      (λ _. kept_after acknowledged (subst (HoldsFirst job.text columns acknowledged) (sym same) (each old.file (old.reads_image ran.honest))))

  -- the committed rows, in a table that is safe for a meaning
  begins_whole : IsTrue (has_fixed_root job.flow.nodes) → (whole acknowledged : List (List Value))
      → IsSafe job.text columns (has_fixed_root job.flow.nodes) whole acknowledged old.file → Begins acknowledged start.committed × Begins start.committed whole
  unfolding start
  begins_whole fixed whole acknowledged was =
      let safe : IsSafe job.text columns (has_fixed_root job.flow.nodes) whole acknowledged mid.file = subst (IsSafe job.text columns (has_fixed_root job.flow.nodes) whole acknowledged) (sym same) was in
      let found_rows = rows_once agree once mid.file job.text columns start.committed safe.rows (is_ended found) safe.ended start.holds safe.holds in (
        subst (λ (rows : List (List Value)). Begins acknowledged rows) (sym found_rows.0) safe.begins,
        subst (λ (rows : List (List Value)). Begins rows whole) (sym found_rows.0) (safe.stands.begins fixed),
      )

  pub safe_all : CutIs → Appended → MeansOne job told → IsTrue (has_fixed_root job.flow.nodes) → 1 ≤ job.batch → (files : Files) → told ≡ Some files → (whole acknowledged : List (List Value))
      → IsMeaning job.flow files whole → Each old.may_leave (IsSafe job.text columns (has_fixed_root job.flow.nodes) whole acknowledged)
      → AtEachMoment old new (IsSafe job.text columns (has_fixed_root job.flow.nodes) whole acknowledged)
  unfolding start
  safe_all cuts appended means_one fixed some files are whole acknowledged means each =
      let Safe : List ℕ → Type 0 = IsSafe job.text columns (has_fixed_root job.flow.nodes) whole acknowledged in
      let was : Safe old.file = each old.file (old.reads_image ran.honest) in
      let begins = begins_whole fixed whole acknowledged was in
      each_on Safe old mid new ran.began ran.time
      (λ is image it. each image (ran.spares.nothing_new.each is image it))
      (λ _. ⊎_elim
      (read_on_each Safe (subst Safe (sym same) was))
      (λ grown image it.
      let same_whole : grown.0 ≡ whole = means_one files are whole grown.0 means grown.1 in
      let blocks = blocks_of grown.0 in
      let has = grown_rows law mid.file image job.text columns start.olds start.committed blocks start.decodes (grown.2 image it) in
      let missing : drop (length start.committed) whole ≡ together blocks =
      ap (λ n. drop n whole) (sym start.count) ∙ ap (drop (count_of found)) (sym same_whole) ∙ (cuts job.batch (drop (count_of found) grown.0) some).whole in
      record {
        rows = start.committed ++ together (take has.count blocks);
        ended = has.ended;
        holds = has.holds;
        begins = begins_both acknowledged start.committed _ begins.0 (begins_longer start.committed (together (take has.count blocks)));
        stands = front_stands appended (has_fixed_root job.flow.nodes) whole start.committed blocks has.count has.ended begins.1 missing has.all;
      })
      (ran.moments start.olds (start.at ran.unended)))

  -- nothing is lost of the blocks
  pub grows_blocks : Grows job.text old new
  unfolding start
  grows_blocks =
      let later : Grows job.text mid new = ⊎_elim
      (λ reads. grows_still job.text mid new still reads.nothing_new)
      (λ grows. grows)
      (ran.grows start.olds (start.at ran.unended)) in
      grows_on job.text old mid new ran.honest ran.began ran.time (grows_still job.text old mid ran.honest ran.spares.nothing_new) later

  pub grows_all : StillFirst → StillEnded → Each old.may_leave (HoldsFirst job.text columns []) → TableGrows job.text columns old new
  grows_all first ended each = in_rows first ended job.text columns old new grows_blocks (kept_all [] each ran.honest)

  -- The table that was found.

  pub committed : List (List Value)
  committed = start.committed

  pub olds : List Stored
  olds = start.olds

  pub held : HoldsRows old.file job.text columns committed false
  unfolding start committed
  held =
      subst (λ (b : Bool). HoldsRows old.file job.text columns start.committed b) ran.unended
      (subst (λ (file : List ℕ). HoldsRows file job.text columns start.committed (is_ended found)) same start.holds)

  pub begins_committed : IsTrue (has_fixed_root job.flow.nodes) → (whole : List (List Value))
      → IsSafe job.text columns (has_fixed_root job.flow.nodes) whole [] old.file → Begins committed whole
  unfolding start committed
  begins_committed fixed whole was = (begins_whole fixed whole [] was).1

  pub decodes : table_rows columns (16 + length job.text) olds ≡ Ok committed
  unfolding start committed olds
  decodes = start.decodes

  pub at : IsNextGate old.file job.text olds (gate_of found job.text)
  unfolding start olds
  at = subst (λ (file : List ℕ). IsNextGate file job.text start.olds (gate_of found job.text)) same (start.next ran.unended)

  pub is_at : IsAt found mid.file job.text olds
  unfolding start olds
  is_at = start.at ran.unended

  pub counted : count_of found ≡ length committed
  unfolding start committed
  counted = start.count

  -- in words of the committed rows
  pub in_count : (P : List (List (List Value)) → Type 0) (whole : List (List Value)) → P (blocks_of whole) → P (missing_blocks job.batch (length committed) whole)
  in_count P whole = subst (λ (n : ℕ). P (missing_blocks job.batch n whole)) counted

  -- each image is one from before, or has grown
  pub adds : CanResume job told → LeavesNothingNew old new ⊎ AddsRun job told committed olds old new
  adds can = ⊎_elim
      (λ reads. inl (nothing_new_on old mid new ran.began ran.time ran.spares.nothing_new reads.nothing_new))
      (λ some.
      let r = can committed some.0 some.1 in
      let blocks : missing_blocks job.batch (length committed) some.0 ≡ run_blocks job r.run = ap (cut job.batch) (sym r.rest) in
      inr (record {
        run = r.run;
        resumes = r.resumes;
        each = each_on (λ image. old.may_leave image ⊎ IsGrown old.file job.text columns olds (run_blocks job r.run) image) old mid new ran.began ran.time
            (λ is image it. inl (ran.spares.nothing_new.each is image it))
            (λ _ image it. inr (subst (λ (file : List ℕ). IsGrown file job.text columns olds (run_blocks job r.run) image) same
            (subst (λ (bs : List (List (List Value))). IsGrown mid.file job.text columns olds bs image) blocks
            (in_count (λ bs. IsGrown mid.file job.text columns olds bs image) some.0 (some.2 image it)))));
      }))
      (ran.moments olds is_at)

  -- rows behind the committed ones
  pub added_rows : (image : List ℕ) (taken : List (List (List Value))) (ended : Bool) → Holds image job.text (with_blocks olds taken) ended → All (IsRowOf columns) (together taken)
      → HoldsRows image job.text columns (committed ++ together taken) ended
  added_rows image taken ended holds own = law image job.text columns olds taken committed ended decodes holds own

  -- No table is lost.

  -- a table that an image has begins with those of the file
  has_on : (text : List ℕ) (blocks : List Stored) → HasTable text blocks mid.file → Holds mid.file job.text olds false → (taken : List (List (List Value))) (ended : Bool) (image : List ℕ)
      → Holds image job.text (with_blocks olds taken) ended → HasTable text blocks image
  has_on text blocks has holds taken ended image grown =
      let one = holds_rows_once once mid.file text job.text (blocks ++ has.0) olds has.1 false has.2 holds in
      let are : with_blocks olds taken ≡ blocks ++ with_blocks has.0 taken = ap (λ (bs : List Stored). with_blocks bs taken) (sym one.1) ∙ append_assoc blocks has.0 (map stored_of taken) in (
        with_blocks has.0 taken,
        ended,
        subst (λ (t : List ℕ). Holds image t (blocks ++ with_blocks has.0 taken) ended) (sym one.0) (subst (λ (bs : List Stored). Holds image job.text bs ended) are grown),
      )

  made_holds : (text : List ℕ) (blocks : List Stored) → HasTable text blocks mid.file → Holds mid.file job.text olds false
  made_holds text blocks has = made_at found (is_at) has
    where
      made_at : (f : Attached) → IsAt f mid.file job.text olds → HasTable text blocks mid.file → Holds mid.file job.text olds false
      made_at NotMade at has = absurd (not_both agree once mid.file text (blocks ++ has.0) has.1 has.2 at.0)
      made_at (Made journal) at has = at.holds

  pub tables_kept : (text : List ℕ) (blocks : List Stored) → Each old.may_leave (HasTable text blocks) → AtEachMoment old new (HasTable text blocks)
  tables_kept text blocks each =
      let has : HasTable text blocks mid.file = subst (HasTable text blocks) (sym same) (each old.file (old.reads_image ran.honest)) in
      let holds = made_holds text blocks has in
      each_on (HasTable text blocks) old mid new ran.began ran.time
      (λ is image it. each image (ran.spares.nothing_new.each is image it))
      (λ _. ⊎_elim
      (read_on_each (HasTable text blocks) has)
      (λ some image it. ⊎_elim
      (λ front. has_on text blocks has holds (take front.count (blocks_of some.0)) front.ended image front.holds)
      (λ not_yet. absurd (not_both agree once mid.file text (blocks ++ has.0) has.1 has.2 not_yet.was))
      (some.2 image it))
      (ran.moments olds is_at))

  -- and none was ended
  pub none_ended : (text : List ℕ) (blocks : List Stored) → Each old.may_leave (λ image. Holds image text blocks true) → ⊥
  none_ended text blocks each =
      let holds : Holds mid.file text blocks true = subst (λ (file : List ℕ). Holds file text blocks true) (sym same) (each old.file (old.reads_image ran.honest)) in
      let unended = made_holds text blocks ([], true, subst (λ (bs : List Stored). Holds mid.file text bs true) (sym (append-nil blocks)) holds) in
      let one = holds_rows_once once mid.file text job.text blocks olds true false holds unended in
      let e : true ≡ false = one.2 in cc
