-- Adding blocks, one after the other.
use Rattle.std.proofs.Common.{◌≡◌, inl, inr, ⊎_elim, ◌≤◌, ◌<◌, ◌+◌, ◌^◌, ℕ, List, [], ◌∷◌, ◌++◌, length, take, true, false, IsTrue, All, refl, sym, ap, subst, ◌∙◌, arith, append_assoc, length-append}
use Rattle.std.proofs.lemmas.Bool.{true≢false, cases_lt}
use Rattle.std.proofs.lemmas.List.{append-nil, take_at}
use Rattle.std.proofs.lemmas.List.Elements.{All-append, All-nil}
use Rattle.outside.specs.Disk.{DiskState, Elapses, IsSettled, LeftBetween}
use Rattle.outside.specs.Moments.{no_time, time_on, each_on, each_now, each_settled, at_end}
use Rattle.tuple_schema.specs.declared.schema.Column.{Column}
use Rattle.row_codec.specs.Decoding.{IsRowOf}
use Rattle.commit_disk.specs.Table.{Stored, rows_block, end_block, table, Holds, HoldsUpTo}
use Rattle.commit_disk.specs.Journal.{JournalState, after, Commits}
use Rattle.commit_disk.specs.Crashes.{LeavesWhole, GrowsBy}
use Rattle.commit_disk.specs.RowTables.{follows_table, commits_rows, leaves_rows, leaves_ended}
use Rattle.commit_disk.specs.Growth.{grows_now, grows_on}
use Rattle.table_write.specs.Cut.{together}
use Rattle.table_write.specs.Rows.{stored_of}
use Rattle.table_write.specs.Adds.{with_blocks, IsFront, LeavesFronts, StopsBetween, HasRoom, HasAdded, IsFilled}
use Rattle.table_write.proofs.Fronts.{Rows, with_none, behind_none, with_more, together_more, behind_more, needed, needed_at_end, front_at}

module _ (columns : List Column) (blocks : List Rows) (before : JournalState) (old : DiskState) where
  -- a fact of each table that the old journal may tell of, on an honest disk on which nothing is pending
  abbrev pub OfTables : (List ℕ → List Stored → Type 0) → Type 0
  OfTables Fact = IsTrue old.honest → IsSettled old → (text : List ℕ) (olds : List Stored) → HoldsUpTo before.gate old.file text olds false → Fact text olds

  -- the first of the blocks were added, and these are left
  pub record SoFar (rest : List Rows) (now : JournalState) (new : DiskState) : Type 0 where
    pub taken : List Rows
    pub split : blocks ≡ taken ++ rest
    pub have_room : (earlier : ℕ) → earlier < length taken → HasRoom before.gate blocks earlier
    pub added : HasAdded columns taken before now old new
    pub leaves : OfTables (λ text olds. LeavesFronts text columns olds blocks old new)
    pub elapses : Elapses old new

  -- at first none was
  pub none_yet : before.gate < old.size → SoFar blocks before old
  none_yet place = record {
    taken = [];
    split = refl;
    have_room = λ earlier below. absurd (omega arith);
    added = record {
      of_columns = All-nil (IsRowOf columns);
      moved = behind_none before;
      place = place;
      settled = λ is_honest settled. settled;
      holds = λ is_honest text olds held. subst (λ (bs : List Stored). HoldsUpTo before.gate old.file text bs false) (sym (with_none olds)) held;
    };
    leaves = λ is_honest settled text olds held. record {
      each = each_now (IsFront text columns olds blocks) old (λ _. each_settled (IsFront text columns olds blocks) old settled
          (front_at text columns olds blocks [] blocks refl (All-nil (IsRowOf columns)) false old.file (λ is. absurd (true≢false (sym is)))
          (subst (λ (bs : List Stored). Holds old.file text bs false) (sym (with_none olds)) held.holds))) is_honest;
      grows = grows_now text old;
    };
    elapses = no_time old;
  }

  module _ (rows : Rows) (rest : List Rows) (now : JournalState) (new : DiskState) (so_far : SoFar (rows ∷ rest) now new) (of_columns : All (IsRowOf columns) rows) where
    abbrev more : List Rows
    more = so_far.taken ++ rows ∷ []

    more_split : blocks ≡ more ++ rest
    more_split = so_far.split ∙ sym (append_assoc so_far.taken (rows ∷ []) rest)

    more_of_columns : All (IsRowOf columns) (together more)
    more_of_columns =
        subst (All (IsRowOf columns)) (sym (together_more so_far.taken rows)) (All-append (IsRowOf columns) (together so_far.taken) rows so_far.added.of_columns of_columns)

    -- the table of the old journal, as it is now
    held_now : IsTrue old.honest → (text : List ℕ) (olds : List Stored) → HoldsUpTo before.gate old.file text olds false → HoldsUpTo now.gate new.file text (with_blocks olds so_far.taken) false
    held_now = so_far.added.holds

    -- while the next block is added, whatever comes of it
    pub leaves_on : (block : Stored) (last : DiskState) → block ≡ stored_of rows
        → (IsTrue new.honest → IsSettled new → LeavesWhole now.gate (rows_block block) new.file (LeftBetween new last))
        → (IsTrue new.honest → IsSettled new → GrowsBy now.gate (rows_block block) new last)
        → Elapses new last
        → OfTables (λ text olds. LeavesFronts text columns olds blocks old last)
    leaves_on block last is whole grows time is_honest settled text olds held =
        let still = so_far.elapses.honest ∙ is_honest in
        let settled_now = so_far.added.settled is_honest settled in
        let was = so_far.leaves is_honest settled text olds held in
        let here = held_now is_honest text olds held in
        let on : Stored → List Stored = λ b. with_blocks olds so_far.taken ++ b ∷ [] in
        let longer : on block ≡ with_blocks olds more = ap on is ∙ sym (with_more olds so_far.taken rows) in
        record {
          each = each_on (IsFront text columns olds blocks) old new last so_far.elapses time (λ _. was.each)
              (λ _ image left_it. ⊎_elim
              (λ holds. front_at text columns olds blocks so_far.taken (rows ∷ rest) so_far.split so_far.added.of_columns false image (λ ended. absurd (true≢false (sym ended))) holds)
              (λ holds. front_at text columns olds blocks more rest more_split more_of_columns false image (λ ended. absurd (true≢false (sym ended))) (subst (λ (bs : List Stored). Holds image text bs false) longer holds))
              (leaves_rows _ block _ _ (whole still settled_now) text (with_blocks olds so_far.taken) here image left_it)) is_honest;
          grows = grows_on text old new last is_honest so_far.elapses time was.grows (grows still settled_now text (table (with_blocks olds so_far.taken) false) (follows_table (with_blocks olds so_far.taken) (rows_block block)) here);
        }

    -- and where that failed
    pub stops_on : (block : Stored) (last : DiskState) → block ≡ stored_of rows
        → (IsTrue new.honest → IsSettled new → LeavesWhole now.gate (rows_block block) new.file (LeftBetween new last)) → Elapses new last
        → OfTables (λ text olds. StopsBetween text olds blocks last.may_leave)
    stops_on block last is whole time is_honest settled text olds held =
        let still = so_far.elapses.honest ∙ is_honest in
        let count = length so_far.taken in
        let on : Stored → List Stored = λ b. with_blocks olds so_far.taken ++ b ∷ [] in
        let first : take count blocks ≡ so_far.taken = ap (λ (bs : List Rows). take count bs) so_far.split ∙ take_at so_far.taken (rows ∷ rest) count refl in
        let next : take (count + 1) blocks ≡ more =
        ap (λ (bs : List Rows). take (count + 1) bs) more_split ∙ take_at more rest (count + 1) (length-append so_far.taken (rows ∷ [])) in
        let longer : on block ≡ with_blocks olds more = ap on is ∙ sym (with_more olds so_far.taken rows) in
        let sized = length-append so_far.taken (rows ∷ rest) in
        record {
          count = count;
          within = omega (arith, sized, ap length so_far.split);
          each = at_end _ new last time
              (λ _ image left_it. ⊎_elim
              (λ holds. inl (subst (λ (bs : List Rows). Holds image text (with_blocks olds bs) false) (sym first) holds))
              (λ holds. inr (inl (omega (arith, sized, ap length so_far.split), subst (λ (bs : List Stored). Holds image text bs false) (longer ∙ ap (with_blocks olds) (sym next)) holds)))
              (leaves_rows _ block _ _ (whole still (so_far.added.settled is_honest settled)) text (with_blocks olds so_far.taken) (held_now is_honest text olds held) image left_it))
              still;
        }

    -- where it was added
    pub one_more : (block : Stored) (later : JournalState) (last : DiskState) → block ≡ stored_of rows → later ≡ after now (rows_block block)
        → (IsTrue new.honest → Commits now.gate later.gate (rows_block block) new.file last.file) → later.gate < last.size → (IsTrue new.honest → IsSettled last)
        → now.gate + 11 + length block.bytes ≤ 2 ^ 48 → Elapses new last
        → OfTables (λ text olds. LeavesFronts text columns olds blocks old last)
        → SoFar rest later last
    one_more block later last is moved commits place settled room time leaves = record {
      taken = more;
      split = more_split;
      have_room = λ earlier below.
          elim (cases_lt earlier (length so_far.taken)) [
            | inl lt ↦ so_far.have_room earlier lt
            | inr ge ↦
                let at : earlier ≡ length so_far.taken = omega (arith, below, length-append so_far.taken (rows ∷ [])) in
                subst (HasRoom before.gate blocks) (sym at)
                (omega (arith, needed before.gate blocks so_far.taken rest rows so_far.split, room, ap (λ (j : JournalState). j.gate) so_far.added.moved, ap (λ (b : Stored). length b.bytes) is))
          ];
      added = record {
        of_columns = more_of_columns;
        moved = moved ∙ ap (λ (b : Stored). after now (rows_block b)) is ∙ behind_more before now so_far.taken rows so_far.added.moved;
        place = place;
        settled = λ is_honest was. settled (so_far.elapses.honest ∙ is_honest);
        holds = λ is_honest text olds held.
            let on : Stored → List Stored = λ b. with_blocks olds so_far.taken ++ b ∷ [] in
            let longer : on block ≡ with_blocks olds more = ap on is ∙ sym (with_more olds so_far.taken rows) in
            subst (λ (bs : List Stored). HoldsUpTo later.gate last.file text bs false) longer
            (commits_rows _ _ block _ _ (commits (so_far.elapses.honest ∙ is_honest)) text (with_blocks olds so_far.taken) (held_now is_honest text olds held));
      };
      leaves = leaves;
      elapses = time_on old new last so_far.elapses time;
    }

    -- where there was no room for it
    pub filled : (block : Stored) → block ≡ stored_of rows → 2 ^ 48 < now.gate + 11 + length block.bytes → IsFilled columns blocks before now old new
    filled block is none =
        let taken_is : so_far.taken ≡ take (length so_far.taken) blocks =
        sym (ap (λ (bs : List Rows). take (length so_far.taken) bs) so_far.split ∙ take_at so_far.taken (rows ∷ rest) (length so_far.taken) refl) in
        record {
          count = length so_far.taken;
          full = record {
            within = omega (arith, ap length so_far.split, length-append so_far.taken (rows ∷ rest));
            before = so_far.have_room;
            none = λ has. omega (arith, has, needed before.gate blocks so_far.taken rest rows so_far.split, none, ap (λ (j : JournalState). j.gate) so_far.added.moved, ap (λ (b : Stored). length b.bytes) is);
          };
          added = subst (λ (bs : List Rows). HasAdded columns bs before now old new) taken_is so_far.added;
        }

  -- where none are left, all were added
  pub all_added : (rest : List Rows) (now : JournalState) (new : DiskState) → rest ≡ [] → SoFar rest now new → HasAdded columns blocks before now old new
  all_added rest now new none so_far =
      let all : so_far.taken ≡ blocks = sym (append-nil so_far.taken) ∙ ap (λ (bs : List Rows). so_far.taken ++ bs) (sym none) ∙ sym so_far.split in
      subst (λ (bs : List Rows). HasAdded columns bs before now old new) all so_far.added

  -- and all had room
  pub all_had_room : (rest : List Rows) (now : JournalState) (new : DiskState) → rest ≡ [] → SoFar rest now new → (count : ℕ) → count < length blocks → HasRoom before.gate blocks count
  all_had_room rest now new none so_far count below = so_far.have_room count (omega (arith, below, ap length so_far.split, length-append so_far.taken rest, ap length none))

  module _ (now : JournalState) (new : DiskState) (added : HasAdded columns blocks before now old new) where
    -- while the end block is added behind all blocks, whatever comes of it
    pub leaves_end : (last : DiskState) → Elapses old new → OfTables (λ text olds. LeavesFronts text columns olds blocks old new)
        → (IsTrue new.honest → IsSettled new → LeavesWhole now.gate end_block new.file (LeftBetween new last))
        → (IsTrue new.honest → IsSettled new → GrowsBy now.gate end_block new last)
        → Elapses new last
        → OfTables (λ text olds. LeavesFronts text columns olds blocks old last)
    leaves_end last so_far leaves ends grows time is_honest settled text olds held =
        let still = so_far.honest ∙ is_honest in
        let settled_now = added.settled is_honest settled in
        let was = leaves is_honest settled text olds held in
        let here = added.holds is_honest text olds held in
        let all = sym (append-nil blocks) in
        record {
          each = each_on (IsFront text columns olds blocks) old new last so_far time (λ _. was.each)
              (λ _ image left_it. ⊎_elim
              (λ holds. front_at text columns olds blocks blocks [] all added.of_columns false image (λ _. refl) holds)
              (λ holds. front_at text columns olds blocks blocks [] all added.of_columns true image (λ _. refl) holds)
              (leaves_ended _ _ _ (ends still settled_now) text (with_blocks olds blocks) here image left_it)) is_honest;
          grows = grows_on text old new last is_honest so_far time was.grows (grows still settled_now text (table (with_blocks olds blocks) false) (follows_table (with_blocks olds blocks) end_block) here);
        }

    -- and where that failed
    pub stops_at_end : (last : DiskState) → Elapses old new
        → (IsTrue new.honest → IsSettled new → LeavesWhole now.gate end_block new.file (LeftBetween new last)) → Elapses new last
        → OfTables (λ text olds. StopsBetween text olds blocks last.may_leave)
    stops_at_end last so_far ends time is_honest settled text olds held =
        let still = so_far.honest ∙ is_honest in
        let all : take (length blocks) blocks ≡ blocks = ap (λ (bs : List Rows). take (length blocks) bs) (sym (append-nil blocks)) ∙ take_at blocks [] (length blocks) refl in
        record {
          count = length blocks;
          within = omega arith;
          each = at_end _ new last time
              (λ _ image left_it. ⊎_elim
              (λ holds. inl (subst (λ (bs : List Rows). Holds image text (with_blocks olds bs) false) (sym all) holds))
              (λ holds. inr (inr (refl, holds)))
              (leaves_ended _ _ _ (ends still (added.settled is_honest settled)) text (with_blocks olds blocks) (added.holds is_honest text olds held) image left_it))
              still;
        }

    -- where there was no room for it
    pub filled_at_end : ((count : ℕ) → count < length blocks → HasRoom before.gate blocks count) → 2 ^ 48 < now.gate + 11 → IsFilled columns blocks before now old new
    filled_at_end have_room none =
        let all : blocks ≡ take (length blocks) blocks = sym (ap (λ (bs : List Rows). take (length blocks) bs) (sym (append-nil blocks)) ∙ take_at blocks [] (length blocks) refl) in
        record {
          count = length blocks;
          full = record {
            within = omega arith;
            before = have_room;
            none = λ has. omega (arith, has, needed_at_end before.gate blocks blocks refl, none, ap (λ (j : JournalState). j.gate) added.moved);
          };
          added = subst (λ (bs : List Rows). HasAdded columns bs before now old new) all added;
        }
