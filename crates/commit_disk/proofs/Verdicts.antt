-- Of an image and a text there is one verdict.
use Rattle.std.proofs.Common.{◌≡◌, ◌≢◌, ◌≤◌, ◌+◌, ◌⊎◌, inl, inr, ⊎_elim, ℕ, List, [], ◌∷◌, ◌++◌, length, get_or, take, drop, codes, ap, sym, subst, ◌∙◌, refl, arith, append_assoc, length-append, All, Ok, Err}
use Rattle.std.specs.List.{flat_map}
use Rattle.std.specs.Int.{w32, to_be_bytes}
use Rattle.std.proofs.lemmas.List.{take_at, take-take, get_or-take, length-take-le, nil_from_length}
use Rattle.std.proofs.lemmas.List.Elements.{All-take}
use Rattle.tuple_schema.specs.declared.memory.Stop.TheVariants.{Memory, Fault}
use Rattle.commit_disk.specs.declared.attaching.TableFault.TheVariants.{Disk, NotATable, WorkflowDiffers}
use Rattle.commit_disk.specs.declared.attaching.Attached.TheVariants.{NotMade, Made}
use Rattle.commit_disk.specs.Table.{TableBlock, end_block, IsTableBlock, AreInPlace, HoldsBlocksUpTo, IsNotMade, front, opened, head, block_bytes, row_blocks, has_end}
use Rattle.commit_disk.specs.Journal.{JournalState}
use Rattle.commit_disk.specs.Attach.{LeadsTo, IsMade, HasName, HasVersion, IsWrongHead, IsStuck, IsWrongAt, TellsOf, VerdictsAgree, rows_in}
use Rattle.commit_disk.proofs.Once.{Outgoes, compared}
use Rattle.commit_disk.proofs.Crashes.{closed_gate, not_both}
use Rattle.commit_disk.proofs.Leads.{leads_at, leads_spelled}
use Rattle.commit_disk.proofs.Tables.{front-new, front-part}
use Rattle.commit_disk.proofs.Frames.{head_part, opened-head}

-- the longest front, behind which stands a closed gate or nothing that leads on
abbrev IsEnd : ℕ → List ℕ → List ℕ → List TableBlock → Type 0
IsEnd place image text blocks = (get_or image place 0 ≢ 1) ⊎ IsStuck place image text blocks

holds_leads : (place : ℕ) (image text : List ℕ) (blocks : List TableBlock) → HoldsBlocksUpTo place image text blocks → LeadsTo place image text blocks
holds_leads place image text blocks held =
    let begins = front text blocks in
    record {
      spelled = ap (λ (l : List ℕ). take place l) held.holds.spelled ∙ take_at begins (held.holds.gate ∷ held.holds.rest) place held.at;
      gate = omega (arith, ap length held.holds.spelled, length-append begins (held.holds.gate ∷ held.holds.rest), held.at);
      short = held.holds.short;
      stored = held.holds.stored;
      placed = held.holds.placed;
      room = omega (arith, held.at, held.holds.room);
    }

-- the first of some blocks that are in place are in place
placed_before : (blocks more longer : List TableBlock) → longer ≡ blocks ++ more → AreInPlace longer → AreInPlace blocks
placed_before blocks more longer is placed before behind split =
    let none : behind ++ more ≡ [] = placed before (behind ++ more) (is ∙ ap (λ (l : List TableBlock). l ++ more) split ∙ append_assoc before (end_block ∷ behind) more) in
    nil_from_length behind (omega (arith, ap length none, length-append behind more))

-- what leads to a gate leads to each gate before it
leads_before : (place : ℕ) (image text : List ℕ) (blocks longer more : List TableBlock) → longer ≡ blocks ++ more → LeadsTo place image text longer → LeadsTo (length (front text blocks)) image text blocks
leads_before place image text blocks longer more is leads =
    let begins = front text blocks in
    let rest = flat_map (λ block. opened (block_bytes block)) more in
    let whole : take place image ≡ begins ++ rest = leads.spelled ∙ ap (λ (bs : List TableBlock). front text bs) is ∙ front-part text blocks more in
    let le : length begins ≤ place = omega (arith, ap length whole, length-append begins rest, length-take-le place image (omega (arith, leads.gate))) in
    let fewer : take (length blocks) longer ≡ blocks = ap (λ (bs : List TableBlock). take (length blocks) bs) is ∙ take_at blocks more (length blocks) refl in
    record {
      spelled = sym (take-take (length begins) place image le) ∙ ap (λ (l : List ℕ). take (length begins) l) whole ∙ take_at begins rest (length begins) refl;
      gate = omega (arith, leads.gate);
      short = leads.short;
      stored = subst (λ (bs : List TableBlock). All IsTableBlock bs) fewer (All-take IsTableBlock (length blocks) longer leads.stored);
      placed = placed_before blocks more longer is leads.placed;
      room = omega (arith, leads.room);
    }

-- no other front goes on from an end
goes_not : (place other : ℕ) (image text : List ℕ) (blocks others : List TableBlock) → IsEnd place image text blocks → LeadsTo other image text others → Outgoes blocks others (get_or image place 0) → ⊥
goes_not place other image text blocks others (inl shut) leads on = shut on.open_gate
goes_not place other image text blocks others (inr stuck) leads on =
    let block = on.longer.0 in
    let more = on.longer.1 in
    stuck.no_block block _ (leads_before other image text (blocks ++ block ∷ []) others more (on.longer.2 ∙ sym (append_assoc blocks (block ∷ []) more)) leads)

-- there is one end
ends_agree : (place other : ℕ) (image text text' : List ℕ) (blocks others : List TableBlock) → LeadsTo place image text blocks → IsEnd place image text blocks
    → LeadsTo other image text' others → IsEnd other image text' others → (text ≡ text') × (blocks ≡ others) × (place ≡ other)
ends_agree place other image text text' blocks others one one_end two two_end =
    let both = compared image text text' blocks others _ _ _ _ (leads_spelled place image text blocks one) (leads_spelled other image text' others two) one.short two.short one.stored two.stored in
    let same : text ≡ text' = both.0 in
    ⊎_elim
    (λ is.
    let places : place ≡ other =
    sym (leads_at place image text blocks one) ∙ (λ i. length (front (same i) (is i))) ∙ leads_at other image text' others two in
    (same, is, places))
    (⊎_elim
    (λ on. absurd (goes_not place other image text blocks others one_end (subst (λ (t : List ℕ). LeadsTo other image t others) (sym same) two) on))
    (λ off. absurd (goes_not other place image text' others blocks two_end (subst (λ (t : List ℕ). LeadsTo place image t blocks) same one) off)))
    both.1

-- the head of an image that leads to a gate is right
has_text : (place : ℕ) (image text : List ℕ) (blocks : List TableBlock) → LeadsTo place image text blocks → LeadsTo (16 + length text) image text []
unfolding head
has_text place image text blocks leads =
    subst (λ (p : ℕ). LeadsTo p image text []) (omega (arith, ap length (front-new text ∙ opened-head text), length-append ((1 ∷ codes "WHTABLE" ++ to_be_bytes w32 1) ++ to_be_bytes w32 (length text)) text))
    (leads_before place image text [] blocks blocks refl leads)

module _ (image text : List ℕ) (leads : LeadsTo (16 + length text) image text []) where
  begins : take 16 image ≡ (1 ∷ codes "WHTABLE" ++ to_be_bytes w32 1) ++ to_be_bytes w32 (length text)
  begins =
      sym (take-take 16 (16 + length text) image (omega arith)) ∙ ap (λ (l : List ℕ). take 16 l) (leads.spelled ∙ front-new text ∙ opened-head text)
      ∙ take_at ((1 ∷ codes "WHTABLE" ++ to_be_bytes w32 1) ++ to_be_bytes w32 (length text)) text 16 refl

  has_name : HasName image
  has_name = sym (head_part image (take 16 image) refl 1 15 7 refl (omega arith)) ∙ ap (λ (l : List ℕ). take 7 (drop 1 l)) begins

  has_version : HasVersion image
  has_version = sym (head_part image (take 16 image) refl 8 8 4 refl (omega arith)) ∙ ap (λ (l : List ℕ). take 4 (drop 8 l)) begins

  is_made : IsMade image
  is_made = record {
    long = omega (arith, leads.gate);
    gate = sym (get_or-take 16 image 0 0 (omega arith)) ∙ ap (λ (l : List ℕ). get_or l 0 0) begins;
  }

  not_wrong : (place : ℕ) → IsWrongHead place image → ⊥
  not_wrong place wrong = ⊎_elim (λ name. name.1 has_name) (⊎_elim (λ version. version.2 has_version) (λ rest. rest.3 (text, leads))) wrong.first

made_or_not : (image : List ℕ) → IsMade image → IsNotMade image → ⊥
made_or_not image made (inl short) = omega (arith, made.long)
made_or_not image made (inr shut) = shut made.gate

-- an image that has an end is made, and its head is right
record HasEnd (place : ℕ) (image text : List ℕ) (blocks : List TableBlock) : Type 0 where
  leads : LeadsTo place image text blocks
  end : IsEnd place image text blocks

from_held : (place : ℕ) (image text : List ℕ) (blocks : List TableBlock) → HoldsBlocksUpTo place image text blocks → (get_or image place 0 ≢ 1) × HasEnd place image text blocks
from_held place image text blocks held =
    let shut = (closed_gate place image text blocks held).closed in
    (shut, record { leads = holds_leads place image text blocks held; end = inl shut })

from_stuck : (place : ℕ) (image text : List ℕ) (blocks : List TableBlock) → IsStuck place image text blocks → HasEnd place image text blocks
from_stuck place image text blocks stuck = record { leads = stuck.leads; end = inr stuck }

agree : (place other : ℕ) (image text text' : List ℕ) (blocks others : List TableBlock) → HasEnd place image text blocks → HasEnd other image text' others
    → (text ≡ text') × (blocks ≡ others) × (place ≡ other)
agree place other image text text' blocks others one two = ends_agree place other image text text' blocks others one.leads one.end two.leads two.end

end_made : (place : ℕ) (image text : List ℕ) (blocks : List TableBlock) → HasEnd place image text blocks → IsNotMade image → ⊥
end_made place image text blocks has not_made = made_or_not image (is_made image text (has_text place image text blocks has.leads)) not_made

end_head : (place other : ℕ) (image text : List ℕ) (blocks : List TableBlock) → HasEnd place image text blocks → IsWrongHead other image → ⊥
end_head place other image text blocks has wrong = not_wrong image text (has_text place image text blocks has.leads) other wrong

heads_agree : (place other : ℕ) (image : List ℕ) → IsWrongHead place image → IsWrongHead other image → place ≡ other
heads_agree place other image one two =
    ⊎_elim
    (λ name. ⊎_elim (λ name'. name.0 ∙ sym name'.0) (⊎_elim (λ version. absurd (name.1 version.1)) (λ rest. absurd (name.1 rest.1))) two.first)
    (⊎_elim
    (λ version. ⊎_elim (λ name'. absurd (name'.1 version.1)) (⊎_elim (λ version'. version.0 ∙ sym version'.0) (λ rest. absurd (version.2 rest.2))) two.first)
    (λ rest. ⊎_elim (λ name'. absurd (name'.1 rest.1)) (⊎_elim (λ version'. absurd (version'.2 rest.2)) (λ rest'. rest.0 ∙ sym rest'.0)) two.first))
    one.first

wrong_made : (place : ℕ) (image : List ℕ) → IsWrongAt place image → IsNotMade image → ⊥
wrong_made place image (inl wrong) not_made = made_or_not image wrong.made not_made
wrong_made place image (inr at) not_made = end_made place image at.0 at.1 (from_stuck place image at.0 at.1 at.2) not_made

wrong_held : (place other : ℕ) (image text : List ℕ) (blocks : List TableBlock) → IsWrongAt place image → HoldsBlocksUpTo other image text blocks → ⊥
wrong_held place other image text blocks (inl wrong) held = end_head other place image text blocks (from_held other image text blocks held).1 wrong
wrong_held place other image text blocks (inr at) held =
    let here = from_held other image text blocks held in
    let same = agree place other image at.0 text at.1 blocks (from_stuck place image at.0 at.1 at.2) here.1 in
    here.0 (ap (λ (p : ℕ). get_or image p 0) (sym same.2) ∙ at.2.open_gate)

wrongs_agree : (place other : ℕ) (image : List ℕ) → IsWrongAt place image → IsWrongAt other image → place ≡ other
wrongs_agree place other image (inl one) (inl two) = heads_agree place other image one two
wrongs_agree place other image (inl one) (inr at) = absurd (end_head other place image at.0 at.1 (from_stuck other image at.0 at.1 at.2) one)
wrongs_agree place other image (inr at) (inl two) = absurd (end_head place other image at.0 at.1 (from_stuck place image at.0 at.1 at.2) two)
wrongs_agree place other image (inr at) (inr at') =
    (agree place other image at.0 at'.0 at.1 at'.1 (from_stuck place image at.0 at.1 at.2) (from_stuck other image at'.0 at'.1 at'.2)).2

held_agree : (place other : ℕ) (image text text' : List ℕ) (blocks others : List TableBlock) → HoldsBlocksUpTo place image text blocks → HoldsBlocksUpTo other image text' others
    → (text ≡ text') × (blocks ≡ others) × (place ≡ other)
held_agree place other image text text' blocks others one two =
    agree place other image text text' blocks others (from_held place image text blocks one).1 (from_held other image text' others two).1

journals_agree : (journal other : JournalState) (image text : List ℕ) → TellsOf journal image text → TellsOf other image text → journal ≡ other
journals_agree journal other image text one two =
    let same = held_agree journal.gate other.gate image text text one.blocks two.blocks one.holds two.holds in
    let firsts = one.first ∙ sym two.first in
    let counts = one.counts ∙ ap (λ (bs : List TableBlock). rows_in (row_blocks bs)) same.1 ∙ sym two.counts in
    let ends = one.ended ∙ ap has_end same.1 ∙ sym two.ended in
    let sounds = one.sound ∙ sym two.sound in
    λ i. record { first = firsts i; gate = same.2 i; count = counts i; ended = ends i; sound = sounds i }

pub verdicts_agree : VerdictsAgree
verdicts_agree image text (Ok NotMade) (Ok NotMade) v w one two = refl
verdicts_agree image text (Ok NotMade) (Ok (Made journal)) v w one two = absurd (not_both image text two.blocks two.holds.holds one)
verdicts_agree image text (Ok (Made journal)) (Ok NotMade) v w one two = absurd (not_both image text one.blocks one.holds.holds two)
verdicts_agree image text (Ok (Made journal)) (Ok (Made other)) v w one two = ap (λ (j : JournalState). Ok (Made j)) (journals_agree journal other image text one two)
verdicts_agree image text (Ok NotMade) (Err (Fault (NotATable place))) v w one two = absurd (wrong_made place image two one)
verdicts_agree image text (Ok NotMade) (Err (Fault WorkflowDiffers)) v w one two = absurd (not_both image two.0 two.2.1.0 two.2.1.1.holds one)
verdicts_agree image text (Ok (Made journal)) (Err (Fault (NotATable place))) v w one two = absurd (wrong_held place journal.gate image text one.blocks two one.holds)
verdicts_agree image text (Ok (Made journal)) (Err (Fault WorkflowDiffers)) v w one two =
    absurd (two.1 (held_agree two.2.0 journal.gate image two.0 text two.2.1.0 one.blocks two.2.1.1 one.holds).0)
verdicts_agree image text (Err (Fault (NotATable place))) (Ok NotMade) v w one two = absurd (wrong_made place image one two)
verdicts_agree image text (Err (Fault (NotATable place))) (Ok (Made journal)) v w one two = absurd (wrong_held place journal.gate image text two.blocks one two.holds)
verdicts_agree image text (Err (Fault (NotATable place))) (Err (Fault (NotATable other))) v w one two = ap (λ (p : ℕ). Err (Fault (NotATable p))) (wrongs_agree place other image one two)
verdicts_agree image text (Err (Fault (NotATable place))) (Err (Fault WorkflowDiffers)) v w one two = absurd (wrong_held place two.2.0 image two.0 two.2.1.0 one two.2.1.1)
verdicts_agree image text (Err (Fault WorkflowDiffers)) (Ok NotMade) v w one two = absurd (not_both image one.0 one.2.1.0 one.2.1.1.holds two)
verdicts_agree image text (Err (Fault WorkflowDiffers)) (Ok (Made journal)) v w one two =
    absurd (one.1 (held_agree one.2.0 journal.gate image one.0 text one.2.1.0 two.blocks one.2.1.1 two.holds).0)
verdicts_agree image text (Err (Fault WorkflowDiffers)) (Err (Fault (NotATable place))) v w one two = absurd (wrong_held place one.2.0 image one.0 one.2.1.0 two one.2.1.1)
verdicts_agree image text (Err (Fault WorkflowDiffers)) (Err (Fault WorkflowDiffers)) v w one two = refl
verdicts_agree image text (Err Memory) other v w one two = absurd v
verdicts_agree image text (Err (Fault Disk)) other v w one two = absurd v
verdicts_agree image text (Ok found) (Err Memory) v w one two = absurd w
verdicts_agree image text (Ok found) (Err (Fault Disk)) v w one two = absurd w
verdicts_agree image text (Err (Fault fault)) (Err Memory) v w one two = absurd w
verdicts_agree image text (Err (Fault fault)) (Err (Fault Disk)) v w one two = absurd w
