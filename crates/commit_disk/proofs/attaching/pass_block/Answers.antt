use Rattle.std.proofs.Common.{◌≡◌, ◌∙◌, [], ◌∷◌, ◌++◌, ℕ, true, false, sym, subst, inr}
use Rattle.commit_disk.specs.Table.{has_end}
use Rattle.commit_disk.specs.Journal.{JournalState}
use Rattle.commit_disk.specs.Attach.{LeadsTo, IsStuck}
use Rattle.commit_disk.specs.Frames.{IsOnTheWay}
use Rattle.commit_disk.proofs.Leads.{head_leads, stuck, stuck_behind_end, passed_on, passed_frame}
use Rattle.commit_disk.proofs.attaching.pass_block.Goals as goal

pub returns-in-None-clause-tells : goal.returns-in-None-clause-tells
returns-in-None-clause-tells c = λ image text read is_open ends_at way.
    let is_stuck = stuck c.args.journal.now.gate c.args.room image text c.args.head.now way.blocks way.leads is_open read ends_at c.in-None.ensures in
    inr (text, way.blocks, subst (λ (place : ℕ). IsStuck place image text way.blocks) (sym c.gate-at.ensures.gate) is_stuck)

pub returns-clause-tells : goal.returns-clause-tells
returns-clause-tells c = λ image text read is_open ends_at way.
    let journal = c.args.journal.now in
    let head = c.in-Some.block in
    let unended : has_end way.blocks ≡ false = sym way.ended ∙ sym c.ended.ensures ∙ c.if-ended.false in
    let stands = c.in-Some.ensures in
    let on = head_leads journal.gate c.args.room image text c.args.head.now way.blocks way.leads is_open read ends_at head stands unended in
    let told = passed_on journal head on.0 way.blocks on.1 unended way.counts way.ended in
    let same = passed_frame journal head in
    subst (λ (j : JournalState). IsOnTheWay j image text) (sym c.pass.ensures) (record {
      blocks = way.blocks ++ on.0 ∷ [];
      leads = subst (λ (place : ℕ). LeadsTo place image text (way.blocks ++ on.0 ∷ [])) (sym same.0) on.2;
      first = same.1 ∙ way.first;
      counts = told.0;
      ended = told.1;
      sound = same.2 ∙ way.sound;
    })

pub returns-then-ended-clause-tells : goal.returns-then-ended-clause-tells
returns-then-ended-clause-tells c = λ image text read is_open ends_at way.
    let ended : has_end way.blocks ≡ true = sym way.ended ∙ sym c.ended.ensures ∙ c.if-ended.true in
    inr (
      text,
      way.blocks,
      subst (λ (place : ℕ). IsStuck place image text way.blocks) (sym c.gate-at.ensures.gate)
          (stuck_behind_end c.args.journal.now.gate image text way.blocks way.leads ended is_open),
    )
