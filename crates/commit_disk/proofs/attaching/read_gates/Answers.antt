use Rattle.std.proofs.Common.{◌≡◌, ◌∙◌, ℕ, List, length, Bool, true, false, Result, Ok, ap, sym, subst}
use Rattle.commit_disk.specs.declared.attaching.TableFault.{TableFault}
use Rattle.commit_disk.specs.Frames.{IsOnTheWay, GateTells}
use Rattle.outside.specs.Moments.{read_on}
use Rattle.commit_disk.proofs.Leads.{way_tells}
use Rattle.commit_disk.proofs.attaching.read_gates.Goals as goal

-- what one gate more tells is of the file from before
still_told : (result : Result Bool TableFault) (b : Bool) (journal : _) (was is text : List ℕ) → is ≡ was → result ≡ Ok b → GateTells result journal is text → GateTells (Ok b) journal was text
still_told result b journal was is text same answers tells = subst (λ (r : Result Bool TableFault). GateTells r journal was text) answers (subst (λ (file : List ℕ). GateTells result journal file text) same tells)

pub returns-in_err-pass_gate-clause-read : goal.returns-in_err-pass_gate-clause-read
returns-in_err-pass_gate-clause-read g c =
    read_on _ _ _ c.loop.invariant.read c.pass_gate.ensures.read

pub returns-clause-read : goal.returns-clause-read
returns-clause-read g c =
    read_on _ _ _ c.loop.invariant.read c.pass_gate.ensures.read

pub returns-clause-tells : goal.returns-clause-tells
returns-clause-tells g c = λ honest sized text first leads.
    let same = c.loop.invariant.read.keeps.file honest in
    let here = subst (λ (file : List ℕ). IsOnTheWay c.loop.journal file text) (sym same) (c.loop.invariant.way honest sized text first leads) in
    let told = still_told c.pass_gate.result false c.pass_gate.new.journal _ _ text same (c.in_ok-pass_gate.was ∙ ap (λ (b : Bool). Ok b) c.if-branch.false)
    (c.pass_gate.ensures.tells (c.loop.invariant.read.elapses.honest ∙ honest) (sized ∙ ap length (sym same)) text here) in
    way_tells c.pass_gate.new.journal (g.K.Disk.state c.args.disk.now).file text told.0 told.1

pub loop-preserved : goal.loop-preserved
loop-preserved g c = record {
  within = c.in_ok-pass_gate.ensures.within;
  sound = c.pass_gate.ensures.sound ∙ c.loop.invariant.sound;
  read = read_on _ _ _ c.loop.invariant.read c.pass_gate.ensures.read;
  way = λ honest sized text first leads.
      let same = c.loop.invariant.read.keeps.file honest in
      let here = subst (λ (file : List ℕ). IsOnTheWay c.loop.journal file text) (sym same) (c.loop.invariant.way honest sized text first leads) in
      still_told c.pass_gate.result true c.pass_gate.new.journal _ _ text same (c.in_ok-pass_gate.was ∙ ap (λ (b : Bool). Ok b) c.if-branch.true)
      (c.pass_gate.ensures.tells (c.loop.invariant.read.elapses.honest ∙ honest) (sized ∙ ap length (sym same)) text here);
}
