use Rattle.std.proofs.Common.{◌≡◌, ◌∙◌, refl, sym, subst}
use Rattle.flow_types.specs.Flows.{has_fixed_root}
use Rattle.kind_laws.specs.Wholes.{by_number}
use Rattle.kind_laws.specs.Promises.{IsListing}
use Rattle.load_runner.specs.Histories.{nothing}
use Rattle.load_runner.proofs.Meanings.{rest_is, same_contents}
use Rattle.load_runner.proofs.Standings.{all_stand, nothing_stands, all_missing, all_of_stands}
use Rattle.load_runner.proofs.Steps.{is_step}
use Rattle.load_runner.proofs.laws.any_loads.Goals as goal

pub returns-clause-rest : goal.returns-clause-rest
returns-clause-rest c = λ flow files truth committed run keeps resumes.
    let same : keeps.contents ≡ resumes.contents = same_contents _ _ (sym keeps.are ∙ resumes.are files refl) in
    record {
      tree = resumes.tree;
      made = resumes.made;
      listing = by_number resumes.contents;
      listed = subst (λ cs. IsListing flow.nodes truth (by_number cs)) same keeps.listed;
      run = run;
      trimmed = resumes.trimmed;
      brings = refl;
    }

pub returns-clause-missing : goal.returns-clause-missing
returns-clause-missing c = λ flow is fixed truth whole committed rest makes stands trimmed.
    all_missing c.bag_laws.ensures.appended (has_fixed_root flow.nodes) whole committed rest (stands.begins fixed)
    (trimmed.brings ∙ rest_is flow is c.tree_laws.ensures.root fixed truth whole makes committed trimmed.listing trimmed.tree trimmed.run trimmed.listed trimmed.made trimmed.trimmed)

pub returns-clause-step : goal.returns-clause-step
returns-clause-step c = is_step c.verdicts_agree.ensures c.holds_once.ensures c.blocks_laws.ensures c.cut_laws.ensures.is_cut

pub returns-clause-stand : goal.returns-clause-stand
returns-clause-stand c = λ flow is fixed truth whole makes standings history.
    all_stand c.bag_laws.ensures.appended flow truth (has_fixed_root flow.nodes) fixed whole
    (λ committed rest trimmed. trimmed.brings ∙ rest_is flow is c.tree_laws.ensures.root fixed truth whole makes committed trimmed.listing trimmed.tree trimmed.run trimmed.listed trimmed.made trimmed.trimmed)
    nothing standings (nothing_stands c.bag_laws.ensures.appended (has_fixed_root flow.nodes) whole) history

pub returns-clause-ended : goal.returns-clause-ended
returns-clause-ended c = λ fixed whole rows stands. all_of_stands c.bag_laws.ensures.lengths fixed whole rows stands
