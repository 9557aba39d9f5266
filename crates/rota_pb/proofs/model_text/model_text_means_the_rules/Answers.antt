use Rattle.std.specs.Prelude.{◌≡◌, ◌++◌, List}
use Rattle.std.proofs.Common.{refl}
use Rattle.std.proofs.lemmas.List.{map-append}
use Rattle.rota_core.specs.HardRules.{KeepsHardRules}
use Rattle.rota_core.specs.Roster.{Roster}
use Rattle.rota_core.specs.Problem.{Problem}
use Rattle.rota_items.specs.Linear.{Constraint}
use Rattle.rota_items.specs.Rows.{linear_constraint}
use Rattle.rota_judge.specs.ItemConstraints.{item_constraints}
use Rattle.rota_items.specs.WeekModel.{first_slack, model_of, hard_constraints, hard_rows, numbered_items, item_rows}
use Rattle.rota_judge.specs.Extensions.{extension_of}
use Rattle.opb_text.specs.ModelText.{opb_text}
use Rattle.rota_pb.specs.Meaning.{IsExtension}
use Rattle.rota_pb.proofs.model_text.model_text_means_the_rules.Goals as goal

abbrev soft_constraints : Problem → List Constraint
soft_constraints problem = item_constraints (first_slack problem) (numbered_items problem)

hard_first : (problem : Problem) → (model_of problem).constraints ≡ hard_constraints problem ++ soft_constraints problem
hard_first problem = map-append linear_constraint (hard_rows problem) (item_rows (first_slack problem) (numbered_items problem))

pub returns : goal.returns
returns c = λ problem.
    let satisfied = c.hard_constraints_mean_hard_rules.ensures problem in
    let extends = c.rosters_extend_at_their_penalty.ensures in
    let stands = c.satisfying_assignments_are_rosters.ensures in
    let is_extension : (roster : Roster) → KeepsHardRules problem roster → IsExtension problem (model_of problem) roster (extension_of problem roster) =
    λ roster keeps. record {
      satisfies = extends.satisfies problem roster keeps;
      objective = extends.objective problem roster keeps;
      same_roster = extends.same_roster problem roster;
    } in
    record {
      model = model_of problem;
      is_text = refl;
      is_only = λ other spells. c.each_text_spells_one_model.ensures (opb_text (model_of problem)) other (model_of problem) spells refl;
      means = record {
        extends = λ roster keeps. (extension_of problem roster, is_extension roster keeps);
        decodes = λ assignment satisfies. (stands.keeps problem assignment satisfies, stands.penalty problem assignment satisfies);
      };
      exact = record {
        is_model = refl;
        hard_rows = record {
          soft = soft_constraints problem;
          hard_first = hard_first problem;
          satisfied = satisfied;
          first_broken = c.first_failing_row_has_first_broken_rule.ensures problem;
        };
        extends = is_extension;
      };
    }
