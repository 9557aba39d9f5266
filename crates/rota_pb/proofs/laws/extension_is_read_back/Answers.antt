use Rattle.std.proofs.Common.{ℕ, sym, ap, ◌∙◌, arith}
use Rattle.rota_core.specs.InstanceTables.{problem_of}
use Rattle.rota_judge.specs.ExtensionTruths.{extension_truths}
use Rattle.rota_rules.specs.Penalty.{penalty}
use Rattle.solver_text.specs.Answers.{outcome}
use Rattle.rota_pb.specs.Extending.{extension_answer, extension_text}
use Rattle.rota_pb.proofs.laws.extension_is_read_back.Goals as goal

pub returns : goal.returns
unfolding extension_answer
returns c tables roster valid keeps =
    let problem = problem_of tables in
    let truths = c.extension_truths_are_those_of_the_variables.ensures in
    let limits = c.instances_are_within_limits.ensures tables valid in
    record {
      outcome =
          ap (λ (n : ℕ). outcome n (extension_text problem roster)) (sym (truths.count problem roster)) ∙
          c.written_answer_is_read.ensures (penalty problem roster) (extension_truths problem roster)
          (omega (arith, c.penalty_is_small.ensures problem roster limits))
          (omega (arith, truths.count problem roster, c.variables_are_few.ensures problem limits));
      truths = truths.values problem roster;
      same_roster = truths.same_roster problem roster;
    }
