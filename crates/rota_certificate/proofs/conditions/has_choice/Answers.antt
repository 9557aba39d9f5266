use Rattle.std.proofs.Common.{◌≡◌, ◌∙◌, ap, not, sym}
use Rattle.std.specs.Prelude.{None, is_some}
use Rattle.rota_core.specs.HardRules.{is_on}
use Rattle.rota_core.specs.InstanceTables.{problem_of}
use Rattle.rota_core.specs.RosterTables.{set_of}
use Rattle.rota_certificate.specs.Facts.{has_choice}
use Rattle.rota_certificate.proofs.FirstBelow.{first-any, none-found}
use Rattle.rota_certificate.proofs.conditions.has_choice.Goals as goal

pub returns-in-None : goal.returns-in-None
returns-in-None c =
    let problem = problem_of c.args.instance.now in
    let roster = set_of c.args.roster.now in
    let off : c.args.choice ≡ None = cc c.in-None.is in
    none-found c.is_none.result (is_some c.choice_on.result) c.is_none.ensures ∙
    ap not (ap is_some c.choice_on.ensures.choice ∙ first-any problem.shifts (λ s. is_on problem roster c.args.nurse s c.args.day)) ∙
    ap (has_choice problem roster c.args.nurse c.args.day) (sym off)
