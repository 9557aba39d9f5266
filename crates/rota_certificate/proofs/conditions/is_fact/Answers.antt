use Rattle.std.proofs.Common.{◌≡◌, ℕ, ◌<◌, ◌∙◌, ap, sym, subst, arith, length}
use Rattle.std.specs.Prelude.{nat_le}
use Rattle.rota_core.specs.Certificates.{IsFactFor}
use Rattle.rota_core.specs.HardRules.{nurses_at}
use Rattle.rota_core.specs.InstanceTables.{problem_of}
use Rattle.rota_core.specs.RosterTables.{set_of}
use Rattle.rota_core.specs.declared.certificate.Fact.TheVariants.{Choice, Nurses}
use Rattle.rota_certificate.specs.CountedCharges.{numbers_in}
use Rattle.rota_certificate.specs.Plans.{plan_from}
use Rattle.rota_certificate.specs.Facts.{has_choice, is_fact, week_passes}
use Rattle.rota_certificate.proofs.CountedPlans.{choice-at, nurses-in, planned-at}
use Rattle.rota_certificate.proofs.conditions.is_fact.Goals as goal

pub returns-in-Choice : goal.returns-in-Choice
returns-in-Choice c =
    let weeks = c.args.weeks.now in
    let rosters = c.args.rosters.now in
    let plan = plan_from weeks rosters in
    let one = c.in-Choice.one in
    let week = c.index-weeks-week.result in
    let roster = c.index-rosters-week.result in
    let w = c.from-week.result in
    let e : c.args.fact ≡ Choice one = cc c.in-Choice.is in
    let fact = subst (IsFactFor (numbers_in weeks) (length weeks)) e c.requires.fact_in in
    let same : w ≡ one.week = omega (arith, c.from-week.ensures) in
    let inside : w < length weeks = omega (arith, fact.week, same) in
    let at = planned-at weeks rosters w week roster c.requires.plan.as_many inside c.index-weeks-week.is c.index-rosters-week.is in
    c.has_choice.ensures ∙ choice-at plan w one.nurse one.day one.choice (problem_of week) (set_of roster) at ∙
    ap (λ (v : ℕ). week_passes plan v (λ p. has_choice p.week p.roster one.nurse one.day one.choice)) same ∙ ap (is_fact plan) (sym e)

pub returns-in-Nurses : goal.returns-in-Nurses
returns-in-Nurses c =
    let weeks = c.args.weeks.now in
    let rosters = c.args.rosters.now in
    let plan = plan_from weeks rosters in
    let limit = c.in-Nurses.limit in
    let week = c.index-weeks-week-in-Nurses.result in
    let roster = c.index-rosters-week-in-Nurses.result in
    let w = c.from-week-in-Nurses.result in
    let e : c.args.fact ≡ Nurses limit = cc c.in-Nurses.is in
    let fact = subst (IsFactFor (numbers_in weeks) (length weeks)) e c.requires.fact_in in
    let same : w ≡ limit.week = omega (arith, c.from-week-in-Nurses.ensures) in
    let inside : w < length weeks = omega (arith, fact.week, same) in
    let at = planned-at weeks rosters w week roster c.requires.plan.as_many inside c.index-weeks-week-in-Nurses.is c.index-rosters-week-in-Nurses.is in
    ap (λ (v : ℕ). nat_le v limit.most) c.nurses_at.ensures ∙
    nurses-in plan w limit.day limit.shift limit.skill limit.most (problem_of week) (set_of roster) at ∙
    ap (λ (v : ℕ). week_passes plan v (λ p. nat_le (nurses_at p.week p.roster limit.day limit.shift limit.skill) limit.most)) same ∙
    ap (is_fact plan) (sym e)
