-- The rosters of a period, judged one after the other.
use Rattle.std.proofs.Common.{◌≡◌, ℕ, ◌+◌, ◌*◌, ◌^◌, ◌<◌, ◌≤◌, refl, ap, sym, ◌∙◌, subst, arith, List, [], ◌∷◌, ◌++◌, length, drop, get_or, length-append}
use Rattle.std.specs.Prelude.{Some, slice_get, slice_index_or}
use Rattle.std.specs.List.{AllByRecursion}
use Rattle.std.proofs.lemmas.List.{drop_more}
use Rattle.std.proofs.lemmas.Option.{slice_get_read}
use Rattle.std.proofs.lemmas.List.Sums.{sum_by-append, sum_by-cons}
use Rattle.rota_core.specs.HardRules.{KeepsHardRules}
use Rattle.rota_core.specs.InstanceTables.{InstanceTables, problem_of}
use Rattle.rota_core.specs.RosterTables.{RosterTables, set_of}
use Rattle.rota_core.specs.Sizes.{Numbers}
use Rattle.rota_core.specs.declared.values.Past.{Past}
use Rattle.rota_core.proofs.LogicWords.{AllByRecursion-append}
use Rattle.rota_rules.specs.CostBounds.{penalty_limit}
use Rattle.rota_rules.specs.Penalty.{penalty}
use Rattle.rota_certificate.specs.CountedCharges.{numbers_in}
use Rattle.rota_certificate.specs.Plans.{Pasts, after, history_after, plan_after, plan_cost, plan_from}
use Rattle.rota_certificate.specs.PeriodBounds.{IsPeriod}
use Rattle.rota_certificate.proofs.CountedPlans.{numbers-at}
use Rattle.rota_bound_run.specs.Judging.{history_left}
use Rattle.rota_bound_run.specs.JudgedWeeks.{ArePastsIn, IsJudgedWeek}
use Rattle.rota_bound_run.specs.declared.judged_week.JudgedWeek.{JudgedWeek}
use Rattle.rota_bound_run.proofs.PlanSteps.{before, history-more, plan-more, planned}

-- these rosters of the first weeks keep the hard rules, at this penalty, and leave these pasts
pub record AreJudged (weeks : List InstanceTables) (i : ℕ) (rosters : List RosterTables) (cost : ℕ) (pasts : List Past) : Type 0 where
  pub number : length rosters ≡ i
  pub keep : AllByRecursion (λ one. KeepsHardRules one.week one.roster) (plan_from weeks rosters)
  pub cost_is : cost ≡ plan_cost (plan_from weeks rosters)
  pub small : cost ≤ i * penalty_limit
  pub left : ArePastsIn (numbers_in weeks).nurses (before weeks rosters) pasts

-- no roster is judged
pub judges-start : (weeks : List InstanceTables) (first : InstanceTables) (rosters : List RosterTables) (pasts : List Past) → 0 < length
    weeks →
    first ≡ slice_index_or weeks 0 first → rosters ≡ [] → ArePastsIn (problem_of first).nurses (problem_of first).past pasts →
    AreJudged weeks 0 rosters 0 pasts
unfolding plan_after history_left
judges-start [] first rosters pasts some is none are = absurd (omega (arith, some))
judges-start (week ∷ weeks) first rosters pasts some is none are =
    subst (λ (none : List RosterTables). AreJudged (week ∷ weeks) 0 none 0 pasts) (sym none)
    (record {
      number = refl;
      keep = tt;
      cost_is = refl;
      small = omega arith;
      left = subst (λ (one : InstanceTables). ArePastsIn (problem_of one).nurses (problem_of one).past pasts) is are;
    })

module _ (weeks : List InstanceTables) (i : ℕ) (rosters : List RosterTables) (cost : ℕ) (pasts : List Past)
    (judged : AreJudged weeks i rosters cost pasts) where
  -- one more roster is judged
  pub judges-more : (week : InstanceTables) → drop i weeks ≡ (week ∷ drop (i + 1) weeks) → (problem_of week).numbers ≡ numbers_in weeks →
      (roster : RosterTables) → (found : JudgedWeek) →
      IsJudgedWeek (after (problem_of week) (before weeks rosters)) roster found →
      AreJudged weeks (i + 1) (rosters ++ roster ∷ []) (cost + found.penalty) found.pasts.items
  judges-more week here numbers roster found is =
      let at : drop (length rosters) weeks ≡ (week ∷ drop (i + 1) weeks) = ap (λ (n : ℕ). drop n weeks) judged.number ∙ here in
      let more = plan-more rosters roster week (drop (i + 1) weeks) weeks at in
      let next = planned (problem_of week) (before weeks rosters) (set_of roster) in
      let sum = sum_by-append (λ one. penalty one.week one.roster) (plan_from weeks rosters) (next ∷ []) in
      let one = sum_by-cons (λ one. penalty one.week one.roster) next [] in
      let costs = ap plan_cost more in
      record {
        number = length-append rosters (roster ∷ []) ∙ ap (λ (n : ℕ). n + 1) judged.number;
        keep =
            subst (AllByRecursion (λ one. KeepsHardRules one.week one.roster)) (sym more)
            (AllByRecursion-append (λ one. KeepsHardRules one.week one.roster) (plan_from weeks rosters) (next ∷ []) judged.keep
            (is.costs.keeps, tt));
        cost_is = omega (arith, judged.cost_is, is.costs.penalty_is, costs, sum, one);
        small = omega (arith, judged.small, is.costs.small);
        left =
            subst (λ (history : Pasts). ArePastsIn (numbers_in weeks).nurses history found.pasts.items)
            (sym (history-more rosters roster week (drop (i + 1) weeks) weeks at))
            (subst (λ (all : Numbers). ArePastsIn all.nurses (history_after (after (problem_of week) (before weeks rosters))
            (set_of roster)) found.pasts.items)
            numbers is.pasts);
      }

-- the sum of the penalties of 52 weeks is small
pub small-sum : (i cost more : ℕ) → i < 52 → cost ≤ i * penalty_limit → more < penalty_limit → cost + more < 2 ^ 64
small-sum i cost more few small less = omega (arith, few, small, less)

-- the week with this index
pub record IsNextWeek (weeks : List InstanceTables) (i : ℕ) (week : InstanceTables) : Type 0 where
  pub at : slice_get weeks i ≡ Some week
  pub here : drop i weeks ≡ (week ∷ drop (i + 1) weeks)
  pub numbers : (problem_of week).numbers ≡ numbers_in weeks

pub next-week : (weeks now : List InstanceTables) {i : ℕ} (week : InstanceTables) → IsPeriod weeks → now ≡ weeks → week ≡ get_or now i week →
    i < length weeks → IsNextWeek weeks i week
next-week weeks now {i} week period same is inside =
    let at : week ≡ get_or weeks i week = is ∙ ap (λ (ws : List InstanceTables). get_or ws i week) same in
    record {
      at = slice_get_read weeks (length weeks) i week refl inside at;
      here = drop_more weeks i week inside ∙ ap (λ (one : InstanceTables). one ∷ drop (i + 1) weeks) (sym at);
      numbers = ap (λ (one : InstanceTables). (problem_of one).numbers) at ∙ numbers-at weeks i week period.period inside;
    }

-- the list has the pasts of the week's nurses before it
pub pasts-for : (weeks : List InstanceTables) (i : ℕ) (rosters : List RosterTables) (cost : ℕ) (pasts : List Past) (week :
    InstanceTables) →
    AreJudged weeks i rosters cost pasts → (problem_of week).numbers ≡ numbers_in weeks →
    ArePastsIn (problem_of week).nurses (before weeks rosters) pasts
pasts-for weeks i rosters cost pasts week judged numbers =
    subst (λ (all : Numbers). ArePastsIn all.nurses (before weeks rosters) pasts) (sym numbers) judged.left
