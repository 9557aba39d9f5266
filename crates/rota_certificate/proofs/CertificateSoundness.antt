-- The bound of a certificate is at most the cost of each plan that meets the given conditions.
use Rattle.std.proofs.Common.{◌≡◌, ℕ, zero, suc, ◌*◌, ◌<◌, ◌≤◌, sym, refl, subst, arith, List, [], ◌∷◌, length, map, reverse, slice_index_or}
use Rattle.std.specs.List.{AllByRecursion}
use Rattle.rota_core.specs.Certificates.{IsFactFor}
use Rattle.rota_core.specs.PriceTables.{IsForWeek, PriceTables, prices_of}
use Rattle.rota_core.specs.Prices.{ArePrices}
use Rattle.rota_core.specs.Problem.{Problem}
use Rattle.rota_core.specs.Roster.{Roster}
use Rattle.rota_core.specs.Trees.{LeafTables}
use Rattle.rota_core.specs.declared.certificate.Certificate.{Certificate}
use Rattle.rota_core.specs.declared.certificate.ChargeKind.TheVariants.{ShiftRuns}
use Rattle.rota_core.specs.declared.certificate.Condition.{Condition}
use Rattle.rota_certificate.specs.CasePaths.{CasePath}
use Rattle.rota_certificate.specs.CertificateBounds.{bound_at, case_of, lower_bound, minimums_bound, prices_of_leaf, rounded_up, thousandths}
use Rattle.rota_certificate.specs.Facts.{Case, IsIn, Meets, charges_of_all, nurses_of}
use Rattle.rota_certificate.specs.LeafBounds.{leaf_bound}
use Rattle.rota_certificate.specs.Optimality.{KeepAndMeet}
use Rattle.rota_certificate.specs.PeriodBounds.{AreEvidenceFor, HaveNoPlan, NoneCostLess}
use Rattle.rota_certificate.specs.Plans.{Plan, plan_cost, plan_of}
use Rattle.rota_certificate.proofs.LeafSoundness.{leaf-within, nurses-are}
use Rattle.rota_certificate.proofs.LeafWeeks.{have-nurses, plan-keeps}
use Rattle.rota_certificate.proofs.ListSteps.{all-append, all-reverse}
use Rattle.rota_certificate.proofs.PlanParts.{HaveNurses, plan-tenths}
use Rattle.rota_certificate.proofs.Rounding.{rounded-within}
use Rattle.rota_certificate.proofs.TreeSoundness.{AllFacts, tree-sound}

-- ---- lists

each : (problem : Problem) (list : List PriceTables) → AllByRecursion (IsForWeek problem) list → AllByRecursion ArePrices (map prices_of list)
each problem [] fit = tt
each problem (first ∷ list) fit = (fit.0.within, each problem list fit.1)

-- the tables of a leaf are within their limit
tables-at : {X : Type 0} (f : X → List PriceTables) (problem : Problem) (n : ℕ) (lists : List X) (i : ℕ) →
    AllByRecursion (λ x. (length (f x) ≡ n) × AllByRecursion (IsForWeek problem) (f x)) lists →
    AllByRecursion ArePrices (map prices_of (slice_index_or (map f lists) i []))
tables-at f problem n [] i fit = tt
tables-at f problem n (first ∷ lists) zero fit = each problem (f first) fit.0.1
tables-at f problem n (first ∷ lists) (suc i) fit = tables-at f problem n lists i fit.1

-- ---- the bound

module _ (first : Problem) (later : List Problem) (given : Case) (certificate : Certificate)
    (evidence : AreEvidenceFor first later given certificate) (rosters : List Roster)
    (feasible : KeepAndMeet (first ∷ later) given rosters) where
  abbrev problems : List Problem
  problems = first ∷ later

  abbrev plan : Plan
  plan = plan_of problems rosters

  abbrev IsForPlan : Condition → Type 0
  IsForPlan one = IsFactFor first.numbers (length problems) one.fact

  nurses_are : nurses_of plan ≡ first.nurses
  nurses_are = nurses-are first later rosters feasible.keep.count

  have : HaveNurses (nurses_of plan) plan
  have =
      subst (λ (n : ℕ). HaveNurses n plan) (sym nurses_are) (have-nurses first.numbers plan (plan-keeps first later rosters evidence.period feasible.keep))

  abbrev prices : ℕ
  prices = length certificate.prices.items

  abbrev AreForPlan : CasePath → Type 0
  AreForPlan path = AllFacts plan first.numbers (length problems) prices path

  -- the bound of a leaf in thousandths of a point, or without the soft rules
  leaf-sound : (unit : ℕ) (surcharges : List ℕ) (path : CasePath) (leaf : LeafTables) → AreForPlan path → IsIn plan path →
      leaf_bound unit problems (case_of path given) (prices_of_leaf certificate leaf) surcharges ≤ unit * plan_cost plan
  leaf-sound unit surcharges path leaf facts is_in =
      leaf-within first later rosters evidence.period feasible.keep unit (length problems) (case_of path given) (prices_of_leaf certificate leaf)
      (tables-at (λ list. list.items) first (length problems) certificate.prices.items leaf.prices evidence.is_for.prices)
      (all-append IsForPlan (reverse path) given (all-reverse IsForPlan path facts) evidence.given_for)
      (all-append (Meets plan) (reverse path) given (all-reverse (Meets plan) path is_in) feasible.meet) surcharges

  leaf-rounded : (path : CasePath) (leaf : LeafTables) → AreForPlan path → IsIn plan path →
      rounded_up (case_of path given) (bound_at thousandths problems given certificate path leaf) ≤ plan_cost plan
  leaf-rounded path leaf facts is_in =
      let tenths = plan-tenths (nurses_of plan) plan have in
      rounded-within plan (case_of path given) (charges_of_all ShiftRuns plan) tenths.0 (bound_at thousandths problems given certificate path leaf)
      (plan_cost plan) (all-append (Meets plan) (reverse path) given (all-reverse (Meets plan) path is_in) feasible.meet) refl tenths.1
      (leaf-sound thousandths leaf.surcharges path leaf facts is_in)

  -- the plan costs no less than the bound
  costs-bound : lower_bound problems given certificate ≤ plan_cost plan
  costs-bound =
      tree-sound plan first.numbers (length problems) prices (plan_cost plan)
      (λ path leaf. rounded_up (case_of path given) (bound_at thousandths problems given certificate path leaf)) leaf-rounded
      [] certificate.tree tt evidence.is_for.tree tt

  -- there is no such plan if the bound without the soft rules is above 0
  costs-minimums : 0 < minimums_bound problems given certificate → ⊥
  costs-minimums above =
      let below = tree-sound plan first.numbers (length problems) prices 0
      (λ path leaf. leaf_bound 0 problems (case_of path given) (prices_of_leaf certificate leaf) [])
      (λ path leaf facts is_in. omega (arith, leaf-sound 0 [] path leaf facts is_in))
      [] certificate.tree tt evidence.is_for.tree tt in
      absurd (omega (arith, above, below))

module _ (first : Problem) (later : List Problem) (given : Case) (certificate : Certificate)
    (evidence : AreEvidenceFor first later given certificate) where
  -- no plan that meets the conditions costs less than the bound
  pub lower_bound-sound : NoneCostLess (first ∷ later) given (lower_bound (first ∷ later) given certificate)
  lower_bound-sound = λ rosters feasible. costs-bound first later given certificate evidence rosters feasible

  -- no plan meets the conditions if the bound without the soft rules is above 0
  pub minimums-prove : 0 < minimums_bound (first ∷ later) given certificate → HaveNoPlan (first ∷ later) given
  minimums-prove above = λ rosters feasible. costs-minimums first later given certificate evidence rosters feasible above
