-- Weeks that are lent with the prices of a leaf are the weeks of the leaf.
use Rattle.std.proofs.Common.{◌≡◌, ℕ, ◌<◌, ap, sym, refl, ◌∙◌, subst, arith, List, [], ◌∷◌, length, map, slice_index_or}
use Rattle.std.specs.List.{AllByRecursion}
use Rattle.std.proofs.lemmas.List.{get_or-map, length-map}
use Rattle.std.proofs.lemmas.Simd.{map-map}
use Rattle.rota_core.specs.InstanceTables.{InstanceTables, problem_of}
use Rattle.rota_core.specs.PriceTables.{IsForWeek, PriceTables, prices_of}
use Rattle.rota_core.specs.Prices.{Prices}
use Rattle.rota_core.specs.Problem.{Problem}
use Rattle.rota_core.specs.declared.certificate.Certificate.{Certificate}
use Rattle.rota_certificate.specs.CaseLimits.{IsLimitedCase}
use Rattle.rota_certificate.specs.CertificateBounds.{lists_of}
use Rattle.rota_certificate.specs.Facts.{Case}
use Rattle.rota_certificate.specs.LentLeaves.{AreFit, Fits, IsLeaf, LentTables, prices_lent, week_lent}
use Rattle.rota_certificate.specs.PeriodBounds.{IsForWeeks, IsPeriod}
use Rattle.rota_certificate.specs.Periods.{ArePeriod, Continue}
use Rattle.rota_certificate.specs.Evidence.{AreLent, bound_by}
use Rattle.rota_certificate.specs.declared.stages.LentWeek.{LentWeek}
use Rattle.rota_certificate.specs.declared.tree.Rules.{Rules}
use Rattle.rota_certificate.proofs.ListSteps.{all-of}

abbrev instances : List LentWeek → List InstanceTables
instances lent = map (λ one. one.instance.now) lent

-- ---- the weeks fit the first

later-fit : (other : Problem) (before : LentWeek) (lent : List LentWeek) → Fits other before →
    Continue (week_lent before) (map problem_of (instances lent)) → AllByRecursion (Fits other) lent
unfolding Continue
later-fit other before [] fits period = tt
later-fit other before (one ∷ lent) fits period =
    let next : Fits other one = record {
      numbers = sym period.1.numbers ∙ fits.numbers;
      limits = λ s. sym (period.1.limits s) ∙ fits.limits s;
      contract = λ n. sym (period.1.contract n) ∙ fits.contract n;
    } in
    (next, later-fit other one lent next period.2)

all-fit : (lent : List LentWeek) → ArePeriod (map problem_of (instances lent)) → AreFit lent
all-fit [] period = tt
all-fit (one ∷ lent) period =
    let same : Fits (week_lent one) one = record { numbers = refl; limits = λ s. refl; contract = λ n. refl } in
    (same, later-fit (week_lent one) one lent same period)

-- ---- the leaf

all-mapped : {X Y : Type 0} (P : Y → Type 0) (f : X → Y) (xs : List X) → AllByRecursion (λ x. P (f x)) xs → AllByRecursion P (map f xs)
all-mapped P f [] all = tt
all-mapped P f (x ∷ xs) all = (all.0, all-mapped P f xs all.1)

-- there is a week
pub some-weeks : (weeks : List InstanceTables) (certificate : Certificate) → IsForWeeks weeks certificate → 0 < length weeks
some-weeks [] certificate is_for = absurd is_for
some-weeks (first ∷ later) certificate is_for = omega arith

-- a leaf has a table for each week of its certificate
pub leaf-tables : (weeks : List InstanceTables) (certificate : Certificate) (i : ℕ) → IsForWeeks weeks certificate →
    i < length certificate.prices.items → length (slice_index_or (lists_of certificate) i []) ≡ length weeks
leaf-tables [] certificate i is_for inside = absurd is_for
leaf-tables (first ∷ later) certificate i is_for inside =
    let lists = all-of (λ list. (length list ≡ length (first ∷ later)) × AllByRecursion (IsForWeek (problem_of first)) list)
    (lists_of certificate) i []
    (all-mapped (λ list. (length list ≡ length (first ∷ later)) × AllByRecursion (IsForWeek (problem_of first)) list)
    (λ one. one.items) certificate.prices.items is_for.prices)
    (omega (arith, length-map certificate.prices.items (λ one. one.items), inside)) in
    lists.0

-- the list at an index
pub list-at : {X : Type 0} (f : X → List PriceTables) (xs : List X) (i : ℕ) (x : X) → i < length xs → x ≡ slice_index_or xs i x →
    f x ≡ slice_index_or (map f xs) i []
list-at f xs i x inside is = ap f is ∙ sym (get_or-map f xs i x [] inside)

module _ (leaf : LentTables) (weeks : List InstanceTables) (list : List PriceTables) (lent : AreLent leaf.weeks weeks list) where
  pub lent-leaf : IsPeriod weeks → 0 < length weeks → IsLimitedCase leaf.case → IsLeaf leaf
  lent-leaf period some case =
      let same : length leaf.weeks ≡ length weeks = sym (length-map leaf.weeks (λ one. one.instance.now)) ∙ ap length lent.instances in
      record {
        some = omega (arith, same, some);
        count = omega (arith, same, period.count);
        fit = all-fit leaf.weeks (subst (λ (ws : List InstanceTables). ArePeriod (map problem_of ws)) (sym lent.instances) period.period);
        case = case;
      }

  pub lent-problems : map week_lent leaf.weeks ≡ map problem_of weeks
  lent-problems = sym (map-map problem_of (λ (one : LentWeek). one.instance.now) leaf.weeks) ∙ ap (map problem_of) lent.instances

  pub lent-prices : map prices_lent leaf.weeks ≡ map prices_of list
  lent-prices = sym (map-map prices_of (λ (one : LentWeek). one.prices.now) leaf.weeks) ∙ ap (map prices_of) lent.tables

-- the bound of a leaf from equal weeks, cases, prices and surcharges
pub bound-same : (rules : Rules) (weeks weeks-2 : List Problem) (case case-2 : Case) (prices prices-2 : List Prices) (surcharges surcharges-2 : List ℕ) →
    weeks ≡ weeks-2 → case ≡ case-2 → prices ≡ prices-2 → surcharges ≡ surcharges-2 →
    bound_by rules weeks case prices surcharges ≡ bound_by rules weeks-2 case-2 prices-2 surcharges-2
bound-same rules weeks weeks-2 case case-2 prices prices-2 surcharges surcharges-2 same_weeks same_case same_prices same_surcharges =
    ap (λ (x : List Problem). bound_by rules x case prices surcharges) same_weeks ∙
    ap (λ (x : Case). bound_by rules weeks-2 x prices surcharges) same_case ∙
    ap (λ (x : List Prices). bound_by rules weeks-2 case-2 x surcharges) same_prices ∙
    ap (λ (x : List ℕ). bound_by rules weeks-2 case-2 prices-2 x) same_surcharges
