-- The evidence for a bound: the weeks, the given conditions and the certificate.
use Rattle.std.specs.Prelude.{◌≡◌, ℕ, ◌≤◌, List, [], length, map}
use Rattle.std.specs.List.{AllByRecursion}
use Rattle.rota_core.specs.InstanceTables.{InstanceTables, problem_of}
use Rattle.rota_core.specs.PriceTables.{PriceTables}
use Rattle.rota_core.specs.Prices.{Prices}
use Rattle.rota_core.specs.Problem.{Problem}
use Rattle.rota_core.specs.Trees.{LeafTables}
use Rattle.rota_core.specs.declared.certificate.Certificate.{Certificate}
use Rattle.rota_core.specs.declared.certificate.Condition.{Condition}
use Rattle.rota_certificate.specs.CaseLimits.{IsLimited}
use Rattle.rota_certificate.specs.CasePaths.{CasePath}
use Rattle.rota_certificate.specs.CertificateBounds.{case_of, prices_of_leaf, rounded_up, thousandths}
use Rattle.rota_certificate.specs.Facts.{Case}
use Rattle.rota_certificate.specs.LeafBounds.{leaf_bound}
use Rattle.rota_certificate.specs.PeriodBounds.{AreEvidence}
use Rattle.rota_certificate.specs.declared.stages.LentWeek.{LentWeek}
use Rattle.rota_certificate.specs.declared.tree.Rules.{Rules}
use Rattle.rota_certificate.specs.declared.tree.Rules.TheVariants as rules

-- the weeks, the conditions that their plans are asked to meet, the certificate for them, and the rules
pub record EvidenceTables : Type 0 where
  pub weeks : List InstanceTables
  pub given : Case
  pub certificate : Certificate
  pub rules : Rules

-- the weeks make a period, and the given conditions and the certificate are for them
abbrev pub IsEvidence : EvidenceTables → Type 0
IsEvidence evidence = AreEvidence evidence.weeks evidence.given evidence.certificate

-- the path has at most this number of conditions, and their numbers are within the limits of files
pub record IsShortPath (most : ℕ) (path : List Condition) : Type 0 where
  pub few : length path ≤ most
  pub each : AllByRecursion (λ one. IsLimited one.fact) path

-- the weeks are lent with these prices
pub record AreLent (lent : List LentWeek) (weeks : List InstanceTables) (prices : List PriceTables) : Type 0 where
  pub instances : map (λ one. one.instance.now) lent ≡ weeks
  pub tables : map (λ one. one.prices.now) lent ≡ prices

-- the bound of a leaf: of the cost in points, or without the soft rules and the surcharges
abbrev pub bound_by : Rules → List Problem → Case → List Prices → (surcharges : List ℕ) → ℕ
bound_by rules.All weeks case prices surcharges = rounded_up case (leaf_bound thousandths weeks case prices surcharges)
bound_by rules.Hard weeks case prices surcharges = leaf_bound 0 weeks case prices []

-- the bound of a leaf of the certificate
abbrev pub bound_asked : EvidenceTables → CasePath → LeafTables → ℕ
bound_asked evidence path leaf =
    bound_by evidence.rules (map problem_of evidence.weeks) (case_of path evidence.given)
    (prices_of_leaf evidence.certificate leaf) leaf.surcharges
