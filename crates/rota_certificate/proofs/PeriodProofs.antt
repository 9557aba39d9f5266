-- The claims that the certificate of a period proves.
use Rattle.std.proofs.Common.{◌≡◌, ℕ, ◌*◌, ◌<◌, ◌≤◌, ap, sym, subst, arith, List, [], ◌∷◌, length, map, slice_index_or}
use Rattle.std.specs.List.{AllByRecursion}
use Rattle.std.proofs.lemmas.List.{length-map}
use Rattle.rota_core.specs.Certificates.{AreConditionsFor, IsCertificateFor, IsFactFor, IsLeafFor, IsTreeFor}
use Rattle.rota_core.specs.InstanceTables.{InstanceTables, problem_of}
use Rattle.rota_core.specs.Limits.{max_number}
use Rattle.rota_core.specs.Problem.{Problem}
use Rattle.rota_core.specs.Sizes.{Numbers}
use Rattle.rota_core.specs.TreeNodes.{NodeTables, leaf_with, node_of, nodes_of, split_by}
use Rattle.rota_core.specs.Trees.{Tree, leaf_tree, split_tree}
use Rattle.rota_core.specs.declared.certificate.Certificate.{Certificate}
use Rattle.rota_core.specs.declared.certificate.Condition.{Condition}
use Rattle.rota_core.specs.declared.certificate.Fact.{Fact}
use Rattle.rota_core.specs.declared.certificate.Fact.TheVariants.{Charges, Choice, EvenShiftRuns, Nurses}
use Rattle.rota_core.specs.declared.certificate.Node.{Node}
use Rattle.rota_certificate.specs.CaseLimits.{IsLimited}
use Rattle.rota_certificate.specs.CertificateBounds.{lower_bound, minimums_bound}
use Rattle.rota_certificate.specs.Evidence.{IsShortPath}
use Rattle.rota_certificate.specs.Facts.{Case}
use Rattle.rota_certificate.specs.PeriodBounds.{AreEvidence, AreEvidenceFor, AreOptimalAt, HaveNoPlan, IsForWeeks, NoneCostLess}
use Rattle.rota_certificate.specs.Plans.{plan_cost, plan_of}
use Rattle.rota_certificate.proofs.CertificateSoundness.{lower_bound-sound, minimums-prove}
use Rattle.rota_certificate.proofs.LeafStages.{all-map}
use Rattle.rota_certificate.proofs.ListSteps.{all-append, each-at}
use Rattle.rota_certificate.proofs.TreePaths.{kept-at, kept-inside, nodes-count}

-- ---- limits

fact-limited : (numbers : Numbers) (weeks : ℕ) (fact : Fact) → IsFactFor numbers weeks fact → IsLimited fact
fact-limited numbers weeks (Choice one) is = tt
fact-limited numbers weeks (Nurses limit) is = is.most
fact-limited numbers weeks (Charges limit) is = is.most
fact-limited numbers weeks EvenShiftRuns is = tt

pub given-limited : (numbers : Numbers) (weeks : ℕ) (given : Case) → AreConditionsFor numbers weeks given →
    AllByRecursion (λ (one : Condition). IsLimited one.fact) given
given-limited numbers weeks given are_for =
    all-map (λ (one : Condition). IsFactFor numbers weeks one.fact) (λ (one : Condition). IsLimited one.fact) given
    (λ one is. fact-limited numbers weeks one.fact is) are_for

-- the fact of a split is limited, and a leaf has prices and limited surcharges
abbrev pub IsLimitedNode : (prices : ℕ) → NodeTables → Type 0
IsLimitedNode prices (split_by fact) = IsLimited fact
IsLimitedNode prices (leaf_with leaf) = IsLeafFor prices leaf

nodes-limited : (numbers : Numbers) (weeks prices : ℕ) (tree : Tree) → IsTreeFor numbers weeks prices tree →
    AllByRecursion (IsLimitedNode prices) (nodes_of tree)
unfolding IsTreeFor nodes_of
nodes-limited numbers weeks prices (leaf_tree one) is = (is, tt)
nodes-limited numbers weeks prices (split_tree fact first second) is = (
  fact-limited numbers weeks fact is.0,
  all-append (IsLimitedNode prices) (nodes_of first) (nodes_of second) (nodes-limited numbers weeks prices first is.1)
      (nodes-limited numbers weeks prices second is.2),
)

module _ (certificate : Certificate) (nodes : List Node) (is_tree : map node_of nodes ≡ nodes_of certificate.tree) where
  -- what a node contains is within the limits
  pub limited-node : (weeks : List InstanceTables) (i : ℕ) (node : Node) (one : NodeTables) → IsForWeeks weeks certificate → i < length nodes →
      node ≡ slice_index_or nodes i node → node_of node ≡ one → IsLimitedNode (length certificate.prices.items) one
  limited-node [] i node one is_for inside is contains = absurd is_for
  limited-node (first ∷ later) i node one is_for inside is contains =
      let prices = length certificate.prices.items in
      subst (IsLimitedNode prices) contains
      (each-at (IsLimitedNode prices) (map node_of nodes) i (node_of node)
      (subst (AllByRecursion (IsLimitedNode prices)) (sym is_tree)
      (nodes-limited (problem_of first).numbers (length (first ∷ later)) prices certificate.tree is_for.tree))
      (kept-inside nodes i node inside is) (kept-at nodes i node inside is))

  -- the path to a node has at most as many conditions as a file has nodes
  pub short-path : (weeks : List InstanceTables) (i : ℕ) (path : List Condition) → IsForWeeks weeks certificate → i < length nodes →
      IsShortPath i path → IsShortPath (2 * max_number) path
  short-path [] i path is_for inside short = absurd is_for
  short-path (first ∷ later) i path is_for inside short = record {
    few =
        omega (arith, short.few, inside, length-map nodes node_of, ap length is_tree, nodes-count certificate.tree, is_for.count);
    each = short.each;
  }

-- ---- soundness

module _ (given : Case) (certificate : Certificate) where
  for-problems : (first : InstanceTables) (later : List InstanceTables) → AreEvidence (first ∷ later) given certificate →
      AreEvidenceFor (problem_of first) (map problem_of later) given certificate
  for-problems first later evidence =
      let count = sym (length-map (first ∷ later) problem_of) in
      record {
        period = evidence.period.period;
        given_for = subst (λ (n : ℕ). AreConditionsFor (problem_of first).numbers n given) count evidence.given_for.each;
        is_for = subst (λ (n : ℕ). IsCertificateFor (problem_of first) n certificate) count evidence.is_for;
      }

  pub none-cost_less : (weeks : List InstanceTables) → AreEvidence weeks given certificate →
      NoneCostLess (map problem_of weeks) given (lower_bound (map problem_of weeks) given certificate)
  none-cost_less [] evidence = absurd evidence.is_for
  none-cost_less (first ∷ later) evidence =
      lower_bound-sound (problem_of first) (map problem_of later) given certificate (for-problems first later evidence)

  pub have-no-plan : (weeks : List InstanceTables) → AreEvidence weeks given certificate →
      0 < minimums_bound (map problem_of weeks) given certificate → HaveNoPlan (map problem_of weeks) given
  have-no-plan [] evidence = absurd evidence.is_for
  have-no-plan (first ∷ later) evidence =
      minimums-prove (problem_of first) (map problem_of later) given certificate (for-problems first later evidence)

-- rosters that cost as much as a bound are optimal
pub are-optimal : (weeks : List Problem) (given : Case) (points : ℕ) → NoneCostLess weeks given points → AreOptimalAt weeks given points
are-optimal weeks given points none =
    λ rosters feasible same.
    record {
      feasible = feasible;
      least = λ others do_too.
          subst (λ (cost : ℕ). cost ≤ plan_cost (plan_of weeks others)) (sym same) (none others do_too);
    }
