-- A tree of cases covers all plans: the minimum of its leaves' bounds is at most the cost of each plan, if each leaf's bound is at most
-- the cost of each plan in its case.
use Rattle.std.proofs.Common.{ℕ, ◌≤◌, inl, inr, arith, ◌∷◌}
use Rattle.std.specs.List.{AllByRecursion}
use Rattle.std.proofs.lemmas.Bool.{cases_Bool}
use Rattle.rota_core.specs.Certificates.{IsFactFor, IsTreeFor}
use Rattle.rota_core.specs.Sizes.{Numbers}
use Rattle.rota_core.specs.Trees.{LeafTables, Tree, leaf_tree, split_tree}
use Rattle.rota_core.specs.declared.certificate.Condition.{Condition}
use Rattle.rota_certificate.specs.CasePaths.{CasePath, with, without}
use Rattle.rota_certificate.specs.CertificateBounds.{least_bound}
use Rattle.rota_certificate.specs.Facts.{IsIn, is_fact}
use Rattle.rota_certificate.specs.Plans.{Plan}

module _ (plan : Plan) (numbers : Numbers) (weeks prices : ℕ) where
  abbrev pub AllFacts : CasePath → Type 0
  AllFacts path = AllByRecursion (λ (condition : Condition). IsFactFor numbers weeks condition.fact) path

  module _ (cost : ℕ) (bound : CasePath → LeafTables → ℕ)
      (leaf-sound : (path : CasePath) (leaf : LeafTables) → AllFacts path → IsIn plan path → bound path leaf ≤ cost) where
    -- a plan in the case of the path is in one of the two cases of a split
    pub tree-sound : (path : CasePath) (tree : Tree) → AllFacts path → IsTreeFor numbers weeks prices tree → IsIn plan path →
        least_bound bound path tree ≤ cost
    unfolding least_bound IsTreeFor
    tree-sound path (leaf_tree one) facts all is = leaf-sound path one facts is
    tree-sound path (split_tree fact first second) facts all is =
        elim (cases_Bool (is_fact plan fact)) [
          | inl holds ↦ omega (arith, tree-sound (with fact ∷ path) first (all.0, facts) all.1 (holds, is))
          | inr fails ↦ omega (arith, tree-sound (without fact ∷ path) second (all.0, facts) all.2 (fails, is))
        ]
