-- The paths of a tree of cases, and facts that are on a path more than once.
use Rattle.std.specs.Prelude.{◌≡◌, ◌⊎◌, true, false, List, [], ◌∷◌}
use Rattle.std.specs.List.{Any}
use Rattle.rota_core.specs.Trees.{Tree, leaf_tree, split_tree}
use Rattle.rota_core.specs.declared.certificate.Certificate.{Certificate}
use Rattle.rota_core.specs.declared.certificate.Condition.{Condition}
use Rattle.rota_core.specs.declared.certificate.Fact.{Fact}

-- the conditions from a node to the root
abbrev pub CasePath : Type 0
CasePath = List Condition

-- the condition that the fact holds
abbrev pub with : Fact → Condition
with fact = record { fact = fact; holds = true }

-- the condition that the fact does not hold
abbrev pub without : Fact → Condition
without fact = record { fact = fact; holds = false }

-- a condition of the path says that the fact holds, or that it does not hold
abbrev pub IsOnPath : Fact → CasePath → Type 0
IsOnPath fact path = Any (λ one. one.fact ≡ fact) path

-- in the tree at the end of this path, a split has a fact that is on its path
unfoldable pub Repeats : CasePath → Tree → Type 0
Repeats path (leaf_tree one) = ⊥
Repeats path (split_tree fact first second) = IsOnPath fact path ⊎ Repeats (with fact ∷ path) first ⊎ Repeats (without fact ∷ path) second

-- a split of the certificate's tree has a fact that is on its path
abbrev pub RepeatsFact : Certificate → Type 0
RepeatsFact certificate = Repeats [] certificate.tree
