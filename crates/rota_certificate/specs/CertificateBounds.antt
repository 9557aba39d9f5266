-- The bound of a certificate: the minimum of the bounds of the leaves of its tree. The case of a leaf has the conditions on its path to the
-- root, and the given conditions, which all plans are asked to meet.
use Rattle.std.specs.Prelude.{ℕ, ◌+◌, ◌-◌, ◌/◌, ◌*◌, ◌++◌, Bool, true, false, min, if◌then◌else◌, List, [], ◌∷◌, map, reverse, slice_index_or}
use Rattle.std.specs.List.{list_any}
use Rattle.rota_core.specs.PriceTables.{PriceTables, prices_of}
use Rattle.rota_core.specs.Prices.{Prices}
pub use Rattle.rota_core.specs.Prices.{thousandths}
use Rattle.rota_core.specs.Problem.{Problem}
use Rattle.rota_core.specs.Trees.{LeafTables, Tree, leaf_tree, split_tree}
use Rattle.rota_core.specs.declared.certificate.Certificate.{Certificate}
use Rattle.rota_core.specs.declared.certificate.Fact.{Fact}
use Rattle.rota_core.specs.declared.certificate.Fact.TheVariants.{EvenShiftRuns}
use Rattle.rota_certificate.specs.CasePaths.{CasePath, with, without}
use Rattle.rota_certificate.specs.Facts.{Case}
use Rattle.rota_certificate.specs.LeafBounds.{leaf_bound}
pub use Rattle.rota_certificate.specs.Optimality.{AreOptimal}

-- ---- rounding

-- whether the condition says that the number of charges of shift runs is even
abbrev pub says_even : Fact → (holds : Bool) → Bool
says_even EvenShiftRuns true = true
says_even _ _ = false

-- whether it says that this number is odd
abbrev pub says_odd : Fact → (holds : Bool) → Bool
says_odd EvenShiftRuns false = true
says_odd _ _ = false

-- the step between the costs of plans, in points
abbrev pub step : ℕ
step = 5

-- the step in thousandths of a point
abbrev pub step_cost : ℕ
step_cost = step * thousandths

-- the cost of a plan is a multiple of two steps if its number of charges of shift runs is even, and otherwise one step more.
-- This is the minimum of the costs that are possible in the case and not below the sum, which is in thousandths of a point.
abbrev pub rounded_up : Case → (sum : ℕ) → ℕ
rounded_up case sum =
    (if list_any (λ one. says_even one.fact one.holds) case then (sum + (2 * step_cost - 1)) / (2 * step_cost) * (2 * step)
    else (if list_any (λ one. says_odd one.fact one.holds) case then (sum + (step_cost - 1)) / (2 * step_cost) * (2 * step) + step
    else (sum + (step_cost - 1)) / step_cost * step))

-- ---- the tree

-- the minimum of the bounds of the leaves of the tree at the end of this path
unfoldable pub least_bound : (CasePath → LeafTables → ℕ) → CasePath → Tree → ℕ
least_bound bound path (leaf_tree one) = bound path one
least_bound bound path (split_tree fact first second) =
    min (least_bound bound (with fact ∷ path) first) (least_bound bound (without fact ∷ path) second)

-- ---- the certificate

-- the case of a path: its conditions from the root on, then the given ones
abbrev pub case_of : CasePath → (given : Case) → Case
case_of path given = reverse path ++ given

-- the lists of prices
abbrev pub lists_of : Certificate → List (List PriceTables)
lists_of certificate = map (λ list. list.items) certificate.prices.items

-- the prices of a leaf
abbrev pub prices_of_leaf : Certificate → LeafTables → List Prices
prices_of_leaf certificate leaf = map prices_of (slice_index_or (lists_of certificate) leaf.prices [])

-- the bound of a leaf of the certificate
abbrev pub bound_at : ℕ → List Problem → (given : Case) → Certificate → CasePath → LeafTables → ℕ
bound_at unit weeks given certificate path leaf =
    leaf_bound unit weeks (case_of path given) (prices_of_leaf certificate leaf) leaf.surcharges

-- the lower bound of the cost of all plans of the weeks that meet the given conditions, in points, by the certificate
abbrev pub lower_bound : List Problem → (given : Case) → Certificate → ℕ
lower_bound weeks given certificate =
    least_bound (λ path leaf. rounded_up (case_of path given) (bound_at thousandths weeks given certificate path leaf)) [] certificate.tree

-- the bound with the soft rules and the surcharges left out: no plan meets the given conditions if it is above 0
abbrev pub minimums_bound : List Problem → (given : Case) → Certificate → ℕ
minimums_bound weeks given certificate =
    least_bound (λ path leaf. leaf_bound 0 weeks (case_of path given) (prices_of_leaf certificate leaf) []) [] certificate.tree
