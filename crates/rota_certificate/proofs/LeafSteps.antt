-- The sums of a leaf.
use Rattle.std.proofs.Common.{◌≡◌, ℕ, ◌+◌, ◌*◌, ◌≤◌, Bool, true, false, ◌∙◌, refl, arith, List, [], ◌∷◌, length}
use Rattle.std.specs.Prelude.{Option, Some, None, if◌then◌else◌, map}
use Rattle.std.proofs.Common.{mul-le-mul_left, mul-le-mul_right}
use Rattle.std.proofs.lemmas.List.{length-map}
use Rattle.rota_core.specs.Prices.{Prices}
use Rattle.rota_core.specs.Problem.{Problem}
use Rattle.rota_certificate.specs.Facts.{Case}
use Rattle.rota_certificate.specs.LeafBounds.{leaf_weeks}
use Rattle.rota_certificate.specs.LentLeaves.{LentTables, prices_lent, week_lent, weeks_of}

weeks-length : (case : Case) (w : ℕ) (problems : List Problem) (prices : List Prices) → length (leaf_weeks case w problems prices) ≡ length problems
unfolding leaf_weeks
weeks-length case w [] prices = refl
weeks-length case w (problem ∷ problems) [] = omega (arith, weeks-length case (w + 1) problems [])
weeks-length case w (problem ∷ problems) (first ∷ prices) = omega (arith, weeks-length case (w + 1) problems prices)

-- the leaf has its weeks
pub leaf-length : (leaf : LentTables) → length (weeks_of leaf) ≡ length leaf.weeks
leaf-length leaf =
    weeks-length leaf.case 0 (map week_lent leaf.weeks) (map prices_lent leaf.weeks) ∙ length-map leaf.weeks week_lent

-- if no value is found, the test is passed
pub none-passes : {X : Type 0} (test : Bool) (x : X) (found : Option X) → found ≡ (if test then None else Some x) → found ≡ None → test ≡ true
none-passes true x found is none = refl
none-passes false x found is none = absurd (cc (is, none))

-- a product of two numbers within their limits
pub product-small : (nurses weeks days : ℕ) → nurses ≤ 1000 → weeks ≤ 52 → nurses * (weeks * days) ≤ 1000 * (52 * days)
product-small nurses weeks days few short =
    let inner : weeks * days ≤ 52 * days = mul-le-mul_right days short in
    let outer : nurses * (weeks * days) ≤ 1000 * (weeks * days) = mul-le-mul_right (weeks * days) few in
    omega (arith, outer, mul-le-mul_left 1000 inner)
