-- The indices of true values, one after another.
use Rattle.std.proofs.Common.{◌≡◌, ℕ, zero, suc, ◌+◌, ◌-◌, ◌<◌, ◌≤◌, Bool, true, false, List, ◌∷◌, get_or, ◌∙◌, arith}
use Rattle.rota_core.specs.Bits.{true_from}

-- a true value's index comes before the indices after it
pub true_from-true : (truths : List Bool) (index end : ℕ) → index < end → get_or truths index false ≡ true
    → true_from truths index (end - index) ≡ index ∷ true_from truths (index + 1) (end - (index + 1))
true_from-true truths index end before truth =
    let more : end - index ≡ suc (end - (index + 1)) = omega arith in
    rw (more, truth)

-- a false value is passed over
true_from-false : (truths : List Bool) (index end : ℕ) → index < end → get_or truths index false ≡ false
    → true_from truths index (end - index) ≡ true_from truths (index + 1) (end - (index + 1))
true_from-false truths index end before truth =
    let more : end - index ≡ suc (end - (index + 1)) = omega arith in
    rw (more, truth)

-- and so are n false values
pub true_from-falses : (truths : List Bool) (n from to end : ℕ) → from + n ≡ to → to ≤ end
    → ((k : ℕ) → from ≤ k → k < to → get_or truths k false ≡ false)
    → true_from truths from (end - from) ≡ true_from truths to (end - to)
true_from-falses truths zero from to end here within falses = let same : from ≡ to = omega arith in rw same
true_from-falses truths (suc n) from to end here within falses =
    true_from-false truths from end (omega arith) (falses from (omega arith) (omega arith)) ∙
    true_from-falses truths n (from + 1) to end (omega arith) within (λ k after below. falses k (omega arith) below)
