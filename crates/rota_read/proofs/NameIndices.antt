-- Names that are found at their indices.
use Rattle.std.proofs.Common.{◌≡◌, ℕ, zero, suc, ◌<◌, true, false, nat_lt, List, [], ◌∷◌, length, Some, refl, sym, ◌∙◌, arith, true≢false}
use Rattle.std.specs.List.{AllByRecursion, IsDistinct, position_or_len}
use Rattle.std.specs.Str.{bytes_eq}
use Rattle.std.proofs.lemmas.Bool.{false_from_ne_true}
use Rattle.std.proofs.lemmas.Bool.Decides.{nat_tests}
use Rattle.std.proofs.lemmas.Slice.Eq.{bytes_eq-Decides}
use Rattle.rota_core.specs.Words.{index_of}
use Rattle.rota_core.specs.ScenarioTables.{AreDistinct}
use Rattle.rota_read.specs.SolutionText.{name_at}

-- a property of all names is a property of one name
pub holds-name_at : (P : List ℕ → Type 0) (names : List (List ℕ)) (index : ℕ) → AllByRecursion P names →
    index < length names → P (name_at names index)
holds-name_at P [] index all below = absurd (omega arith)
holds-name_at P (x ∷ xs) zero all below = all.0
holds-name_at P (x ∷ xs) (suc index) all below = holds-name_at P xs index all.1 (omega arith)

same_bytes : (bytes : List ℕ) → bytes_eq bytes bytes ≡ true
same_bytes bytes = (bytes_eq-Decides bytes bytes).1 refl

other_bytes : (one other : List ℕ) → bytes_eq one other ≡ false → bytes_eq other one ≡ false
other_bytes one other differ =
    false_from_ne_true (bytes_eq other one) (λ same.
    let e : other ≡ one = (bytes_eq-Decides other one).0 same in
    let back : bytes_eq one other ≡ true = (bytes_eq-Decides one other).1 (sym e) in
    true≢false (sym back ∙ differ))

first_index : (names : List (List ℕ)) (index : ℕ) → AreDistinct names → index < length names →
    position_or_len (bytes_eq (name_at names index)) names ≡ index
unfolding IsDistinct
first_index [] index distinct below = absurd (omega arith)
first_index (x ∷ xs) zero distinct below = rw (same_bytes x) refl
first_index (x ∷ xs) (suc index) distinct below =
    let other : bytes_eq (name_at xs index) x ≡ false =
    other_bytes x (name_at xs index) (holds-name_at (λ y. bytes_eq x y ≡ false) xs index distinct.0 (omega arith)) in
    let later = first_index xs index distinct.1 (omega arith) in
    rw (other, later) (omega arith)

pub index_of-name_at : (names : List (List ℕ)) (index : ℕ) → AreDistinct names → index < length names →
    index_of names (name_at names index) ≡ Some index
index_of-name_at names index distinct below = rw (first_index names index distinct below, is_below) refl
  where
    is_below : nat_lt index (length names) ≡ true
    is_below = grind (arith, nat_tests)
