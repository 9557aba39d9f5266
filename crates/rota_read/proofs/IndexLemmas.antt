-- The indices of the requests in a row.
use Rattle.std.proofs.Common.{◌≡◌, ℕ, ◌+◌, ◌-◌, ◌*◌, ◌/◌, ◌%◌, ◌<◌, refl, sym, ap, ◌∙◌, arith}
use Rattle.std.proofs.Common.{◌==◌, nat_le, nat_lt, Bool, true, false, ◌&&◌}
use Rattle.std.proofs.lemmas.Bool.Decides.{nat_tests}
use Rattle.std.proofs.lemmas.Nat.{div-mul-add, mod-mul-add, mod_below, div-add-mod'}

pub same_bools : (a b : Bool) → (a ≡ true → b ≡ true) → (b ≡ true → a ≡ true) → a ≡ b
same_bools true b f g = sym (f refl)
same_bools false true f g = g refl
same_bools false false f g = refl

-- one index in a row of the given width
pub one_index : (row width col k : ℕ) → col < width →
    (row == k / width && col == k % width) ≡ (nat_le (row * width + col) k && nat_lt k (row * width + col + 1))
one_index row width col k lt =
    same_bools (row == k / width && col == k % width) (nat_le (row * width + col) k && nat_lt k (row * width + col + 1)) there back
  where
    there : (row == k / width && col == k % width) ≡ true → (nat_le (row * width + col) k && nat_lt k (row * width + col + 1)) ≡ true
    there h =
        let split = div-add-mod' k width in
        let r : row ≡ k / width = grind (arith, nat_tests) in
        let m : col ≡ k % width = grind (arith, nat_tests) in
        let e : row * width + col ≡ k = ap (λ n. n * width + col) r ∙ ap (λ n. k / width * width + n) m ∙ split in
        grind (arith, nat_tests)

    back : (nat_le (row * width + col) k && nat_lt k (row * width + col + 1)) ≡ true → (row == k / width && col == k % width) ≡ true
    back h =
        let e : k ≡ row * width + col = grind (arith, nat_tests) in
        let d : k / width ≡ row = ap (λ n. n / width) e ∙ div-mul-add row width col lt in
        let m : k % width ≡ col = ap (λ n. n % width) e ∙ mod-mul-add row width col lt in
        grind (arith, nat_tests)

-- all indices of a row
pub whole_row : (row width k : ℕ) → 0 < width →
    (row == k / width && true) ≡ (nat_le (row * width) k && nat_lt k (row * width + width))
whole_row row width k some =
    same_bools (row == k / width && true) (nat_le (row * width) k && nat_lt k (row * width + width)) there back
  where
    there : (row == k / width && true) ≡ true → (nat_le (row * width) k && nat_lt k (row * width + width)) ≡ true
    there h =
        let split = div-add-mod' k width in
        let below = mod_below k width some in
        let r : row ≡ k / width = grind (arith, nat_tests) in
        let e : row * width + k % width ≡ k = ap (λ n. n * width + k % width) r ∙ split in
        grind (arith, nat_tests)

    back : (nat_le (row * width) k && nat_lt k (row * width + width)) ≡ true → (row == k / width && true) ≡ true
    back h =
        let e : k ≡ row * width + (k - row * width) = grind (arith, nat_tests) in
        let lt : k - row * width < width = grind (arith, nat_tests) in
        let d : k / width ≡ row = ap (λ n. n / width) e ∙ div-mul-add row width (k - row * width) lt in
        grind (arith, nat_tests)
