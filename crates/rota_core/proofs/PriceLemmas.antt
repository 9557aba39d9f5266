-- Places and their indices in a table of prices.
use Rattle.std.proofs.Common.{◌≡◌, refl, ℕ, ◌+◌, ◌*◌, ◌/◌, ◌%◌, ◌<◌, length, set, sym, ap, ◌∙◌, arith}
use Rattle.std.proofs.lemmas.List.{get_or-set_same, get_or-set_other}
use Rattle.std.proofs.lemmas.Nat.{div-mul-add, mod-mul-add, mul-add-lt}
use Rattle.rota_core.specs.PriceTables.{IsPriceTables, PriceTables, price_index, SetsPrice}

-- places with the same index are the same place
same_place : (shifts skills d s k d' s' k' : ℕ) → s < shifts → k < skills → s' < shifts → k' < skills →
    (d * shifts + s) * skills + k ≡ (d' * shifts + s') * skills + k' → (d ≡ d') × (s ≡ s') × (k ≡ k')
same_place S K d s k d' s' k' s_in k_in s_in' k_in' same =
    let row = sym (div-mul-add (d * S + s) K k k_in) ∙ ap (λ index. index / K) same ∙ div-mul-add (d' * S + s') K k' k_in' in
    let day = sym (div-mul-add d S s s_in) ∙ ap (λ r. r / S) row ∙ div-mul-add d' S s' s_in' in
    let shift = sym (mod-mul-add d S s s_in) ∙ ap (λ r. r % S) row ∙ mod-mul-add d' S s' s_in' in
    let skill = sym (mod-mul-add (d * S + s) K k k_in) ∙ ap (λ index. index % K) same ∙ mod-mul-add (d' * S + s') K k' k_in' in
    (day, shift, skill)

module _ (t : PriceTables) (within : IsPriceTables t) (day shift skill price : ℕ) (day_in : day < 7) (shift_in : shift < t.shifts) (skill_in : skill < t.skills) where
  -- a place of the week has an index in the table
  pub price_index-in : price_index t day shift skill < length t.prices
  price_index-in =
      let row = mul-add-lt day t.shifts shift 7 day_in shift_in in
      let index = mul-add-lt (day * t.shifts + shift) t.skills skill (t.shifts * 7) row skill_in in
      omega (arith, index, within.prices)

  -- another price at that index
  pub SetsPrice-set : SetsPrice t (record t { prices = set t.prices (price_index t day shift skill) price }) day shift skill price
  SetsPrice-set = record {
    same_shifts = refl;
    same_skills = refl;
    is_set = get_or-set_same t.prices (price_index t day shift skill) price 0 price_index-in;
    others_stay = λ d s k d_in s_in k_in other.
        get_or-set_other t.prices (price_index t day shift skill) (price_index t d s k) price 0
        (λ same. other (same_place t.shifts t.skills d s k day shift skill s_in k_in shift_in skill_in same));
  }
