-- The bound of a leaf: the minimum cost of all places and of all nurses in its case, from its prices and its surcharges.
use Rattle.std.specs.Prelude.{ℕ, ◌+◌, ◌-◌, ◌*◌, ◌==◌, ◌&&◌, Bool, true, false, not, if◌then◌else◌, Option, Some, None, List, [], ◌∷◌, length}
use Rattle.std.specs.List.{list_all}
use Rattle.rota_core.specs.Sizes.{DAYS}
use Rattle.rota_core.specs.Prices.{Prices, max_price}
use Rattle.rota_core.specs.Problem.{Problem}
use Rattle.rota_core.specs.SumsBelow.{sum_below}
use Rattle.rota_core.specs.declared.certificate.DayChoice.{DayChoice}
use Rattle.rota_core.specs.declared.certificate.Fact.{Fact}
use Rattle.rota_core.specs.declared.certificate.Fact.TheVariants.{Choice}
use Rattle.rota_certificate.specs.Facts.{Case}
use Rattle.rota_certificate.specs.NurseBounds.{LeafWeek, nurse_bound}
use Rattle.rota_certificate.specs.PlaceCases.{case_place_bounds}
use Rattle.rota_certificate.specs.Tariffs.{gained, has_overdrawn, lost, surcharged, tariff_of}
use Rattle.rota_certificate.specs.declared.surcharges.Surcharged.{Surcharged}

-- whether two choices of a day are the same
abbrev pub is_choice : (one other : Option ℕ) → Bool
is_choice None None = true
is_choice (Some s) (Some t) = s == t
is_choice _ _ = false

-- whether the fact is about the nurse's choice on this day of the week with this number
abbrev pub is_about : DayChoice → (week nurse day : ℕ) → Bool
is_about one w n d = one.week == w && one.nurse == n && one.day == d

-- whether the condition allows the nurse the choice: a condition about the day asks for the fact's choice, or for another one
abbrev pub allows : Fact → (holds : Bool) → (week nurse day : ℕ) → Option ℕ → Bool
allows (Choice one) true w n d choice = (if is_about one w n d then is_choice one.choice choice else true)
allows (Choice one) false w n d choice = (if is_about one w n d then not (is_choice one.choice choice) else true)
allows _ _ w n d choice = true

-- whether the case allows the nurse the choice on the day of the week with this number
abbrev pub may_choose : Case → (week nurse day : ℕ) → Option ℕ → Bool
may_choose case w n d choice = list_all (λ condition. allows condition.fact condition.holds w n d choice) case

-- the weeks from the one with this number on, with their prices, in the case; a week without prices has prices of 0
unfoldable pub leaf_weeks : Case → (number : ℕ) → List Problem → List Prices → List LeafWeek
leaf_weeks case w [] prices = []
leaf_weeks case w (week ∷ weeks) [] =
    record { week = week; prices = λ d s k. 0; may_choose = may_choose case w } ∷ leaf_weeks case (w + 1) weeks []
leaf_weeks case w (week ∷ weeks) (first ∷ prices) =
    record { week = week; prices = first; may_choose = may_choose case w } ∷ leaf_weeks case (w + 1) weeks prices

-- the bounds of all places of the weeks from the one with this number on
unfoldable pub leaf_place_bounds : ℕ → Case → (number : ℕ) → List LeafWeek → ℕ
leaf_place_bounds unit case w [] = 0
leaf_place_bounds unit case w (one ∷ later) =
    case_place_bounds unit case w one.week one.prices + leaf_place_bounds unit case (w + 1) later

-- the number of nurses of the first week; all weeks have the same
abbrev pub nurse_count : List LeafWeek → ℕ
nurse_count [] = 0
nurse_count (first ∷ later) = first.week.nurses

-- the sum that is added to the bounds of the nurses: the maximum price for each nurse, week and day
abbrev pub added_prices : List LeafWeek → ℕ
added_prices weeks = nurse_count weeks * (length weeks * (DAYS * max_price))

-- the bounds of all places and all nurses and the gain from the surcharges, less the added prices and the loss; 0 if that is negative
abbrev pub bound_of_leaf : ℕ → Case → List Surcharged → List LeafWeek → ℕ
bound_of_leaf unit case charges weeks =
    (leaf_place_bounds unit case 0 weeks + sum_below (nurse_count weeks) (λ n. nurse_bound unit (tariff_of unit charges n) weeks n) +
    gained charges) - (added_prices weeks + lost charges)

-- no leaf of a certificate has a bound above this number
abbrev pub most_bound : ℕ
most_bound = 10000000000000000000

-- the bound of the leaf with these prices and surcharges; it is 0 if the surcharges make a weight negative
abbrev pub leaf_bound : ℕ → List Problem → Case → List Prices → (surcharges : List ℕ) → ℕ
leaf_bound unit weeks case prices surcharges =
    let charges = surcharged case surcharges in
    let priced = leaf_weeks case 0 weeks prices in
    (if has_overdrawn unit charges (nurse_count priced) then 0 else bound_of_leaf unit case charges priced)
