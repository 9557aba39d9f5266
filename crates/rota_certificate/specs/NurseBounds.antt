-- The minimum cost of a nurse in the weeks of a leaf, less the prices of her cells. Each day adds the maximum price, so that no number is
-- negative.
use Rattle.std.specs.Prelude.{ℕ, zero, suc, ◌+◌, ◌-◌, ◌*◌, ◌==◌, ◌&&◌, ◌||◌, Bool, false, not, min, if◌then◌else◌, Option, Some, None, List, [], ◌∷◌}
use Rattle.std.specs.List.{list_any}
use Rattle.rota_core.specs.Sizes.{DAYS}
use Rattle.rota_core.specs.HardRules.{is_off}
use Rattle.rota_core.specs.Prices.{Prices, max_price}
use Rattle.rota_core.specs.Roster.{cell}
use Rattle.rota_core.specs.Problem.{Problem}
use Rattle.rota_core.specs.SumsBelow.{any_below}
use Rattle.rota_core.specs.declared.values.Past.{Past}
use Rattle.rota_core.specs.Successions.{is_forbidden_after}
use Rattle.rota_rules.specs.TotalAssignments.{assignment_weight}
use Rattle.rota_certificate.specs.Minimums.{least_below, not_allowed}
use Rattle.rota_certificate.specs.DayCharges.{choice_cost, missing_total, past_after, start_cost}
use Rattle.rota_certificate.specs.declared.tariffs.Tariff.{Tariff}

-- whether the nurse may be off that day: no cell of the day is held
abbrev pub may_be_off : Problem → (nurse day : ℕ) → Bool
may_be_off problem n d = is_off problem problem.is_held n d

-- whether the nurse's cell of this other shift type and skill is held, and is not the cell
abbrev pub is_held_apart : Problem → (nurse day shift skill : ℕ) → (other_shift other_skill : ℕ) → Bool
is_held_apart problem n d s k t l = problem.is_held (cell n d t l) && not (t == s && l == k)

-- whether such a cell of the other shift type is held
abbrev pub is_held_apart_on : Problem → (nurse day shift skill : ℕ) → (other_shift : ℕ) → Bool
is_held_apart_on problem n d s k t = any_below problem.skills (is_held_apart problem n d s k t)

-- whether the cell is held, and no other cell of the nurse's day
abbrev pub is_only_held : Problem → (nurse day shift skill : ℕ) → Bool
is_only_held problem n d s k = problem.is_held (cell n d s k) && not (any_below problem.shifts (is_held_apart_on problem n d s k))

-- whether the nurse may have the cell: she has the skill, and of the cells of the day none is held, or this one alone. With two held
-- cells she may have none, as no roster with both keeps the hard rules
abbrev pub may_have : Problem → (nurse day shift skill : ℕ) → Bool
may_have problem n d s k = problem.has_skill n k && (may_be_off problem n d || is_only_held problem n d s k)

-- the maximum price, less the price of the cell, if the nurse may have it
abbrev pub rebate : Problem → Prices → (nurse day shift skill : ℕ) → ℕ
rebate problem prices n d s k = (if may_have problem n d s k then max_price - prices d s k else not_allowed)

-- the rebate of the day: the maximum price on a day off, if she may be off; on a shift type, the minimum rebate over her skills
abbrev pub day_rebate : Problem → Prices → (nurse day : ℕ) → Option ℕ → ℕ
day_rebate problem prices n d None = (if may_be_off problem n d then max_price else not_allowed)
day_rebate problem prices n d (Some s) = least_below problem.skills not_allowed (rebate problem prices n d s)

-- whether the choice may not follow the last shift type; a day off may follow each
abbrev pub is_barred : Problem → Past → Option ℕ → Bool
is_barred problem past None = false
is_barred problem past (Some s) = is_forbidden_after problem past.last s

-- a week of a leaf with the prices of its places, and whether the case allows a nurse the choice of a day
pub record LeafWeek : Type 0 where
  pub week : Problem
  pub prices : Prices
  pub may_choose : (nurse day : ℕ) → Option ℕ → Bool

-- the terms of a nurse in a leaf: the value of a point (1000, or 0 if soft rules are left out), her tariff, and whether totals are charged
pub record Terms : Type 0 where
  pub unit : ℕ
  pub tariff : Tariff
  pub charged : Bool

-- the rebate of the day, if the case allows the choice
abbrev pub allowed_rebate : LeafWeek → (nurse day : ℕ) → Option ℕ → ℕ
allowed_rebate one n d choice = (if one.may_choose n d choice then day_rebate one.week one.prices n d choice else not_allowed)

-- the value of a choice for the day: the cost of the day, its rebate, and the minimum cost of the time after it, which depends on her past
-- after the day
abbrev pub choice_value : Terms → LeafWeek → (nurse day : ℕ) → Past → (rest : Past → ℕ) → Option ℕ → ℕ
choice_value terms one n d past rest choice =
    (if is_barred one.week past choice
    then not_allowed
    else choice_cost terms.unit terms.tariff terms.charged one.week n d past choice + allowed_rebate one n d choice +
    rest (past_after d past choice))

-- the minimum of these values over her choices for the day, but not more than `not_allowed`
abbrev pub least_choice : Terms → LeafWeek → (nurse day : ℕ) → Past → (rest : Past → ℕ) → ℕ
least_choice terms one n d past rest =
    min (choice_value terms one n d past rest None)
    (least_below one.week.shifts not_allowed (λ s. choice_value terms one n d past rest (Some s)))

-- the minimum cost of the last days of the week and of the time after it; `days_left` is the number of these days, `past` the past before them,
-- and `rest` gives the cost after the week, which depends on the past at its end
unfoldable pub least_days : Terms → LeafWeek → (nurse : ℕ) → (rest : Past → ℕ) → (days_left : ℕ) → Past → ℕ
least_days terms one n rest zero past = rest past
least_days terms one n rest (suc days_left) past =
    least_choice terms one n (DAYS - suc days_left) past (least_days terms one n rest days_left)

-- the cost of the assignments that are missing at the end
abbrev pub end_cost : Terms → Problem → (nurse : ℕ) → Past → ℕ
end_cost terms week n past = terms.unit * (assignment_weight * missing_total week.is_last (week.contract n) past)

-- the minimum cost after a week: the cost of the missing assignments if no week follows, otherwise the minimum cost of the later weeks
abbrev pub rest_after : Terms → (week : Problem) → (later : List LeafWeek) → (nurse : ℕ) → Past → ℕ
rest_after terms week [] n past = end_cost terms week n past
rest_after terms week (next ∷ later) n past = least_days terms next n (rest_after terms next.week later n) DAYS past

-- the minimum cost of the last days of the first week, and of the later weeks
abbrev pub least_left : Terms → List LeafWeek → (nurse days_left : ℕ) → Past → ℕ
least_left terms [] n days_left past = 0
least_left terms (first ∷ later) n days_left past = least_days terms first n (rest_after terms first.week later n) days_left past

-- whether any of the weeks charges totals: with `--early` each week does, without it the last week of the scenario
abbrev pub charge_totals : List LeafWeek → Bool
charge_totals weeks = list_any (λ one. one.week.is_early || one.week.is_last) weeks

-- whether any of the weeks pays for the history's totals above the maximums: without `--early` the last week of the scenario does
abbrev pub pay_for_history : List LeafWeek → Bool
pay_for_history weeks = list_any (λ one. not one.week.is_early && one.week.is_last) weeks

-- the minimum cost of the nurse in all the weeks with this tariff, after the history before the first week
abbrev pub nurse_bound : (unit : ℕ) → Tariff → List LeafWeek → (nurse : ℕ) → ℕ
nurse_bound unit tariff [] n = 0
nurse_bound unit tariff (first ∷ later) n =
    (if pay_for_history (first ∷ later) then start_cost tariff (first.week.contract n) (first.week.past n) else 0) +
    least_left (record { unit = unit; tariff = tariff; charged = charge_totals (first ∷ later) }) (first ∷ later) n DAYS (first.week.past n)
