-- Weeks that make a period: all of one ward, in order.
use Rattle.std.specs.Prelude.{◌≡◌, ℕ, false, ⊤, List, [], ◌∷◌}
use Rattle.rota_core.specs.Problem.{Problem}

-- two weeks are of one ward and of one period: they have the same numbers of nurses, shift types and skills, limits, contracts, flag
-- `--early`, and history before the period
pub record AreOfOneWard (one other : Problem) : Type 0 where
  pub numbers : one.numbers ≡ other.numbers
  pub is_early : one.is_early ≡ other.is_early
  pub limits : (s : ℕ) → one.limits s ≡ other.limits s
  pub contract : (n : ℕ) → one.contract n ≡ other.contract n
  pub past : (n : ℕ) → one.past n ≡ other.past n

-- the weeks after this one make a period with it: all are of one ward, and no week but the last of them is the last of the scenario
unfoldable pub Continue : Problem → List Problem → Type 0
Continue week [] = ⊤
Continue week (next ∷ later) = (week.is_last ≡ false) × AreOfOneWard week next × Continue next later

-- the weeks make a period; `past` of each is the history before the first week
abbrev pub ArePeriod : List Problem → Type 0
ArePeriod [] = ⊤
ArePeriod (first ∷ later) = Continue first later
