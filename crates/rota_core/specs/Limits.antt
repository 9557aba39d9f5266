-- The limits of the numbers in files. The constants of `src/limits.rt` have the same values.
use Rattle.std.specs.Prelude.{ℕ, ◌≤◌}
use Rattle.rota_core.specs.Sizes.{Numbers}

-- the number is from 1 to the maximum
abbrev pub Within : ℕ → ℕ → Type 0
Within maximum n = (1 ≤ n) × (n ≤ maximum)

-- the maximum number of nurses in a scenario
abbrev pub max_nurses : ℕ
max_nurses = 1000

-- the maximum number of shift types in a scenario
abbrev pub max_shifts : ℕ
max_shifts = 16

-- the maximum number of skills in a scenario
abbrev pub max_skills : ℕ
max_skills = 16

-- the maximum number of contracts in a scenario
abbrev pub max_contracts : ℕ
max_contracts = 64

-- the maximum number of weeks that a scenario spans
abbrev pub max_weeks : ℕ
max_weeks = 52

-- the maximum of every other number in a file, except for counts of names in a row, the 0 or 1 for complete weekends, and prices
abbrev pub max_number : ℕ
max_number = 9999

-- the maximum price, in thousandths of a point
abbrev pub max_price : ℕ
max_price = 999999999

-- the maximum number of bytes in a scenario, history, week, solution, fix, certificate or facts file
abbrev pub max_file_len : ℕ
max_file_len = 4194304

-- each of these numbers is within its limit
abbrev pub AreLimited : Numbers → Type 0
AreLimited numbers = Within max_nurses numbers.nurses × Within max_shifts numbers.shifts × Within max_skills numbers.skills
