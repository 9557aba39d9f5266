-- The slots of a scenario file. Each section gives the names of its rows; all but that of the skills give a value for each.
use Rattle.std.specs.Prelude.{◌==◌, ◌∷◌, ◌++◌, ℕ, Bool, List, [], codes, length, map, flat_map}
use Rattle.rota_layout.specs.Layout.{unwrap_or, range_with_len, max_number, ScenarioTables, Layout, end, ◌>>=◌, exactly, number, any_word}
use Rattle.rota_layout.specs.Layout.{known_name, none_taken, many, one_more, repeat, setting}
use Rattle.rota_read.specs.SharedSlots.{new_name, is_one_of, value_of_each, pair}
use Rattle.rota_core.specs.Limits.{max_contracts, max_nurses, max_shifts, max_skills, max_weeks}
use Rattle.rota_core.specs.declared.values.Contract.{Contract}
use Rattle.rota_core.specs.ScenarioTables.{reserved}

-- the number of rows as a setting, and the rows; `none` is the state before the first row
unfoldable pub section : {S : Type 0} → List ℕ → ℕ → (S → Layout S) → S → Layout S
section name maximum row none = do
  count ← setting name 1 maximum
  repeat count row none

-- a count of at most the number of names, and then that number of different known names, as indices
unfoldable pub known_names : List (List ℕ) → Layout (List ℕ)
known_names names = do
  count ← number 0 (length names)
  many count (λ indices. known_name names (is_one_of indices))

-- for each number below size, whether it is one of the indices
abbrev pub marks : ℕ → List ℕ → List Bool
marks size indices = map (is_one_of indices) (range_with_len 0 size)

-- names, and the value of each
pub record Named (A : Type 0) : Type 0 where
  pub names : List (List ℕ)
  pub values : List A

-- no name yet
abbrev pub none_named : {A : Type 0} → Named A
none_named = record { names = []; values = [] }

-- one more name, which is neither one of these words nor a name before, and its value
unfoldable pub new_row : {A : Type 0} → List (List ℕ) → Layout A → Named A → Layout (Named A)
new_row words value rows = do
  name ← new_name (words ++ rows.names)
  one ← value
  end (record { names = rows.names ++ name ∷ []; values = rows.values ++ one ∷ [] })

-- A word, and for each shift type a row with those that may not follow it. At index s * S + t of the value, for S shift types, is whether
-- shift type t may not follow shift type s.
unfoldable pub successions : List (List ℕ) → Layout (List Bool)
successions shifts = do
  _ ← exactly (codes "FORBIDDEN_SHIFT_TYPES_SUCCESSIONS")
  rows ← value_of_each shifts (known_names shifts)
  end (flat_map (λ row. marks (length shifts) (unwrap_or row [])) rows)

-- the limits of assignments, working days and days off, the maximum of worked weekends, and whether weekends must be complete
unfoldable pub contract : Layout Contract
contract = do
  total ← pair
  work ← pair
  off ← pair
  weekends ← number 0 max_number
  complete ← number 0 1
  end (record { total = total; work = work; off = off; weekends = weekends; complete = complete == 1 })

-- a nurse's contract and her skills, as indices
pub record Nurse : Type 0 where
  pub contract : ℕ
  pub skills : List ℕ

-- a known contract and known skills
unfoldable pub nurse : List (List ℕ) → List (List ℕ) → Layout Nurse
nurse contracts skills = do
  contract ← known_name contracts none_taken
  known ← known_names skills
  end (record { contract = contract; skills = known })

-- the slots of the whole file
unfoldable pub scenario : Layout ScenarioTables
scenario = do
  _ ← exactly (codes "SCENARIO")
  _ ← exactly (codes "=")
  name ← any_word
  weeks ← setting (codes "WEEKS") 1 max_weeks
  skills ← section (codes "SKILLS") max_skills (one_more new_name) []
  shifts ← section (codes "SHIFT_TYPES") max_shifts (new_row reserved pair) none_named
  forbidden ← successions shifts.names
  contracts ← section (codes "CONTRACTS") max_contracts (new_row [] contract) none_named
  nurses ← section (codes "NURSES") max_nurses (new_row [] (nurse contracts.names skills)) none_named
  end (record {
    name = name;
    weeks = weeks;
    skills = skills;
    shifts = shifts.names;
    limits = shifts.values;
    forbidden = forbidden;
    contracts = contracts.values;
    nurses = nurses.names;
    contract_of = map (λ (one : Nurse). one.contract) nurses.values;
    has_skill = flat_map (λ (one : Nurse). marks (length skills) one.skills) nurses.values;
  })
