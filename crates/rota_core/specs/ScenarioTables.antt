-- The contents of a scenario.
use Rattle.std.specs.Prelude.{◌≡◌, ℕ, ◌*◌, ◌≤◌, ◌<◌, Bool, false, List, [], ◌∷◌, length, codes}
use Rattle.std.specs.List.{AllByRecursion, IsDistinct}
use Rattle.std.specs.Str.{bytes_eq}
use Rattle.rota_core.specs.Limits.{Within, max_contracts, max_nurses, max_number, max_shifts, max_skills, max_weeks}
use Rattle.rota_core.specs.Sizes.{Numbers}
use Rattle.rota_core.specs.declared.values.Span.{Span}
use Rattle.rota_core.specs.declared.values.Contract.{Contract}
use Rattle.rota_core.specs.Words.{is_among, IsWord}

-- The rows of a scenario. Index n of `contract_of` is the index of nurse n's contract. For S shift types and K skills, index s*S+t of
-- `forbidden` says whether t may not follow s, and index n*K+k of `has_skill` whether nurse n has skill k.
pub record ScenarioTables : Type 0 where
  pub name : List ℕ
  pub weeks : ℕ
  pub skills : List (List ℕ)
  pub shifts : List (List ℕ)
  pub limits : List Span
  pub forbidden : List Bool
  pub contracts : List Contract
  pub nurses : List (List ℕ)
  pub contract_of : List ℕ
  pub has_skill : List Bool

-- the numbers of the scenario's nurses, shift types and skills
abbrev pub numbers_of : ScenarioTables → Numbers
numbers_of t = record { nurses = length t.nurses; shifts = length t.shifts; skills = length t.skills }

-- no name occurs twice
abbrev pub AreDistinct : List (List ℕ) → Type 0
AreDistinct names = IsDistinct bytes_eq names

-- a minimum and a maximum, both at most `max_number`; the minimum may be above the maximum
abbrev pub AreLimits : Span → Type 0
AreLimits span = (span.min ≤ max_number) × (span.max ≤ max_number)

-- a contract whose numbers are at most `max_number`
abbrev pub IsContract : Contract → Type 0
IsContract c = AreLimits c.total × AreLimits c.work × AreLimits c.off × (c.weekends ≤ max_number)

-- words that no shift type may be called: in a history `None` means no shift type, in a request `Any` means each one
abbrev pub reserved : List (List ℕ)
reserved = codes "None" ∷ codes "Any" ∷ []

-- a word that may be the name of a shift type: it is not reserved
abbrev pub IsShiftName : List ℕ → Type 0
IsShiftName name = IsWord name × (is_among reserved name ≡ false)

-- The numbers are within their limits, names are words, no list has a name twice, no shift type has a reserved name, each list has its
-- length, and each index is in its list.
pub record IsScenario (t : ScenarioTables) : Type 0 where
  pub name : IsWord t.name
  pub weeks : Within max_weeks t.weeks
  pub skills : Within max_skills (length t.skills) × AllByRecursion IsWord t.skills × AreDistinct t.skills
  pub shifts : Within max_shifts (length t.shifts) × AllByRecursion IsShiftName t.shifts × AreDistinct t.shifts
  pub limits : (length t.limits ≡ length t.shifts) × AllByRecursion AreLimits t.limits
  pub forbidden : length t.forbidden ≡ length t.shifts * length t.shifts
  pub contracts : Within max_contracts (length t.contracts) × AllByRecursion IsContract t.contracts
  pub nurses : Within max_nurses (length t.nurses) × AllByRecursion IsWord t.nurses × AreDistinct t.nurses
  pub contract_of : (length t.contract_of ≡ length t.nurses) × AllByRecursion (λ c. c < length t.contracts) t.contract_of
  pub has_skill : length t.has_skill ≡ length t.nurses * length t.skills
