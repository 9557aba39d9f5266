-- The slots of facts about a plan, and of a facts' file.
use Rattle.std.specs.Prelude.{◌-◌, bytes_eq, if◌then◌else◌, Ok, Err, [], ◌∷◌, ◌++◌}
use Rattle.rota_core.specs.declared.certificate.ChargeKind.{ChargeKind}
use Rattle.rota_core.specs.declared.certificate.ChargeKind.TheVariants.{ShiftRuns, WorkDays, Assignments, Weekends}
use Rattle.rota_core.specs.declared.certificate.ChargeLimit.{ChargeLimit}
use Rattle.rota_core.specs.declared.certificate.Condition.{Condition}
use Rattle.rota_core.specs.declared.certificate.DayChoice.{DayChoice}
use Rattle.rota_core.specs.declared.certificate.Fact.{Fact}
use Rattle.rota_core.specs.declared.certificate.Fact.TheVariants as kinds_of_fact
use Rattle.rota_core.specs.declared.certificate.NurseLimit.{NurseLimit}
use Rattle.rota_core.specs.declared.fault.Kind.TheVariants as kinds
use Rattle.rota_certificate_read.specs.declared.facts.FactWord.{FactWord}
use Rattle.rota_certificate_read.specs.declared.facts.FactWord.TheVariants as words
use Rattle.rota_certificate_read.specs.declared.facts.GivenFacts.{GivenFacts}
use Rattle.rota_layout.specs.Layout.{ℕ, Bool, true, false, Option, Some, None, List, codes, option_map_or, max_number, ScenarioTables}
use Rattle.rota_layout.specs.Layout.{Layout, end, slot, ◌>>=◌, exactly, number, any_word, known_name, none_taken, day_names, shift_or, repeat, setting}

-- a token that has a meaning here; the value is this meaning
unfoldable pub keyword : {V : Type 0} → (List ℕ → Option V) → Layout V
keyword meaning = slot (λ token. option_map_or (λ value. Ok value) (meaning token.word) (Err kinds.OtherWord))

-- such a token; the value is its meaning, and its line
unfoldable pub keyword_on_line : {V : Type 0} → (List ℕ → Option V) → Layout (V × ℕ)
keyword_on_line meaning = slot (λ token. option_map_or (λ value. Ok (value, token.line)) (meaning token.word) (Err kinds.OtherWord))

-- whether a token is the first of two words, if it is one of them
abbrev pub is_first : (first second word : List ℕ) → Option Bool
is_first first second word = if bytes_eq word first then Some true else (if bytes_eq word second then Some false else None)

-- one of two words; the value is whether it is the first
unfoldable pub one_of_two : (first second : List ℕ) → Layout Bool
one_of_two first second = keyword (is_first first second)

-- the fact that begins with a word
abbrev pub fact_word : List ℕ → Option FactWord
fact_word word =
    if bytes_eq word (codes "CHOICE") then Some words.Choice
    else (if bytes_eq word (codes "PLACE") then Some words.Place
    else (if bytes_eq word (codes "CHARGES") then Some words.Charges
    else (if bytes_eq word (codes "EVEN") then Some words.Even else None)))

-- the kind of charges that a word names
abbrev pub charge_kind : List ℕ → Option ChargeKind
charge_kind word =
    if bytes_eq word (codes "SHIFT_RUNS") then Some ShiftRuns
    else (if bytes_eq word (codes "WORK_DAYS") then Some WorkDays
    else (if bytes_eq word (codes "SHIFTS") then Some Assignments
    else (if bytes_eq word (codes "WEEKENDS") then Some Weekends else None)))

-- the number of a week, from 1; the value is from 0
unfoldable pub week_number : ℕ → Layout ℕ
week_number weeks = do
  number ← number 1 weeks
  end (number - 1)

-- a week, a nurse, a day, and her choice: a shift type, or `None` for a day off
unfoldable pub day_choice : ScenarioTables → ℕ → Layout DayChoice
day_choice t weeks = do
  week ← week_number weeks
  nurse ← known_name t.nurses none_taken
  day ← known_name day_names none_taken
  choice ← shift_or (codes "None") t.shifts
  end (record { week = week; nurse = nurse; day = day; choice = choice })

-- a week, a place of it, and the maximum number of nurses
unfoldable pub nurse_limit : ScenarioTables → ℕ → Layout NurseLimit
nurse_limit t weeks = do
  week ← week_number weeks
  day ← known_name day_names none_taken
  shift ← known_name t.shifts none_taken
  skill ← known_name t.skills none_taken
  most ← number 0 max_number
  end (record { week = week; day = day; shift = shift; skill = skill; most = most })

-- nothing for all nurses, and otherwise a nurse
unfoldable pub nurse_unless : ScenarioTables → (all : Bool) → Layout (Option ℕ)
nurse_unless t true = end None
nurse_unless t false = do
  nurse ← known_name t.nurses none_taken
  end (Some nurse)

-- a kind of charges, `ALL` nurses or a `NURSE`, and the maximum number of charges
unfoldable pub charge_limit : ScenarioTables → Layout ChargeLimit
charge_limit t = do
  kind ← keyword charge_kind
  all ← one_of_two (codes "ALL") (codes "NURSE")
  nurse ← nurse_unless t all
  most ← number 0 max_number
  end (record { kind = kind; nurse = nurse; most = most })

-- the rest of the fact that begins with a word
unfoldable pub fact_after : ScenarioTables → ℕ → FactWord → Layout Fact
fact_after t weeks words.Choice = do
  one ← day_choice t weeks
  end (kinds_of_fact.Choice one)
fact_after t weeks words.Place = do
  one ← nurse_limit t weeks
  end (kinds_of_fact.Nurses one)
fact_after t weeks words.Charges = do
  one ← charge_limit t
  end (kinds_of_fact.Charges one)
fact_after t weeks words.Even = end kinds_of_fact.EvenShiftRuns

-- a fact about a plan of this number of weeks
unfoldable pub fact : ScenarioTables → ℕ → Layout Fact
fact t weeks = do
  word ← keyword fact_word
  fact_after t weeks word

-- facts, each with whether it holds, and the line that each begins on
pub record GivenTables : Type 0 where
  pub conditions : List Condition
  pub lines : List ℕ

-- no fact
abbrev pub no_facts : GivenTables
no_facts = record { conditions = []; lines = [] }

-- one more fact: whether it holds, with the line of this word, and the fact
unfoldable pub condition_row : ScenarioTables → ℕ → GivenTables → Layout GivenTables
condition_row t weeks given = do
  first ← keyword_on_line (is_first (codes "HOLDS") (codes "NOT"))
  one ← fact t weeks
  end (record { conditions = given.conditions ++ record { fact = one; holds = first.0 } ∷ []; lines = given.lines ++ first.1 ∷ [] })

-- the slots of the whole file; any word may be the scenario's name
unfoldable pub facts : ScenarioTables → (weeks : ℕ) → Layout GivenTables
facts t weeks = do
  _ ← exactly (codes "FACTS")
  _ ← any_word
  count ← setting (codes "ROWS") 0 max_number
  repeat count (condition_row t weeks) no_facts

-- the contents of the facts of a file
abbrev pub given_of : GivenFacts → GivenTables
given_of found = record { conditions = found.conditions.items; lines = found.lines.items }
