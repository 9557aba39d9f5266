-- The files of a period, opened one after the other.
use Rattle.std.specs.Prelude.{◌≡◌, List, [], ◌∷◌, Result, Ok, Err, Vec, option_map, string_bytes}
use Rattle.std.specs.declared.string.String.{String}
use Rattle.byte_ports.specs.declared.ports.Source.{Ghosts}
use Rattle.byte_ports.specs.Opening.{Opening, ◌>>=◌, end_as, make_room, open_at, open_if_named}
use Rattle.rota_bound_run.specs.declared.files.PeriodFiles.{PeriodFiles}
use Rattle.rota_bound_run.specs.declared.files.WeekFiles.{WeekFiles}

-- each of these is opened, in their order
unfoldable pub open_in_order : {A B : Type 0} → (A → Opening B) → List A → Opening (List B)
open_in_order one_of [] = end_as (λ found. found ≡ [])
open_in_order one_of (x ∷ xs) = do
  one ← one_of x
  later ← open_in_order one_of xs
  end_as (λ found. found ≡ one ∷ later)

-- if there are any, memory for all of them, unless it runs out, and then each of them
abbrev pub open_each : {A B : Type 0} → (A → Opening B) → List A → Opening (List B)
open_each one_of [] = end_as (λ found. found ≡ [])
open_each one_of (x ∷ xs) = do
  _ ← make_room
  open_in_order one_of (x ∷ xs)

module _ {F X : Type 0} (port : Ghosts F) where
  -- the file at the path
  abbrev pub open_path : String X → Opening F
  open_path path = open_at port (string_bytes path)

  -- the files of a week
  abbrev pub open_week : WeekFiles (String X) → Opening (WeekFiles F)
  open_week paths = do
    week ← open_path paths.week
    fix ← open_if_named port (option_map string_bytes paths.fix)
    end_as (λ opened. opened ≡ record { week = week; fix = fix })

  -- each file of the period, at its own path
  abbrev pub open_period : PeriodFiles (String X) → Opening (PeriodFiles F)
  open_period paths = do
    scenario ← open_path paths.scenario
    history ← open_path paths.history
    weeks ← open_each open_week paths.weeks.items
    given ← open_if_named port (option_map string_bytes paths.given)
    proof ← open_if_named port (option_map string_bytes paths.proof)
    rosters ← open_each open_path paths.rosters.items
    end_as (λ opened. (opened.weeks.items ≡ weeks) × (opened.rosters.items ≡ rosters) × (opened ≡ record {
      scenario = scenario;
      history = history;
      weeks = opened.weeks;
      given = given;
      proof = proof;
      rosters = opened.rosters;
    }))

-- the result with the list of what a call opened
abbrev pub list_of : {A Z E : Type 0} → Result (Vec A Z) E → Result (List A) E
list_of (Ok opened) = Ok opened.items
list_of (Err fault) = Err fault
