-- One more roster of a plan.
use Rattle.std.proofs.Common.{◌≡◌, ℕ, refl, ap, sym, ◌∙◌, arith, List, [], ◌∷◌, ◌++◌, length, map, drop}
use Rattle.std.proofs.lemmas.List.{drop-map, drop_all, map-append, length-map}
use Rattle.rota_core.specs.InstanceTables.{InstanceTables, problem_of}
use Rattle.rota_core.specs.Problem.{Problem}
use Rattle.rota_core.specs.Roster.{Roster}
use Rattle.rota_core.specs.RosterTables.{RosterTables, set_of}
use Rattle.rota_certificate.specs.Plans.{Pasts, Plan, PlannedWeek, after, history_after, plan_after, plan_from, plan_of}
use Rattle.rota_bound_run.specs.Judging.{history_before, history_left}

-- a week with its roster after this history
abbrev pub planned : Problem → Pasts → Roster → PlannedWeek
planned week history roster = record { week = after week history; roster = roster }

no-rosters : (history : Pasts) (weeks : List Problem) → plan_after history weeks [] ≡ []
unfolding plan_after
no-rosters history [] = refl
no-rosters history (week ∷ weeks) = refl

plan-after-more : (history : Pasts) (weeks : List Problem) (rosters : List Roster) (roster : Roster) (week : Problem) (later : List
    Problem) →
    drop (length rosters) weeks ≡ (week ∷ later) →
    plan_after history weeks (rosters ++ roster ∷ []) ≡ plan_after history weeks rosters ++ planned week (history_left history weeks
    rosters) roster ∷ []
unfolding plan_after history_left
plan-after-more history [] [] roster week later is = absurd cc
plan-after-more history [] (r ∷ rosters) roster week later is = absurd cc
plan-after-more history (w ∷ weeks) [] roster week later is =
    let same : w ≡ week = cc in
    ap (λ (rest : Plan). planned w history roster ∷ rest) (no-rosters (history_after (after w history) roster) weeks) ∙
    ap (λ (one : Problem). planned one history roster ∷ []) same
plan-after-more history (w ∷ weeks) (r ∷ rosters) roster week later is =
    ap (λ (rest : Plan). planned w history r ∷ rest) (plan-after-more (history_after (after w history) r) weeks rosters roster week later
    is)

history-left-more : (history : Pasts) (weeks : List Problem) (rosters : List Roster) (roster : Roster) (week : Problem) (later : List
    Problem) →
    drop (length rosters) weeks ≡ (week ∷ later) →
    history_left history weeks (rosters ++ roster ∷ []) ≡ history_after (after week (history_left history weeks rosters)) roster
unfolding history_left
history-left-more history [] [] roster week later is = absurd cc
history-left-more history [] (r ∷ rosters) roster week later is = absurd cc
history-left-more history (w ∷ []) [] roster week later is =
    let same : w ≡ week = cc in
    ap (λ (one : Problem). history_after (after one history) roster) same
history-left-more history (w ∷ next ∷ weeks) [] roster week later is =
    let same : w ≡ week = cc in
    ap (λ (one : Problem). history_after (after one history) roster) same
history-left-more history (w ∷ weeks) (r ∷ rosters) roster week later is =
    history-left-more (history_after (after w history) r) weeks rosters roster week later is

-- the history before the next week
abbrev pub before : List InstanceTables → List RosterTables → Pasts
before weeks rosters = history_before (map problem_of weeks) (map set_of rosters)

problems-at : (weeks : List InstanceTables) (rosters : List RosterTables) (week : InstanceTables) (later : List InstanceTables) →
    drop (length rosters) weeks ≡ (week ∷ later) →
    drop (length (map set_of rosters)) (map problem_of weeks) ≡ (problem_of week ∷ map problem_of later)
problems-at weeks rosters week later is =
    ap (λ (n : ℕ). drop n (map problem_of weeks)) (length-map rosters set_of) ∙
    drop-map problem_of (length rosters) weeks ∙ ap (map problem_of) is

module _ (rosters : List RosterTables) (roster : RosterTables) (week : InstanceTables) (later : List InstanceTables) where
  nowhere : {A : Type 0} → drop (length rosters) [] ≡ (week ∷ later) → A
  nowhere is =
      let none : ◌≡◌ {A = List InstanceTables} (drop (length rosters) []) [] = drop_all (length rosters) [] (omega arith) in
      let same : ◌≡◌ {A = List InstanceTables} (week ∷ later) [] = sym is ∙ none in
      absurd cc

  -- the plan of one more roster
  pub plan-more : (weeks : List InstanceTables) → drop (length rosters) weeks ≡ (week ∷ later) →
      plan_from weeks (rosters ++ roster ∷ []) ≡ plan_from weeks rosters ++ planned (problem_of week) (before weeks rosters) (set_of
      roster) ∷ []
  plan-more [] is = nowhere is
  plan-more (first ∷ rest) is =
      ap (λ (sets : List Roster). plan_of (map problem_of (first ∷ rest)) sets) (map-append set_of rosters (roster ∷ [])) ∙
      plan-after-more (problem_of first).past (map problem_of (first ∷ rest)) (map set_of rosters) (set_of roster) (problem_of week)
      (map problem_of later) (problems-at (first ∷ rest) rosters week later is)

  -- the history after one more roster
  pub history-more : (weeks : List InstanceTables) → drop (length rosters) weeks ≡ (week ∷ later) →
      before weeks (rosters ++ roster ∷ []) ≡ history_after (after (problem_of week) (before weeks rosters)) (set_of roster)
  history-more [] is = nowhere is
  history-more (first ∷ rest) is =
      ap (λ (sets : List Roster). history_before (map problem_of (first ∷ rest)) sets) (map-append set_of rosters (roster ∷ [])) ∙
      history-left-more (problem_of first).past (map problem_of (first ∷ rest)) (map set_of rosters) (set_of roster) (problem_of week)
      (map problem_of later) (problems-at (first ∷ rest) rosters week later is)
