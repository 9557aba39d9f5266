-- A roster that is judged after a history.
use Rattle.std.proofs.Common.{◌≡◌, ℕ, suc, ◌<◌, refl, sym, ◌∙◌, subst, arith, List, [], ◌∷◌, length, Ok, Err}
use Rattle.std.specs.Prelude.{Bool, true, false, slice_index_or}
use Rattle.std.specs.List.{AllByRecursion}
use Rattle.rota_core.specs.Defaults.{no_past}
use Rattle.rota_core.specs.HardRules.{KeepsHardRules}
use Rattle.rota_core.specs.InstanceTables.{InstanceTables, problem_of}
use Rattle.rota_core.specs.Pasts.{ArePasts, with_pasts}
use Rattle.rota_core.specs.Problem.{Problem}
use Rattle.rota_core.specs.Roster.{Roster}
use Rattle.rota_core.specs.RosterTables.{RosterTables, set_of}
use Rattle.rota_core.specs.WeekTables.{IsPast}
use Rattle.rota_core.specs.declared.fault.FileName.TheVariants as names
use Rattle.rota_core.specs.declared.values.Past.{Past}
use Rattle.rota_certificate.specs.Plans.{Pasts, after, history_after}
use Rattle.rota_pb.specs.Extending.{BreaksRule}
use Rattle.rota_pb.specs.RunPorts.{Reader}
use Rattle.rota_pb.specs.Steps.{went_on}
use Rattle.rota_pb.specs.WeekFiles.{read_roster}
use Rattle.rota_pb.specs.declared.fault.Fault.{Fault}
use Rattle.rota_pb.specs.declared.fault.Fault.TheVariants.{Breaks}
use Rattle.rota_bound_run.specs.JudgedWeeks.{ArePastsIn, IsJudgedWeek, IsPenalty}
use Rattle.rota_bound_run.specs.Judging.{ArePastsOf, judge_week}
use Rattle.rota_bound_run.specs.declared.judged_week.JudgedWeek.{JudgedWeek}
use Rattle.rota_bound_run.proofs.OtherHistories.{Agree, broken-alike, keeps-alike, left-alike, penalty-alike}

-- each of the pasts is within the limits
abbrev pub Each : ℕ → List Past → Type 0
Each shifts pasts = (n : ℕ) → n < length pasts → IsPast shifts (slice_index_or pasts n no_past)

pub all-pasts : (shifts : ℕ) (pasts : List Past) → Each shifts pasts → AllByRecursion (IsPast shifts) pasts
all-pasts shifts [] each = tt
all-pasts shifts (past ∷ pasts) each = (each 0 (omega arith), all-pasts shifts pasts (λ n n_in. each (suc n) (omega (arith, n_in))))

pub are-pasts : (week : Problem) (shifts : ℕ) (pasts : List Past) → shifts ≡ week.shifts → length pasts ≡ week.nurses → Each shifts pasts
    →
    ArePasts week.numbers pasts
are-pasts week shifts pasts same count each = record {
  count = count;
  each = subst (λ (s : ℕ). AllByRecursion (IsPast s) pasts) same (all-pasts shifts pasts each);
}

module _ (week : Problem) (history : Pasts) (shifts : ℕ) (pasts : List Past) (same : shifts ≡ week.shifts)
    (are : ArePastsIn week.nurses history pasts) where
  -- the pasts are within the limits
  pub pasts-of : Each shifts pasts → ArePastsOf (after week history)
  pasts-of each n n_in =
      subst (λ (past : Past). IsPast week.shifts past) (are.each n n_in)
      (subst (λ (s : ℕ). IsPast s (slice_index_or pasts n no_past)) same (each n (omega (arith, n_in, are.count))))

  -- one of them is not
  pub not-pasts-of : (result : Bool) → result ≡ false → (Each shifts pasts → result ≡ true) → ArePastsOf (after week history) → ⊥
  not-pasts-of result is_false found is =
      let yes : result ≡ true =
      found (λ n n_in.
      subst (λ (s : ℕ). IsPast s (slice_index_or pasts n no_past)) (sym same)
      (subst (λ (past : Past). IsPast week.shifts past) (sym (are.each n (omega (arith, n_in, are.count)))) (is n
      (omega (arith, n_in, are.count))))) in
      let both : ◌≡◌ {A = Bool} false true = sym is_false ∙ yes in
      absurd cc

  -- the history of the list
  abbrev listed : Pasts
  listed n = slice_index_or pasts n no_past

  agree : Agree week listed history
  agree n n_in = are.each n n_in

  pub breaks-alike : (roster : Roster) (fault : Fault) → BreaksRule (after week listed) roster fault → BreaksRule (after week history)
      roster fault
  breaks-alike roster (Breaks rule) breaks = broken-alike week roster listed history agree rule breaks
  breaks-alike roster _ breaks = absurd breaks

  -- the roster is judged in the same way
  pub judged-alike : (judged : JudgedWeek) → IsPenalty (after week listed) (set_of judged.roster) judged.penalty →
      ArePastsIn week.nurses (history_after (after week listed) (set_of judged.roster)) judged.pasts.items →
      IsJudgedWeek (after week history) judged.roster judged
  judged-alike judged costs left =
      let roster = set_of judged.roster in
      record {
        roster_is = refl;
        costs = record {
          keeps = keeps-alike week roster listed history agree costs.keeps;
          penalty_is = costs.penalty_is ∙ penalty-alike week roster listed history agree;
          small = costs.small;
        };
        pasts = record { count = left.count; each = λ n n_in. left.each n n_in ∙ left-alike week roster listed history agree n n_in };
      }

module _ (tables : InstanceTables) (history : Pasts) (shifts : ℕ) (pasts : List Past) (reader : Reader) (roster : RosterTables)
    (same : shifts ≡ (problem_of tables).shifts) (are : ArePastsIn (problem_of tables).nurses history pasts) (each : Each shifts pasts)
    (read : (read_roster names.Solution tables reader).ends (Ok roster)) where
  -- the roster of the week is judged after the history
  pub judges-week : KeepsHardRules (problem_of (with_pasts tables pasts)) (set_of roster) → (judge_week tables history reader).ends (Ok
      roster)
  judges-week keeps =
      went_on tt (pasts-of (problem_of tables) history shifts pasts same are each)
      (went_on roster read (
        refl,
        keeps-alike (problem_of tables) (set_of roster) (λ n. slice_index_or pasts n no_past) history are.each
            keeps,
      ))

  -- it breaks a rule
  pub refuses-week : (fault : Fault) → BreaksRule (problem_of (with_pasts tables pasts)) (set_of roster) fault →
      (judge_week tables history reader).ends (Err fault)
  refuses-week fault breaks =
      went_on tt (pasts-of (problem_of tables) history shifts pasts same are each)
      (went_on roster read (breaks-alike (problem_of tables) history shifts pasts same are (set_of roster) fault breaks))
