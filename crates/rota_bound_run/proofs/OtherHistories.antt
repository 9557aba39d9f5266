-- The hard rules, the penalty and the history that a week leaves depend only on the pasts of the week's nurses.
use Rattle.std.proofs.Common.{◌≡◌, ℕ, ◌<◌, refl, ap, sym, ◌∙◌}
use Rattle.rota_core.specs.HardRules.{KeepsCompetitionRules, KeepsHardRules, KeepsHeld, KeepsOneCell, KeepsSkills, KeepsSuccession}
use Rattle.rota_core.specs.Problem.{Problem}
use Rattle.rota_core.specs.Roster.{Has, Roster}
use Rattle.rota_core.specs.SumsBelow.{sum_below}
use Rattle.rota_core.specs.declared.rule.Rule.{Rule}
use Rattle.rota_core.specs.declared.rule.Rule.TheVariants.{H1, H2, H3, H4, H5}
use Rattle.rota_core.specs.declared.values.Past.{Past}
use Rattle.rota_judge.specs.FirstUnmet.{FirstBroken}
use Rattle.rota_rules.specs.Penalty.{penalty}
use Rattle.rota_rules.specs.ConsecutiveAssignments.{consecutive_assignment_cost_of}
use Rattle.rota_rules.specs.ConsecutiveDaysOff.{consecutive_day_off_cost_of}
use Rattle.rota_rules.specs.TotalAssignments.{assignment_cost_of}
use Rattle.rota_rules.specs.WorkedWeekends.{worked_weekend_cost_of}
use Rattle.rota_rules.proofs.LogicWords.{sum_below-same}
use Rattle.rota_certificate.specs.Plans.{Pasts, after, history_after}

-- the histories have the same pasts of the week's nurses
abbrev pub Agree : Problem → Pasts → Pasts → Type 0
Agree week one other = (n : ℕ) → n < week.nurses → one n ≡ other n

pub agree-back : (week : Problem) (one other : Pasts) → Agree week one other → Agree week other one
agree-back week one other same n n_in = sym (same n n_in)

module _ (week : Problem) (roster : Roster) (one other : Pasts) where
  has : (set : Roster) (cell : _) → Has (after week one) set cell → Has (after week other) set cell
  has set cell is = record {
    in_week = record {
      nurse_in = is.in_week.nurse_in;
      day_in = is.in_week.day_in;
      shift_in = is.in_week.shift_in;
      skill_in = is.in_week.skill_in;
    };
    in_roster = is.in_roster;
  }

module _ (week : Problem) (roster : Roster) (one other : Pasts) (same : Agree week one other) where
  one_cell : KeepsOneCell (after week one) roster → KeepsOneCell (after week other) roster
  one_cell keeps a b has_a has_b = keeps a b (has week roster other one roster a has_a) (has week roster other one roster b has_b)

  succession : KeepsSuccession (after week one) roster → KeepsSuccession (after week other) roster
  succession keeps = record {
    from_history = λ n s t n_in t_in last on. keeps.from_history n s t n_in t_in (ap (λ (past : Past). past.last) (same n n_in) ∙ last)
        on;
    in_week = λ n d s t n_in d_in s_in t_in on next. keeps.in_week n d s t n_in d_in s_in t_in on next;
  }

  skills : KeepsSkills (after week one) roster → KeepsSkills (after week other) roster
  skills keeps cell is = keeps cell (has week roster other one roster cell is)

  held : KeepsHeld (after week one) roster → KeepsHeld (after week other) roster
  held keeps cell is = keeps cell (has week roster other one week.is_held cell is)

  competition : KeepsCompetitionRules (after week one) roster → KeepsCompetitionRules (after week other) roster
  competition keeps = record {
    one_cell = one_cell keeps.one_cell;
    minimum = λ d s k d_in s_in k_in. keeps.minimum d s k d_in s_in k_in;
    succession = succession keeps.succession;
    skills = skills keeps.skills;
  }

  -- a roster that keeps the hard rules after one history keeps them after the other
  pub keeps-alike : KeepsHardRules (after week one) roster → KeepsHardRules (after week other) roster
  keeps-alike keeps = record { of_competition = competition keeps.of_competition; held = held keeps.held }

module _ (week : Problem) (roster : Roster) (one other : Pasts) (same : Agree week one other) where
  -- the first rule that it breaks is the same
  pub broken-alike : (rule : Rule) → FirstBroken (after week one) roster rule → FirstBroken (after week other) roster rule
  broken-alike H1 first = λ keeps. first (one_cell week roster other one (agree-back week one other same) keeps)
  broken-alike H2 first = (one_cell week roster one other same first.0, λ keeps. first.1 keeps)
  broken-alike H3 first = (
    one_cell week roster one other same first.0,
    first.1,
    λ keeps. first.2 (succession week roster other one
        (agree-back week one other same) keeps),
  )
  broken-alike H4 first = (
    one_cell week roster one other same first.0,
    first.1,
    succession week roster one other same first.2,
    λ keeps. first.3 (skills week roster other one (agree-back week one other same) keeps),
  )
  broken-alike H5 first = (
    competition week roster one other same first.0,
    λ keeps. first.1 (held week roster other one (agree-back week one other same)
        keeps),
  )
  broken-alike _ first = absurd first

  each-alike : (cost : Problem → Roster → ℕ → ℕ) → ((n : ℕ) → cost (after week one) roster n ≡ cost (after week (λ m. one n)) roster n) →
      ((n : ℕ) → cost (after week other) roster n ≡ cost (after week (λ m. other n)) roster n) →
      sum_below week.nurses (cost (after week one) roster) ≡ sum_below week.nurses (cost (after week other) roster)
  each-alike cost of_one of_other =
      sum_below-same week.nurses (cost (after week one) roster) (cost (after week other) roster)
      (λ n n_in. of_one n ∙ ap (λ (past : Past). cost (after week (λ m. past)) roster n) (same n n_in) ∙ sym (of_other n))

  -- it costs the same
  pub penalty-alike : penalty (after week one) roster ≡ penalty (after week other) roster
  penalty-alike =
      let s2 = each-alike consecutive_assignment_cost_of (λ n. refl) (λ n. refl) in
      let s3 = each-alike consecutive_day_off_cost_of (λ n. refl) (λ n. refl) in
      let s6 = each-alike assignment_cost_of (λ n. refl) (λ n. refl) in
      let s7 = each-alike worked_weekend_cost_of (λ n. refl) (λ n. refl) in
      rw (s2, s3, s6, s7) refl

  -- it leaves the same pasts
  pub left-alike : (n : ℕ) → n < week.nurses → history_after (after week one) roster n ≡ history_after (after week other) roster n
  left-alike n n_in = ap (λ (past : Past). history_after (after week (λ m. past)) roster n) (same n n_in)
