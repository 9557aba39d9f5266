-- Rosters with the same cells in a week agree on each cell, day and run.
use Rattle.std.proofs.Common.{◌≡◌, ℕ, ◌<◌, Bool, if◌then◌else◌, refl, ap, arith}
use Rattle.rota_core.specs.declared.values.Span.{Span}
use Rattle.rota_core.specs.HardRules.{is_on, nurses_at, works}
use Rattle.rota_core.specs.Problem.{Problem}
use Rattle.rota_core.specs.Roster.{Roster, cell}
use Rattle.rota_core.specs.SumsBelow.{count_below}
use Rattle.rota_rules.specs.AlikeRosters.{AreAlike}
use Rattle.rota_rules.specs.Runs.{run_cost, run_over, run_under}
use Rattle.rota_rules.proofs.LogicWords.{any_below-same, sum_below-same}

pub count_below-alike : (n : ℕ) (p q : ℕ → Bool) → ((i : ℕ) → i < n → p i ≡ q i) → count_below n p ≡ count_below n q
count_below-alike n p q same = sum_below-same n _ _ (λ i below. ap (λ test. if test then 1 else 0) (same i below))

pub run_cost-alike : (p q : ℕ → Bool) → ((d : ℕ) → d < 7 → p d ≡ q d) → (history : ℕ) (limits : Span) →
    run_cost p history limits ≡ run_cost q history limits
unfolding run_over run_under
run_cost-alike p q same history limits =
    rw (
      same 0 (omega arith),
      same 1 (omega arith),
      same 2 (omega arith),
      same 3 (omega arith),
      same 4 (omega arith),
      same 5 (omega arith),
      same 6 (omega arith),
    ) refl

module _ (problem : Problem) (one other : Roster) (same : AreAlike problem one other) where
  pub same_cell : (n d s k : ℕ) → n < problem.nurses → d < 7 → s < problem.shifts → k < problem.skills → one (cell n d s k) ≡ other (cell n d s k)
  same_cell n d s k n_in d_in s_in k_in = same (cell n d s k) (record { nurse_in = n_in; day_in = d_in; shift_in = s_in; skill_in = k_in })

  pub on-alike : (n s d : ℕ) → n < problem.nurses → s < problem.shifts → d < 7 → is_on problem one n s d ≡ is_on problem other n s d
  on-alike n s d n_in s_in d_in = any_below-same problem.skills _ _ (λ k k_in. same_cell n d s k n_in d_in s_in k_in)

  pub works-alike : (n d : ℕ) → n < problem.nurses → d < 7 → works problem one n d ≡ works problem other n d
  works-alike n d n_in d_in = any_below-same problem.shifts _ _ (λ s s_in. on-alike n s d n_in s_in d_in)

  pub nurses-alike : (d s k : ℕ) → d < 7 → s < problem.shifts → k < problem.skills → nurses_at problem one d s k ≡ nurses_at problem other d s k
  nurses-alike d s k d_in s_in k_in = count_below-alike problem.nurses _ _ (λ n n_in. same_cell n d s k n_in d_in s_in k_in)
