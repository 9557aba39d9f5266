use Rattle.std.proofs.Common.{◌≡◌, ◌≤◌, ◌+◌, ◌*◌, ◌-◌, length}
use Rattle.std.specs.Prelude.{Some}
use Rattle.rota_certificate.specs.KnownCosts.{AreRight}
use Rattle.rota_certificate.specs.Minimums.{least_below, not_allowed}
use Rattle.rota_certificate.specs.NurseBounds.{choice_value}
use Rattle.rota_certificate.specs.Stages.{least_in, terms_of, week_of}
use Rattle.rota_certificate.proofs.nurses.+week.Given as goal

abbrev pub decreases-value_in : goal.decreases-value_in
decreases-value_in l = 32 * (length l.stage.now.leaf.weeks - l.stage.now.week) + 3 * l.days_left + 2

abbrev pub decreases-least_choice_in : goal.decreases-least_choice_in
decreases-least_choice_in l = 32 * (length l.stage.now.leaf.weeks - l.stage.now.week) + 3 * l.days_left + 3

abbrev pub decreases-least_in : goal.decreases-least_in
decreases-least_in l = 32 * (length l.stage.now.leaf.weeks - l.stage.now.week) + 3 * l.days_left + 1

abbrev pub decreases-least_after : goal.decreases-least_after
decreases-least_after l = 32 * (length l.stage.now.leaf.weeks - l.stage.now.week)

abbrev pub invariant-least_choice_in-loop-shift : goal.invariant-least_choice_in-loop-shift
invariant-least_choice_in-loop-shift l =
    record {
      least : l.least ≡ least_below l.shift not_allowed (λ s.
          choice_value (terms_of l.stage) (week_of l.stage) l.stage.nurse (6 - l.days_left) l.past (least_in l.stage l.days_left) (Some s));
      small : l.least ≤ not_allowed;
      right : AreRight l.stage l.known;
    }
