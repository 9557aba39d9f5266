use Rattle.std.proofs.Common.{◌≡◌, ℕ, ◌+◌, ◌-◌, ◌∙◌, ap, sym, arith}
use Rattle.std.specs.Prelude.{Option}
use Rattle.rota_core.specs.InstanceTables.{problem_of}
use Rattle.rota_core.specs.RosterTables.{set_of}
use Rattle.rota_core.specs.Sizes.{DAYS}
use Rattle.rota_core.specs.declared.values.Past.{Past}
use Rattle.rota_certificate.specs.CountedCharges.{choice_on, run_charges, total_charges}
use Rattle.rota_certificate.specs.DayCharges.{past_after}
use Rattle.rota_certificate.specs.Nearness.{most_days}
use Rattle.rota_certificate.proofs.CountedWeeks.{after-counted, after-end, past-more, past_on, runs_on}
use Rattle.rota_certificate.proofs.Sums.{sum-more}
use Rattle.rota_certificate.proofs.Tables.{near-more}
use Rattle.rota_certificate.proofs.counted.charges_in_week.Goals as goal

pub loop-day-preserved : goal.loop-day-preserved
loop-day-preserved c =
    let problem = problem_of c.args.instance.now in
    let roster = set_of c.args.roster.now in
    let n = c.args.nurse in
    let kind = c.args.kind in
    let d = c.loop-day.day in
    let before = past_on problem roster n c.args.past d in
    let choice = c.choice_on-choice.result in
    let step = ap (λ (p : Past). past_after d p choice) c.loop-day.invariant.now ∙
    ap (λ (one : Option ℕ). past_after d before one) c.choice_on-choice.ensures.choice in
    let charge = ap (λ (p : Past). run_charges kind problem n p choice) c.loop-day.invariant.now ∙
    ap (λ (one : Option ℕ). run_charges kind problem n before one) c.choice_on-choice.ensures.choice in
    let more = sum-more d (λ day. run_charges kind problem n (past_on problem roster n c.args.past day) (choice_on problem roster n day)) in
    record {
      now = c.past_after-now.ensures.past ∙ step ∙ sym (past-more problem roster n c.args.past d);
      charges = omega (arith, c.loop-day.invariant.charges, c.run_charges-charges.ensures.charges, charge, more);
      near = near-more problem.shifts (most_days - DAYS + d + 1) (most_days - DAYS + (d + 1)) c.past_after-now.result (omega arith)
          (c.past_after-now.ensures.near (most_days - DAYS + d) c.loop-day.invariant.near);
      nears = λ days near. near-more problem.shifts (days + d + 1) (days + (d + 1)) c.past_after-now.result (omega arith)
          (c.past_after-now.ensures.near (days + d) (c.loop-day.invariant.nears days near));
      small = omega (arith, c.loop-day.invariant.small, c.run_charges-charges.ensures.small);
    }

pub returns-clause-counted : goal.returns-clause-counted
returns-clause-counted c = λ history here keeps.
    let problem = problem_of c.args.instance.now in
    let roster = set_of c.args.roster.now in
    let n = c.args.nurse in
    let kind = c.args.kind in
    let past = c.args.past in
    let all : c.loop-day.day ≡ DAYS = omega (arith, c.loop-day-test.false, c.loop-day.auto.day-end) in
    let now = c.loop-day.invariant.now ∙ ap (λ (d : ℕ). past_on problem roster n past d) all in
    let runs = ap (λ (d : ℕ). runs_on kind problem roster n past d) all in
    let totals = c.total_charges.ensures.charges ∙ ap (λ (p : Past). total_charges kind problem n past p) now in
    record {
      charges = omega (arith, c.loop-day.invariant.charges, runs, totals, after-counted problem roster n past history here keeps c.requires.nurse_in kind);
      past = now ∙ after-end problem roster n past history here keeps c.requires.nurse_in;
    }

pub returns-clause-near : goal.returns-clause-near
returns-clause-near c = λ days near.
    near-more (problem_of c.args.instance.now).shifts (days + c.loop-day.day) (days + DAYS) c.loop-day.now
    (omega (arith, c.loop-day-test.false, c.loop-day.auto.day-end)) (c.loop-day.invariant.nears days near)
