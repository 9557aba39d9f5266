use Rattle.rota_items.proofs.Common.{arith, inl, inr, not}
use Rattle.rota_items.proofs.DayPatterns.{count-plain}
use Rattle.rota_items.proofs.runs.run_patterns.plain_days.Goals as goal

pub returns-in-Shift-clause-count : goal.returns-in-Shift-clause-count
returns-in-Shift-clause-count c =
    let counted = count-plain (λ has. has) c.args.pattern in
    elim c.in-Shift.is [ inl shift ↦ rw shift.1 (omega (arith, counted)) | inr work ↦ rw work (omega (arith, counted)) ]

pub returns-in-Off-clause-count : goal.returns-in-Off-clause-count
returns-in-Off-clause-count c = rw c.in-Off.is (omega (arith, count-plain not c.args.pattern))
