-- The messages for the faults of an answer.
use Rattle.std.specs.Prelude.{ℕ, List, codes}
use Rattle.solver_text.specs.declared.outcome.AnswerFault.{AnswerFault}
use Rattle.solver_text.specs.declared.outcome.AnswerFault.TheVariants.{Statuses, StatusText, Literal, Range, BothValues, Objective}

-- the message for a fault of an answer
abbrev pub answer_fault_text : AnswerFault → List ℕ
answer_fault_text Statuses = codes "no status line or a second one"
answer_fault_text StatusText = codes "unknown status"
answer_fault_text Literal = codes "bad literal"
answer_fault_text Range = codes "variable out of range"
answer_fault_text BothValues = codes "variable with both values"
answer_fault_text Objective = codes "bad o value"
