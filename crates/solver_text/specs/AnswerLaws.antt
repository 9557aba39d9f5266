-- Properties of all texts.
use Rattle.std.specs.Prelude.{◌≡◌, ◌==◌, ℕ, ◌<◌, ◌≤◌, ◌-◌, ◌^◌, pos, Bool, false, ◌&&◌, List, length, Some, ◌++◌, Ok, Err, slice_index_or}
use Rattle.std.specs.List.{list_any}
use Rattle.std.specs.Option.{option_map_or}
use Rattle.solver_text.specs.declared.outcome.AnswerFault.{AnswerFault}
use Rattle.solver_text.specs.declared.outcome.Solved.{Solved}
use Rattle.solver_text.specs.Answers.{Judgement, of_status, of_objective, of_literal, literal_of, judgements, outcome, fault_within}
use Rattle.solver_text.specs.AnswerText.{answer_text}
use Rattle.solver_text.specs.declared.outcome.Status.TheVariants as statuses

-- For fewer than 2^32 variables, a fault of a prefix is the fault of each longer prefix and of the whole.
pub record FaultStays : Type 0 where
  pub within : (variables : ℕ) (text more : List ℕ) (fault : AnswerFault) → variables < 2 ^ 32 →
      fault_within variables text ≡ Err fault → fault_within variables (text ++ more) ≡ Err fault
  pub whole : (variables : ℕ) (text more : List ℕ) (fault : AnswerFault) → variables < 2 ^ 32 →
      fault_within variables text ≡ Err fault → outcome variables (text ++ more) ≡ Err fault

-- whether a positive literal of the variable is judged
abbrev pub makes_true : ℕ → Judgement → Bool
makes_true v (of_status these) = false
makes_true v (of_objective these) = false
makes_true v (of_literal word) = option_map_or (λ literal. literal.positive && literal.variable == v) (literal_of word) false

-- Exactly the variables with a positive literal are true.
pub record TrueByLiteral : Type 0 where
  pub truths : (variables : ℕ) (text : List ℕ) (solved : Solved) (v : ℕ) → outcome variables text ≡ Ok solved → 0 < v → v ≤ variables
      → slice_index_or solved.bits (v - 1) false ≡ list_any (makes_true v) (judgements text)

-- Reading the text of an answer, for its number of variables, gives the objective's value and the values of the variables, if the
-- objective's value has at most 18 digits and there are fewer than 2^32 variables.
abbrev pub WrittenAnswerIsRead : Type 0
WrittenAnswerIsRead =
    (objective : ℕ) (truths : List Bool) → objective < 10 ^ 18 → length truths < 2 ^ 32 →
    outcome (length truths) (answer_text objective truths)
    ≡ Ok (record { status = statuses.Satisfiable; last_o = Some (pos objective); bits = truths })
