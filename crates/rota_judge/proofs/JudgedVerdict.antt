-- A judge that took the whole model has the verdict of its assignment.
use Rattle.rota_judge.proofs.Common.Imports.{◌≡◌, ℕ, ◌+◌, ◌-◌, ◌*◌, ◌≤◌, Bool, List, [], ◌∷◌, ◌++◌, map, refl, sym, ap, subst, ◌∙◌, arith, pos}
use Rattle.rota_judge.proofs.Common.Imports.{if◌then◌else◌, AllByRecursion, fold, ints, soft_rules, Problem, Rule, unit_number, weighted_shortages}
use Rattle.rota_judge.proofs.Common.Imports.{IsWithinLimits, value_of, objective_rows, cell_terms_of_rule, model_cost, constant, constant_of_rule}
use Rattle.rota_judge.proofs.Common.Imports.{items_of_rule, objective_terms, rows_of, InstanceTables, IsInstance, problem_of, Tally, Event}
use Rattle.rota_judge.proofs.Common.Imports.{events, Subject, JudgeState, assignment_in, roster_in, capped, counts_for, fresh, judged, no_tally}
use Rattle.rota_judge.proofs.Common.Imports.{tallied, WasDriven, with_constants, with_cost, request_cost, Judges}
use Rattle.rota_rules.proofs.CostLemmas.{instance-within_limits}
use Rattle.rota_judge.proofs.JudgedModel.{charges, charges-are, few, given, model-comes, objective-judged, of_rule}
use Rattle.rota_judge.proofs.JudgedRows.{cost-raised, costs_of, or_else-none, same, counts-before}
use Rattle.rota_items.proofs.ItemLemmas.{constant_of_rule-few, shortages-few, value_of-request_terms}

abbrev pub model_events : InstanceTables → List Event
model_events instance = events (objective_rows (objective_terms (problem_of instance))) ++ events (rows_of (problem_of instance))

-- the objective in the tally
abbrev pub objective_in : Tally → ℕ
objective_in tally = capped (tally.requests_and_constant + tally.slacks)

-- the costs of the rules in the tally, if the objective has this value at the unit variable
abbrev pub costs_in : Problem → Tally → ℕ → List ℕ
costs_in problem tally at_unit = with_constants problem soft_rules (with_cost Rule.S4 (tally.requests_and_constant - at_unit) tally.shortages)

abbrev pub at_unit_in : Problem → Subject → ℕ
at_unit_in problem subject = if counts_for problem subject (unit_number problem) then constant problem else 0

-- the rule is exactly once among the soft rules
abbrev StandsOnce : Rule → Type 0
StandsOnce rule = (f : Rule → ℕ) → of_rule f rule ≡ f rule

module _ (problem : Problem) (within : IsWithinLimits problem) (subject : Subject) where
  -- the objective's terms at cells are all requests
  abbrev requests : ℕ
  requests = request_cost problem (roster_in problem subject)

  cells-charged : (rule : Rule) →
      (value_of (roster_in problem subject) (cell_terms_of_rule problem rule) ≡ pos (same Rule.S4 rule * requests)) × (same Rule.S4 rule * requests ≤ requests)
  cells-charged Rule.S4 = (omega (arith, ints, value_of-request_terms problem (roster_in problem subject)), omega arith)
  cells-charged _ = (omega (arith, ints), omega arith)

  -- the final charge of each rule
  abbrev at_last : Rule → ℕ
  at_last rule = capped (capped (charges problem subject rule + same Rule.S4 rule * requests) + constant_of_rule problem rule)

  charged-last : (rule : Rule) → StandsOnce rule → pos (at_last rule) ≡ model_cost problem (roster_in problem subject) rule
  charged-last rule once =
      omega (
        arith,
        ints,
        few problem subject within,
        charges-are problem subject rule,
        once (λ own. weighted_shortages (roster_in problem subject) (items_of_rule problem own)),
        cells-charged rule,
        shortages-few problem within (roster_in problem subject) rule,
        constant_of_rule-few problem within rule,
      )

  charges-last : (rules : List Rule) → AllByRecursion StandsOnce rules →
      map pos (map at_last rules) ≡ map (model_cost problem (roster_in problem subject)) rules
  charges-last [] all = refl
  charges-last (rule ∷ rules) all = λ i. charged-last rule all.0 i ∷ charges-last rules all.1 i

  costs-last : (tally : Tally) (before : Rule → ℕ) → tally.requests_and_constant ≡ given problem subject → tally.shortages ≡ costs_of before →
      ((rule : Rule) → before rule ≡ charges problem subject rule) → costs_in problem tally (at_unit_in problem subject) ≡ map at_last soft_rules
  costs-last tally before given_is before_is are =
      let own : tally.requests_and_constant - at_unit_in problem subject ≡ capped requests = omega (
        arith,
        few problem subject within,
        ap (λ (b : Bool). if b then constant problem else 0) (counts-before problem subject (unit_number problem) (omega arith)),
      ) in
      (λ i. with_constants problem soft_rules (with_cost Rule.S4 (own i) (before_is i))) ∙
      ap (with_constants problem soft_rules) (cost-raised Rule.S4 requests before) ∙
      (λ i. with_constants problem soft_rules (costs_of (λ rule. are rule i + same Rule.S4 rule * requests)))

pub driven-judges : (judge_state : JudgeState) → IsInstance judge_state.instance → WasDriven judge_state → (objective : ℕ) (costs : List ℕ) →
    objective ≡ objective_in judge_state.tally →
    costs ≡ costs_in (problem_of judge_state.instance) judge_state.tally (at_unit_in (problem_of judge_state.instance) judge_state.subject) →
    Judges (problem_of judge_state.instance) (assignment_in (problem_of judge_state.instance) judge_state.subject)
    (roster_in (problem_of judge_state.instance) judge_state.subject)
    (record { unmet = judge_state.tally.unmet; objective = objective; costs = costs })
driven-judges judge_state limits driven objective costs objective_is costs_are =
    let problem : Problem = problem_of judge_state.instance in
    let limits_of : IsWithinLimits problem = instance-within_limits judge_state.instance limits in
    let comes = rw (← driven) at (model-comes problem judge_state.subject limits_of) in record {
      unmet = sym (or_else-none judge_state.tally.unmet) ∙ comes.unmet;
      objective =
          omega (arith, ints, objective_is, objective-judged problem judge_state.subject, comes.requests_are, comes.slacks, few problem judge_state.subject limits_of);
      costs =
          ap (map pos)
          (costs_are ∙
          costs-last problem limits_of judge_state.subject judge_state.tally comes.before comes.requests_are comes.shortages
          (λ rule. omega (arith, comes.totals rule))) ∙
          charges-last problem limits_of judge_state.subject soft_rules (omega arith);
    }

-- ---- a fresh judge that took the model

-- only the tally changes
pub tally-driven : (judge_state : JudgeState) (all : List Event) → fold judged judge_state all ≡
    record judge_state { tally = fold (tallied (problem_of judge_state.instance) judge_state.subject) judge_state.tally all }
tally-driven judge_state [] = refl
tally-driven judge_state (event ∷ all) = tally-driven (judged judge_state event) all

abbrev pub driven_judge : InstanceTables → Subject → JudgeState
driven_judge instance subject =
    record (fresh instance subject) { tally = fold (tallied (problem_of instance) subject) no_tally (model_events instance) }

pub driven-is : (instance : InstanceTables) (subject : Subject) (old new : JudgeState) → old ≡ fresh instance subject →
    new ≡ fold judged old (model_events instance) → new ≡ driven_judge instance subject
driven-is instance subject old new begun driven =
    driven ∙ ap (λ (j : JudgeState). fold judged j (model_events instance)) begun ∙
    tally-driven (fresh instance subject) (model_events instance)

pub was-driven : (instance : InstanceTables) (subject : Subject) (new : JudgeState) → new ≡ driven_judge instance subject → WasDriven new
was-driven instance subject new is = subst WasDriven (sym is) refl
