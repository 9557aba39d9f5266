-- The text in a sink after the first line of a model is written, and then its objective and its rows are sent to a taker.
use Rattle.std.proofs.Common.{◌≡◌, ℕ, List, ◌++◌, Bool, true, false, length, Result, Ok, Err, refl, subst, ap, ◌∙◌}
use Rattle.std.specs.Prelude.{◌≢◌, IsErr}
use Rattle.std.specs.List.{AllByRecursion}
use Rattle.std.proofs.lemmas.List.{length-map}
use Rattle.rota_core.specs.Problem.{Problem}
use Rattle.rota_core.proofs.LogicWords.{all-weaker}
use Rattle.byte_ports.specs.declared.ports.PortFault.{PortFault}
use Rattle.byte_ports.specs.declared.ports.Target.{Ghosts}
use Rattle.rota_items.specs.declared.part.Part.{Part}
use Rattle.rota_items.specs.declared.part.Part.TheVariants.{Objective, Hard, Soft}
use Rattle.rota_items.specs.Events.{events}
use Rattle.rota_items.specs.Rows.{LinearRow, linear_constraint}
use Rattle.rota_items.specs.Objective.{objective_rows}
use Rattle.rota_items.specs.Takes.{Took, Refused, Takes}
use Rattle.rota_items.specs.WeekModel.{model_of, objective_terms, rows_of}
use Rattle.opb_text.specs.EventText.{events_text, is_objective, opb_texts, IsConstraint}
use Rattle.opb_text.specs.ModelText.{first_line, opb_text}
use Rattle.opb_text.specs.OpbTaker.{taker_sink, in_objective, opb_taker}
use Rattle.text_sink.specs.Sink.{PutsText}
use Rattle.opb_text.specs.declared.opb_taker.OpbTaker.{OpbTaker}
use Rattle.text_sink.specs.declared.sink.Sink.{Sink}
use Rattle.opb_text.proofs.RowTexts.{events_spell_their_model}
use Rattle.opb_text.proofs.TakenEvents.{took_events_put_text, refused_events_begin_text, events_put_text}
use Rattle.text_sink.proofs.LogicWords.{puts_exit, puts_stop, puts_then}

abbrev objective_part : Problem → Bool → List ℕ
objective_part problem b = events_text b (events (objective_rows (objective_terms problem)))

abbrev rows_part : Problem → Bool → List ℕ
rows_part problem b = events_text b (events (rows_of problem))

is_constraint : (part : Part) → part ≢ Objective → is_objective part ≡ false
is_constraint Objective none = absurd (none refl)
is_constraint (Hard rule) none = refl
is_constraint (Soft rule weight) none = refl

-- no row is an objective row
abbrev AreConstraints : List (LinearRow ℕ) → Type 0
AreConstraints rows = AllByRecursion (λ (row : LinearRow ℕ). row.part ≢ Objective) rows

-- the parts, joined, are the text
spelled : (problem : Problem) → AreConstraints (rows_of problem) → (variables count : ℕ) → variables ≡ (model_of problem).variables →
    count ≡ length (model_of problem).constraints → (before between : Bool) →
    first_line variables count ++ objective_part problem before ++ rows_part problem between ≡ opb_text (model_of problem)
spelled problem constraints variables count variables_are count_is before between =
    ap (λ v. first_line v count ++ objective_part problem before ++ rows_part problem between) variables_are ∙
    ap (λ c. first_line (model_of problem).variables c ++ objective_part problem before ++ rows_part problem between)
    (count_is ∙ length-map (rows_of problem) linear_constraint) ∙
    events_spell_their_model (model_of problem).variables (objective_terms problem) (rows_of problem) before between
    (all-weaker (λ (row : LinearRow ℕ). row.part ≢ Objective) IsConstraint (λ row differs. is_constraint row.part differs)
    (rows_of problem) constraints)

module _ {W : Type 0} {target : Ghosts W} (problem : Problem) (constraints : AreConstraints (rows_of problem)) (variables count : ℕ)
    (variables_are : variables ≡ (model_of problem).variables) (count_is : count ≡ length (model_of problem).constraints) where
  joined : {old new : Sink W target} (r : Result (Unit {0}) PortFault) (before between : Bool) →
      PutsText old r (first_line variables count ++ objective_part problem before ++ rows_part problem between) new →
      PutsText old r (opb_text (model_of problem)) new
  joined {old} {new} r before between takes =
      subst (λ (text : List ℕ). PutsText old r text new) (spelled problem constraints variables count variables_are count_is before between) takes

  -- the first line failed
  pub line_failed : {old new : Sink W target} {fault : PortFault} (r : Result (Unit {0}) PortFault) → IsErr r →
      PutsText old (Err fault) (first_line variables count) new → PutsText old r (opb_text (model_of problem)) new
  line_failed r failed takes =
      puts_exit r failed (joined _ true true (puts_stop (rows_part problem true) (puts_stop (objective_part problem true) takes)))

  -- the first line was written, and the objective was refused
  pub terms_failed : {old : Sink W target} {started new : OpbTaker W target} {u : Unit {0}} (r : Result (Unit {0}) PortFault) → IsErr r →
      PutsText old (Ok u) (first_line variables count) (taker_sink started) →
      Refused opb_taker (events (objective_rows (objective_terms problem))) started new → PutsText old r (opb_text (model_of problem)) (taker_sink new)
  terms_failed {old} {started} r failed line refused =
      puts_exit r failed
      (joined (Err record {}) (in_objective started) true
      (puts_stop (rows_part problem true) (puts_then line (refused_events_begin_text taker_sink in_objective opb_texts _ refused))))

  -- the first line was written, the objective was taken, and then the rows were sent
  pub rows_put : {old : Sink W target} (started middle new : OpbTaker W target) {u : Unit {0}} (r : Result (Unit {0}) PortFault) →
      PutsText old (Ok u) (first_line variables count) (taker_sink started) →
      Took opb_taker (events (objective_rows (objective_terms problem))) started middle →
      Takes opb_taker (events (rows_of problem)) middle new r → PutsText old r (opb_text (model_of problem)) (taker_sink new)
  rows_put started middle new r line took taken =
      joined r (in_objective started) (in_objective middle)
      (puts_then (puts_then line (took_events_put_text taker_sink in_objective opb_texts {u = tt} _ took))
      (events_put_text taker_sink in_objective opb_texts middle new _ r taken))
