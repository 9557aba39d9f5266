-- The literals that a taker of literals takes for the items whose slacks are sent to it.
use Rattle.rota_judge.proofs.Common.Imports.{◌≡◌, ℕ, Bool, List, [], ◌∷◌, Result, Ok, Err, refl, sym, ap, ◌∙◌, arith, fold, fold-append, flat_map}
use Rattle.rota_judge.proofs.Common.Imports.{flat_map-append, ◌-ℤ◌, w64, saturate_signed, AllByRecursion, AllByRecursion-back, InstanceTables, IsInstance}
use Rattle.rota_judge.proofs.Common.Imports.{problem_of, Problem, Item, LinearRow, positive_part, set_of, numbered_items, assignment_of, RosterTables}
use Rattle.rota_judge.proofs.Common.Imports.{JudgeState, Subject, Tally, extended, lacking_in, no_tally, Soft, start_row, term_events, TakesAll}
use Rattle.rota_judge.specs.JudgeState.{fresh}
use Rattle.rota_judge.proofs.ExtensionTruths.{item_truths, week-slacks}
use Rattle.rota_rules.proofs.CostLemmas.{instance-within_limits}
use Rattle.rota_judge.proofs.JudgedItems.{IsFit, not_cut, shortage-extended}
use Rattle.rota_judge.proofs.JudgedModel.{items-fit}
use Rattle.rota_judge.proofs.JudgedRows.{opened, others-before, row-opened}
use Rattle.rota_judge.proofs.JudgedVerdict.{tally-driven}
use Rattle.rota_items.proofs.ItemLemmas.{Refused-after, Refused-before}
use Rattle.rota_judge.specs.LiteralTakes.{TakesLiterals}
use Rattle.rota_judge.specs.SlackValues.{StopsAtSlacks, SlackState, first_true, slack_truths, slacks_judged, with_slacks_of, with_terms_of}
use Rattle.rota_judge.specs.declared.literals.literal_takers.LiteralTaker.{Ghosts}

module _ (tables : InstanceTables) (roster : RosterTables) where
  abbrev week : Problem
  week = problem_of tables

  abbrev subject : Subject
  subject = extended roster

  abbrev truths : Item ℕ → List Bool
  truths = item_truths (assignment_of week (set_of roster))

  -- the judge with this tally
  abbrev at : Tally → JudgeState
  at tally = record { instance = tables; subject = subject; tally = tally }

  -- ---- the judge at an item

  abbrev row_of : Item ℕ → LinearRow ℕ
  row_of item = record { part = Soft item.rule item.weight; terms = item.terms; degree = item.degree }

  item-open : (tally : Tally) (item : Item ℕ) → IsFit week subject item → with_terms_of (at tally) item ≡ at (opened week subject tally (row_of item))
  item-open tally item fit =
      tally-driven (at tally) (start_row (Soft item.rule item.weight) ∷ term_events item.terms) ∙
      ap at (row-opened week subject tally (row_of item) (omega (arith, fit.small)))

  item-slacks : (tally : Tally) (item : Item ℕ) → IsFit week subject item → slacks_judged (at tally) item ≡ truths item
  item-slacks tally item fit =
      ap (λ (j : JudgeState). first_true item.slacks (lacking_in j.tally.sums item.degree)) (item-open tally item fit) ∙
      ap (λ z. first_true item.slacks (positive_part (saturate_signed w64 (item.degree -ℤ z)))) (others-before week subject item.terms fit.before) ∙
      ap (first_true item.slacks) (not_cut week subject item 0 fit ∙ shortage-extended week roster item fit.before)

  -- ---- the items, one after the other

  module _ {V : Type 0} (step : V → Bool → V) where
    -- the state reached from a value by the slacks of these items, for any state of the judge
    pub record Reaches (name : ℕ) (value : V) (items : List (Item ℕ)) (now : SlackState V) : Type 0 where
      pub tally : Tally
      pub is : now ≡ record { name = name; value = fold step value (flat_map truths items); judge_state = at tally }

    pub reaches : (name : ℕ) (value : V) (tally : Tally) (items : List (Item ℕ)) → AllByRecursion (IsFit week subject) items →
        Reaches name value items (fold (with_slacks_of step) (record { name = name; value = value; judge_state = at tally }) items)
    reaches name value tally [] all = record { tally = tally; is = refl }
    reaches name value tally (item ∷ items) all =
        let rest = reaches name (fold step value (truths item)) (opened week subject tally (row_of item)) items all.1 in record {
          tally = rest.tally;
          is = rw (item-slacks tally item all.0, item-open tally item all.0, fold-append step value (truths item) (flat_map truths items)) rest.is;
        }

  -- ---- a taker of literals

  module _ {S F : Type 0} (T : Ghosts S F) {Self : Type 0} (old new : Self) (name_of : Self → ℕ) (taker_of : Self → S) (judge_state_of : Self → JudgeState)
      (begun : judge_state_of old ≡ fresh tables subject) where
    abbrev slack_state_of : Self → SlackState T.Value
    slack_state_of self = record { name = name_of self; value = T.value (taker_of self); judge_state = judge_state_of self }

    abbrev stops_at : SlackState T.Value → Item ℕ → Self → Type 0
    stops_at before item self = StopsAtSlacks T before item (name_of self) (taker_of self)

    handed : {R : Type 0} (items : List (Item ℕ)) → AllByRecursion (IsFit week subject) items → (r : Result R F) →
        TakesAll slack_state_of (with_slacks_of T.step) stops_at items old new r →
        (name_of new ≡ name_of old) × TakesLiterals T (flat_map truths items) (taker_of old) (taker_of new) r
    handed items all (Ok x) took =
        let is = rw (begun, (reaches T.step (name_of old) (T.value (taker_of old)) no_tally items all).is) at took.value_is in
        (ap (λ (v : SlackState T.Value). v.name) is, record { value_is = ap (λ (v : SlackState T.Value). v.value) is })
    handed items all (Err e) refused =
        let taken = refused.taken in
        let item = refused.event in
        let rest = refused.rest in
        let parts = AllByRecursion-back (IsFit week subject) taken (item ∷ rest) (rw refused.are at all) in
        let before = reaches T.step (name_of old) (T.value (taker_of old)) no_tally taken parts.0 in
        let stops = rw (begun, before.is) at refused.leaves in (
          stops.0,
          rw (refused.are, flat_map-append truths taken (item ∷ rest))
              (Refused-after (flat_map truths taken) _ (taker_of old) stops.1.old (taker_of new) (record { value_is = stops.1.old_is })
              (Refused-before (truths item) (flat_map truths rest) stops.1.old (taker_of new) (rw (item-slacks before.tally item parts.1.0) at stops.1.refused))),
        )

    -- the items of a week: the taker kept its name, and so is returned in its current state
    pub slacks_given : {R : Type 0} → IsInstance tables → (r : Result R F) (end : S) → (name_of old ≡ name_of new → end ≡ taker_of new) →
        TakesAll slack_state_of (with_slacks_of T.step) stops_at (numbered_items week) old new r →
        TakesLiterals T (slack_truths week (set_of roster)) (taker_of old) end r
    slacks_given valid r end ends takes =
        let given = handed (numbered_items week) (items-fit week subject (instance-within_limits tables valid)) r takes in
        rw (← week-slacks week (set_of roster), ends (sym given.0)) given.1
