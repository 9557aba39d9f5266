-- The weeks of a leaf, one after another.
use Rattle.std.proofs.Common.{◌≡◌, ℕ, zero, suc, ◌+◌, ◌<◌, ◌≤◌, Bool, true, false, ap, refl, sym, ◌∙◌, subst, arith, List, [], ◌∷◌, length, map, drop, slice_index_or}
use Rattle.std.specs.List.{AllByRecursion, list_any}
use Rattle.rota_core.specs.Problem.{Problem}
use Rattle.rota_core.specs.Sizes.{Numbers}
use Rattle.rota_certificate.specs.Facts.{Case}
use Rattle.rota_certificate.specs.LeafBounds.{leaf_weeks, may_choose, nurse_count}
use Rattle.rota_certificate.specs.LentLeaves.{AreFit, Fits, IsLeaf, LentTables, prices_lent, week_lent, weeks_of}
use Rattle.rota_certificate.specs.NurseBounds.{LeafWeek, charge_totals}
use Rattle.rota_certificate.specs.Stages.{IsFreeOfTotals, IsStage, StageTables, later_of, week_of}
use Rattle.rota_certificate.specs.declared.stages.LentWeek.{LentWeek}
use Rattle.rota_certificate.proofs.ListSteps.{all-of}

pub all-map : {X : Type 0} (P Q : X → Type 0) (xs : List X) → ((x : X) → P x → Q x) → AllByRecursion P xs → AllByRecursion Q xs
all-map P Q [] each all = tt
all-map P Q (x ∷ xs) each all = (each x all.0, all-map P Q xs each all.1)

-- ---- the weeks from an index on

-- the week with this number of a leaf
abbrev pub week_at : Case → (number : ℕ) → LentWeek → LeafWeek
week_at case w one = record { week = week_lent one; prices = prices_lent one; may_choose = may_choose case w }

-- the weeks of a leaf from the one with this number on
abbrev pub weeks_from : Case → (number : ℕ) → List LentWeek → List LeafWeek
weeks_from case w weeks = leaf_weeks case w (map week_lent weeks) (map prices_lent weeks)

weeks-cons : (case : Case) (w : ℕ) (one : LentWeek) (weeks : List LentWeek) →
    weeks_from case w (one ∷ weeks) ≡ (week_at case w one ∷ weeks_from case (w + 1) weeks)
unfolding leaf_weeks
weeks-cons case w one weeks = refl

weeks-none : (case : Case) (w : ℕ) → weeks_from case w [] ≡ []
unfolding leaf_weeks
weeks-none case w = refl

drop-from : (case : Case) (w : ℕ) (weeks : List LentWeek) (i : ℕ) (d : LentWeek) → i < length weeks →
    drop i (weeks_from case w weeks) ≡ (week_at case (w + i) (slice_index_or weeks i d) ∷ drop (suc i) (weeks_from case w weeks))
drop-from case w [] i d inside = absurd (omega arith)
drop-from case w (one ∷ weeks) zero d inside =
    let e : w + 0 ≡ w = omega arith in
    rw (weeks-cons case w one weeks, e) refl
drop-from case w (one ∷ weeks) (suc i) d inside =
    let e : (w + 1) + i ≡ w + suc i = omega arith in
    let rest = drop-from case (w + 1) weeks i d (omega arith) in
    rw (weeks-cons case w one weeks)
    (rest ∙ ap (λ (k : ℕ). week_at case k (slice_index_or weeks i d) ∷ drop (suc i) (weeks_from case (w + 1) weeks)) e)

pub drop-lent : (leaf : LentTables) (i : ℕ) (d : LentWeek) → i < length leaf.weeks →
    drop i (weeks_of leaf) ≡ (week_at leaf.case i (slice_index_or leaf.weeks i d) ∷ drop (i + 1) (weeks_of leaf))
drop-lent leaf i d inside =
    let start : 0 + i ≡ i = omega arith in
    let e : suc i ≡ i + 1 = omega arith in
    drop-from leaf.case 0 leaf.weeks i d inside ∙
    ap (λ (k : ℕ). week_at leaf.case k (slice_index_or leaf.weeks i d) ∷ drop (suc i) (weeks_of leaf)) start ∙
    ap (λ (k : ℕ). week_at leaf.case i (slice_index_or leaf.weeks i d) ∷ drop k (weeks_of leaf)) e

-- the weeks from the index of this one on
pub drop-at : (leaf : LentTables) (i : ℕ) (one : LentWeek) → i < length leaf.weeks → one ≡ slice_index_or leaf.weeks i one →
    drop i (weeks_of leaf) ≡ (week_at leaf.case i one ∷ drop (i + 1) (weeks_of leaf))
drop-at leaf i one inside is =
    drop-lent leaf i one inside ∙ ap (λ (week : LentWeek). week_at leaf.case i week ∷ drop (i + 1) (weeks_of leaf)) (sym is)

drop-from_end : (case : Case) (w : ℕ) (weeks : List LentWeek) (i : ℕ) → length weeks ≤ i → drop i (weeks_from case w weeks) ≡ []
drop-from_end case w [] zero past = weeks-none case w
drop-from_end case w [] (suc i) past = rw (weeks-none case w) refl
drop-from_end case w (one ∷ weeks) zero past = absurd (omega arith)
drop-from_end case w (one ∷ weeks) (suc i) past = rw (weeks-cons case w one weeks) (drop-from_end case (w + 1) weeks i (omega arith))

pub drop-end : (leaf : LentTables) (i : ℕ) → length leaf.weeks ≤ i → drop i (weeks_of leaf) ≡ []
drop-end leaf i past = drop-from_end leaf.case 0 leaf.weeks i past

-- a week of a list that is the leaf's is the leaf's week with that index
pub lent-at : (leaf : LentTables) (weeks : List LentWeek) (i : ℕ) (d : LentWeek) → weeks ≡ leaf.weeks → d ≡ slice_index_or weeks i d →
    slice_index_or weeks i d ≡ slice_index_or leaf.weeks i (slice_index_or weeks i d)
lent-at leaf weeks i d same is =
    subst (λ (all : List LentWeek). slice_index_or weeks i d ≡ slice_index_or all i (slice_index_or weeks i d)) same
    (ap (λ (one : LentWeek). slice_index_or weeks i one) is)

-- ---- the next week

-- a week that fits one week fits each week with its numbers, limits and contracts
fits-next : (other next : Problem) (one : LentWeek) → next.numbers ≡ other.numbers → ((s : ℕ) → next.limits s ≡ other.limits s) →
    ((n : ℕ) → next.contract n ≡ other.contract n) → Fits other one → Fits next one
fits-next other next one numbers limits contract fits = record {
  numbers = fits.numbers ∙ sym numbers;
  limits = λ s. fits.limits s ∙ sym (limits s);
  contract = λ n. fits.contract n ∙ sym (contract n);
}

-- the stage of the next week
abbrev pub next_of : StageTables → LentWeek → StageTables
next_of stage one = record stage { instance = one.instance.now; prices = one.prices.now; week = stage.week + 1 }

module _ (stage : StageTables) (one : LentWeek) (at : one ≡ slice_index_or stage.leaf.weeks (stage.week + 1) one) (is : IsStage stage)
    (more : stage.week + 1 < length stage.leaf.weeks) where
  next-fits : Fits (week_of stage).week one
  next-fits = subst (Fits (week_of stage).week) (sym at) (all-of (Fits (week_of stage).week) stage.leaf.weeks (stage.week + 1) one is.fit more)

  pub next-left : later_of stage ≡ (week_of (next_of stage one) ∷ later_of (next_of stage one))
  next-left = drop-at stage.leaf (stage.week + 1) one more at

  pub next-numbers : (week_lent one).numbers ≡ (week_of stage).week.numbers
  next-numbers = next-fits.numbers

  pub next-is : IsStage (next_of stage one)
  next-is = record {
    nurse = subst (λ (numbers : Numbers). stage.nurse < numbers.nurses) (sym next-numbers) is.nurse;
    contract = is.contract ∙ sym (next-fits.contract stage.nurse);
    at = next-left;
    inside = more;
    count = is.count;
    fit = all-map (Fits (week_of stage).week) (Fits (week_lent one)) stage.leaf.weeks
        (λ x fits. fits-next (week_of stage).week (week_lent one) x next-fits.numbers next-fits.limits next-fits.contract fits) is.fit;
    free = λ none. subst (AllByRecursion IsFreeOfTotals) next-left (is.free none).1;
  }

-- ---- the first week

-- none is the last week of the scenario if none charges totals
free-all : (weeks : List LeafWeek) → charge_totals weeks ≡ false → AllByRecursion IsFreeOfTotals weeks
free-all [] none = tt
free-all (one ∷ weeks) none = (grind (arith, none), free-all weeks (grind (arith, none)))

first-fit : (weeks : List LentWeek) (one : LentWeek) → 0 < length weeks → one ≡ slice_index_or weeks 0 one → AreFit weeks →
    AllByRecursion (Fits (week_lent one)) weeks
first-fit [] one some is fit = absurd (omega arith)
first-fit (first ∷ later) one some is fit = subst (λ (week : LentWeek). AllByRecursion (Fits (week_lent week)) (first ∷ later)) (sym is) fit

-- the number of nurses of the leaf, from its first week
pub count-first : (leaf : LentTables) (d : LentWeek) → 0 < length leaf.weeks →
    nurse_count (weeks_of leaf) ≡ (week_lent (slice_index_or leaf.weeks 0 d)).nurses
count-first leaf d some = ap nurse_count (drop-lent leaf 0 d some)

-- the stage of the first of its weeks
abbrev pub first_of : StageTables → LentWeek → StageTables
first_of stage one = record stage { instance = one.instance.now; prices = one.prices.now; week = 0 }

pub first-is : (stage : StageTables) (one : LentWeek) → one ≡ slice_index_or stage.leaf.weeks 0 one → IsLeaf stage.leaf →
    stage.nurse < nurse_count (weeks_of stage.leaf) →
    stage.contract ≡ (week_lent one).contract stage.nurse → stage.charged ≡ charge_totals (weeks_of stage.leaf) → IsStage (first_of stage one)
first-is stage one is leaf nurse contract charged =
    let all = first-fit stage.leaf.weeks one leaf.some is leaf.fit in
    let at = drop-at stage.leaf 0 one leaf.some is in
    record {
      nurse = omega (arith, nurse, ap nurse_count at);
      contract = contract;
      at = at;
      inside = leaf.some;
      count = leaf.count;
      fit = all;
      free = λ none. subst (AllByRecursion IsFreeOfTotals) at (free-all (weeks_of stage.leaf) (sym charged ∙ none));
    }

-- ---- loops over the weeks

-- a test of the weeks from the index of this one on, if it fails or passes there
pub any-passes : (test : LeafWeek → Bool) (leaf : LentTables) (i : ℕ) (one : LentWeek) → i < length leaf.weeks →
    one ≡ slice_index_or leaf.weeks i one → test (week_at leaf.case i one) ≡ true → list_any test (drop i (weeks_of leaf)) ≡ true
any-passes test leaf i one inside is passes = ap (list_any test) (drop-at leaf i one inside is) ∙ grind (arith, passes)

pub any-fails : (test : LeafWeek → Bool) (leaf : LentTables) (i : ℕ) (one : LentWeek) → i < length leaf.weeks →
    one ≡ slice_index_or leaf.weeks i one → test (week_at leaf.case i one) ≡ false →
    list_any test (drop i (weeks_of leaf)) ≡ list_any test (drop (i + 1) (weeks_of leaf))
any-fails test leaf i one inside is fails = ap (list_any test) (drop-at leaf i one inside is) ∙ rw fails refl

pub any-end : (test : LeafWeek → Bool) (leaf : LentTables) (i : ℕ) → length leaf.weeks ≤ i → list_any test (drop i (weeks_of leaf)) ≡ false
any-end test leaf i past = ap (list_any test) (drop-end leaf i past)
