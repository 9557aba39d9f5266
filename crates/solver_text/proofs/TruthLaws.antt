-- The true variables are those with a positive literal.
use Rattle.std.proofs.Common.{◌≡◌, ◌≢◌, ℕ, zero, suc, true≢false, ◌-◌, ◌<◌, ◌≤◌, ◌==◌, Bool, true, false, ◌&&◌, ◌||◌}
use Rattle.std.proofs.Common.{List, [], ◌∷◌, Option, Some, None, Result, Ok, Err, ℤ, refl, sym, ◌∙◌, subst}
use Rattle.std.proofs.Common.{length, slice_index_or, slice_set, if◌then◌else◌, nat_lt, arith, replicate}
use Rattle.std.proofs.lemmas.List.{get_or-set_same, get_or-set_other}
use Rattle.std.proofs.lemmas.Bool.{ltb-false}
use Rattle.std.proofs.lemmas.Bool.Decides.{Decides-eqb}
use Rattle.std.specs.List.{list_any}
use Rattle.std.specs.Option.{option_map_or}
use Rattle.solver_text.specs.declared.outcome.Solved.{Solved}
use Rattle.solver_text.specs.Answers.{AnswerState, Judgement, of_status, of_objective, of_literal, Literal, check_all}
use Rattle.solver_text.specs.Answers.{and_then, check_judgement, check_status, check_objective, check_literal, see_variable}
use Rattle.solver_text.specs.Answers.{status_of, objective_of, literal_of, judgements, at_end, nothing_known}
use Rattle.solver_text.specs.AnswerLaws.{makes_true, TrueByLiteral}
use Rattle.solver_text.specs.declared.outcome.Status.{Status}
use Rattle.solver_text.specs.declared.outcome.AnswerFault.{AnswerFault}
use Rattle.solver_text.specs.declared.outcome.AnswerFault.TheVariants as faults

-- the truth of a variable after a judgement
abbrev TruthIs : ℕ → Bool → Result AnswerState AnswerFault → Type 0
TruthIs v truth (Ok known) = slice_index_or known.seen_true v false ≡ truth
TruthIs v truth (Err fault) = Unit {0}

truth-if : (test : Bool) (v : ℕ) (truth : Bool) (fault : AnswerFault) (result : Result AnswerState AnswerFault) →
    TruthIs v truth result → TruthIs v truth (if test then Err fault else result)
truth-if true v truth fault result h = tt
truth-if false v truth fault result h = h

truth-status : (v : ℕ) (known : AnswerState) (status : Option Status) (truth : Bool) → slice_index_or known.seen_true v false ≡ truth →
    TruthIs v truth (check_status known status)
truth-status v known None truth h = truth-if _ v truth _ (Err faults.StatusText) tt
truth-status v known (Some s) truth h = truth-if _ v truth _ (Ok (record known { status = Some s })) h

truth-objective : (v : ℕ) (known : AnswerState) (value : Option ℤ) (truth : Bool) → slice_index_or known.seen_true v false ≡ truth →
    TruthIs v truth (check_objective known value)
truth-objective v known None truth h = tt
truth-objective v known (Some n) truth h = h

or_none : (x : Bool) → x ≡ (x || false)
or_none true = refl
or_none false = refl

or_some : (x : Bool) → true ≡ (x || true)
or_some true = refl
or_some false = refl

marked : (seen : List Bool) (n v : ℕ) (same : Bool) → (n == v) ≡ same → 0 < n → n ≤ length seen → 0 < v →
    slice_index_or (slice_set seen (n - 1) true) (v - 1) false ≡ (slice_index_or seen (v - 1) false || n == v)
marked seen n v true e some within some_v =
    let is : n ≡ v = (Decides-eqb n v).0 e in
    let index : v - 1 ≡ n - 1 = omega arith in
    rw (e, index) (get_or-set_same seen (n - 1) true false (omega arith) ∙ or_some (slice_index_or seen (n - 1) false))
marked seen n v false e some within some_v =
    let other : n ≢ v = λ is. true≢false (sym ((Decides-eqb n v).1 is) ∙ e) in
    let indices : v - 1 ≢ n - 1 = omega arith in
    rw e (get_or-set_other seen (n - 1) (v - 1) true false indices ∙ or_none (slice_index_or seen (v - 1) false))

truth-seen : (v : ℕ) (known : AnswerState) (positive : Bool) (n : ℕ) → 0 < n → n ≤ length known.seen_true → 0 < v →
    TruthIs (v - 1) (slice_index_or known.seen_true (v - 1) false || (positive && n == v)) (see_variable known positive n)
truth-seen v known true n some within some_v =
    truth-if _ (v - 1) (slice_index_or known.seen_true (v - 1) false || n == v) _
    (Ok (record known { seen_true = slice_set known.seen_true (n - 1) true }))
    (marked known.seen_true n v (n == v) refl some within some_v)
truth-seen v known false n some within some_v =
    truth-if _ (v - 1) (slice_index_or known.seen_true (v - 1) false || false) _
    (Ok (record known { seen_false = slice_set known.seen_false (n - 1) true }))
    (or_none (slice_index_or known.seen_true (v - 1) false))

neither : (x y : Bool) → (x || y) ≡ false → (x ≡ false) × (y ≡ false)
neither true y e = absurd (true≢false e)
neither false y e = (refl, e)

in_range : (n m : ℕ) → (n == 0 || nat_lt m n) ≡ false → (0 < n) × (n ≤ m)
in_range n m e =
    let both = neither (n == 0) (nat_lt m n) e in
    let some : n ≢ 0 = λ is. true≢false (sym ((Decides-eqb n 0).1 is) ∙ both.0) in
    (omega arith, ltb-false m n both.1)

truth-variable : (v : ℕ) (known : AnswerState) (positive : Bool) (n : ℕ) (out : Bool) →
    (n == 0 || nat_lt (length known.seen_true) n) ≡ out → 0 < v →
    TruthIs (v - 1) (slice_index_or known.seen_true (v - 1) false || (positive && n == v))
    (if out then Err faults.Range else see_variable known positive n)
truth-variable v known positive n true e some_v = tt
truth-variable v known positive n false e some_v =
    let range = in_range n (length known.seen_true) e in truth-seen v known positive n range.0 range.1 some_v

truth-literal : (v : ℕ) (known : AnswerState) (literal : Option Literal) → 0 < v →
    TruthIs (v - 1) (slice_index_or known.seen_true (v - 1) false || option_map_or (λ l. l.positive && l.variable == v) literal false)
    (check_literal known literal)
truth-literal v known None some_v = tt
truth-literal v known (Some l) some_v =
    truth-variable v known l.positive l.variable (l.variable == 0 || nat_lt (length known.seen_true) l.variable) refl some_v

truth-check_judgement : (v : ℕ) (known : AnswerState) (judgement : Judgement) → 0 < v →
    TruthIs (v - 1) (slice_index_or known.seen_true (v - 1) false || makes_true v judgement) (check_judgement known judgement)
truth-check_judgement v known (of_status these) some_v =
    truth-status (v - 1) known (status_of these) _ (or_none (slice_index_or known.seen_true (v - 1) false))
truth-check_judgement v known (of_objective these) some_v =
    truth-objective (v - 1) known (objective_of these) _ (or_none (slice_index_or known.seen_true (v - 1) false))
truth-check_judgement v known (of_literal word) some_v = truth-literal v known (literal_of word) some_v

or_assoc : (x y z : Bool) → ((x || y) || z) ≡ (x || (y || z))
or_assoc true y z = refl
or_assoc false y z = refl

-- the truth of a variable after some judgements
truth-then : (v : ℕ) (truth : Bool) (result : Result AnswerState AnswerFault) (judgement : Judgement) → 0 < v →
    TruthIs (v - 1) truth result →
    TruthIs (v - 1) (truth || makes_true v judgement) (and_then result (λ known. check_judgement known judgement))
truth-then v truth (Ok known) judgement some_v h =
    let P : Bool → Type 0 = λ t. TruthIs (v - 1) (t || makes_true v judgement) (check_judgement known judgement) in
    subst P h (truth-check_judgement v known judgement some_v)
truth-then v truth (Err fault) judgement some_v h = tt

same_truth : (v : ℕ) (x y : Bool) (result : Result AnswerState AnswerFault) → x ≡ y → TruthIs v x result → TruthIs v y result
same_truth v x y result e h = let P : Bool → Type 0 = λ t. TruthIs v t result in subst P e h

truth-check_all : (v : ℕ) (truth : Bool) (result : Result AnswerState AnswerFault) (xs : List Judgement) → 0 < v →
    TruthIs (v - 1) truth result → TruthIs (v - 1) (truth || list_any (makes_true v) xs) (check_all result xs)
unfolding check_all
truth-check_all v truth result [] some_v h = same_truth (v - 1) truth (truth || false) result (or_none truth) h
truth-check_all v truth result (x ∷ xs) some_v h =
    same_truth (v - 1) ((truth || makes_true v x) || list_any (makes_true v) xs)
    (truth || (makes_true v x || list_any (makes_true v) xs)) _ (or_assoc truth (makes_true v x) (list_any (makes_true v) xs))
    (truth-check_all v (truth || makes_true v x) (and_then result (λ known. check_judgement known x)) xs some_v (truth-then v truth result x some_v h))

none_seen : (n v : ℕ) → slice_index_or (replicate n false) v false ≡ false
none_seen zero v = refl
none_seen (suc n) zero = refl
none_seen (suc n) (suc v) = none_seen n v

solved-truth : (v : ℕ) (truth : Bool) (known : AnswerState) (status : Option Status) (solved : Solved) →
    slice_index_or known.seen_true v false ≡ truth →
    option_map_or (λ s. Ok (record { status = s; last_o = known.last_o; bits = known.seen_true })) status (Err faults.Statuses) ≡
    Ok solved →
    slice_index_or solved.bits v false ≡ truth
solved-truth v truth known None solved h e = cc
solved-truth v truth known (Some s) solved h e = cc

at_end-truth : (v : ℕ) (truth : Bool) (result : Result AnswerState AnswerFault) (solved : Solved) → TruthIs v truth result →
    and_then result at_end ≡ Ok solved → slice_index_or solved.bits v false ≡ truth
at_end-truth v truth (Ok known) solved h e = solved-truth v truth known known.status solved h e
at_end-truth v truth (Err fault) solved h e = cc

pub true-by_literal : TrueByLiteral
true-by_literal = record {
  truths = λ variables text solved v e some within.
      at_end-truth (v - 1) (list_any (makes_true v) (judgements text)) (check_all (Ok (nothing_known variables)) (judgements text)) solved
      (truth-check_all v false (Ok (nothing_known variables)) (judgements text) some (none_seen variables (v - 1))) e;
}
