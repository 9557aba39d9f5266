-- A loop that reads files one after the other, as steps in turn.
use Rattle.std.proofs.Common.{◌≡◌, ℕ, suc, ◌+◌, ◌<◌, ◌≤◌, refl, ap, sym, ◌∙◌, subst, arith, List, [], ◌∷◌, length, take, drop, get_or, Result, Ok, Err}
use Rattle.std.proofs.Math.ListN.{set}
use Rattle.std.proofs.lemmas.Grind.{drop_more_same}
use Rattle.std.proofs.lemmas.List.{drop-set, drop-set-lt, drop_all, drop_more, get_or-set_same, get_or-take, length-set, take-set, take-take}
use Rattle.rota_pb.specs.declared.period_fault.PeriodFault.{PeriodFault}
use Rattle.rota_pb.specs.Steps.{stopped, went_on}
use Rattle.rota_bound_run.specs.PeriodFiles.{each_of}
use Rattle.rota_bound_run.specs.PeriodSteps.{PeriodStep, in_turn}

-- The first i files are read, and `found` is found in them. Each end of the rest is an end of the whole run.
pub record Reads {X E : Type 0} {R : Type 1} (step : X → R → PeriodStep X) (one_of : E → E → R) (start : X) (olds : List E) (i : ℕ)
    (now : List E) (found : X) : Type 0 where
  pub count : length now ≡ length olds
  pub rest : drop i now ≡ drop i olds
  pub goes_on : (final : List E) → length final ≡ length olds → take i final ≡ take i now → (result : Result X PeriodFault) →
      (in_turn step found (each_of one_of (drop i olds) (drop i final))).ends result →
      (in_turn step start (each_of one_of olds final)).ends result

module _ {X E : Type 0} {R : Type 1} (step : X → R → PeriodStep X) (one_of : E → E → R) (start : X) (olds : List E) where
  -- a run that has not begun has touched nothing
  pub none-touched : ((found : X) (file : E) → (step found (one_of file file)).untouched) → (found : X) (files : List E) →
      (in_turn step found (each_of one_of files files)).untouched
  unfolding in_turn each_of
  none-touched untouched found [] = tt
  none-touched untouched found (file ∷ files) = (untouched found file, λ more. none-touched untouched more files)

  pub reads-none : Reads step one_of start olds 0 olds start
  reads-none = record { count = refl; rest = refl; goes_on = λ final count same result ends. ends }

  module _ (i : ℕ) (now : List E) (found : X) (reads : Reads step one_of start olds i now found) (inside : i < length olds) (old new : E)
      (is : old ≡ get_or now i old) where
    olds-at : drop i olds ≡ (old ∷ drop (i + 1) olds)
    olds-at =
        sym reads.rest ∙ drop_more now i old (omega (arith, reads.count, inside)) ∙
        ap (λ (one : E). one ∷ drop (i + 1) now) (sym is) ∙ ap (λ (later : List E). old ∷ later) (drop_more_same now olds i reads.rest)

    rest-after : drop (i + 1) (set now i new) ≡ drop (i + 1) olds
    rest-after = drop-set-lt (i + 1) now i new (omega arith) ∙ drop_more_same now olds i reads.rest

    -- one more file is read
    pub reads-more : (more : X) → (step found (one_of old new)).ends (Ok more) → Reads step one_of start olds (i + 1) (set now i new) more
    unfolding in_turn each_of
    reads-more more ends = record {
      count = length-set now i new ∙ reads.count;
      rest = rest-after;
      goes_on = λ final count same result later.
          let here : get_or final i new ≡ new =
          sym (get_or-take (i + 1) final i new (omega arith)) ∙ ap (λ (fs : List E). get_or fs i new) same ∙
          get_or-take (i + 1) (set now i new) i new (omega arith) ∙ get_or-set_same now i new new (omega (arith, reads.count, inside)) in
          let of_final : drop i final ≡ (new ∷ drop (i + 1) final) =
          drop_more final i new (omega (arith, count, inside)) ∙ ap (λ (one : E). one ∷ drop (i + 1) final) here in
          let before : take i final ≡ take i now =
          sym (take-take i (i + 1) final (omega arith)) ∙ ap (λ (fs : List E). take i fs) same ∙
          take-take i (i + 1) (set now i new) (omega arith) ∙ take-set now i new in
          reads.goes_on final count before result
          (subst (λ (os : List E). (in_turn step found (each_of one_of os (drop i final))).ends result) (sym olds-at)
          (subst (λ (fs : List E). (in_turn step found (each_of one_of (old ∷ drop (i + 1) olds) fs)).ends result) (sym of_final)
          (went_on more ends later)));
    }

    -- the run stops at this file, and touches no later file
    pub stops-at : ((value : X) (file : E) → (step value (one_of file file)).untouched) → (fault : PeriodFault) →
        (step found (one_of old new)).ends (Err fault) →
        (in_turn step start (each_of one_of olds (set now i new))).ends (Err fault)
    unfolding in_turn each_of
    stops-at untouched fault ends =
        let now_at : drop i (set now i new) ≡ (new ∷ drop (i + 1) olds) =
        drop-set now i new (omega (arith, reads.count, inside)) ∙ ap (λ (later : List E). new ∷ later) (drop_more_same now olds i
        reads.rest) in
        reads.goes_on (set now i new) (length-set now i new ∙ reads.count) (take-set now i new) (Err fault)
        (subst (λ (os : List E). (in_turn step found (each_of one_of os (drop i (set now i new)))).ends (Err fault)) (sym olds-at)
        (subst (λ (fs : List E). (in_turn step found (each_of one_of (old ∷ drop (i + 1) olds) fs)).ends (Err fault)) (sym now_at)
        (stopped fault refl ends (λ more. none-touched untouched more (drop (i + 1) olds)))))

  -- all files are counted
  pub length-each : (news : List E) → length (each_of one_of olds news) ≡ length olds
  unfolding each_of
  length-each news = each-length olds news
    where
      each-length : (os ns : List E) → length (each_of one_of os ns) ≡ length os
      each-length [] ns = refl
      each-length (o ∷ os) [] = ap suc (each-length os [])
      each-length (o ∷ os) (n ∷ ns) = ap suc (each-length os ns)

  -- all files are read
  pub reads-all : (i : ℕ) (now : List E) (found : X) → Reads step one_of start olds i now found → length olds ≤ i →
      (in_turn step start (each_of one_of olds now)).ends (Ok found)
  unfolding in_turn each_of
  reads-all i now found reads all =
      reads.goes_on now reads.count refl (Ok found)
      (subst (λ (os : List E). (in_turn step found (each_of one_of os (drop i now))).ends (Ok found)) (sym (drop_all i olds all)) refl)
