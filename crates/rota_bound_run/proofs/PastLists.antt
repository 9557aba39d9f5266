-- Lists of the pasts of nurses.
use Rattle.std.proofs.Common.{◌≡◌, ℕ, ◌+◌, ◌≤◌, ◌<◌, ap, sym, ◌∙◌, arith, List, [], ◌∷◌, ◌++◌, length, length-append, inl, inr, get_or}
use Rattle.std.specs.Prelude.{slice_index_or}
use Rattle.std.proofs.Math.ListN.{get_or-append, set}
use Rattle.std.proofs.Math.Seq.{get_or-append_seam}
use Rattle.std.proofs.lemmas.Bool.{cases_lt}
use Rattle.std.proofs.lemmas.Grind.{get_or-set_at}
use Rattle.std.proofs.lemmas.List.{get_or-set_other, length-set}
use Rattle.rota_core.specs.Defaults.{no_past}
use Rattle.rota_core.specs.declared.values.Past.{Past}
use Rattle.rota_certificate.specs.Plans.{Pasts}
use Rattle.rota_bound_run.specs.JudgedWeeks.{ArePastsIn}

pub no-pasts : (history : Pasts) (pasts : List Past) → pasts ≡ [] → ArePastsIn 0 history pasts
no-pasts history pasts none = record { count = ap length none; each = λ n n_in. absurd (omega (arith, n_in)) }

-- the past of one more nurse
pub one-past-more : (history : Pasts) (pasts more : List Past) (n : ℕ) (past : Past) → ArePastsIn n history pasts → more ≡ pasts ++
    past ∷ [] →
    past ≡ history n → ArePastsIn (n + 1) history more
one-past-more history pasts more n past are is past_is = record {
  count = ap length is ∙ length-append pasts (past ∷ []) ∙ ap (λ (k : ℕ). k + 1) are.count;
  each = λ k k_in. elim (cases_lt k n) [
    | inl below ↦ ap (λ (ps : List Past). get_or ps k no_past) is ∙ get_or-append pasts (past ∷ []) no_past k (omega
        (arith, below, are.count)) ∙ are.each k below
    | inr above ↦
        let here : k ≡ length pasts = omega (arith, k_in, above, are.count) in
        let at_n : k ≡ n = omega (arith, k_in, above) in
        ap (λ (ps : List Past). get_or ps k no_past) is ∙ ap (λ (j : ℕ). get_or (pasts ++ past ∷ []) j no_past) here ∙
        get_or-append_seam pasts past [] no_past ∙ past_is ∙ ap history (sym at_n)
  ];
}

-- of this list, the pasts of the first nurses are those after a week, and the others are those before it
pub record IsPartlyAfter (history : Pasts) (before now : List Past) (i : ℕ) : Type 0 where
  pub count : length now ≡ length before
  pub first : (n : ℕ) → n < i → slice_index_or now n no_past ≡ history n
  pub others : (n : ℕ) → i ≤ n → slice_index_or now n no_past ≡ slice_index_or before n no_past

-- the past of one more nurse is the one after the week
pub one-more-after : (history : Pasts) (before now : List Past) (i : ℕ) (past : Past) → IsPartlyAfter history before now i →
    i < length before → past ≡ history i → IsPartlyAfter history before (set now i past) (i + 1)
one-more-after history before now i past are inside is = record {
  count = length-set now i past ∙ are.count;
  first = λ n n_in. elim (cases_lt n i) [
    | inl below ↦ get_or-set_other now i n past no_past (λ same. omega (arith, below, same)) ∙ are.first n below
    | inr above ↦
        let here : n ≡ i = omega (arith, n_in, above) in
        get_or-set_at now i n past no_past here (omega (arith, inside, are.count)) ∙ is ∙ ap history (sym here)
  ];
  others = λ n n_in. get_or-set_other now i n past no_past (λ same. omega (arith, n_in, same)) ∙ are.others n (omega (arith, n_in));
}
