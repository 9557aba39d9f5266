-- The demand of a place in a case, condition by condition.
use Rattle.std.proofs.Common.{◌≡◌, ℕ, ◌+◌, ◌<◌, ◌≤◌, ap, length, drop, slice_index_or}
use Rattle.std.proofs.lemmas.List.{drop_all}
use Rattle.rota_core.specs.declared.certificate.Condition.{Condition}
use Rattle.rota_certificate.specs.Facts.{Case}
use Rattle.rota_certificate.specs.PlaceCases.{lowered_by, lowered_optimal, raised_by, raised_minimum}
use Rattle.rota_certificate.proofs.ListSteps.{list-more}

module _ (case : Case) (i : ℕ) (w d s k : ℕ) where
  module _ (condition : Condition) (inside : i < length case) (is : condition ≡ slice_index_or case i condition) (number : ℕ) where
    pub raised-more : raised_minimum (drop i case) w d s k number ≡
        raised_minimum (drop (i + 1) case) w d s k (raised_by condition.fact condition.holds w d s k number)
    unfolding raised_minimum
    raised-more = ap (λ (rest : Case). raised_minimum rest w d s k number) (list-more case i condition inside is)

    pub lowered-more : lowered_optimal (drop i case) w d s k number ≡
        lowered_optimal (drop (i + 1) case) w d s k (lowered_by condition.fact condition.holds w d s k number)
    unfolding lowered_optimal
    lowered-more = ap (λ (rest : Case). lowered_optimal rest w d s k number) (list-more case i condition inside is)

  module _ (past : length case ≤ i) (number : ℕ) where
    pub raised-end : raised_minimum (drop i case) w d s k number ≡ number
    unfolding raised_minimum
    raised-end = ap (λ (rest : Case). raised_minimum rest w d s k number) (drop_all i case past)

    pub lowered-end : lowered_optimal (drop i case) w d s k number ≡ number
    unfolding lowered_optimal
    lowered-end = ap (λ (rest : Case). lowered_optimal rest w d s k number) (drop_all i case past)
