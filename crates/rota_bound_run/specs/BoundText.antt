-- The text of an answer.
use Rattle.std.specs.Prelude.{ℕ, List, [], ◌++◌, codes, Bool, Option, None, Some, if◌then◌else◌}
use Rattle.rota_pb.specs.Report.{number_line}
use Rattle.rota_bound_run.specs.declared.answer.PeriodAnswer.{PeriodAnswer}
use Rattle.rota_bound_run.specs.declared.claims.Claim.{Claim}
use Rattle.rota_bound_run.specs.declared.claims.Claim.TheVariants.{AtLeast, NoRoster, Unknown}

-- the line of the claim
abbrev pub claim_line : Claim → List ℕ
claim_line (AtLeast bound) = number_line (codes "lower bound") bound
claim_line NoRoster = codes "no roster exists\n"
claim_line Unknown = codes "no proof that no roster exists\n"

-- the line of the rosters' penalty, if there are rosters
abbrev pub penalty_line : Option ℕ → List ℕ
penalty_line None = []
penalty_line (Some penalty) = number_line (codes "penalty") penalty

-- the line of optimal rosters
abbrev pub optimal_line : Bool → List ℕ
optimal_line optimal = (if optimal then codes "optimal\n" else [])

-- the whole text
abbrev pub bound_text : PeriodAnswer → List ℕ
bound_text answer = claim_line answer.claim ++ penalty_line answer.penalty ++ optimal_line answer.optimal
