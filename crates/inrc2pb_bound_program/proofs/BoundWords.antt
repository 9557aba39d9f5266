-- The meaning of a parse of the command for its options.
use Rattle.std.proofs.Common.{◌≡◌, ◌∙◌, ap, refl, subst, true, List, [], Result, IfOk, IfErr}
use Rattle.std.proofs.lemmas.Result.{IfErr-weaker, IfOk-weaker}
use Rattle.clap.specs.Words.{App, HasMatchesOf, Row, Text, fault_of, is_simple, is_simple_and_free, matches_of}
use Rattle.clap.specs.declared.parser.matches.ArgMatches.{ArgMatches}
use Rattle.clap.proofs.OnLiterals.{clap_on_literals}
use Rattle.inrc2pb_frame.specs.Options.{options_of}
use Rattle.inrc2pb_frame.specs.Runs.{IsJobFor, IsStopFor}
use Rattle.inrc2pb_frame.specs.Stops.{IsForMemoryOr}
use Rattle.inrc2pb_frame.specs.declared.stop.Stop.{Stop}
use Rattle.inrc2pb_frame.proofs.Refusals.{stop_without_fault}
use Rattle.inrc2pb_bound_program.specs.BoundJobs.{IsBoundJobOf, IsMisused}
use Rattle.inrc2pb_bound_program.specs.BoundPrograms.{inrc2pb_bound}
use Rattle.inrc2pb_bound_program.specs.CommandLine.{bound_app}
use Rattle.inrc2pb_bound_program.specs.declared.job.BoundJob.{BoundJob}

pub is_simple-bound : is_simple bound_app ≡ true
unfolding clap_on_literals
is_simple-bound = refl

pub is_simple_and_free-bound : is_simple_and_free bound_app ≡ true
unfolding clap_on_literals
is_simple_and_free-bound = refl

-- the matches have the options of the words
pub options_read : (a : App) (words : List Text) (m : ArgMatches) → a ≡ bound_app → HasMatchesOf a words m →
    options_of m ≡ matches_of bound_app words
options_read a words m is has = (has (ap is_simple is ∙ is_simple-bound)).0 ∙ ap (λ x. matches_of x words) is

module _ (words : List Text) (options : List Row) (r : Result BoundJob Stop) (none : fault_of bound_app words ≡ [])
    (read : options ≡ matches_of bound_app words) where
  -- the job of words without a fault
  pub ok_for : IfOk r (IsBoundJobOf options) → IfOk r (IsJobFor inrc2pb_bound words)
  ok_for = IfOk-weaker r _ _ (λ job h. record { taken = none; spelled = subst (λ rows. IsBoundJobOf rows job) read h })

  -- why words without a fault give no job
  pub err_for : IfErr r (IsForMemoryOr (IsMisused options)) → IfErr r (IsStopFor inrc2pb_bound words)
  err_for = IfErr-weaker r _ _ (λ stop h.
      stop_without_fault bound_app _ words stop none (subst (λ rows. IsForMemoryOr (IsMisused rows) stop) read h))
