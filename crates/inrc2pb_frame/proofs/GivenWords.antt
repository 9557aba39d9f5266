-- The words of the process, and what follows if they are text.
use Rattle.std.proofs.Common.{◌≡◌, List, Result, Ok, Err, IfOk, IfErr, refl, subst, sym}
use Rattle.std.specs.declared.string.String.{String}
use Rattle.std.specs.declared.vec.IntoIter.{IntoIter}
use Rattle.inrc2pb_frame.specs.Faults.{out_of_memory}
use Rattle.inrc2pb_frame.specs.Given.{Given, IsJobGiven, IsStopGiven, texts_in}
use Rattle.inrc2pb_frame.specs.Runs.{IsJobFor, IsStopFor, Program}
use Rattle.inrc2pb_frame.specs.Stops.{Stop, Text}
use Rattle.inrc2pb_frame.specs.declared.stop.Stop.TheVariants as stops

module _ {J X Z : Type 0} (program : Program J) (given : Given X Z) where
  -- words that spell a job may end without one if memory runs out
  pub memory_stop : (job : J) → IsJobGiven (IsJobFor program) given job → IsStopGiven (IsStopFor program) given (stops.Job out_of_memory)
  memory_stop job is = go given is
    where
      go : (words : Given X Z) → IsJobGiven (IsJobFor program) words job → IsStopGiven (IsStopFor program) words (stops.Job out_of_memory)
      go (Ok words) is = refl
      go (Err error) is = absurd is

  -- the words are text, and these are their texts
  module _ (words : IntoIter (String X) Z) (read_texts : List Text) (are : given ≡ Ok words) (read : read_texts ≡ texts_in words) where
    pub job_given : (r : Result J Stop) → IfOk r (IsJobFor program read_texts) → IfOk r (IsJobGiven (IsJobFor program) given)
    job_given (Ok job) is = subst (λ (g : Given X Z). IsJobGiven (IsJobFor program) g job) (sym are) (subst (λ w. IsJobFor program w job) read is)
    job_given (Err stop) is = tt

    pub stop_given : (r : Result J Stop) → IfErr r (IsStopFor program read_texts) → IfErr r (IsStopGiven (IsStopFor program) given)
    stop_given (Ok job) is = tt
    stop_given (Err stop) is =
        subst (λ (g : Given X Z). IsStopGiven (IsStopFor program) g stop) (sym are) (subst (λ w. IsStopFor program w stop) read is)
