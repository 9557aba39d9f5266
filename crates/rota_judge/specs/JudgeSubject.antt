-- The meaning of a judge's fields.
use Rattle.rota_judge.specs.declared.judge.subjects.Subject.{Subject as Given}
use Rattle.rota_judge.specs.declared.judge.subjects.Subject.TheVariants.{Assigned, Extended}
use Rattle.rota_judge.specs.JudgeState.{Subject, assigned, extended}

abbrev pub subject_of : Given → Subject
subject_of (Assigned bits) = assigned bits.now
subject_of (Extended roster) = extended roster.now
