use Rattle.std.proofs.Common.{refl}
use Rattle.inrc2pb_program.proofs.job_run.perform.Goals as goal

pub returns-in-Some : goal.returns-in-Some
returns-in-Some g c = rw (c.in-Encode.is, c.in-Some.is) ((c.encode.ensures, refl), refl)

pub returns-in-None : goal.returns-in-None
returns-in-None g c = rw (c.in-Encode.is, c.in-None.is) ((c.encode-in-None.ensures, refl), refl)

pub returns-in-Decode : goal.returns-in-Decode
returns-in-Decode g c = rw c.in-Decode.is c.decode.ensures

pub returns-in-Extend : goal.returns-in-Extend
returns-in-Extend g c = rw c.in-Extend.is (rw c.as_str.ensures.value at c.extend.ensures, refl, refl)
