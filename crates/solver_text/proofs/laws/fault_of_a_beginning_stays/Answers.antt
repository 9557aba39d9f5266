use Rattle.solver_text.proofs.StayLaws.{fault-stays}
use Rattle.solver_text.proofs.laws.fault_of_a_beginning_stays.Goals as goal

pub returns : goal.returns
returns c = fault-stays
