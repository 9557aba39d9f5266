use Rattle.rota_core.proofs.NumeralLemmas.{reads_back}
use Rattle.rota_core.proofs.laws.numerals_read_back.Goals as goal

pub returns : goal.returns
returns c = reads_back
