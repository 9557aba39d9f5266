use Rattle.std.proofs.Common.{sym, ap, ◌∙◌, length}
use Rattle.rota_core.proofs.BitLemmas.{length-truths_of}
use Rattle.rota_core.proofs.bits.Bits.len.Goals as goal

pub returns : goal.returns
returns c = sym (ap length (sym c.self.view_is) ∙ length-truths_of c.self.inside.words.items c.self.inside.len)
