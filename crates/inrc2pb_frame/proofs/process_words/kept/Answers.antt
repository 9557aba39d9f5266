use Rattle.std.proofs.Common.{ap, map, refl, string_bytes}
use Rattle.std.proofs.lemmas.Iterator.{items_from_collect}
use Rattle.std.proofs.lemmas.Iterator.Adapters.{YieldsList-from_vec}
use Rattle.std.proofs.lemmas.Result.{IfOk-weaker}
use Rattle.inrc2pb_frame.proofs.process_words.kept.Goals as goal

pub returns : goal.returns
returns c = IfOk-weaker c.collect.result _ _ (λ v e. ap (map string_bytes) e)
    (items_from_collect c.collect.result c.collect.ensures.ran (YieldsList-from_vec _ refl c.args.words.rest.ok.0))
