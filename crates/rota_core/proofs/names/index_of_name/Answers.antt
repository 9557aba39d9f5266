use Rattle.std.proofs.Common.{sym, ◌∙◌}
use Rattle.std.specs.Str.{bytes_eq}
use Rattle.rota_core.proofs.NameLemmas.{position-map}
use Rattle.rota_core.proofs.names.index_of_name.Goals as goal

pub returns : goal.returns
returns c = c.get_index_of.ensures.index ∙ sym (position-map (bytes_eq c.args.word.now) (λ name. name.items) c.args.names.now.keys)
