use Rattle.std.proofs.Common.{◌++◌, map}
use Rattle.rota_core.specs.Parts.{bytes_of}
use Rattle.rota_core.specs.ScenarioTables.{AreDistinct}
use Rattle.rota_core.proofs.NameLemmas.{new-after-others}
use Rattle.rota_core.proofs.names.copy_names.Goals as goal

pub add_name-requires : goal.add_name-requires
add_name-requires c =
    let distinct : AreDistinct (bytes_of c.loop-name.copy ++ map (λ name. name.items) c.loop-name.name-iterator) =
    rw c.loop-name.invariant c.requires in
    record { new = rw c.deref.ensures.value (new-after-others _ _ _ (rw c.in-Some.ensures.steps at distinct)) }
