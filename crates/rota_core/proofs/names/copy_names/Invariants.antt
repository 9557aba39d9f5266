use Rattle.std.proofs.Common.{◌≡◌, ◌++◌, map}
use Rattle.rota_core.specs.Parts.{bytes_of}
use Rattle.rota_core.proofs.names.copy_names.Given as goal

-- the names of the copy, and those that are left, are the names
abbrev pub invariant-loop-name : goal.invariant-loop-name
invariant-loop-name l = bytes_of l.copy ++ map (λ name. name.items) l.name-iterator ≡ bytes_of l.fn.names
