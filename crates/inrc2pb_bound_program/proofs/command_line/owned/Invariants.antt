use Rattle.std.proofs.Common.{◌≡◌, map, string_bytes, take}
use Rattle.inrc2pb_frame.specs.Options.{texts}
use Rattle.inrc2pb_bound_program.proofs.command_line.owned.Given as goal

abbrev pub invariant-loop-path : goal.invariant-loop-path
invariant-loop-path l = map string_bytes l.owned.items ≡ texts (take l.path-index l.paths)
