use Rattle.std.proofs.Common.{◌≡◌, length, map, option_map, string_bytes, take}
use Rattle.std.specs.List.{range_with_len}
use Rattle.inrc2pb_frame.specs.Options.{texts}
use Rattle.inrc2pb_bound_program.specs.FixTexts.{fix_of}
use Rattle.inrc2pb_bound_program.proofs.command_line.week_paths.Given as goal

abbrev pub invariant-loop-index : goal.invariant-loop-index
invariant-loop-index l = record {
  week : map (λ week. string_bytes week.week) l.paths.items ≡ texts (take l.index l.weeks);
  fix : map (λ week. option_map string_bytes week.fix) l.paths.items
      ≡ map (fix_of (length l.weeks) (texts l.fixes)) (range_with_len 1 l.index);
}
