use Rattle.std.proofs.Common.{rules, tests}
use Rattle.std.proofs.lemmas.Iterator.{YieldsList-from_slice}
use Rattle.std.proofs.lemmas.Iterator.Search.{find_from_yields_List}
use Rattle.std.specs.Str.{bytes_eq}
use Rattle.run_tests.specs.declared.memory_files.MemoryFile.{MemoryFile}
use Rattle.run_tests.proofs.memory_files.file_at.Goals as goal

pub returns : goal.returns
returns c = find_from_yields_List (λ (file : MemoryFile). bytes_eq file.path.now c.args.path.now) _ _ _ c.find.ensures.ran
    (YieldsList-from_slice c.args.files.now cc) (λ x b q k. search (rules, tests))
