-- The status of an answer.
use Rattle.std.specs.Prelude.{ℕ, List, codes}
use Rattle.solver_text.specs.declared.outcome.Status.{Status}
use Rattle.solver_text.specs.declared.outcome.Status.TheVariants.{Satisfiable, Optimum, Unsatisfiable, Unknown, Unsupported}

-- the words of an `s` line that names the status
abbrev pub status_words : Status → List ℕ
status_words Satisfiable = codes "SATISFIABLE"
status_words Optimum = codes "OPTIMUM FOUND"
status_words Unsatisfiable = codes "UNSATISFIABLE"
status_words Unknown = codes "UNKNOWN"
status_words Unsupported = codes "UNSUPPORTED"
