-- The values of a command's options.
use Rattle.std.specs.Prelude.{◌≡◌, Bool, List, Some, None, true, false, codes, map}
use Rattle.std.specs.Borrow.{Bor}
pub use Rattle.clap.specs.Words.{Row, Text, first_of, found_of, one_of, rows_of}
use Rattle.clap.specs.declared.parser.matches.ArgMatches.{ArgMatches}

-- the words without references
abbrev pub texts : List (Bor Text) → List Text
texts = map (λ word. word.now)

-- the options in the matches of one command
abbrev pub options_of : ArgMatches → List Row
options_of m = rows_of (found_of m)

-- the flag is set if the text of its option is `true`, and not set if it is `false` or missing
pub record HasFlag (id : Text) (options : List Row) (flag : Bool) : Type 0 where
  pub set : one_of id options ≡ Some (codes "true") → flag ≡ true
  pub unset : one_of id options ≡ Some (codes "false") → flag ≡ false
  pub absent : one_of id options ≡ None → flag ≡ false

-- the option is missing
abbrev pub LacksOption : Text → List Row → Type 0
LacksOption id options = first_of id options ≡ None
