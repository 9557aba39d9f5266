-- The words of the command line, and the job that they give, or the reason why they give none.
use Rattle.std.specs.Prelude.{List, Result, Ok, Err, map, string_bytes}
use Rattle.std.specs.Vec.Iter.{into_iter_items}
use Rattle.std.specs.declared.io.Error.{Error}
use Rattle.std.specs.declared.string.String.{String}
use Rattle.std.specs.declared.vec.IntoIter.{IntoIter}
use Rattle.inrc2pb_frame.specs.Stops.{IsStopForError, Stop, Text}

-- the words of the command line, or the reason why they are not text
abbrev pub Given : Type 0 → Type 0 → Type 0
Given X Z = Result (IntoIter (String X) Z) Error

-- the words, each as its bytes
abbrev pub texts_in : {X Z : Type 0} → IntoIter (String X) Z → List Text
texts_in words = map string_bytes (into_iter_items words)

-- the words are text, and they give this job
abbrev pub IsJobGiven : {J X Z : Type 0} → (List Text → J → Type 0) → Given X Z → J → Type 0
IsJobGiven IsJob (Ok words) job = IsJob (texts_in words) job
IsJobGiven IsJob (Err error) job = ⊥

-- why the words give no job
abbrev pub IsStopGiven : {X Z : Type 0} → (List Text → Stop → Type 0) → Given X Z → Stop → Type 0
IsStopGiven IsStop (Ok words) stop = IsStop (texts_in words) stop
IsStopGiven IsStop (Err error) stop = IsStopForError error stop
