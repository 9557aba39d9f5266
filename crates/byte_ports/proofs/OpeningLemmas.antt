-- Files that were opened by one call after the other.
use Rattle.std.proofs.Common.{◌≡◌, ◌∙◌, ap, sym, refl, subst, List, [], ◌++◌, append_assoc, Some, None, Result, Ok, Err}
use Rattle.std.specs.Prelude.{IsErrAnd, MatchResult}
use Rattle.std.proofs.lemmas.List.{append-nil}
use Rattle.byte_ports.specs.declared.ports.Source.{Ghosts}
use Rattle.byte_ports.specs.declared.open_files.OpenFault.{OpenFault}
use Rattle.byte_ports.specs.Openers.{OpensAs, opener_of}
use Rattle.byte_ports.specs.Opening.{Opening, ◌>>=◌, asks_none, stopped, went_on}
use Rattle.byte_ports.specs.Paths.{FileAt, Path, PathLog, with_paths}

log_both : (log : PathLog) (xs ys : List Path) → with_paths (with_paths log xs) ys ≡ with_paths log (xs ++ ys)
log_both None xs ys = refl
log_both (Some before) xs ys = ap Some (append_assoc before xs ys)

none_asked : (log : PathLog) → log ≡ with_paths log []
none_asked None = refl
none_asked (Some before) = ap Some (sym (append-nil before))

-- no call opened a file
pub opens_none : {F A : Type 0} {port : Ghosts F} {at : Path → FileAt} {log : PathLog} {Finds : A → Type 0} {Stops : OpenFault → Type 0}
    {result : Result A OpenFault} → MatchResult result Finds Stops → OpensAs (opener_of port at at log log) (asks_none Finds Stops) result
opens_none {log = log} ends = record { asked = []; ends = (refl, ends); log = none_asked log; same = refl }

module _ {F A B : Type 0} {step : Opening A} {next : A → Opening B} {port : Ghosts F} {at then : Path → FileAt} where
  -- a call for the first step, and then calls for the rest
  pub opens_then : {middle : Path → FileAt} {before between after : PathLog} {found : A} {result : Result B OpenFault} →
      OpensAs (opener_of port at middle before between) step (Ok found) →
      OpensAs (opener_of port middle then between after) (next found) result →
      OpensAs (opener_of port at then before after) (step >>= next) result
  opens_then {before = before} {found = found} {result = result} first later = record {
    asked = first.asked ++ later.asked;
    ends = went_on found first.asked later.asked refl first.ends
        (subst (λ (files : Path → FileAt). (next found).ends files later.asked result) first.same later.ends);
    log = later.log ∙ ap (λ log. with_paths log later.asked) first.log ∙ log_both before first.asked later.asked;
    same = later.same ∙ first.same;
  }

  -- a call for the first step, which stopped
  pub opens_stopped : {before after : PathLog} {fault : OpenFault} (result : Result B OpenFault) → IsErrAnd result (λ e. e ≡ fault) →
      OpensAs (opener_of port at then before after) step (Err fault) → OpensAs (opener_of port at then before after) (step >>= next) result
  opens_stopped (Ok value) is opened = absurd is
  opens_stopped {fault = fault} (Err e) is opened = record {
    asked = opened.asked;
    ends = stopped fault (ap Err is) opened.ends;
    log = opened.log;
    same = opened.same;
  }
