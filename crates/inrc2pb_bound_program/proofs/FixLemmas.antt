-- The texts of `--fix`, one after the other.
use Rattle.std.proofs.Common.{◌≡◌, ◌+◌, ◌<◌, ◌&&◌, ℕ, List, ap, drop, get_or, is_some, length, nat_le, not}
use Rattle.std.specs.Borrow.{Bor}
use Rattle.std.proofs.lemmas.List.{drop_more}
use Rattle.clap.specs.Words.{Text}
use Rattle.inrc2pb_frame.specs.Options.{texts}
use Rattle.inrc2pb_bound_program.specs.FixTexts.{are_fixes, fix_of, week_named}

-- the text at an index, and the later ones
pub are_fixes_from : (weeks : ℕ) (given : List (Bor Text)) (index : ℕ) (d : Bor Text) → index < length given →
    are_fixes weeks (texts (drop index given)) ≡
    ((nat_le 1 (week_named weeks (get_or given index d).now) && nat_le (week_named weeks (get_or given index d).now) weeks)
    && (not (is_some (fix_of weeks (texts (drop (index + 1) given)) (week_named weeks (get_or given index d).now)))
    && are_fixes weeks (texts (drop (index + 1) given))))
are_fixes_from weeks given index d lt = ap (λ (ts : List (Bor Text)). are_fixes weeks (texts ts)) (drop_more given index d lt)
