-- The held cells that the words name: the text `N=FILE` of `--fix` names week N, and any other text is a path of the only week.
use Rattle.std.specs.Prelude.{ℕ, ◌+◌, ◌==◌, ◌&&◌, Bool, true, List, [], ◌∷◌, Option, None, Some}
use Rattle.std.specs.Prelude.{if◌then◌else◌, is_some, length, min, nat_le, nat_lt, not}
use Rattle.std.specs.List.{after_first, before_first, position_or_len}
use Rattle.rota_core.specs.Decimal.{decimal, is_decimal}
use Rattle.rota_core.specs.Limits.{max_weeks}
use Rattle.clap.specs.Words.{Text}

-- the byte `=`
abbrev pub is_equals_sign : ℕ → Bool
is_equals_sign byte = byte == 61

-- the text has a `=`, and nothing but digits before its first one
abbrev pub is_numbered : Text → Bool
is_numbered text =
    nat_lt (position_or_len is_equals_sign text) (length text) && is_decimal (before_first is_equals_sign text)

-- the number of the week, from 1, of this number of weeks: 0 if no week is named and there are several; a number above the maximum counts
-- as one more than the maximum
abbrev pub week_named : ℕ → Text → ℕ
week_named weeks text = if is_numbered text then min (decimal (before_first is_equals_sign text)) (max_weeks + 1) else
    (if weeks == 1 then 1 else 0)

-- the path
abbrev pub path_named : Text → Text
path_named text = if is_numbered text then after_first is_equals_sign text else text

-- the path that one of the texts names for this week, if one does
abbrev pub fix_of : (weeks : ℕ) → List Text → ℕ → Option Text
fix_of weeks [] week = None
fix_of weeks (text ∷ later) week = if week_named weeks text == week then Some (path_named text) else fix_of weeks later week

-- each text names one of this number of weeks, and no later text names the same
abbrev pub are_fixes : ℕ → List Text → Bool
are_fixes weeks [] = true
are_fixes weeks (text ∷ later) = (nat_le 1 (week_named weeks text) && nat_le (week_named weeks text) weeks)
    && (not (is_some (fix_of weeks later (week_named weeks text))) && are_fixes weeks later)
