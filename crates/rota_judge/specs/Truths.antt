-- The variables that are true in an answer.
use Rattle.rota_judge.specs.Imports.{ℕ, List, Bool, zero, suc, false, slice_index_or}

-- the variables whose bit is true; bit i belongs to variable i + 1
abbrev pub truth_of : List Bool → ℕ → Bool
truth_of bits zero = false
truth_of bits (suc index) = slice_index_or bits index false
