-- Truth values packed in words of 64.
use Rattle.std.specs.Prelude.{ℕ, ◌/◌, ◌%◌, Bool, false, ◌==◌, List, map, slice_index, slice_index_or}
use Rattle.std.specs.List.{filter, range_with_len}
use Rattle.std.specs.Int.{bit_at}

-- the truth value at an index
abbrev pub is_set : List ℕ → ℕ → Bool
is_set words index = bit_at (slice_index words (index / 64)) (index % 64) == 1

-- the first len truth values
unfoldable pub truths_of : List ℕ → ℕ → List Bool
truths_of words len = map (is_set words) (range_with_len 0 len)

-- the indices at which the list has a true value, among the len indices from the first on
abbrev pub true_from : List Bool → ℕ → ℕ → List ℕ
true_from truths first len = filter (λ index. slice_index_or truths index false) (range_with_len first len)
