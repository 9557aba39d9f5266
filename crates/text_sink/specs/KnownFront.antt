-- The first bytes of known bytes.
use Rattle.std.specs.Prelude.{List, ℕ, length, take, None, Some}
use Rattle.std.specs.Option.{option_map}
use Rattle.byte_ports.specs.Ports.{KnownBytes}

-- the first bytes of the whole, as many as the part has; the whole, if the part is not known
abbrev pub known_front : KnownBytes → KnownBytes → KnownBytes
known_front None whole = whole
known_front (Some part) whole = option_map (λ (bytes : List ℕ). take (length part) bytes) whole
