-- The tokens of the rest of a file, as a cursor shows them.
use Rattle.std.specs.Prelude.{ℕ, List, []}
use Rattle.rota_layout.specs.Tokens.{Token, tokens_after}

-- the tokens of bytes whose first byte is on this line
abbrev pub tokens_from : ℕ → List ℕ → List Token
tokens_from line bytes = tokens_after [] line bytes
