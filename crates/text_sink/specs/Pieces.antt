-- The text of pieces.
use Rattle.std.specs.Prelude.{ℕ, List}
use Rattle.std.specs.List.{flat_map}
use Rattle.rota_core.specs.Numeral.{numeral, signed_numeral}
use Rattle.text_sink.specs.declared.sink.Piece.{Piece}
use Rattle.text_sink.specs.declared.sink.Piece.TheVariants.{Bytes, Natural, Integer}

-- the bytes, or the digits of the number
abbrev pub piece_text : Piece → List ℕ
piece_text (Bytes bytes) = bytes.now
piece_text (Natural number) = numeral number
piece_text (Integer number) = signed_numeral number

-- the texts of the pieces, joined
abbrev pub pieces_text : List Piece → List ℕ
pieces_text pieces = flat_map piece_text pieces
