-- the definitions, in reading order
pub mod Octets
pub mod Hex
pub mod Six
-- how the code reads: octets of content two or four at a time, into a buffer
pub mod Pieces
pub mod Decoding
-- what is proved
pub mod BelowLaws
pub mod HexLaws
pub mod SixLaws
pub mod PiecesLaws
pub mod DecodingLaws
pub mod OddLaws
pub mod HexLoopLaws
pub mod SixLoopLaws
pub mod TextLoopLaws
