-- pieces taken from the front
pub mod Pieces
-- numbers compared by their digits
pub mod Comparing
-- a line, and the first line
pub mod Lines
-- the whole
pub mod Readings
-- lines with no count
pub mod Uncounted
