pub mod ByteLists
pub mod Triples
pub mod Lengths
pub mod Longest
pub mod LongFiles
