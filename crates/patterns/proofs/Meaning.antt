pub mod Sentences
pub mod Before
pub mod Raised
pub mod Meaning
pub mod Paths
