-- what the pass over the tokens makes
pub mod Building
-- which tokens are readable
pub mod Readable
-- how bytes spell tokens
pub mod Words
pub mod Spelling
-- the whole
pub mod Readings
