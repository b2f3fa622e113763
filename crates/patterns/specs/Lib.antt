-- patterns and what they say of runs
pub mod Patterns
pub mod Runs
-- what a pattern becomes
pub mod Translation
pub mod Sizes
-- the call
pub mod Translating
pub mod TranslationCorrect
-- what private functions ask and promise; nobody has to believe it
pub mod Internal
