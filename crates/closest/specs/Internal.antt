pub mod Distances
pub mod Layers
pub mod Ordering
pub mod Answering
pub mod Tracing
