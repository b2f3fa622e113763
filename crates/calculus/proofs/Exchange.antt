pub mod KindMap
pub mod SameShapes
pub mod Alike
pub mod Exchange
