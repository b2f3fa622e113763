pub mod Within
pub mod Order
pub mod Later
