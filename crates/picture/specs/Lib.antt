pub mod Pictures
pub mod Packed
pub mod Parts
pub mod Kinds
pub mod Lawfulness
pub mod Laws
