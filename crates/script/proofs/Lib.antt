pub mod Cutting
pub mod Decimals
pub mod Octets
pub mod Walking
pub mod Running
