pub mod Blank
pub mod Fresh
pub mod Sized
pub mod Texts
pub mod Upright
