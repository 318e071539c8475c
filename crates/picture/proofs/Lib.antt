pub mod Alike
pub mod Shades
pub mod Within
