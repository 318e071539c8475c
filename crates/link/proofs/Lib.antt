pub mod Alike
pub mod Recorded
