pub mod Plans
pub mod Runs
pub mod Wanted
