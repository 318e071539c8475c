pub mod Advance
pub mod Back
pub mod OneLine
pub mod Rows
pub mod Stuck
pub mod Written
pub mod Whole
