pub mod Blocks
pub mod FirstRun
pub mod Landing
pub mod Marks
pub mod Sending
