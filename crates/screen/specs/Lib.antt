pub mod Faults
pub mod FirstFlush
pub mod Flushing
pub mod Lives
pub mod Screens
pub mod Scripts
pub mod Slots
