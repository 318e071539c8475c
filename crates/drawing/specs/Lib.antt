pub mod Book
pub mod Clips
pub mod Dots
pub mod Drawing
pub mod Pens
pub mod Solids
