pub mod Listing
pub mod Octets
pub mod ReadBack
pub mod Reading
pub mod Replay
pub mod Writing
pub mod Viewing
pub mod Laws
