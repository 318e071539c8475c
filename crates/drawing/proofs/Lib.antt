pub mod Books
pub mod OneDot
pub mod Outside
pub mod Steps
