pub mod Blanks
pub mod Words
