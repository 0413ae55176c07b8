pub mod Hours
pub mod Numbers
