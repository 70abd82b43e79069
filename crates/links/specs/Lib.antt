pub mod Numbers
pub mod Lines
pub mod Cuts
pub mod Rows
pub mod Kinds
pub mod Wholes
