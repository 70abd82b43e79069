pub mod Ring
pub mod Refusals
