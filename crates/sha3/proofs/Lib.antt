pub mod Flat
pub mod Ends
pub mod Definitions
