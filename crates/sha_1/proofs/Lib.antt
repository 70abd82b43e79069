pub mod Schedule
pub mod Ends
pub mod Definitions
