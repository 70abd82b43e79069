pub mod Sends
pub mod Finds
