pub mod Payloads
pub mod Frames
pub mod Refused
