pub mod Payload
pub mod Frame
pub mod Commands
pub mod Refusals
