pub mod Blocks
pub mod Buffers
pub mod Taking
