mod Expansion
mod Blocks
mod Points
pub mod Chunks
