pub mod Feed
pub mod Taking
pub mod Chunks
