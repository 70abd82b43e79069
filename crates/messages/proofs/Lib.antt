mod Results
pub mod Known
pub mod Formed
mod Arriving
pub mod Refusing
