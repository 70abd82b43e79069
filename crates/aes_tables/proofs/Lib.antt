mod Table
mod Tables
pub mod Xoring
pub mod Words
pub mod Inverse
