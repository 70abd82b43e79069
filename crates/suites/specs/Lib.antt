pub mod Ciphers
pub mod Digests
pub mod Faults
pub mod Suites
pub mod Opened
pub mod Points
