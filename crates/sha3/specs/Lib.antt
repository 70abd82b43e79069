pub mod Keccak
pub mod Sha3
pub mod Planes
pub mod Digests
pub mod Laws
