pub mod Sha1
pub mod Quads
pub mod Digests
pub mod Laws
