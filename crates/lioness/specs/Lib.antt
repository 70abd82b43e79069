pub mod Steps
pub mod Lioness
pub mod Rules
pub mod Laws
pub mod Undoing
