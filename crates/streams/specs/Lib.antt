pub mod Views
pub mod Effects
pub mod Begins
pub mod Order
pub mod Points
pub mod Marks
pub mod Counts
