pub mod Faults
pub mod Headings
pub mod Refusals
pub mod Sending
pub mod Delivery
pub mod Answers
