pub mod Noted
pub mod Entering
