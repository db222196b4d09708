pub mod Limits
pub mod Outside
pub mod Places
pub mod Statuses
pub mod Stored
pub mod Tokens
