pub mod Lines
pub mod Lists
pub mod Views
pub mod Spreading
pub mod Turning
pub mod Putting
pub mod Examples
