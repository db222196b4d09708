pub mod Given
pub mod Jobs
pub mod Reading
