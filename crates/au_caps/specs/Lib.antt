pub mod Calls
pub mod Making
pub mod Reports
pub mod Views
pub mod Keys
pub mod Webs
