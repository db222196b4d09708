pub mod Giving
pub mod Said
pub mod Scopes
pub mod Variables
pub mod Modes
pub mod Nodes
