pub mod Machines
pub mod Instructions
pub mod Runs
pub mod Examples
pub mod Shown
pub mod ShownCalls
pub mod ShownStuck
pub mod Kept
