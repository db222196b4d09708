pub mod Said
pub mod Leaves
pub mod Made
pub mod Bare
pub mod Arguments
pub mod Passing
