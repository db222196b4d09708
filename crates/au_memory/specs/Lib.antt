pub mod Trees
pub mod Loans
pub mod Shown
pub mod Forests
pub mod Laws
