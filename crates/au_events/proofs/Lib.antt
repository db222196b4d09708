pub mod CountLemmas
pub mod BirthLemmas
pub mod BorrowLemmas
pub mod HomeLemmas
