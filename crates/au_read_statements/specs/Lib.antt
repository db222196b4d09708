pub mod StatementReading
pub mod Seen
pub mod BlockHeads
