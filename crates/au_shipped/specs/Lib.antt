pub mod Building
pub mod TerminalInterface
pub mod BoxInterface
pub mod BufferInterface
pub mod PervasiveInterface
pub mod Rows
pub mod Calls
pub mod Shipped
