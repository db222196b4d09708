pub mod Reading
pub mod Spelling
pub mod Bounds
pub mod TypeReading
pub mod TypeStops
pub mod ExpressionReading
pub mod FirstTokens
pub mod Arguments
