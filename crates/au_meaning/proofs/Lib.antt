pub mod Growing
pub mod ActGrowth
pub mod CallGrowth
pub mod ExpressionGrowth
pub mod StatementGrowth
pub mod MeaningGrowth
