pub mod TypeLemmas
pub mod ExpressionLemmas
pub mod StatementLemmas
pub mod DeclarationLemmas
pub mod DepthLemmas
pub mod PartLemmas
