pub mod CountLemmas
pub mod GrowthLemmas
pub mod FrameLemmas
pub mod FreeLemmas
pub mod PointLemmas
pub mod TotalLemmas
pub mod UsableLemmas
pub mod FormLemmas
