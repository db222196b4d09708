pub use Rattle.au_acting.specs.Casing
pub use Rattle.au_acting.specs.Safe
pub use Rattle.au_acting.specs.Valuing
pub mod Frames
pub mod Laws
