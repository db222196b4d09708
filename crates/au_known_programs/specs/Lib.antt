pub use Rattle.au_known_types.specs.Known
pub mod Programs
