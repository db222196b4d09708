pub mod Seen
pub use Rattle.au_syntax.specs.Views
pub use Rattle.au_syntax.specs.Files
pub use Rattle.au_syntax.specs.Depths
pub use Rattle.au_syntax.specs.Views
pub use Rattle.au_syntax.specs.Files
