pub use Rattle.au_running_judgements.specs.Held
pub use Rattle.au_running_judgements.specs.Blocks
pub use Rattle.au_running_judgements.specs.Expressions
pub use Rattle.au_running_judgements.specs.Known
pub use Rattle.au_running_judgements.specs.Picking
pub use Rattle.au_running_judgements.specs.Lives
pub use Rattle.au_running_judgements.specs.Uses
pub mod Counted
