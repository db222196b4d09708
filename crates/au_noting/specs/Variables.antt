-- What the code's variables say.
pub use Rattle.au_typing.specs.Variables.{variable_said}
