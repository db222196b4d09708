-- What is named here of reports on capabilities, for the crates above.
pub use Rattle.au_caps_text.specs.Lines
