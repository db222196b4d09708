pub mod DeclarationReading
pub mod ModuleReading
pub mod Fronts
pub mod Measures
pub mod TypeFronts
pub mod Passing
