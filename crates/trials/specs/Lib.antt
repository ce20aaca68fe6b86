-- The claims about the definitions.
pub mod ExampleSheet
pub mod Trials
