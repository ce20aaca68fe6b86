-- The definition that the writers of fields are held to.
pub mod Put
