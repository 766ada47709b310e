-- What the contracts cite: the code's types as those of the definitions.
pub mod Page
