-- What the contracts cite: one turn, and what is known of the items.
pub mod Tally
pub mod Turn
