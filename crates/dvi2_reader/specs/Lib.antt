-- What the contracts cite: a pass.
pub mod Pass
