-- Three measures, their ranges, and the targets.
pub mod Place
pub mod PlaceLaws
pub mod Target
