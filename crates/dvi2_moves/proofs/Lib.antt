pub mod CommandKinds
pub mod MoveSteps
pub mod Pages
pub mod CodeSteps
