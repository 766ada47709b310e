-- The code's stack and page as those of the format.
pub mod Stack
pub mod StackLaws
pub mod Page
