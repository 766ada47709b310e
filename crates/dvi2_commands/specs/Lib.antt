-- What a piece leaves in the buffer, and the code's position in terms of the format.
pub mod Position
