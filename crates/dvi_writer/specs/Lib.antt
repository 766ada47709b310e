-- What the writer answers and leaves in the buffer, and the values of its code in terms of the format.
pub mod Result
pub mod Writing
pub mod Plan
