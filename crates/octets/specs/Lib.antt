-- Numbers in bytes, fields, sums in 32 bits, and what an operation answers.
pub mod Octets
pub mod OctetsLaws
pub mod WordLaws
pub mod Write
pub mod Fill
pub mod PutIfRoom
pub mod PutIfRoomLaws
pub mod Space
pub mod Transducer
pub mod Field
pub mod FieldLaws
pub mod Answer
pub mod AnswerLaws
pub mod Reach
pub mod ReachLaws
pub mod Pass
pub mod PassLaws
