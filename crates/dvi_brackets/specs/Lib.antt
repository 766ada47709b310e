-- PUSH and POP of a DVI file of 1980 read as brackets (document 02): the definition, that it is the reading with a stack, and the tree of a well-bracketed run.
pub mod Brackets
pub mod Tree
pub mod Reading
