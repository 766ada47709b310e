-- A tape counted: its number, its characters by font number, its lead (document 02, "The cabinet in numbers").
pub mod Figures
pub mod Counting
pub mod LeadLaws
pub mod FiguresLaws
