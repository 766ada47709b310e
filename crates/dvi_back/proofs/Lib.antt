mod Items
mod Passes
