mod Reading
mod Back
mod Heights
