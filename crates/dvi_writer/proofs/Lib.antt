mod Galleys
mod Passes
mod Results
