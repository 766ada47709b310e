mod Passes
mod Results
