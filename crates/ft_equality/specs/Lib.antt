pub mod Results
pub mod Shapes
pub mod Programs
pub mod Comparing
pub mod Matching
pub mod Equality
