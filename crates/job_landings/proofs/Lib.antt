pub mod Serving
pub mod Open
pub mod Naming
pub mod Newest
pub mod Splitting
pub mod Landing
