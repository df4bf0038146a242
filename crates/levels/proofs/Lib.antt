pub mod Examples
pub mod Walks
