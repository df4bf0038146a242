pub mod Code
pub mod Tree
pub mod Decoding
pub mod Encoding
pub mod Ends
