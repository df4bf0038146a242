pub mod Cutting
pub mod Numerals
pub mod Unspaced
mod Shown
