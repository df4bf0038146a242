pub mod Book
pub mod Places
pub mod Lists
pub mod Limited
pub mod Made
pub mod ListLaws
