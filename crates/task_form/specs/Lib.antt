pub mod Lists
pub mod Denoted
pub mod Questions
pub mod Form
pub mod Reading
pub mod Spelling
pub mod Grammar
pub mod Laws
