pub mod Form
pub mod Views
