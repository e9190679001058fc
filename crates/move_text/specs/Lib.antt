pub mod Grammar
pub mod Named
pub mod Reading
pub mod Laws
