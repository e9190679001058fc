pub mod Cursor
pub mod Printed
pub mod Scoped
