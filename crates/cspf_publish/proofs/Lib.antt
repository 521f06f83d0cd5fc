pub mod FitTest
pub mod ShapeChanges
pub mod Steps
