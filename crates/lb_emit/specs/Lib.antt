pub mod InternalFrame
pub mod InternalEmit
pub mod InternalProgram
