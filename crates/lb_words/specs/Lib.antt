pub mod Words
pub mod InternalWords
