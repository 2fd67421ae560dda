pub mod FrameLemmas
pub mod PhaseLemmas
pub mod WorkedRows
