pub mod RowLemmas
pub mod PinLemmas
pub mod ScriptLemmas
pub mod WorkedRows
