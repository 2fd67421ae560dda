pub mod FormatLemmas
pub mod TableLemmas
pub mod ImmediateLemmas
pub mod FoundLemmas
pub mod DecodingLemmas
