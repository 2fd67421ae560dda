pub mod FrameLemmas
pub mod PackedLemmas
pub mod SizeLemmas
