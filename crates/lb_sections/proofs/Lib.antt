pub mod CutLemmas
pub mod SectionLemmas
