mod BlockLemmas
mod BitLemmas
mod SeparationLemmas
mod NameLemmas
mod OwnLemmas
mod ServedLemmas
mod AcceptLemmas
