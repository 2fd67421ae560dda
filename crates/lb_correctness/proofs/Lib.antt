pub mod WordLemmas
pub mod ReplyLemmas
pub mod ImageLemmas
pub mod MachineLemmas
