pub mod PrefixLemmas
pub mod PrefixTest
pub mod ReplyLemmas
pub mod TextLemmas
