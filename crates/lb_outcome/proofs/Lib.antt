pub mod RamLemmas
