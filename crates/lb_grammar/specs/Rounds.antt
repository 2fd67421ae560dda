-- The whole rounds of a trace, and what `judge` says.
use Rattle.std.specs.Prelude.{◌≡◌, ℕ, zero, suc, ◌≤◌, ◌⊎◌, List, take}
use Rattle.lb_trace.specs.declared.Event.{Event}
use Rattle.lb_trace.specs.Prefix.{IsPrefix}
use Rattle.lb_grammar.specs.declared.Verdict.{Verdict}
use Rattle.lb_grammar.specs.declared.Verdict.TheVariants.{Prefix, Leaves}
use Rattle.lb_grammar.specs.Forms.{Sequence, Exactly, Is, Begins}
use Rattle.lb_grammar.specs.Grammar.{boot, no_boot, round, no_round, good}

-- the trace begins with boot and n rounds
pub record BeginsWithRounds (n : ℕ) (l : List Event) : Type 0 where
  pub front : List Event
  pub is : Is (Sequence boot (Exactly n round)) front
  pub prefix : IsPrefix front l

-- it has n whole rounds and no more; without a whole boot it has none
pub record HasRounds (n : ℕ) (l : List Event) : Type 0 where
  pub reached : (n ≡ zero) ⊎ BeginsWithRounds n l
  pub most : (m : ℕ) → BeginsWithRounds m l → m ≤ n

-- a way to read a member, with the number of its rounds; what was given up is none
pub data Reading : ℕ → List Event → Type 0 where
  all_whole : {n : ℕ} → {l : List Event} → Is (Sequence boot (Exactly n round)) l → Reading n l
  round_given_up : {n : ℕ} → {l : List Event} → Is (Sequence boot (Sequence (Exactly n round) no_round)) l → Reading n l
  boot_given_up : {l : List Event} → Is no_boot l → Reading zero l

-- the number of whole rounds is settled: each member has a reading, all readings of a member have as many
-- rounds, and these are its whole rounds
pub record RoundsLaw : Type 0 where
  pub read : (l : List Event) → Is good l → (n : ℕ) × Reading n l
  pub good_only : (n : ℕ) (l : List Event) → Reading n l → Is good l
  pub same : (m n : ℕ) (l : List Event) → Reading m l → Reading n l → m ≡ n
  pub counted : (n : ℕ) (l : List Event) → Reading n l → HasRounds n l
  pub unique : (m n : ℕ) (l : List Event) → HasRounds m l → HasRounds n l → m ≡ n

-- the answer says that the trace is a prefix
abbrev pub SaysPrefix : Verdict → Type 0
SaysPrefix (Prefix rounds) = Unit {0}
SaysPrefix (Leaves at) = ⊥

-- it tells the number of whole rounds
abbrev pub TellsRounds : List Event → Verdict → Type 0
TellsRounds l (Prefix rounds) = HasRounds rounds l
TellsRounds l (Leaves at) = Unit {0}

-- it tells the first event with which the trace isn't a prefix any more
abbrev pub TellsPlace : List Event → Verdict → Type 0
TellsPlace l (Prefix rounds) = Unit {0}
TellsPlace l (Leaves at) = Begins good (take at l) × ¬ (Begins good (take (suc at) l))
