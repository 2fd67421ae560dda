-- The prefixes by cases are the prefixes of members.
use Rattle.std.specs.Prelude.{ℕ, ◌<◌, Bool, IsTrue, ◌↔◌, List}
use Rattle.lb_trace.specs.declared.Event.{Event}
use Rattle.lb_trace.specs.Prefix.{IsPrefix}
use Rattle.lb_grammar.specs.Forms.{Form, Nothing, One, Sequence, Exactly, Any, AnyList, Either, Is, Begins}
use Rattle.lb_grammar.specs.Grammar.{xchg, no_xchg, rd, no_rd, wr, no_wr, pins, vain, busy, found, set_up, boot, no_boot, empty, packet, switch, round, no_round, good}

-- the form has a member
abbrev pub HasMember : Form → Type 0
HasMember form = (l : List Event) × Is form l

-- what comes later in a sequence, and what comes several times, can always be brought to an end
abbrev pub CanEnd : Form → Type 0
CanEnd Nothing = Unit {0}
CanEnd (One e) = Unit {0}
CanEnd (Sequence a b) = CanEnd a × CanEnd b × HasMember b
CanEnd (Exactly n a) = CanEnd a × HasMember a
CanEnd (Any test form) = (v : ℕ) → IsTrue (test v) → CanEnd (form v)
CanEnd (AnyList test form) = (vs : List ℕ) → IsTrue (test vs) → CanEnd (form vs)
CanEnd (Either a b) = CanEnd a × CanEnd b

-- a member that the list is a prefix of
pub record IsBegun (form : Form) (l : List Event) : Type 0 where
  pub member : List Event
  pub is : Is form member
  pub prefix : IsPrefix l member

-- the form's prefixes by cases are the prefixes of its members
abbrev pub AreItsPrefixes : Form → Type 0
AreItsPrefixes form = (l : List Event) → Begins form l ↔ IsBegun form l

-- for each form that can be brought to an end, and so for each of the grammar's
pub record PrefixLaw : Type 0 where
  pub every : (form : Form) → CanEnd form → AreItsPrefixes form
  pub exchange : (b r : ℕ) → r < 256 → AreItsPrefixes (xchg b r)
  pub no_exchange : (b : ℕ) → AreItsPrefixes (no_xchg b)
  pub read : (a v : ℕ) → AreItsPrefixes (rd a v)
  pub no_read : (a : ℕ) → AreItsPrefixes (no_rd a)
  pub write : (a v : ℕ) → AreItsPrefixes (wr a v)
  pub no_write : (a v : ℕ) → AreItsPrefixes (no_wr a v)
  pub pin_stores : AreItsPrefixes pins
  pub vain_reads : AreItsPrefixes vain
  pub busy_reads : AreItsPrefixes busy
  pub finds : AreItsPrefixes found
  pub set_ups : AreItsPrefixes set_up
  pub boots : AreItsPrefixes boot
  pub no_boots : AreItsPrefixes no_boot
  pub empty_polls : AreItsPrefixes empty
  pub packets : (s : ℕ) (ws : List ℕ) → AreItsPrefixes (packet s ws)
  pub switches : (c : Bool) → AreItsPrefixes (switch c)
  pub rounds : AreItsPrefixes round
  pub no_rounds : AreItsPrefixes no_round
  pub whole : AreItsPrefixes good
