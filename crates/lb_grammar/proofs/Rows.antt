-- Worked traces, by computing.
use Rattle.std.proofs.Common.{◌≡◌, ℕ, List, [], ◌∷◌, ◌++◌, replicate, refl}
use Rattle.lb_trace.specs.declared.Event.{Event}
use Rattle.lb_trace.specs.declared.Event.TheVariants.{Ld, St}
use Rattle.lb_grammar.specs.declared.exchange.Exchange.TheVariants.{Answer}
use Rattle.lb_grammar.specs.declared.transfer.Transfer.TheVariants.{Sending}
use Rattle.lb_grammar.specs.declared.boot.Booting.TheVariants.{ByteTest}
use Rattle.lb_grammar.specs.declared.progress.Progress.TheVariants.{Within, Off}
use Rattle.lb_grammar.specs.declared.judging.Judging.TheVariants.{Boot, Still}
use Rattle.lb_grammar.specs.InternalJudging.{judged}

abbrev pins_then : List Event → List Event
pins_then l = St 0x10012038 0x3C ∷ St 0x10012008 0x800000 ∷ l

abbrev polls : ℕ → List Event
polls n = replicate n (Ld 0x10024048 0x80000000)

abbrev selected : List Event → List Event
selected l = St 0x10024018 2 ∷ l

-- 1,000 polls in vain and the end of the transaction
pub given_up : judged (pins_then (selected (polls 1000 ++ St 0x10024018 0 ∷ []))) ≡ Within (Still 0)
given_up = refl

-- nothing may follow
pub nothing_follows : judged (pins_then (selected (polls 1000 ++ St 0x10024018 0 ∷ Ld 0x10024048 0 ∷ []))) ≡ Off
nothing_follows = refl

-- one poll too few
pub too_few : judged (pins_then (selected (polls 999 ++ St 0x10024018 0 ∷ []))) ≡ Off
too_few = refl

-- a first byte is sent
pub first_byte : judged (pins_then (selected (Ld 0x10024048 0 ∷ St 0x10024048 0x0B ∷ []))) ≡ Within (Boot (ByteTest 999 (Sending 0 0 (Answer 999))))
first_byte = refl

-- another one isn't
pub other_byte : judged (pins_then (selected (Ld 0x10024048 0 ∷ St 0x10024048 0x0C ∷ []))) ≡ Off
other_byte = refl

-- another pin is set
pub other_pin : judged (St 0x10012038 0x3D ∷ []) ≡ Off
other_pin = refl
