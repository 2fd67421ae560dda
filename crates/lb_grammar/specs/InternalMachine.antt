-- Machines that read each event once. Cited by private contracts alone.
use Rattle.std.specs.Prelude.{ℕ, zero, suc, List, [], ◌∷◌}
use Rattle.lb_trace.specs.declared.Event.{Event}
use Rattle.lb_grammar.specs.declared.progress.Progress.{Progress}
use Rattle.lb_grammar.specs.declared.progress.Progress.TheVariants.{Within, Done, Off}
use Rattle.lb_grammar.specs.Forms.{Lists}

-- the progress of a machine within another one: how its states stand there, and what its end leads to
abbrev pub inside : {S X T Y : Type 0} → (S → T) → (X → Progress T Y) → Progress S X → Progress T Y
inside into next (Within s) = Within (into s)
inside into next (Done x) = next x
inside into next Off = Off

-- after a try in vain: the wait goes on while tries are left, else it is given up
abbrev pub again : {S X : Type 0} → ℕ → (ℕ → S) → X → Progress S X
again zero wait given_up = Done given_up
again (suc n) wait given_up = Within (wait n)

-- where a list leads
abbrev pub runs : {S X : Type 0} → (S → Event → Progress S X) → Progress S X → List Event → Progress S X
runs step p [] = p
runs step (Within s) (e ∷ l) = runs step (step s e) l
runs step (Done x) (e ∷ l) = Off
runs step Off (e ∷ l) = Off

-- the lists that lead to a state at which they may stop, or to an end and from there on go on in its way
abbrev pub Reads : {S X : Type 0} → (S → Event → Progress S X) → (S → Type 0) → (X → Lists) → Progress S X → Lists
Reads step stops next (Within s) [] = stops s
Reads step stops next (Within s) (e ∷ l) = Reads step stops next (step s e) l
Reads step stops next (Done x) l = next x l
Reads step stops next Off l = ⊥

-- no state to stop at
abbrev pub Nowhere : {S : Type 0} → S → Type 0
Nowhere s = ⊥
