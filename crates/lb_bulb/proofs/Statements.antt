-- What each function of the supplied program does.
use Rattle.std.specs.Prelude.{ℕ, ◌+◌, ◌≤◌, ◌^◌, ◌⊎◌, List, [], ◌∷◌, Some}
use Rattle.lb_syntax.specs.WellFormed.{IsWord}
use Rattle.lb_syntax.specs.declared.layout.FrameLayout.{FrameLayout}
use Rattle.lb_trace.specs.declared.Event.{Event}
use Rattle.lb_source.specs.Maps.{put, no_variables}
use Rattle.lb_source.specs.Run.{State, Caller, run_with, calls}
use Rattle.lb_source.specs.Source.{callables}
use Rattle.lb_grammar.specs.Forms.{Is, Begins}
use Rattle.lb_grammar.specs.Grammar.{no_rd, boot, no_boot, round, no_round, no_wr}
use Rattle.lb_bulb.specs.Supplied.{a_, b_, e_, r_, v_, xchg_body, read_body, write_body, init_body, loop_body, supplied}
use Rattle.lb_bulb.proofs.Does.{AreWords, Does, Gives, Exchange, Cut, XchgOk, Reading, ReadOk, Writing, WriteOk}

abbrev pub XchgLaw : Type 0
XchgLaw =
    (call : Caller) (n : ℕ) (os : List ℕ) (b e : ℕ) (s : State) → AreWords s.replies
    → Does s.trace (Gives (r_ ∷ e_ ∷ []) (Exchange b e) s.memory) (Cut b e) (run_with call n os xchg_body (record s { variables = put e_ (Some e) (put b_ (Some b) no_variables) }))

abbrev pub ReadLaw : Type 0
ReadLaw =
    (call : Caller) → XchgOk call → (n : ℕ) (os : List ℕ) (a : ℕ) (s : State) → AreWords s.replies
    → Does s.trace (Gives (v_ ∷ []) (Reading a) s.memory) (Begins (no_rd a)) (run_with call n os read_body (record s { variables = put a_ (Some a) no_variables }))

abbrev pub WriteLaw : Type 0
WriteLaw =
    (call : Caller) → XchgOk call → (n : ℕ) (os : List ℕ) (a v : ℕ) (s : State) → IsWord v → AreWords s.replies
    → Does s.trace (Gives [] (Writing a v) s.memory) (Begins (no_wr a v)) (run_with call n os write_body (record s { variables = put v_ (Some v) (put a_ (Some a) no_variables) }))

-- the program's own calls, nested at most n deep, whatever the frames
abbrev pub CallsLaw : Type 0
CallsLaw = (f1 f2 f3 f4 f5 : FrameLayout) (n : ℕ) → ReadOk (calls (callables supplied (f1 ∷ f2 ∷ f3 ∷ f4 ∷ f5 ∷ [])) n) × WriteOk (calls (callables supplied (f1 ∷ f2 ∷ f3 ∷ f4 ∷ f5 ∷ [])) n)

-- the appliance was booted
abbrev pub Booted : List ℕ → List Event → Type 0
Booted vs l = Is boot l

abbrev pub InitLaw : Type 0
InitLaw =
    (call : Caller) → ReadOk call → WriteOk call → (n : ℕ) (os : List ℕ) (s : State) → AreWords s.replies
    → Does s.trace (Gives [] Booted s.memory) (Begins no_boot) (run_with call n os init_body (record s { variables = no_variables }))

-- loop's body is a round, or begins one, or begins one that was given up
abbrev pub PartOfRound : List Event → Type 0
PartOfRound l = Begins round l ⊎ Begins no_round l

abbrev pub LoopLaw : Type 0
LoopLaw =
    (call : Caller) → ReadOk call → (n o : ℕ) (s : State) → s.stack + o + 1520 ≤ 2 ^ 32 → AreWords s.replies
    → Does s.trace (λ u l. Is round l) PartOfRound (run_with call n (o ∷ []) loop_body (record s { variables = no_variables }))
