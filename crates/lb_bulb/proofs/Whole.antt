-- The whole run.
use Rattle.std.proofs.Common.{◌≡◌, ℕ, zero, suc, ◌+◌, ◌-◌, ◌≤◌, ◌<◌, ◌^◌, inl, inr, List, [], ◌∷◌, ◌++◌, length, refl, sym, ap, ◌∙◌, subst, arith, append-nil, append_assoc, slice_index, codes}
use Rattle.std.specs.List.{AllByRecursion}
use Rattle.std.proofs.lemmas.List.Elements.{recursion_from_All}
use Rattle.lb_syntax.specs.Tree.{Procedure}
use Rattle.lb_syntax.specs.WellFormed.{IsWord}
use Rattle.lb_syntax.specs.Needs.{frame_need}
use Rattle.lb_syntax.specs.Layouts.{IsFrameOf, AreFramesOf}
use Rattle.lb_syntax.specs.declared.layout.FrameLayout.{FrameLayout}
use Rattle.lb_trace.specs.declared.Event.{Event}
use Rattle.lb_source.specs.Maps.{no_variables}
use Rattle.lb_source.specs.Run.{State, Outcome, Goes, Stops, then_do, spend, Callable, calls, run_with}
use Rattle.lb_source.specs.Source.{callables, start, call_of, to_end, for_ever, whole}
use Rattle.lb_grammar.specs.Forms.{Sequence, any_number, none, Is, Begins}
use Rattle.lb_grammar.specs.Grammar.{boot, no_boot, round, no_round, good}
use Rattle.lb_bulb.proofs.FormLemmas.{times_more}
use Rattle.lb_bulb.proofs.FormLemmas.{member_begins}
use Rattle.lb_bulb.specs.Supplied.{loop_body, supplied, function}
use Rattle.lb_bulb.proofs.Does.{AreWords, Does, goes, stops, Gives}
use Rattle.lb_bulb.proofs.Statements.{Booted, LoopLaw, PartOfRound}
use Rattle.lb_bulb.specs.Laws.{KeepsGrammar, NeverGoesWrong}
use Rattle.lb_bulb.proofs.Rules.{Whole, Part}
use Rattle.lb_bulb.proofs.Calls.{program, read_ok, write_ok}
use Rattle.lb_bulb.proofs.InitRuns.{init_runs}
use Rattle.lb_bulb.proofs.RoundRuns.{loop_runs}

-- ---- replies

are_words : (vs : List ℕ) → AllByRecursion IsWord vs → AreWords vs
are_words [] h = tt
are_words (v ∷ vs) h = (h.0, are_words vs h.1)

-- ---- calls from outside

-- back outside, with the stack as it was
pub record Back (a : List Event → Type 0) (stack : ℕ) (u : State) (l : List Event) : Type 0 where
  pub is : a l
  pub stack_kept : u.stack ≡ stack

called : (s : State) (t : List Event) (w : Whole) (a : List Event → Type 0) (p : Part) (o : Outcome) → ((u : State) (l : List Event) → w u l → a l) → Does t w p o
    → Does t (Back a s.stack) p (then_do o (λ u. Goes (record u { variables = s.variables; stack = s.stack })))
called s t w a p (Goes u) f (goes l e ws h) = goes l e ws (record { is = f u l h; stack_kept = refl })
called s t w a p (Stops u end) f (stops l e h d) = stops l e h d

outside : (s : State) (f : ℕ) (w : Whole) (p : Part) (go : State → Outcome) → p [] → ((k : ℕ) → Does s.trace w p (go (record s { fuel = k }))) → Does s.trace w p (spend f s go)
outside s zero w p go h k = stops [] (sym (append-nil s.trace)) h tt
outside s (suc f) w p go h k = k f

-- ---- the grammar's ends

boots_begin : Begins no_boot []
boots_begin = inl (inl (inl (inl refl)))

round_begins : Begins no_round []
round_begins = inl (inl (inl refl))

abbrev Rounds : List Event → Type 0
Rounds = Is (Sequence boot (any_number round))

booted : (l : List Event) → Is boot l → Rounds l
booted l h = record { front = l; back = []; first = h; second = (0, refl, none refl); whole = sym (append-nil l) }

rounds_more : (l m : List Event) → Rounds l → Is round m → Rounds (l ++ m)
rounds_more l m j h =
    record {
      front = j.front;
      back = j.back ++ m;
      first = j.first;
      second = (suc j.second.0, refl, times_more j.second.0 (Is round) j.back m j.second.2 h);
      whole = ap (λ (q : List Event). q ++ m) j.whole ∙ append_assoc j.front j.back m;
    }

rounds_good : (l : List Event) → Rounds l → Begins good l
rounds_good l j = inl (member_begins (Sequence boot (any_number round)) l j)

part_good : (l m : List Event) → Rounds l → PartOfRound m → Begins good (l ++ m)
part_good l m j (inl h) =
    let below : j.second.0 < suc j.second.0 = omega arith in
    let e : l ++ m ≡ j.front ++ (j.back ++ m) = ap (λ (q : List Event). q ++ m) j.whole ∙ append_assoc j.front j.back m in
    inl (inr (record {
      front = j.front;
      back = j.back ++ m;
      first = j.first;
      second = (suc j.second.0, refl, inr (record { count = j.second.0; below = below; parts = record { front = j.back; back = m; first = j.second.2; second = h; whole = refl } }));
      whole = e;
    }))
part_good l m j (inr h) =
    let e : l ++ m ≡ j.front ++ (j.back ++ m) = ap (λ (q : List Event). q ++ m) j.whole ∙ append_assoc j.front j.back m in
    inr (inr (inr (record { front = j.front; back = j.back ++ m; first = j.first; second = inr (record { front = j.back; back = m; first = j.second; second = h; whole = refl }); whole = e })))

-- ---- for ever

module _ (f1 f2 f3 f4 f5 : FrameLayout) (o : ℕ) (one_site : f5.sites ≡ o ∷ []) (room : 0x40000 - f5.size + o + 1520 ≤ 2 ^ 32) (loops : LoopLaw) (n : ℕ) where
  abbrev p : List Callable
  p = program f1 f2 f3 f4 f5

  init_called : (s : State) → AreWords s.replies → Does s.trace (Back (Is boot) s.stack) (Begins no_boot) (call_of p n (codes "init") s)
  init_called s ws =
      outside s s.fuel (Back (Is boot) s.stack) (Begins no_boot) _ boots_begin (λ k.
      called s s.trace (Gives [] Booted s.memory) (Is boot) (Begins no_boot) _ (λ u l g. g.is)
      (init_runs (calls p n) (read_ok f1 f2 f3 f4 f5 n) (write_ok f1 f2 f3 f4 f5 n) n f4.sites (record s { stack = s.stack - f4.size; fuel = k }) ws))

  loop_called : (s : State) → s.stack ≡ 0x40000 → AreWords s.replies → Does s.trace (Back (Is round) s.stack) PartOfRound (call_of p n (codes "loop") s)
  loop_called s e ws =
      outside s s.fuel (Back (Is round) s.stack) PartOfRound _ (inr round_begins) (λ k.
      called s s.trace (λ u l. Is round l) (Is round) PartOfRound _ (λ u l h. h)
      (subst (λ (os : List ℕ). Does s.trace (λ u l. Is round l) PartOfRound (run_with (calls p n) n os loop_body (record s { variables = no_variables; stack = s.stack - f5.size; fuel = k }))) (sym one_site)
      (loops (calls p n) (read_ok f1 f2 f3 f4 f5 n) n o (record s { stack = s.stack - f5.size; fuel = k }) (omega (arith, room, e)) ws)))

  -- the next call of loop, by what it does
  mutual_step : (k : ℕ) (s : State) (l : List Event) (c : Outcome) → s.trace ≡ l → s.stack ≡ 0x40000 → Rounds l → Does s.trace (Back (Is round) s.stack) PartOfRound c
      → ((u : State) (m : List Event) → u.trace ≡ m → u.stack ≡ 0x40000 → AreWords u.replies → Rounds m → KeepsGrammar (for_ever k (call_of p n (codes "loop")) u))
      → KeepsGrammar (to_end c (for_ever k (call_of p n (codes "loop"))))
  mutual_step k s l (Goes u) e z j (goes m y ws h) go = go u (l ++ m) (y ∙ ap (λ (q : List Event). q ++ m) e) (h.stack_kept ∙ z) ws (rounds_more l m j h.is)
  mutual_step k s l (Stops x end) e z j (stops m y h d) go = record { defined = d; begins = subst (λ (q : List Event). Begins good q) (sym (y ∙ ap (λ (q : List Event). q ++ m) e)) (part_good l m j h) }

  ever : (k : ℕ) (s : State) (l : List Event) → s.trace ≡ l → s.stack ≡ 0x40000 → AreWords s.replies → Rounds l → KeepsGrammar (for_ever k (call_of p n (codes "loop")) s)
  ever zero s l e z ws j = record { defined = tt; begins = subst (λ (q : List Event). Begins good q) (sym e) (rounds_good l j) }
  ever (suc k) s l e z ws j = mutual_step k s l (call_of p n (codes "loop") s) e z j (loop_called s z ws) (λ u m a b c d. ever k u m a b c d)

  whole_step : (s : State) (c : Outcome) → s.trace ≡ [] → s.stack ≡ 0x40000 → Does s.trace (Back (Is boot) s.stack) (Begins no_boot) c → KeepsGrammar (to_end c (for_ever n (call_of p n (codes "loop"))))
  whole_step s (Goes u) e z (goes m y ws h) = ever n u m (y ∙ ap (λ (q : List Event). q ++ m) e) (h.stack_kept ∙ z) ws (booted m h.is)
  whole_step s (Stops x end) e z (stops m y h d) = record { defined = d; begins = subst (λ (q : List Event). Begins good q) (sym (y ∙ ap (λ (q : List Event). q ++ m) e)) (inr (inl h)) }

  pub whole_keeps : (s : State) → s.trace ≡ [] → s.stack ≡ 0x40000 → AreWords s.replies → KeepsGrammar (whole p n s)
  whole_keeps s e z ws = whole_step s (call_of p n (codes "init") s) e z (init_called s ws)

-- ---- a valid layout

record OneSite (frame : FrameLayout) : Type 0 where
  offset : ℕ
  is : frame.sites ≡ offset ∷ []

one_site_of : (xs : List ℕ) → length xs ≡ 1 → (o : ℕ) × (xs ≡ o ∷ [])
one_site_of [] h = absurd (omega (arith, h))
one_site_of (o ∷ []) h = (o, refl)
one_site_of (o ∷ x ∷ xs) h = absurd (omega (arith, h))

abbrev loop_function : Procedure
loop_function = function (codes "loop") [] [] loop_body

loop_frame : frame_need loop_function ≡ 1708
loop_frame = refl

fits_below : (frame : FrameLayout) (o : ℕ) → frame.sites ≡ o ∷ [] → IsFrameOf frame loop_function → 0x40000 - frame.size + o + 1520 ≤ 2 ^ 32
fits_below frame o e h =
    let inside : slice_index frame.sites 0 + 1520 ≤ frame.size = h.inside 0 (omega arith) in
    let place : slice_index frame.sites 0 ≡ o = ap (λ (xs : List ℕ). slice_index xs 0) e in
    let small : frame.size ≤ 1708 = subst (λ (q : ℕ). frame.size ≤ q) loop_frame h.small in
    omega (arith, inside, place, small)

frames_keep : LoopLaw → (frames : List FrameLayout) (fuel : ℕ) (replies : List ℕ) → AreFramesOf frames supplied → AreWords replies → KeepsGrammar (whole (callables supplied frames) fuel (start fuel replies))
frames_keep loops (f1 ∷ f2 ∷ f3 ∷ f4 ∷ f5 ∷ []) fuel replies h ws =
    let frame : IsFrameOf f5 loop_function = h.1.1.1.1.0 in
    let one : (o : ℕ) × (f5.sites ≡ o ∷ []) = one_site_of f5.sites frame.offset_each in
    whole_keeps f1 f2 f3 f4 f5 one.0 one.1 (fits_below f5 one.0 one.1 frame) loops fuel (start fuel replies) refl refl ws
frames_keep loops [] fuel replies h ws = absurd h
frames_keep loops (f1 ∷ []) fuel replies h ws = absurd h.1
frames_keep loops (f1 ∷ f2 ∷ []) fuel replies h ws = absurd h.1.1
frames_keep loops (f1 ∷ f2 ∷ f3 ∷ []) fuel replies h ws = absurd h.1.1.1
frames_keep loops (f1 ∷ f2 ∷ f3 ∷ f4 ∷ []) fuel replies h ws = absurd h.1.1.1.1
frames_keep loops (f1 ∷ f2 ∷ f3 ∷ f4 ∷ f5 ∷ f6 ∷ fs) fuel replies h ws = absurd h.1.1.1.1.1

pub never_wrong : NeverGoesWrong
never_wrong layout fuel replies h ws = frames_keep loop_runs layout.frames fuel replies h (are_words replies (recursion_from_All IsWord replies ws))
