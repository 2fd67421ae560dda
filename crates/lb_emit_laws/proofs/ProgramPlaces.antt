-- Where the functions of a program stand in its code.
use Rattle.std.proofs.Common.{◌≡◌, ℕ, zero, suc, ◌+◌, ◌≤◌, List, [], ◌∷◌, length, map, Option, Some, None, refl, ap, ◌∙◌, subst, arith, length-append}
use Rattle.std.proofs.lemmas.List.Sums.{sum_by-cons}
use Rattle.std.specs.Prelude.{slice_get, slice_index, sum}
use Rattle.lb_flat.specs.declared.places.Place.{Place}
use Rattle.lb_flat.specs.Code.{Routine, Executable}
use Rattle.lb_flat.specs.Needs.{placed_routine_words}
use Rattle.lb_flat.specs.Order.{IsEntry, IsPlacedInOrder}
use Rattle.lb_emit_laws.specs.Frames.{frame_of, offsets_of}
use Rattle.lb_emit_laws.specs.Code.{routine_code, routine_words, entries_from, entry_of, boot_code, routines_code, program_code}
use Rattle.lb_emit_laws.specs.Correct.{words_need}
use Rattle.lb_emit_laws.proofs.CodeLengths.{routine_length}
use Rattle.lb_emit_laws.proofs.Ordered.{FitsFrame}
use Rattle.lb_emit_laws.proofs.Places.{AreInRange, HasAt, HasAt-front, HasAt-behind}
use Rattle.lb_emit_laws.proofs.FrameLemmas.{rules_at, routine_fits}
use Rattle.lb_emit_laws.proofs.WordLemmas.{routine_within}
use Rattle.lb_emit_laws.proofs.RangeLemmas.{append_in_range, jump_in_range, routine_in_range}
use Rattle.lb_emit_laws.proofs.CallRuns.{size_within}

-- the words of functions
abbrev pub all_words : List (Routine Place) → ℕ
all_words [] = 0
all_words (h ∷ hs) = routine_words (frame_of h) h + all_words hs

module _ (entry : ℕ → ℕ) where
  pub routines_length : (i : ℕ) (hs : List (Routine Place)) → length (routines_code entry i hs) ≡ all_words hs
  routines_length i [] = refl
  routines_length i (h ∷ hs) =
      let n = routine_words (frame_of h) h in
      length-append (routine_code (frame_of h) entry (offsets_of h) i h) (routines_code entry (i + n) hs)
      ∙ omega (arith, routine_length (frame_of h) entry (offsets_of h) i h, routines_length (i + n) hs)

  pub routines_at : (code : List ℕ) (i : ℕ) (hs : List (Routine Place)) (g : ℕ) (h : Routine Place) → HasAt code i (routines_code entry i hs) → slice_get hs g ≡ Some h
      → HasAt code (slice_index (entries_from i hs) g) (routine_code (frame_of h) entry (offsets_of h) (slice_index (entries_from i hs) g) h)
  routines_at code i [] g h here is = cc
  routines_at code i (k ∷ hs) zero h here is =
      let e : k ≡ h = cc in
      subst (λ (x : Routine Place). HasAt code i (routine_code (frame_of x) entry (offsets_of x) i x)) e
      (HasAt-front code i (routine_code (frame_of k) entry (offsets_of k) i k) (routines_code entry (i + routine_words (frame_of k) k) hs) here)
  routines_at code i (k ∷ hs) (suc g) h here is =
      let n = routine_words (frame_of k) k in
      routines_at code (i + n) hs g h
      (HasAt-behind code i (i + n) n (routine_code (frame_of k) entry (offsets_of k) i k) (routines_code entry (i + n) hs) here (routine_length (frame_of k) entry (offsets_of k) i k) refl) is

  routines_in_range : (fs : List (Routine Place)) (near : (g : ℕ) (h : Routine Place) → slice_get fs g ≡ Some h → entry g ≤ 32768) (i : ℕ) (hs : List (Routine Place))
      → ((k : ℕ) (h : Routine Place) → slice_get hs k ≡ Some h → FitsFrame fs h × ((frame_of h).size ≤ 65536)) → i + all_words hs ≤ 32768 → AreInRange (routines_code entry i hs)
  routines_in_range fs near i [] each low = tt
  routines_in_range fs near i (h ∷ hs) each low =
      let n = routine_words (frame_of h) h in
      let this = each 0 h refl in
      append_in_range (routine_code (frame_of h) entry (offsets_of h) i h) (routines_code entry (i + n) hs)
      (routine_in_range fs entry near i h this.0 this.1 (omega (arith, low)))
      (routines_in_range fs near (i + n) hs (λ k g is. each (suc k) g is) (omega (arith, low)))

pub entry_within : (i : ℕ) (hs : List (Routine Place)) (g : ℕ) (h : Routine Place) → slice_get hs g ≡ Some h → slice_index (entries_from i hs) g + routine_words (frame_of h) h ≤ i + all_words hs
entry_within i [] g h is = cc
entry_within i (k ∷ hs) zero h is = let e : k ≡ h = cc in let w = ap (λ (x : Routine Place). routine_words (frame_of x) x) e in omega (arith, w)
entry_within i (k ∷ hs) (suc g) h is = let rest = entry_within (i + routine_words (frame_of k) k) hs g h is in omega (arith, rest)

pub words_of_one : (hs : List (Routine Place)) (g : ℕ) (h : Routine Place) → slice_get hs g ≡ Some h → routine_words (frame_of h) h ≤ all_words hs
words_of_one [] g h is = cc
words_of_one (k ∷ hs) zero h is = let e : k ≡ h = cc in let w = ap (λ (x : Routine Place). routine_words (frame_of x) x) e in omega (arith, w)
words_of_one (k ∷ hs) (suc g) h is = let rest = words_of_one hs g h is in omega (arith, rest)

all_within : (fs hs : List (Routine Place)) → ((g : ℕ) (h : Routine Place) → slice_get hs g ≡ Some h → FitsFrame fs h) → all_words hs ≤ sum (map placed_routine_words hs)
all_within fs [] each = omega arith
all_within fs (h ∷ hs) each =
    omega (arith, sum_by-cons (λ x. x) (placed_routine_words h) (map placed_routine_words hs), routine_within fs h (each 0 h refl), all_within fs hs (λ g k is. each (suc g) k is))

-- a function that is called from outside
pub record Entry (fs : List (Routine Place)) (g : ℕ) : Type 0 where
  pub routine : Routine Place
  pub is : slice_get fs g ≡ Some routine
  pub no_params : routine.params ≡ []
  pub no_results : routine.results ≡ []

entry_by : (fs : List (Routine Place)) (g : ℕ) (o : Option (Routine Place)) → slice_get fs g ≡ o → IsEntry o → Entry fs g
entry_by fs g None is h = absurd h
entry_by fs g (Some f) is h = record { routine = f; is = is; no_params = h.0; no_results = h.1 }

module _ (p : Executable Place) (order : IsPlacedInOrder p) where
  pub first : Entry p.routines p.init
  first = entry_by p.routines p.init (slice_get p.routines p.init) refl order.rules.init

  pub again : Entry p.routines p.again
  again = entry_by p.routines p.again (slice_get p.routines p.again) refl order.rules.again

  pub code_length : length (program_code p) ≡ 4 + all_words p.routines
  code_length = omega (arith, routines_length (entry_of p.routines) 4 p.routines)

  pub code_within : length (program_code p) ≤ words_need p
  code_within = omega (arith, code_length, all_within p.routines p.routines (λ g h is. routine_fits p g h order is))

  pub code_small : length (program_code p) ≤ 32768
  code_small = omega (arith, code_within, order.rules.code)

  near : (g : ℕ) (h : Routine Place) → slice_get p.routines g ≡ Some h → entry_of p.routines g ≤ 32768
  near g h is = omega (arith, entry_within 4 p.routines g h is, code_length, code_small)

  bounded : (g : ℕ) (h : Routine Place) → slice_get p.routines g ≡ Some h → (frame_of h).size ≤ 65536
  bounded g h is = omega (arith, size_within p.routines h (routine_fits p g h order is), (rules_at p g h order is).0.frame)

  pub code_in_range : AreInRange (program_code p)
  code_in_range =
      let entry = entry_of p.routines in
      append_in_range (boot_code entry p.init p.again) (routines_code entry 4 p.routines) (
        (omega arith, refl, omega arith),
        (
          jump_in_range 1 1 (entry p.init) (omega arith) (omega arith) (near p.init first.routine first.is),
          (
            jump_in_range 1 2 (entry p.again) (omega arith) (omega arith) (near p.again again.routine again.is),
            (jump_in_range 0 3 2 (omega arith) (omega arith) (omega arith), tt),
          ),
        ),
      )
      (routines_in_range entry p.routines near 4 p.routines (λ g h is. (routine_fits p g h order is, bounded g h is)) (omega (arith, code_length, code_small)))
