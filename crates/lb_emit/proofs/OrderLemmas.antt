-- What a program in order gives the code that emits it.
use Rattle.std.proofs.Common.{◌≡◌, ℕ, suc, ◌+◌, ◌<◌, ◌≤◌, List, [], ◌∷◌, drop, length, map, Option, Some, None, refl, arith}
use Rattle.std.proofs.lemmas.Option.{slice_get_within}
use Rattle.std.proofs.lemmas.List.Sums.{sum_by-cons}
use Rattle.std.specs.Prelude.{slice_get, sum}
use Rattle.lb_syntax.specs.declared.limits.TheConstants.{MOST_WORDS}
use Rattle.lb_syntax.specs.declared.tree.Action.TheVariants.{Read, Write}
use Rattle.lb_flat.specs.declared.places.Place.{Place}
use Rattle.lb_flat.specs.declared.places.Place.TheVariants.{Register, Slot}
use Rattle.lb_flat.specs.Code.{Operation, Constant, Copy, Compute, Load, Store, Call, Access}
use Rattle.lb_flat.specs.Code.{Code, Plain, Reserve, Branch, Loop, Nothing, Sequence, sites, Routine, Executable}
use Rattle.lb_flat.specs.Needs.{placed_routine_words}
use Rattle.lb_flat.specs.Order.{IsEntry, IsPlacedInOrder}
use Rattle.lb_emit_laws.specs.Frames.{Frame, frame_of}
use Rattle.lb_emit_laws.specs.Code.{routine_words, entries_from}
use Rattle.lb_emit_laws.proofs.Ordered.{AreSources, ArePlaceTargets, IsPlainInOrder, InOrder, FitsFrame}
use Rattle.lb_emit_laws.proofs.FrameLemmas.{routine_fits, rules_at}
use Rattle.lb_emit_laws.proofs.WordLemmas.{routine_within}
use Rattle.lb_emit.specs.InternalEmit.{AreEntries, HaveSlots, CanPass, NamesSlots, CallsFunctions}
use Rattle.lb_emit.specs.InternalProgram.{IsReady, AreReady, all_words}

-- ---- commands

source_slots : (f : Frame) (ps : List Place) → AreSources f ps → HaveSlots f.slots ps
source_slots f [] h = tt
source_slots f (Register r ∷ ps) h = source_slots f ps h.1
source_slots f (Slot k ∷ ps) h = (h.0, source_slots f ps h.1)

target_slots : (f : Frame) (ps : List Place) → ArePlaceTargets f ps → HaveSlots f.slots ps
target_slots f [] h = tt
target_slots f (Register r ∷ ps) h = target_slots f ps h.1
target_slots f (Slot k ∷ ps) h = (h.0, target_slots f ps h.1)

module _ (fs : List (Routine Place)) (A : ℕ → Type 0) (f : Frame) where
  plain_slots : (o : Operation) (xs ys : List Place) → IsPlainInOrder fs A f o xs ys → CanPass f.slots xs × CanPass f.slots ys
  plain_slots (Constant v) [] (Register y ∷ []) h = ((omega arith, tt), (omega arith, tt))
  plain_slots Copy (Register x ∷ []) (Register y ∷ []) h = ((omega arith, tt), (omega arith, tt))
  plain_slots Copy (Slot k ∷ []) (Register y ∷ []) h = ((omega arith, (h.0, tt)), (omega arith, tt))
  plain_slots Copy (Register x ∷ []) (Slot k ∷ []) h = ((omega arith, tt), (omega arith, (h.1, tt)))
  plain_slots (Compute op) (Register l ∷ Register r ∷ []) (Register y ∷ []) h = ((omega arith, tt), (omega arith, tt))
  plain_slots (Load w) (Register a ∷ []) (Register y ∷ []) h = ((omega arith, tt), (omega arith, tt))
  plain_slots (Store w) (Register a ∷ Register x ∷ []) [] h = ((omega arith, tt), (omega arith, tt))
  plain_slots (Call g) xs ys h = ((h.2, source_slots f xs h.0), (h.3, target_slots f ys h.1))
  plain_slots (Access Read) (a ∷ []) (y ∷ []) h = ((omega arith, source_slots f (a ∷ []) (h.0, tt)), (omega arith, target_slots f (y ∷ []) (h.1, tt)))
  plain_slots (Access Write) (a ∷ x ∷ []) [] h = ((omega arith, source_slots f (a ∷ x ∷ []) (h.0, (h.1, tt))), (omega arith, tt))
  plain_slots o xs ys h = absurd h

  code_slots : (os : List ℕ) (c : Code Place) → InOrder fs A f os c → NamesSlots f.slots c
  code_slots os (Plain o xs ys) h = plain_slots o xs ys h
  code_slots os (Reserve n y b) h = code_slots (drop 1 os) b h.2
  code_slots os (Branch x b d) h = (code_slots os b h.1, code_slots (drop (length (sites b)) os) d h.2)
  code_slots os (Loop b x d) h = (code_slots os b h.1, code_slots (drop (length (sites b)) os) d h.2)
  code_slots os Nothing h = tt
  code_slots os (Sequence c d) h = (code_slots os c h.0, code_slots (drop (length (sites c)) os) d h.1)

  plain_calls : (o : Operation) (xs ys : List Place) → IsPlainInOrder fs A f o xs ys → CallsFunctions (length fs) (Plain o xs ys)
  plain_calls (Call g) xs ys h = slice_get_within fs g h.5.callee h.5.is
  plain_calls o xs ys h = tt

  code_calls : (os : List ℕ) (c : Code Place) → InOrder fs A f os c → CallsFunctions (length fs) c
  code_calls os (Plain o xs ys) h = plain_calls o xs ys h
  code_calls os (Reserve n y b) h = code_calls (drop 1 os) b h.2
  code_calls os (Branch x b d) h = (code_calls os b h.1, code_calls (drop (length (sites b)) os) d h.2)
  code_calls os (Loop b x d) h = (code_calls os b h.1, code_calls (drop (length (sites b)) os) d h.2)
  code_calls os Nothing h = tt
  code_calls os (Sequence c d) h = (code_calls os c h.0, code_calls (drop (length (sites c)) os) d h.1)

-- ---- functions

module _ (p : Executable Place) (order : IsPlacedInOrder p) where
  ready : (g : ℕ) (h : Routine Place) → slice_get p.routines g ≡ Some h → IsReady (length p.routines) h
  ready g h is =
      let fits = routine_fits p g h order is in
      record {
        part = record {
          params = (fits.param_count, target_slots (frame_of h) h.params fits.params);
          results = (fits.result_count, source_slots (frame_of h) h.results fits.results);
          body = code_slots p.routines _ (frame_of h) _ h.body fits.body;
        };
        functions = code_calls p.routines _ (frame_of h) _ h.body fits.body;
        frame = (rules_at p g h order is).0.frame;
      }

  ready_from : (hs : List (Routine Place)) → ((g : ℕ) (h : Routine Place) → slice_get hs g ≡ Some h → IsReady (length p.routines) h) → AreReady (length p.routines) hs
  ready_from [] each = tt
  ready_from (h ∷ hs) each = (each 0 h refl, ready_from hs (λ g k is. each (suc g) k is))

  -- each function is ready
  pub all_ready : AreReady (length p.routines) p.routines
  all_ready = ready_from p.routines ready

  words_from : (hs : List (Routine Place)) → ((g : ℕ) (h : Routine Place) → slice_get hs g ≡ Some h → FitsFrame p.routines h) → all_words hs ≤ sum (map placed_routine_words hs)
  words_from [] each = omega arith
  words_from (h ∷ hs) each =
      omega (arith, routine_within p.routines h (each 0 h refl), words_from hs (λ g k is. each (suc g) k is), sum_by-cons (λ x. x) (placed_routine_words h) (map placed_routine_words hs))

  -- there is room for all
  pub all_within : 4 + all_words p.routines ≤ MOST_WORDS
  all_within = omega (arith, words_from p.routines (λ g h is. routine_fits p g h order is), order.rules.code)

  entry_there : (o : Option (Routine Place)) (g : ℕ) → slice_get p.routines g ≡ o → IsEntry o → g < length p.routines
  entry_there None g is h = absurd h
  entry_there (Some f) g is h = slice_get_within p.routines g f is

  pub init_there : p.init < length p.routines
  init_there = entry_there (slice_get p.routines p.init) p.init refl order.rules.init

  pub again_there : p.again < length p.routines
  again_there = entry_there (slice_get p.routines p.again) p.again refl order.rules.again

-- ---- entries

pub entries_bounded : (i : ℕ) (hs : List (Routine Place)) → i + all_words hs ≤ MOST_WORDS → AreEntries (entries_from i hs)
entries_bounded i [] h = tt
entries_bounded i (k ∷ hs) h = (omega (arith, h), entries_bounded (i + routine_words (frame_of k) k) hs (omega (arith, h)))

pub entries_length : (i : ℕ) (hs : List (Routine Place)) → length (entries_from i hs) ≡ length hs
entries_length i [] = refl
entries_length i (k ∷ hs) = let rest = entries_length (i + routine_words (frame_of k) k) hs in omega (arith, rest)
