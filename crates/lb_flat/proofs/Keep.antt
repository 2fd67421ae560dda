-- With accepted places a run that does nothing undefined has the same trace and end.
use Rattle.std.proofs.Common.{◌≡◌, ℕ, zero, suc, Bool, true, false, ◌||◌, List, [], ◌∷◌, drop, length, Option, Some, None, refl, subst, slice_get}
use Rattle.std.specs.Prelude.{◌-◌}
use Rattle.lb_syntax.specs.declared.layout.FrameLayout.{FrameLayout}
use Rattle.lb_source.specs.Value.{or_unset}
use Rattle.lb_source.specs.Run.{block_at}
use Rattle.lb_flat.specs.declared.places.Place.{Place}
use Rattle.lb_flat.specs.declared.places.Place.TheVariants.{Slot}
use Rattle.lb_flat.specs.Code.{Code, Plain, Reserve, Branch, Loop, Nothing, Sequence, sites, Routine}
use Rattle.lb_flat.specs.Cells.{Cells, no_cells, put, set_all}
use Rattle.lb_flat.specs.Run.{World, Goes, Caller, values, owned, disowned, run_with, Callable, enter, calls}
use Rattle.lb_flat.specs.Whole.{callable, callables, start, own_slot}
use Rattle.lb_flat.specs.Located.{place_of, located_at}
use Rattle.lb_flat.specs.Walks.{among}
use Rattle.lb_flat.specs.Accepted.{AreAllAccepted}
use Rattle.lb_flat.specs.Liveness.{live_before, live, live_at_end, IsApart, IsApartIn}
use Rattle.lb_flat.specs.Laws.{AcceptedPlacesKeep}
use Rattle.lb_flat.proofs.BooleanLemmas.{Implies, or_left, or_right, live_past}
use Rattle.lb_flat.proofs.PutLemmas.{one_read}
use Rattle.lb_flat.proofs.HeldLemmas.{Held, first_among, set_held, values_held}
use Rattle.lb_flat.proofs.WalkLemmas.{loop_head}
use Rattle.lb_flat.proofs.ApartLemmas.{apart_in}
use Rattle.lb_flat.proofs.Follow.{Follows, both_go, both_stop, then_follows, value_follows, zero_follows, spend_follows, Same, CallsFollow, effect_follows, turns_follow, end_alike, ever_alike}

-- each variable that is live has in its place what it has in flat code
pub record Agrees (cell : ℕ → Place) (is_live : ℕ → Bool) (a b : Cells) : Type 0 where
  pub at : (x : ℕ) → is_live x ≡ true → Held cell x a b

pub fewer_agree : (cell : ℕ → Place) (more less : ℕ → Bool) (a b : Cells) → ((x : ℕ) → Implies (less x) (more x)) → Agrees cell more a b → Agrees cell less a b
fewer_agree cell more less a b h g = record { at = λ x l. g.at x (h x l) }

-- ---- commands

-- what is live before a test of c is live behind it
past_test : (x c : ℕ) (a b : Bool) → Implies a b → Implies a (live_before x (c ∷ []) [] b)
past_test x c a b h l = live_past (among (c ∷ []) x) false b refl (h l)

module _ (cell : ℕ → Place) (call other : Caller) (h : CallsFollow call other) (n : ℕ) where
  -- the variables that are live before code, where `after` says which are behind it
  abbrev before_code : Code ℕ → (ℕ → Bool) → ℕ → Bool
  before_code c after = λ x. live x c (after x)

  -- before a test of c, which reads it
  tested : (c : ℕ) (after : ℕ → Bool) (a b : Cells) → Agrees cell (λ x. live_before x (c ∷ []) [] (after x)) a b → Held cell c a b
  tested c after a b g = g.at c (or_left (among (c ∷ []) c) _ (first_among c []))

  pub follows_run : (offsets : List ℕ) (c : Code ℕ) (after : ℕ → Bool) (a b : Cells) (w : World) → ((x : ℕ) → IsApart cell x c (after x)) → Agrees cell (before_code c after) a b
      → Follows (Agrees cell after) (run_with Slot call n offsets c a w) (run_with cell other n offsets c b w)
  follows_run offsets (Plain o xs ys) after a b w apart g =
      value_follows (Agrees cell after) (values Slot xs a) (values cell xs b) w _ _ (values_held cell xs a b (λ x m. g.at x (or_left (among xs x) _ m)))
      (λ vs e. then_follows Same (Agrees cell after) (λ rs u. Goes (set_all Slot ys rs a) u) (λ rs u. Goes (set_all cell ys rs b) u) (effect_follows call other h o vs w)
      (λ rs qs u same. subst (λ q. Follows (Agrees cell after) (Goes (set_all Slot ys rs a) u) (Goes (set_all cell ys q b) u)) same
      (both_go (record { at = λ x l. set_held cell x ys rs a b (apart x l) (λ no. g.at x (live_past (among xs x) (among ys x) (after x) no l)) }))))
  follows_run offsets (Reserve k y d) after a b w apart g =
      let base = block_at w.stack offsets in
      then_follows (Agrees cell after) (Agrees cell after) (λ c u. Goes c (disowned base k u)) (λ c u. Goes c (disowned base k u))
      (follows_run (drop 1 offsets) d after (put (Slot y) (Some base) a) (put (cell y) (Some base) b) (owned base k w) (λ x. (apart x).1)
      (record { at = λ x l. set_held cell x (y ∷ []) (base ∷ []) a b ((apart x).0 l) (λ no. g.at x (live_past false (among (y ∷ []) x) (live x d (after x)) no l)) }))
      (λ c e u r. both_go r)
  follows_run offsets (Branch c d e) after a b w apart g =
      let yes_or_no : ℕ → Bool = λ x. live x d (after x) || live x e (after x) in
      value_follows (Agrees cell after) (or_unset (a (Slot c))) (or_unset (b (cell c))) w _ _ (one_read (a (Slot c)) (b (cell c)) (tested c yes_or_no a b g))
      (λ v _. zero_follows (Agrees cell after) v _ _ _ _
      (follows_run (drop (length (sites d)) offsets) e after a b w (λ x. (apart x).1)
      (fewer_agree cell _ _ a b (λ x. past_test x c (live x e (after x)) (yes_or_no x) (or_right (live x d (after x)) (live x e (after x)))) g))
      (follows_run offsets d after a b w (λ x. (apart x).0)
      (fewer_agree cell _ _ a b (λ x. past_test x c (live x d (after x)) (yes_or_no x) (or_left (live x d (after x)) (live x e (after x)))) g)))
  follows_run offsets (Loop d c e) after a b w apart g =
      let head : ℕ → Bool = λ x. live x (Loop d c e) (after x) in
      let again : ℕ → Bool = λ x. live x e (head x) || after x in
      let mid : ℕ → Bool = λ x. live_before x (c ∷ []) [] (again x) in
      turns_follow (Agrees cell head) (Agrees cell mid) (Agrees cell (before_code e head)) (Agrees cell after) (λ q. q (Slot c)) (λ q. q (cell c))
      (run_with Slot call n offsets d) (run_with cell other n offsets d) (run_with Slot call n (drop (length (sites d)) offsets) e) (run_with cell other n (drop (length (sites d)) offsets) e)
      (λ a' b' w' k. follows_run offsets d mid a' b' w' (λ x. (apart x).0) (fewer_agree cell head (before_code d mid) a' b' (λ x. loop_head x d e c (after x) (head x) refl) k))
      (λ a' b' k. tested c again a' b' k)
      (λ a' b' k. fewer_agree cell mid after a' b' (λ x. past_test x c (after x) (again x) (or_right (live x e (head x)) (after x))) k)
      (λ a' b' k. fewer_agree cell mid (before_code e head) a' b' (λ x. past_test x c (live x e (head x)) (again x) (or_left (live x e (head x)) (after x))) k)
      (λ a' b' w' k. follows_run (drop (length (sites d)) offsets) e head a' b' w' (λ x. (apart x).1) k)
      n a b w g
  follows_run offsets Nothing after a b w apart g = both_go g
  follows_run offsets (Sequence d e) after a b w apart g =
      then_follows (Agrees cell (before_code e after)) (Agrees cell after) (run_with Slot call n (drop (length (sites d)) offsets) e) (run_with cell other n (drop (length (sites d)) offsets) e)
      (follows_run offsets d (before_code e after) a b w (λ x. (apart x).0) g)
      (λ a' b' u k. follows_run (drop (length (sites d)) offsets) e after a' b' u (λ x. (apart x).1) k)

-- ---- functions

-- one function, with its variables in slots of their own and in places that are apart
pub data Found : Option (Callable ℕ) → Option (Callable ℕ) → Type 0 where
  neither : Found None None
  both : (f : Routine ℕ) (frame : FrameLayout) (cell : ℕ → Place) → ((x : ℕ) → IsApartIn cell f x) → Found (Some (callable f Slot frame)) (Some (callable f cell frame))

found : (fs : List (Routine ℕ)) (lists : List (List Place)) (frames : List FrameLayout) (k : ℕ) → AreAllAccepted fs lists
    → Found (slice_get (callables fs own_slot frames) k) (slice_get (callables fs (located_at lists) frames) k)
found [] [] frames k h = neither
found [] (l ∷ ls) frames k h = absurd h
found (f ∷ fs) [] frames k h = absurd h
found (f ∷ fs) (l ∷ ls) [] k h = neither
found (f ∷ fs) (l ∷ ls) (frame ∷ frames) zero h = both f frame (place_of l) (apart_in (place_of l) f h.0.apart)
found (f ∷ fs) (l ∷ ls) (frame ∷ frames) (suc k) h = found fs ls frames k h.1

enter_follows : (call other : Caller) → CallsFollow call other → (n : ℕ) {o q : Option (Callable ℕ)} → Found o q → (vs : List ℕ) (w : World)
    → Follows Same (enter o (λ g. run_with g.cell call n g.offsets g.body) vs w) (enter q (λ g. run_with g.cell other n g.offsets g.body) vs w)
enter_follows call other h n neither vs w = both_stop
enter_follows call other h n (both f frame cell apart) vs w =
    spend_follows Same w.fuel w _ _ (λ u.
    let t : World = record u { stack = w.stack - frame.size } in
    then_follows (Agrees cell (live_at_end f)) Same _ _
    (follows_run cell call other h n frame.sites f.body (live_at_end f) (set_all Slot f.params vs no_cells) (set_all cell f.params vs no_cells) t (λ x. (apart x).1)
    (record { at = λ x l. set_held cell x f.params vs no_cells no_cells ((apart x).0 l) (λ no v e. cc) }))
    (λ a b t' g. value_follows Same (values Slot f.results a) (values cell f.results b) t' _ _ (values_held cell f.results a b (λ x m. g.at x (or_left (among f.results x) _ m))) (λ rs e. both_go refl)))

calls_follow : (p q : List (Callable ℕ)) → ((k : ℕ) → Found (slice_get p k) (slice_get q k)) → (n : ℕ) → CallsFollow (calls p n) (calls q n)
calls_follow p q h zero f vs w = both_stop
calls_follow p q h (suc n) f vs w = enter_follows (calls p n) (calls q n) (calls_follow p q h n) n (h f) vs w

-- ---- whole programs

pub accepted_places_keep : AcceptedPlacesKeep
accepted_places_keep p places layout fuel replies h =
    let all = calls_follow (callables p.routines own_slot layout.frames) (callables p.routines (located_at places) layout.frames) (λ k. found p.routines places layout.frames k h) (suc fuel) in
    end_alike Same _ _ (all p.init [] (start fuel replies)) (λ w. ever_alike fuel _ _ w (λ u. all p.again [] u))
