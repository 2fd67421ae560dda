-- Places are apart by recursion on the tree exactly where they are on each walk.
use Rattle.std.proofs.Common.{◌≡◌, ℕ, Bool, true, false, ◌||◌, List, [], ◌∷◌, ◌++◌, refl, sym, ap, ◌∙◌, subst}
use Rattle.lb_flat.specs.declared.places.Place.{Place}
use Rattle.lb_flat.specs.Code.{Code, Plain, Reserve, Branch, Loop, Nothing, Sequence, Routine}
use Rattle.lb_flat.specs.Walks.{Step, step, IsWalk, does, reserves, takes_yes, takes_no, leaves, goes_round, ends, follows, IsWalkOf, through}
use Rattle.lb_flat.specs.Accepted.{KeepsApart}
use Rattle.lb_flat.specs.Liveness.{live_before, live, live_at_end, Apart, IsApart, IsApartIn}
use Rattle.lb_flat.specs.Laws.{LivenessIsByWalks}
use Rattle.lb_flat.proofs.BooleanLemmas.{Implies, or_left, or_right, or_second}
use Rattle.lb_flat.proofs.WalkLemmas.{lives_on, read_first, lives_append, before_more, lives_more, walk_lives, Shown, shown}

module _ (place : ℕ → Place) (x : ℕ) where
  -- apart at each setting of a walk
  abbrev pub IsApartOn : List Step → Bool → Type 0
  IsApartOn [] after = Unit {0}
  IsApartOn (s ∷ w) after = Apart place x s.sets (lives_on x w after) × IsApartOn w after

  apart_less : (sets : List ℕ) (a b : Bool) → Implies a b → Apart place x sets b → Apart place x sets a
  apart_less sets a b h k = λ e. k (h e)

  none_set : (a : Bool) → Apart place x [] a
  none_set a = λ e u m. cc

  -- with less live behind the walk
  walk_less : (w : List Step) (a b : Bool) → Implies a b → IsApartOn w b → IsApartOn w a
  walk_less [] a b h k = tt
  walk_less (s ∷ w) a b h k = (apart_less s.sets (lives_on x w a) (lives_on x w b) (lives_more x w a b h) k.0, walk_less w a b h k.1)

  join : (w v : List Step) (after : Bool) → IsApartOn w (lives_on x v after) → IsApartOn v after → IsApartOn (w ++ v) after
  join [] v after h k = k
  join (s ∷ w) v after h k = (subst (λ q. Apart place x s.sets q) (sym (lives_append x w v after)) h.0, join w v after h.1 k)

  front : (w v : List Step) (after : Bool) → IsApartOn (w ++ v) after → IsApartOn w (lives_on x v after)
  front [] v after h = tt
  front (s ∷ w) v after h = (subst (λ q. Apart place x s.sets q) (lives_append x w v after) h.0, front w v after h.1)

  back : (w v : List Step) (after : Bool) → IsApartOn (w ++ v) after → IsApartOn v after
  back [] v after h = h
  back (s ∷ w) v after h = back w v after h.1

  -- ---- from the tree to walks

  pub on_walk : {c : Code ℕ} {w : List Step} → IsWalk c w → (after : Bool) → IsApart place x c after → IsApartOn w after
  on_walk does after h = (h, tt)
  on_walk (reserves {n} {y} {b} {w} k) after h =
      (apart_less (y ∷ []) (lives_on x w after) (live x b after) (walk_lives k x after) h.0, on_walk k after h.1)
  on_walk (takes_yes k) after h = (none_set _, on_walk k after h.0)
  on_walk (takes_no k) after h = (none_set _, on_walk k after h.1)
  on_walk (leaves {c} {b} {d} {w} k) after h =
      let turn = live x d (live x (Loop b c d) after) in
      let mid = live_before x (c ∷ []) [] (turn || after) in
      join w (step (c ∷ []) [] ∷ []) after
      (walk_less w (live_before x (c ∷ []) [] after) mid (before_more x (c ∷ []) [] after (turn || after) (or_right turn after)) (on_walk k mid h.0))
      (none_set _, tt)
  on_walk (goes_round {c} {b} {d} {w} {v} {u} kw kv ku) after h =
      let head = live x (Loop b c d) after in
      let mid = live_before x (c ∷ []) [] (live x d head || after) in
      let on = lives_on x (v ++ u) after in
      let turn : Implies on (live x d head || after) =
      λ t. or_left (live x d head) after
      (walk_lives kv x head (lives_more x v (lives_on x u after) head (walk_lives ku x after) (sym (lives_append x v u after) ∙ t))) in
      join w (step (c ∷ []) [] ∷ (v ++ u)) after
      (walk_less w (live_before x (c ∷ []) [] on) mid (before_more x (c ∷ []) [] on (live x d head || after) turn) (on_walk kw mid h.0))
      (none_set _, join v u after (walk_less v (lives_on x u after) head (walk_lives ku x after) (on_walk kv head h.1)) (on_walk ku after h))
  on_walk ends after h = tt
  on_walk (follows {c} {d} {w} {v} kw kv) after h =
      join w v after (walk_less w (lives_on x v after) (live x d after) (walk_lives kv x after) (on_walk kw (live x d after) h.0)) (on_walk kv after h.1)

  -- ---- from walks to the tree

  pub by_walks : (c : Code ℕ) (after : Bool) → ((w : List Step) → IsWalk c w → IsApartOn w after) → IsApart place x c after
  by_walks (Plain o xs ys) after h = (h (step xs ys ∷ []) does).0
  by_walks (Reserve n y b) after h =
      let k = shown x b after in (
        apart_less (y ∷ []) (live x b after) (lives_on x k.walk after) k.tells (h (step [] (y ∷ []) ∷ k.walk) (reserves k.is)).0,
        by_walks b after (λ w j. (h (step [] (y ∷ []) ∷ w) (reserves j)).1),
      )
  by_walks (Branch c b d) after h =
      (by_walks b after (λ w j. (h (step (c ∷ []) [] ∷ w) (takes_yes j)).1), by_walks d after (λ w j. (h (step (c ∷ []) [] ∷ w) (takes_no j)).1))
  by_walks (Loop b c d) after h = (by_walks b mid in_head, by_walks d head in_body)
    where
      head : Bool
      head = live x (Loop b c d) after

      mid : Bool
      mid = live_before x (c ∷ []) [] (live x d head || after)

      rest : Shown x (Loop b c d) after
      rest = shown x (Loop b c d) after

      turn : Shown x d head
      turn = shown x d head

      first : Shown x b false
      first = shown x b false

      -- another turn of the body, and then the rest
      tail : List Step
      tail = turn.walk ++ rest.walk

      tail_lives : Implies (live x d head) (lives_on x tail after)
      tail_lives t = lives_append x turn.walk rest.walk after ∙ lives_more x turn.walk head (lives_on x rest.walk after) rest.tells (turn.tells t)

      in_body : (v : List Step) → IsWalk d v → IsApartOn v head
      in_body v j =
          let all = h (first.walk ++ step (c ∷ []) [] ∷ (v ++ rest.walk)) (goes_round first.is j rest.is) in
          walk_less v head (lives_on x rest.walk after) rest.tells (front v rest.walk after (back first.walk (step (c ∷ []) [] ∷ (v ++ rest.walk)) after all).1)

      in_head : (w : List Step) → IsWalk b w → IsApartOn w mid
      in_head w j = either (live x d head) refl
        where
          either : (q : Bool) → live x d head ≡ q → IsApartOn w mid
          either true e =
              walk_less w mid (live_before x (c ∷ []) [] (lives_on x tail after))
              (before_more x (c ∷ []) [] (live x d head || after) (lives_on x tail after) (λ t. tail_lives e))
              (front w (step (c ∷ []) [] ∷ tail) after (h (w ++ step (c ∷ []) [] ∷ tail) (goes_round j turn.is rest.is)))
          either false e =
              walk_less w mid (live_before x (c ∷ []) [] after)
              (before_more x (c ∷ []) [] (live x d head || after) after (or_second (live x d head) after e))
              (front w (step (c ∷ []) [] ∷ []) after (h (w ++ step (c ∷ []) [] ∷ []) (leaves j)))
  by_walks Nothing after h = tt
  by_walks (Sequence c d) after h =
      let k = shown x d after in
      let j = shown x c (live x d after) in (
        by_walks c (live x d after) (λ w i. walk_less w (live x d after) (lives_on x k.walk after) k.tells (front w k.walk after (h (w ++ k.walk) (follows i k.is)))),
        by_walks d after (λ v i. back j.walk v after (h (j.walk ++ v) (follows j.is i))),
      )

  -- ---- walks, cut at a setting

  cut : (past future : List Step) (s : Step) → IsApartOn (past ++ s ∷ future) false → Apart place x s.sets (lives_on x future false)
  cut [] future s h = h.0
  cut (p ∷ past) future s h = cut past future s h.1

  by_cuts : (w : List Step) → ((past future : List Step) (s : Step) → past ++ s ∷ future ≡ w → Apart place x s.sets (lives_on x future false)) → IsApartOn w false
  by_cuts [] h = tt
  by_cuts (s ∷ w) h = (h [] w s refl, by_cuts w (λ past future t e. h (s ∷ past) future t (ap (λ l. s ∷ l) e)))

-- ---- a function

module _ (place : ℕ → Place) (f : Routine ℕ) (x : ℕ) where
  on_whole_walk : IsApartIn place f x → {w : List Step} → IsWalkOf f w → IsApartOn place x w false
  on_whole_walk h (through {w} k) =
      let tail = step f.results [] ∷ [] in
      let end = live_at_end f x in (
        subst (λ q. Apart place x f.params q) (sym (lives_append x w tail false)) (apart_less place x f.params (lives_on x w end) (live x f.body end) (walk_lives k x end) h.0),
        join place x w tail false (on_walk place x k end h.1) (none_set place x _, tt),
      )

  by_whole_walks : ((w : List Step) → IsWalkOf f w → IsApartOn place x w false) → IsApartIn place f x
  by_whole_walks h =
      let tail = step f.results [] ∷ [] in
      let end = live_at_end f x in
      let k = shown x f.body end in (
        apart_less place x f.params (live x f.body end) (lives_on x k.walk end) k.tells (subst (λ q. Apart place x f.params q) (lives_append x k.walk tail false) (h _ (through k.is)).0),
        by_walks place x f.body end (λ w j. front place x w tail false (h _ (through j)).1),
      )

pub keeps_apart : (place : ℕ → Place) (f : Routine ℕ) → ((x : ℕ) → IsApartIn place f x) → KeepsApart place f
keeps_apart place f h past future s u x k m l ne = cut place x past future s (on_whole_walk place f x (h x) k) (sym (read_first x future) ∙ l) u m ne

pub apart_in : (place : ℕ → Place) (f : Routine ℕ) → KeepsApart place f → (x : ℕ) → IsApartIn place f x
apart_in place f h x =
    by_whole_walks place f x (λ w k. by_cuts place x w (λ past future s e l u m ne.
    h past future s u x (subst (λ (v : List Step). IsWalkOf f v) (sym e) k) m (read_first x future ∙ l) ne))

pub liveness_is_by_walks : LivenessIsByWalks
liveness_is_by_walks place f = (keeps_apart place f, apart_in place f)
