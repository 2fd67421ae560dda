-- Liveness by recursion on the tree is liveness by walks.
use Rattle.std.proofs.Common.{◌≡◌, ℕ, Bool, true, false, ◌||◌, List, [], ◌∷◌, ◌++◌, refl, sym, ap, ◌∙◌}
use Rattle.lb_flat.specs.Code.{Code, Plain, Reserve, Branch, Loop, Nothing, Sequence}
use Rattle.lb_flat.specs.Walks.{Step, step, IsWalk, does, reserves, takes_yes, takes_no, leaves, goes_round, ends, follows, among, is_read_first}
use Rattle.lb_flat.specs.Liveness.{live_before, live}
use Rattle.lb_flat.proofs.BooleanLemmas.{Implies, or_left, or_right, or_second, or_both, live_more}

-- the variable is live at the beginning of a walk, where `after` says whether it is at its end
abbrev pub lives_on : ℕ → List Step → Bool → Bool
lives_on x [] after = after
lives_on x (s ∷ w) after = live_before x s.reads s.sets (lives_on x w after)

pub read_first : (x : ℕ) (w : List Step) → is_read_first x w ≡ lives_on x w false
read_first x [] = refl
read_first x (s ∷ w) = ap (λ q. live_before x s.reads s.sets q) (read_first x w)

pub lives_append : (x : ℕ) (w v : List Step) (after : Bool) → lives_on x (w ++ v) after ≡ lives_on x w (lives_on x v after)
lives_append x [] v after = refl
lives_append x (s ∷ w) v after = ap (λ q. live_before x s.reads s.sets q) (lives_append x w v after)

-- ---- what is live grows with what is live behind

pub before_more : (x : ℕ) (reads sets : List ℕ) (a b : Bool) → Implies a b → Implies (live_before x reads sets a) (live_before x reads sets b)
before_more x reads sets a b h = live_more (among reads x) (among sets x) a b h

pub lives_more : (x : ℕ) (w : List Step) (a b : Bool) → Implies a b → Implies (lives_on x w a) (lives_on x w b)
lives_more x [] a b h = h
lives_more x (s ∷ w) a b h = before_more x s.reads s.sets (lives_on x w a) (lives_on x w b) (lives_more x w a b h)

pub code_more : (x : ℕ) (c : Code ℕ) (a b : Bool) → Implies a b → Implies (live x c a) (live x c b)
code_more x (Plain o xs ys) a b h = before_more x xs ys a b h
code_more x (Reserve n y d) a b h = before_more x [] (y ∷ []) (live x d a) (live x d b) (code_more x d a b h)
code_more x (Branch c d e) a b h =
    before_more x (c ∷ []) [] (live x d a || live x e a) (live x d b || live x e b)
    (or_both (live x d a) (live x e a) (live x d b) (live x e b) (code_more x d a b h) (code_more x e a b h))
code_more x (Loop d c e) a b h =
    let turn = live x e false in
    code_more x d (live_before x (c ∷ []) [] (turn || a)) (live_before x (c ∷ []) [] (turn || b))
    (before_more x (c ∷ []) [] (turn || a) (turn || b) (or_both turn a turn b (λ t. t) h))
code_more x Nothing a b h = h
code_more x (Sequence d e) a b h = code_more x d (live x e a) (live x e b) (code_more x e a b h)

-- one turn of a loop tells all: what is live before it because of another turn was so because of the first
pub loop_head : (x : ℕ) (b d : Code ℕ) (c : ℕ) (after q : Bool) → live x (Loop b c d) after ≡ q
    → Implies (live x b (live_before x (c ∷ []) [] (live x d (live x (Loop b c d) after) || after))) (live x (Loop b c d) after)
loop_head x b d c after true e t = e
loop_head x b d c after false e t = ap (λ h. live x b (live_before x (c ∷ []) [] (live x d h || after))) (sym e) ∙ t

-- ---- a walk that reads it first shows that it is live

pub walk_lives : {c : Code ℕ} {w : List Step} → IsWalk c w → (x : ℕ) (after : Bool) → Implies (lives_on x w after) (live x c after)
walk_lives does x after e = e
walk_lives (reserves {n} {y} {b} {w} k) x after e = before_more x [] (y ∷ []) (lives_on x w after) (live x b after) (walk_lives k x after) e
walk_lives (takes_yes {c} {b} {d} {w} k) x after e =
    before_more x (c ∷ []) [] (lives_on x w after) (live x b after || live x d after) (λ t. or_left (live x b after) (live x d after) (walk_lives k x after t)) e
walk_lives (takes_no {c} {b} {d} {w} k) x after e =
    before_more x (c ∷ []) [] (lives_on x w after) (live x b after || live x d after) (λ t. or_right (live x b after) (live x d after) (walk_lives k x after t)) e
walk_lives (leaves {c} {b} {d} {w} k) x after e =
    let turn = live x d false in
    code_more x b (live_before x (c ∷ []) [] after) (live_before x (c ∷ []) [] (turn || after))
    (before_more x (c ∷ []) [] after (turn || after) (or_right turn after))
    (walk_lives k x (live_before x (c ∷ []) [] after) (sym (lives_append x w (step (c ∷ []) [] ∷ []) after) ∙ e))
walk_lives (goes_round {c} {b} {d} {w} {v} {u} kw kv ku) x after e =
    let head = live x (Loop b c d) after in
    let again = live x d head || after in
    let on = lives_on x (v ++ u) after in
    let turn : Implies on again =
    λ t. or_left (live x d head) after
    (walk_lives kv x head (lives_more x v (lives_on x u after) head (walk_lives ku x after) (sym (lives_append x v u after) ∙ t))) in
    let first : Implies (lives_on x w (live_before x (c ∷ []) [] on)) (lives_on x w (live_before x (c ∷ []) [] again)) =
    lives_more x w (live_before x (c ∷ []) [] on) (live_before x (c ∷ []) [] again) (before_more x (c ∷ []) [] on again turn) in
    loop_head x b d c after head refl
    (walk_lives kw x (live_before x (c ∷ []) [] again) (first (sym (lives_append x w (step (c ∷ []) [] ∷ (v ++ u)) after) ∙ e)))
walk_lives ends x after e = e
walk_lives (follows {c} {d} {w} {v} kw kv) x after e =
    walk_lives kw x (live x d after) (lives_more x w (lives_on x v after) (live x d after) (walk_lives kv x after) (sym (lives_append x w v after) ∙ e))

-- ---- where it is live there is a walk that reads it first

-- a walk on which the variable is live, if it is so by the tree
pub record Shown (x : ℕ) (c : Code ℕ) (after : Bool) : Type 0 where
  pub walk : List Step
  pub is : IsWalk c walk
  pub tells : Implies (live x c after) (lives_on x walk after)

branch_shown : (x c : ℕ) (b d : Code ℕ) (after : Bool) → Shown x b after → Shown x d after → (q : Bool) → live x b after ≡ q → Shown x (Branch c b d) after
branch_shown x c b d after way other true e = record {
  walk = step (c ∷ []) [] ∷ way.walk;
  is = takes_yes way.is;
  tells = before_more x (c ∷ []) [] (live x b after || live x d after) (lives_on x way.walk after) (λ t. way.tells e);
}
branch_shown x c b d after way other false e = record {
  walk = step (c ∷ []) [] ∷ other.walk;
  is = takes_no other.is;
  tells = before_more x (c ∷ []) [] (live x b after || live x d after) (lives_on x other.walk after)
      (λ t. other.tells (or_second (live x b after) (live x d after) e t));
}

-- a loop is left at once, or after one turn if that shows more
loop_shown : (x c : ℕ) (b d : Code ℕ) (after : Bool) → Shown x b (live_before x (c ∷ []) [] (live x d false || after)) → Shown x d false → (q : Bool) → live x d false ≡ q → Shown x (Loop b c d) after
loop_shown x c b d after first turn true e =
    let out = first.walk ++ step (c ∷ []) [] ∷ [] in
    let round = turn.walk ++ out in
    record {
      walk = first.walk ++ step (c ∷ []) [] ∷ round;
      is = goes_round first.is turn.is (leaves first.is);
      tells = λ t. lives_append x first.walk (step (c ∷ []) [] ∷ round) after
          ∙ lives_more x first.walk (live_before x (c ∷ []) [] (live x d false || after)) (live_before x (c ∷ []) [] (lives_on x round after))
          (before_more x (c ∷ []) [] (live x d false || after) (lives_on x round after)
          (λ s. lives_append x turn.walk out after ∙ lives_more x turn.walk false (lives_on x out after) (λ n. cc) (turn.tells e)))
          (first.tells t);
    }
loop_shown x c b d after first turn false e = record {
  walk = first.walk ++ step (c ∷ []) [] ∷ [];
  is = leaves first.is;
  tells = λ t. lives_append x first.walk (step (c ∷ []) [] ∷ []) after
      ∙ lives_more x first.walk (live_before x (c ∷ []) [] (live x d false || after)) (live_before x (c ∷ []) [] after)
      (before_more x (c ∷ []) [] (live x d false || after) after (or_second (live x d false) after e)) (first.tells t);
}

pub shown : (x : ℕ) (c : Code ℕ) (after : Bool) → Shown x c after
shown x (Plain o xs ys) after = record { walk = step xs ys ∷ []; is = does; tells = λ e. e }
shown x (Reserve n y b) after =
    let k = shown x b after in
    record { walk = step [] (y ∷ []) ∷ k.walk; is = reserves k.is; tells = before_more x [] (y ∷ []) (live x b after) (lives_on x k.walk after) k.tells }
shown x (Branch c b d) after = branch_shown x c b d after (shown x b after) (shown x d after) (live x b after) refl
shown x (Loop b c d) after =
    loop_shown x c b d after (shown x b (live_before x (c ∷ []) [] (live x d false || after))) (shown x d false) (live x d false) refl
shown x Nothing after = record { walk = []; is = ends; tells = λ e. e }
shown x (Sequence c d) after =
    let k = shown x d after in
    let j = shown x c (live x d after) in
    record {
      walk = j.walk ++ k.walk;
      is = follows j.is k.is;
      tells = λ t. lives_append x j.walk k.walk after ∙ lives_more x j.walk (live x d after) (lives_on x k.walk after) k.tells (j.tells t);
    }
