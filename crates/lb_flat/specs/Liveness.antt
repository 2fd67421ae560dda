-- Liveness by recursion on the tree, one variable at a time, for those who compute it. No walk is followed here: that both agree is
-- a law of this crate.
use Rattle.std.specs.Prelude.{◌≡◌, ◌≢◌, ℕ, Bool, true, false, ◌||◌, ◌&&◌, not, List, [], ◌∷◌}
use Rattle.lb_flat.specs.declared.places.Place.{Place}
use Rattle.lb_flat.specs.Code.{Code, Plain, Reserve, Branch, Loop, Nothing, Sequence, Routine}
use Rattle.lb_flat.specs.Walks.{among}

-- the variable is live before a step that reads and sets these, where `after` says whether it is behind it
abbrev pub live_before : ℕ → List ℕ → List ℕ → Bool → Bool
live_before x reads sets after = among reads x || (not (among sets x) && after)

-- the variable is live before a command or a block, where `after` says whether it is behind it. A walk that goes once round a loop and
-- neither reads nor sets the variable is back where it began: so one turn of the body tells all
abbrev pub live : ℕ → Code ℕ → Bool → Bool
live x (Plain o xs ys) after = live_before x xs ys after
live x (Reserve n y b) after = live_before x [] (y ∷ []) (live x b after)
live x (Branch c b d) after = live_before x (c ∷ []) [] (live x b after || live x d after)
live x (Loop b c d) after = live x b (live_before x (c ∷ []) [] (live x d false || after))
live x Nothing after = after
live x (Sequence c d) after = live x c (live x d after)

-- if the variable is live behind a setting of these, no other one of them has its place
abbrev pub Apart : (ℕ → Place) → ℕ → List ℕ → Bool → Type 0
Apart place x sets after = after ≡ true → (u : ℕ) → among sets u ≡ true → u ≢ x → place u ≢ place x

-- the same at each setting of a command or a block
abbrev pub IsApart : (ℕ → Place) → ℕ → Code ℕ → Bool → Type 0
IsApart place x (Plain o xs ys) after = Apart place x ys after
IsApart place x (Reserve n y b) after = Apart place x (y ∷ []) (live x b after) × IsApart place x b after
IsApart place x (Branch c b d) after = IsApart place x b after × IsApart place x d after
IsApart place x (Loop b c d) after =
    IsApart place x b (live_before x (c ∷ []) [] (live x d (live x (Loop b c d) after) || after)) × IsApart place x d (live x (Loop b c d) after)
IsApart place x Nothing after = Unit {0}
IsApart place x (Sequence c d) after = IsApart place x c (live x d after) × IsApart place x d after

-- a function's end reads the results
abbrev pub live_at_end : Routine ℕ → ℕ → Bool
live_at_end f x = live_before x f.results [] false

-- the same of a function, whose start sets the parameters
abbrev pub IsApartIn : (ℕ → Place) → Routine ℕ → ℕ → Type 0
IsApartIn place f x = Apart place x f.params (live x f.body (live_at_end f x)) × IsApart place x f.body (live_at_end f x)
