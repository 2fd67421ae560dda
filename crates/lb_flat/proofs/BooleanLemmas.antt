-- Truth values, one of which implies another.
use Rattle.std.proofs.Common.{◌≡◌, Bool, true, false, not, ◌&&◌, ◌||◌, refl}

abbrev pub Implies : Bool → Bool → Type 0
Implies a b = a ≡ true → b ≡ true

pub or_left : (a b : Bool) → Implies a (a || b)
or_left true b e = refl
or_left false b e = cc

pub or_right : (a b : Bool) → Implies b (a || b)
or_right true b e = refl
or_right false b e = e

-- one of both, and not the first
pub or_second : (a b : Bool) → a ≡ false → Implies (a || b) b
or_second true b n e = cc
or_second false b n e = e

pub or_either : (a b c : Bool) → Implies a c → Implies b c → Implies (a || b) c
or_either true b c h k e = h refl
or_either false b c h k e = k e

pub or_both : (a b c d : Bool) → Implies a c → Implies b d → Implies (a || b) (c || d)
or_both true b c d h k e = or_left c d (h refl)
or_both false b c d h k e = or_right c d (k e)

pub or_false : (a b : Bool) → a ≡ false → b ≡ false → (a || b) ≡ false
or_false true b n e = cc
or_false false b n e = e

-- what is read or not set and live behind: more of it where more is live behind
pub live_more : (r s a b : Bool) → Implies a b → Implies (r || (not s && a)) (r || (not s && b))
live_more true s a b h e = e
live_more false true a b h e = e
live_more false false a b h e = h e

-- a step that doesn't set it
pub live_past : (r s a : Bool) → s ≡ false → Implies a (r || (not s && a))
live_past true s a n e = refl
live_past false true a n e = cc
live_past false false a n e = e

pub is_false : (b : Bool) → (b ≡ true → ⊥) → b ≡ false
is_false true h = absurd (h refl)
is_false false h = refl

-- by cases on a test
pub by_test : {P : Type 0} (b : Bool) → (b ≡ true → P) → (b ≡ false → P) → P
by_test true h k = h refl
by_test false h k = k refl
