use Rattle.std.specs.Prelude.{ℕ, zero, suc, ◌+◌, ◌%◌, ◌<◌, ◌≤◌, ◌^◌}
use Rattle.std.proofs.Common.{arith}
use Rattle.std.proofs.Math.Dec.{eqb-suc-zero}
use Rattle.std.proofs.lemmas.Nat.{shr_le, xor_lt}
use Rattle.lb_word.specs.Word.{mul_of, slu_of, sru_of}
use Rattle.lb_draws.specs.Draws.{or_one, mixed_left, mixed_right, first_state, next_state, state_after}

or_one_below : (x : ℕ) → x < 2 ^ 32 → or_one x < 2 ^ 32
or_one_below zero below = omega (arith)
or_one_below (suc x) below = rw (eqb-suc-zero x) below

left_below : (places x : ℕ) → x < 2 ^ 32 → mixed_left places x < 2 ^ 32
left_below places x below =
    let other : slu_of x places < 2 ^ 32 = omega (arith) in
    xor_lt 32 x (slu_of x places) below other

right_below : (places x : ℕ) → x < 2 ^ 32 → mixed_right places x < 2 ^ 32
right_below places x below =
    let less : sru_of x places ≤ x = shr_le x (places % 32) in
    let other : sru_of x places < 2 ^ 32 = omega (arith, less) in
    xor_lt 32 x (sru_of x places) below other

pub next_below : (x : ℕ) → x < 2 ^ 32 → next_state x < 2 ^ 32
next_below x below = left_below 5 _ (right_below 17 _ (left_below 13 x below))

first_below : (seed worker : ℕ) → seed < 2 ^ 32 → first_state seed worker < 2 ^ 32
first_below seed worker below =
    let other : mul_of 0x9E37_79B9 (worker + 1) < 2 ^ 32 = omega (arith) in
    or_one_below _ (xor_lt 32 seed (mul_of 0x9E37_79B9 (worker + 1)) below other)

pub state_below : (seed worker n : ℕ) → seed < 2 ^ 32 → state_after seed worker n < 2 ^ 32
state_below seed worker zero below = first_below seed worker below
state_below seed worker (suc n) below = next_below _ (state_below seed worker n below)
