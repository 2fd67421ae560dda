-- Streams of draws: for each seed and worker the numbers of a generator by shifts and exclusive or.
use Rattle.std.specs.Prelude.{ℕ, zero, suc, ◌+◌, ◌==◌, if◌then◌else◌}
use Rattle.lb_word.specs.Word.{mul_of, xor_of, slu_of, sru_of}

-- the one state that leads nowhere else is 0: 1 stands for it
abbrev pub or_one : ℕ → ℕ
or_one x = if x == 0 then 1 else x

-- before the first draw
abbrev pub first_state : ℕ → ℕ → ℕ
first_state seed worker = or_one (xor_of seed (mul_of 0x9E37_79B9 (worker + 1)))

-- its bits, and in exclusive or with them the same bits some places to the left or to the right
abbrev pub mixed_left : ℕ → ℕ → ℕ
mixed_left places x = xor_of x (slu_of x places)

abbrev pub mixed_right : ℕ → ℕ → ℕ
mixed_right places x = xor_of x (sru_of x places)

-- behind one draw
abbrev pub next_state : ℕ → ℕ
next_state x = mixed_left 5 (mixed_right 17 (mixed_left 13 x))

-- behind so many draws
abbrev pub state_after : ℕ → ℕ → ℕ → ℕ
state_after seed worker zero = first_state seed worker
state_after seed worker (suc n) = next_state (state_after seed worker n)

-- the draw of this number, from 0: a draw gives the state behind it
abbrev pub draw : ℕ → ℕ → ℕ → ℕ
draw seed worker n = next_state (state_after seed worker n)
