-- The commands of a block that are left from a place on.
use Rattle.std.proofs.Common.{◌≡◌, ℕ, ◌+◌, ◌<◌, ◌≤◌, List, map, drop, get_or, length, sym, ap, ◌∙◌}
use Rattle.std.proofs.lemmas.List.{at_drop_more, at_drop_all}
use Rattle.lb_syntax.specs.declared.tree.Cmd.{Cmd}
use Rattle.lb_syntax.specs.Tree.{Command, Ends, Then, chain, command_of}

-- the commands from place i on
abbrev pub rest : List Cmd → ℕ → Command
rest cs i = chain (map command_of (drop i cs))

pub rest_at : (cs : List Cmd) (i : ℕ) (c : Cmd) → i < length cs → c ≡ get_or cs i c → rest cs i ≡ Then (command_of c) (rest cs (i + 1))
rest_at cs i c lt is =
    at_drop_more (λ (xs : List Cmd). chain (map command_of xs)) cs i c lt ∙ ap (λ (x : Cmd). Then (command_of x) (rest cs (i + 1))) (sym is)

pub rest_end : (cs : List Cmd) (i : ℕ) → length cs ≤ i → rest cs i ≡ Ends
rest_end cs i le = at_drop_all (λ (xs : List Cmd). chain (map command_of xs)) cs i le
