-- The commands of a block that are left from a place on.
use Rattle.std.proofs.Common.{◌≡◌, ℕ, zero, suc, ◌+◌, ◌<◌, ◌≤◌, List, [], ◌∷◌, map, drop, get_or, length, sym, ap, ◌∙◌, subst, not-suc-le-zero, le_of_suc-le-suc}
use Rattle.std.proofs.lemmas.List.{at_drop_more, at_drop_all}
use Rattle.lb_flat.specs.declared.flat.FlatCmd.{FlatCmd}
use Rattle.lb_flat.specs.Code.{Code, Nothing, Sequence, chain}
use Rattle.lb_flat.specs.Flat.{flat_command}
use Rattle.lb_alloc.specs.InternalSets.{NamesVariables}

-- the commands from place i on
abbrev pub rest : List FlatCmd → ℕ → Code ℕ
rest cs i = chain (map flat_command (drop i cs))

pub rest_at : (cs : List FlatCmd) (i : ℕ) (c : FlatCmd) → i < length cs → c ≡ get_or cs i c → rest cs i ≡ Sequence (flat_command c) (rest cs (i + 1))
rest_at cs i c lt is =
    at_drop_more (λ (xs : List FlatCmd). chain (map flat_command xs)) cs i c lt ∙ ap (λ (x : FlatCmd). Sequence (flat_command x) (rest cs (i + 1))) (sym is)

pub rest_end : (cs : List FlatCmd) (i : ℕ) → length cs ≤ i → rest cs i ≡ Nothing
rest_end cs i le = at_drop_all (λ (xs : List FlatCmd). chain (map flat_command xs)) cs i le

pub names_at : (n : ℕ) (cs : List FlatCmd) (i : ℕ) (c : FlatCmd) → i < length cs → c ≡ get_or cs i c → NamesVariables n (rest cs 0) → NamesVariables n (flat_command c)
names_at n [] i c h e k = absurd (not-suc-le-zero h)
names_at n (d ∷ cs) zero c h e k = subst (λ (b : FlatCmd). NamesVariables n (flat_command b)) (sym e) k.0
names_at n (d ∷ cs) (suc i) c h e k = names_at n cs i c (le_of_suc-le-suc h) e k.1
