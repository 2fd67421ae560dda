-- The commands of a block in text order, against its calls, its accesses and its blocks of memory.
use Rattle.std.proofs.Common.{◌≡◌, ℕ, List, [], ◌∷◌, ◌++◌, refl, sym, ap, ◌∙◌}
use Rattle.std.specs.Prelude.{flat_map}
use Rattle.std.proofs.lemmas.Grind.{flat_map-append}
use Rattle.lb_syntax.specs.Tree.{Command, Allocates, Chooses, Repeats, Calls, Interacts, Then}
use Rattle.lb_syntax.specs.Needs.{sites}
use Rattle.lb_syntax.specs.Calls.{CallSite, AccessSite, call_sites, access_sites}
use Rattle.lb_check.specs.Order.{commands}

-- what a command is, those that stand in it aside
abbrev pub own_calls : Command → List CallSite
own_calls (Calls xs f es) = record { targets = xs; function = f; arguments = es } ∷ []
own_calls _ = []

abbrev pub own_accesses : Command → List AccessSite
own_accesses (Interacts xs k es) = record { targets = xs; action = k; arguments = es } ∷ []
own_accesses _ = []

abbrev pub own_sites : Command → List ℕ
own_sites (Allocates n x b) = n ∷ []
own_sites _ = []

two : {A : Type 0} (own : Command → List A) (xs ys : List A) (b d : Command) → xs ≡ flat_map own (commands b) → ys ≡ flat_map own (commands d)
    → xs ++ ys ≡ flat_map own (commands b ++ commands d)
two own xs ys b d h k =
    ap (λ zs. zs ++ ys) h ∙ ap (λ zs. flat_map own (commands b) ++ zs) k ∙ sym (flat_map-append own (commands b) (commands d))

pub calls_listed : (c : Command) → call_sites c ≡ flat_map own_calls (commands c)
calls_listed (Allocates n x b) = calls_listed b
calls_listed (Chooses e b d) = two own_calls (call_sites b) (call_sites d) b d (calls_listed b) (calls_listed d)
calls_listed (Repeats e b) = calls_listed b
calls_listed (Then c b) = two own_calls (call_sites c) (call_sites b) c b (calls_listed c) (calls_listed b)
calls_listed _ = refl

pub accesses_listed : (c : Command) → access_sites c ≡ flat_map own_accesses (commands c)
accesses_listed (Allocates n x b) = accesses_listed b
accesses_listed (Chooses e b d) = two own_accesses (access_sites b) (access_sites d) b d (accesses_listed b) (accesses_listed d)
accesses_listed (Repeats e b) = accesses_listed b
accesses_listed (Then c b) = two own_accesses (access_sites c) (access_sites b) c b (accesses_listed c) (accesses_listed b)
accesses_listed _ = refl

pub sites_listed : (c : Command) → sites c ≡ flat_map own_sites (commands c)
sites_listed (Allocates n x b) = ap (λ ns. n ∷ ns) (sites_listed b)
sites_listed (Chooses e b d) = two own_sites (sites b) (sites d) b d (sites_listed b) (sites_listed d)
sites_listed (Repeats e b) = sites_listed b
sites_listed (Then c b) = two own_sites (sites c) (sites b) c b (sites_listed c) (sites_listed b)
sites_listed _ = refl
