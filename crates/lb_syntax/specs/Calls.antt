-- The calls and device accesses of a program, its paths of calls, and the stack that they ask for.
use Rattle.std.specs.Prelude.{◌≡◌, ℕ, ◌≤◌, List, [], ◌∷◌, ◌++◌, map, sum, Contains}
use Rattle.lb_syntax.specs.Names.{Text}
use Rattle.lb_syntax.specs.declared.tree.Action.{Action}
use Rattle.lb_syntax.specs.Tree.{Term, Procedure}
use Rattle.lb_syntax.specs.Tree.{Command, Allocates, Chooses, Repeats, Calls, Interacts, Then}
use Rattle.lb_syntax.specs.Needs.{frame_need}

-- a call: where its results go, whom it calls and with what
pub record CallSite : Type 0 where
  pub targets : List Text
  pub function : Text
  pub arguments : List Term

-- an access of a device
pub record AccessSite : Type 0 where
  pub targets : List Text
  pub action : Action
  pub arguments : List Term

-- the calls in a command or a block, in text order
abbrev pub call_sites : Command → List CallSite
call_sites (Calls xs f es) = record { targets = xs; function = f; arguments = es } ∷ []
call_sites (Allocates n x b) = call_sites b
call_sites (Chooses e b d) = call_sites b ++ call_sites d
call_sites (Repeats e b) = call_sites b
call_sites (Then c b) = call_sites c ++ call_sites b
call_sites _ = []

-- the accesses of devices in a command or a block, in text order
abbrev pub access_sites : Command → List AccessSite
access_sites (Interacts xs k es) = record { targets = xs; action = k; arguments = es } ∷ []
access_sites (Allocates n x b) = access_sites b
access_sites (Chooses e b d) = access_sites b ++ access_sites d
access_sites (Repeats e b) = access_sites b
access_sites (Then c b) = access_sites c ++ access_sites b
access_sites _ = []

-- the names of the functions that a function calls
abbrev pub callees : Procedure → List Text
callees f = map (λ site. site.function) (call_sites f.body)

-- functions of the program, each of which calls the next
abbrev pub IsCallPath : List Procedure → List Procedure → Type 0
IsCallPath p [] = Unit {0}
IsCallPath p (f ∷ []) = Contains p f
IsCallPath p (f ∷ g ∷ path) = Contains p f × Contains (callees f) g.name × IsCallPath p (g ∷ path)

-- a path of calls leads from the function back to it
abbrev pub IsRecursive : List Procedure → Procedure → Type 0
IsRecursive p f = (path : List Procedure) × IsCallPath p (f ∷ path ++ f ∷ [])

-- the bytes of stack that the frames of a path take
abbrev pub path_need : List Procedure → ℕ
path_need path = sum (map frame_need path)

-- n bytes of stack: some path of calls takes them, and none takes more. Where a path leads back to its start there is no such n
pub record IsStackNeed (p : List Procedure) (n : ℕ) : Type 0 where
  pub path : List Procedure
  pub is_path : IsCallPath p path
  pub taken : path_need path ≡ n
  pub greatest : (other : List Procedure) → IsCallPath p other → path_need other ≤ n
