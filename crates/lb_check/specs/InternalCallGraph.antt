-- The graph of calls: functions by their places in the text. Only contracts of private functions cite it.
use Rattle.std.specs.Prelude.{ℕ, ◌+◌, List, [], ◌∷◌, map, flat_map, if◌then◌else◌}
use Rattle.std.specs.Str.{bytes_eq}
use Rattle.lb_syntax.specs.Names.{Text}
use Rattle.lb_syntax.specs.Tree.{Command, Procedure}
use Rattle.lb_syntax.specs.Calls.{call_sites}

-- the places of the functions with this name, where the first of them is at place k
abbrev pub places_from : ℕ → List Procedure → Text → List ℕ
places_from k [] name = []
places_from k (f ∷ fs) name = if bytes_eq f.name name then k ∷ places_from (k + 1) fs name else places_from (k + 1) fs name

-- the places of the functions that a command or a block calls, call by call
abbrev pub called : List Procedure → Command → List ℕ
called p c = flat_map (λ site. places_from 0 p site.function) (call_sites c)

-- for each function the places of those that it calls
abbrev pub call_graph : List Procedure → List (List ℕ)
call_graph p = map (λ f. called p f.body) p
