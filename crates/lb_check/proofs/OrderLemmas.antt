-- The commands of a command in text order.
use Rattle.std.proofs.Common.{◌≡◌, List, [], ◌∷◌, ◌++◌, refl, sym, subst}
use Rattle.lb_syntax.specs.Tree.{Command, Allocates, Chooses, Repeats, command_of, command_layer, block_layer}
use Rattle.lb_syntax.specs.declared.tree.Cmd.{Cmd, Cmd-F, fold_out-Cmd}
use Rattle.lb_syntax.specs.declared.tree.Cmd.TheOpen as open-Cmd
use Rattle.lb_check.specs.Order.{commands}

-- the commands that stand in a command
abbrev pub inner : Command → List Command
inner (Allocates n x b) = commands b
inner (Chooses e b d) = commands b ++ commands d
inner (Repeats e b) = commands b
inner c = []

layer_first : (o : Cmd-F Command Command) → commands (command_layer o) ≡ command_layer o ∷ inner (command_layer o)
layer_first open-Cmd.Skip = refl
layer_first (open-Cmd.Set x e) = refl
layer_first (open-Cmd.Unset x) = refl
layer_first (open-Cmd.Store w a e) = refl
layer_first (open-Cmd.StackAlloc n x b) = refl
layer_first (open-Cmd.If e b d) = refl
layer_first (open-Cmd.While e b) = refl
layer_first (open-Cmd.Call xs f es) = refl
layer_first (open-Cmd.Interact xs k es) = refl

-- a command comes before those that stand in it
pub command_first : (c : Cmd) → commands (command_of c) ≡ command_of c ∷ inner (command_of c)
command_first c = subst (λ (x : Command). commands x ≡ x ∷ inner x) (sym (fold_out-Cmd Command Command command_layer block_layer c)) (layer_first _)
