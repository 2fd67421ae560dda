-- What each form of the tree says.
use Rattle.std.proofs.Common.{◌≡◌, ℕ, List, [], map, sym, ap, ◌∙◌}
use Rattle.lb_syntax.specs.Names.{Text}
use Rattle.lb_syntax.specs.Tree.{Term, Number, Variable, Operation, term_of, term_layer}
use Rattle.lb_syntax.specs.Tree.{Command, Sets, Stores, Allocates, Chooses, Repeats, Calls, Ends, chain, command_of, block_of, command_layer, block_layer}
use Rattle.lb_syntax.specs.declared.tree.Op.{Op}
use Rattle.lb_syntax.specs.declared.tree.Width.{Width}
use Rattle.lb_syntax.specs.declared.tree.Expr.{Expr, fold-roll-Expr}
use Rattle.lb_syntax.specs.declared.tree.Expr.TheOpen as open-Expr
use Rattle.lb_syntax.specs.declared.tree.Expr.TheVariants as expr
use Rattle.lb_syntax.specs.declared.tree.Block.{Block, roll-Block, fold-roll-Block}
use Rattle.lb_syntax.specs.declared.tree.Cmd.{Cmd, fold-roll-Cmd}
use Rattle.lb_syntax.specs.declared.tree.Cmd.TheOpen as open-Cmd
use Rattle.lb_syntax.specs.declared.tree.Cmd.TheVariants as cmd

-- expressions
pub says_literal : (e : Expr) (n : ℕ) → e ≡ expr.Literal n → term_of e ≡ Number n
says_literal e n is = ap term_of (is ∙ sym (expr.rolls-Literal n)) ∙ fold-roll-Expr Term term_layer (open-Expr.Literal n)

pub says_var : (e : Expr) (x : Text) → e ≡ expr.Var x → term_of e ≡ Variable x
says_var e x is = ap term_of (is ∙ sym (expr.rolls-Var x)) ∙ fold-roll-Expr Term term_layer (open-Expr.Var x)

pub says_binary : (e : Expr) (op : Op) (l r : Expr) → e ≡ expr.Binary op l r → term_of e ≡ Operation op (term_of l) (term_of r)
says_binary e op l r is = ap term_of (is ∙ sym (expr.rolls-Binary op l r)) ∙ fold-roll-Expr Term term_layer (open-Expr.Binary op l r)

-- commands
pub says_set : (c : Cmd) (x : Text) (e : Expr) → c ≡ cmd.Set x e → command_of c ≡ Sets x (term_of e)
says_set c x e is = ap command_of (is ∙ sym (cmd.rolls-Set x e)) ∙ fold-roll-Cmd Command Command command_layer block_layer (open-Cmd.Set x e)

pub says_store : (c : Cmd) (w : Width) (a e : Expr) → c ≡ cmd.Store w a e → command_of c ≡ Stores w (term_of a) (term_of e)
says_store c w a e is = ap command_of (is ∙ sym (cmd.rolls-Store w a e)) ∙ fold-roll-Cmd Command Command command_layer block_layer (open-Cmd.Store w a e)

pub says_allocates : (c : Cmd) (n : ℕ) (x : Text) (b : Block) → c ≡ cmd.StackAlloc n x b → command_of c ≡ Allocates n x (block_of b)
says_allocates c n x b is = ap command_of (is ∙ sym (cmd.rolls-StackAlloc n x b)) ∙ fold-roll-Cmd Command Command command_layer block_layer (open-Cmd.StackAlloc n x b)

pub says_if : (c : Cmd) (e : Expr) (b d : Block) → c ≡ cmd.If e b d → command_of c ≡ Chooses (term_of e) (block_of b) (block_of d)
says_if c e b d is = ap command_of (is ∙ sym (cmd.rolls-If e b d)) ∙ fold-roll-Cmd Command Command command_layer block_layer (open-Cmd.If e b d)

pub says_while : (c : Cmd) (e : Expr) (b : Block) → c ≡ cmd.While e b → command_of c ≡ Repeats (term_of e) (block_of b)
says_while c e b is = ap command_of (is ∙ sym (cmd.rolls-While e b)) ∙ fold-roll-Cmd Command Command command_layer block_layer (open-Cmd.While e b)

pub says_call : (c : Cmd) (xs : List Text) (f : Text) (es : List Expr) → c ≡ cmd.Call xs f es → command_of c ≡ Calls xs f (map term_of es)
says_call c xs f es is = ap command_of (is ∙ sym (cmd.rolls-Call xs f es)) ∙ fold-roll-Cmd Command Command command_layer block_layer (open-Cmd.Call xs f es)

-- blocks
pub says_block : (cs : List Cmd) → block_of (roll-Block (record { commands = cs })) ≡ chain (map command_of cs)
says_block cs = fold-roll-Block Command Command command_layer block_layer (record { commands = cs })

pub says_empty : (cs : List Cmd) → cs ≡ [] → block_of (roll-Block (record { commands = cs })) ≡ Ends
says_empty cs e = says_block cs ∙ ap (λ (them : List Cmd). chain (map command_of them)) e
