-- Laws of the definitions on texts.
use Rattle.std.specs.Prelude.{◌≡◌, ◌⊎◌, List}
use Rattle.lb_syntax.specs.Names.{Text}
use Rattle.lb_syntax.specs.Tree.{Procedure}
use Rattle.lb_spelling.specs.declared.fault.TextFault.{TextFault}
use Rattle.lb_spelling.specs.Grammar.{IsText}
use Rattle.lb_spelling.specs.Places.{IsAccepted, IsFault}

-- a text is the text of one program at most
abbrev pub OneTree : Type 0
OneTree = (s : Text) (p q : List Procedure) → IsText p s → IsText q s → p ≡ q

-- the text is accepted as some program
abbrev pub HasProgram : Text → Type 0
HasProgram s = (p : List Procedure) × IsAccepted p s

abbrev pub HasFault : Text → Type 0
HasFault s = (fault : TextFault) × IsFault s fault

-- each text is accepted, or has a fault
abbrev pub EveryText : Type 0
EveryText = (s : Text) → HasProgram s ⊎ HasFault s

-- no text does both
abbrev pub NotBoth : Type 0
NotBoth = (s : Text) → HasProgram s → HasFault s → ⊥

-- a text has one fault at most: one place and one kind
abbrev pub OneFault : Type 0
OneFault = (s : Text) (f g : TextFault) → IsFault s f → IsFault s g → f ≡ g
