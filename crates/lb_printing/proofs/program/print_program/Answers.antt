use Rattle.std.proofs.Common.{◌≡◌, List, ◌++◌, map, ap, subst, sym, ◌∙◌}
use Rattle.std.specs.Prelude.{All}
use Rattle.lb_syntax.specs.Names.{Text}
use Rattle.lb_syntax.specs.declared.tree.Function.{Function}
use Rattle.lb_syntax.specs.Tree.{procedure_of, program_of}
use Rattle.lb_syntax.specs.WellFormed.{IsProcedure}
use Rattle.lb_syntax.specs.Printing.{program_text}
use Rattle.lb_spelling.specs.Grammar.{IsText}
use Rattle.lb_spelling.specs.Places.{IsAccepted}
use Rattle.lb_spelling.proofs.Same.{text_same}
use Rattle.lb_printing.proofs.SpelledPrograms.{is_text, is_accepted}
use Rattle.lb_printing.proofs.program.print_program.Goals as goal
use Rattle.lb_printing.proofs.program.print_program.Goals.{In_ok-add_functions}

-- what was written
written : (c : In_ok-add_functions) → c.add_functions.new.text.items ≡ program_text (program_of c.args.program.now)
written c =
    c.in_ok-add_functions.ensures.printed
    ∙ ap (λ (t : Text). t ++ program_text (map procedure_of c.as_slice.result.now)) c.new-text.ensures.items
    ∙ ap (λ (fs : List Function). program_text (map procedure_of fs)) c.as_slice.ensures

well_formed : (c : In_ok-add_functions) → All IsProcedure (program_of c.args.program.now)
well_formed c = subst (λ (fs : List Function). All IsProcedure (map procedure_of fs)) c.as_slice.ensures c.in_ok-add_functions.ensures.well_formed

pub returns-clause-spelled : goal.returns-clause-spelled
returns-clause-spelled c =
    let p = program_of c.args.program.now in
    subst (λ (t : Text). IsText p t) (sym (written c)) (is_text p (well_formed c))

pub returns-clause-spells : goal.returns-clause-spells
returns-clause-spells c few =
    let p = program_of c.args.program.now in
    subst (λ (t : Text). IsAccepted p t) (sym (written c)) (is_accepted p (well_formed c) few)

pub returns-clause-only : goal.returns-clause-only
returns-clause-only c p h = text_same p (program_of c.args.program.now) c.add_functions.new.text.items h (returns-clause-spelled c)
