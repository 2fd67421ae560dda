-- Parts of programs. Cited by private contracts alone.
use Rattle.std.specs.Prelude.{codes}
use Rattle.lb_syntax.specs.Names.{Text}
use Rattle.lb_gen.specs.Made.{a_, b_, i_, r_}
use Rattle.lb_gen.specs.declared.words.Word.{Word}
use Rattle.lb_gen.specs.declared.words.Word.TheVariants.{A, B, I, R, Init, Loop}

-- how a word is spelled
abbrev pub text_of : Word → Text
text_of A = a_
text_of B = b_
text_of I = i_
text_of R = r_
text_of Init = codes "init"
text_of Loop = codes "loop"
