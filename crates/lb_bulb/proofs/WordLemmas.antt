-- The names in the supplied program are names.
use Rattle.std.proofs.Common.{refl}
use Rattle.lb_syntax.specs.Names.{IsName, is_reserved}
use Rattle.lb_bulb.specs.declared.words.Word.{Word}
use Rattle.lb_bulb.specs.declared.words.Word.TheVariants.{A, B, C, E, I, N, R, S, V, X, Bad, Buf, Len, Fine, SpiXchg, LanRead, LanWrite, Init, Loop}
use Rattle.lb_bulb.specs.InternalWords.{text_of}

pub word_is_name : (w : Word) → IsName (text_of w)
unfolding is_reserved
word_is_name A = refl
word_is_name B = refl
word_is_name C = refl
word_is_name E = refl
word_is_name I = refl
word_is_name N = refl
word_is_name R = refl
word_is_name S = refl
word_is_name V = refl
word_is_name X = refl
word_is_name Bad = refl
word_is_name Buf = refl
word_is_name Len = refl
word_is_name Fine = refl
word_is_name SpiXchg = refl
word_is_name LanRead = refl
word_is_name LanWrite = refl
word_is_name Init = refl
word_is_name Loop = refl
