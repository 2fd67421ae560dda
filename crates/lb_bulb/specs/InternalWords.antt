-- How the names in the supplied program are spelled. Cited by private contracts alone.
use Rattle.std.specs.Prelude.{codes}
use Rattle.lb_syntax.specs.Names.{Text}
use Rattle.lb_bulb.specs.declared.words.Word.{Word}
use Rattle.lb_bulb.specs.declared.words.Word.TheVariants.{A, B, C, E, I, N, R, S, V, X}
use Rattle.lb_bulb.specs.declared.words.Word.TheVariants.{Bad, Buf, Len, Fine}
use Rattle.lb_bulb.specs.declared.words.Word.TheVariants.{SpiXchg, LanRead, LanWrite, Init, Loop}

abbrev pub text_of : Word → Text
text_of A = codes "a"
text_of B = codes "b"
text_of C = codes "c"
text_of E = codes "e"
text_of I = codes "i"
text_of N = codes "n"
text_of R = codes "r"
text_of S = codes "s"
text_of V = codes "v"
text_of X = codes "x"
text_of Bad = codes "bad"
text_of Buf = codes "buf"
text_of Len = codes "len"
text_of Fine = codes "ok"
text_of SpiXchg = codes "spi_xchg"
text_of LanRead = codes "lan_read"
text_of LanWrite = codes "lan_write"
text_of Init = codes "init"
text_of Loop = codes "loop"
