-- The value of an expression, or why it has none.
use Rattle.std.specs.Prelude.{ℕ, zero, suc, ◌+◌, ◌*◌, ◌%◌, ◌^◌, List, [], ◌∷◌, Option, Some, None, Result, Ok, Err}
use Rattle.lb_syntax.specs.Tree.{Term, Number, Variable, Loaded, Operation}
use Rattle.lb_syntax.specs.declared.tree.Op.{Op}
use Rattle.lb_syntax.specs.declared.tree.Op.TheVariants.{Add, Sub, Mul, Mulhuu, Divu, Remu, And, Or, Xor, Sru, Slu, Srs, Lts, Ltu, Eq}
use Rattle.lb_syntax.specs.declared.tree.Width.{Width}
use Rattle.lb_syntax.specs.declared.tree.Width.TheVariants.{One, Two, Four}
use Rattle.lb_word.specs.Word.{add_of, and_of, divu_of, eq_of, lts_of, ltu_of, mul_of, mulhuu_of, or_of, remu_of, slu_of, srs_of, sru_of, sub_of, xor_of}
use Rattle.lb_source.specs.Maps.{Variables, Memory}
use Rattle.lb_source.specs.declared.ends.Reason.{Reason}
use Rattle.lb_source.specs.declared.ends.Reason.TheVariants.{UnsetVariable, NotOwned, UnsetByte}

-- an operation on the values of its operands
abbrev pub operate : Op → ℕ → ℕ → ℕ
operate Add a b = add_of a b
operate Sub a b = sub_of a b
operate Mul a b = mul_of a b
operate Mulhuu a b = mulhuu_of a b
operate Divu a b = divu_of a b
operate Remu a b = remu_of a b
operate And a b = and_of a b
operate Or a b = or_of a b
operate Xor a b = xor_of a b
operate Sru a b = sru_of a b
operate Slu a b = slu_of a b
operate Srs a b = srs_of a b
operate Lts a b = lts_of a b
operate Ltu a b = ltu_of a b
operate Eq a b = eq_of a b

-- how many bytes a load or a store moves
abbrev pub byte_count : Width → ℕ
byte_count One = 1
byte_count Two = 2
byte_count Four = 4

-- one byte, which must be owned and set, below those after it; the first that fails is the one that counts
abbrev pub with_byte : Option (Option ℕ) → Result ℕ Reason → Result ℕ Reason
with_byte None high = Err NotOwned
with_byte (Some None) high = Err UnsetByte
with_byte (Some (Some byte)) (Err reason) = Err reason
with_byte (Some (Some byte)) (Ok high) = Ok (byte + 256 * high)

-- the number of n bytes from an address on, modulo 2^32, the least significant first and without a sign
abbrev pub load : Memory → ℕ → ℕ → Result ℕ Reason
load memory zero a = Ok 0
load memory (suc n) a = with_byte (memory (a % 2 ^ 32)) (load memory n (a + 1))

-- a variable's value, which must be set
abbrev pub or_unset : Option ℕ → Result ℕ Reason
or_unset None = Err UnsetVariable
or_unset (Some v) = Ok v

-- the bytes at an address, which is evaluated first
abbrev pub loaded : Memory → Width → Result ℕ Reason → Result ℕ Reason
loaded memory w (Err reason) = Err reason
loaded memory w (Ok a) = load memory (byte_count w) a

-- an operation; where both operands fail, the left one's reason counts
abbrev pub operated : Op → Result ℕ Reason → Result ℕ Reason → Result ℕ Reason
operated op (Err reason) right = Err reason
operated op (Ok a) (Err reason) = Err reason
operated op (Ok a) (Ok b) = Ok (operate op a b)

-- the value of an expression, the left operand first
abbrev pub value : Variables → Memory → Term → Result ℕ Reason
value variables memory (Number n) = Ok n
value variables memory (Variable x) = or_unset (variables x)
value variables memory (Loaded w a) = loaded memory w (value variables memory a)
value variables memory (Operation op l r) = operated op (value variables memory l) (value variables memory r)

-- one value before others; the first that fails is the one that counts
abbrev pub before : Result ℕ Reason → Result (List ℕ) Reason → Result (List ℕ) Reason
before (Err reason) vs = Err reason
before (Ok v) (Err reason) = Err reason
before (Ok v) (Ok vs) = Ok (v ∷ vs)

-- the values of several expressions, from left to right
abbrev pub values : Variables → Memory → List Term → Result (List ℕ) Reason
values variables memory [] = Ok []
values variables memory (e ∷ es) = before (value variables memory e) (values variables memory es)
