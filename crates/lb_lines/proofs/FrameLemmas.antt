-- The lines of frames.
use Rattle.std.proofs.Common.{◌≡◌, ℕ, ◌/◌, ◌<◌, ◌≤◌, true, List, [], ◌∷◌, ◌++◌, length, get_or, refl, sym, ap, arith, length-append}
use Rattle.std.specs.List.{All}
use Rattle.std.specs.Char.{digit_char}
use Rattle.std.proofs.lemmas.Bool.Decides.{nat_tests}
use Rattle.std.proofs.lemmas.List.Elements.{All-cons, All-nil, All-head}
use Rattle.lb_trace.specs.Frame.{FrameContent}
use Rattle.lb_lines.specs.declared.fault.LineKind.TheVariants.{Malformed, TooLong, TooMany}
use Rattle.lb_lines.specs.declared.form.Refusal.{Refusal}
use Rattle.lb_lines.specs.declared.form.Refusal.TheVariants.{Outside, NoMemory}
use Rattle.lb_lines.specs.Digits.{SpellsBytes}
use Rattle.lb_lines.specs.Forms.{error_mark, SpellsFrame, frame_form}
use Rattle.lb_lines.specs.InternalReading.{Refuses, RefusesFrame}

no_digit_char : (x : ℕ) → digit_char x ≡ 33 → ⊥
no_digit_char x e = grind (arith, nat_tests)

-- no byte's digits begin with the mark
pub no_mark : (rest bytes : List ℕ) → SpellsBytes (error_mark true ++ rest) bytes → 0 < length bytes → ⊥
no_mark rest [] s some = absurd (omega (arith, some))
no_mark rest (b ∷ bytes) s some = no_digit_char (b / 16) (sym (ap (λ l. get_or l 0 0) s.digits))

-- a frame's line behind the frames before it
pub refuses_frame : (line : List ℕ) (before : List FrameContent) (refusal : Refusal) → RefusesFrame line refusal → Refuses frame_form line before refusal
refuses_frame line before NoMemory r = tt
refuses_frame line before (Outside Malformed) r = λ said s. r.1 s.0 s.1
refuses_frame line before (Outside TooLong) r = let no : ⊥ = let e : TooLong ≡ Malformed = r.0 in cc in absurd no
refuses_frame line before (Outside TooMany) r = let no : ⊥ = let e : TooMany ≡ Malformed = r.0 in cc in absurd no

pub frame_too_long : (line : List ℕ) (before : List FrameContent) (frame : FrameContent) → SpellsFrame line frame → 2000 < length frame.bytes
    → Refuses frame_form line before (Outside TooLong)
frame_too_long line before frame s long = (
  frame ∷ [],
  (frame, s, refl),
  λ short. let h : length frame.bytes ≤ 2000 = All-head (λ f. length f.bytes ≤ 2000) frame [] short in omega (arith, h, long),
)

one_short : (frame : FrameContent) → length frame.bytes ≤ 2000 → All (λ f. length f.bytes ≤ 2000) (frame ∷ [])
one_short frame h = All-cons (λ f. length f.bytes ≤ 2000) frame [] h (All-nil (λ f. length f.bytes ≤ 2000))

pub frame_too_many : (line : List ℕ) (before : List FrameContent) (frame : FrameContent) → SpellsFrame line frame → length frame.bytes ≤ 2000
    → 64 ≤ length before → Refuses frame_form line before (Outside TooMany)
frame_too_many line before frame s short many = (
  frame ∷ [],
  (frame, s, refl),
  one_short frame short,
  λ few. omega (arith, few, many, length-append before (frame ∷ [])),
)
