-- A line spells one list of values.
use Rattle.std.proofs.Common.{◌≡◌, ℕ, ◌+◌, ◌*◌, ◌/◌, ◌%◌, ◌<◌, ◌^◌, ◌==◌, Bool, true, false, List, [], ◌∷◌, ◌++◌, length, map, codes, refl, sym, ap, ap₂, ◌∙◌, arith, cond}
use Rattle.std.specs.List.{All}
use Rattle.std.specs.Char.{digit_char}
use Rattle.std.proofs.lemmas.Bool.Decides.{nat_tests}
use Rattle.std.proofs.lemmas.List.Elements.{All-head, All-tail}
use Rattle.lb_trace.specs.declared.Event.{Event}
use Rattle.lb_trace.specs.declared.Event.TheVariants.{Ld, St}
use Rattle.lb_trace.specs.declared.Kind.{Kind}
use Rattle.lb_trace.specs.declared.Kind.TheVariants.{Fetch, Decode, Execute, Ram, Mmio, Writeback, Boot, Shift, Arrive}
use Rattle.lb_trace.specs.declared.Entry.{Entry}
use Rattle.lb_trace.specs.Frame.{FrameContent}
use Rattle.lb_lines.specs.Digits.{SpellsWord, SpellsBytes}
use Rattle.lb_lines.specs.Forms.{One, SpellsEvent, SpellsPair, SpellsFrame, SpellsEntries, error_mark, trace_form, reply_form, frame_form, log_form}
use Rattle.lb_lines.specs.Laws.{IsOneAnswer}
use Rattle.lb_lines.specs.Log.{kind_letter, HasDigit}
use Rattle.lb_lines.proofs.AccessLemmas.{pair_parts, length-SpellsWord, other_word, value_spelled}
use Rattle.lb_lines.proofs.AnswerLemmas.{one_answer}
use Rattle.lb_lines.proofs.FrameLemmas.{no_mark}
use Rattle.lb_lines.proofs.PairLemmas.{pairs}
use Rattle.lb_lines.proofs.WordLemmas.{eight_of, digits_low}
use Rattle.std.proofs.lemmas.List.{append_cancel_left}

one_digit : (c d : ℕ) → c < 16 → d < 16 → digit_char c ≡ digit_char d → c ≡ d
one_digit c d h k e = grind (arith, nat_tests)

-- lists of digits are told apart by their characters
one_digits : (cs ds : List ℕ) → All (λ d. d < 16) cs → All (λ d. d < 16) ds → map digit_char cs ≡ map digit_char ds → cs ≡ ds
one_digits [] [] h k e = refl
one_digits [] (d ∷ ds) h k e = let no : ⊥ = cc in absurd no
one_digits (c ∷ cs) [] h k e = let no : ⊥ = cc in absurd no
one_digits (c ∷ cs) (d ∷ ds) h k e =
    ap₂ (λ x xs. x ∷ xs)
    (one_digit c d (All-head (λ x. x < 16) c cs h) (All-head (λ x. x < 16) d ds k) cc)
    (one_digits cs ds (All-tail (λ x. x < 16) c cs h) (All-tail (λ x. x < 16) d ds k) cc)

-- a word is the value of its digits
value_of : List ℕ → ℕ → ℕ
value_of [] n = n
value_of (d ∷ ds) n = value_of ds (16 * n + d)

value_of_eight : (w : ℕ) → w < 2 ^ 32 → value_of (eight_of w) 0 ≡ w
unfolding value_of
value_of_eight w h = omega arith

one_word : (text : List ℕ) (v w : ℕ) → SpellsWord text v → SpellsWord text w → v ≡ w
one_word text v w a b =
    sym (value_of_eight v a.fits)
    ∙ ap (λ ds. value_of ds 0) (one_digits (eight_of v) (eight_of w) (digits_low v) (digits_low w) (sym a.digits ∙ b.digits))
    ∙ value_of_eight w b.fits

one_of : {A : Type 0} (Spells : List ℕ → A → Type 0) → ((line : List ℕ) (x y : A) → Spells line x → Spells line y → x ≡ y)
    → (line : List ℕ) (xs ys : List A) → One Spells line xs → One Spells line ys → xs ≡ ys
one_of Spells one line xs ys a b = a.2 ∙ ap (λ x. x ∷ []) (one line a.0 b.0 a.1 b.1) ∙ sym b.2

same_pair : (text : List ℕ) (a b v w : ℕ) → SpellsPair text a v → SpellsPair text b w → (a ≡ b) × (v ≡ w)
same_pair text a b v w s t =
    let parts = pair_parts text s.addr_text (codes " " ++ s.value_text) b w s.whole (length-SpellsWord s.addr_text a s.spells_addr) t in (
      one_word s.addr_text a b s.spells_addr parts.spells_addr,
      one_word s.value_text v w s.spells_value (value_spelled s.value_text (codes " " ++ s.value_text) parts.value_text w refl parts.whole parts.spells_value),
    )

one_event : (line : List ℕ) (x y : Event) → SpellsEvent line x → SpellsEvent line y → x ≡ y
one_event line (Ld a v) (Ld b w) s t =
    let same = same_pair s.0 a b v w s.2 (rw (append_cancel_left (codes "ld ") s.0 t.0 (sym s.1 ∙ t.1)) t.2) in ap₂ Ld same.0 same.1
one_event line (Ld a v) (St b w) s t = absurd (other_word s.0 t.0 (sym s.1 ∙ t.1))
one_event line (St a v) (Ld b w) s t = absurd (other_word t.0 s.0 (sym t.1 ∙ s.1))
one_event line (St a v) (St b w) s t =
    let same = same_pair s.0 a b v w s.2 (rw (append_cancel_left (codes "st ") s.0 t.0 (sym s.1 ∙ t.1)) t.2) in ap₂ St same.0 same.1

-- pairs of characters are told apart where single ones are
one_list : {A : Type 0} (f g : A → ℕ) (P : A → Type 0) → ((x y : A) → P x → P y → f x ≡ f y → g x ≡ g y → x ≡ y)
    → (xs ys : List A) → All P xs → All P ys → pairs f g xs ≡ pairs f g ys → xs ≡ ys
one_list f g P one [] [] h k e = refl
one_list f g P one [] (y ∷ ys) h k e = let no : ⊥ = cc in absurd no
one_list f g P one (x ∷ xs) [] h k e = let no : ⊥ = cc in absurd no
one_list f g P one (x ∷ xs) (y ∷ ys) h k e =
    let first : f x ≡ f y = cc in
    let second : g x ≡ g y = cc in
    let others : pairs f g xs ≡ pairs f g ys = cc in
    ap₂ (λ z zs. z ∷ zs) (one x y (All-head P x xs h) (All-head P y ys k) first second)
    (one_list f g P one xs ys (All-tail P x xs h) (All-tail P y ys k) others)

one_byte : (a b : ℕ) → a < 256 → b < 256 → digit_char (a / 16) ≡ digit_char (b / 16) → digit_char (a % 16) ≡ digit_char (b % 16) → a ≡ b
one_byte a b h k e f =
    let high : a / 16 ≡ b / 16 = one_digit (a / 16) (b / 16) (omega arith) (omega arith) e in
    let lower : a % 16 ≡ b % 16 = one_digit (a % 16) (b % 16) (omega arith) (omega arith) f in
    omega arith

one_bytes : (text xs ys : List ℕ) → SpellsBytes text xs → SpellsBytes text ys → xs ≡ ys
one_bytes text xs ys s t =
    one_list (λ b. digit_char (b / 16)) (λ b. digit_char (b % 16)) (λ b. b < 256) one_byte xs ys s.fit t.fit (sym s.digits ∙ t.digits)

one_mark : (xs ys : List ℕ) (front back : List ℕ) (a b : Bool) → error_mark a ++ xs ≡ error_mark b ++ ys → SpellsBytes xs front → SpellsBytes ys back
    → 0 < length front → 0 < length back → (a ≡ b) × (xs ≡ ys)
one_mark xs ys front back true true e s t m n = (refl, append_cancel_left (error_mark true) xs ys e)
one_mark xs ys front back true false e s t m n = let h : SpellsBytes (error_mark true ++ xs) back = rw e t in absurd (no_mark xs back h n)
one_mark xs ys front back false true e s t m n = let h : SpellsBytes (error_mark true ++ ys) front = rw (← e) s in absurd (no_mark ys front h m)
one_mark xs ys front back false false e s t m n = (refl, e)

one_frame : (line : List ℕ) (x y : FrameContent) → SpellsFrame line x → SpellsFrame line y → x ≡ y
one_frame line x y s t =
    let same = one_mark s.digits t.digits x.bytes y.bytes x.error y.error (sym s.whole ∙ t.whole) s.bytes t.bytes s.some t.some in
    ap₂ (λ b e. record { bytes = b; error = e }) (one_bytes t.digits x.bytes y.bytes (rw (← same.1) s.bytes) t.bytes) same.0

-- the kind of a letter
kind_of : ℕ → Kind
kind_of n =
    cond (n == 70) Fetch (cond (n == 68) Decode (cond (n == 88) Execute (cond (n == 82) Ram (cond (n == 77) Mmio
    (cond (n == 87) Writeback (cond (n == 66) Boot (cond (n == 83) Shift Arrive)))))))

kind_of_letter : (kind : Kind) → kind_of (kind_letter kind) ≡ kind
unfolding kind_of
kind_of_letter Fetch = refl
kind_of_letter Decode = refl
kind_of_letter Execute = refl
kind_of_letter Ram = refl
kind_of_letter Mmio = refl
kind_of_letter Writeback = refl
kind_of_letter Boot = refl
kind_of_letter Shift = refl
kind_of_letter Arrive = refl

one_entry : (x y : Entry) → HasDigit x → HasDigit y → kind_letter x.kind ≡ kind_letter y.kind → 48 + x.worker ≡ 48 + y.worker → x ≡ y
one_entry x y h k e f =
    ap₂ (λ w n. record { worker = w; kind = n }) (omega (arith, f)) (sym (kind_of_letter x.kind) ∙ ap kind_of e ∙ kind_of_letter y.kind)

one_entries : (line : List ℕ) (xs ys : List Entry) → SpellsEntries line xs → SpellsEntries line ys → xs ≡ ys
one_entries line xs ys s t =
    one_list (λ e. kind_letter e.kind) (λ e. 48 + e.worker) HasDigit one_entry xs ys s.workers t.workers (sym s.text ∙ t.text)

pub one_trace : IsOneAnswer trace_form
one_trace = one_answer trace_form (one_of SpellsEvent one_event) (λ m n h k. tt)

pub one_replies : IsOneAnswer reply_form
one_replies = one_answer reply_form (one_of SpellsWord one_word) (λ m n h k. tt)

pub one_frames : IsOneAnswer frame_form
one_frames = one_answer frame_form (one_of SpellsFrame one_frame) (λ m n h k. omega arith)

pub one_log : IsOneAnswer log_form
one_log = one_answer log_form one_entries (λ m n h k. tt)
