-- What the lines of frames and logs say is in the ranges of a machine.
use Rattle.std.proofs.Common.{◌≡◌, ℕ, zero, suc, ◌+◌, ◌-◌, ◌*◌, ◌≤◌, Bool, true, false, List, [], ◌∷◌, ◌++◌, length, length-append, take, map, sym, ap, subst, ◌∙◌, arith, cond}
use Rattle.std.specs.Prelude.{◌==◌}
use Rattle.std.specs.List.{All, enumerate_from, filter, flat_map, onto_first, slice_index, slice_split}
use Rattle.std.specs.Str.Lines.{strip_carriage_return}
use Rattle.std.proofs.lemmas.List.Elements.{All-head, All-tail}
use Rattle.std.proofs.lemmas.List.{length-take-le}
use Rattle.lb_trace.specs.declared.Entry.{Entry}
use Rattle.lb_trace.specs.Frame.{FrameContent}
use Rattle.lb_board.specs.Script.{IsScript}
use Rattle.lb_machine.specs.Logs.{HasWorker, HaveWorkers}
use Rattle.lb_lines.specs.Lines.{has_bytes, lines_of, pieces_of}
use Rattle.lb_lines.specs.Form.{SpellAll}
use Rattle.lb_lines.specs.Forms.{One, SpellsEntries, SpellsFrame, frame_form, log_form}
use Rattle.lb_lines.specs.Log.{HasDigit, entry_text}
use Rattle.lb_sections.specs.Sections.{Part}
use Rattle.lb_system.specs.Questions.{SaysFrames, SaysLog}

-- ---- frames

-- each has at least one byte
all_some : (lines : List (ℕ × List ℕ)) (vs : List FrameContent) → SpellAll frame_form lines vs → All (λ f. 1 ≤ length f.bytes) vs
all_some [] vs h = subst (All (λ f. 1 ≤ length f.bytes)) (sym h) (λ k d below. absurd (omega (arith, below)))
all_some (line ∷ lines) vs h =
    let said : List FrameContent = h.0 in
    let rest : List FrameContent = h.1 in
    let spelled : One SpellsFrame line.1 said = h.3 in
    let frame : FrameContent = spelled.0 in
    let is : SpellsFrame line.1 frame = spelled.1 in
    let some : 1 ≤ length frame.bytes = omega (arith, is.some) in
    let one : vs ≡ frame ∷ rest = h.2 ∙ ap (λ s. s ++ rest) spelled.2 in
    subst (All (λ f. 1 ≤ length f.bytes)) (sym one) (cons_all frame rest some (all_some lines rest h.4))
  where
    cons_all : (f : FrameContent) (fs : List FrameContent) → 1 ≤ length f.bytes → All (λ f. 1 ≤ length f.bytes) fs → All (λ f. 1 ≤ length f.bytes) (f ∷ fs)
    cons_all f fs first all zero d below = first
    cons_all f fs first all (suc k) d below = all k d (omega (arith, below))

pub said_script : (part : Part) (frames : List FrameContent) → SaysFrames part frames → IsScript frames
said_script part frames h =
    (h.few, λ k d below. (all_some (lines_of part.line part.text) frames h.spelled k d below, h.short k d below))

-- ---- logs

pub said_workers : (part : Part) (log : List Entry) → SaysLog part log → HaveWorkers log
said_workers part log h = go (lines_of part.line part.text) log h.spelled
  where
    one_more : (x : Entry) (xs : List Entry) → HasWorker x → All HasWorker xs → All HasWorker (x ∷ xs)
    one_more x xs first rest zero d below = first
    one_more x xs first rest (suc k) d below = rest k d (omega (arith, below))

    both : (xs ys : List Entry) → All HasDigit xs → All HasWorker ys → All HasWorker (xs ++ ys)
    both [] ys digits workers = workers
    both (x ∷ xs) ys digits workers =
        let digit = All-head HasDigit x xs digits in
        one_more x (xs ++ ys) (omega (arith, digit)) (both xs ys (All-tail HasDigit x xs digits) workers)

    go : (lines : List (ℕ × List ℕ)) (vs : List Entry) → SpellAll log_form lines vs → All HasWorker vs
    go [] vs h = subst (All HasWorker) (sym h) (λ k d below. absurd (omega (arith, below)))
    go (line ∷ lines) vs h =
        let said : List Entry = h.0 in
        let rest : List Entry = h.1 in
        let spelled : SpellsEntries line.1 said = h.3 in
        subst (All HasWorker) (sym h.2) (both said rest spelled.workers (go lines rest h.4))

-- the bytes of lines
abbrev bytes_in : List (ℕ × List ℕ) → ℕ
bytes_in [] = 0
bytes_in (line ∷ lines) = length line.1 + bytes_in lines

abbrev bytes_of : List (List ℕ) → ℕ
bytes_of [] = 0
bytes_of (piece ∷ pieces) = length piece + bytes_of pieces

entries_length : (log : List Entry) → length (flat_map entry_text log) ≡ 2 * length log
entries_length [] = omega arith
entries_length (e ∷ es) = omega (arith, entries_length es)

-- a log has no more entries than its lines have bytes
spelled_within : (lines : List (ℕ × List ℕ)) (vs : List Entry) → SpellAll log_form lines vs → length vs ≤ bytes_in lines
spelled_within [] vs h = omega (arith, ap length h)
spelled_within (line ∷ lines) vs h =
    let said : List Entry = h.0 in
    let rest : List Entry = h.1 in
    let spelled : SpellsEntries line.1 said = h.3 in
    omega (arith, ap length h.2, length-append said rest, ap length spelled.text, entries_length said, spelled_within lines rest h.4)

filtered_within : (lines : List (ℕ × List ℕ)) → bytes_in (filter has_bytes lines) ≤ bytes_in lines
filtered_within [] = omega arith
filtered_within (line ∷ lines) = go (has_bytes line) (filtered_within lines)
  where
    go : (b : Bool) → bytes_in (filter has_bytes lines) ≤ bytes_in lines
        → bytes_in (cond b (line ∷ filter has_bytes lines) (filter has_bytes lines)) ≤ bytes_in (line ∷ lines)
    go true h = omega (arith, h)
    go false h = omega (arith, h)

numbered_bytes : (n : ℕ) (pieces : List (List ℕ)) → bytes_in (enumerate_from n pieces) ≡ bytes_of pieces
numbered_bytes n [] = omega arith
numbered_bytes n (piece ∷ pieces) = omega (arith, numbered_bytes (n + 1) pieces)

stripped_within : (pieces : List (List ℕ)) → bytes_of (map strip_carriage_return pieces) ≤ bytes_of pieces
stripped_within [] = omega arith
stripped_within (piece ∷ pieces) = omega (arith, go (slice_index piece (length piece - 1) == 13), stripped_within pieces)
  where
    go : (b : Bool) → length (cond b (take (length piece - 1) piece) piece) ≤ length piece
    go true = omega (arith, length-take-le (length piece - 1) piece (omega arith))
    go false = omega arith

onto_bytes : (b : ℕ) (pieces : List (List ℕ)) → bytes_of (onto_first b pieces) ≤ bytes_of pieces + 1
onto_bytes b [] = omega arith
onto_bytes b (piece ∷ pieces) = omega arith

split_within : (text : List ℕ) → bytes_of (slice_split (λ b. b == 10) text) ≤ length text
split_within [] = omega arith
split_within (b ∷ bs) = go (b == 10) (split_within bs)
  where
    go : (end : Bool) → bytes_of (slice_split (λ b. b == 10) bs) ≤ length bs
        → bytes_of (cond end ([] ∷ slice_split (λ b. b == 10) bs) (onto_first b (slice_split (λ b. b == 10) bs))) ≤ length (b ∷ bs)
    go true h = omega (arith, h)
    go false h = omega (arith, h, onto_bytes b (slice_split (λ b. b == 10) bs))

-- a log has no more entries than its text has bytes
pub said_within : (part : Part) (log : List Entry) → SaysLog part log → length log ≤ length part.text
said_within part log h =
    let spelled = spelled_within (lines_of part.line part.text) log h.spelled in
    let filtered = filtered_within (enumerate_from part.line (pieces_of part.text)) in
    let numbered = numbered_bytes part.line (pieces_of part.text) in
    let stripped = stripped_within (slice_split (λ b. b == 10) part.text) in
    omega (arith, spelled, filtered, numbered, stripped, split_within part.text)
