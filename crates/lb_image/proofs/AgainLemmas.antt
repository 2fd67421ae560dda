-- The bytes of an image are read as that image.
use Rattle.std.proofs.Common.{◌≡◌, ℕ, ◌+◌, ◌-◌, ◌*◌, ◌/◌, ◌^◌, ◌<◌, ◌≤◌, true, false, Bool, cond, nat_lt, List, [], ◌∷◌, ◌++◌, length, Result, Ok, Err, refl, sym, ap, ◌∙◌, arith, append_assoc, append-nil, le-ltb}
use Rattle.std.specs.List.{flat_map, AllByRecursion}
use Rattle.std.proofs.lemmas.List.Elements.{recursion_from_All}
use Rattle.std.proofs.lemmas.Grind.{flat_map-append}
use Rattle.lb_memory.specs.declared.TheConstants.{MOST_STACK}
use Rattle.lb_syntax.specs.declared.limits.TheConstants.{MOST_FUNCTIONS, MOST_WORDS}
use Rattle.lb_syntax.specs.declared.layout.FrameLayout.{FrameLayout}
use Rattle.lb_syntax.specs.WellFormed.{IsWord}
use Rattle.lb_word.specs.Bytes.{bytes_of_word, word_of_bytes}
use Rattle.lb_word.proofs.ByteLemmas.{word_of_bytes-bytes_of_word}
use Rattle.lb_image.specs.declared.error.ImageFault.{ImageFault}
use Rattle.lb_image.specs.declared.error.ImageKind.TheVariants.{Truncated}
use Rattle.lb_image.specs.declared.field.Field.{Field}
use Rattle.lb_image.specs.declared.image.Image.{Image}
use Rattle.lb_image.specs.declared.reading.Header.{Header}
use Rattle.lb_image.specs.Images.{magic, version, frame_words, image_bytes, IsFrame, IsInRange, IsImage, IsMultipleBelow}
use Rattle.lb_image.specs.Fields.{is_in, fault, magic_field, version_field, words_field, entry_field, functions_field, size_field, sites_field, site_field, code_field}
use Rattle.lb_image.specs.InternalReading.{◌>>=◌, field_at, repeat_at, frame_at, header_at, image_at}
use Rattle.lb_image.proofs.RangeLemmas.{is_in_numbers, is_in_multiples}
use Rattle.lb_image.proofs.ResultLemmas.{bind_from}
use Rattle.lb_image.proofs.RepeatLemmas.{joined, with_first}
use Rattle.lb_image.proofs.FrameLemmas.{with_size, with_count, with_sites}
use Rattle.lb_image.proofs.HeaderLemmas as header
use Rattle.lb_image.proofs.ImageLemmas.{with_header, with_frames, with_code}

-- a word that a field may have
abbrev Suits : Field → ℕ → Type 0
Suits f w = (w < 2 ^ 32) × (is_in f.range w ≡ true)

field_again : (len : ℕ) (f : Field) (w : ℕ) (rest : List ℕ) → Suits f w → field_at len f (bytes_of_word w ++ rest) ≡ Ok (w, rest)
field_again len f w rest h =
    let bytes = bytes_of_word w ++ rest in
    let long : nat_lt (length bytes) 4 ≡ false = le-ltb (length bytes) 4 (omega arith) in
    let same : word_of_bytes (bytes_of_word w) ≡ w = word_of_bytes-bytes_of_word w h.0 in
    let bad : Result (ℕ × List ℕ) ImageFault = Err (fault (len - length bytes) f.kind) in
    let choose : Bool → ℕ → Result (ℕ × List ℕ) ImageFault = λ b v. cond b (Ok (v, rest)) bad in
    ap (λ (b : Bool). cond b (Err (fault len Truncated)) (choose (is_in f.range (word_of_bytes (bytes_of_word w))) (word_of_bytes (bytes_of_word w)))) long
    ∙ ap (λ (v : ℕ). choose (is_in f.range v) v) same
    ∙ ap (λ (b : Bool). choose b w) h.1

repeat_again : {A : Type 0} (read : List ℕ → Result (A × List ℕ) ImageFault) (spelling : A → List ℕ) (P : A → Type 0)
    → ((x : A) (rest : List ℕ) → P x → read (spelling x ++ rest) ≡ Ok (x, rest)) → (xs : List A) (rest : List ℕ) → AllByRecursion P xs
    → repeat_at read (length xs) (flat_map spelling xs ++ rest) ≡ Ok (xs, rest)
unfolding repeat_at
repeat_again read spelling P again [] rest h = refl
repeat_again {A} read spelling P again (x ∷ xs) rest h =
    let behind = flat_map spelling xs ++ rest in
    ap (λ (bytes : List ℕ). read bytes >>= with_first read (length xs)) (append_assoc (spelling x) (flat_map spelling xs) rest)
    ∙ bind_from (read (spelling x ++ behind)) (x, behind) (with_first read (length xs)) (again x behind h.0)
    ∙ bind_from (repeat_at read (length xs) behind) (xs, rest) (joined x) (repeat_again read spelling P again xs rest h.1)

fields_again : (len : ℕ) (f : Field) (ws rest : List ℕ) → AllByRecursion (Suits f) ws → repeat_at (field_at len f) (length ws) (flat_map bytes_of_word ws ++ rest) ≡ Ok (ws, rest)
fields_again len f ws rest h = repeat_again (field_at len f) bytes_of_word (Suits f) (λ w rest suits. field_again len f w rest suits) ws rest h

-- ---- frames

sites_suit : (size : ℕ) (ws : List ℕ) → size < 2 ^ 32 → AllByRecursion (IsMultipleBelow size) ws → AllByRecursion (Suits (site_field size)) ws
sites_suit size [] small h = tt
sites_suit size (w ∷ ws) small h = ((omega (arith, h.0.1), is_in_multiples size w h.0), sites_suit size ws small h.1)

abbrev frame_bytes : FrameLayout → List ℕ
frame_bytes frame = flat_map bytes_of_word (frame_words frame)

frame_again : (len : ℕ) (frame : FrameLayout) (rest : List ℕ) → IsFrame frame → frame_at len (frame_bytes frame ++ rest) ≡ Ok (frame, rest)
unfolding frame_at
frame_again len frame rest h =
    let n = length frame.sites in
    let sites = flat_map bytes_of_word frame.sites ++ rest in
    let count = bytes_of_word n ++ sites in
    let small : frame.size < 2 ^ 32 = omega (arith, h.small) in
    let size_suits : Suits size_field frame.size = (small, is_in_multiples (MOST_STACK + 1) frame.size (h.whole, omega (arith, h.small))) in
    let quarter : n ≤ frame.size / 4 = omega (arith, h.few) in
    let count_suits : Suits (sites_field frame.size) n = (omega (arith, h.few, h.small), is_in_numbers 0 (frame.size / 4) n (omega arith) quarter) in
    bind_from (field_at len size_field (bytes_of_word frame.size ++ count)) (frame.size, count) (with_size len) (field_again len size_field frame.size count size_suits)
    ∙ bind_from (field_at len (sites_field frame.size) count) (n, sites) (with_count len frame.size) (field_again len (sites_field frame.size) n sites count_suits)
    ∙ bind_from (repeat_at (field_at len (site_field frame.size)) n sites) (frame.sites, rest) (with_sites frame.size)
    (fields_again len (site_field frame.size) frame.sites rest (sites_suit frame.size frame.sites small (recursion_from_All (IsMultipleBelow frame.size) frame.sites h.inside)))

frames_again : (len : ℕ) (frames : List FrameLayout) (rest : List ℕ) → AllByRecursion IsFrame frames
    → repeat_at (frame_at len) (length frames) (flat_map frame_bytes frames ++ rest) ≡ Ok (frames, rest)
frames_again len frames rest h = repeat_again (frame_at len) frame_bytes IsFrame (λ frame rest fits. frame_again len frame rest fits) frames rest h

bytes_of_frames : (frames : List FrameLayout) → flat_map bytes_of_word (flat_map frame_words frames) ≡ flat_map frame_bytes frames
bytes_of_frames [] = refl
bytes_of_frames (frame ∷ frames) =
    flat_map-append bytes_of_word (frame_words frame) (flat_map frame_words frames)
    ∙ ap (λ (t : List ℕ). frame_bytes frame ++ t) (bytes_of_frames frames)

-- ---- the header and the image

header_again : (len : ℕ) (i : Image) (rest : List ℕ) → IsInRange i →
    header_at len (flat_map bytes_of_word (magic ∷ version ∷ length i.code ∷ i.entry ∷ length i.layout.frames ∷ []) ++ rest)
    ≡ Ok (record { words = length i.code; entry = i.entry; functions = length i.layout.frames }, rest)
unfolding header_at
header_again len i rest h =
    let words = length i.code in
    let functions = length i.layout.frames in
    let r4 = bytes_of_word functions ++ rest in
    let r3 = bytes_of_word i.entry ++ r4 in
    let r2 = bytes_of_word words ++ r3 in
    let r1 = bytes_of_word version ++ r2 in
    let magic_suits : Suits magic_field magic = (omega arith, refl) in
    let version_suits : Suits version_field version = (omega arith, refl) in
    let words_suit : Suits words_field words = (omega (arith, h.few), is_in_numbers 1 MOST_WORDS words h.some h.few) in
    let entry_suits : Suits (entry_field words) i.entry = (omega (arith, h.entry.1, h.few), is_in_multiples (4 * words) i.entry h.entry) in
    let functions_suit : Suits functions_field functions = (omega (arith, h.functions), is_in_numbers 0 MOST_FUNCTIONS functions (omega arith) h.functions) in
    bind_from (field_at len magic_field (bytes_of_word magic ++ r1)) (magic, r1) (header.with_first len) (field_again len magic_field magic r1 magic_suits)
    ∙ bind_from (field_at len version_field r1) (version, r2) (header.with_second len) (field_again len version_field version r2 version_suits)
    ∙ bind_from (field_at len words_field r2) (words, r3) (header.with_words len) (field_again len words_field words r3 words_suit)
    ∙ bind_from (field_at len (entry_field words) r3) (i.entry, r4) (header.with_entry len words) (field_again len (entry_field words) i.entry r4 entry_suits)
    ∙ bind_from (field_at len functions_field r4) (functions, rest) (header.with_functions words i.entry) (field_again len functions_field functions rest functions_suit)

words_suit : (ws : List ℕ) → AllByRecursion IsWord ws → AllByRecursion (Suits code_field) ws
words_suit [] h = tt
words_suit (w ∷ ws) h = ((h.0, is_in_numbers 0 (2 ^ 32 - 1) w (omega arith) (omega (arith, h.0))), words_suit ws h.1)

abbrev first_words : Image → List ℕ
first_words i = magic ∷ version ∷ length i.code ∷ i.entry ∷ length i.layout.frames ∷ []

-- the bytes of the header, the frames and the code
image_bytes_are : (i : Image) → image_bytes i ≡ flat_map bytes_of_word (first_words i) ++ (flat_map frame_bytes i.layout.frames ++ flat_map bytes_of_word i.code)
image_bytes_are i =
    let frames = flat_map frame_words i.layout.frames in
    let header_bytes = flat_map bytes_of_word (first_words i) in
    ap (λ (t : List ℕ). header_bytes ++ t) (flat_map-append bytes_of_word frames i.code)
    ∙ ap (λ (t : List ℕ). header_bytes ++ (t ++ flat_map bytes_of_word i.code)) (bytes_of_frames i.layout.frames)

image_at_again : (len : ℕ) (i : Image) → IsImage i →
    (header_at len (flat_map bytes_of_word (first_words i) ++ (flat_map frame_bytes i.layout.frames ++ flat_map bytes_of_word i.code)) >>= with_header len) ≡ Ok i
image_at_again len i is =
    let h : Header = record { words = length i.code; entry = i.entry; functions = length i.layout.frames } in
    let code = flat_map bytes_of_word i.code in
    let nothing : List ℕ = [] in
    let behind = flat_map frame_bytes i.layout.frames ++ code in
    let read_code = fields_again len code_field i.code [] (words_suit i.code (recursion_from_All IsWord i.code is.words)) in
    let code_is : repeat_at (field_at len code_field) (length i.code) code ≡ Ok (i.code, nothing) =
    ap (λ (t : List ℕ). repeat_at (field_at len code_field) (length i.code) t) (sym (append-nil code)) ∙ read_code in
    bind_from (header_at len (flat_map bytes_of_word (first_words i) ++ behind)) (h, behind) (with_header len) (header_again len i behind is.range)
    ∙ bind_from (repeat_at (frame_at len) (length i.layout.frames) behind) (i.layout.frames, code) (with_frames len h)
    (frames_again len i.layout.frames code (recursion_from_All IsFrame i.layout.frames is.range.frames))
    ∙ bind_from (repeat_at (field_at len code_field) (length i.code) code) (i.code, nothing) (with_code len h i.layout.frames) code_is

pub image_again : (i : Image) → IsImage i → image_at (image_bytes i) ≡ Ok i
unfolding image_at
image_again i is =
    let len = length (image_bytes i) in
    ap (λ (t : List ℕ). header_at len t >>= with_header len) (image_bytes_are i) ∙ image_at_again len i is
