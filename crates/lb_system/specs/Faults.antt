-- The status and the line of each fault.
use Rattle.std.specs.Prelude.{◌≡◌, ℕ, ◌++◌, Option, Some, None, codes, decimal}
use Rattle.lb_syntax.specs.Names.{Text}
use Rattle.lb_spelling.specs.declared.fault.TextKind.{TextKind}
use Rattle.lb_spelling.specs.declared.fault.TextKind.TheVariants as kind
use Rattle.lb_words.specs.declared.read.JobError.{JobError}
use Rattle.lb_words.specs.declared.read.JobError.TheVariants as words
use Rattle.lb_ports.specs.declared.whole.ReadAllFault.{ReadAllFault}
use Rattle.lb_ports.specs.declared.whole.ReadAllFault.TheVariants as input
use Rattle.lb_sections.specs.declared.cut.SectionsError.{SectionsError}
use Rattle.lb_sections.specs.declared.cut.SectionsError.TheVariants as cut
use Rattle.lb_text.specs.declared.error.ReadError.{ReadError}
use Rattle.lb_text.specs.declared.error.ReadError.TheVariants as text
use Rattle.lb_check.specs.declared.fault.CheckError.{CheckError}
use Rattle.lb_check.specs.declared.fault.CheckError.TheVariants as check
use Rattle.lb_check.specs.declared.fault.CheckFault.{CheckFault}
use Rattle.lb_check.specs.declared.fault.CheckFault.TheVariants as rule
use Rattle.lb_image.specs.declared.error.ImageError.{ImageError}
use Rattle.lb_image.specs.declared.error.ImageError.TheVariants as bytes
use Rattle.lb_image.specs.declared.error.ImageKind.{ImageKind}
use Rattle.lb_image.specs.declared.error.ImageKind.TheVariants as image
use Rattle.lb_lines.specs.declared.fault.LineError.{LineError}
use Rattle.lb_lines.specs.declared.fault.LineError.TheVariants as lines
use Rattle.lb_lines.specs.declared.fault.LineKind.{LineKind}
use Rattle.lb_lines.specs.declared.fault.LineKind.TheVariants as line
use Rattle.lb_system.specs.declared.fault.FormFault.{FormFault}
use Rattle.lb_system.specs.declared.fault.FormFault.TheVariants as form
use Rattle.lb_system.specs.declared.fault.Fault.{Fault}
use Rattle.lb_system.specs.declared.fault.Fault.TheVariants as fault

-- the status that a call ends with
abbrev pub status_of : Option Fault → ℕ
status_of None = 0
status_of (Some fault.Usage) = 1
status_of (Some (fault.Text _)) = 2
status_of (Some (fault.Check _)) = 3
status_of (Some (fault.Limit _)) = 4
status_of (Some (fault.Form _)) = 5
status_of (Some fault.Read) = 6
status_of (Some fault.Write) = 7
status_of (Some fault.TooLong) = 8
status_of (Some fault.Memory) = 9

-- the rule is one of the three on what a program may ask for
abbrev pub IsLimit : CheckFault → Type 0
IsLimit (rule.FrameNeed _ _) = Unit {0}
IsLimit (rule.CodeNeed _) = Unit {0}
IsLimit (rule.StackNeed _) = Unit {0}
IsLimit _ = ⊥

-- ---- the fault that the error of a part is

-- of words that ask for nothing
abbrev pub words_fault : JobError → Fault
words_fault words.Usage = fault.Usage
words_fault words.Memory = fault.Memory

-- of an input that isn't read
abbrev pub input_fault : ReadAllFault → Fault
input_fault input.Read = fault.Read
input_fault input.TooLong = fault.TooLong
input_fault input.Memory = fault.Memory

-- of an input that isn't cut
abbrev pub sections_fault : SectionsError → Fault
sections_fault (cut.TooMany line) = fault.Form (form.Section line)
sections_fault cut.Memory = fault.Memory

-- of a text that is no program's
abbrev pub text_fault : ReadError → Fault
text_fault (text.Text f) = fault.Text f
text_fault text.Memory = fault.Memory

-- of a broken rule
abbrev pub IsRuleFault : CheckFault → Fault → Type 0
IsRuleFault f (fault.Check g) = (g ≡ f) × (¬ (IsLimit f))
IsRuleFault f (fault.Limit g) = (g ≡ f) × IsLimit f
IsRuleFault f _ = ⊥

-- of a program that isn't checked
abbrev pub IsCheckFault : CheckError → Fault → Type 0
IsCheckFault (check.Fault f) g = IsRuleFault f g
IsCheckFault check.Memory g = g ≡ fault.Memory

-- of lines that aren't in form
abbrev pub lines_fault : LineError → Fault
lines_fault (lines.Line f) = fault.Form (form.Line f)
lines_fault lines.Memory = fault.Memory

-- of bytes that are no image's
abbrev pub image_fault : ImageError → Fault
image_fault (bytes.Fault f) = fault.Form (form.Image f)
image_fault bytes.Memory = fault.Memory

-- ---- the line

-- how a text leaves the grammar, in a word
abbrev pub kind_text : TextKind → Text
kind_text kind.Ended = codes "ended"
kind_text kind.BadByte = codes "bad-byte"
kind_text kind.TooDeep = codes "too-deep"
kind_text kind.NumberTooWide = codes "number-too-wide"
kind_text kind.NameTooLong = codes "name-too-long"
kind_text kind.Unexpected = codes "unexpected"

-- the rule that is broken, in a word
abbrev pub rule_word : CheckFault → Text
rule_word (rule.TooManyFunctions _) = codes "too-many-functions"
rule_word (rule.DuplicateFunction _) = codes "duplicate-function"
rule_word (rule.DuplicateName _ _) = codes "duplicate-name"
rule_word rule.NoInit = codes "no-init"
rule_word rule.NoLoop = codes "no-loop"
rule_word (rule.EntryShape _) = codes "entry-shape"
rule_word (rule.TooManyParams _ _) = codes "too-many-params"
rule_word (rule.BadAllocSize _ _) = codes "bad-alloc-size"
rule_word (rule.UnknownFunction _ _) = codes "unknown-function"
rule_word (rule.WrongArity _ _) = codes "wrong-arity"
rule_word (rule.DuplicateTarget _ _) = codes "duplicate-target"
rule_word (rule.BadIo _) = codes "bad-io"
rule_word (rule.Recursion _) = codes "recursion"
rule_word (rule.FrameNeed _ _) = codes "frame-need"
rule_word (rule.CodeNeed _) = codes "code-need"
rule_word (rule.StackNeed _) = codes "stack-need"

-- the function in which a rule is broken
abbrev pub function_part : Text → Text
function_part function = codes " function " ++ function

-- the name that breaks it
abbrev pub name_part : Text → Text
name_part name = codes " name " ++ name

-- a number of bytes
abbrev pub bytes_part : ℕ → Text
bytes_part n = codes " bytes " ++ decimal n

-- how many there are of what is counted
abbrev pub count_part : ℕ → Text
count_part n = codes " count " ++ decimal n

-- a number of words
abbrev pub words_part : ℕ → Text
words_part n = codes " words " ++ decimal n

-- where a rule is broken and by how much
abbrev pub rule_place : CheckFault → Text
rule_place (rule.TooManyFunctions count) = count_part count
rule_place (rule.DuplicateFunction function) = function_part function
rule_place (rule.DuplicateName function name) = function_part function ++ name_part name
rule_place rule.NoInit = codes ""
rule_place rule.NoLoop = codes ""
rule_place (rule.EntryShape function) = function_part function
rule_place (rule.TooManyParams function count) = function_part function ++ count_part count
rule_place (rule.BadAllocSize function bytes) = function_part function ++ bytes_part bytes
rule_place (rule.UnknownFunction function name) = function_part function ++ name_part name
rule_place (rule.WrongArity function name) = function_part function ++ name_part name
rule_place (rule.DuplicateTarget function name) = function_part function ++ name_part name
rule_place (rule.BadIo function) = function_part function
rule_place (rule.Recursion function) = function_part function
rule_place (rule.FrameNeed function bytes) = function_part function ++ bytes_part bytes
rule_place (rule.CodeNeed words) = words_part words
rule_place (rule.StackNeed bytes) = bytes_part bytes

-- a broken rule: its word, and where
abbrev pub rule_text : CheckFault → Text
rule_text f = rule_word f ++ rule_place f

-- how a line leaves its form, in a word
abbrev pub line_text : LineKind → Text
line_text line.Malformed = codes "malformed"
line_text line.TooLong = codes "too-long"
line_text line.TooMany = codes "too-many"

-- what is wrong with an image, in a word
abbrev pub image_text : ImageKind → Text
image_text image.BadMagic = codes "bad-magic"
image_text image.BadVersion = codes "bad-version"
image_text image.BadCode = codes "bad-code"
image_text image.BadLayout = codes "bad-layout"
image_text image.Truncated = codes "truncated"
image_text image.Extra = codes "extra"

-- an input that isn't in form: where, and how
abbrev pub form_text : FormFault → Text
form_text (form.Section n) = codes "section line " ++ decimal n
form_text (form.Line f) = codes "line " ++ (decimal f.line ++ (codes " " ++ line_text f.kind))
form_text (form.Event at) = codes "event " ++ (decimal at ++ (codes " " ++ codes "guard false"))
form_text (form.Image f) = codes "image at " ++ (decimal f.at ++ (codes " " ++ image_text f.kind))

-- the line that is written in place of a report; a write that was refused has none
abbrev pub fault_line : Fault → Text
fault_line fault.Usage =
    codes "usage: bulb MODE [--events N] [--workers W] [--seed S] [--log] [--trace]\n"
fault_line (fault.Text f) =
    codes "text at " ++ (decimal f.at ++ (codes " " ++ (kind_text f.kind ++ codes "\n")))
fault_line (fault.Check f) = codes "check " ++ (rule_text f ++ codes "\n")
fault_line (fault.Limit f) = codes "limit " ++ (rule_text f ++ codes "\n")
fault_line (fault.Form f) = form_text f ++ codes "\n"
fault_line fault.Read = codes "read fault\n"
fault_line fault.Write = codes ""
fault_line fault.TooLong = codes "input over 1048576 bytes\n"
fault_line fault.Memory = codes "memory\n"

-- the line isn't the same at all times, so it takes memory to make it
abbrev pub TakesMemory : Fault → Type 0
TakesMemory (fault.Text _) = Unit {0}
TakesMemory (fault.Check _) = Unit {0}
TakesMemory (fault.Limit _) = Unit {0}
TakesMemory (fault.Form _) = Unit {0}
TakesMemory _ = ⊥
