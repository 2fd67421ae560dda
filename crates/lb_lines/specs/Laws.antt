-- Laws of what texts say.
use Rattle.std.specs.Prelude.{◌≡◌, ℕ, ◌^◌, ◌<◌, List, All}
use Rattle.lb_trace.specs.declared.Event.{Event}
use Rattle.lb_trace.specs.declared.Event.TheVariants.{Ld, St}
use Rattle.lb_trace.specs.declared.Entry.{Entry}
use Rattle.lb_trace.specs.TraceText.{trace_text}
use Rattle.lb_lines.specs.declared.fault.LineFault.{LineFault}
use Rattle.lb_lines.specs.Lines.{lines_of}
use Rattle.lb_lines.specs.Form.{Form, Say, IsFirstOutside}
use Rattle.lb_lines.specs.Forms.{trace_form, log_form}
use Rattle.lb_lines.specs.Log.{HasDigit, IsLogText}

-- the address and the value are words
abbrev pub HasWords : Event → Type 0
HasWords (Ld addr value) = (addr < 2 ^ 32) × (value < 2 ^ 32)
HasWords (St addr value) = (addr < 2 ^ 32) × (value < 2 ^ 32)

-- a printed trace says its events
abbrev pub TraceSaysItself : Type 0
TraceSaysItself =
    (first : ℕ) (events : List Event) → All HasWords events
    → Say trace_form (lines_of first (trace_text events)) events

-- a printed log says its entries
abbrev pub LogSaysItself : Type 0
LogSaysItself =
    (first : ℕ) (log : List Entry) (text : List ℕ) → All HasDigit log → IsLogText log text
    → Say log_form (lines_of first text) log

-- lines say at most one list of values and have at most one first line outside the form, and never both
pub record IsOneAnswer {A : Type 0} (form : Form A) : Type 0 where
  pub one_list : (lines : List (ℕ × List ℕ)) (xs ys : List A)
      → Say form lines xs → Say form lines ys → xs ≡ ys
  pub not_both : (lines : List (ℕ × List ℕ)) (xs : List A) (fault : LineFault)
      → Say form lines xs → IsFirstOutside form lines fault → ⊥
  pub one_fault : (lines : List (ℕ × List ℕ)) (f g : LineFault)
      → IsFirstOutside form lines f → IsFirstOutside form lines g → f ≡ g
