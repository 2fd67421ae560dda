-- The lines of a trace.
use Rattle.std.proofs.Common.{◌≡◌, ℕ, ◌==◌, true, false, List, ◌++◌, length, take, drop, get_or, codes, sym, ap, ◌∙◌}
use Rattle.std.proofs.lemmas.List.{take_at, drop_at, length-map, append_cancel_left}
use Rattle.std.specs.Char.{to_ascii_lowercase}
use Rattle.lb_trace.specs.declared.Event.{Event}
use Rattle.lb_trace.specs.declared.Event.TheVariants.{Ld, St}
use Rattle.lb_lines.specs.Digits.{SpellsWord}
use Rattle.lb_lines.specs.Forms.{SpellsPair, SpellsEvent}

pub length-SpellsWord : (text : List ℕ) (word : ℕ) → SpellsWord text word → length text ≡ 8
length-SpellsWord text word s = sym (length-map text to_ascii_lowercase) ∙ ap length s.digits

-- the address is the first eight characters, and the value follows a space
pub record AreParts (front rest : List ℕ) (addr value : ℕ) : Type 0 where
  pub value_text : List ℕ
  pub whole : rest ≡ codes " " ++ value_text
  pub spells_addr : SpellsWord front addr
  pub spells_value : SpellsWord value_text value

pub pair_parts : (text front rest : List ℕ) (addr value : ℕ) → text ≡ front ++ rest → length front ≡ 8 → SpellsPair text addr value → AreParts front rest addr value
pair_parts text front rest addr value e len s =
    let long : length s.addr_text ≡ 8 = length-SpellsWord s.addr_text addr s.spells_addr in
    let same : front ≡ s.addr_text = sym (take_at front rest 8 len) ∙ ap (take 8) (sym e ∙ s.whole) ∙ take_at s.addr_text (codes " " ++ s.value_text) 8 long in
    record {
      value_text = s.value_text;
      whole = sym (drop_at front rest 8 len) ∙ ap (drop 8) (sym e ∙ s.whole) ∙ drop_at s.addr_text (codes " " ++ s.value_text) 8 long;
      spells_addr = rw same s.spells_addr;
      spells_value = s.spells_value;
    }

-- a line of no read and no write is no event's
pub no_event : (line : List ℕ) → ((pair : List ℕ) (addr value : ℕ) → line ≡ codes "ld " ++ pair → SpellsPair pair addr value → ⊥)
    → ((pair : List ℕ) (addr value : ℕ) → line ≡ codes "st " ++ pair → SpellsPair pair addr value → ⊥) → (e : Event) → SpellsEvent line e → ⊥
no_event line no_ld no_st (Ld addr value) s = no_ld s.0 addr value s.1 s.2
no_event line no_ld no_st (St addr value) s = no_st s.0 addr value s.1 s.2

pub other_word : (xs ys : List ℕ) → codes "ld " ++ xs ≡ codes "st " ++ ys → ⊥
other_word xs ys e = let first : true ≡ false = ap (λ l. get_or l 0 0 == 108) e in cc

-- a word that is followed by no pair
pub no_read : (line rest : List ℕ) → line ≡ codes "ld " ++ rest → ((addr value : ℕ) → SpellsPair rest addr value → ⊥) → (e : Event) → SpellsEvent line e → ⊥
no_read line rest e none = no_event line
    (λ pair addr value e' s. none addr value (rw (append_cancel_left (codes "ld ") rest pair (sym e ∙ e')) s))
    (λ pair addr value e' s. other_word rest pair (sym e ∙ e'))

pub no_write : (line rest : List ℕ) → line ≡ codes "st " ++ rest → ((addr value : ℕ) → SpellsPair rest addr value → ⊥) → (e : Event) → SpellsEvent line e → ⊥
no_write line rest e none = no_event line
    (λ pair addr value e' s. other_word pair rest (sym e' ∙ e))
    (λ pair addr value e' s. none addr value (rw (append_cancel_left (codes "st ") rest pair (sym e ∙ e')) s))

-- what follows the space is the value's text
pub value_spelled : (text rest others : List ℕ) (value : ℕ) → rest ≡ codes " " ++ text → rest ≡ codes " " ++ others → SpellsWord others value → SpellsWord text value
value_spelled text rest others value e e' s = rw (append_cancel_left (codes " ") text others (sym e ∙ e')) s
