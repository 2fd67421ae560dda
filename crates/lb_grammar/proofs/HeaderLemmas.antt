-- What was seen of a packet's words says what its bytes say.
use Rattle.std.proofs.Common.{◌≡◌, ℕ, ◌*◌, ◌%◌, ◌≤◌, ◌<◌, min, ◌==◌, ◌&&◌, not, nat_le, Bool, true, false, IsTrue, List, [], ◌∷◌, length, slice_index, flat_map, refl, sym, ap, ◌∙◌, arith}
use Rattle.std.proofs.lemmas.Bool.Decides.{nat_tests}
use Rattle.std.proofs.lemmas.List.{get_or-take, length-take}
use Rattle.lb_word.specs.Bytes.{bytes_of_word}
use Rattle.lb_grammar.specs.declared.packet.Header.{Header}
use Rattle.lb_grammar.specs.Packet.{is_udp, command}
use Rattle.lb_grammar.specs.Grammar.{length_of, has_error, word_count, packet_bytes, is_valid_packet}
use Rattle.lb_grammar.specs.InternalRounding.{nothing_seen, see_all, looks_udp, looks_valid, command_seen}

abbrev all_bytes : List ℕ → List ℕ
all_bytes ws = flat_map bytes_of_word ws

abbrev seen : ℕ → ℕ → ℕ → Header
seen third fifth tenth = record { count = 11; type_word = third; protocol_word = fifth; command_word = tenth }

-- from the eleventh word on nothing changes
seen_whole : (third fifth tenth : ℕ) (ws : List ℕ) → see_all (seen third fifth tenth) ws ≡ seen third fifth tenth
seen_whole third fifth tenth [] = refl
seen_whole third fifth tenth (w ∷ ws) = seen_whole third fifth tenth ws

record Agrees (ws : List ℕ) : Type 0 where
  udp : looks_udp (see_all nothing_seen ws) ≡ is_udp (all_bytes ws)
  command : command_seen (see_all nothing_seen ws) ≡ command (all_bytes ws)

eleven : (ws : List ℕ) → 11 ≤ length ws → Agrees ws
eleven (w0 ∷ w1 ∷ w2 ∷ w3 ∷ w4 ∷ w5 ∷ w6 ∷ w7 ∷ w8 ∷ w9 ∷ w10 ∷ ws) h = record { udp = ap looks_udp (seen_whole w3 w5 w10 ws); command = ap command_seen (seen_whole w3 w5 w10 ws) }
eleven [] h = absurd (omega (arith, h))
eleven (w0 ∷ []) h = absurd (omega (arith, h))
eleven (w0 ∷ w1 ∷ []) h = absurd (omega (arith, h))
eleven (w0 ∷ w1 ∷ w2 ∷ []) h = absurd (omega (arith, h))
eleven (w0 ∷ w1 ∷ w2 ∷ w3 ∷ []) h = absurd (omega (arith, h))
eleven (w0 ∷ w1 ∷ w2 ∷ w3 ∷ w4 ∷ []) h = absurd (omega (arith, h))
eleven (w0 ∷ w1 ∷ w2 ∷ w3 ∷ w4 ∷ w5 ∷ []) h = absurd (omega (arith, h))
eleven (w0 ∷ w1 ∷ w2 ∷ w3 ∷ w4 ∷ w5 ∷ w6 ∷ []) h = absurd (omega (arith, h))
eleven (w0 ∷ w1 ∷ w2 ∷ w3 ∷ w4 ∷ w5 ∷ w6 ∷ w7 ∷ []) h = absurd (omega (arith, h))
eleven (w0 ∷ w1 ∷ w2 ∷ w3 ∷ w4 ∷ w5 ∷ w6 ∷ w7 ∷ w8 ∷ []) h = absurd (omega (arith, h))
eleven (w0 ∷ w1 ∷ w2 ∷ w3 ∷ w4 ∷ w5 ∷ w6 ∷ w7 ∷ w8 ∷ w9 ∷ []) h = absurd (omega (arith, h))

four_each : (ws : List ℕ) → length (all_bytes ws) ≡ 4 * length ws
four_each [] = refl
four_each (w ∷ ws) = omega (arith, four_each ws)

packet_length : (s : ℕ) (ws : List ℕ) → length ws ≡ word_count s → length (packet_bytes s ws) ≡ length_of s
packet_length s ws e =
    let all : length (all_bytes ws) ≡ 4 * length ws = four_each ws in
    let cut : length (packet_bytes s ws) ≡ min (length_of s) (length (all_bytes ws)) = length-take (length_of s) (all_bytes ws) in
    omega (arith, e, all, cut)

-- a byte within the length
byte_is : (s : ℕ) (ws : List ℕ) (k : ℕ) → k < length_of s → slice_index (packet_bytes s ws) k ≡ slice_index (all_bytes ws) k
byte_is s ws k h = get_or-take (length_of s) (all_bytes ws) k 0 h

fit_length : (n : ℕ) → IsTrue (nat_le 43 n && nat_le n 1520) → 43 ≤ n
fit_length n h = grind (arith, nat_tests)

enough : (s : ℕ) (ws : List ℕ) → 43 ≤ length_of s → length ws ≡ word_count s → 11 ≤ length ws
enough s ws h e = omega (arith, h, e)

udp_is : (s : ℕ) (ws : List ℕ) → 43 ≤ length_of s → length ws ≡ word_count s → looks_udp (see_all nothing_seen ws) ≡ is_udp (packet_bytes s ws)
udp_is s ws h e =
    (eleven ws (enough s ws h e)).udp
    ∙ sym (rw (byte_is s ws 12 (omega (arith, h)), byte_is s ws 13 (omega (arith, h)), byte_is s ws 14 (omega (arith, h)), byte_is s ws 23 (omega (arith, h))) refl)

pub command_is : (s : ℕ) (ws : List ℕ) → 43 ≤ length_of s → length ws ≡ word_count s → command_seen (see_all nothing_seen ws) ≡ command (packet_bytes s ws)
command_is s ws h e = (eleven ws (enough s ws h e)).command ∙ ap (λ (x : ℕ). x % 2 == 1) (sym (byte_is s ws 42 (omega (arith, h))))

by_length : (s : ℕ) (ws : List ℕ) (error fit : Bool) → (nat_le 43 (length_of s) && nat_le (length_of s) 1520) ≡ fit → length ws ≡ word_count s
    → (not error && fit && looks_udp (see_all nothing_seen ws)) ≡ (not error && fit && is_udp (packet_bytes s ws))
by_length s ws error true h e = ap (λ (b : Bool). not error && true && b) (udp_is s ws (fit_length (length_of s) h) e)
by_length s ws true false h e = refl
by_length s ws false false h e = refl

pub valid_is : (s : ℕ) (ws : List ℕ) → length ws ≡ word_count s → looks_valid s (see_all nothing_seen ws) ≡ is_valid_packet s ws
valid_is s ws e =
    by_length s ws (has_error s) (nat_le 43 (length_of s) && nat_le (length_of s) 1520) refl e
    ∙ ap (λ (n : ℕ). not (has_error s) && (nat_le 43 n && nat_le n 1520) && is_udp (packet_bytes s ws)) (sym (packet_length s ws e))

-- a packet that counts is long enough
pub valid_length : (s : ℕ) (ws : List ℕ) → length ws ≡ word_count s → IsTrue (is_valid_packet s ws) → 43 ≤ length_of s
valid_length s ws e h =
    let n : length (packet_bytes s ws) ≡ length_of s = packet_length s ws e in
    let fit : 43 ≤ length (packet_bytes s ws) = by_parts (not (has_error s)) (length (packet_bytes s ws)) (is_udp (packet_bytes s ws)) h in
    omega (arith, n, fit)
  where
    by_parts : (a : Bool) (n : ℕ) (c : Bool) → IsTrue (a && (nat_le 43 n && nat_le n 1520) && c) → 43 ≤ n
    by_parts true n c h = grind (arith, nat_tests)
    by_parts false n c h = absurd (let z : false ≡ true = h in cc)
