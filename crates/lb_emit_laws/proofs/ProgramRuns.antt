-- From boot on the code of a program does what the program does.
use Rattle.std.proofs.Common.{◌≡◌, ◌≢◌, ℕ, suc, ◌+◌, ◌*◌, ◌≤◌, List, [], ◌∷◌, length, map, Option, Some, refl, sym, ap, ◌∙◌, subst, arith}
use Rattle.std.proofs.lemmas.List.{length-map}
use Rattle.std.specs.Prelude.{slice_get}
use Rattle.lb_steps.proofs.MoveLemmas.{LeadsTo}
use Rattle.lb_steps.proofs.Simulation.{fits, move_behind, spending}
use Rattle.lb_source.specs.Correct.{AreWords}
use Rattle.lb_rv.specs.declared.instr.Instr.TheVariants as instr
use Rattle.lb_rv.specs.Table.{word_of}
use Rattle.lb_outcome.specs.Ram.{boot_ram}
use Rattle.lb_outcome.specs.Registers.{boot_registers, with_register}
use Rattle.lb_isa.specs.State.{RunState}
use Rattle.lb_flat.specs.declared.places.Place.{Place}
use Rattle.lb_flat.specs.Code.{Routine, Executable}
use Rattle.lb_flat.specs.Order.{IsPlacedInOrder}
use Rattle.lb_flat.specs.Run.{World, Callable, calls, enter, run_with, spend}
use Rattle.lb_flat.specs.Whole.{callable, callables, for_ever, itself, placed_run, start, to_end, whole}
use Rattle.lb_emit_laws.specs.Instructions.{jump}
use Rattle.lb_emit_laws.specs.Frames.{frame_of, frame_layout, layout_of}
use Rattle.lb_emit_laws.specs.Code.{routine_words, entry_of, boot_code, routines_code, program_code, program_words}
use Rattle.lb_emit_laws.proofs.Bytes.{Bytes, Registers, IsWritable, set_same, set_other}
use Rattle.lb_emit_laws.proofs.Places.{IsAt, HasAt, HasAt-behind, HasAt-whole}
use Rattle.lb_emit_laws.proofs.Steps.{advance, at, trace_of, IsWaiting, below_end, step_jumps, step_links, step_sets}
use Rattle.lb_emit_laws.proofs.Outcomes.{RunComes, end_comes, ever_comes, spend_comes}
use Rattle.lb_emit_laws.proofs.Ordered.{Budget}
use Rattle.lb_emit_laws.proofs.FrameLemmas.{routine_fits}
use Rattle.lb_emit_laws.proofs.Pieces.{jump_leads}
use Rattle.lb_emit_laws.proofs.CodeRuns.{Calling, CodeComes}
use Rattle.lb_emit_laws.proofs.CallRuns.{Stands, begun, body_comes, calls_ok, found_callable, placed_callable}
use Rattle.lb_emit_laws.proofs.ProgramPlaces.{all_words, routines_at, entry_within, words_of_one, first, again, code_length, code_small, code_in_range}

-- a program outside of all functions, before instruction number j
record Ready (j : ℕ) (s : List ℕ × World) (c : RunState) : Type 0 where
  after : Registers
  left : Bytes
  is : c ≡ at j after left s.1.replies s.1.trace
  calling : Calling 0x40000 s.1 after left

-- and behind the call at number i of the function at number e
record Begins (e i : ℕ) (s : List ℕ × World) (c : RunState) : Type 0 where
  after : Registers
  left : Bytes
  is : c ≡ at e (with_register 1 (4 * (i + 1)) after) left s.1.replies s.1.trace
  calling : Calling 0x40000 s.1 after left

module _ (p : Executable Place) (order : IsPlacedInOrder p) where
  abbrev fs : List (Routine Place)
  fs = p.routines

  abbrev entry : ℕ → ℕ
  entry = entry_of p.routines

  abbrev code : List ℕ
  code = program_words p

  long : length code ≡ 4 + all_words fs
  long = length-map (program_code p) word_of ∙ code_length p order

  small : length code ≤ 32768
  small = omega (arith, long, code_length p order, code_small p order)

  here : HasAt code 0 (program_code p)
  here = HasAt-whole [] (program_code p) (code_in_range p order)

  stands : Stands code fs entry
  stands = record {
    has = λ g h is. routines_at entry code 4 fs g h (HasAt-behind code 0 4 4 (boot_code entry p.init p.again) (routines_code entry 4 fs) here refl refl) is;
    fits = λ g h is. routine_fits p g h order is;
    short = λ g h is. omega (arith, entry_within 4 fs g h is, long);
  }

  budget : (g : ℕ) → Budget fs 65536 g
  budget g path q = order.rules.stack (g ∷ path) q

  -- a function that is called from outside
  function_comes : (g i n fuel : ℕ) (h : Routine Place) (s : List ℕ × World) (c : RunState) → slice_get fs g ≡ Some h → h.params ≡ [] → h.results ≡ [] → i + 1 ≤ 32768 → fuel ≤ n → Begins (entry g) i s c
      → CodeComes code (Ready (i + 1)) (routine_words (frame_of h) h) c fuel (begun fs n h [] s.1 (record s.1 { fuel = fuel }))
  function_comes g i n fuel h s c is no_params no_results near few b =
      subst (λ d. CodeComes code (Ready (i + 1)) (routine_words (frame_of h) h) d fuel (begun fs n h [] s.1 (record s.1 { fuel = fuel }))) (sym b.is)
      (fits (omega arith) (λ t d a. record { after = a.after; left = a.left; is = a.is; calling = record { none = a.none; base = a.base; stack = a.stack; holds = a.holds; replies = a.replies } })
      (body_comes code small fs entry stands n (calls_ok code small fs entry stands n) 0x40000 65536 (omega arith) (omega arith)
      g i 0 fuel h [] s.1 b.after b.left is (ap (λ (l : List Place). length l) no_params) (ap (λ (l : List Place). length l) no_results) (budget g) (omega arith) (omega arith) tt b.calling near few))

  -- the call itself
  begins : (g i : ℕ) (h : Routine Place) (s : List ℕ × World) (c : RunState) → slice_get fs g ≡ Some h → IsAt code i (jump 1 i (entry g)) → Ready i s c → LeadsTo (advance code) (Begins (entry g) i s) c
  begins g i h s c is jal a =
      let low = below_end code small i (jump 1 i (entry g)) jal in
      let short = entry_within 4 fs g h is in
      let step = step_links code small i (entry g) a.after a.left s.1.replies s.1.trace (jump 1 i (entry g)) _ jal refl refl (jump_leads i (entry g) (omega (arith, low)) (omega (arith, short, long, small))) in
      record {
        next = at (entry g) (with_register 1 (4 * (i + 1)) a.after) a.left s.1.replies s.1.trace;
        moves = ap (advance code) a.is ∙ step;
        stands = record { after = a.after; left = a.left; is = refl; calling = a.calling };
      }

  -- and the jump back to the call of `loop`
  back_again : (s : List ℕ × World) (c : RunState) → Ready 3 s c → LeadsTo (advance code) (Ready 2 s) c
  back_again s c a =
      let step = step_jumps code small 3 2 a.after a.left s.1.replies s.1.trace (jump 0 3 2) _ here.1.1.1.0 refl refl (jump_leads 3 2 (omega arith) (omega arith)) in
      record {
        next = at 2 a.after a.left s.1.replies s.1.trace;
        moves = ap (advance code) a.is ∙ step;
        stands = record { after = a.after; left = a.left; is = refl; calling = a.calling };
      }

  -- from the call of `init` on
  whole_finishes : (n : ℕ) (w : World) (c : RunState) → w.fuel ≤ n → Ready 1 ([], w) c
      → RunComes (advance code) trace_of (IsWaiting code) (length code) (List ℕ) 0 c w.fuel (whole (map placed_callable fs) p.init p.again n w)
  whole_finishes n w c few a =
      let Runs = RunComes (advance code) trace_of (IsWaiting code) (length code) (List ℕ) 0 c w.fuel in
      let init = first p order in
      let next = again p order in
      let h = init.routine in
      let k = next.routine in
      let fw_h = routine_words (frame_of h) h in
      let fw_k = routine_words (frame_of k) k in
      let room_h = words_of_one fs p.init h init.is in
      let room_k = words_of_one fs p.again k next.is in
      let body = λ (g : Callable Place). run_with g.cell (calls (map placed_callable fs) n) n g.offsets g.body in
      let begin = begins p.init 1 h ([], w) c init.is here.1.0 a in
      let rest = for_ever n (λ t. spend t.fuel t (begun fs n k [] t)) in
      subst (λ (o : Option (Callable Place)). Runs (to_end (enter o body [] w) (for_ever n (calls (map placed_callable fs) (suc n) p.again [])))) (sym (found_callable fs p.init h init.is))
      (subst (λ (o : Option (Callable Place)). Runs (to_end (spend w.fuel w (begun fs n h [] w)) (for_ever n (enter o body [])))) (sym (found_callable fs p.again k next.is))
      (end_comes {la = 0} {lb = 0} (spend w.fuel w (begun fs n h [] w)) rest (omega arith)
      (spend_comes {la = fw_h} w.fuel w (begun fs n h [] w) (ap trace_of a.is) begin.moves (omega (arith, room_h, long))
      (λ f some. function_comes p.init 1 n f h ([], w) begin.next init.is init.no_params init.no_results (omega arith) (omega (arith, few, some)) begin.stands))
      (λ v t d ready less. ever_comes (Ready 2) (Begins (entry p.again) 2) (begun fs n k []) n (fw_k + 1) (omega (arith, room_k, long))
      (λ s e r. ap trace_of r.is)
      (λ s e r. begins p.again 2 k s e next.is here.1.1.0 r)
      (λ s e g b more low. move_behind {la = fw_k} (omega arith) (function_comes p.again 2 n g k s e next.is next.no_params next.no_results (omega arith) low b) (λ v e r. back_again v e r))
      n (v, t) d (omega (arith, few, less)) (omega (arith, few, less)) ready)))

  -- from boot on: the first instruction stands for one fuel more
  program_finishes : (n : ℕ) (replies : List ℕ) → AreWords replies
      → RunComes (advance code) trace_of (IsWaiting code) (length code) (List ℕ) 0 (at 0 boot_registers (boot_ram code) replies []) (suc n) (whole (map placed_callable fs) p.init p.again n (start n replies))
  program_finishes n replies are_words =
      let ram = boot_ram code in
      let r1 = with_register 2 0x40000 boot_registers in
      let two : IsWritable 2 = (omega arith, omega arith) in
      let zero2 : ◌≢◌ {A = ℕ} 0 2 = omega arith in
      let step = step_sets code small 0 boot_registers ram replies [] (instr.Lui 2 0x40000) 2 0x40000 here.0 refl two refl in
      let ready : Ready 1 ([], start n replies) (at 1 r1 ram replies []) = record {
        after = r1;
        left = ram;
        is = refl;
        calling = record {
          none = set_other 2 0x40000 boot_registers 0 zero2;
          base = set_same 2 0x40000 boot_registers two;
          stack = refl;
          holds = record { bytes = λ x b set_. cc; place = λ x owned. cc };
          replies = are_words;
        };
      } in
      spending {la = 0} step (omega (arith, long)) (whole_finishes n (start n replies) (at 1 r1 ram replies []) (omega arith) ready)

  -- the functions with their frames
  callables_placed : (hs : List (Routine Place)) (cells : ℕ → Place → Place) → ((k : ℕ) → cells k ≡ itself 0) → callables hs cells (map frame_layout hs) ≡ map placed_callable hs
  callables_placed [] cells same = refl
  callables_placed (h ∷ hs) cells same =
      (λ i. callable h (same 0 i) (frame_layout h) ∷ callables hs (λ k. cells (suc k)) (map frame_layout hs))
      ∙ ap (λ (cs : List (Callable Place)). placed_callable h ∷ cs) (callables_placed hs (λ k. cells (suc k)) (λ k. same (suc k)))

  pub placed_finishes : (replies : List ℕ) (n : ℕ) → AreWords replies
      → RunComes (advance code) trace_of (IsWaiting code) (length code) (List ℕ) 0 (at 0 boot_registers (boot_ram code) replies []) (suc n) (placed_run p (layout_of p) n replies)
  placed_finishes replies n are_words =
      subst (λ (cs : List (Callable Place)). RunComes (advance code) trace_of (IsWaiting code) (length code) (List ℕ) 0 (at 0 boot_registers (boot_ram code) replies []) (suc n) (whole cs p.init p.again n (start n replies)))
      (sym (callables_placed fs itself (λ k. refl))) (program_finishes n replies are_words)
