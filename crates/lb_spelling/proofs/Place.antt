-- Where the machine stops is the place of the fault.
use Rattle.std.proofs.Common.{◌≡◌, ℕ, zero, suc, ◌+◌, ◌-◌, ◌<◌, ◌≤◌, Bool, true, false, ◌&&◌, List, [], ◌∷◌, ◌++◌, length, take, drop, refl, sym, ap, subst, ◌∙◌, append_assoc, append-nil, arith, inl, inr, leb}
use Rattle.std.proofs.lemmas.Bool.{true≢false, false≢true, and_parts, and_from, le-leb, leb-true, leb-false, cases_Bool}
use Rattle.std.proofs.lemmas.List.{length-append}
use Rattle.lb_syntax.specs.Tree.{Procedure}
use Rattle.lb_spelling.specs.declared.fault.TextKind.{TextKind}
use Rattle.lb_spelling.specs.declared.fault.TextKind.TheVariants.{Ended}
use Rattle.lb_spelling.specs.declared.fault.TextFault.{TextFault}
use Rattle.lb_spelling.specs.Tokens.{Mode, Outside, gap, mode_after}
use Rattle.lb_spelling.specs.Grammar.{IsText}
use Rattle.lb_spelling.specs.Places.{Viable, IsShallow, within, open_in, IsPlace, IsAccepted, IsRefused, last_run, IsKind, IsFault}
use Rattle.lb_spelling.specs.InternalMachine.{Stack, Lex, Between, Step, Go, Fail, Whole, ended, Stuck, run, step, may_end}
use Rattle.lb_spelling.proofs.Running.{run_step, run_fail, gap_ends}
use Rattle.lb_spelling.proofs.StepBack.{Completes, step_back, end_completes}
use Rattle.lb_spelling.proofs.Ahead.{Fine, completable}
use Rattle.lb_spelling.proofs.Faulty.{RunIs, run_after, step_run, Fails, always, here, step_kind, kind_at, Wide}
use Rattle.lb_spelling.proofs.Depth.{mode_of, step_facts, step_up, step_fails}
use Rattle.lb_spelling.proofs.Table.{At, first_kind}
use Rattle.lb_spelling.proofs.TextRuns.{text_runs}
pub use Rattle.lb_spelling.proofs.TextRuns.{whole_stack}

-- after p the machine is in this state
pub record Reached (limit : ℕ) (p : List ℕ) (lx : Lex) (n : ℕ) (k : Stack) (lx' : Lex) (n' : ℕ) (k' : Stack) : Type 0 where
  pub back : (s : List ℕ) → Completes lx' k' s → Completes lx k (p ++ s)
  pub forth : (m : ℕ) (s : List ℕ) → limit ≤ m → run m (p ++ s) lx n k ≡ run m s lx' n' k'
  pub depth : (s : List ℕ) → within limit (p ++ s) (mode_of lx) n ≡ within limit s (mode_of lx') n'
  pub fine : Fine lx' k'
  pub run_is : (before : List ℕ) → RunIs lx before → RunIs lx' (last_run before p)
  pub bound : n' ≤ limit

reached_step : (limit : ℕ) (b : ℕ) (p : List ℕ) (lx : Lex) (n : ℕ) (k : Stack) (lx1 : Lex) (n1 : ℕ) (k1 : Stack) (lx' : Lex) (n' : ℕ) (k' : Stack)
    → Fine lx k → n ≤ limit → step limit lx n k b ≡ Go lx1 n1 k1 → Reached limit p lx1 n1 k1 lx' n' k' → Reached limit (b ∷ p) lx n k lx' n' k'
reached_step limit b p lx n k lx1 n1 k1 lx' n' k' fine h e r =
    let f = step_facts limit lx n k b lx1 n1 k1 fine h e in
    let low : leb n1 limit ≡ true = le-leb n1 limit f.bound in
    record {
      back = λ s c. step_back limit lx n k b lx1 n1 k1 (p ++ s) e (r.back s c);
      forth = λ m s up. run_step m b (p ++ s) lx n k lx1 n1 k1 (step_up limit m lx n k b lx1 n1 k1 up e) ∙ r.forth m s up;
      depth = λ s. rw (f.mode, f.depth, low) (r.depth s);
      fine = r.fine;
      run_is = λ before h. r.run_is (run_after before b) (step_run limit lx n k b lx1 n1 k1 before fine e h);
      bound = r.bound;
    }

pub record Halts (limit : ℕ) (s : List ℕ) (lx : Lex) (n : ℕ) (k : Stack) (kind : TextKind) (left : ℕ) : Type 0 where
  pub before : List ℕ
  pub byte : ℕ
  pub more : List ℕ
  pub parts : s ≡ before ++ (byte ∷ more)
  pub left_is : left ≡ length (byte ∷ more)
  pub lex : Lex
  pub count : ℕ
  pub stack : Stack
  pub reached : Reached limit before lx n k lex count stack
  pub fails : step limit lex count stack byte ≡ Fail kind

pub record Comes (limit : ℕ) (s : List ℕ) (lx : Lex) (n : ℕ) (k : Stack) : Type 0 where
  pub lex : Lex
  pub count : ℕ
  pub stack : Stack
  pub reached : Reached limit s lx n k lex count stack

-- how the machine goes over a text: it stops at a byte, or comes to the end
pub data Arrives (limit : ℕ) (s : List ℕ) (lx : Lex) (n : ℕ) (k : Stack) : Type 0 where
  halted : (kind : TextKind) (left : ℕ) → Halts limit s lx n k kind left → run limit s lx n k ≡ Stuck kind left → Arrives limit s lx n k
  came : (c : Comes limit s lx n k) → run limit s lx n k ≡ ended (may_end c.lex c.stack) → Arrives limit s lx n k

reached_here : (limit : ℕ) (lx : Lex) (n : ℕ) (k : Stack) → Fine lx k → n ≤ limit → Reached limit [] lx n k lx n k
reached_here limit lx n k fine h = record { back = λ s c. c; forth = λ m s up. refl; depth = λ s. refl; fine = fine; run_is = λ before r. r; bound = h }

arrives_step : (b : ℕ) (s : List ℕ) (limit : ℕ) (lx : Lex) (n : ℕ) (k : Stack) (lx1 : Lex) (n1 : ℕ) (k1 : Stack) → Fine lx k → n ≤ limit → step limit lx n k b ≡ Go lx1 n1 k1 → Arrives limit s lx1 n1 k1 → Arrives limit (b ∷ s) lx n k
arrives_step b s limit lx n k lx1 n1 k1 fine h st (halted kind left r e) =
    halted kind left (record { before = b ∷ r.before; byte = r.byte; more = r.more; parts = ap (λ (u : List ℕ). b ∷ u) r.parts; left_is = r.left_is; lex = r.lex; count = r.count; stack = r.stack; reached = reached_step limit b r.before lx n k lx1 n1 k1 r.lex r.count r.stack fine h st r.reached; fails = r.fails })
    (run_step limit b s lx n k lx1 n1 k1 st ∙ e)
arrives_step b s limit lx n k lx1 n1 k1 fine h st (came r e) =
    came (record { lex = r.lex; count = r.count; stack = r.stack; reached = reached_step limit b s lx n k lx1 n1 k1 r.lex r.count r.stack fine h st r.reached }) (run_step limit b s lx n k lx1 n1 k1 st ∙ e)

pub arrives : (s : List ℕ) (limit : ℕ) (lx : Lex) (n : ℕ) (k : Stack) → Fine lx k → n ≤ limit → Arrives limit s lx n k
arrives [] limit lx n k fine h = came (record { lex = lx; count = n; stack = k; reached = reached_here limit lx n k fine h }) refl
arrives (b ∷ s) limit lx n k fine h = go (λ lx1 n1 k1 fine h. arrives s limit lx1 n1 k1 fine h) (step limit lx n k b) refl where
  go : ((lx1 : Lex) (n1 : ℕ) (k1 : Stack) → Fine lx1 k1 → n1 ≤ limit → Arrives limit s lx1 n1 k1) → (st : Step) → step limit lx n k b ≡ st → Arrives limit (b ∷ s) lx n k
  go again (Fail kind) st = halted kind (length (b ∷ s)) (record { before = []; byte = b; more = s; parts = refl; left_is = refl; lex = lx; count = n; stack = k; reached = reached_here limit lx n k fine h; fails = st }) (run_fail limit b s lx n k kind st)
  go again (Go lx1 n1 k1) st = let f = step_facts limit lx n k b lx1 n1 k1 fine h st in arrives_step b s limit lx n k lx1 n1 k1 fine h st (again lx1 n1 k1 f.fine f.bound)

-- ---- both sides

abbrev AllReached : List ℕ → Lex → ℕ → Stack → Type 0
AllReached p lx' n' k' = Reached 64 p Between 0 whole_stack lx' n' k'

abbrev Stops : List ℕ → TextKind → ℕ → Type 0
Stops s kind left = Halts 64 s Between 0 whole_stack kind left

pub reached_viable : (p : List ℕ) (lx' : Lex) (n' : ℕ) (k' : Stack) → AllReached p lx' n' k' → Viable p
reached_viable p lx' n' k' r =
    let c = completable lx' k' r.fine in
    let t = r.back c.0 c.1 in
    (t.1.0, c.0, (t.0, t.1.1, t.2))

pub reached_shallow : (p : List ℕ) (lx' : Lex) (n' : ℕ) (k' : Stack) → AllReached p lx' n' k' → IsShallow p
reached_shallow p lx' n' k' r = let d : within 64 (p ++ []) Outside 0 ≡ true = r.depth [] in rw append-nil at d

-- with this byte behind it no text goes on, if the machine fails at every limit
dead_always : (p : List ℕ) (b : ℕ) (lx : Lex) (n : ℕ) (k : Stack) (kind : TextKind) → AllReached p lx n k → ((m : ℕ) → step m lx n k b ≡ Fail kind) → Viable (p ++ b ∷ []) → ⊥
dead_always p b lx n k kind r never (e, more, t) =
    let m : ℕ = 64 + length ((p ++ b ∷ []) ++ more) in
    let text : run m ((p ++ b ∷ []) ++ more) Between 0 whole_stack ≡ Whole = text_runs e ((p ++ b ∷ []) ++ more) m (omega arith) t in
    let there : run m (b ∷ more) lx n k ≡ Whole = sym (r.forth m (b ∷ more) (omega arith)) ∙ (ap (λ (u : List ℕ). run m u Between 0 whole_stack) (sym (append_assoc p (b ∷ []) more)) ∙ text) in
    let stuck : run m (b ∷ more) lx n k ≡ Stuck kind (length (b ∷ more)) = run_fail m b more lx n k kind (never m) in
    let g : Stuck kind (length (b ∷ more)) ≡ Whole = sym stuck ∙ there in cc

-- a bracket that passes the limit
over_deep : (p : List ℕ) (b : ℕ) (lx : Lex) (n : ℕ) (k : Stack) → AllReached p lx n k → 64 < open_in (mode_of lx) n b → IsShallow (p ++ b ∷ []) → ⊥
over_deep p b lx n k r over f =
    let d : within 64 (p ++ b ∷ []) Outside 0 ≡ (leb (open_in (mode_of lx) n b) 64 && true) = r.depth (b ∷ []) in
    let low = and_parts (leb (open_in (mode_of lx) n b) 64) true (sym d ∙ f) in
    let low' : open_in (mode_of lx) n b ≤ 64 = leb-true _ _ low.0 in omega arith

dead : (s : List ℕ) (kind : TextKind) (left : ℕ) (r : Stops s kind left) → Viable (r.before ++ r.byte ∷ []) → IsShallow (r.before ++ r.byte ∷ []) → ⊥
dead s kind left r v f = elim (step_fails 64 r.lex r.count r.stack r.byte kind r.reached.fine r.fails) [
  | inr never ↦ dead_always r.before r.byte r.lex r.count r.stack kind r.reached never v
  | inl over ↦ over_deep r.before r.byte r.lex r.count r.stack r.reached over f
]

-- ---- fronts of fronts

viable_front : (u v : List ℕ) → Viable (u ++ v) → Viable u
viable_front u v (p, more, t) = (p, v ++ more, subst (λ (w : List ℕ). IsText p w) (append_assoc u v more) t)

within_front : (limit : ℕ) (u v : List ℕ) (m : Mode) (n : ℕ) → within limit (u ++ v) m n ≡ true → within limit u m n ≡ true
within_front limit [] v m n e = refl
within_front limit (b ∷ u) v m n e =
    let p = and_parts (leb (open_in m n b) limit) (within limit (u ++ v) (mode_after m b) (open_in m n b)) e in
    and_from _ _ p.0 (within_front limit u v (mode_after m b) (open_in m n b) p.1)

take_front : (a b : List ℕ) → take (length a) (a ++ b) ≡ a
take_front [] b = refl
take_front (x ∷ a) b = ap (λ (u : List ℕ). x ∷ u) (take_front a b)

drop_front : (a b : List ℕ) → drop (length a) (a ++ b) ≡ b
drop_front [] b = refl
drop_front (x ∷ a) b = drop_front a b

-- a longer front goes over the next byte
take_longer : (n : ℕ) (a : List ℕ) (x : ℕ) (b : List ℕ) → length a < n → (c : List ℕ) × (take n (a ++ x ∷ b) ≡ (a ++ x ∷ []) ++ c)
take_longer zero a x b h = absurd (omega arith)
take_longer (suc n) [] x b h = (take n b, refl)
take_longer (suc n) (y ∷ a) x b h = let r = take_longer n a x b (omega arith) in (r.0, ap (λ (u : List ℕ). y ∷ u) r.1)

no_longer : (s : List ℕ) (kind : TextKind) (left : ℕ) (r : Stops s kind left) (n : ℕ) → length r.before < n → Viable (take n s) → IsShallow (take n s) → ⊥
no_longer s kind left r n h v f =
    let t = take_longer n r.before r.byte r.more h in
    let is : take n s ≡ (r.before ++ r.byte ∷ []) ++ t.0 = ap (λ (u : List ℕ). take n u) r.parts ∙ t.1 in
    dead s kind left r (viable_front (r.before ++ r.byte ∷ []) t.0 (subst (λ (u : List ℕ). Viable u) is v))
    (within_front 64 (r.before ++ r.byte ∷ []) t.0 Outside 0 (subst (λ (u : List ℕ). IsShallow u) is f))

at_most : (m n : ℕ) → (m < n → ⊥) → n ≤ m
at_most m n h = elim (cases_Bool (leb n m)) [
  | inl e ↦ leb-true n m e
  | inr e ↦ absurd (h (leb-false n m e))
]

-- ---- a byte that isn't taken

place_of : (s : List ℕ) (kind : TextKind) (left : ℕ) (r : Stops s kind left) → IsPlace s (length r.before)
place_of s kind left r =
    let len : length s ≡ length r.before + length (r.byte ∷ r.more) = ap (λ (u : List ℕ). length u) r.parts ∙ length-append r.before (r.byte ∷ r.more) in
    let front : take (length r.before) s ≡ r.before = ap (λ (u : List ℕ). take (length r.before) u) r.parts ∙ take_front r.before (r.byte ∷ r.more) in
    record {
      bound = omega arith;
      viable = rw front (reached_viable r.before r.lex r.count r.stack r.reached);
      shallow = rw front (reached_shallow r.before r.lex r.count r.stack r.reached);
      longest = λ n h v f. at_most (length r.before) n (λ less. no_longer s kind left r n less v f);
    }

refused_at : (s : List ℕ) (kind : TextKind) (left : ℕ) → Stops s kind left → IsRefused s
refused_at s kind left r t (text, fits) =
    let text' : IsText t (r.before ++ (r.byte ∷ r.more)) = subst (λ (u : List ℕ). IsText t u) r.parts text in
    let regroup : (r.before ++ r.byte ∷ []) ++ r.more ≡ r.before ++ (r.byte ∷ r.more) = append_assoc r.before (r.byte ∷ []) r.more in
    dead s kind left r (t, r.more, subst (λ (u : List ℕ). IsText t u) (sym regroup) text')
    (within_front 64 (r.before ++ r.byte ∷ []) r.more Outside 0 (subst (λ (u : List ℕ). IsShallow u) (r.parts ∙ sym regroup) fits))

viable_next : (p : List ℕ) (b : ℕ) (lx : Lex) (n : ℕ) (k : Stack) (m : ℕ) (lx' : Lex) (n' : ℕ) (k' : Stack) → AllReached p lx n k → step m lx n k b ≡ Go lx' n' k' → Fine lx' k' → Viable (p ++ b ∷ [])
viable_next p b lx n k m lx' n' k' r e fine =
    let c = completable lx' k' fine in
    let t = r.back (b ∷ c.0) (step_back m lx n k b lx' n' k' c.0 e c.1) in
    (t.1.0, c.0, subst (λ (u : List ℕ). IsText t.1.0 u) (sym (append_assoc p (b ∷ []) c.0)) (t.0, t.1.1, t.2))

-- the kind, said of what stands before the byte and behind it
module _ (s : List ℕ) (kind : TextKind) (left : ℕ) (h : Stops s kind left) where
  at_front : take (length h.before) s ≡ h.before
  at_front = ap (λ (u : List ℕ). take (length h.before) u) h.parts ∙ take_front h.before (h.byte ∷ h.more)

  at_rest : drop (length h.before) s ≡ h.byte ∷ h.more
  at_rest = ap (λ (u : List ℕ). drop (length h.before) u) h.parts ∙ drop_front h.before (h.byte ∷ h.more)

  at_inside : length h.before < length s
  at_inside = let len : length s ≡ length h.before + length (h.byte ∷ h.more) = ap (λ (u : List ℕ). length u) h.parts ∙ length-append h.before (h.byte ∷ h.more) in omega arith

  kind_always : ((m : ℕ) → step m h.lex h.count h.stack h.byte ≡ Fail kind) → Wide (last_run [] h.before) h.byte → At s (length h.before) h.byte h.more false
  kind_always never wide = record {
    parts = at_rest;
    inside = at_inside;
    deep_from = λ o v. absurd (dead_always h.before h.byte h.lex h.count h.stack kind h.reached never (subst (λ (u : List ℕ). Viable (u ++ h.byte ∷ [])) at_front v));
    over = λ e. absurd (false≢true e);
    viable = λ e. absurd (false≢true e);
    wide = λ e. subst (λ (u : List ℕ). Wide (last_run [] u) h.byte) (sym at_front) wide;
  }

  not_always : (lx' : Lex) (n' : ℕ) (k' : Stack) → step n' h.lex h.count h.stack h.byte ≡ Go lx' n' k' → 64 < open_in (mode_of h.lex) h.count h.byte
  not_always lx' n' k' e = elim (step_fails 64 h.lex h.count h.stack h.byte kind h.reached.fine h.fails) [
    | inl over ↦ over
    | inr never ↦ absurd (let g : Fail kind ≡ Go lx' n' k' = sym (never n') ∙ e in cc)
  ]

  kind_here : (lx' : Lex) (n' : ℕ) (k' : Stack) → step n' h.lex h.count h.stack h.byte ≡ Go lx' n' k' → Fine lx' k' → At s (length h.before) h.byte h.more true
  kind_here lx' n' k' e fine = record {
    parts = at_rest;
    inside = at_inside;
    deep_from = λ o v. refl;
    over = λ _ f. over_deep h.before h.byte h.lex h.count h.stack h.reached (not_always lx' n' k' e) (subst (λ (u : List ℕ). IsShallow (u ++ h.byte ∷ [])) at_front f);
    viable = λ _. subst (λ (u : List ℕ). Viable (u ++ h.byte ∷ [])) (sym at_front) (viable_next h.before h.byte h.lex h.count h.stack n' lx' n' k' h.reached e fine);
    wide = λ e. absurd (true≢false e);
  }

  kind_from : Fails 64 h.lex h.count h.stack h.byte kind (last_run [] h.before) → IsKind s (length h.before) kind
  kind_from (always never is wide) = first_kind s (length h.before) h.byte h.more false kind (kind_always never wide) (is ∙ ap (λ (u : List ℕ). kind_at (last_run [] u) h.byte false) (sym at_front))
  kind_from (here lx' n' k' e fine is) = first_kind s (length h.before) h.byte h.more true kind (kind_here lx' n' k' e fine) (is ∙ ap (λ (u : List ℕ). kind_at (last_run [] u) h.byte true) (sym at_front))

  kind_of : IsKind s (length h.before) kind
  kind_of = kind_from (step_kind 64 h.lex h.count h.stack h.byte kind (last_run [] h.before) h.reached.fine h.reached.bound (h.reached.run_is [] refl) h.fails)

-- ---- the end of the text

came_place : (s : List ℕ) (c : Comes 64 s Between 0 whole_stack) → IsPlace s (length s)
came_place s r = record {
  bound = omega arith;
  viable = rw (take_whole s) (reached_viable s r.lex r.count r.stack r.reached);
  shallow = rw (take_whole s) (reached_shallow s r.lex r.count r.stack r.reached);
  longest = λ n h v f. h;
} where
  take_whole : (a : List ℕ) → take (length a) a ≡ a
  take_whole [] = refl
  take_whole (x ∷ a) = ap (λ (u : List ℕ). x ∷ u) (take_whole a)

came_refused : (s : List ℕ) (c : Comes 64 s Between 0 whole_stack) → may_end c.lex c.stack ≡ false → IsRefused s
came_refused s r w t (text, fits) =
    let m : ℕ = 64 + length s in
    let whole : run m s Between 0 whole_stack ≡ Whole = text_runs t s m (omega arith) text in
    let there : run m (s ++ []) Between 0 whole_stack ≡ ended (may_end r.lex r.stack) = r.reached.forth m [] (omega arith) in
    let both : ended (may_end r.lex r.stack) ≡ Whole = sym there ∙ (ap (λ (u : List ℕ). run m u Between 0 whole_stack) (append-nil s) ∙ whole) in
    let no_end : Stuck Ended 0 ≡ Whole = rw w at both in
    cc

came_accepted : (s : List ℕ) (c : Comes 64 s Between 0 whole_stack) → may_end c.lex c.stack ≡ true → (p : List Procedure) × IsAccepted p s
came_accepted s r w =
    let t = r.reached.back [] (end_completes r.lex r.stack w) in
    let text : IsText t.1.0 (s ++ []) = (t.0, t.1.1, t.2) in
    (t.1.0, (subst (λ (u : List ℕ). IsText t.1.0 u) (append-nil s) text, reached_shallow s r.lex r.count r.stack r.reached))

ended_stuck : (b : Bool) (kind : TextKind) (left : ℕ) → ended b ≡ Stuck kind left → (b ≡ false) × (left ≡ 0) × (kind ≡ Ended)
ended_stuck true kind left e = absurd cc
ended_stuck false kind left e = (refl, cc, cc)

ended_whole : (b : Bool) → ended b ≡ Whole → b ≡ true
ended_whole true e = refl
ended_whole false e = absurd cc

-- ---- the fault, and the whole text

-- a fault whose place is told by the bytes that are left
pub record FaultAt (s : List ℕ) (kind : TextKind) (left : ℕ) : Type 0 where
  pub bound : left ≤ length s
  pub refused : IsRefused s
  pub place : IsPlace s (length s - left)
  pub kind_is : IsKind s (length s - left) kind

halted_fault : (s : List ℕ) (kind : TextKind) (left : ℕ) → Stops s kind left → FaultAt s kind left
halted_fault s kind left r =
    let len : length s ≡ length r.before + length (r.byte ∷ r.more) = ap (λ (u : List ℕ). length u) r.parts ∙ length-append r.before (r.byte ∷ r.more) in
    let at : length s - left ≡ length r.before = (let l = r.left_is in omega arith) in
    record {
      bound = (let l = r.left_is in omega arith);
      refused = refused_at s kind left r;
      place = rw at (place_of s kind left r);
      kind_is = rw at (kind_of s kind left r);
    }

came_fault : (s : List ℕ) (c : Comes 64 s Between 0 whole_stack) (kind : TextKind) (left : ℕ) → ended (may_end c.lex c.stack) ≡ Stuck kind left → FaultAt s kind left
came_fault s c kind left e =
    let x = ended_stuck (may_end c.lex c.stack) kind left e in
    let n : left ≡ 0 = x.1 in
    let at : length s - left ≡ length s = omega arith in
    record {
      bound = omega arith;
      refused = came_refused s c x.0;
      place = rw at (came_place s c);
      kind_is = rw at (inl (x.2, refl));
    }

stuck_same : (kind kind' : TextKind) (left left' : ℕ) → Stuck kind left ≡ Stuck kind' left' → (kind ≡ kind') × (left ≡ left')
stuck_same kind kind' left left' e = (cc, cc)

pub stuck_fault : (s : List ℕ) (kind : TextKind) (left : ℕ) → run 64 s Between 0 whole_stack ≡ Stuck kind left → FaultAt s kind left
stuck_fault s kind left e = elim (arrives s 64 Between 0 whole_stack tt (omega arith)) [
  | halted kind' left' h r ↦ (let x = stuck_same kind' kind left' left (sym r ∙ e) in rw (← x.0, ← x.1) (halted_fault s kind' left' h))
  | came c r ↦ came_fault s c kind left (sym r ∙ e)
]

-- the same, of a fault that names the place
pub fault_is : (s : List ℕ) (kind : TextKind) (left : ℕ) (f : TextFault) → run 64 s Between 0 whole_stack ≡ Stuck kind left → f.at ≡ length s - left → f.kind ≡ kind → IsFault s f
fault_is s kind left f e at is =
    let p = stuck_fault s kind left e in
    record { refused = p.refused; place = rw at (p.place); kind = rw (at, is) (p.kind_is) }

pub whole_accepted : (s : List ℕ) → run 64 s Between 0 whole_stack ≡ Whole → (p : List Procedure) × IsAccepted p s
whole_accepted s e = elim (arrives s 64 Between 0 whole_stack tt (omega arith)) [
  | halted kind left h r ↦ absurd (let x : Stuck kind left ≡ Whole = sym r ∙ e in cc)
  | came c r ↦ came_accepted s c (ended_whole (may_end c.lex c.stack) (sym r ∙ e))
]

pub whole_shallow : (s : List ℕ) → run 64 s Between 0 whole_stack ≡ Whole → IsShallow s
whole_shallow s e = (whole_accepted s e).1.1

-- nothing but blanks and comments is left
pub gap_whole : (rest : List ℕ) → gap true Outside rest ≡ true → run 64 rest Between 0 whole_stack ≡ Whole
gap_whole rest g = gap_ends rest Outside 64 0 whole_stack refl (omega arith) g
