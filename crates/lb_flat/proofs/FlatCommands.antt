-- Flat code does what the source's commands do.
use Rattle.std.proofs.Common.{◌≡◌, ◌≢◌, ℕ, zero, suc, ◌+◌, ◌<◌, true, false, List, [], ◌∷◌, ◌++◌, map, drop, length, Option, Some, None, Result, Ok, Err, refl, sym, ap, ap₂, ◌∙◌, subst, arith}
use Rattle.std.specs.Prelude.{if◌then◌else◌}
use Rattle.std.specs.List.{AllByRecursion}
use Rattle.std.specs.Str.{bytes_eq}
use Rattle.std.proofs.lemmas.Slice.Eq.{bytes_eq-Decides}
use Rattle.lb_syntax.specs.Names.{Text}
use Rattle.lb_syntax.specs.Tree.{Term}
use Rattle.lb_syntax.specs.Tree.{Command, Skips, Sets, Unsets, Stores, Allocates, Chooses, Repeats, Calls, Interacts, Ends, Then}
use Rattle.lb_syntax.specs.Needs.{sites as source_sites, term_names, terms_names, command_names}
use Rattle.lb_syntax.specs.Calls.{CallSite, call_sites, access_sites}
use Rattle.lb_syntax.specs.Rules.{IsGoodAccess, HasShape}
use Rattle.lb_syntax.specs.declared.tree.Action.{Action}
use Rattle.lb_syntax.specs.declared.tree.Action.TheVariants.{Read, Write}
use Rattle.lb_trace.specs.declared.Event.TheVariants.{Ld, St}
use Rattle.lb_source.specs.declared.ends.Reason.{Reason}
use Rattle.lb_source.specs.declared.ends.SourceEnd.TheVariants.{Spent}
use Rattle.lb_source.specs.Maps as maps
use Rattle.lb_source.specs.Value.{or_unset, byte_count, before}
use Rattle.lb_source.specs.Run as source
use Rattle.lb_source.specs.Run.{State, block_at, store, address_fault, allocated, set, value_in, values_in}
use Rattle.lb_flat.specs.declared.places.Place.TheVariants.{Slot}
use Rattle.lb_flat.specs.Cells.{Cells, put, set_all}
use Rattle.lb_flat.specs.Code as code
use Rattle.lb_flat.specs.Code.{Code, Plain, Branch, Sequence, Nothing, Store, Call, Access, sites}
use Rattle.lb_flat.specs.Run.{World, Outcome, Goes, Stops, Caller, then_do, with_value, at_zero, spend, ask, unless, effect, values, turns, run_with}
use Rattle.lb_flat.specs.InternalFlatForms.{holder, holders, term_code, flat_code}
use Rattle.lb_flat.proofs.BooleanLemmas.{by_test}
use Rattle.lb_flat.proofs.PutLemmas.{put_same, put_other, slots_differ}
use Rattle.lb_flat.proofs.FlatTerms.{AreNumbered, Holds, all_left, all_right, values_length, holder_below, term_follows, terms_follow}
use Rattle.lb_flat.proofs.FlatSites.{term_sites, block_sites, drop_both}
use Rattle.lb_flat.proofs.SourceFollow.{world_of, FollowsSource, both_go, both_stop, owes_nothing, source_assoc, alone, then_follows, after_block, after_release, zero_follows, spend_follows, value_first, value_before}

-- how many parameters and results each function has, by its name
pub record Arities : Type 0 where
  pub params : Text → ℕ
  pub results : Text → ℕ

abbrev pub HasArity : Arities → CallSite → Type 0
HasArity ar site = (length site.arguments ≡ ar.params site.function) × (length site.targets ≡ ar.results site.function)

-- code whose variables have numbers below t, and whose calls and accesses fit
pub record Suits (ar : Arities) (number : Text → ℕ) (t : ℕ) (c : Command) : Type 0 where
  pub names : AreNumbered number t (command_names c)
  pub calls : AllByRecursion (HasArity ar) (call_sites c)
  pub accesses : AllByRecursion IsGoodAccess (access_sites c)

-- two names of one number are one name
abbrev pub IsNumbering : (Text → ℕ) → ℕ → Type 0
IsNumbering number t = (x y : Text) → number x < t → number y < t → number x ≡ number y → bytes_eq x y ≡ true

-- calls do the same, and give the results that the source sets
abbrev pub CallsAlike : Arities → (Text → ℕ) → (Text → ℕ) → ℕ → source.Caller → Caller → Type 0
CallsAlike ar number function t call other =
    (f : Text) (vs : List ℕ) (xs : List Text) (s : State) (a : Cells) → AreNumbered number t xs → length xs ≡ ar.results f → length vs ≡ ar.params f → Holds number t s a
    → FollowsSource (Holds number t) (call f vs xs s) (then_do (other (function f) vs (world_of s)) (λ rs u. Goes (set_all Slot (map number xs) rs a) u))

-- ---- parts of code

module _ (ar : Arities) (number : Text → ℕ) (t : ℕ) where
  pub suits_body : (m : ℕ) (x : Text) (b : Command) → Suits ar number t (Allocates m x b) → Suits ar number t b
  suits_body m x b h = record { names = h.names.1; calls = h.calls; accesses = h.accesses }

  pub suits_yes : (e : Term) (b d : Command) → Suits ar number t (Chooses e b d) → Suits ar number t b
  suits_yes e b d h = record {
    names = all_left _ (command_names b) (command_names d) (all_right _ (term_names e) (command_names b ++ command_names d) h.names);
    calls = all_left _ (call_sites b) (call_sites d) h.calls;
    accesses = all_left _ (access_sites b) (access_sites d) h.accesses;
  }

  pub suits_no : (e : Term) (b d : Command) → Suits ar number t (Chooses e b d) → Suits ar number t d
  suits_no e b d h = record {
    names = all_right _ (command_names b) (command_names d) (all_right _ (term_names e) (command_names b ++ command_names d) h.names);
    calls = all_right _ (call_sites b) (call_sites d) h.calls;
    accesses = all_right _ (access_sites b) (access_sites d) h.accesses;
  }

  pub suits_turn : (e : Term) (b : Command) → Suits ar number t (Repeats e b) → Suits ar number t b
  suits_turn e b h = record { names = all_right _ (term_names e) (command_names b) h.names; calls = h.calls; accesses = h.accesses }

  pub suits_first : (c d : Command) → Suits ar number t (Then c d) → Suits ar number t c
  suits_first c d h = record {
    names = all_left _ (command_names c) (command_names d) h.names;
    calls = all_left _ (call_sites c) (call_sites d) h.calls;
    accesses = all_left _ (access_sites c) (access_sites d) h.accesses;
  }

  pub suits_rest : (c d : Command) → Suits ar number t (Then c d) → Suits ar number t d
  suits_rest c d h = record {
    names = all_right _ (command_names c) (command_names d) h.names;
    calls = all_right _ (call_sites c) (call_sites d) h.calls;
    accesses = all_right _ (access_sites c) (access_sites d) h.accesses;
  }

-- ---- variables

-- a variable that is written in both
pub set_holds : (number : Text → ℕ) (t : ℕ) → IsNumbering number t → (x : Text) (o : Option ℕ) (s : State) (a : Cells) → number x < t → Holds number t s a
    → Holds number t (record s { variables = maps.put x o s.variables }) (put (Slot (number x)) o a)
set_holds number t one x o s a lx g = record {
  at = λ y ly. by_test (bytes_eq x y)
      (λ same. let is : x ≡ y = (bytes_eq-Decides x y).0 same in
      subst (λ (z : Text). put (Slot (number x)) o a (Slot (number z)) ≡ maps.put x o s.variables z) is
      (put_same (Slot (number x)) o a ∙ sym (ap (λ b. if b then o else s.variables x) ((bytes_eq-Decides x x).1 refl))))
      (λ other. let ne : number x ≢ number y = λ e. let same = one x y lx ly e in let no : true ≡ false = sym same ∙ other in cc in
      put_other (Slot (number x)) (Slot (number y)) o a (slots_differ (number x) (number y) ne) ∙ g.at y ly ∙ sym (ap (λ b. if b then o else s.variables y) other));
}

-- ---- commands

module _ (ar : Arities) (number function : Text → ℕ) (t : ℕ) (call : source.Caller) (other : Caller) (one : IsNumbering number t) (alike : CallsAlike ar number function t call other) (n : ℕ) where
  -- the rest, from any state and cells that hold it
  abbrev Rest : (State → Cells → Type 0) → List ℕ → Code ℕ → (State → source.Outcome) → (Cells → World → Outcome Cells) → Type 0
  Rest R os rest K L = (s : State) (a : Cells) → Holds number t s a → FollowsSource R (K s) (then_do (run_with Slot other n os rest a (world_of s)) L)

  -- a plain command whose arguments have these values
  plain_follows : (R : State → Cells → Type 0) (d : code.Operation) (xs ys vs : List ℕ) (c : Cells) (os : List ℕ) (rest : Code ℕ) (s : State) (L : Cells → World → Outcome Cells) (o : source.Outcome) → values Slot xs c ≡ Ok vs
      → FollowsSource R o (then_do (then_do (then_do (effect other d vs (world_of s)) (λ rs u. Goes (set_all Slot ys rs c) u)) (run_with Slot other n os rest)) L)
      → FollowsSource R o (then_do (run_with Slot other n os (Sequence (Plain d xs ys) rest) c (world_of s)) L)
  plain_follows R d xs ys vs c os rest s L o e h =
      subst (λ r. FollowsSource R o (then_do (then_do (with_value r (world_of s) (λ us. then_do (effect other d us (world_of s)) (λ rs u. Goes (set_all Slot ys rs c) u))) (run_with Slot other n os rest)) L)) (sym e) h

  store_follows : (R : State → Cells → Type 0) (r : Result maps.Memory Reason) (s : State) (K : State → source.Outcome) (L : Cells → World → Outcome Cells) (os : List ℕ) (rest : Code ℕ) (c : Cells) → Holds number t s c → Rest R os rest K L
      → FollowsSource R (source.then_do (source.with_value r s (λ m. source.Goes (record s { memory = m }))) K)
      (then_do (then_do (then_do (with_value r (world_of s) (λ m. Goes [] (record (world_of s) { memory = m }))) (λ rs u. Goes (set_all {X = ℕ} Slot [] rs c) u)) (run_with Slot other n os rest)) L)
  store_follows R (Ok m) s K L os rest c g k = k (record s { memory = m }) c (record { at = g.at })
  store_follows R (Err f) s K L os rest c g k = owes_nothing

  -- ---- loops

  module _ (e : Term) (os : List ℕ) (named : AreNumbered number t (term_names e)) (body : State → source.Outcome) (flat_body : Cells → World → Outcome Cells)
      (bodies : (s : State) (a : Cells) → Holds number t s a → FollowsSource (Holds number t) (body s) (flat_body a (world_of s))) where
    -- the condition's code, and its test
    head_follows : (s : State) (a : Cells) (f : ℕ → source.Outcome) (g : ℕ → Cells → World → Outcome Cells) → Holds number t s a
        → ((v : ℕ) (b : Cells) → Holds number t s b → FollowsSource (Holds number t) (f v) (g v b (world_of s)))
        → FollowsSource (Holds number t) (source.with_value (value_in s e) s f)
        (then_do (run_with Slot other n os (term_code number e None t Nothing) a (world_of s)) (λ b u. with_value (or_unset (b (Slot (holder number e None t)))) u (λ v. g v b u)))
    head_follows s a f g h k =
        value_first (Holds number t) (value_in s e) s f _ (λ v is.
        term_follows number t other n (Holds number t) (λ b u. with_value (or_unset (b (Slot (holder number e None t)))) u (λ v. g v b u)) (f v) os e s None t v Nothing a (omega arith) named h is (λ b h' has keeps.
        subst (λ r. FollowsSource (Holds number t) (f v) (with_value (or_unset r) (world_of s) (λ v. g v b (world_of s)))) (sym has) (k v b h')))

    loop_follows : (m : ℕ) (s : State) (a : Cells) → Holds number t s a
        → FollowsSource (Holds number t) (source.turns m e body s) (turns m (λ c. c (Slot (holder number e None t))) (run_with Slot other n os (term_code number e None t Nothing)) flat_body a (world_of s))
    loop_follows zero s a h =
        head_follows s a (λ v. source.at_zero v (source.Goes s) (source.Stops s.trace Spent)) (λ v b u. at_zero v (Goes b u) (Stops u.trace Spent)) h
        (λ v b h'. zero_follows (Holds number t) v _ _ _ _ (both_go h') both_stop)
    loop_follows (suc m) s a h =
        head_follows s a (λ v. source.at_zero v (source.Goes s) (source.spend s.fuel s (λ u. source.then_do (body u) (source.turns m e body))))
        (λ v b u. at_zero v (Goes b u) (spend u.fuel u (λ w. then_do (flat_body b w) (turns m (λ c. c (Slot (holder number e None t))) (run_with Slot other n os (term_code number e None t Nothing)) flat_body)))) h
        (λ v b h'. zero_follows (Holds number t) v _ _ _ _ (both_go h') (spend_follows (Holds number t) s.fuel s _ _ (λ f.
        then_follows (Holds number t) (Holds number t) (source.turns m e body) (turns m (λ c. c (Slot (holder number e None t))) (run_with Slot other n os (term_code number e None t Nothing)) flat_body)
        (bodies (record s { fuel = f }) b (record { at = h'.at })) (λ s' a' h''. loop_follows m s' a' h''))))

  -- ---- accesses of devices

  read_follows : (R : State → Cells → Type 0) (x : Text) (v : ℕ) (s : State) (K : State → source.Outcome) (L : Cells → World → Outcome Cells) (os : List ℕ) (rest : Code ℕ) (c : Cells) → number x < t → Holds number t s c → Rest R os rest K L
      → (o : Option Reason) (rs : List ℕ)
      → FollowsSource R (source.then_do (source.unless o s (source.ask rs v s (λ q u. source.Goes (set x q u)))) K)
      (then_do (then_do (then_do (unless o (world_of s) (ask rs v (world_of s) (λ q u. Goes (q ∷ []) u))) (λ rs' u. Goes (set_all Slot (number x ∷ []) rs' c) u)) (run_with Slot other n os rest)) L)
  read_follows R x v s K L os rest c lx g k (Some f) rs = owes_nothing
  read_follows R x v s K L os rest c lx g k None [] = both_stop
  read_follows R x v s K L os rest c lx g k None (q ∷ rs) =
      let s1 = record s { replies = rs; trace = s.trace ++ Ld v q ∷ [] } in
      k (set x q s1) (put (Slot (number x)) (Some q) c) (set_holds number t one x (Some q) s1 c lx (record { at = g.at }))

  write_follows : (R : State → Cells → Type 0) (u v : ℕ) (s : State) (K : State → source.Outcome) (L : Cells → World → Outcome Cells) (os : List ℕ) (rest : Code ℕ) (c : Cells) → Holds number t s c → Rest R os rest K L
      → (o : Option Reason)
      → FollowsSource R (source.then_do (source.unless o s (source.Goes (record s { trace = s.trace ++ St u v ∷ [] }))) K)
      (then_do (then_do (then_do (unless o (world_of s) (Goes [] (record (world_of s) { trace = s.trace ++ St u v ∷ [] }))) (λ rs' w. Goes (set_all {X = ℕ} Slot [] rs' c) w)) (run_with Slot other n os rest)) L)
  write_follows R u v s K L os rest c g k (Some f) = owes_nothing
  write_follows R u v s K L os rest c g k None = k (record s { trace = s.trace ++ St u v ∷ [] }) c (record { at = g.at })

  -- a read of one address, and a write of one value to one
  read_command : (x : Text) (p : Term) (R : State → Cells → Type 0) (os : List ℕ) (rest : Code ℕ) (s : State) (a : Cells) (K : State → source.Outcome) (L : Cells → World → Outcome Cells) → Suits ar number t (Interacts (x ∷ []) Read (p ∷ [])) → Holds number t s a → Rest R os rest K L
      → FollowsSource R (source.then_do (source.run_with call n os (Interacts (x ∷ []) Read (p ∷ [])) s) K) (then_do (run_with Slot other n os (flat_code number function t (Interacts (x ∷ []) Read (p ∷ [])) rest) a (world_of s)) L)
  read_command x p R os rest s a K L h g k = at (value_in s p) refl
    where
      at : (r : Result ℕ Reason) → value_in s p ≡ r
          → FollowsSource R (source.then_do (source.with_value (before r (Ok [])) s (λ vs. source.access Read (x ∷ []) vs s)) K) (then_do (run_with Slot other n os (flat_code number function t (Interacts (x ∷ []) Read (p ∷ [])) rest) a (world_of s)) L)
      at (Err f) is = owes_nothing
      at (Ok v) is =
          term_follows number t other n R L _ os p s None t v _ a (omega arith) (all_left _ (term_names p) [] h.names.1) g is (λ c g' has keeps.
          plain_follows R (Access Read) (holder number p None t ∷ []) (number x ∷ []) (v ∷ []) c os rest s L _ (ap (λ q. before (or_unset q) (Ok [])) has)
          (read_follows R x v s K L os rest c h.names.0 g' k (address_fault v) s.replies))

  write_command : (p e : Term) (R : State → Cells → Type 0) (os : List ℕ) (rest : Code ℕ) (s : State) (a : Cells) (K : State → source.Outcome) (L : Cells → World → Outcome Cells) → Suits ar number t (Interacts [] Write (p ∷ e ∷ [])) → Holds number t s a → Rest R os rest K L
      → FollowsSource R (source.then_do (source.run_with call n os (Interacts [] Write (p ∷ e ∷ [])) s) K) (then_do (run_with Slot other n os (flat_code number function t (Interacts [] Write (p ∷ e ∷ [])) rest) a (world_of s)) L)
  write_command p e R os rest s a K L h g k = at (value_in s p) (value_in s e) refl refl
    where
      at : (r q : Result ℕ Reason) → value_in s p ≡ r → value_in s e ≡ q
          → FollowsSource R (source.then_do (source.with_value (before r (before q (Ok []))) s (λ vs. source.access Write [] vs s)) K) (then_do (run_with Slot other n os (flat_code number function t (Interacts [] Write (p ∷ e ∷ [])) rest) a (world_of s)) L)
      at (Err f) q is1 is2 = owes_nothing
      at (Ok u) (Err f) is1 is2 = owes_nothing
      at (Ok u) (Ok v) is1 is2 =
          let i = holder number p None t in
          let j = holder number e None (t + 1) in
          let named = all_left _ (term_names p) (term_names e ++ []) h.names in
          term_follows number t other n R L _ os p s None t u _ a (omega arith) named g is1 (λ b g1 has1 keeps1.
          term_follows number t other n R L _ os e s None (t + 1) v _ b (omega arith) (all_left _ (term_names e) [] (all_right _ (term_names p) (term_names e ++ []) h.names)) g1 is2 (λ c g2 has2 keeps2.
          let both : values Slot (i ∷ j ∷ []) c ≡ Ok (u ∷ v ∷ []) = ap₂ (λ i j. before (or_unset i) (before (or_unset j) (Ok []))) (keeps2 i (holder_below number t p t (omega arith) named) ∙ has1) has2 in
          plain_follows R (Access Write) (i ∷ j ∷ []) [] (u ∷ v ∷ []) c os rest s L _ both
          (write_follows R u v s K L os rest c g2 k (address_fault u))))

  interact_follows : (xs : List Text) (j : Action) (es : List Term) (R : State → Cells → Type 0) (os : List ℕ) (rest : Code ℕ) (s : State) (a : Cells) (K : State → source.Outcome) (L : Cells → World → Outcome Cells)
      → HasShape j (length xs) (length es) → Suits ar number t (Interacts xs j es) → Holds number t s a → Rest R os rest K L
      → FollowsSource R (source.then_do (source.run_with call n os (Interacts xs j es) s) K) (then_do (run_with Slot other n os (flat_code number function t (Interacts xs j es) rest) a (world_of s)) L)
  interact_follows (x ∷ []) Read (p ∷ []) R os rest s a K L shape h g k = read_command x p R os rest s a K L h g k
  interact_follows [] Write (p ∷ e ∷ []) R os rest s a K L shape h g k = write_command p e R os rest s a K L h g k
  interact_follows [] Read es R os rest s a K L shape h g k = absurd (omega (arith, shape.0))
  interact_follows (x ∷ y ∷ xs) Read es R os rest s a K L shape h g k = absurd (omega (arith, shape.0))
  interact_follows (x ∷ []) Read [] R os rest s a K L shape h g k = absurd (omega (arith, shape.1))
  interact_follows (x ∷ []) Read (p ∷ e ∷ es) R os rest s a K L shape h g k = absurd (omega (arith, shape.1))
  interact_follows (x ∷ xs) Write es R os rest s a K L shape h g k = absurd (omega (arith, shape.0))
  interact_follows [] Write [] R os rest s a K L shape h g k = absurd (omega (arith, shape.1))
  interact_follows [] Write (p ∷ []) R os rest s a K L shape h g k = absurd (omega (arith, shape.1))
  interact_follows [] Write (p ∷ e ∷ f ∷ es) R os rest s a K L shape h g k = absurd (omega (arith, shape.1))

  -- ---- all commands

  -- a command before the rest, which has the offsets that are left
  pub command_follows : (c : Command) (R : State → Cells → Type 0) (os : List ℕ) (rest : Code ℕ) (s : State) (a : Cells) (K : State → source.Outcome) (L : Cells → World → Outcome Cells) → Suits ar number t c → Holds number t s a
      → Rest R (drop (length (source_sites c)) os) rest K L
      → FollowsSource R (source.then_do (source.run_with call n os c s) K) (then_do (run_with Slot other n os (flat_code number function t c rest) a (world_of s)) L)
  command_follows Skips R os rest s a K L h g k = k s a g
  command_follows (Sets x e) R os rest s a K L h g k =
      value_before R (value_in s e) s (λ v. source.Goes (set x v s)) K _ (λ v is.
      term_follows number t other n R L _ os e s (Some (number x)) t v rest a (omega arith) h.names.1 g is (λ b g'.
      k (set x v s) (put (Slot (number x)) (Some v) b) (set_holds number t one x (Some v) s b h.names.0 g')))
  command_follows (Unsets x) R os rest s a K L h g k =
      k (record s { variables = maps.put x None s.variables }) (put (Slot (number x)) None a) (set_holds number t one x None s a h.names.0 g)
  command_follows (Stores w p e) R os rest s a K L h g k =
      value_before R (value_in s p) s (λ q. source.with_value (value_in s e) s (λ v. source.with_value (store (byte_count w) q v s.memory) s (λ m. source.Goes (record s { memory = m })))) K _ (λ q is1.
      value_before R (value_in s e) s (λ v. source.with_value (store (byte_count w) q v s.memory) s (λ m. source.Goes (record s { memory = m }))) K _ (λ v is2.
      let i = holder number p None t in
      let j = holder number e None (t + 1) in
      let named = all_left _ (term_names p) (term_names e) h.names in
      term_follows number t other n R L _ os p s None t q _ a (omega arith) named g is1 (λ b g1 has1 keeps1.
      term_follows number t other n R L _ os e s None (t + 1) v _ b (omega arith) (all_right _ (term_names p) (term_names e) h.names) g1 is2 (λ c g2 has2 keeps2.
      let both : values Slot (i ∷ j ∷ []) c ≡ Ok (q ∷ v ∷ []) = ap₂ (λ i j. before (or_unset i) (before (or_unset j) (Ok []))) (keeps2 i (holder_below number t p t (omega arith) named) ∙ has1) has2 in
      plain_follows R (Store w) (i ∷ j ∷ []) [] (q ∷ v ∷ []) c os rest s L _ both
      (store_follows R (store (byte_count w) q v s.memory) s K L os rest c g2 k)))))
  command_follows (Allocates m x d) R os rest s a K L h g k =
      let base = block_at s.stack os in
      let inner = flat_code number function t d Nothing in
      let s1 = allocated base m x s in
      let a1 = put (Slot (number x)) (Some base) a in
      after_release (Holds number t) R K base m (run_with Slot other n (drop (length (m ∷ sites inner)) os) rest) L
      (alone (Holds number t) _ _ (command_follows d (Holds number t) (drop 1 os) Nothing s1 a1 source.Goes Goes (suits_body ar number t m x d h)
      (record { at = (set_holds number t one x (Some base) s a h.names.0 g).at }) (λ s' a' g'. both_go g')))
      (λ s' a' g'. let s2 = record s' { memory = maps.with_range base m None s'.memory } in
      subst (λ (l : List ℕ). FollowsSource R (K s2) (then_do (run_with Slot other n (drop (length (m ∷ l)) os) rest a' (world_of s2)) L)) (sym (block_sites number function t d)) (k s2 a' (record { at = g'.at })))
  command_follows (Chooses e b d) R os rest s a K L h g k =
      let yes_code = flat_code number function t b Nothing in
      let no_code = flat_code number function t d Nothing in
      let onward = run_with Slot other n (drop (length (sites yes_code ++ sites no_code)) os) rest in
      let source_yes = source.run_with call n os b s in
      let source_no = source.run_with call n (drop (length (source_sites b)) os) d s in
      let all : sites yes_code ++ sites no_code ≡ source_sites b ++ source_sites d =
      ap (λ l. l ++ sites no_code) (block_sites number function t b) ∙ ap (λ l. source_sites b ++ l) (block_sites number function t d) in
      value_before R (value_in s e) s (λ v. source.at_zero v source_no source_yes) K _ (λ v is.
      term_follows number t other n R L _ os e s None t v (Sequence (Branch (holder number e None t) yes_code no_code) rest) a (omega arith) (all_left _ (term_names e) (command_names b ++ command_names d) h.names) g is (λ c g' has keeps.
      subst (λ r. FollowsSource R (source.then_do (source.at_zero v source_no source_yes) K)
      (then_do (then_do (with_value (or_unset r) (world_of s) (λ v. at_zero v (run_with Slot other n (drop (length (sites yes_code)) os) no_code c (world_of s)) (run_with Slot other n os yes_code c (world_of s)))) onward) L)) (sym has)
      (after_block (Holds number t) R K onward L
      (zero_follows (Holds number t) v _ _ _ _
      (subst (λ (l : List ℕ). FollowsSource (Holds number t) source_no (run_with Slot other n (drop (length l) os) no_code c (world_of s))) (sym (block_sites number function t b))
      (alone (Holds number t) _ _ (command_follows d (Holds number t) (drop (length (source_sites b)) os) Nothing s c source.Goes Goes (suits_no ar number t e b d h) g' (λ s' a' g''. both_go g''))))
      (alone (Holds number t) _ _ (command_follows b (Holds number t) os Nothing s c source.Goes Goes (suits_yes ar number t e b d h) g' (λ s' a' g''. both_go g''))))
      (λ s' a' g''. subst (λ (l : List ℕ). FollowsSource R (K s') (then_do (run_with Slot other n (drop (length l) os) rest a' (world_of s')) L)) (sym all) (k s' a' g'')))))
  command_follows (Repeats e b) R os rest s a K L h g k =
      let head = term_code number e None t Nothing in
      let body = flat_code number function t b Nothing in
      let onward = run_with Slot other n (drop (length (sites head ++ sites body)) os) rest in
      let none : sites head ≡ [] = term_sites number e None t Nothing in
      let all : sites head ++ sites body ≡ source_sites b = ap (λ l. l ++ sites body) none ∙ block_sites number function t b in
      after_block (Holds number t) R K onward L
      (subst (λ (l : List ℕ). FollowsSource (Holds number t) (source.turns n e (source.run_with call n os b) s) (turns n (λ c. c (Slot (holder number e None t))) (run_with Slot other n os head) (run_with Slot other n (drop (length l) os) body) a (world_of s))) (sym none)
      (loop_follows e os (all_left _ (term_names e) (command_names b) h.names) (source.run_with call n os b) (run_with Slot other n os body)
      (λ s' a' g'. alone (Holds number t) _ _ (command_follows b (Holds number t) os Nothing s' a' source.Goes Goes (suits_turn ar number t e b h) g' (λ s'' a'' g''. both_go g''))) n s a g))
      (λ s' a' g'. subst (λ (l : List ℕ). FollowsSource R (K s') (then_do (run_with Slot other n (drop (length l) os) rest a' (world_of s')) L)) (sym all) (k s' a' g'))
  command_follows (Calls xs f es) R os rest s a K L h g k =
      value_before R (values_in s es) s (λ vs. call f vs xs s) K _ (λ vs is.
      terms_follow number t other n R L _ os es s t vs _ a (omega arith) (all_right _ xs (terms_names es) h.names) g is (λ c g' vals keeps.
      plain_follows R (Call (function f)) (holders number es t) (map number xs) vs c os rest s L _ vals
      (after_block (Holds number t) R K (run_with Slot other n os rest) L
      (alike f vs xs s c (all_left _ xs (terms_names es) h.names) h.calls.0.1 (values_length s.variables s.memory es vs is ∙ h.calls.0.0) g') k)))
  command_follows (Interacts xs j es) R os rest s a K L h g k = interact_follows xs j es R os rest s a K L h.accesses.0 h g k
  command_follows Ends R os rest s a K L h g k = k s a g
  command_follows (Then c d) R os rest s a K L h g k =
      let second : State → source.Outcome = source.run_with call n (drop (length (source_sites c)) os) d in
      subst (λ q. FollowsSource R q (then_do (run_with Slot other n os (flat_code number function t c (flat_code number function t d rest)) a (world_of s)) L)) (sym (source_assoc (source.run_with call n os c s) second K))
      (command_follows c R os (flat_code number function t d rest) s a (λ s'. source.then_do (second s') K) L (suits_first ar number t c d h) g (λ s' a' g'.
      command_follows d R (drop (length (source_sites c)) os) rest s' a' K L (suits_rest ar number t c d h) g' (λ s'' a'' g''.
      subst (λ q. FollowsSource R (K s'') (then_do (run_with Slot other n q rest a'' (world_of s'')) L)) (sym (drop_both (source_sites c) (source_sites d) os)) (k s'' a'' g''))))

  pub body_follows : (c : Command) (os : List ℕ) (s : State) (a : Cells) → Suits ar number t c → Holds number t s a
      → FollowsSource (Holds number t) (source.run_with call n os c s) (run_with Slot other n os (flat_code number function t c Nothing) a (world_of s))
  body_follows c os s a h g = alone (Holds number t) _ _ (command_follows c (Holds number t) os Nothing s a source.Goes Goes h g (λ s' a' g'. both_go g'))
