-- A simulation that counts: how a machine comes to whatever a part of a program comes to. For every machine, every type of states
-- that have fuel, and every relation between these states and those of the machine. Each fuel that the program spends takes at least
-- one move, and at most `need`, the words of the whole code; beyond that there are at most `len` moves, the words of the code
-- that is run.
use Rattle.std.proofs.Common.{◌≡◌, ℕ, zero, suc, ◌+◌, ◌*◌, ◌<◌, ◌≤◌, inl, inr, List, Option, Some, None, Result, Ok, Err, refl, sym, ap, ◌∙◌, subst, arith}
use Rattle.std.proofs.lemmas.Bool.{cases_lt}
use Rattle.lb_trace.specs.Prefix.{IsPrefix}
use Rattle.lb_trace.proofs.PrefixLemmas.{IsPrefix-refl}
use Rattle.lb_steps.specs.Runs.{run, OnlyExtends}
use Rattle.lb_steps.proofs.GrowthLemmas.{run-longer_extends}
use Rattle.lb_steps.proofs.MoveLemmas.{Moves, Moves-none, Moves-one, Moves-then, Moves-still, LeadsTo, LeadsWithin}
use Rattle.lb_steps.proofs.Behavior.{Behavior, Goes, Spent, Starved, Undefined, EndsWith, then_do, with_value, at_zero, spend, turns, for_ever}

-- a test of a value: at most `len` moves, and then, where it is 0, at most two to one place, and else one to the other
pub record Tests {C E : Type 0} (move : C → Option C) (trace : C → List E) (Zero Other : C → Type 0) (len : ℕ) (c : C) (value : ℕ) (shown : List E) : Type 0 where
  pub steps : ℕ
  pub few : steps ≤ len
  pub ready : C
  pub goes : Moves move steps c ready
  pub shows : trace ready ≡ shown
  pub at_zero : value ≡ 0 → LeadsWithin move Zero 2 ready
  pub at_other : ¬ (value ≡ 0) → LeadsTo move Other ready

suc_times : (f n : ℕ) → suc f * n ≡ n + f * n
suc_times f n = omega arith

module _ {C E S : Type 0} (move : C → Option C) (trace : C → List E) (Waits : C → Type 0) (need : ℕ) (fuel : S → ℕ) where
  -- what the machine owes at d, where the program comes to this with so much fuel left; nothing where that is undefined
  abbrev pub Meets : (S → C → Type 0) → ℕ → C → Behavior S E → Type 0
  Meets T left d (Goes s) = T s d × (left ≡ fuel s)
  Meets T left d (Spent shown) = (trace d ≡ shown) × (left ≡ 0)
  Meets T left d (Starved shown) = (trace d ≡ shown) × Waits d
  Meets T left d Undefined = Unit {0}

  -- the same under another relation
  meets_also : (T U : S → C → Type 0) (left : ℕ) (d : C) (o : Behavior S E) → ((s : S) → T s d → U s d) → Meets T left d o → Meets U left d o
  meets_also T U left d (Goes s) to m = (to s m.0, m.1)
  meets_also T U left d (Spent shown) to m = m
  meets_also T U left d (Starved shown) to m = m
  meets_also T U left d Undefined to m = tt

  -- from c the machine comes to what the program comes to with this much fuel, and T holds where it goes on
  pub record Comes (T : S → C → Type 0) (len : ℕ) (c : C) (given : ℕ) (o : Behavior S E) : Type 0 where
    pub left : ℕ
    pub steps : ℕ
    pub there : C
    pub goes : Moves move steps c there
    pub meets : Meets T left there o
    pub falls : left ≤ given
    pub least : given ≤ left + steps
    pub most : steps + left * need ≤ len + given * need

module _ {C E S : Type 0} {move : C → Option C} {trace : C → List E} {Waits : C → Type 0} {need : ℕ} {fuel : S → ℕ} where
  -- ---- steps

  -- no move
  stays : {T : S → C → Type 0} {len given : ℕ} {c : C} {o : Behavior S E} → Meets move trace Waits need fuel T given c o → Comes move trace Waits need fuel T len c given o
  stays {given = given} {c = c} h =
      record { left = given; steps = 0; there = c; goes = Moves-none move c; meets = h; falls = omega arith; least = omega arith; most = omega arith }

  -- nothing is to be done
  pub arrived : {T : S → C → Type 0} {len : ℕ} {c : C} (s : S) → T s c → Comes move trace Waits need fuel T len c (fuel s) (Goes s)
  arrived s h = stays (h, refl)

  -- no fuel is left
  pub spent : {T : S → C → Type 0} {len given : ℕ} {c : C} {shown : List E} → given ≡ 0 → trace c ≡ shown → Comes move trace Waits need fuel T len c given (Spent shown)
  spent none shows = stays (shows, none)

  -- a reply is wanted
  pub starving : {T : S → C → Type 0} {len given : ℕ} {c : C} {shown : List E} → Waits c → trace c ≡ shown → Comes move trace Waits need fuel T len c given (Starved shown)
  starving waits shows = stays (shows, waits)

  -- nothing is owed
  pub undefined : {T : S → C → Type 0} {len given : ℕ} {c : C} → Comes move trace Waits need fuel T len c given Undefined
  undefined = stays tt

  -- with room to spare, and where something else is owed
  widened : {T U : S → C → Type 0} {la lb given : ℕ} {c : C} {o : Behavior S E} → la ≤ lb → (a : Comes move trace Waits need fuel T la c given o)
      → Meets move trace Waits need fuel U a.left a.there o → Comes move trace Waits need fuel U lb c given o
  widened le a h = record { left = a.left; steps = a.steps; there = a.there; goes = a.goes; meets = h; falls = a.falls; least = a.least; most = omega (arith, a.most, le) }

  -- with room to spare, and where another relation follows
  pub fits : {T U : S → C → Type 0} {la lb given : ℕ} {c : C} {o : Behavior S E} → la ≤ lb → ((s : S) (d : C) → T s d → U s d)
      → Comes move trace Waits need fuel T la c given o → Comes move trace Waits need fuel U lb c given o
  fits {T = T} {U = U} {o = o} le to a = widened le a (meets_also move trace Waits need fuel T U a.left a.there o (λ s. to s a.there) a.meets)

  -- moves that only lead on
  pub leading : {T : S → C → Type 0} {n la lb given : ℕ} {c d : C} {o : Behavior S E} → Moves move n c d → n + la ≤ lb
      → Comes move trace Waits need fuel T la d given o → Comes move trace Waits need fuel T lb c given o
  leading {n = n} m le a = record {
    left = a.left;
    steps = n + a.steps;
    there = a.there;
    goes = Moves-then m a.goes;
    meets = a.meets;
    falls = a.falls;
    least = omega (arith, a.least);
    most = omega (arith, a.most, le);
  }

  -- a move that spends one fuel, which gives room
  pub spending : {T : S → C → Type 0} {la lb given : ℕ} {c d : C} {o : Behavior S E} → move c ≡ Some d → 1 + la ≤ lb + need
      → Comes move trace Waits need fuel T la d given o → Comes move trace Waits need fuel T lb c (suc given) o
  spending {given = given} m le a = record {
    left = a.left;
    steps = 1 + a.steps;
    there = a.there;
    goes = Moves-then (Moves-one m) a.goes;
    meets = a.meets;
    falls = omega (arith, a.falls);
    least = omega (arith, a.least);
    most = omega (arith, a.most, le, suc_times given need);
  }

  -- ---- ways to go on

  -- from where the machine arrived
  joined : {T U : S → C → Type 0} {la lb len given : ℕ} {c : C} {s : S} {o : Behavior S E} → la + lb ≤ len → (a : Comes move trace Waits need fuel T la c given (Goes s))
      → Comes move trace Waits need fuel U lb a.there (fuel s) o → Comes move trace Waits need fuel U len c given o
  joined le a b = record {
    left = b.left;
    steps = a.steps + b.steps;
    there = b.there;
    goes = Moves-then a.goes b.goes;
    meets = b.meets;
    falls = omega (arith, a.falls, a.meets.1, b.falls);
    least = omega (arith, a.least, a.meets.1, b.least);
    most = omega (arith, a.most, ap (λ n. n * need) a.meets.1, b.most, le);
  }

  -- one after the other
  pub seq_comes : {T U : S → C → Type 0} {la lb len given : ℕ} {c : C} (o : Behavior S E) (go : S → Behavior S E) → la + lb ≤ len → Comes move trace Waits need fuel T la c given o
      → ((s : S) (d : C) → T s d → fuel s ≤ given → Comes move trace Waits need fuel U lb d (fuel s) (go s)) → Comes move trace Waits need fuel U len c given (then_do o go)
  seq_comes (Goes s) go le a next = joined le a (next s a.there a.meets.0 (omega (arith, a.falls, a.meets.1)))
  seq_comes (Spent shown) go le a next = widened (omega (arith, le)) a a.meets
  seq_comes (Starved shown) go le a next = widened (omega (arith, le)) a a.meets
  seq_comes Undefined go le a next = undefined

  -- a part, and one move behind it
  pub move_behind : {T U : S → C → Type 0} {la len given : ℕ} {c : C} {o : Behavior S E} → la + 1 ≤ len → Comes move trace Waits need fuel T la c given o
      → ((s : S) (d : C) → T s d → LeadsTo move (U s) d) → Comes move trace Waits need fuel U len c given o
  move_behind {o = Goes s} le a next =
      let l = next s a.there a.meets.0 in joined {lb = 1} le a (leading {la = 0} (Moves-one l.moves) (omega arith) (arrived s l.stands))
  move_behind {o = Spent shown} le a next = widened (omega (arith, le)) a a.meets
  move_behind {o = Starved shown} le a next = widened (omega (arith, le)) a a.meets
  move_behind {o = Undefined} le a next = undefined

  -- where a value is needed
  pub value_comes : {A R : Type 0} {T : S → C → Type 0} {len given : ℕ} {c : C} (r : Result A R) (go : A → Behavior S E)
      → ((v : A) → r ≡ Ok v → Comes move trace Waits need fuel T len c given (go v)) → Comes move trace Waits need fuel T len c given (with_value r go)
  value_comes (Ok v) go next = next v refl
  value_comes (Err reason) go next = undefined

  -- fuel is to be spent: a move spends it, or there is none
  pub spend_comes : {T : S → C → Type 0} {la lb : ℕ} {c d : C} (given : ℕ) (shown : List E) (go : ℕ → Behavior S E) → trace c ≡ shown → move c ≡ Some d
      → 1 + la ≤ lb + need → ((f : ℕ) → given ≡ suc f → Comes move trace Waits need fuel T la d f (go f)) → Comes move trace Waits need fuel T lb c given (spend given shown go)
  spend_comes zero shown go shows m le next = spent refl shows
  spend_comes (suc f) shown go shows m le next = spending m le (next f refl)

  -- ---- choices and loops

  -- a choice: one or the other
  pub branch_comes : {T : S → C → Type 0} {Zero Other : C → Type 0} {test la lb len given : ℕ} {c : C} {shown : List E} (value : ℕ) (a b : Behavior S E)
      → test + 2 + la ≤ len → test + 1 + lb ≤ len → Tests move trace Zero Other test c value shown
      → ((d : C) → Zero d → Comes move trace Waits need fuel T la d given a) → ((d : C) → Other d → Comes move trace Waits need fuel T lb d given b)
      → Comes move trace Waits need fuel T len c given (at_zero value a b)
  branch_comes zero a b le le2 t first second =
      let z = t.at_zero refl in leading (Moves-then t.goes z.goes) (omega (arith, t.few, z.few, le)) (first z.there z.stands)
  branch_comes (suc v) a b le le2 t first second =
      let l = t.at_other (λ e. absurd (omega (arith, e))) in leading (Moves-then t.goes (Moves-one l.moves)) (omega (arith, t.few, le2)) (second l.next l.stands)

  -- one test of a loop, which ends, or spends one fuel and goes on
  turn_comes : {T : S → C → Type 0} {Other : C → Type 0} {test la : ℕ} {c : C} (value : ℕ) (s : S) (shown : List E) (go : ℕ → Behavior S E) → la ≤ 1 + need
      → Tests move trace (T s) Other test c value shown
      → ((f : ℕ) (d : C) → fuel s ≡ suc f → Other d → Comes move trace Waits need fuel T la d f (go f))
      → Comes move trace Waits need fuel T (test + 2) c (fuel s) (at_zero value (Goes s) (spend (fuel s) shown go))
  turn_comes zero s shown go le t next =
      let z = t.at_zero refl in leading {la = 0} (Moves-then t.goes z.goes) (omega (arith, t.few, z.few)) (arrived s z.stands)
  turn_comes {la = la} (suc v) s shown go le t next =
      let l = t.at_other (λ e. absurd (omega (arith, e))) in
      leading {la = 2} t.goes (omega (arith, t.few)) (spend_comes {la = la} (fuel s) shown go t.shows l.moves (omega (arith, le)) (λ f e. next f l.next e l.stands))

  -- the last test of a loop, where no fuel is left
  last_comes : {T : S → C → Type 0} {Other : C → Type 0} {test : ℕ} {c : C} (value : ℕ) (s : S) (shown : List E) → fuel s ≡ 0
      → Tests move trace (T s) Other test c value shown → Comes move trace Waits need fuel T (test + 2) c (fuel s) (at_zero value (Goes s) (Spent shown))
  last_comes zero s shown none t =
      let z = t.at_zero refl in leading {la = 0} (Moves-then t.goes z.goes) (omega (arith, t.few, z.few)) (arrived s z.stands)
  last_comes (suc v) s shown none t = leading {la = 0} t.goes (omega (arith, t.few)) (spent none t.shows)

  -- a loop: `Top` holds before what stands ahead of its test, `Mid` before the test, `In` before its body, `Back` behind it, and `T` where
  -- the loop has ended
  module _ {R : Type 0} (T Top Mid In Back : S → C → Type 0) (shown : S → List E) (ahead : S → Behavior S E) (value : S → Result ℕ R) (body : S → ℕ → Behavior S E)
      (bound la test lb : ℕ) (room : la + test + lb + 2 ≤ need)
      (leads : (s : S) (c : C) → Top s c → fuel s ≤ bound → Comes move trace Waits need fuel Mid la c (fuel s) (ahead s))
      (tests : (s : S) (c : C) (v : ℕ) → Mid s c → value s ≡ Ok v → Tests move trace (T s) (In s) test c v (shown s))
      (turn : (s : S) (c : C) (f : ℕ) → In s c → fuel s ≡ suc f → f ≤ bound → Comes move trace Waits need fuel Back lb c f (body s f))
      (again : (s : S) (c : C) → Back s c → LeadsTo move (Top s) c) where
    pub loop_comes : (k : ℕ) (s : S) (c : C) → fuel s ≤ k → fuel s ≤ bound → Top s c
        → Comes move trace Waits need fuel T (la + test + 2) c (fuel s) (turns fuel shown ahead value body k s)
    loop_comes zero s c low few here =
        seq_comes {lb = test + 2} (ahead s) _ (omega arith) (leads s c here few)
        (λ t d mid less. value_comes (value t) _ (λ v is. last_comes v t (shown t) (omega (arith, low, less)) (tests t d v mid is)))
    loop_comes (suc k) s c low few here =
        seq_comes {lb = test + 2} (ahead s) _ (omega arith) (leads s c here few)
        (λ t d mid less. value_comes (value t) _ (λ v is. turn_comes {la = lb + (1 + (la + test + 2))} v t (shown t) _ (omega (arith, room)) (tests t d v mid is)
        (λ f e some inside. seq_comes {lb = 1 + (la + test + 2)} (body t f) (turns fuel shown ahead value body k) (omega arith) (turn t e f inside some (omega (arith, few, less, some)))
        (λ u g behind fewer. let l = again u g behind in leading {la = la + test + 2} (Moves-one l.moves) (omega arith)
        (loop_comes k u l.next (omega (arith, low, less, some, fewer)) (omega (arith, few, less, some, fewer)) l.stands)))))

  -- again and again, each time by a move that spends one fuel: `Before` holds before that move, and `In` behind it
  module _ (T Before In : S → C → Type 0) (shown : S → List E) (body : S → ℕ → Behavior S E) (bound lb : ℕ) (room : lb + 1 ≤ need)
      (shows : (s : S) (c : C) → Before s c → trace c ≡ shown s)
      (begins : (s : S) (c : C) → Before s c → LeadsTo move (In s) c)
      (turn : (s : S) (c : C) (f : ℕ) → In s c → fuel s ≡ suc f → f ≤ bound → Comes move trace Waits need fuel Before lb c f (body s f)) where
    pub ever_comes : (k : ℕ) (s : S) (c : C) → fuel s ≤ k → fuel s ≤ bound → Before s c → Comes move trace Waits need fuel T 0 c (fuel s) (for_ever fuel shown body k s)
    ever_comes zero s c low few here = spent (omega (arith, low)) (shows s c here)
    ever_comes (suc k) s c low few here =
        let l = begins s c here in
        spend_comes {la = lb} (fuel s) (shown s) (λ f. then_do (body s f) (for_ever fuel shown body k)) (shows s c here) l.moves (omega (arith, room))
        (λ f some. seq_comes {lb = 0} (body s f) (for_ever fuel shown body k) (omega arith) (turn s l.next f l.stands some (omega (arith, few, some)))
        (λ u d before less. ever_comes k u d (omega (arith, low, some, less)) (omega (arith, few, some, less)) before))

  -- ---- what is said of every run of the machine

  module _ {T : S → C → Type 0} {len given n : ℕ} {c : C} (extends : OnlyExtends move trace) (stops : (d : C) → Waits d → move d ≡ None) (shown : List E) where
    -- the first n moves show the beginning of what a program with more fuel than n does
    pub agrees : (o : Behavior S E) → n < given → EndsWith shown o → Comes move trace Waits need fuel T len c given o → IsPrefix (trace (run move n c)) shown
    agrees (Goes s) lt is a = absurd is
    agrees (Spent seen) lt is a =
        subst (IsPrefix (trace (run move n c))) (ap trace a.goes.goes ∙ a.meets.0 ∙ is) (run-longer_extends move trace extends n a.steps c (omega (arith, lt, a.least, a.meets.1)))
    agrees (Starved seen) lt is a = elim (cases_lt n a.steps) [
      | inl before ↦ subst (IsPrefix (trace (run move n c))) (ap trace a.goes.goes ∙ a.meets.0 ∙ is) (run-longer_extends move trace extends n a.steps c (omega (arith, before)))
      | inr past ↦ subst (IsPrefix (trace (run move n c))) (ap trace (Moves-still a.goes (stops a.there a.meets.1) past) ∙ a.meets.0 ∙ is) (IsPrefix-refl (trace (run move n c)))
    ]
    agrees Undefined lt is a = absurd is

    -- where the machine stands still after n moves, it waits
    pub stands_to_wait : (o : Behavior S E) → n < given → EndsWith shown o → Comes move trace Waits need fuel T len c given o → move (run move n c) ≡ None → Waits (run move n c)
    stands_to_wait (Goes s) lt is a none = absurd is
    stands_to_wait (Spent seen) lt is a none = absurd (a.goes.moving n (omega (arith, lt, a.least, a.meets.1)) none)
    stands_to_wait (Starved seen) lt is a none = elim (cases_lt n a.steps) [
      | inl before ↦ absurd (a.goes.moving n before none)
      | inr past ↦ subst Waits (sym (Moves-still a.goes (stops a.there a.meets.1) past)) a.meets.1
    ]
    stands_to_wait Undefined lt is a none = absurd is

    -- what the program does is the beginning of what enough moves show
    pub reaches : (o : Behavior S E) → len + given * need ≤ n → EndsWith shown o → Comes move trace Waits need fuel T len c given o → IsPrefix shown (trace (run move n c))
    reaches (Goes s) le is a = absurd is
    reaches (Spent seen) le is a =
        subst (λ t. IsPrefix t (trace (run move n c))) (ap trace a.goes.goes ∙ a.meets.0 ∙ is) (run-longer_extends move trace extends a.steps n c (omega (arith, le, a.most)))
    reaches (Starved seen) le is a =
        subst (λ t. IsPrefix t (trace (run move n c))) (ap trace a.goes.goes ∙ a.meets.0 ∙ is) (run-longer_extends move trace extends a.steps n c (omega (arith, le, a.most)))
    reaches Undefined le is a = absurd is
