-- Forms of lists of events, the lists that are members of a form, and those that begin a member.
use Rattle.std.specs.Prelude.{◌≡◌, ℕ, zero, suc, ◌<◌, Bool, true, nat_le, nat_lt, IsTrue, ◌⊎◌, List, [], ◌∷◌, ◌++◌}
use Rattle.lb_trace.specs.declared.Event.{Event}

pub data Form : Type 0 where
  -- the empty list
  Nothing : Form
  -- this event alone
  One : (event : Event) → Form
  -- the first, and then the rest
  Sequence : (first rest : Form) → Form
  -- this many times
  Exactly : (count : ℕ) → (item : Form) → Form
  -- for any number that passes the test
  Any : (test : ℕ → Bool) → (form : ℕ → Form) → Form
  -- for any list of numbers that passes the test
  AnyList : (test : List ℕ → Bool) → (form : List ℕ → Form) → Form
  Either : (left right : Form) → Form

-- ---- forms of forms

abbrev pub at_most : ℕ → Form → Form
at_most n item = Any (λ k. nat_le k n) (λ k. Exactly k item)

abbrev pub fewer_than : ℕ → Form → Form
fewer_than n item = Any (λ k. nat_lt k n) (λ k. Exactly k item)

abbrev pub any_number : Form → Form
any_number item = Any (λ k. true) (λ k. Exactly k item)

-- the first, or one of the others
abbrev pub one_of : Form → List Form → Form
one_of a [] = a
one_of a (b ∷ others) = Either a (one_of b others)

-- ---- members

-- a kind of lists
abbrev pub Lists : Type 1
Lists = List Event → Type 0

-- a list of one kind, and then one of another
pub record Concat (first_kind second_kind : List Event → Type 0) (l : List Event) : Type 0 where
  pub front : List Event
  pub back : List Event
  pub first : first_kind front
  pub second : second_kind back
  pub whole : l ≡ front ++ back

-- this many lists of one kind, one after another
pub data Repeated (kind : List Event → Type 0) : ℕ → List Event → Type 0 where
  none : {l : List Event} → l ≡ [] → Repeated kind zero l
  more : {n : ℕ} → {l : List Event} → (front back : List Event) → kind front → Repeated kind n back → l ≡ front ++ back → Repeated kind (suc n) l

-- the list is a member of the form
abbrev pub Is : Form → Lists
Is Nothing l = l ≡ []
Is (One e) l = l ≡ e ∷ []
Is (Sequence a b) l = Concat (Is a) (Is b) l
Is (Exactly n a) l = Repeated (Is a) n l
Is (Any test form) l = (v : ℕ) × IsTrue (test v) × Is (form v) l
Is (AnyList test form) l = (vs : List ℕ) × IsTrue (test vs) × Is (form vs) l
Is (Either a b) l = Is a l ⊎ Is b l

-- ---- prefixes of members

-- fewer than n lists of one kind, and then one of another
pub record Fewer (n : ℕ) (kind last_kind : List Event → Type 0) (l : List Event) : Type 0 where
  pub count : ℕ
  pub below : count < n
  pub parts : Concat (Repeated kind count) last_kind l

-- the list is a prefix of a member
abbrev pub Begins : Form → Lists
Begins Nothing l = l ≡ []
Begins (One e) l = (l ≡ []) ⊎ (l ≡ e ∷ [])
Begins (Sequence a b) l = Begins a l ⊎ Concat (Is a) (Begins b) l
Begins (Exactly n a) l = Repeated (Is a) n l ⊎ Fewer n (Is a) (Begins a) l
Begins (Any test form) l = (v : ℕ) × IsTrue (test v) × Begins (form v) l
Begins (AnyList test form) l = (vs : List ℕ) × IsTrue (test vs) × Begins (form vs) l
Begins (Either a b) l = Begins a l ⊎ Begins b l
