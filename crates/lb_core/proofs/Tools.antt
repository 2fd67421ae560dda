-- Tests, options and lists.
use Rattle.std.proofs.Common.{◌≡◌, Bool, true, false, not, List, [], ◌∷◌, ◌++◌, Option, Some, None, IfSome, is_none, refl, subst}
use Rattle.std.specs.List.{AllByRecursion}
use Rattle.lb_core.specs.Stands.{ByTest}

pub by_test_map : (b : Bool) {A B C D : Type 0} → (A → C) → (B → D) → ByTest b A B → ByTest b C D
by_test_map true f g x = f x
by_test_map false f g x = g x

pub by_test_true : (A B : Type 0) (b : Bool) → b ≡ true → ByTest b A B → A
by_test_true A B true h x = x
by_test_true A B false h x = absurd (cc h)

pub by_test_false : (A B : Type 0) (b : Bool) → b ≡ false → ByTest b A B → B
by_test_false A B false h x = x
by_test_false A B true h x = absurd (cc h)

pub into_true : (A B : Type 0) (b : Bool) → b ≡ true → A → ByTest b A B
into_true A B true h x = x
into_true A B false h x = absurd (cc h)

pub into_false : (A B : Type 0) (b : Bool) → b ≡ false → B → ByTest b A B
into_false A B false h x = x
into_false A B true h x = absurd (cc h)

pub not_true : (a : Bool) → not a ≡ true → a ≡ false
not_true true h = absurd (cc h)
not_true false h = refl

pub is_none_None : {A : Type 0} (o : Option A) → is_none o ≡ true → o ≡ None
is_none_None None h = refl
is_none_None (Some x) h = absurd (cc h)

pub if_some : {A : Type 0} (o : Option A) (P : A → Type 0) → ((x : A) → o ≡ Some x → P x) → IfSome o P
if_some None P f = tt
if_some (Some x) P f = f x refl

pub some_is : {A : Type 0} (o : Option A) (P : A → Type 0) (x : A) → o ≡ Some x → IfSome o P → P x
some_is o P x h q = subst (λ w. IfSome w P) h q

pub if_some_map : {A : Type 0} (o : Option A) (P Q : A → Type 0) → ((x : A) → P x → Q x) → IfSome o P → IfSome o Q
if_some_map None P Q f h = tt
if_some_map (Some x) P Q f h = f x h

pub all_map : {A : Type 0} (P Q : A → Type 0) (xs : List A) → ((x : A) → P x → Q x) → AllByRecursion P xs → AllByRecursion Q xs
all_map P Q [] f h = tt
all_map P Q (x ∷ xs) f h = (f x h.0, all_map P Q xs f h.1)

-- one more item at the end
pub all_snoc : {A : Type 0} (P : A → Type 0) (xs : List A) (y : A) → AllByRecursion P xs → P y → AllByRecursion P (xs ++ y ∷ [])
all_snoc P [] y h p = (p, tt)
all_snoc P (x ∷ xs) y h p = (h.0, all_snoc P xs y h.1 p)
