-- What a prefix that is taken off says.
use Rattle.std.proofs.Common.{Option, Some, None, IfSome, IfNone}
use Rattle.std.specs.Option.{MatchOption}

-- the fact for the value alone, and the fact for none alone
pub some_alone : {A : Type 0} (r : Option A) (P : Type 0) (Q : A → Type 0) → MatchOption r P Q → IfSome r Q
some_alone None P Q h = tt
some_alone (Some x) P Q h = h

pub none_alone : {A : Type 0} (r : Option A) (P : Type 0) (Q : A → Type 0) → MatchOption r P Q → IfNone r P
none_alone None P Q h = h
none_alone (Some x) P Q h = tt
