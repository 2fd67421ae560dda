-- Look-ups in a table of the code are look-ups in the table of the grammar.
use Rattle.std.proofs.Common.{◌≡◌, Bool, true, false, cond, List, [], ◌∷◌, map, Option, Some, refl}
use Rattle.std.specs.List.{find}
use Rattle.lb_spelling.specs.Tokens.{Token}
use Rattle.lb_scan.specs.declared.token.Token.{Token as ScannedToken}
use Rattle.lb_scan.specs.Tokens.{token_of, token_of_option}

either : (b : Bool) (w : ScannedToken) (o : Option ScannedToken) → token_of_option (cond b (Some w) o) ≡ cond b (Some (token_of w)) (token_of_option o)
either true w o = refl
either false w o = refl

pub find_tokens : (p : Token → Bool) (table : List ScannedToken) → token_of_option (find (λ w. p (token_of w)) table) ≡ find p (map token_of table)
find_tokens p [] = refl
find_tokens p (w ∷ table) = rw (either (p (token_of w)) w (find (λ w. p (token_of w)) table), find_tokens p table) refl
