-- Lists that begin alike.
use Rattle.std.specs.Prelude.{◌≡◌, List, ◌++◌}

-- ys is xs followed by a list
pub record IsPrefix {A : Type 0} (xs ys : List A) : Type 0 where
  pub rest : List A
  pub whole : ys ≡ xs ++ rest
