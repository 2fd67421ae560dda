-- Blanks and comments that the code skips.
use Rattle.std.proofs.Common.{◌≡◌, ℕ, ◌≤◌, true, false, List, [], ◌∷◌, ◌++◌, length, refl, sym, ap, ◌∙◌, append_assoc, arith, inl, inr, ◌⊎◌, eqb}
use Rattle.lb_syntax.specs.Brackets.{most_brackets}
use Rattle.lb_spelling.specs.Tokens.{Outside, Comment, gap, is_blank}
use Rattle.lb_spelling.specs.InternalMachine.{Stack, run, Between, InComment, Part}
use Rattle.lb_spelling.proofs.Back.{gap-append}
use Rattle.lb_spelling.proofs.Running.{run_step, slash_step, comment_step}
use Rattle.lb_scan.specs.InternalScanning.{Skips}

-- within a comment that stands in s, rest is left
pub record InsideFrom (s rest : List ℕ) : Type 0 where
  pub runs : (n : ℕ) (k : Stack) → run most_brackets s InComment n k ≡ run most_brackets rest InComment n k
  pub last : gap true Comment s ≡ gap true Comment rest
  pub before : List ℕ
  pub parts : s ≡ before ++ rest
  pub front : (more : List ℕ) → gap false Comment (before ++ more) ≡ gap false Comment more
  pub shorter : length rest ≤ length s

pub inside_begins : (s : List ℕ) → InsideFrom s s
inside_begins s = record { runs = λ n k. refl; last = refl; before = []; parts = refl; front = λ more. refl; shorter = omega arith }

pub inside_goes : (s : List ℕ) (b : ℕ) (rest : List ℕ) → InsideFrom s (b ∷ rest) → eqb b 10 ≡ false → InsideFrom s rest
inside_goes s b rest p e = record {
  runs = λ n k. p.runs n k ∙ run_step most_brackets b rest InComment n k InComment n k (rw e refl);
  last = p.last ∙ rw e refl;
  before = p.before ++ b ∷ [];
  parts = p.parts ∙ sym (append_assoc p.before (b ∷ []) rest);
  front = λ more. ap (λ (u : List ℕ). gap false Comment u) (append_assoc p.before (b ∷ []) more) ∙ (p.front (b ∷ more) ∙ rw e refl);
  shorter = (let h = p.shorter in omega arith);
}

pub inside_ends : (s : List ℕ) (b : ℕ) (rest : List ℕ) → InsideFrom s (b ∷ rest) → eqb b 10 ≡ true → Skips Comment s rest
inside_ends s b rest p e = record {
  runs = λ n k h. p.runs n k ∙ run_step most_brackets b rest InComment n k Between n k (rw e refl);
  last = p.last ∙ rw e refl;
  front = inl (p.before ++ b ∷ [], p.parts ∙ sym (append_assoc p.before (b ∷ []) rest), p.front (b ∷ []) ∙ rw e refl);
}

pub inside_stops : (s : List ℕ) → InsideFrom s [] → Skips Comment s []
inside_stops s p = record { runs = λ n k h. p.runs n k; last = p.last; front = inr refl }

pub skips_nothing : (s : List ℕ) → Skips Outside s s
skips_nothing s = record { runs = λ n k h. refl; last = refl; front = inl ([], refl, refl) }

pub skips_blank : (b : ℕ) (s : List ℕ) → is_blank b ≡ true → Skips Outside (b ∷ s) s
skips_blank b s e = record {
  runs = λ n k h. run_step most_brackets b s Between n k Between n k (rw e refl);
  last = rw e refl;
  front = inl (b ∷ [], refl, rw e refl);
}

pub skips_comment : (s rest : List ℕ) → Skips Comment s rest → Skips Outside (47 ∷ 47 ∷ s) rest
unfolding is_blank
skips_comment s rest p = record {
  runs = λ n k h. run_step most_brackets 47 (47 ∷ s) Between n k (Part (47 ∷ [])) n k (slash_step most_brackets n k h) ∙ (run_step most_brackets 47 s (Part (47 ∷ [])) n k InComment n k (comment_step most_brackets n k) ∙ p.runs n k h);
  last = p.last;
  front = elim p.front [
    | inl f ↦ inl (47 ∷ 47 ∷ f.0, ap (λ (u : List ℕ). 47 ∷ 47 ∷ u) f.1, f.2)
    | inr e ↦ inr e
  ];
}

nothing_after : (a b : List ℕ) → a ++ b ≡ [] → b ≡ []
nothing_after [] b e = e
nothing_after (x ∷ a) b e = absurd cc

abbrev Front : List ℕ → List ℕ → Type 0
Front s rest = ((before : List ℕ) × (s ≡ before ++ rest) × (gap false Outside before ≡ true)) ⊎ (rest ≡ [])

front_more : (s s1 rest : List ℕ) → Front s s1 → Front s1 rest → Front s rest
front_more s s1 rest f (inr e) = inr e
front_more s s1 rest (inr e) (inl g) = inr (nothing_after g.0 rest (sym g.1 ∙ e))
front_more s s1 rest (inl f) (inl g) = inl (f.0 ++ g.0, f.1 ∙ (ap (λ (u : List ℕ). f.0 ++ u) g.1 ∙ sym (append_assoc f.0 g.0 rest)), gap-append f.0 Outside false g.0 f.2 ∙ g.2)

pub skips_more : (s s1 rest : List ℕ) → Skips Outside s s1 → Skips Outside s1 rest → Skips Outside s rest
skips_more s s1 rest p q = record {
  runs = λ n k h. p.runs n k h ∙ q.runs n k h;
  last = p.last ∙ q.last;
  front = front_more s s1 rest p.front q.front;
}

pub skips_comment_at : (b c : ℕ) (s rest : List ℕ) → b ≡ 47 → c ≡ 47 → Skips Comment s rest → Skips Outside (b ∷ c ∷ s) rest
skips_comment_at b c s rest p q h = rw (p, q) (skips_comment s rest h)
