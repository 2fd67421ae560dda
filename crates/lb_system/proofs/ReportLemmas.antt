-- The lines of code, one word more at a time.
use Rattle.std.proofs.Common.{◌≡◌, ℕ, zero, suc, ◌+◌, ◌<◌, List, [], ◌∷◌, ◌++◌, length, take, get_or, append_assoc, append-nil, sym, ap, ◌∙◌, arith}
use Rattle.std.specs.List.{enumerate_from, flat_map}
use Rattle.lb_system.specs.Report.{code_line, code_lines}

code_more : (n : ℕ) (ws : List ℕ) (i d : ℕ) → i < length ws
    → flat_map code_line (enumerate_from n (take (suc i) ws)) ≡ flat_map code_line (enumerate_from n (take i ws)) ++ code_line (n + i, get_or ws i d)
code_more n [] i d lt = absurd (omega arith)
code_more n (x ∷ ws) zero d lt =
    let at : n ≡ n + 0 = omega arith in
    append-nil (code_line (n, x)) ∙ ap (λ k. code_line (k, x)) at
code_more n (x ∷ ws) (suc i) d lt =
    let at : n + 1 + i ≡ n + suc i = omega arith in
    let rest = code_more (n + 1) ws i d (omega arith) in
    ap (λ t. code_line (n, x) ++ t) (rest ∙ ap (λ k. flat_map code_line (enumerate_from (n + 1) (take i ws)) ++ code_line (k, get_or ws i d)) at)
    ∙ sym (append_assoc (code_line (n, x)) (flat_map code_line (enumerate_from (n + 1) (take i ws))) (code_line (n + suc i, get_or ws i d)))

pub next_line : (ws : List ℕ) (i d : ℕ) → i < length ws → code_lines (take (i + 1) ws) ≡ code_lines (take i ws) ++ code_line (i, get_or ws i d)
next_line ws i d lt =
    let next : i + 1 ≡ suc i = omega arith in
    let first : 0 + i ≡ i = omega arith in
    ap (λ k. code_lines (take k ws)) next ∙ code_more 0 ws i d lt ∙ ap (λ k. code_lines (take i ws) ++ code_line (k, get_or ws i d)) first
