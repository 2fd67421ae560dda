-- The job that words ask for: there is one at most, with numbers in their ranges.
use Rattle.std.proofs.Common.{◌≡◌, ℕ, ◌≤◌, List, Option, Some, None, sym, ◌∙◌, refl, arith}
use Rattle.clap.specs.Words.{Text}
use Rattle.lb_words.specs.Words.{IsNumberOr, Asks}
use Rattle.lb_words.specs.declared.job.Job.{Job}
use Rattle.lb_words.specs.declared.job.Mode.{Mode}

one_number : (least most missing : ℕ) (given : Option Text) (a b : ℕ) → IsNumberOr least most missing given a
    → IsNumberOr least most missing given b → a ≡ b
one_number least most missing None a b x y = x ∙ sym y
one_number least most missing (Some text) a b x y = x.value ∙ sym y.value

some_one : {A : Type 0} {a b : A} → Some a ≡ Some b → a ≡ b
some_one e = cc

-- the words ask for at most one job
pub one_job : (modes : List Mode) (words : List Text) (a b : Job) → Asks modes words a → Asks modes words b → a ≡ b
one_job modes words a b x y =
    let mode : a.mode ≡ b.mode = some_one (sym x.found.mode ∙ y.found.mode) in
    let events : a.events ≡ b.events = one_number _ _ _ _ _ _ x.found.events y.found.events in
    let workers : a.workers ≡ b.workers = one_number _ _ _ _ _ _ x.found.workers y.found.workers in
    let seed : a.seed ≡ b.seed = one_number _ _ _ _ _ _ x.found.seed y.found.seed in
    let log : a.log ≡ b.log = x.found.log ∙ sym y.found.log in
    let trace : a.trace ≡ b.trace = x.found.trace ∙ sym y.found.trace in
    rw (mode, events, workers, seed, log, trace) refl

number_in_range : (least most missing : ℕ) (given : Option Text) (n : ℕ) → least ≤ missing → missing ≤ most
    → IsNumberOr least most missing given n → (least ≤ n) × (n ≤ most)
number_in_range least most missing None n low high h = (omega (arith, low, h), omega (arith, high, h))
number_in_range least most missing (Some text) n low high h = (h.at_least, h.at_most)

-- the job's numbers are in their ranges
pub numbers_in_range : (modes : List Mode) (words : List Text) (job : Job) → Asks modes words job
    → (1 ≤ job.events) × (job.events ≤ 4000000) × (1 ≤ job.workers) × (job.workers ≤ 8) × (job.seed ≤ 4294967295)
numbers_in_range modes words job asked =
    let events = number_in_range 1 4000000 400000 _ _ (omega arith) (omega arith) asked.found.events in
    let workers = number_in_range 1 8 4 _ _ (omega arith) (omega arith) asked.found.workers in
    let seed = number_in_range 0 4294967295 0 _ _ (omega arith) (omega arith) asked.found.seed in
    (events.0, events.1, workers.0, workers.1, seed.1)
