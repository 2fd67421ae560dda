use Rattle.std.proofs.Common.{subst, sym, List, ℕ}
use Rattle.std.proofs.lemmas.Result.{IfOk-weaker, IfErr-weaker}
use Rattle.lb_scan.specs.InternalScanning.{ReadsNumber, ReadsNoNumber, NumberFault}
use Rattle.lb_scan.proofs.Marks.{reads_decimal, reads_hex, decimal_fault, hexadecimal_fault}
use Rattle.lb_scan.proofs.Refused.{decimal_refused, hexadecimal_refused}
use Rattle.lb_scan.proofs.number.number.Goals as goal

pub returns-in-None-clause-found : goal.returns-in-None-clause-found
returns-in-None-clause-found c = IfOk-weaker c.digits.result _ _ (λ r p. reads_decimal c.args.bytes.now r.0 r.1.now c.in-None.ensures p) c.digits.ensures.found

pub returns-in-None-clause-fault : goal.returns-in-None-clause-fault
returns-in-None-clause-fault c = IfErr-weaker c.digits.result _ _ (λ error p. decimal_fault c.args.bytes.now error c.in-None.ensures p) c.digits.ensures.fault

pub returns-in-Some-clause-found : goal.returns-in-Some-clause-found
returns-in-Some-clause-found c = IfOk-weaker c.hexadecimal.result _ _ (λ r p. subst (λ (s : List ℕ). ReadsNumber s r.0 r.1.now) (sym c.in-Some.ensures) (reads_hex c.in-Some.rest.now r.0 r.1.now p)) c.hexadecimal.ensures.found

pub returns-in-Some-clause-fault : goal.returns-in-Some-clause-fault
returns-in-Some-clause-fault c = IfErr-weaker c.hexadecimal.result _ _ (λ error p. subst (λ (s : List ℕ). NumberFault s error) (sym c.in-Some.ensures) (hexadecimal_fault c.in-Some.rest.now error p)) c.hexadecimal.ensures.fault

pub returns-in-None-clause-refused : goal.returns-in-None-clause-refused
returns-in-None-clause-refused c = IfErr-weaker c.digits.result _ _ (λ error p. decimal_refused c.args.bytes.now error c.in-None.ensures p) c.digits.ensures.fault

pub returns-in-Some-clause-refused : goal.returns-in-Some-clause-refused
returns-in-Some-clause-refused c = IfErr-weaker c.hexadecimal.result _ _ (λ error p. subst (λ (s : List ℕ). ReadsNoNumber s) (sym c.in-Some.ensures) (hexadecimal_refused c.in-Some.rest.now error p)) c.hexadecimal.ensures.fault
