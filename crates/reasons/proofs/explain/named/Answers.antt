-- `reasons::explain::named` meets its contract: each number has its reason. Assumes nothing.
use mathlib.Core.Path.{ap, sym}
use Rattle.reasons.specs.Lists.{reason_of}
use native.Mathlib.Omega.{arith}
use Rattle.reasons.proofs.OneEdge.{named_last}
use Rattle.reasons.proofs.explain.named.Goals as goal

pub returns-in-0 : goal.returns-in-0
unfolding reason_of
returns-in-0 c = ap (λ n. reason_of n c.args.exact) (sym c.in-0.is)

pub returns-in-1 : goal.returns-in-1
unfolding reason_of
returns-in-1 c = ap (λ n. reason_of n c.args.exact) (sym c.in-1.is)

pub returns-in-2 : goal.returns-in-2
unfolding reason_of
returns-in-2 c = ap (λ n. reason_of n c.args.exact) (sym c.in-2.is)

pub returns-in-3 : goal.returns-in-3
unfolding reason_of
returns-in-3 c = ap (λ n. reason_of n c.args.exact) (sym c.in-3.is)

pub returns-in-4 : goal.returns-in-4
unfolding reason_of
returns-in-4 c = ap (λ n. reason_of n c.args.exact) (sym c.in-4.is)

pub returns-in-5 : goal.returns-in-5
unfolding reason_of
returns-in-5 c = ap (λ n. reason_of n c.args.exact) (sym c.in-5.is)

pub returns-in-6 : goal.returns-in-6
unfolding reason_of
returns-in-6 c = ap (λ n. reason_of n c.args.exact) (sym c.in-6.is)

pub returns-in_default : goal.returns-in_default
returns-in_default c =
    named_last _ _ (λ e. omega arith) (λ e. omega arith) (λ e. omega arith) (λ e. omega arith) (λ e. omega arith) (λ e. omega arith) (λ e. omega arith)
