use Rattle.std.proofs.Common.{◌≡◌, get_or, ap, inl, inr, arith}
use Rattle.std.proofs.lemmas.Bool.{cases_lt}
use Rattle.audit_checks.specs.Tasks.{key_of, succ_count}
use Rattle.audit_checks.proofs.LeastTask.{keys_count}
use Rattle.audit_checks.proofs.EdgeCounts.{many_fault}
use Rattle.audit_checks.proofs.sizes.check_edges.Goals as goal

pub bounds-keys-i : goal.bounds-keys-i
bounds-keys-i c = omega (arith, keys_count c.args.tasks.now c.args.keys.now c.requires.counted.is)

pub returns-then-count-gt-MOST_EDGES-clause-err : goal.returns-then-count-gt-MOST_EDGES-clause-err
returns-then-count-gt-MOST_EDGES-clause-err c = λ names few.
    let fault = many_fault c.args.tasks.now c.args.keys.now c.args.sink c.loop-i.i c.edges_at-count.result c.requires.counted.is c.requires.ascending (omega arith)
    c.edges_at-count.ensures (omega (arith, c.if-count-gt-MOST_EDGES.true)) c.loop-i.invariant in
    (names, few, fault.0, fault.1)

pub loop-i-preserved : goal.loop-i-preserved
loop-i-preserved c = λ k d early. elim (cases_lt k c.loop-i.i) [
  | inl less ↦ c.loop-i.invariant k d less
  | inr late ↦ let e : c.loop-i.i ≡ k = omega arith in
      omega (arith, c.edges_at-count.ensures d, ap (λ m. succ_count c.args.tasks.now c.args.sink (key_of (get_or c.args.tasks.now m d))) e, c.if-count-gt-MOST_EDGES.false)
]
