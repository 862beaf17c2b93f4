use Rattle.std.proofs.Common.{◌≡◌, ◌∙◌, ◌<◌, length, get_or, inl, inr, subst, sym, arith}
use Rattle.std.proofs.lemmas.Bool.{cases_lt}
use Rattle.audit_checks.specs.Tasks.{places_of}
use Rattle.audit_checks.specs.Rows.{row}
use Rattle.audit_checks.specs.Links.{Tells, places_in, succs_in}
use Rattle.audit_checks.proofs.LeastTask.{some_task, keys_count}
use Rattle.audit_checks.proofs.EdgeCounts.{edge_count_more}
use Rattle.audit_checks.proofs.KeyLaws.{reverse_by_key}
use Rattle.audit_checks.proofs.PortOrder.{ascending_by_key}
use Rattle.audit_checks.proofs.RowLemmas.{rows_long}
use Rattle.audit_checks.proofs.links.links_of.Goals as goal

pub loop-k-preserved : goal.loop-k-preserved
loop-k-preserved c =
    let here : c.loop-k.k < length c.args.tasks.now = omega arith in
    let t = some_task c.args.tasks.now (omega arith) in (
      c.in_ok-add_task.ensures.reverse,
      c.in_ok-add_task.ensures.few,
      c.in_ok-add_task.ensures.places_len ∙ c.loop-k.invariant.2,
      c.in_ok-add_task.ensures.succs_len ∙ c.loop-k.invariant.3,
      (λ i later. c.in_ok-add_task.ensures.rest i (λ e. omega (arith, e)) ∙ c.loop-k.invariant.4 i (omega arith)),
      (λ r low. omega (arith, c.in_ok-add_task.ensures.counted r t low, c.loop-k.invariant.5 r low, edge_count_more c.args.tasks.now c.loop-k.k (get_or c.args.keys.now r 0) t here)),
      (λ i d early. elim (cases_lt i c.loop-k.k) [
        | inl less ↦ subst (Tells c.args.keys.now (places_of (get_or c.args.tasks.now i d))) (sym (c.in_ok-add_task.ensures.rest i (λ e. omega (arith, e)))) (c.loop-k.invariant.6 i d less)
        | inr late ↦ let e : c.loop-k.k ≡ i = omega arith in
            subst (λ m. Tells c.args.keys.now (places_of (get_or c.args.tasks.now m d)) (row (places_in c.add_task.new.links) m)) e (c.in_ok-add_task.ensures.here d)
      ]),
      c.in_ok-add_task.ensures.stand,
    )

pub returns-clause-reverse : goal.returns-clause-reverse
returns-clause-reverse c =
    let keys_long = keys_count c.args.tasks.now c.args.keys.now c.requires.keys in
    reverse_by_key c.args.keys.now (places_in c.loop-k.links) (succs_in c.loop-k.links) c.requires.ascending
    (omega (arith, rows_long c.loop-k.links.places.items, c.loop-k.invariant.2, keys_long)) (omega (arith, rows_long c.loop-k.links.succs.items, c.loop-k.invariant.3, keys_long)) c.loop-k.invariant.0

pub returns-clause-ascending : goal.returns-clause-ascending
returns-clause-ascending c =
    ascending_by_key c.args.keys.now (places_in c.loop-k.links) (succs_in c.loop-k.links) c.requires.ascending
    (omega (arith, rows_long c.loop-k.links.places.items, c.loop-k.invariant.2, keys_count c.args.tasks.now c.args.keys.now c.requires.keys)) c.loop-k.invariant.0 c.loop-k.invariant.7.ascending
