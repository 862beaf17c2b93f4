use Rattle.std.proofs.Common.{◌∙◌, ◌∷◌, ap, sym}
use Rattle.std.specs.Vec.Iter.{into_iter_items}
use Rattle.worker_pool.proofs.Threading.Joining.{all_taken, next_free, next_of, none_taken, one_taken}
use Rattle.worker_pool.proofs.joining.join.Goals as goal

pub loop-pass-init : goal.loop-pass-init
loop-pass-init g c = none_taken c.args.table.now c.args.passes.items c.in_ok-all.all (into_iter_items c.into_iter-pass-iterator.result)
    (sym c.into_iter-rest.ensures.rest ∙ c.in_ok-all.ensures.items ∙ sym (ap (λ s. c.in_ok-all.all ∷ into_iter_items s) c.into_iter-pass-iterator.ensures.into_iter_gives))
    c.requires.tables c.requires.hands

pub join_pass-requires-clause-table : goal.join_pass-requires-clause-table
join_pass-requires-clause-table g c = let old = c.loop-pass.invariant in (
  old.of_table,
  next_of c.args.table.now c.args.passes.items c.loop-pass.all c.in-Some.pass (into_iter_items c.loop-pass.pass-iterator) (into_iter_items c.next-in-loop-pass.new.self) c.in-Some.ensures.steps.0 old,
)

pub join_pass-requires-clause-hands : goal.join_pass-requires-clause-hands
join_pass-requires-clause-hands g c = next_free c.args.table.now c.args.passes.items c.loop-pass.all c.in-Some.pass (into_iter_items c.loop-pass.pass-iterator) (into_iter_items c.next-in-loop-pass.new.self) c.in-Some.ensures.steps.0 c.loop-pass.invariant

pub loop-pass-preserved : goal.loop-pass-preserved
loop-pass-preserved g c = let joined = c.in-Ok.ensures.ok in
    one_taken c.args.table.now c.args.passes.items c.loop-pass.all c.in-Some.pass (into_iter_items c.loop-pass.pass-iterator) (into_iter_items c.next-in-loop-pass.new.self) c.in-Some.ensures.steps.0 c.loop-pass.invariant c.in-Ok.joined joined.0 joined.2

pub returns-clause-views : goal.returns-clause-views
returns-clause-views g c = all_taken c.args.table.now c.args.passes.items c.loop-pass.all (into_iter_items c.loop-pass.pass-iterator) (sym c.loop-pass.pass-iterator.rest.ok.0 ∙ c.in-None.ensures.steps.0) c.loop-pass.invariant
