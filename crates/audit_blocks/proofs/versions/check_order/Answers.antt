use Rattle.std.proofs.Common.{◌∙◌, sym, arith}
use Rattle.std.proofs.lemmas.Bool.{both_ways}
use Rattle.audit_checks.specs.Links.{places_in}
use Rattle.audit_blocks.proofs.Orders.{order_fault, turn_more}
use Rattle.audit_blocks.proofs.versions.check_order.Goals.{else-before-here-via-then-before-here+else-not-names_task, else-before-here-via-else-before-here}
use Rattle.audit_blocks.proofs.versions.check_order.Goals as goal

pub loop-i-init : goal.loop-i-init
loop-i-init c = record { names = λ i early same. absurd (omega (arith, same.0)) }

pub returns-then-not-names_task-clause-err : goal.returns-then-not-names_task-clause-err
returns-then-not-names_task-clause-err c = λ ts keys sink are tp versions. (
  versions,
  order_fault ts keys c.args.written.now (places_in c.args.links.now) c.loop-i.i are tp c.requires.rising c.requires.whole c.loop-i.invariant (omega arith)
      (omega arith, c.if-before-here.true) (λ named. both_ways c.names_task.result c.if-not-names_task.true (c.names_task.ensures ∙ named)),
)

pub loop-i-preserved : goal.loop-i-preserved
loop-i-preserved c = turn_more c.args.written.now (places_in c.args.links.now) c.loop-i.i c.loop-i.invariant (λ same. elim c.else-before-here.branch [
  | else-before-here-via-then-before-here+else-not-names_task w ↦ sym w.names_task.ensures ∙ w.if-not-names_task.false
  | else-before-here-via-else-before-here w ↦ absurd (w.if-before-here.false same.1)
])

pub returns-clause-ok : goal.returns-clause-ok
returns-clause-ok c = record { names = λ i inside same. c.loop-i.invariant.names i (omega arith) same }
