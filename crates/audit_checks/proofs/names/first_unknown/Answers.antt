use Rattle.std.proofs.Common.{Contains, arith, below_more}
use Rattle.std.proofs.lemmas.List.Elements.{All-from_get_or}
use Rattle.audit_checks.specs.Tasks.{places_of}
use Rattle.audit_checks.proofs.LeastTask.{contains_at}
use Rattle.audit_checks.proofs.names.first_unknown.Goals as goal

pub loop-j-preserved : goal.loop-j-preserved
loop-j-preserved c = below_more _ _ c.loop-j.invariant
    (rw (← c.place-name.ensures) (contains_at c.args.keys.now c.in-Some.field-0 c.place-name.result c.in-Some.ensures))

pub returns : goal.returns
returns c = All-from_get_or (Contains c.args.keys.now) (places_of c.args.task.now) 0 (λ i inside. c.loop-j.invariant i (omega arith))
