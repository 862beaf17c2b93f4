use Rattle.std.proofs.Common.{All, length, sym, subst, arith}
use Rattle.audit_checks.specs.Rows.{rows_of, IsWithin}
use Rattle.audit_checks.specs.Links.{places_in}
use Rattle.audit_cycles.specs.Ancestors.{AreLevels, IsFirstOnCycle}
use Rattle.audit_cycles.proofs.ByKeys.{AreLinked, linked, rows_within, acyclic, least_key}
use Rattle.audit_cycles.proofs.check.check_cycles.Goals as goal

pub levels_or_cycle-requires-clause-inside : goal.levels_or_cycle-requires-clause-inside
levels_or_cycle-requires-clause-inside c =
    let are : AreLinked c.args.tasks.now c.args.keys.now (places_in c.args.links.now) =
    linked c.args.tasks.now c.args.keys.now c.args.links.now c.requires.keys c.requires.ascending (omega (arith, c.requires.places_len)) c.requires.named in
    subst (λ l. All (IsWithin (length l)) (rows_of l)) (sym c.as_slice.ensures.value)
    (rows_within c.args.tasks.now c.args.keys.now (places_in c.args.links.now) are (length c.args.links.now.places.items) (omega (arith, c.requires.places_len)))

pub returns-in-Ok-Levels-clause-acyclic : goal.returns-in-Ok-Levels-clause-acyclic
returns-in-Ok-Levels-clause-acyclic c =
    let are : AreLinked c.args.tasks.now c.args.keys.now (places_in c.args.links.now) =
    linked c.args.tasks.now c.args.keys.now c.args.links.now c.requires.keys c.requires.ascending (omega (arith, c.requires.places_len)) c.requires.named in
    let levels : AreLevels (rows_of c.as_slice.result.now) c.in-Ok-Levels.levels.items = rw c.in-Ok-Levels.field-0-is at c.in-Ok-Levels.ensures in
    acyclic c.args.tasks.now c.args.keys.now (places_in c.args.links.now) c.in-Ok-Levels.levels.items are (subst (λ l. AreLevels (rows_of l) c.in-Ok-Levels.levels.items) c.as_slice.ensures.value levels)

pub returns-in-Ok-Cycle-clause-err : goal.returns-in-Ok-Cycle-clause-err
returns-in-Ok-Cycle-clause-err c = λ sink sizes.
    let are : AreLinked c.args.tasks.now c.args.keys.now (places_in c.args.links.now) =
    linked c.args.tasks.now c.args.keys.now c.args.links.now c.requires.keys c.requires.ascending (omega (arith, c.requires.places_len)) c.requires.named in
    let first : IsFirstOnCycle (rows_of c.as_slice.result.now) c.in-Ok-Cycle.k = rw c.in-Ok-Cycle.field-0-is at c.in-Ok-Cycle.ensures in
    (sizes, least_key c.args.tasks.now c.args.keys.now (places_in c.args.links.now) c.in-Ok-Cycle.k are (subst (λ l. IsFirstOnCycle (rows_of l) c.in-Ok-Cycle.k) c.as_slice.ensures.value first))
