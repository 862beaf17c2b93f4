use Rattle.std.proofs.Common.{arith}
use Rattle.audit_checks.specs.Rows.{rows_of}
use Rattle.audit_checks.proofs.RowLemmas.{rows_long, within_rows}
use Rattle.audit_cycles.proofs.LevelLaws.{ranked, stuck}
use Rattle.audit_cycles.proofs.LevelSteps.{pop_sound, pop_inside, finish}
use Rattle.audit_cycles.proofs.levels.levels_of.Goals as goal

pub tell-requires-clause-task : goal.tell-requires-clause-task
tell-requires-clause-task c = omega (
  arith,
  rows_long c.args.places.now,
  pop_inside (rows_of c.args.places.now) c.loop-p.work.levels.items (rows_of c.loop-p.work.waiting.items) c.loop-p.work.ready.items c.pop.new.self.items c.in-Some.p
      c.in-Some.ensures.items c.loop-p.invariant.0,
)

pub tell-requires-clause-sound : goal.tell-requires-clause-sound
tell-requires-clause-sound c =
    pop_sound (rows_of c.args.places.now) c.loop-p.work.levels.items (rows_of c.loop-p.work.waiting.items) c.loop-p.work.ready.items c.pop.new.self.items c.in-Some.p
    c.in-Some.ensures.items c.loop-p.invariant.0

pub returns-clause-levels : goal.returns-clause-levels
returns-clause-levels c =
    finish (rows_of c.args.places.now) c.loop-p.work.levels.items (rows_of c.loop-p.work.waiting.items) c.loop-p.work.ready.items (omega (arith, c.in_default.ensures.cases.0))
    c.loop-p.invariant.0 (λ k low. c.loop-p.invariant.1 k (omega (arith, rows_long c.args.places.now)))

pub returns-clause-ranks : goal.returns-clause-ranks
returns-clause-ranks c = λ k inside some.
    let levelling = finish (rows_of c.args.places.now) c.loop-p.work.levels.items (rows_of c.loop-p.work.waiting.items) c.loop-p.work.ready.items (omega (arith, c.in_default.ensures.cases.0))
    c.loop-p.invariant.0 (λ k low. c.loop-p.invariant.1 k (omega (arith, rows_long c.args.places.now))) in
    ranked (rows_of c.args.places.now) c.loop-p.work.levels.items levelling (within_rows c.args.places.now c.requires.inside) k (omega (arith, rows_long c.args.places.now, inside)) some

pub returns-clause-cycle : goal.returns-clause-cycle
returns-clause-cycle c = λ k inside z.
    let levelling = finish (rows_of c.args.places.now) c.loop-p.work.levels.items (rows_of c.loop-p.work.waiting.items) c.loop-p.work.ready.items (omega (arith, c.in_default.ensures.cases.0))
    c.loop-p.invariant.0 (λ k low. c.loop-p.invariant.1 k (omega (arith, rows_long c.args.places.now))) in
    stuck (rows_of c.args.places.now) c.loop-p.work.levels.items levelling (within_rows c.args.places.now c.requires.inside) k (omega (arith, rows_long c.args.places.now, inside)) z
