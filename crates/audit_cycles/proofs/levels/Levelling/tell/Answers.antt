use Rattle.std.proofs.Common.{◌≡◌, ◌<◌, ◌∙◌, length, get_or, set, [], ap, sym, arith}
use Rattle.std.proofs.lemmas.List.Elements.{Contains-get_or}
use Rattle.audit_checks.specs.Rows.{rows_of, row}
use Rattle.audit_checks.proofs.RowLemmas.{row_at, rows_long, clear_row}
use Rattle.audit_cycles.proofs.LevelSteps.{start_telling, told_more}
use Rattle.audit_cycles.proofs.levels.Levelling.tell.Goals as goal

pub loop-k-init : goal.loop-k-init
loop-k-init c =
    let places = rows_of c.args.places.now in
    let levels = c.args.self.now.levels.items in
    let waiting = rows_of c.args.self.now.waiting.items in
    let ready = c.args.self.now.ready.items in
    let inside : c.args.p < length c.args.self.now.waiting.items = omega (arith, rows_long c.args.self.now.waiting.items, rows_long c.args.places.now, c.requires.sound.lists, c.requires.task) in
    let woken : c.deref-k-items.result.now ≡ row waiting c.args.p = c.deref-k-items.ensures.value ∙ (ap (λ v. v.items) c.replace-woken.ensures.value
    ∙ sym (row_at c.args.self.now.waiting.items c.args.p c.index_mut.result.now inside c.index_mut.ensures.value)) in
    let cleared : rows_of (set c.args.self.now.waiting.items c.args.p c.replace-woken.new.dest) ≡ set waiting c.args.p [] =
    clear_row c.args.self.now.waiting.items c.args.p c.replace-woken.new.dest (ap (λ v. v.items) c.replace-woken.ensures.after ∙ c.new.ensures.items) in
    rw (cleared, woken) (start_telling places levels waiting ready c.args.p c.requires.sound (omega (arith, rows_long c.args.places.now, c.requires.task))
    (λ k below. c.requires.settled k (omega (arith, rows_long c.args.places.now))))

pub settle-requires-clause-task : goal.settle-requires-clause-task
settle-requires-clause-task c =
    omega (arith, rows_long c.args.places.now, c.loop-k.invariant.tasks (get_or c.deref-k-items.result.now c.loop-k.k-index 0) (Contains-get_or c.deref-k-items.result.now c.loop-k.k-index 0 (omega arith)))

pub loop-k-preserved : goal.loop-k-preserved
loop-k-preserved c =
    told_more (rows_of c.args.places.now) c.loop-k.self.levels.items (rows_of c.loop-k.self.waiting.items) c.loop-k.self.ready.items
    c.settle.new.self.levels.items (rows_of c.settle.new.self.waiting.items) c.settle.new.self.ready.items c.deref-k-items.result.now c.loop-k.k-index _
    c.loop-k.invariant (omega arith) c.in_ok-settle.ensures.sound c.in_ok-settle.ensures.here c.in_ok-settle.ensures.rest c.in_ok-settle.ensures.falls
