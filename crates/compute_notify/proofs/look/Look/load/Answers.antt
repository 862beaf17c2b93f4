use Rattle.std.proofs.Common.{ℕ, ◌/◌, Some, false, ap, refl, ◌∙◌}
use Rattle.core_state.specs.Counts.{known_key}
use Rattle.core_state.specs.Events.Event.{load_notify}
use Rattle.recovery.proofs.Knowing.{remembers_apart}
use Rattle.recovery.proofs.Phases.{credits_kept}
use Rattle.compute_notify.specs.Items.{replaces}
use Rattle.compute_notify.specs.declared.item.Item.TheVariants as item
use Rattle.compute_notify.specs.Rooms.{plain_came}
use Rattle.compute_notify.proofs.Plain.{plain_over}
use Rattle.compute_notify.proofs.Looking.{goes_closed, goes_open, goes_struck, may_load}
use Rattle.compute_notify.proofs.Running.{limit_is}
use Rattle.compute_notify.proofs.look.Look.load.Goals.{then-word, else-word+then-word-2, else-word+else-word-2}
use Rattle.compute_notify.proofs.look.Look.load.Goals as goal

pub load_notify-word-requires-clause-can : goal.load_notify-word-requires-clause-can
load_notify-word-requires-clause-can g c = may_load _ _ (g.T.Steps.view c.args.steps.now) c.args.self c.args.row c.args.edge.key c.args.edge.port c.requires.runs.serves.lawful c.requires.stands.fits c.requires.way c.requires.edge

pub returns-clause-goes : goal.returns-clause-goes
returns-clause-goes g c = let e = g.T.Steps.setting c.args.steps.now in let v = g.T.Steps.view c.args.steps.now in let load = c.load_notify-word in let w = g.T.Steps.view load.new.self in let x = c.args.self in
    let m : ℕ = (g.T.Steps.shown load.new.self).1 in let lives : ℕ = c.args.terms.now.lives in let step = load.ensures.step.view_is in
    let more = remembers_apart e (load_notify c.args.row (known_key c.args.row v) (c.args.edge.port / 40)) m v w refl step in
    let credits = credits_kept e (load_notify c.args.row (known_key c.args.row v) (c.args.edge.port / 40)) m 0 v w step refl c.requires.stands.credits in
    let limit = limit_is _ _ _ e c.requires.runs in
    let left = c.over.ensures ∙ ap (λ r. record { left = Some (item.Recover r); came = c.if-word.came }) c.own.ensures in
    elim c.if-word.branch [
      | then-word b ↦ goes_struck _ e v x c.args.row c.args.edge.key c.args.edge.port c.requires.runs.serves.lawful c.requires.stands.fits c.requires.way c.requires.edge w m _ lives c.requires.runs c.requires.key more credits limit step load.result load.ensures.shows c.over.result
          (left ∙ ap (λ y. record { left = Some (item.Recover (replaces x.duty x.cause false lives)); came = y }) (b.came-is ∙ b.recover-came.ensures)) b.if-word.true
      | else-word+then-word-2 b ↦ goes_closed _ e v x c.args.row c.args.edge.key c.args.edge.port c.requires.runs.serves.lawful c.requires.stands.fits c.requires.way c.requires.edge w m _ lives c.requires.runs c.requires.key more credits limit step load.result load.ensures.shows c.over.result
          (left ∙ ap (λ y. record { left = Some (item.Recover (replaces x.duty x.cause false lives)); came = y }) (b.came-is ∙ b.recover.ensures)) b.if-word.false b.if-word-2.true
      | else-word+else-word-2 b ↦ goes_open _ e v x c.args.row c.args.edge.key c.args.edge.port c.requires.runs.serves.lawful c.requires.stands.fits c.requires.way c.requires.edge w m _ lives c.requires.runs c.requires.key more credits limit step load.result load.ensures.shows c.over.result
          (left ∙ ap (λ y. record { left = Some (item.Recover (replaces x.duty x.cause false lives)); came = y }) b.came-is) b.if-word.false b.if-word-2.false
    ]

pub returns-clause-plain : goal.returns-clause-plain
returns-clause-plain g c = plain_over (item.Recover c.own.result) c.if-word.came c.over.result c.over.ensures refl (elim c.if-word.branch [
  | then-word b ↦ ap plain_came (b.came-is ∙ b.recover-came.ensures)
  | else-word+then-word-2 b ↦ ap plain_came (b.came-is ∙ b.recover.ensures)
  | else-word+else-word-2 b ↦ ap plain_came b.came-is
])
