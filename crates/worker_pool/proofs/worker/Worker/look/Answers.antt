use Rattle.std.proofs.Common.{◌∙◌, ℕ, Contains, ap, refl, subst, sym}
use Rattle.core_state.specs.Graph.{Setting}
use Rattle.key_table.specs.Rules.{SeenTells}
use Rattle.key_table.specs.declared.words.Seen.TheVariants as seen
use Rattle.run_bounds.specs.Doing.{Doing}
use Rattle.run_bounds.specs.Doing.Doing.{idle}
use Rattle.run_bounds.specs.Shared.{ActorTurn}
use Rattle.worker_pool.specs.Sharing.{doing_of}
use Rattle.worker_pool.proofs.Sharing.Serving.{free_lines, none_seen, row_looked}
use Rattle.worker_pool.proofs.Turns.{idle_is, looked_key}
use Rattle.worker_pool.proofs.worker.Worker.look.Goals as goal

pub returns-in-Holds-clause-holds : goal.returns-in-Holds-clause-holds
returns-in-Holds-clause-holds g c = λ tasks names holds. let t = c.in-Holds.ensures in let key = c.in-Holds.key in
    let e = g.T.Steps.setting c.args.steps.now in let v = g.T.Steps.view c.args.steps.now in let w = g.T.Steps.view c.look.new.self in
    let step = g.met.T.Steps.key_step c.args.steps.now c.look.new.self _ _ t.did in
    looked_key tasks e v w c.args.self.now c.requires.idle holds c.args.row (g.T.Steps.shown c.look.new.self).1 step.1.view_is key c.requires.row (sym (g.met.T.Steps.known_is c.look.new.self c.args.row) ∙ t.known)
    (names key.0 (subst (λ ks. Contains ks key.0) (g.met.T.Steps.keys_are c.look.new.self ∙ ap (λ (x : Setting). x.keys) step.1.table.same_setting) (t.rules.known_listed c.args.row key.0 t.known)))

pub returns-in-Holds-clause-pays : goal.returns-in-Holds-clause-pays
returns-in-Holds-clause-pays g c = λ p most hints rests taken. record {
  on = λ s t steps part later topped. let a = c.args in let e = g.T.Steps.setting a.steps.now in let v = g.T.Steps.view a.steps.now in let now = c.look.new.self in let n = (g.T.Steps.shown now).1 in let did = c.in-Holds.ensures in
      let step = (g.met.T.Steps.key_step a.steps.now now _ _ did.did).1 in
      row_looked e p most s t v (g.T.Steps.view now) part later (free_lines v rests) n a.row hints a.self.now.hints.items taken c.requires.row (steps.steps a.steps.now _ n v refl refl step.stepped step.view_is) (seen.Holds c.in-Holds.key)
      (subst (SeenTells (seen.Holds c.in-Holds.key)) (ap (λ (z : ℕ × ℕ). z.1) step.last_is) did.tells);
}

pub returns-in_default-clause-pays : goal.returns-in_default-clause-pays
returns-in_default-clause-pays g c = λ p most hints rests taken. record {
  on = λ s t steps part later topped. let a = c.args in let e = g.T.Steps.setting a.steps.now in let v = g.T.Steps.view a.steps.now in let now = c.look.new.self in let w = g.T.Steps.view now in let n = (g.T.Steps.shown now).1 in let did = c.look.ensures in let left = a.self.now.hints.items in
      let step = (g.met.T.Steps.key_step a.steps.now now _ _ did.did).1 in
      subst (λ (x : Doing). ActorTurn e p most s t (record { view = v; doing = idle; hints = hints }) (record { view = w; doing = x; hints = left })) (none_seen a.row c.look.result c.in_default.not-Holds ∙ sym (ap doing_of (idle_is a.self.now.work c.requires.idle)))
      (row_looked e p most s t v w part later (free_lines v rests) n a.row hints left taken c.requires.row (steps.steps a.steps.now _ n v refl refl step.stepped step.view_is) c.look.result
      (subst (SeenTells c.look.result) (ap (λ (z : ℕ × ℕ). z.1) step.last_is) did.tells));
}
