use Rattle.std.proofs.Common.{refl, ap, sym, ◌∙◌}
use Rattle.std.proofs.lemmas.Bool.{eq-eqb, ne_eqb}
use Rattle.core_state.specs.Words.{life_of}
use Rattle.core_state.specs.declared.words.Descriptor.{Descriptor}
use Rattle.recovery.proofs.Knowing.{known_is, row_here}
use Rattle.compute_notify.proofs.Computing.Load.{begins_scratch, load_begins, load_leaves, load_recovers, recovers_rest}
use Rattle.compute_notify.proofs.Running.{limit_is}
use Rattle.compute_notify.proofs.compute.Compute.load.Goals as goal

pub load_descriptor-word-requires-clause-can : goal.load_descriptor-word-requires-clause-can
load_descriptor-word-requires-clause-can g c = row_here _ _ c.args.self.duty.row c.args.self.duty.key.0 c.requires.stands.fits.duty.known

pub returns-then-word-clause-goes : goal.returns-then-word-clause-goes
returns-then-word-clause-goes g c = let e = g.T.Steps.setting c.args.steps.now in let step = c.load_descriptor-word.ensures.step in
    load_recovers _ e _ c.args.self c.requires.phase.0 c.args.terms.now.plan.now c.args.terms.now.lives c.requires.runs c.requires.stands c.requires.phase.1 c.requires.none
    _ (g.T.Steps.shown c.load_descriptor-word.new.self).1 step.view_is c.load_descriptor-word.result.life _
    refl
    (ap (λ (d : Descriptor). d.life) c.load_descriptor-word.ensures.shows) (ap (λ (d : Descriptor). d.struck) (sym c.load_descriptor-word.ensures.shows) ∙ c.if-word.true)
    (limit_is _ _ _ e c.requires.runs c.args.self.duty.key.0)

pub returns-then-word-clause-rest : goal.returns-then-word-clause-rest
returns-then-word-clause-rest g c = let e = g.T.Steps.setting c.args.steps.now in
    recovers_rest e c.args.terms.now.plan.now (g.T.Steps.view c.args.steps.now) c.args.self c.requires.phase.0 (g.T.Steps.shown c.load_descriptor-word.new.self).1 c.requires.phase.1
    c.load_descriptor-word.result.life c.args.terms.now.lives _
    refl
    (ap (λ (d : Descriptor). d.struck) (sym c.load_descriptor-word.ensures.shows) ∙ c.if-word.true)
    (known_is e _ c.args.self.duty.row c.args.self.duty.key.0 c.requires.stands.fits.duty.known)

pub returns-then-word-life-clause-goes : goal.returns-then-word-life-clause-goes
returns-then-word-life-clause-goes g c = let e = g.T.Steps.setting c.args.steps.now in let step = c.load_descriptor-word.ensures.step in
    load_leaves _ e _ c.args.self c.requires.phase.0 c.args.terms.now.plan.now c.args.terms.now.lives c.requires.runs c.requires.stands c.requires.phase.1 c.requires.none
    _ (g.T.Steps.shown c.load_descriptor-word.new.self).1 step.view_is _ refl
    (ap (λ (d : Descriptor). d.struck) (sym c.load_descriptor-word.ensures.shows) ∙ c.if-word.false)
    (ne_eqb (life_of (g.T.Steps.shown c.load_descriptor-word.new.self).1) c.args.self.duty.life (λ same. c.if-word-life.true (ap (λ (d : Descriptor). d.life) c.load_descriptor-word.ensures.shows ∙ same)))

pub returns-else-word-life-clause-goes : goal.returns-else-word-life-clause-goes
returns-else-word-life-clause-goes g c = let e = g.T.Steps.setting c.args.steps.now in let step = c.load_descriptor-word.ensures.step in
    load_begins _ e _ c.args.self c.requires.phase.0 c.args.terms.now.plan.now c.args.terms.now.lives c.requires.runs c.requires.stands c.requires.phase.1 c.requires.none
    _ (g.T.Steps.shown c.load_descriptor-word.new.self).1 step.view_is _ refl
    (ap (λ (d : Descriptor). d.struck) (sym c.load_descriptor-word.ensures.shows) ∙ c.if-word.false)
    (eq-eqb (life_of (g.T.Steps.shown c.load_descriptor-word.new.self).1) c.args.self.duty.life (ap (λ (d : Descriptor). d.life) (sym c.load_descriptor-word.ensures.shows) ∙ c.if-word-life.false))

pub returns-else-word-life-clause-scratch : goal.returns-else-word-life-clause-scratch
returns-else-word-life-clause-scratch g c = let e = g.T.Steps.setting c.args.steps.now in
    begins_scratch _ e c.args.self c.args.scratch.now _ _ refl c.requires.scratch c.clear.ensures

pub returns-then-word-clause-spent : goal.returns-then-word-clause-spent
returns-then-word-clause-spent g c = refl

pub returns-then-word-life-clause-spent : goal.returns-then-word-life-clause-spent
returns-then-word-life-clause-spent g c = refl

pub returns-else-word-life-clause-spent : goal.returns-else-word-life-clause-spent
returns-else-word-life-clause-spent g c = refl
