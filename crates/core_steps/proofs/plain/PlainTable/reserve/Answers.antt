-- The store has the same records.
use Rattle.std.proofs.Common.{sym, subst, ap, ◌∙◌, ◌<◌, length, arith}
use Rattle.core_steps.specs.Table.{Stored}
use Rattle.core_steps.proofs.Changing.{any_store}
use Rattle.core_steps.proofs.Recording.{sound_reserved, sound_roomed}
use Rattle.core_steps.proofs.plain.PlainTable.reserve.Goals as goal

pub invariant_of-self-2 : goal.invariant_of-self-2
invariant_of-self-2 g c = let low : c.args.worker < length c.self.inside.stores.items = let a = c.self.invariant.workers in let b : c.args.worker < length c.self.inside.views = subst (λ p. c.args.worker < length p.views) (sym c.self.view_is) c.requires.worker in omega (arith, a, b) in
    sound_roomed g.C.Course.setting _ c.reserve.new.self.items _ c.reserve.ensures.items
    (sound_reserved g.C.Course.setting _ c.args.worker c.reserve-2.new.self c.self.invariant
    (c.reserve-2.ensures.records ∙ ap (λ (s : Stored). s.records) (c.index_mut.ensures.value ∙ any_store c.self.inside.stores.items c.args.worker c.index_mut.result.now low)))

pub returns-clause-sound : goal.returns-clause-sound
returns-clause-sound g c = let low : c.args.worker < length c.self.inside.stores.items = let a = c.self.invariant.workers in let b : c.args.worker < length c.self.inside.views = subst (λ p. c.args.worker < length p.views) (sym c.self.view_is) c.requires.worker in omega (arith, a, b) in
    sound_roomed g.C.Course.setting _ c.reserve.new.self.items _ c.reserve.ensures.items
    (sound_reserved g.C.Course.setting _ c.args.worker c.reserve-2.new.self c.self.invariant
    (c.reserve-2.ensures.records ∙ ap (λ (s : Stored). s.records) (c.index_mut.ensures.value ∙ any_store c.self.inside.stores.items c.args.worker c.index_mut.result.now low)))
