-- The new fields are the table after the step, with what is kept of the record.
use Rattle.std.proofs.Common.{◌≡◌, ◌<◌, ◌^◌, sym, subst, ◌∙◌, get_or, length}
use Rattle.core_steps.specs.Table.{Plain, IsSound, no_store, stepped_by, entered}
use Rattle.core_steps.proofs.Changing.{any_store}
use Rattle.core_steps.proofs.Recording.{sound_roomed}
use Rattle.core_steps.proofs.plain.PlainTable.change_with.Goals as goal

pub invariant_of-self : goal.invariant_of-self
invariant_of-self g c = let e = g.C.Course.setting in
    let few : c.args.worker < length c.self.inside.stores.items = subst (λ (p : Plain). c.args.worker < length p.stores) (sym c.self.view_is) c.requires.worker in
    let q : c.index_mut-2.result.now ≡ get_or c.self.inside.stores.items c.args.worker no_store = c.index_mut-2.ensures.value ∙ any_store c.self.inside.stores.items c.args.worker c.index_mut-2.result.now few in
    rw (c.of-views.ensures, c.keep.ensures.store, q) (sound_roomed e _ c.keep.new.root_replaced.items _ c.keep.ensures.list
    (subst (λ p. IsSound e (entered (2 ^ 63) c.args.worker c.args.entry (stepped_by e p c.args.worker c.args.kind c.args.word.at c.args.word.found c.args.left))) (sym c.self.view_is) c.requires.sound))
