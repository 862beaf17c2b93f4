-- The new fields are the table with the result noted, and with what is kept of the record.
use Rattle.std.proofs.Common.{◌≡◌, ◌<◌, ◌^◌, sym, subst, ◌∙◌, get_or, length}
use Rattle.core_steps.specs.Table.{Plain, IsSound, no_store, computed_by, entered}
use Rattle.core_steps.proofs.Changing.{any_store}
use Rattle.core_steps.proofs.Recording.{sound_roomed}
use Rattle.core_steps.proofs.plain.PlainTable.note_computed.Goals as goal

pub invariant_of-self : goal.invariant_of-self
invariant_of-self g c = let e = g.C.Course.setting in
    let few : c.args.worker < length c.self.inside.stores.items = subst (λ (p : Plain). c.args.worker < length p.stores) (sym c.self.view_is) c.requires.worker in
    let q : c.index_mut.result.now ≡ get_or c.self.inside.stores.items c.args.worker no_store = c.index_mut.ensures.value ∙ any_store c.self.inside.stores.items c.args.worker c.index_mut.result.now few in
    rw (c.of.ensures, c.keep.ensures.store, q) (sound_roomed e _ c.keep.new.root_replaced.items _ c.keep.ensures.list
    (subst (λ p. IsSound e (entered (2 ^ 63) c.args.worker c.args.entry (computed_by p c.args.worker c.args.key.0 c.args.life))) (sym c.self.view_is) c.requires.sound))
