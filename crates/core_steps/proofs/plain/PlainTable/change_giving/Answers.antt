-- The new fields are the table with the block, and with what is kept of the record.
use Rattle.std.proofs.Common.{◌≡◌, ◌<◌, ◌^◌, ap, sym, subst, ◌∙◌, get_or, length, length-set, Some}
use Rattle.core_state.specs.Words.{place_of, turn}
use Rattle.core_steps.specs.Table.{Plain, IsSound, entered, given_by, no_store}
use Rattle.core_steps.proofs.Changing.{any_store}
use Rattle.core_steps.proofs.Recording.{sound_roomed}
use Rattle.core_steps.proofs.plain.PlainTable.change_giving.Goals as goal

pub invariant_of-self : goal.invariant_of-self
invariant_of-self g c = let e = g.C.Course.setting in let w = c.requires.word in
    let at = w.at_is ∙ ap (λ (p : Plain). place_of p.shape (turn c.args.block)) (sym c.self.view_is) in
    let found = w.found_is ∙ ap (λ (p : Plain). get_or p.words c.args.word.at 0) (sym c.self.view_is) in
    let few : c.args.worker < length c.self.inside.stores.items = subst (λ (p : Plain). c.args.worker < length p.stores) (sym c.self.view_is) c.requires.worker in
    let q : c.index_mut-3.result.now ≡ get_or c.self.inside.stores.items c.args.worker no_store = c.index_mut-3.ensures.value ∙ any_store c.self.inside.stores.items c.args.worker c.index_mut-3.result.now few in
    rw (c.of-views.ensures, found, at, length-set c.self.inside.blocks.items c.args.block (Some c.args.cells), c.keep.ensures.store, q) (sound_roomed e _ c.keep.new.root_replaced.items _ c.keep.ensures.list
    (subst (λ p. IsSound e (entered (2 ^ 63) c.args.worker c.args.entry (given_by e p c.args.worker c.args.kind c.args.block c.args.cells))) (sym c.self.view_is) c.requires.sound))
