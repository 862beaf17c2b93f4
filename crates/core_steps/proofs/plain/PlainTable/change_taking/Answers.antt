-- The new fields are the table without the block.
use Rattle.std.proofs.Common.{◌≡◌, ◌<◌, ap, sym, subst, ◌∙◌, length, length-set, refl, None}
use Rattle.std.proofs.lemmas.List.{get_or_read_under}
use Rattle.core_state.specs.Words.{place_of, turn}
use Rattle.core_steps.specs.Seat.{cells_in}
use Rattle.core_steps.specs.Table.{Plain, IsSound, home_at, taken_by}
use Rattle.core_steps.proofs.plain.PlainTable.change_taking.Goals as goal

pub invariant_of-self : goal.invariant_of-self
invariant_of-self g c = let e = g.C.Course.setting in let w = c.requires.word in
    let low : c.args.block < length c.self.inside.blocks.items = subst (λ (p : Plain). c.args.block < p.shape.blocks) (sym c.self.view_is) c.requires.block in
    let at = w.at_is ∙ ap (λ (p : Plain). place_of p.shape (turn c.args.block)) (sym c.self.view_is) in
    let found = sym c.in-Some.is ∙ c.take-taken.ensures.value ∙ get_or_read_under c.self.inside.blocks.items c.args.block (length c.self.inside.blocks.items) c.index_mut.result.now None c.index_mut.ensures.value low refl in
    let here : c.in-Some.cells ≡ home_at c.self.inside.blocks.items c.args.block = ap cells_in found in
    rw (c.of-views.ensures, c.take-taken.ensures.after, at, length-set c.self.inside.blocks.items c.args.block None, here)
    (subst (λ p. IsSound e (taken_by e p c.args.worker c.args.block)) (sym c.self.view_is) c.requires.sound)
