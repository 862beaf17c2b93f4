use Rattle.std.proofs.Common.{◌≡◌, [], length, refl, subst, arith, inl, inr}
use Rattle.std.proofs.lemmas.Option.{slice_get_read}
use Rattle.audit_blocks.specs.Names.{ArePlacedTo}
use Rattle.audit_blocks.specs.Numbering.{HasPlace}
use Rattle.audit_blocks.proofs.NameLemmas.{placed_none, placed_more, known_name, numbered, more_is}
use Rattle.audit_blocks.proofs.numbering.numbered_blocks.Goals.{then-is_none, else-is_none}
use Rattle.audit_blocks.proofs.numbering.numbered_blocks.Goals as goal

pub loop-i-init : goal.loop-i-init
loop-i-init c =
    let e : length c.in_ok-names.names.items ≡ c.len-count.result = omega (arith, c.len-count.ensures) in
    rw c.new-places.ensures.items (subst (ArePlacedTo c.in_ok-names.names.items c.args.tasks.now 0 []) e (placed_none c.in_ok-names.names.items c.args.tasks.now))

pub place_of-place-requires-clause-known : goal.place_of-place-requires-clause-known
place_of-place-requires-clause-known c = rw c.as_slice.ensures.value
    (known_name c.args.tasks.now c.args.written.now c.in_ok-names.names.items c.loop-i.i c.index-tasks-i.result c.index-tasks-i.result.block c.requires.written c.in_ok-names.ensures
    (slice_get_read c.args.tasks.now (length c.args.tasks.now) c.loop-i.i c.index-tasks-i.result refl (omega arith) c.index-tasks-i.is) refl)

pub loop-i-preserved : goal.loop-i-preserved
loop-i-preserved c = rw c.in_ok-push.ensures.items
    (placed_more c.in_ok-names.names.items c.args.tasks.now c.loop-i.i c.loop-i.places.items c.loop-i.count c.if-is_none.count c.index-tasks-i.result c.place_of-place.result c.loop-i.invariant
    (slice_get_read c.args.tasks.now (length c.args.tasks.now) c.loop-i.i c.index-tasks-i.result refl (omega arith) c.index-tasks-i.is)
    (subst (λ l. HasPlace l c.loop-i.count c.index-tasks-i.result.block c.place_of-place.result) c.as_slice.ensures.value c.place_of-place.ensures)
    (more_is c.index-tasks-i.result c.loop-i.count c.if-is_none.count c.is_none.result c.is_none.ensures (elim c.if-is_none.branch [
      | then-is_none w ↦ inl (w.if-is_none.true, w.count-is)
      | else-is_none w ↦ inr (w.if-is_none.false, w.count-is)
    ])))

pub returns : goal.returns
returns c = numbered c.args.tasks.now c.args.written.now c.in_ok-names.names.items c.loop-i.i c.loop-i.places.items c.loop-i.count c.requires.written c.in_ok-names.ensures c.loop-i.invariant (omega arith)
