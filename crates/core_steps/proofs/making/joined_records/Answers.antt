use Rattle.std.proofs.Common.{◌≡◌, ◌<◌, length, get_or, ap, ◌∙◌, arith}
use Rattle.core_steps.specs.Table.{Stored}
use Rattle.core_steps.proofs.Growing.{joined_room, joined_more}
use Rattle.core_steps.proofs.making.joined_records.Goals as goal

pub note_all-requires : goal.note_all-requires
note_all-requires c = let rest = c.remove-all.new.self.items in let less : c.loop-i.i < length rest = let a = c.loop-i-test.true in let b = c.loop-i.auto.i-end in let d = c.len-i-end.ensures in omega (arith, a, b, d) in
    let there : c.as_slice.result.now ≡ (get_or rest c.loop-i.i c.index.result.now).records = c.as_slice.ensures ∙ ap (λ (s : Stored). s.records) c.index.ensures in
    let a = joined_room c.args.stores.items rest c.loop-i.i c.loop-i.all c.index.result.now less c.loop-i.invariant in let b = ap length there in omega (arith, a, b)

pub loop-i-preserved : goal.loop-i-preserved
loop-i-preserved c = let rest = c.remove-all.new.self.items in let less : c.loop-i.i < length rest = let a = c.loop-i-test.true in let b = c.loop-i.auto.i-end in let d = c.len-i-end.ensures in omega (arith, a, b, d) in
    let there : c.as_slice.result.now ≡ (get_or rest c.loop-i.i c.index.result.now).records = c.as_slice.ensures ∙ ap (λ (s : Stored). s.records) c.index.ensures in
    joined_more c.args.stores.items rest c.loop-i.i c.loop-i.all c.note_all.new.self c.index.result.now c.as_slice.result.now less there c.note_all.ensures.records c.note_all.ensures.room c.loop-i.invariant
