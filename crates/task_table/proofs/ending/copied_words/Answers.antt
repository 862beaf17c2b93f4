use Rattle.std.proofs.Common.{◌<◌, arith, length, length-set, ◌∙◌}
use Rattle.std.proofs.lemmas.Grind.{same_number_lists}
use Rattle.std.specs.Mem.Slots.{slots_counts, slots_items}
use Rattle.task_table.proofs.Last.{words_more}
use Rattle.task_table.proofs.ending.copied_words.Goals as goal

pub loop-i-preserved : goal.loop-i-preserved
loop-i-preserved c = let i = c.loop-i.invariant in
    let within : c.loop-i.i < length c.loop-i.words.items = let a = c.loop-i-test.true in let b = c.len-i-end.ensures in let d = i.0 in omega (arith, a, b, d) in
    (length-set c.loop-i.words.items c.loop-i.i c.word.result ∙ i.0, words_more c.loop-i.words.items (slots_items c.args.closed.now.words) c.loop-i.i c.word.result within c.word.ensures i.1)

pub returns : goal.returns
returns c = let i = c.loop-i.invariant in let long = (slots_counts c.args.closed.now.words).0 in
    same_number_lists c.loop-i.words.items (slots_items c.args.closed.now.words) (let a = i.0 in let b = c.requires.room in omega (arith, a, b, long)) (λ k low. i.1 k (let a = c.loop-i-test.false in let b = c.len-i-end.ensures in let d = i.0 in omega (arith, a, b, d, low)))
