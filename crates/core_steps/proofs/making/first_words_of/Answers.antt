-- The root's row is one of the table, so its key word is one of its words.
use Rattle.std.proofs.Common.{◌≡◌, arith, refl}
use Rattle.std.proofs.lemmas.Bool.{lt-ltb}
use Rattle.core_state.specs.RowWords.{shape_with}
use Rattle.core_state.specs.Words.{key}
use Rattle.core_steps.specs.Table.{word_count}
use Rattle.core_steps.proofs.Changing.{low_place}
use Rattle.core_steps.proofs.making.first_words_of.Goals as goal

pub index_mut-requires-2 : goal.index_mut-requires-2
index_mut-requires-2 c = let x = low_place (shape_with c.args.places c.args.blocks) (key c.root_row.result) (lt-ltb c.root_row.result c.args.places.rows c.root_row.ensures.within) in let is = c.key.ensures c.args.blocks in let n = c.count.ensures in let l = c.in_ok-words.ensures.len in omega (arith, x, is, n, l)

pub returns : goal.returns
returns c = let n = c.count.ensures in let m : c.count.result ≡ word_count (shape_with c.args.places c.args.blocks) = omega (arith, n) in
    rw (c.key.ensures c.args.blocks, c.root_row.ensures.row, c.in_ok-words.ensures.items_if_clones_equal (λ y z. z), m) refl
