use Rattle.std.proofs.Common.{length}
use Rattle.core_state.specs.Words.{descriptor}
use Rattle.core_steps.proofs.Inside.{row_inside}
use Rattle.core_steps.proofs.TableSteps.{place_within, word_at}
use Rattle.core_steps.proofs.plain.PlainTable.descriptor_word.Goals as goal

pub touched-requires : goal.touched-requires
touched-requires g c = let p = c.args.self.now in let s = c.places-places.ensures.sound in
    place_within g.C.Course.setting p (descriptor c.args.row) _ c.descriptor.result s (row_inside g.C.Course.setting p c.args.row s c.requires) c.places-places.ensures.shape (c.descriptor.ensures (length p.blocks))

pub returns-clause-word : goal.returns-clause-word
returns-clause-word g c = let p = c.args.self.now in let s = c.places-places.ensures.sound in
    word_at p (descriptor c.args.row) c.touched.result _ c.descriptor.result (place_within g.C.Course.setting p (descriptor c.args.row) _ c.descriptor.result s (row_inside g.C.Course.setting p c.args.row s c.requires) c.places-places.ensures.shape (c.descriptor.ensures (length p.blocks))) c.places-places.ensures.shape (c.descriptor.ensures (length p.blocks)) c.touched.ensures.place c.touched.ensures.found
