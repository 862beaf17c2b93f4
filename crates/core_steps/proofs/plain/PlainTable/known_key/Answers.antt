use Rattle.std.proofs.Common.{ℕ, arith}
use Rattle.core_state.specs.Counts.{known_key}
use Rattle.core_state.specs.Words.{key}
use Rattle.core_steps.specs.Table.{view_at}
use Rattle.core_steps.proofs.AnyCore.{known_word}
use Rattle.core_steps.proofs.AtPlain.{at_plain, found_here}
use Rattle.core_steps.proofs.Inside.{row_inside}
use Rattle.core_steps.proofs.plain.PlainTable.known_key.Goals as goal

pub overflow_sub-result : goal.overflow_sub-result
overflow_sub-result g c = let p = c.args.self.now in let k : ℕ = known_key c.args.row (view_at p c.args.worker) in let s = c.key_word.ensures.sound in
    let a = found_here p (key c.args.row) c.key_word.result (row_inside g.C.Course.setting p c.args.row s c.requires.can.low) c.key_word.ensures.word in let b = known_word (at_plain g.C.Course.setting p c.args.worker c.requires.worker s) c.args.row k c.requires.can in omega (arith, a, b)

pub returns-clause-key : goal.returns-clause-key
returns-clause-key g c = let p = c.args.self.now in let k : ℕ = known_key c.args.row (view_at p c.args.worker) in let s = c.key_word.ensures.sound in
    let a = found_here p (key c.args.row) c.key_word.result (row_inside g.C.Course.setting p c.args.row s c.requires.can.low) c.key_word.ensures.word in let b = known_word (at_plain g.C.Course.setting p c.args.worker c.requires.worker s) c.args.row k c.requires.can in omega (arith, a, b)
