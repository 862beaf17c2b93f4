use Rattle.std.proofs.Common.{sym, subst}
use Rattle.core_state.specs.Packed.{IsLife, notify_word}
use Rattle.core_state.specs.Counts.{known_key}
use Rattle.core_steps.specs.Table.{view_at}
use Rattle.core_steps.proofs.AtPlain.{at_plain}
use Rattle.core_steps.proofs.Numbers.{close_life}
use Rattle.core_steps.proofs.plain.PlainTable.seen_number.Goals as goal

pub word-requires-clause-life : goal.word-requires-clause-life
word-requires-clause-life g c = let p = c.args.self.now in subst IsLife (sym c.requires.life)
    (close_life (at_plain g.C.Course.setting p c.args.worker c.requires.worker c.rows.ensures.sound) c.args.row (known_key c.args.row (view_at p c.args.worker)) c.args.life c.args.word (notify_word c.args.seen) c.requires.can)
