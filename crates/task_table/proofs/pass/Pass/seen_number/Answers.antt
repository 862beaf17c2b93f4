use Rattle.std.proofs.Common.{sym, subst}
use Rattle.core_state.specs.Counts.{known_key}
use Rattle.core_state.specs.Packed.{IsLife, notify_word}
use Rattle.core_steps.proofs.Numbers.{close_life}
use Rattle.task_table.proofs.Passing.{seat_viewed}
use Rattle.task_table.proofs.pass.Pass.seen_number.Goals as goal

pub word-requires-clause-life : goal.word-requires-clause-life
word-requires-clause-life g c = let v = c.args.self.now.view in subst IsLife (sym c.requires.life)
    (close_life (seat_viewed g.C.Course.setting v c.is_pass.ensures.seated) c.args.row (known_key c.args.row v) c.args.life c.args.word (notify_word c.args.seen) c.requires.can)
