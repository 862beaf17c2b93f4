use Rattle.std.proofs.Common.{arith}
use Rattle.core_state.specs.Counts.{known_key}
use Rattle.core_steps.proofs.AnyCore.{has_word}
use Rattle.task_table.proofs.pass.Pass.port_place.Goals as goal

pub notify_place-requires-clause-word : goal.notify_place-requires-clause-word
notify_place-requires-clause-word g c = let fit = c.is_pass.ensures.seated.kept.sound.setting in let k = known_key c.args.row c.args.self.now.view in
    let a = fit.words_fit k in let b = has_word g.C.Course.setting fit c.args.self.now.view k c.args.port c.requires.can.edge in omega (arith, a, b)
