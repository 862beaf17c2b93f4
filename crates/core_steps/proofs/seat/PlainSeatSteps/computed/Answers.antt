use Rattle.std.proofs.Common.{◌<◌, ap, length, length-set, refl, set, sym, subst, ◌∙◌}
use Rattle.core_state.specs.Views.{blank}
use Rattle.core_state.proofs.Own.Sure.{sure_of}
use Rattle.core_steps.proofs.AtPlain.{at_plain}
use Rattle.core_steps.proofs.Seats.{set_twice}
use Rattle.core_steps.proofs.seat.PlainSeatSteps.computed.Goals as goal

pub returns-clause-table : goal.returns-clause-table
returns-clause-table g c = record {
  same_setting = refl;
  same_lender = refl;
  same_others = ap (λ vs. set vs c.args.self.now.worker blank) c.computed.ensures.views ∙ set_twice c.args.self.now.table.now.views c.args.self.now.worker _ blank;
  sure = let x = at_plain g.C.Course.setting _ c.args.self.now.worker (subst (λ vs. c.args.self.now.worker < length vs) (sym c.computed.ensures.views) (subst (λ n. c.args.self.now.worker < n) (sym (length-set c.args.self.now.table.now.views c.args.self.now.worker _)) c.args.self.now.inside)) c.computed.ensures.sound in sure_of g.C.Course.setting _ x.holds _ x.within;
}
