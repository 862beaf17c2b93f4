use Rattle.std.proofs.Common.{◌<◌, ap, length, refl, set, sym, subst}
use Rattle.core_state.specs.Views.{blank}
use Rattle.core_state.proofs.Own.Sure.{sure_of}
use Rattle.core_steps.proofs.AtPlain.{at_plain}
use Rattle.core_steps.proofs.seat.PlainSeatSteps.reserve.Goals as goal

pub returns-clause-table : goal.returns-clause-table
returns-clause-table g c = record {
  same_setting = refl;
  same_lender = refl;
  same_others = ap (λ vs. set vs c.args.self.now.worker blank) c.reserve.ensures.views;
  sure = let x = at_plain g.C.Course.setting _ c.args.self.now.worker (subst (λ vs. c.args.self.now.worker < length vs) (sym c.reserve.ensures.views) c.args.self.now.inside) c.reserve.ensures.sound in sure_of g.C.Course.setting _ x.holds _ x.within;
}
