use Rattle.std.proofs.Common.{[], refl, Some}
use Rattle.core_state.specs.Events.Event.{claim}
use Rattle.core_steps.proofs.Telling.{can_of, claimed_now, known_stays, may_back, may_stays, rules_of, stands_back, stands_stays, stays}
use Rattle.task_table.specs.Moments.{Moment}
use Rattle.task_table.specs.Passes.{Sitter, lender_of}
use Rattle.task_table.proofs.Passing.{found_before, view_after, view_before}
use Rattle.task_table.proofs.Sitting.{shared_step}
use Rattle.task_table.proofs.seat.TableSeatKeyWords.claim.Goals as goal

pub claim-claim-requires-clause-can : goal.claim-claim-requires-clause-can
claim-claim-requires-clause-can g c = can_of g.C.Course.setting c.args.self.now.pass.view c.args.row c.args.key.0 c.requires.row c.requires.may c.requires.next

pub returns-clause-known : goal.returns-clause-known
returns-clause-known g c = claimed_now g.C.Course.setting c.args.row (Some c.args.key.0) c.claim-claim.result.1.found c.args.self.now.pass.view _ c.claim-claim.ensures.step.view_is c.args.key.0 c.claim-claim.result.0 refl c.claim-claim.ensures.tells

pub returns-clause-stays : goal.returns-clause-stays
returns-clause-stays g c = let x = c.claim-claim.ensures.step in rw (c.key_stepped.ensures) (stays g.C.Course.setting c.args.row (Some c.args.key.0) c.claim-claim.result.1.found c.args.self.now.pass.view _ x.view_is (view_before g.C.Course.setting (claim c.args.row c.args.key.0) c.claim-claim.result.1.found c.args.self.now.pass.view c.claim-claim.new.self.view x.moment) (found_before g.C.Course.setting (claim c.args.row c.args.key.0) c.claim-claim.result.1.found c.args.self.now.pass.view c.claim-claim.new.self.view x.moment x.can))

pub returns-clause-did : goal.returns-clause-did
returns-clause-did g c = let x = c.claim-claim.ensures.step in let e = g.C.Course.setting in (
  x.can,
  shared_step {S = Sitter} (λ u. e) (λ u. u.pass.view) (λ u. u.steps.made) (λ u. u.steps.last) (λ u. u.steps.shown) (λ u y n w. Moment e y n u.pass.view w.pass.view) (λ u. lender_of u.pass) (λ u. []) _ _ _ c.claim-claim.result.1 c.args.self.now.pass _ x refl refl refl refl refl refl
      (λ j. (c.key_stepped.ensures j).shown) (λ j. (c.key_stepped.ensures j).made) (λ j. (c.key_stepped.ensures j).last) x.moment,
)

pub returns-clause-kept : goal.returns-clause-kept
returns-clause-kept g c = let e = g.C.Course.setting in let x = c.claim-claim.ensures.step in let n = c.claim-claim.result.1.found in let v = c.args.self.now.pass.view in record {
  same_rows = refl;
  same_keys = refl;
  may_stays = may_stays e c.args.row (Some c.args.key.0) n v _ x.view_is;
  may_back = may_back e c.args.row (Some c.args.key.0) n v _ x.view_is;
  stands_stays = stands_stays e c.args.row (Some c.args.key.0) n v _ x.view_is;
  stands_back = stands_back e c.args.row (Some c.args.key.0) n v _ x.view_is;
  known_stays = known_stays e c.args.row (Some c.args.key.0) n v _ x.view_is (view_before g.C.Course.setting (claim c.args.row c.args.key.0) c.claim-claim.result.1.found c.args.self.now.pass.view c.claim-claim.new.self.view x.moment) (found_before g.C.Course.setting (claim c.args.row c.args.key.0) c.claim-claim.result.1.found c.args.self.now.pass.view c.claim-claim.new.self.view x.moment x.can);
}

pub returns-clause-rules : goal.returns-clause-rules
returns-clause-rules g c = let x = c.claim-claim.ensures.step in rules_of (view_after g.C.Course.setting (claim c.args.row c.args.key.0) c.claim-claim.result.1.found c.args.self.now.pass.view c.claim-claim.new.self.view x.moment)
