use Rattle.std.proofs.Common.{refl, set, Some}
use Rattle.core_state.specs.Views.{blank}
use Rattle.core_steps.specs.Table.{Sitting, WordsAfter, lender_of, view_at}
use Rattle.core_steps.proofs.AtPlain.{view_after, view_before}
use Rattle.core_steps.proofs.Seats.{found_word, seat_step}
use Rattle.core_steps.proofs.Telling.{can_of, stays, claimed_now, may_stays, may_back, stands_stays, stands_back, known_stays, rules_of}
use Rattle.core_steps.proofs.seat.PlainSeatKeyWords.claim.Goals as goal

pub claim-claim-requires-clause-can : goal.claim-claim-requires-clause-can
claim-claim-requires-clause-can g c = can_of g.C.Course.setting (view_at c.args.self.now.table.now c.args.self.now.worker) c.args.row c.args.key.0 c.requires.row c.requires.may c.requires.next

pub returns-clause-known : goal.returns-clause-known
returns-clause-known g c = claimed_now g.C.Course.setting c.args.row (Some c.args.key.0) c.claim-claim.result.1.found (view_at c.args.self.now.table.now c.args.self.now.worker) _ c.claim-claim.ensures.step.view_is c.args.key.0 c.claim-claim.result.0 refl c.claim-claim.ensures.tells

pub returns-clause-stays : goal.returns-clause-stays
returns-clause-stays g c = rw (c.key_stepped.ensures) (stays g.C.Course.setting c.args.row (Some c.args.key.0) c.claim-claim.result.1.found (view_at c.args.self.now.table.now c.args.self.now.worker) _ c.claim-claim.ensures.step.view_is (view_before _ _ _ _ _ _ c.claim-claim.ensures.step) (found_word _ _ _ _ _ _ c.claim-claim.ensures.step))

pub returns-clause-did : goal.returns-clause-did
returns-clause-did g c = let x = c.claim-claim.ensures.step in (x.can, seat_step {S = Sitting} (λ u. g.C.Course.setting) (λ u. view_at u.table u.worker) (λ u. u.steps.made) (λ u. u.steps.last) (λ u. u.steps.shown) (λ u y n t. WordsAfter g.C.Course.setting y n u.table.words t.table.words) lender_of (λ u. set u.table.views u.worker blank) _ _ _ c.args.self.now.worker c.claim-claim.result.1 c.args.self.now.table.now _ x refl refl refl refl refl refl (λ j. (c.key_stepped.ensures j).shown) (λ j. (c.key_stepped.ensures j).made) (λ j. (c.key_stepped.ensures j).last) x.words)

pub returns-clause-kept : goal.returns-clause-kept
returns-clause-kept g c = let e = g.C.Course.setting in let x = c.claim-claim.ensures.step in let n = c.claim-claim.result.1.found in let v = view_at c.args.self.now.table.now c.args.self.now.worker in record {
  same_rows = refl;
  same_keys = refl;
  may_stays = may_stays e c.args.row (Some c.args.key.0) n v _ x.view_is;
  may_back = may_back e c.args.row (Some c.args.key.0) n v _ x.view_is;
  stands_stays = stands_stays e c.args.row (Some c.args.key.0) n v _ x.view_is;
  stands_back = stands_back e c.args.row (Some c.args.key.0) n v _ x.view_is;
  known_stays = known_stays e c.args.row (Some c.args.key.0) n v _ x.view_is (view_before _ _ _ _ _ _ x) (found_word _ _ _ _ _ _ x);
}

pub returns-clause-rules : goal.returns-clause-rules
returns-clause-rules g c = rules_of (view_after _ _ _ _ _ _ c.claim-claim.ensures.step)
