use Rattle.std.proofs.Common.{refl, set, None}
use Rattle.core_state.specs.Views.{blank}
use Rattle.core_steps.specs.Table.{Sitting, WordsAfter, lender_of, view_at}
use Rattle.core_steps.proofs.AtPlain.{view_after, view_before}
use Rattle.core_steps.proofs.Seats.{found_word, seat_step}
use Rattle.core_steps.proofs.Telling.{stays, standing, may_stays, may_back, stands_stays, stands_back, known_stays, rules_of}
use Rattle.core_steps.proofs.seat.PlainSeatKeyWords.look.Goals as goal

pub returns-then-word-eq0-clause-stays : goal.returns-then-word-eq0-clause-stays
returns-then-word-eq0-clause-stays g c = rw (c.key_stepped.ensures) (stays g.C.Course.setting c.args.row None c.look-word.result.found (view_at c.args.self.now.table.now c.args.self.now.worker) _ c.look-word.ensures.step.view_is (view_before _ _ _ _ _ _ c.look-word.ensures.step) (found_word _ _ _ _ _ _ c.look-word.ensures.step))

pub returns-then-word-eq0-clause-standing : goal.returns-then-word-eq0-clause-standing
returns-then-word-eq0-clause-standing g c = rw (c.key_stepped.ensures) (standing g.C.Course.setting c.args.row None c.look-word.result.found (view_at c.args.self.now.table.now c.args.self.now.worker) _ c.look-word.ensures.step.view_is (view_before _ _ _ _ _ _ c.look-word.ensures.step) (found_word _ _ _ _ _ _ c.look-word.ensures.step))

pub returns-then-word-eq0-clause-did : goal.returns-then-word-eq0-clause-did
returns-then-word-eq0-clause-did g c = let x = c.look-word.ensures.step in (x.can, seat_step {S = Sitting} (λ u. g.C.Course.setting) (λ u. view_at u.table u.worker) (λ u. u.steps.made) (λ u. u.steps.last) (λ u. u.steps.shown) (λ u y n t. WordsAfter g.C.Course.setting y n u.table.words t.table.words) lender_of (λ u. set u.table.views u.worker blank) _ _ _ c.args.self.now.worker c.look-word.result c.args.self.now.table.now _ x refl refl refl refl refl refl (λ j. (c.key_stepped.ensures j).shown) (λ j. (c.key_stepped.ensures j).made) (λ j. (c.key_stepped.ensures j).last) x.words)

pub returns-then-word-eq0-clause-kept : goal.returns-then-word-eq0-clause-kept
returns-then-word-eq0-clause-kept g c = let e = g.C.Course.setting in let x = c.look-word.ensures.step in let n = c.look-word.result.found in let v = view_at c.args.self.now.table.now c.args.self.now.worker in record {
  same_rows = refl;
  same_keys = refl;
  may_stays = may_stays e c.args.row None n v _ x.view_is;
  may_back = may_back e c.args.row None n v _ x.view_is;
  stands_stays = stands_stays e c.args.row None n v _ x.view_is;
  stands_back = stands_back e c.args.row None n v _ x.view_is;
  known_stays = known_stays e c.args.row None n v _ x.view_is (view_before _ _ _ _ _ _ x) (found_word _ _ _ _ _ _ x);
}

pub returns-then-word-eq0-clause-rules : goal.returns-then-word-eq0-clause-rules
returns-then-word-eq0-clause-rules g c = rules_of (view_after _ _ _ _ _ _ c.look-word.ensures.step)

pub returns-else-word-eq0-clause-stays : goal.returns-else-word-eq0-clause-stays
returns-else-word-eq0-clause-stays g c = rw (c.key_stepped.ensures) (stays g.C.Course.setting c.args.row None c.look-word.result.found (view_at c.args.self.now.table.now c.args.self.now.worker) _ c.look-word.ensures.step.view_is (view_before _ _ _ _ _ _ c.look-word.ensures.step) (found_word _ _ _ _ _ _ c.look-word.ensures.step))

pub returns-else-word-eq0-clause-did : goal.returns-else-word-eq0-clause-did
returns-else-word-eq0-clause-did g c = let x = c.look-word.ensures.step in (x.can, seat_step {S = Sitting} (λ u. g.C.Course.setting) (λ u. view_at u.table u.worker) (λ u. u.steps.made) (λ u. u.steps.last) (λ u. u.steps.shown) (λ u y n t. WordsAfter g.C.Course.setting y n u.table.words t.table.words) lender_of (λ u. set u.table.views u.worker blank) _ _ _ c.args.self.now.worker c.look-word.result c.args.self.now.table.now _ x refl refl refl refl refl refl (λ j. (c.key_stepped.ensures j).shown) (λ j. (c.key_stepped.ensures j).made) (λ j. (c.key_stepped.ensures j).last) x.words)

pub returns-else-word-eq0-clause-kept : goal.returns-else-word-eq0-clause-kept
returns-else-word-eq0-clause-kept g c = let e = g.C.Course.setting in let x = c.look-word.ensures.step in let n = c.look-word.result.found in let v = view_at c.args.self.now.table.now c.args.self.now.worker in record {
  same_rows = refl;
  same_keys = refl;
  may_stays = may_stays e c.args.row None n v _ x.view_is;
  may_back = may_back e c.args.row None n v _ x.view_is;
  stands_stays = stands_stays e c.args.row None n v _ x.view_is;
  stands_back = stands_back e c.args.row None n v _ x.view_is;
  known_stays = known_stays e c.args.row None n v _ x.view_is (view_before _ _ _ _ _ _ x) (found_word _ _ _ _ _ _ x);
}

pub returns-else-word-eq0-clause-rules : goal.returns-else-word-eq0-clause-rules
returns-else-word-eq0-clause-rules g c = rules_of (view_after _ _ _ _ _ _ c.look-word.ensures.step)
