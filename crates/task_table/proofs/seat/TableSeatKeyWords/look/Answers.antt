use Rattle.std.proofs.Common.{[], refl, None}
use Rattle.core_state.specs.Events.Event.{look}
use Rattle.core_steps.proofs.Telling.{standing, known_stays, may_back, may_stays, rules_of, stands_back, stands_stays, stays}
use Rattle.task_table.specs.Moments.{Moment}
use Rattle.task_table.specs.Passes.{Sitter, lender_of}
use Rattle.task_table.proofs.Passing.{found_before, view_after, view_before}
use Rattle.task_table.proofs.Sitting.{shared_step}
use Rattle.task_table.proofs.seat.TableSeatKeyWords.look.Goals as goal

pub returns-then-word-eq0-clause-stays : goal.returns-then-word-eq0-clause-stays
returns-then-word-eq0-clause-stays g c = let x = c.load-word.ensures.step in rw (c.key_stepped.ensures) (stays g.C.Course.setting c.args.row None c.load-word.result.found c.args.self.now.pass.view _ x.view_is (view_before g.C.Course.setting (look c.args.row) c.load-word.result.found c.args.self.now.pass.view c.load-word.new.self.view x.moment) (found_before g.C.Course.setting (look c.args.row) c.load-word.result.found c.args.self.now.pass.view c.load-word.new.self.view x.moment x.can))

pub returns-then-word-eq0-clause-standing : goal.returns-then-word-eq0-clause-standing
returns-then-word-eq0-clause-standing g c = let x = c.load-word.ensures.step in rw (c.key_stepped.ensures) (standing g.C.Course.setting c.args.row None c.load-word.result.found c.args.self.now.pass.view _ x.view_is (view_before g.C.Course.setting (look c.args.row) c.load-word.result.found c.args.self.now.pass.view c.load-word.new.self.view x.moment) (found_before g.C.Course.setting (look c.args.row) c.load-word.result.found c.args.self.now.pass.view c.load-word.new.self.view x.moment x.can))

pub returns-then-word-eq0-clause-did : goal.returns-then-word-eq0-clause-did
returns-then-word-eq0-clause-did g c = let x = c.load-word.ensures.step in let e = g.C.Course.setting in (
  x.can,
  shared_step {S = Sitter} (λ u. e) (λ u. u.pass.view) (λ u. u.steps.made) (λ u. u.steps.last) (λ u. u.steps.shown) (λ u y n w. Moment e y n u.pass.view w.pass.view) (λ u. lender_of u.pass) (λ u. []) _ _ _ c.load-word.result c.args.self.now.pass _ x refl refl refl refl refl refl
      (λ j. (c.key_stepped.ensures j).shown) (λ j. (c.key_stepped.ensures j).made) (λ j. (c.key_stepped.ensures j).last) x.moment,
)

pub returns-then-word-eq0-clause-kept : goal.returns-then-word-eq0-clause-kept
returns-then-word-eq0-clause-kept g c = let e = g.C.Course.setting in let x = c.load-word.ensures.step in let n = c.load-word.result.found in let v = c.args.self.now.pass.view in record {
  same_rows = refl;
  same_keys = refl;
  may_stays = may_stays e c.args.row None n v _ x.view_is;
  may_back = may_back e c.args.row None n v _ x.view_is;
  stands_stays = stands_stays e c.args.row None n v _ x.view_is;
  stands_back = stands_back e c.args.row None n v _ x.view_is;
  known_stays = known_stays e c.args.row None n v _ x.view_is (view_before g.C.Course.setting (look c.args.row) c.load-word.result.found c.args.self.now.pass.view c.load-word.new.self.view x.moment) (found_before g.C.Course.setting (look c.args.row) c.load-word.result.found c.args.self.now.pass.view c.load-word.new.self.view x.moment x.can);
}

pub returns-then-word-eq0-clause-rules : goal.returns-then-word-eq0-clause-rules
returns-then-word-eq0-clause-rules g c = let x = c.load-word.ensures.step in rules_of (view_after g.C.Course.setting (look c.args.row) c.load-word.result.found c.args.self.now.pass.view c.load-word.new.self.view x.moment)

pub returns-else-word-eq0-clause-stays : goal.returns-else-word-eq0-clause-stays
returns-else-word-eq0-clause-stays g c = let x = c.load-word.ensures.step in rw (c.key_stepped.ensures) (stays g.C.Course.setting c.args.row None c.load-word.result.found c.args.self.now.pass.view _ x.view_is (view_before g.C.Course.setting (look c.args.row) c.load-word.result.found c.args.self.now.pass.view c.load-word.new.self.view x.moment) (found_before g.C.Course.setting (look c.args.row) c.load-word.result.found c.args.self.now.pass.view c.load-word.new.self.view x.moment x.can))

pub returns-else-word-eq0-clause-did : goal.returns-else-word-eq0-clause-did
returns-else-word-eq0-clause-did g c = let x = c.load-word.ensures.step in let e = g.C.Course.setting in (
  x.can,
  shared_step {S = Sitter} (λ u. e) (λ u. u.pass.view) (λ u. u.steps.made) (λ u. u.steps.last) (λ u. u.steps.shown) (λ u y n w. Moment e y n u.pass.view w.pass.view) (λ u. lender_of u.pass) (λ u. []) _ _ _ c.load-word.result c.args.self.now.pass _ x refl refl refl refl refl refl
      (λ j. (c.key_stepped.ensures j).shown) (λ j. (c.key_stepped.ensures j).made) (λ j. (c.key_stepped.ensures j).last) x.moment,
)

pub returns-else-word-eq0-clause-kept : goal.returns-else-word-eq0-clause-kept
returns-else-word-eq0-clause-kept g c = let e = g.C.Course.setting in let x = c.load-word.ensures.step in let n = c.load-word.result.found in let v = c.args.self.now.pass.view in record {
  same_rows = refl;
  same_keys = refl;
  may_stays = may_stays e c.args.row None n v _ x.view_is;
  may_back = may_back e c.args.row None n v _ x.view_is;
  stands_stays = stands_stays e c.args.row None n v _ x.view_is;
  stands_back = stands_back e c.args.row None n v _ x.view_is;
  known_stays = known_stays e c.args.row None n v _ x.view_is (view_before g.C.Course.setting (look c.args.row) c.load-word.result.found c.args.self.now.pass.view c.load-word.new.self.view x.moment) (found_before g.C.Course.setting (look c.args.row) c.load-word.result.found c.args.self.now.pass.view c.load-word.new.self.view x.moment x.can);
}

pub returns-else-word-eq0-clause-rules : goal.returns-else-word-eq0-clause-rules
returns-else-word-eq0-clause-rules g c = let x = c.load-word.ensures.step in rules_of (view_after g.C.Course.setting (look c.args.row) c.load-word.result.found c.args.self.now.pass.view c.load-word.new.self.view x.moment)
