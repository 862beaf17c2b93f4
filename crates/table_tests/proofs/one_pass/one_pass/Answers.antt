-- What the two seats know and hold as they go.
use Rattle.std.proofs.Common.{[], ◌≡◌, ◌∙◌, true, ap, sym, subst, arith, refl, Some, None}
use Rattle.core_state.specs.Guards.{AtWork, CanBuy}
use Rattle.core_state.specs.Events.Event.{look}
use Rattle.core_state.specs.Views.{less_one, opener}
use Rattle.core_state.specs.declared.job.Job.TheVariants.{Explore}
use Rattle.core_state.specs.declared.views.Item.TheVariants as item
use Rattle.core_state.specs.declared.views.View.{View}
use Rattle.core_state.proofs.Seats.Shares.{parts_kept}
use Rattle.core_steps.specs.Seat.{Explores}
use Rattle.core_steps.proofs.Walking.{IsSettled, walk_table, claims_made, claims_found, settled_at, owes, made_row, knowing}
use Rattle.task_table.specs.Passes.{Passing, lender_of}
use Rattle.task_table.proofs.Lent.{same_table}
use Rattle.task_table.proofs.Sitting.{shared_key}
use Rattle.core_tests.specs.OneTask.{root, one_task}
use Rattle.core_tests.proofs.Exploring.{opener_explores, opener_at_work, opener_settled}
use Rattle.table_tests.proofs.Walks.{found_last, made_last, parts_walk}
use Rattle.table_tests.proofs.one_pass.one_pass.Goals as goal

pub find_or_make-row-requires-clause-may : goal.find_or_make-row-requires-clause-may
find_or_make-row-requires-clause-may g c = let opens : c.reserve.new.self.pass.view ≡ opener 63 root 0 = c.reserve.ensures.view ∙ ap (λ (p : Passing). p.view) c.seat-a.ensures ∙ c.split_pass-first.ensures.views.0 ∙ ap less_one c.in_ok-table.ensures.view in
    subst (λ v. Explores one_task v 1) (sym opens) opener_explores

pub find_or_make-requires-clause-may : goal.find_or_make-requires-clause-may
find_or_make-requires-clause-may g c = let opens : c.reserve.new.self.pass.view ≡ opener 63 root 0 = c.reserve.ensures.view ∙ ap (λ (p : Passing). p.view) c.seat-a.ensures ∙ c.split_pass-first.ensures.views.0 ∙ ap less_one c.in_ok-table.ensures.view in
    c.find_or_make-row.ensures.kept.may_stays 1 (subst (λ v. Explores one_task v 1) (sym opens) opener_explores)

pub buy-requires-clause-can : goal.buy-requires-clause-can
buy-requires-clause-can g c = let opens : c.reserve.new.self.pass.view ≡ opener 63 root 0 = c.reserve.ensures.view ∙ ap (λ (p : Passing). p.view) c.seat-a.ensures ∙ c.split_pass-first.ensures.views.0 ∙ ap less_one c.in_ok-table.ensures.view in
    let one : c.find_or_make-row.result.0 ≡ 1 = omega arith in
    let made : c.find_or_make-row.result.1 ≡ true = search in
    let first : View = c.reserve.new.self.pass.view in
    let second : View = c.find_or_make-row.new.words.pass.view in
    let third : View = c.find_or_make.new.words.pass.view in
    let x = c.find_or_make-row.ensures in
    let y = c.find_or_make.ensures in
    let again = y.again c.find_or_make-row.result.0 x.known in
    let makes : second ≡ made_row 1 (knowing second.known first) = claims_made _ (λ s. one_task) (λ s. s.pass.view) (λ s. s.steps.last) (λ s. lender_of s.pass) (λ s. []) (λ s t row claimed d. shared_key one_task row claimed _ _ d.1)
    (λ s t row claimed d. record { same_setting = refl; same_lender = d.1.table.same_lender; same_others = refl }) _ (λ s row. refl) _ 1 2 (omega arith) _ _ _ _ _ (subst (IsSettled one_task) (sym opens) opener_settled) x.rules _ x.known x.last x.walk
    (made_last c.find_or_make-row.result.1 _ made x.made) (λ e. let a = (x.again c.find_or_make-row.result.0 e).1 in cc) in
    let at_work : AtWork second (item.Owe 1 Explore 1) = owes 1 second.known first second (item.Explore root 1 0) makes (subst (λ v. AtWork v (item.Explore root 1 0)) (sym opens) opener_at_work) in
    let finds : third ≡ knowing third.known second = claims_found _ (λ s. one_task) (λ s. s.pass.view) (λ s. s.steps.last) (λ s. lender_of s.pass) (λ s. []) (λ s t row claimed d. shared_key one_task row claimed _ _ d.1)
    (λ s t row claimed d. record { same_setting = refl; same_lender = d.1.table.same_lender; same_others = refl }) _ (λ s row. refl) _ 1 2 (omega arith) _ _ _ _ _ (settled_at one_task second (item.Owe 1 Explore 1) refl at_work) y.rules _ y.known y.last y.walk
    (found_last c.find_or_make.result.1 _ again.1 y.made) in
    let whole : third ≡ knowing third.known (made_row 1 (knowing second.known (opener 63 root 0))) = finds ∙ (λ j. knowing third.known (makes j)) ∙ (λ j. knowing third.known (made_row 1 (knowing second.known (opens j)))) in
    subst (CanBuy one_task) (sym whole) (record { needed = omega arith })

pub join_pass-requires-clause-table : goal.join_pass-requires-clause-table
join_pass-requires-clause-table g c =
    let a = walk_table _ (λ s. one_task) (λ s. lender_of s.pass) (λ s. []) (λ s t row claimed d. record { same_setting = refl; same_lender = d.1.table.same_lender; same_others = refl }) 1 2 (Some 1) _ _ _ c.find_or_make-row.ensures.walk in
    let b = walk_table _ (λ s. one_task) (λ s. lender_of s.pass) (λ s. []) (λ s t row claimed d. record { same_setting = refl; same_lender = d.1.table.same_lender; same_others = refl }) 1 2 (Some 1) _ _ _ c.find_or_make.ensures.walk in
    let d = walk_table _ (λ s. one_task) (λ s. lender_of s.pass) (λ s. []) (λ s t row claimed d. record { same_setting = refl; same_lender = d.1.table.same_lender; same_others = refl }) 1 2 None _ _ _ c.find.ensures.walk in
    let f = walk_table _ (λ s. one_task) (λ s. lender_of s.pass) (λ s. []) (λ s t row claimed d. record { same_setting = refl; same_lender = d.1.table.same_lender; same_others = refl }) 1 2 None _ _ _ c.find-2.ensures.walk in (
      ap (λ (p : Passing). p.table) c.leave-second.ensures ∙ same_table c.seat-b.result.pass c.find-2.new.words.pass (f.same_lender ∙ d.same_lender ∙ c.reserve-2.ensures.table.same_lender) ∙ ap (λ (p : Passing). p.table) c.seat-b.ensures ∙ c.split_pass-first.ensures.table.2,
      ap (λ (p : Passing). p.table) c.leave-first.ensures ∙ same_table c.seat-a.result.pass c.load_pending.new.self.pass (c.load_pending.ensures.step.table.same_lender ∙ c.buy.ensures.step.table.same_lender ∙ b.same_lender ∙ a.same_lender ∙ c.reserve.ensures.table.same_lender) ∙ ap (λ (p : Passing). p.table) c.seat-a.ensures ∙ c.split_pass-first.ensures.table.0,
    )

pub join_pass-requires-clause-hands : goal.join_pass-requires-clause-hands
join_pass-requires-clause-hands g c = let opens : c.reserve.new.self.pass.view ≡ opener 63 root 0 = c.reserve.ensures.view ∙ ap (λ (p : Passing). p.view) c.seat-a.ensures ∙ c.split_pass-first.ensures.views.0 ∙ ap less_one c.in_ok-table.ensures.view in
    let one : c.find_or_make-row.result.0 ≡ 1 = omega arith in
    let made : c.find_or_make-row.result.1 ≡ true = search in
    let first : View = c.reserve.new.self.pass.view in
    let second : View = c.find_or_make-row.new.words.pass.view in
    let third : View = c.find_or_make.new.words.pass.view in
    let x = c.find_or_make-row.ensures in
    let y = c.find_or_make.ensures in
    let again = y.again c.find_or_make-row.result.0 x.known in
    let makes : second ≡ made_row 1 (knowing second.known first) = claims_made _ (λ s. one_task) (λ s. s.pass.view) (λ s. s.steps.last) (λ s. lender_of s.pass) (λ s. []) (λ s t row claimed d. shared_key one_task row claimed _ _ d.1)
    (λ s t row claimed d. record { same_setting = refl; same_lender = d.1.table.same_lender; same_others = refl }) _ (λ s row. refl) _ 1 2 (omega arith) _ _ _ _ _ (subst (IsSettled one_task) (sym opens) opener_settled) x.rules _ x.known x.last x.walk
    (made_last c.find_or_make-row.result.1 _ made x.made) (λ e. let a = (x.again c.find_or_make-row.result.0 e).1 in cc) in
    let at_work : AtWork second (item.Owe 1 Explore 1) = owes 1 second.known first second (item.Explore root 1 0) makes (subst (λ v. AtWork v (item.Explore root 1 0)) (sym opens) opener_at_work) in
    let finds : third ≡ knowing third.known second = claims_found _ (λ s. one_task) (λ s. s.pass.view) (λ s. s.steps.last) (λ s. lender_of s.pass) (λ s. []) (λ s t row claimed d. shared_key one_task row claimed _ _ d.1)
    (λ s t row claimed d. record { same_setting = refl; same_lender = d.1.table.same_lender; same_others = refl }) _ (λ s row. refl) _ 1 2 (omega arith) _ _ _ _ _ (settled_at one_task second (item.Owe 1 Explore 1) refl at_work) y.rules _ y.known y.last y.walk
    (found_last c.find_or_make.result.1 _ again.1 y.made) in
    let whole : third ≡ knowing third.known (made_row 1 (knowing second.known (opener 63 root 0))) = finds ∙ (λ j. knowing third.known (makes j)) ∙ (λ j. knowing third.known (made_row 1 (knowing second.known (opens j)))) in
    ap (λ (p : Passing). p.view.hands) c.leave-first.ensures ∙ ap (λ (v : View). v.hands) c.load_pending.ensures.step.view_is ∙ ap (λ (v : View). v.hands) c.buy.ensures.step.view_is ∙ ap (λ (v : View). v.hands) whole

pub close_with-closed-requires-clause-only : goal.close_with-closed-requires-clause-only
close_with-closed-requires-clause-only g c = let opens : c.reserve.new.self.pass.view ≡ opener 63 root 0 = c.reserve.ensures.view ∙ ap (λ (p : Passing). p.view) c.seat-a.ensures ∙ c.split_pass-first.ensures.views.0 ∙ ap less_one c.in_ok-table.ensures.view in
    let one : c.find_or_make-row.result.0 ≡ 1 = omega arith in
    let made : c.find_or_make-row.result.1 ≡ true = search in
    let first : View = c.reserve.new.self.pass.view in
    let second : View = c.find_or_make-row.new.words.pass.view in
    let third : View = c.find_or_make.new.words.pass.view in
    let x = c.find_or_make-row.ensures in
    let y = c.find_or_make.ensures in
    let again = y.again c.find_or_make-row.result.0 x.known in
    let makes : second ≡ made_row 1 (knowing second.known first) = claims_made _ (λ s. one_task) (λ s. s.pass.view) (λ s. s.steps.last) (λ s. lender_of s.pass) (λ s. []) (λ s t row claimed d. shared_key one_task row claimed _ _ d.1)
    (λ s t row claimed d. record { same_setting = refl; same_lender = d.1.table.same_lender; same_others = refl }) _ (λ s row. refl) _ 1 2 (omega arith) _ _ _ _ _ (subst (IsSettled one_task) (sym opens) opener_settled) x.rules _ x.known x.last x.walk
    (made_last c.find_or_make-row.result.1 _ made x.made) (λ e. let a = (x.again c.find_or_make-row.result.0 e).1 in cc) in
    let at_work : AtWork second (item.Owe 1 Explore 1) = owes 1 second.known first second (item.Explore root 1 0) makes (subst (λ v. AtWork v (item.Explore root 1 0)) (sym opens) opener_at_work) in
    let finds : third ≡ knowing third.known second = claims_found _ (λ s. one_task) (λ s. s.pass.view) (λ s. s.steps.last) (λ s. lender_of s.pass) (λ s. []) (λ s t row claimed d. shared_key one_task row claimed _ _ d.1)
    (λ s t row claimed d. record { same_setting = refl; same_lender = d.1.table.same_lender; same_others = refl }) _ (λ s row. refl) _ 1 2 (omega arith) _ _ _ _ _ (settled_at one_task second (item.Owe 1 Explore 1) refl at_work) y.rules _ y.known y.last y.walk
    (found_last c.find_or_make.result.1 _ again.1 y.made) in
    let whole : third ≡ knowing third.known (made_row 1 (knowing second.known (opener 63 root 0))) = finds ∙ (λ j. knowing third.known (makes j)) ∙ (λ j. knowing third.known (made_row 1 (knowing second.known (opens j)))) in
    let a : c.leave-first.result.view.parts ≡ 63 = ap (λ (p : Passing). p.view.parts) c.leave-first.ensures ∙ ap (λ (v : View). v.parts) c.load_pending.ensures.step.view_is ∙ ap (λ (v : View). v.parts) c.buy.ensures.step.view_is ∙ ap (λ (v : View). v.parts) whole in
    let b : c.leave-second.result.view.parts ≡ 1 = ap (λ (p : Passing). p.view.parts) c.leave-second.ensures ∙ parts_walk _ (λ s. s.pass.view) 1 2 None _ _ _ c.find-2.ensures.walk (λ s t row d. ap (λ (v : View). v.parts) d.1.view_is ∙ parts_kept one_task (look row) _ s.pass.view) ∙ parts_walk _ (λ s. s.pass.view) 1 2 None _ _ _ c.find.ensures.walk (λ s t row d. ap (λ (v : View). v.parts) d.1.view_is ∙ parts_kept one_task (look row) _ s.pass.view) ∙ ap (λ (v : View). v.parts) c.reserve-2.ensures.view ∙ ap (λ (p : Passing). p.view.parts) c.seat-b.ensures ∙ ap (λ (v : View). v.parts) c.split_pass-first.ensures.views.1 in
    let d = ap (λ (v : View). v.parts) c.in-Ok.ensures.ok.2 in omega (arith, a, b, d)
