use Rattle.std.proofs.Common.{List, ◌∷◌, get_or, ◌≡◌, ◌∙◌, ◌+◌, ℕ, Bool, true, false, MatchBool, set, length, ap, sym, subst, arith, refl, Some, rules}
use Rattle.core_state.specs.Guards.{AtWork}
use Rattle.core_state.specs.Views.{blank, opener}
use Rattle.core_state.specs.declared.job.Job.TheVariants.{Explore}
use Rattle.core_state.specs.declared.views.Item.TheVariants as item
use Rattle.core_state.specs.declared.views.View.{View}
use Rattle.core_steps.specs.Seat.{Explores, known_of}
use Rattle.core_steps.specs.Table.{view_at}
use Rattle.core_steps.proofs.Walking.{IsSettled, seat_key, walk_table, claims_made, claims_found, settled_at, owes, still_at_work, made_row, knowing}
use Rattle.core_steps.proofs.Others.{seated, workers_stay}
use Rattle.core_tests.specs.OneTask.{root, one_task, Owes}
use Rattle.core_tests.proofs.Exploring.{opener_explores, opener_at_work, opener_settled}
use Rattle.core_tests.proofs.one_task.make_row.Goals as goal

pub find_or_make-row-requires-clause-may : goal.find_or_make-row-requires-clause-may
find_or_make-row-requires-clause-may g c =
    let seat = c.seat-seat.ensures in
    let view : view_at c.reserve.new.self.table.now c.reserve.new.self.worker ≡ opener 63 root 0 = c.reserve.ensures.view ∙ seated c.args.table.now _ _ _ seat.table seat.worker ∙ c.requires.first in
    subst (λ v. Explores one_task v 1) (sym view) opener_explores

pub find_or_make-requires-clause-may : goal.find_or_make-requires-clause-may
find_or_make-requires-clause-may g c =
    let seat = c.seat-seat.ensures in
    let view : view_at c.reserve.new.self.table.now c.reserve.new.self.worker ≡ opener 63 root 0 = c.reserve.ensures.view ∙ seated c.args.table.now _ _ _ seat.table seat.worker ∙ c.requires.first in
    c.find_or_make-row.ensures.kept.may_stays 1 (subst (λ v. Explores one_task v 1) (sym view) opener_explores)

made_last : (b : Bool) (n : ℕ) → b ≡ true → MatchBool b (n ≡ 0) (n ≡ 2) → n ≡ 0
made_last true n e m = m
made_last false n e m = absurd cc

found_last : (b : Bool) (n : ℕ) → b ≡ false → MatchBool b (n ≡ 0) (n ≡ 2) → n ≡ 1 + 1
found_last true n e m = absurd cc
found_last false n e m = m

pub returns : goal.returns
returns g c =
    let seat = c.seat-seat.ensures in
    let one : c.find_or_make-row.result.0 ≡ 1 = omega arith in
    let made : c.find_or_make-row.result.1 ≡ true = search in
    let first : View = view_at c.reserve.new.self.table.now c.reserve.new.self.worker in
    let second : View = view_at c.find_or_make-row.new.words.table.now c.find_or_make-row.new.words.worker in
    let third : View = view_at c.find_or_make.new.words.table.now c.find_or_make.new.words.worker in
    let opens : first ≡ opener 63 root 0 = c.reserve.ensures.view ∙ seated c.args.table.now _ _ _ seat.table seat.worker ∙ c.requires.first in
    let x = c.find_or_make-row.ensures in
    let y = c.find_or_make.ensures in
    let again = y.again c.find_or_make-row.result.0 x.known in
    let makes : second ≡ made_row 1 (knowing second.known first) = claims_made _ (λ s. one_task) (λ s. view_at s.table.now s.worker) (λ s. s.steps.last) (λ s. s.table.ghost_name ∷ s.worker ∷ s.lent) (λ s. set s.table.now.views s.worker blank) (λ s t row claimed d. seat_key one_task row claimed _ _ d.1)
    (λ s t row claimed d. record { same_setting = refl; same_lender = d.1.table.same_lender; same_others = d.1.table.same_others }) _ (λ s row. refl) _ 1 2 (omega arith) _ _ _ _ _ (subst (IsSettled one_task) (sym opens) opener_settled) x.rules _ x.known x.last x.walk
    (made_last c.find_or_make-row.result.1 _ made x.made) (λ e. let a = (x.again c.find_or_make-row.result.0 e).1 in cc) in
    let at_work : AtWork second (item.Owe 1 Explore 1) = owes 1 second.known first second (item.Explore root 1 0) makes (subst (λ v. AtWork v (item.Explore root 1 0)) (sym opens) opener_at_work) in
    let finds : third ≡ knowing third.known second = claims_found _ (λ s. one_task) (λ s. view_at s.table.now s.worker) (λ s. s.steps.last) (λ s. s.table.ghost_name ∷ s.worker ∷ s.lent) (λ s. set s.table.now.views s.worker blank) (λ s t row claimed d. seat_key one_task row claimed _ _ d.1)
    (λ s t row claimed d. record { same_setting = refl; same_lender = d.1.table.same_lender; same_others = d.1.table.same_others }) _ (λ s row. refl) _ 1 2 (omega arith) _ _ _ _ _ (settled_at one_task second (item.Owe 1 Explore 1) refl at_work) y.rules _ y.known y.last y.walk
    (found_last c.find_or_make.result.1 _ again.1 y.made) in
    let table = c.reserve.ensures.table in
    let made_table = walk_table _ (λ s. one_task) (λ s. s.table.ghost_name ∷ s.worker ∷ s.lent) (λ s. set s.table.now.views s.worker blank) (λ s t row claimed d. record { same_setting = refl; same_lender = d.1.table.same_lender; same_others = d.1.table.same_others }) 1 2 (Some 1) _ _ _ x.walk in
    let found_table = walk_table _ (λ s. one_task) (λ s. s.table.ghost_name ∷ s.worker ∷ s.lent) (λ s. set s.table.now.views s.worker blank) (λ s t row claimed d. record { same_setting = refl; same_lender = d.1.table.same_lender; same_others = d.1.table.same_others }) 1 2 (Some 1) _ _ _ y.walk in
    let lender = found_table.same_lender ∙ made_table.same_lender ∙ table.same_lender in
    let others = found_table.same_others ∙ made_table.same_others ∙ table.same_others in
    let at : c.find_or_make.new.words.worker ≡ 0 = ap (λ (x : List ℕ). get_or x 1 0) lender ∙ seat.worker in
    let row : known_of third 1 ≡ Some 1 = subst (λ r. known_of third r ≡ Some 1) (again.0 ∙ one) y.known in
    let here : third ≡ view_at c.find_or_make.new.words.table.now 0 = ap (view_at c.find_or_make.new.words.table.now) at in
    let done : Owes c.find_or_make.new.words.table.now = record {
      workers = workers_stay _ _ _ _ others ∙ ap (λ p. length p.views) seat.table ∙ c.requires.workers;
      at_work = subst (λ v. AtWork v (item.Owe 1 Explore 1)) here (still_at_work third.known second third (item.Owe 1 Explore 1) finds at_work);
      no_credit = ap (λ (v : View). v.spare) (sym here ∙ finds) ∙ ap (λ (v : View). v.spare) makes ∙ ap (λ (v : View). v.spare) opens;
      row = subst (λ v. known_of v 1 ≡ Some 1) here row;
    } in
    search rules
