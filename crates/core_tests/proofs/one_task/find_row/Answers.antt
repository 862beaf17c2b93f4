use Rattle.std.proofs.Common.{ℕ, List, ◌∷◌, get_or, ◌≡◌, ◌∙◌, set, length, ap, sym, subst, arith, refl, IfSome, None, Some, rules}
use Rattle.core_state.specs.Guards.{AtWork}
use Rattle.core_state.specs.Views.{blank}
use Rattle.core_state.specs.declared.job.Job.TheVariants.{Explore}
use Rattle.core_state.specs.declared.views.Item.TheVariants as item
use Rattle.core_state.specs.declared.views.View.{View}
use Rattle.core_steps.specs.Seat.{known_of}
use Rattle.core_steps.specs.Table.{view_at}
use Rattle.core_steps.proofs.Walking.{walk_table}
use Rattle.core_steps.proofs.Others.{workers_stay, other_stays}
use Rattle.core_tests.specs.OneTask.{one_task, Knows, Owes}
use Rattle.core_tests.proofs.one_task.find_row.Goals as goal

pub returns-clause-owes : goal.returns-clause-owes
returns-clause-owes g c =
    let a = walk_table _ (λ s. one_task) (λ s. s.table.ghost_name ∷ s.worker ∷ s.lent) (λ s. set s.table.now.views s.worker blank) (λ s t row claimed d. record { same_setting = refl; same_lender = d.1.table.same_lender; same_others = d.1.table.same_others }) 1 _ None _ _ _ c.find.ensures.walk in
    let b = c.reserve.ensures.table in
    let seat = c.seat-seat.ensures in
    let lender = a.same_lender ∙ b.same_lender in
    let others = a.same_others ∙ b.same_others in
    let at : c.find.new.words.worker ≡ 1 = ap (λ (x : List ℕ). get_or x 1 0) lender ∙ seat.worker in
    let same : view_at c.find.new.words.table.now 0 ≡ view_at c.args.table.now 0 = other_stays _ _ _ _ others 0 (λ e. omega (arith, e, at)) (λ e. let w = seat.worker in omega (arith, e, w)) ∙ ap (λ p. view_at p 0) seat.table in
    let done : Owes c.find.new.words.table.now = record {
      workers = workers_stay _ _ _ _ others ∙ ap (λ p. length p.views) seat.table ∙ c.requires.workers;
      at_work = subst (λ v. AtWork v (item.Owe 1 Explore 1)) (sym same) c.requires.at_work;
      no_credit = ap (λ (v : View). v.spare) same ∙ c.requires.no_credit;
      row = ap (λ v. known_of v 1) same ∙ c.requires.row;
    } in
    search rules

pub returns-clause-knows : goal.returns-clause-knows
returns-clause-knows g c =
    let a = walk_table _ (λ s. one_task) (λ s. s.table.ghost_name ∷ s.worker ∷ s.lent) (λ s. set s.table.now.views s.worker blank) (λ s t row claimed d. record { same_setting = refl; same_lender = d.1.table.same_lender; same_others = d.1.table.same_others }) 1 _ None _ _ _ c.find.ensures.walk in
    let b = c.reserve.ensures.table in
    let seat = c.seat-seat.ensures in
    let lender = a.same_lender ∙ b.same_lender in
    let others = a.same_others ∙ b.same_others in
    let at : c.find.new.words.worker ≡ 1 = ap (λ (x : List ℕ). get_or x 1 0) lender ∙ seat.worker in
    let one : c.find.result ≡ Some 1 = search rules in
    let here : known_of (view_at c.find.new.words.table.now c.find.new.words.worker) 1 ≡ Some 1 = subst (λ o. IfSome o (λ r. known_of (view_at c.find.new.words.table.now c.find.new.words.worker) r ≡ Some 1)) one c.find.ensures.known in
    let done : Knows c.find.new.words.table.now = record {
      workers = workers_stay _ _ _ _ others ∙ ap (λ p. length p.views) seat.table ∙ c.requires.workers;
      row = subst (λ i. known_of (view_at c.find.new.words.table.now i) 1 ≡ Some 1) at here;
    } in
    search rules
