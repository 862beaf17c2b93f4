use Rattle.std.proofs.Common.{ℕ, List, ◌∷◌, get_or, ◌≡◌, ◌∙◌, set, length, ap, arith, refl, None, rules}
use Rattle.core_state.specs.Views.{blank}
use Rattle.core_steps.specs.Table.{view_at}
use Rattle.core_steps.proofs.Walking.{walk_table}
use Rattle.core_steps.proofs.Others.{workers_stay, other_stays}
use Rattle.core_tests.specs.OneTask.{one_task, Begins}
use Rattle.core_tests.proofs.one_task.find_none.Goals as goal

pub returns : goal.returns
returns g c =
    let a = walk_table _ (λ s. one_task) (λ s. s.table.ghost_name ∷ s.worker ∷ s.lent) (λ s. set s.table.now.views s.worker blank) (λ s t row claimed d. record { same_setting = refl; same_lender = d.1.table.same_lender; same_others = d.1.table.same_others }) 1 _ None _ _ _ c.find.ensures.walk in
    let b = c.reserve.ensures.table in
    let seat = c.seat-seat.ensures in
    let lender = a.same_lender ∙ b.same_lender in
    let others = a.same_others ∙ b.same_others in
    let at : c.find.new.words.worker ≡ 1 = ap (λ (x : List ℕ). get_or x 1 0) lender ∙ seat.worker in
    let done : Begins c.find.new.words.table.now = record {
      workers = workers_stay _ _ _ _ others ∙ ap (λ p. length p.views) seat.table ∙ c.requires.workers;
      first = other_stays _ _ _ _ others 0 (λ e. omega (arith, e, at)) (λ e. let w = seat.worker in omega (arith, e, w)) ∙ ap (λ p. view_at p 0) seat.table ∙ c.requires.first;
    } in
    search rules
