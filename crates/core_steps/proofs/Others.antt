-- What the clauses of one seat tell those who sit at the table after it.
use Rattle.std.proofs.Common.{◌≡◌, ◌≢◌, ℕ, List, length, set, length-set, sym, ap, ◌∙◌}
use Rattle.std.proofs.lemmas.List.{get_or-set_other}
use Rattle.core_state.specs.Views.{blank}
use Rattle.core_state.specs.declared.views.View.{View}
use Rattle.core_steps.specs.Table.{Plain, view_in, view_at}

-- a seat begins with the view that its worker has
pub seated : (p q : Plain) (i j : ℕ) → q ≡ p → j ≡ i → view_at q j ≡ view_at p i
seated p q i j table worker = ap (λ x. view_at x j) table ∙ ap (view_at p) worker

-- the views of others stay, and so does their number
module _ (vs ws : List View) (i j : ℕ) (others : set ws i blank ≡ set vs j blank) where
  pub workers_stay : length ws ≡ length vs
  workers_stay = sym (length-set ws i blank) ∙ ap length others ∙ length-set vs j blank

  pub other_stays : (k : ℕ) → k ≢ i → k ≢ j → view_in ws k ≡ view_in vs k
  other_stays k a b = sym (get_or-set_other ws i k blank blank a) ∙ ap (λ us. view_in us k) others ∙ get_or-set_other vs j k blank blank b
