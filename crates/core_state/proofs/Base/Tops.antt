-- What a change on top of a view's last stack leaves.
use Rattle.std.proofs.Common.{◌≡◌, ℕ, ◌+◌, Bool, true, false, List, [], ◌∷◌, length, arith, sym, ap, refl, ◌∙◌, subst}
use Rattle.core_state.specs.Counts.{bump, count, in_stacks}
use Rattle.core_state.specs.Tests.{came_with}
use Rattle.core_state.specs.Views.{on_top}
use Rattle.core_state.specs.declared.job.Job.{Job}
use Rattle.core_state.specs.declared.views.Item.{Item}
use Rattle.core_state.specs.declared.views.Stack.{Stack}

-- an item on top of the last stack
pub push_none : (p : Item → Bool) (x : Item) (ss : List Stack) → p x ≡ false → in_stacks p (on_top (λ xs. x ∷ xs) ss) ≡ in_stacks p ss
push_none p x [] e = refl
push_none p x (s ∷ ss) e = ap (λ (b : Bool). bump b (count p s.items) + in_stacks p ss) e

pub push_one : (p : Item → Bool) (x : Item) (ss rest : List Stack) (u : Stack) → ss ≡ u ∷ rest → p x ≡ true → in_stacks p (on_top (λ xs. x ∷ xs) ss) ≡ in_stacks p ss + 1
push_one p x ss rest u is e = subst (λ ys. in_stacks p (on_top (λ xs. x ∷ xs) ys) ≡ in_stacks p ys + 1) (sym is) (ap (λ (b : Bool). bump b (count p u.items) + in_stacks p rest) e ∙ omega arith)

pub push_length : (f : List Item → List Item) (ss : List Stack) → length (on_top f ss) ≡ length ss
push_length f [] = refl
push_length f (s ∷ ss) = refl

pub push_came : (i : Job) (k l : ℕ) (f : List Item → List Item) (ss : List Stack) → count (came_with i k l) (on_top f ss) ≡ count (came_with i k l) ss
push_came i k l f [] = refl
push_came i k l f (s ∷ ss) = refl
