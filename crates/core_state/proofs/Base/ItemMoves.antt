-- What changes in counts when the item at work goes on by one place or port.
use Rattle.std.proofs.Common.{◌≡◌, ◌≢◌, ◌⊎◌, ℕ, ◌+◌, ◌≤◌, ◌<◌, Bool, true, false, cond, ◌&&◌, nat_le, nat_lt, eqb, List, [], ◌∷◌, ⊎_elim, inl, inr, arith, sym, ap, refl, ◌∙◌, subst}
use mathlib.Core.Logic.{dite}
use native.Mathlib.Decide.{ℕ_discrete}
use Rattle.std.proofs.lemmas.Bool.{lt-ltb, le-ltb}
use Rattle.std.proofs.lemmas.Bool.Decides.{nat_tests, eqb_tells}
use Rattle.core_state.specs.Graph.{Graph, Setting}
use Rattle.core_state.specs.Counts.{hit, bump, count, items, in_stacks, begun, ended}
use Rattle.core_state.specs.Tests.{two, is_in, carries, is_ended, explores, notifies, reenters, is_renew, same_job}
use Rattle.core_state.specs.Cover.{covers_edge}
use Rattle.core_state.specs.Guards.{AtWork}
use Rattle.core_state.specs.Effects.{moved, moved_items, moved_ended}
use Rattle.core_state.specs.Laws.{IsPlace}
use Rattle.core_state.specs.Views.{on_top, top_items}
use Rattle.core_state.specs.declared.job.Job.{Job}
use Rattle.core_state.specs.declared.job.Job.TheVariants as job
use Rattle.core_state.specs.declared.views.Ended.{Ended}
use Rattle.core_state.specs.declared.views.Item.{Item}
use Rattle.core_state.specs.declared.views.Item.TheVariants as item
use Rattle.core_state.specs.declared.views.Stack.{Stack}
use Rattle.core_state.specs.declared.views.View.{View}
use Rattle.core_state.proofs.Base.Counting.{bump_is, two_tells}

-- a test that sees neither exploring nor how many ports are left
pub record Still (p : Item → Bool) : Type 0 where
  pub explore : (a l i : ℕ) → p (item.Explore a l i) ≡ false
  pub notify : (a l w q : ℕ) (qs : List ℕ) → p (item.Notify a l w qs) ≡ p (item.Notify a l w (q ∷ qs))
  pub reenter : (a l q : ℕ) (qs : List ℕ) → p (item.Reenter a l qs) ≡ p (item.Reenter a l (q ∷ qs))

-- a test that no item begins to pass as it goes on
pub record Falling (p : Item → Bool) : Type 0 where
  pub explore : (a l i : ℕ) → hit (p (item.Explore a l (i + 1))) ≤ hit (p (item.Explore a l i))
  pub notify : (a l w q : ℕ) (qs : List ℕ) → hit (p (item.Notify a l w qs)) ≤ hit (p (item.Notify a l w (q ∷ qs)))
  pub reenter : (a l q : ℕ) (qs : List ℕ) → hit (p (item.Reenter a l qs)) ≤ hit (p (item.Reenter a l (q ∷ qs)))

still_list : (p : Item → Bool) → Still p → (g : Graph) (xs : List Item) → count p (moved_items g xs) ≡ count p xs
still_list p still g [] = refl
still_list p still g (item.Explore k l j ∷ xs) = by (nat_lt j (g.places k))
  where
    by : (b : Bool) → count p (cond b (item.Explore k l (j + 1) ∷ xs) xs) ≡ count p (item.Explore k l j ∷ xs)
    by true = ap (λ (b : Bool). bump b (count p xs)) (still.explore k l (j + 1) ∙ sym (still.explore k l j))
    by false = sym (ap (λ (b : Bool). bump b (count p xs)) (still.explore k l j))
still_list p still g (item.Notify k l w [] ∷ xs) = refl
still_list p still g (item.Notify k l w (q ∷ qs) ∷ xs) = ap (λ (b : Bool). bump b (count p xs)) (still.notify k l w q qs)
still_list p still g (item.Reenter k l [] ∷ xs) = refl
still_list p still g (item.Reenter k l (q ∷ qs) ∷ xs) = ap (λ (b : Bool). bump b (count p xs)) (still.reenter k l q qs)
still_list p still g (item.Compute a b d f h ∷ xs) = refl
still_list p still g (item.Close a b d ∷ xs) = refl
still_list p still g (item.Suspect a b d f ∷ xs) = refl
still_list p still g (item.Renew a b d ∷ xs) = refl
still_list p still g (item.Owe a b d ∷ xs) = refl

bump_low : (a b : Bool) (n : ℕ) → hit a ≤ hit b → bump a n ≤ bump b n
bump_low a b n low = let x = bump_is a n in let y = bump_is b n in omega (arith, x, y, low)

falling_list : (p : Item → Bool) → Falling p → (g : Graph) (xs : List Item) → count p (moved_items g xs) ≤ count p xs
falling_list p falls g [] = omega arith
falling_list p falls g (item.Explore k l j ∷ xs) = by (nat_lt j (g.places k))
  where
    by : (b : Bool) → count p (cond b (item.Explore k l (j + 1) ∷ xs) xs) ≤ count p (item.Explore k l j ∷ xs)
    by true = bump_low (p (item.Explore k l (j + 1))) (p (item.Explore k l j)) (count p xs) (falls.explore k l j)
    by false = let x = bump_is (p (item.Explore k l j)) (count p xs) in omega (arith, x)
falling_list p falls g (item.Notify k l w [] ∷ xs) = omega arith
falling_list p falls g (item.Notify k l w (q ∷ qs) ∷ xs) = bump_low (p (item.Notify k l w qs)) (p (item.Notify k l w (q ∷ qs))) (count p xs) (falls.notify k l w q qs)
falling_list p falls g (item.Reenter k l [] ∷ xs) = omega arith
falling_list p falls g (item.Reenter k l (q ∷ qs) ∷ xs) = bump_low (p (item.Reenter k l qs)) (p (item.Reenter k l (q ∷ qs))) (count p xs) (falls.reenter k l q qs)
falling_list p falls g (item.Compute a b d f h ∷ xs) = omega arith
falling_list p falls g (item.Close a b d ∷ xs) = omega arith
falling_list p falls g (item.Suspect a b d f ∷ xs) = omega arith
falling_list p falls g (item.Renew a b d ∷ xs) = omega arith
falling_list p falls g (item.Owe a b d ∷ xs) = omega arith

pub moved_still : (p : Item → Bool) → Still p → (g : Graph) (v : View) → items p (moved g v) ≡ items p v
moved_still p still g v = of v.stacks
  where
    of : (ss : List Stack) → in_stacks p (on_top (moved_items g) ss) ≡ in_stacks p ss
    of [] = refl
    of (s ∷ ss) = ap (λ x. x + in_stacks p ss) (still_list p still g s.items)

pub moved_falls : (p : Item → Bool) → Falling p → (g : Graph) (v : View) → items p (moved g v) ≤ items p v
moved_falls p falls g v = of v.stacks
  where
    of : (ss : List Stack) → in_stacks p (on_top (moved_items g) ss) ≤ in_stacks p ss
    of [] = omega arith
    of (s ∷ ss) = let a = falling_list p falls g s.items in omega (arith, a)

-- exploring that leaves has ended
begun_list : (i : Job) (a m : ℕ) (g : Graph) (xs : List Item) (es : List Ended) → count (carries i a m) (moved_items g xs) + count (is_ended i a m) (moved_ended g xs es) ≡ count (carries i a m) xs + count (is_ended i a m) es
begun_list i a m g [] es = refl
begun_list i a m g (item.Explore k l j ∷ xs) es = by i (nat_lt j (g.places k))
  where
    by : (i : Job) (b : Bool) → count (carries i a m) (cond b (item.Explore k l (j + 1) ∷ xs) xs) + count (is_ended i a m) (cond b es (record { job = job.Explore; key = k; life = l } ∷ es)) ≡ count (carries i a m) (item.Explore k l j ∷ xs) + count (is_ended i a m) es
    by job.Explore true = refl
    by job.Compute true = refl
    by job.Explore false = let x = bump_is (two a m k l) (count (carries job.Explore a m) xs) in let y = bump_is (two a m k l) (count (is_ended job.Explore a m) es) in omega (arith, x, y)
    by job.Compute false = refl
begun_list job.Explore a m g (item.Notify k l w [] ∷ xs) es = refl
begun_list job.Explore a m g (item.Notify k l w (q ∷ qs) ∷ xs) es = refl
begun_list job.Explore a m g (item.Reenter k l [] ∷ xs) es = refl
begun_list job.Explore a m g (item.Reenter k l (q ∷ qs) ∷ xs) es = refl
begun_list job.Compute a m g (item.Notify k l w [] ∷ xs) es = refl
begun_list job.Compute a m g (item.Notify k l w (q ∷ qs) ∷ xs) es = refl
begun_list job.Compute a m g (item.Reenter k l [] ∷ xs) es = refl
begun_list job.Compute a m g (item.Reenter k l (q ∷ qs) ∷ xs) es = refl
begun_list i a m g (item.Compute k b d f h ∷ xs) es = refl
begun_list i a m g (item.Close k b d ∷ xs) es = refl
begun_list i a m g (item.Suspect k b d f ∷ xs) es = refl
begun_list i a m g (item.Renew k b d ∷ xs) es = refl
begun_list i a m g (item.Owe k b d ∷ xs) es = refl

pub moved_begun : (i : Job) (a m : ℕ) (g : Graph) (v : View) → begun i a m (moved g v) ≡ begun i a m v
moved_begun i a m g v = of v.stacks
  where
    of : (ss : List Stack) → in_stacks (carries i a m) (on_top (moved_items g) ss) + count (is_ended i a m) (moved_ended g (top_items ss) v.ended) ≡ in_stacks (carries i a m) ss + count (is_ended i a m) v.ended
    of [] = refl
    of (s ∷ ss) = let a = begun_list i a m g s.items v.ended in omega (arith, a)

-- the topmost item x and those below become the items ys
pub swapped : (p : Item → Bool) (f : List Item → List Item) (ss rest : List Stack) (u : Stack) (x : Item) (xs ys : List Item) → ss ≡ u ∷ rest → u.items ≡ x ∷ xs → f (x ∷ xs) ≡ ys
    → in_stacks p (on_top f ss) + (hit (p x) + count p xs) ≡ in_stacks p ss + count p ys
swapped p f ss rest u x xs ys is has gives = rw (is, has) (let a = bump_is (p x) (count p xs) in let b = ap (count p) gives in omega (arith, a, b))

le_step : (i j : ℕ) → i ≢ j → nat_le j i ≡ nat_le (j + 1) i
le_step i j ne = grind (arith, nat_tests)

-- only its own place is passed by an exploring that goes on
step_over : (a b i k l j : ℕ) → (hit (two a b k l && nat_le j i) ≤ hit (two a b k l && nat_le (j + 1) i)) ⊎ ((a ≡ k) × (i ≡ j))
step_over a b i k l j = ⊎_elim (λ z. inl (let x : hit (two a b k l && nat_le j i) ≡ 0 = ap (λ (y : Bool). hit (y && nat_le j i)) z in omega (arith, x)))
    (λ z. dite (ℕ_discrete i j) (λ q. inr (z.1, q)) (λ ne. inl (let x : hit (two a b k l && nat_le j i) ≡ hit (two a b k l && nat_le (j + 1) i) = ap (λ (y : Bool). hit (two a b k l && y)) (le_step i j ne) in omega (arith, x)))) (two_tells a b k l)

le_above : (i p : ℕ) → i < p → nat_le p i ≡ false
le_above i p low = grind (arith, nat_tests)

and_nothing : (b : Bool) → (b && false) ≡ false
and_nothing true = refl
and_nothing false = refl

-- exploring that leaves loses the self place alone, of all that are places
last_over : (g : Graph) (a b i k l : ℕ) → IsPlace g a i → (hit (two a b k l && nat_le (g.places k) i) ≡ 0) ⊎ ((a ≡ k) × (i ≡ 40))
last_over g a b i k l place = ⊎_elim (λ z. inl (ap (λ (y : Bool). hit (y && nat_le (g.places k) i)) z))
    (λ z. ⊎_elim (λ low. inl (ap (λ (y : Bool). hit (two a b k l && y)) (le_above i (g.places k) (subst (λ y. i < g.places y) z.1 low)) ∙ ap hit (and_nothing (two a b k l)))) (λ q. inr (z.1, q)) place) (two_tells a b k l)

pub port_over : (p q x : ℕ) (qs : List ℕ) (y : ℕ) → (hit (eqb p y && is_in q (x ∷ qs)) ≤ hit (eqb p y && is_in q qs)) ⊎ ((p ≡ y) × (q ≡ x))
port_over p q x qs y = ⊎_elim
    (λ z. ⊎_elim (λ f. inr (z.1, f.1)) (λ f. inl (let h : hit (eqb p y && is_in q (x ∷ qs)) ≡ hit (eqb p y && is_in q qs) = ap (λ (b : Bool). hit (eqb p y && cond b true (is_in q qs))) f.0 in omega (arith, h))) (eqb_tells q x))
    (λ z. inl (let h : hit (eqb p y && is_in q (x ∷ qs)) ≡ 0 = ap (λ (b : Bool). hit (b && is_in q (x ∷ qs))) z.0 in omega (arith, h))) (eqb_tells p y)

not_less : (n : ℕ) → nat_lt n n ≡ false
not_less n = le-ltb n n (omega arith)

-- the item at work comes to place j of k
pub data Serves (e : Setting) (v : View) (k j : ℕ) : Type 0 where
  exploring : (l : ℕ) → AtWork v (item.Explore k l j) → j < e.graph.places k → Serves e v k j
  notifying : (p l w q : ℕ) (qs : List ℕ) → AtWork v (item.Notify p l w (q ∷ qs)) → (e.graph.succ p q).task ≡ k → (e.graph.succ p q).place ≡ j → Serves e v k j
  reentering : (p l q : ℕ) (qs : List ℕ) → AtWork v (item.Reenter p l (q ∷ qs)) → (e.graph.succ p q).task ≡ k → (e.graph.succ p q).place ≡ j → Serves e v k j
  itself : (l : ℕ) → AtWork v (item.Explore k l (e.graph.places k)) → j ≡ 40 → Serves e v k j

module _ (e : Setting) (v : View) (k j : ℕ) where
  same_edge : (p q y x : ℕ) → p ≡ y → q ≡ x → (e.graph.succ y x).task ≡ k → (e.graph.succ y x).place ≡ j → ((e.graph.succ p q).task ≡ k) × ((e.graph.succ p q).place ≡ j)
  same_edge p q y x a b task place = (ap (λ z. (e.graph.succ z q).task) a ∙ ap (λ z. (e.graph.succ y z).task) b ∙ task, ap (λ z. (e.graph.succ z q).place) a ∙ ap (λ z. (e.graph.succ y z).place) b ∙ place)

  abbrev Selfs : Type 0
  Selfs = (a b i : ℕ) → IsPlace e.graph a i → (items (explores a b i) v ≤ items (explores a b i) (moved e.graph v)) ⊎ ((a ≡ k) × (i ≡ j))

  -- exploring still covers each other place
  pub moved_selfs : Serves e v k j → Selfs
  moved_selfs (exploring l at low) a b i place = let x : Item = item.Explore k l j in
      let h = swapped (explores a b i) (moved_items e.graph) v.stacks at.others at.stack x at.below (item.Explore k l (j + 1) ∷ at.below) at.stacks_are at.items_are (ap (λ (y : Bool). cond y (item.Explore k l (j + 1) ∷ at.below) at.below) (lt-ltb j (e.graph.places k) low)) in
      let f = bump_is (explores a b i (item.Explore k l (j + 1))) (count (explores a b i) at.below) in ⊎_elim (λ z. inl (omega (arith, z, h, f))) (λ z. inr z) (step_over a b i k l j)
  moved_selfs (notifying p l w q qs at task is) a b i place = inl (let h = swapped (explores a b i) (moved_items e.graph) v.stacks at.others at.stack (item.Notify p l w (q ∷ qs)) at.below (item.Notify p l w qs ∷ at.below) at.stacks_are at.items_are refl in omega (arith, h))
  moved_selfs (reentering p l q qs at task is) a b i place = inl (let h = swapped (explores a b i) (moved_items e.graph) v.stacks at.others at.stack (item.Reenter p l (q ∷ qs)) at.below (item.Reenter p l qs ∷ at.below) at.stacks_are at.items_are refl in omega (arith, h))
  moved_selfs (itself l at is) a b i place = let x : Item = item.Explore k l (e.graph.places k) in
      let h = swapped (explores a b i) (moved_items e.graph) v.stacks at.others at.stack x at.below at.below at.stacks_are at.items_are (ap (λ (y : Bool). cond y (item.Explore k l (e.graph.places k + 1) ∷ at.below) at.below) (not_less (e.graph.places k))) in
      ⊎_elim (λ z. inl (omega (arith, z, h))) (λ z. inr (z.0, z.1 ∙ sym is)) (last_over e.graph a b i k l place)

  -- each other edge is still told
  pub moved_edges : Serves e v k j → (p q : ℕ) → (covers_edge p q v ≤ covers_edge p q (moved e.graph v)) ⊎ (((e.graph.succ p q).task ≡ k) × ((e.graph.succ p q).place ≡ j))
  moved_edges (exploring l at low) p q = inl (let gives = ap (λ (y : Bool). cond y (item.Explore k l (j + 1) ∷ at.below) at.below) (lt-ltb j (e.graph.places k) low) in
      let a = swapped (notifies p q) (moved_items e.graph) v.stacks at.others at.stack (item.Explore k l j) at.below (item.Explore k l (j + 1) ∷ at.below) at.stacks_are at.items_are gives in
      let b = swapped (is_renew p) (moved_items e.graph) v.stacks at.others at.stack (item.Explore k l j) at.below (item.Explore k l (j + 1) ∷ at.below) at.stacks_are at.items_are gives in
      let d = swapped (reenters p q) (moved_items e.graph) v.stacks at.others at.stack (item.Explore k l j) at.below (item.Explore k l (j + 1) ∷ at.below) at.stacks_are at.items_are gives in omega (arith, a, b, d))
  moved_edges (itself l at is) p q = inl (let gives = ap (λ (y : Bool). cond y (item.Explore k l (e.graph.places k + 1) ∷ at.below) at.below) (not_less (e.graph.places k)) in
      let a = swapped (notifies p q) (moved_items e.graph) v.stacks at.others at.stack (item.Explore k l (e.graph.places k)) at.below at.below at.stacks_are at.items_are gives in
      let b = swapped (is_renew p) (moved_items e.graph) v.stacks at.others at.stack (item.Explore k l (e.graph.places k)) at.below at.below at.stacks_are at.items_are gives in
      let d = swapped (reenters p q) (moved_items e.graph) v.stacks at.others at.stack (item.Explore k l (e.graph.places k)) at.below at.below at.stacks_are at.items_are gives in omega (arith, a, b, d))
  moved_edges (notifying y l w x qs at task place) p q = let a = swapped (notifies p q) (moved_items e.graph) v.stacks at.others at.stack (item.Notify y l w (x ∷ qs)) at.below (item.Notify y l w qs ∷ at.below) at.stacks_are at.items_are refl in
      let b = swapped (is_renew p) (moved_items e.graph) v.stacks at.others at.stack (item.Notify y l w (x ∷ qs)) at.below (item.Notify y l w qs ∷ at.below) at.stacks_are at.items_are refl in
      let d = swapped (reenters p q) (moved_items e.graph) v.stacks at.others at.stack (item.Notify y l w (x ∷ qs)) at.below (item.Notify y l w qs ∷ at.below) at.stacks_are at.items_are refl in
      let h = bump_is (notifies p q (item.Notify y l w qs)) (count (notifies p q) at.below) in
      ⊎_elim (λ z. inl (omega (arith, a, b, d, h, z))) (λ z. inr (same_edge p q y x z.0 z.1 task place)) (port_over p q x qs y)
  moved_edges (reentering y l x qs at task place) p q = let a = swapped (notifies p q) (moved_items e.graph) v.stacks at.others at.stack (item.Reenter y l (x ∷ qs)) at.below (item.Reenter y l qs ∷ at.below) at.stacks_are at.items_are refl in
      let b = swapped (is_renew p) (moved_items e.graph) v.stacks at.others at.stack (item.Reenter y l (x ∷ qs)) at.below (item.Reenter y l qs ∷ at.below) at.stacks_are at.items_are refl in
      let d = swapped (reenters p q) (moved_items e.graph) v.stacks at.others at.stack (item.Reenter y l (x ∷ qs)) at.below (item.Reenter y l qs ∷ at.below) at.stacks_are at.items_are refl in
      let h = bump_is (reenters p q (item.Reenter y l qs)) (count (reenters p q) at.below) in
      ⊎_elim (λ z. inl (omega (arith, a, b, d, h, z))) (λ z. inr (same_edge p q y x z.0 z.1 task place)) (port_over p q x qs y)

  -- the view has a stack
  pub serves_stack : Serves e v k j → (u : Stack) × ((rest : List Stack) × (v.stacks ≡ u ∷ rest))
  serves_stack (exploring l at low) = (at.stack, (at.others, at.stacks_are))
  serves_stack (notifying p l w q qs at task is) = (at.stack, (at.others, at.stacks_are))
  serves_stack (reentering p l q qs at task is) = (at.stack, (at.others, at.stacks_are))
  serves_stack (itself l at is) = (at.stack, (at.others, at.stacks_are))

  -- only exploring of the key can end
  pub moved_ends : Serves e v k j → (i : Job) (a b : ℕ) → (ended i a b (moved e.graph v) ≡ ended i a b v) ⊎ (a ≡ k)
  moved_ends (exploring l at low) i a b = inl (tops (item.Explore k l j) at.below at.stack at.others at.stacks_are at.items_are (ap (λ (y : Bool). count (is_ended i a b) (cond y v.ended (record { job = job.Explore; key = k; life = l } ∷ v.ended))) (lt-ltb j (e.graph.places k) low)))
    where
      tops : (x : Item) (xs : List Item) (u : Stack) (rest : List Stack) → v.stacks ≡ u ∷ rest → u.items ≡ x ∷ xs → count (is_ended i a b) (moved_ended e.graph (x ∷ xs) v.ended) ≡ count (is_ended i a b) v.ended → ended i a b (moved e.graph v) ≡ ended i a b v
      tops x xs u rest is has same = ap (λ ss. count (is_ended i a b) (moved_ended e.graph (top_items ss) v.ended)) is ∙ ap (λ ys. count (is_ended i a b) (moved_ended e.graph ys v.ended)) has ∙ same
  moved_ends (notifying p l w q qs at task is) i a b = inl (ap (λ ss. count (is_ended i a b) (moved_ended e.graph (top_items ss) v.ended)) at.stacks_are ∙ ap (λ ys. count (is_ended i a b) (moved_ended e.graph ys v.ended)) at.items_are)
  moved_ends (reentering p l q qs at task is) i a b = inl (ap (λ ss. count (is_ended i a b) (moved_ended e.graph (top_items ss) v.ended)) at.stacks_are ∙ ap (λ ys. count (is_ended i a b) (moved_ended e.graph ys v.ended)) at.items_are)
  moved_ends (itself l at is) i a b = ⊎_elim (λ z. inr z.1) (λ z. inl (ap (λ ss. count (is_ended i a b) (moved_ended e.graph (top_items ss) v.ended)) at.stacks_are ∙ ap (λ ys. count (is_ended i a b) (moved_ended e.graph ys v.ended)) at.items_are
      ∙ ap (λ (y : Bool). count (is_ended i a b) (cond y v.ended (record { job = job.Explore; key = k; life = l } ∷ v.ended))) (not_less (e.graph.places k))
      ∙ ap (λ (y : Bool). bump (same_job i job.Explore && (y && eqb b l)) (count (is_ended i a b) v.ended)) z.0 ∙ ap (λ (y : Bool). bump y (count (is_ended i a b) v.ended)) (and_nothing (same_job i job.Explore)))) (eqb_tells a k)

-- no end is lost
ends_list : (i : Job) (a m : ℕ) (g : Graph) (xs : List Item) (es : List Ended) → count (is_ended i a m) es ≤ count (is_ended i a m) (moved_ended g xs es)
ends_list i a m g (item.Explore k l j ∷ xs) es = by (nat_lt j (g.places k))
  where
    by : (b : Bool) → count (is_ended i a m) es ≤ count (is_ended i a m) (cond b es (record { job = job.Explore; key = k; life = l } ∷ es))
    by true = omega arith
    by false = let x = bump_is (same_job i job.Explore && two a m k l) (count (is_ended i a m) es) in omega (arith, x)
ends_list i a m g xs es = omega arith

pub moved_ends_up : (i : Job) (a m : ℕ) (g : Graph) (v : View) → ended i a m v ≤ ended i a m (moved g v)
moved_ends_up i a m g v = ends_list i a m g (top_items v.stacks) v.ended
