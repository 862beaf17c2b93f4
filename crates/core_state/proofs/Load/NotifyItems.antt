-- What a load of a notify word does to the items of the stack that came last: above the suspect for a bad block may come one of the block's writer.
use Rattle.std.proofs.Common.{◌≡◌, ◌≢◌, ℕ, ◌+◌, ◌<◌, ◌≤◌, Bool, true, false, cond, ◌&&◌, eqb, List, [], ◌∷◌, ⊎_elim, arith, ap, refl}
use Rattle.std.proofs.lemmas.Bool.{eqb-true}
use Rattle.std.proofs.lemmas.Bool.Decides.{eqb_tells}
use Rattle.core_state.specs.Graph.{Graph}
use Rattle.core_state.specs.Words.{life_of, mark_of, closed_bit}
use Rattle.core_state.specs.Counts.{hit, bump, count, items, in_stacks}
use Rattle.core_state.specs.Tests.{is_at}
use Rattle.core_state.specs.Views.{on_top}
use Rattle.core_state.specs.Effects.{blamed_items, after_load_notify}
use Rattle.graph_model.specs.declared.record.Cause.{Cause}
use Rattle.graph_model.specs.declared.record.Cause.TheVariants as cause
use Rattle.graph_model.specs.declared.record.Found.{Found}
use Rattle.core_state.specs.declared.views.Item.{Item}
use Rattle.core_state.specs.declared.views.Item.TheVariants as item
use Rattle.core_state.specs.declared.views.Stack.{Stack}
use Rattle.core_state.specs.declared.views.View.{View}
use Rattle.core_state.proofs.Base.Counting.{bump_is, both}
use Rattle.core_state.proofs.Load.DescriptorItems.{one_more}

-- nothing; or above the suspect of life l of a for the version d of the block b comes one of the writer, for a mark or for the same cause
pub data Blaming : Type 0 where
  nothing : Blaming
  marks : (a l b d : ℕ) (f : Found) (waits : Bool) → Blaming
  closes : (a l b d : ℕ) (f : Found) (waits : Bool) → Blaming

module _ (g : Graph) (k n : ℕ) where
  -- the items that come
  abbrev pub comes : Blaming → List Item
  comes nothing = []
  comes (marks a l b d f waits) = item.Suspect k (life_of n) cause.Notify false ∷ []
  comes (closes a l b d f waits) = item.Suspect k (life_of n) (cause.Block b d f) true ∷ []

  -- the suspect of another key than the writer's, where has counts the items that pass a test
  pub record Above (has : (Item → Bool) → ℕ) (a l b d : ℕ) (f : Found) (waits : Bool) : Type 0 where
    pub writes : k ≡ g.writer b d
    pub other : k ≢ a
    pub stands : (p : Item → Bool) → p (item.Suspect a l (cause.Block b d f) waits) ≡ true → 0 < has p

  abbrev pub IsBlaming : ((Item → Bool) → ℕ) → Blaming → Type 0
  IsBlaming has nothing = Unit {0}
  IsBlaming has (marks a l b d f waits) = (mark_of n ≡ 1) × Above has a l b d f waits
  IsBlaming has (closes a l b d f waits) = Unit {0} × Above has a l b d f waits

  -- the items xs became ys
  record Becomes (ys xs : List Item) : Type 0 where
    pub kind : Blaming
    pub is : IsBlaming (λ p. count p xs) kind
    pub items_are : (p : Item → Bool) → count p ys ≡ count p xs + count p (comes kind)

  stays : (xs : List Item) → Becomes xs xs
  stays xs = record { kind = nothing; is = tt; items_are = λ p. omega arith }

  becomes : (xs : List Item) → Becomes (blamed_items g k n xs) xs
  becomes (item.Suspect a l (cause.Block b d f) waits ∷ xs) = by (eqb k (g.writer b d) && cond (eqb k a) false true) (eqb (mark_of n) 1) (eqb (closed_bit n) 1) (λ z. both (eqb k (g.writer b d)) (cond (eqb k a) false true) z) refl
    where
      above : (eqb k (g.writer b d) ≡ true) × (cond (eqb k a) false true ≡ true) → Above (λ p. count p (item.Suspect a l (cause.Block b d f) waits ∷ xs)) a l b d f waits
      above z = record {
        writes = eqb-true k (g.writer b d) z.0;
        other = λ q. ⊎_elim (λ o. absurd (let x : cond (eqb k a) false true ≡ false = ap (λ (y : Bool). cond y false true) o.0 in let y = z.1 in cc)) (λ o. o.1 q) (eqb_tells k a);
        stands = λ p z. let x = bump_is (p (item.Suspect a l (cause.Block b d f) waits)) (count p xs) in let y = ap hit z in omega (arith, x, y);
      }

      by : (o marked shut : Bool) → (o ≡ true → (eqb k (g.writer b d) ≡ true) × (cond (eqb k a) false true ≡ true)) → eqb (mark_of n) 1 ≡ marked
          → Becomes (cond o (cond marked (item.Suspect k (life_of n) cause.Notify false ∷ item.Suspect a l (cause.Block b d f) waits ∷ xs) (cond shut (item.Suspect k (life_of n) (cause.Block b d f) true ∷ item.Suspect a l (cause.Block b d f) waits ∷ xs) (item.Suspect a l (cause.Block b d f) waits ∷ xs))) (item.Suspect a l (cause.Block b d f) waits ∷ xs)) (item.Suspect a l (cause.Block b d f) waits ∷ xs)
      by true true shut z q = record { kind = marks a l b d f waits; is = (eqb-true (mark_of n) 1 q, above (z refl)); items_are = λ p. one_more p (item.Suspect k (life_of n) cause.Notify false) (item.Suspect a l (cause.Block b d f) waits ∷ xs) }
      by true false true z q = record { kind = closes a l b d f waits; is = (tt, above (z refl)); items_are = λ p. one_more p (item.Suspect k (life_of n) (cause.Block b d f) true) (item.Suspect a l (cause.Block b d f) waits ∷ xs) }
      by true false false z q = stays (item.Suspect a l (cause.Block b d f) waits ∷ xs)
      by false marked shut z q = stays (item.Suspect a l (cause.Block b d f) waits ∷ xs)
  becomes (item.Suspect a l cause.Descriptor waits ∷ xs) = stays (item.Suspect a l cause.Descriptor waits ∷ xs)
  becomes (item.Suspect a l cause.Notify waits ∷ xs) = stays (item.Suspect a l cause.Notify waits ∷ xs)
  becomes [] = stays []
  becomes (item.Explore a l j ∷ xs) = stays (item.Explore a l j ∷ xs)
  becomes (item.Compute a l b d f ∷ xs) = stays (item.Compute a l b d f ∷ xs)
  becomes (item.Close a l w ∷ xs) = stays (item.Close a l w ∷ xs)
  becomes (item.Notify a l w ps ∷ xs) = stays (item.Notify a l w ps ∷ xs)
  becomes (item.Renew a l d ∷ xs) = stays (item.Renew a l d ∷ xs)
  becomes (item.Reenter a l ps ∷ xs) = stays (item.Reenter a l ps ∷ xs)
  becomes (item.Owe a j l ∷ xs) = stays (item.Owe a j l ∷ xs)

  -- what a load does to a view
  pub record Blamed (v w : View) : Type 0 where
    pub kind : Blaming
    pub is : IsBlaming (λ p. items p v) kind
    pub items_are : (p : Item → Bool) → items p w ≡ items p v + count p (comes kind)

  rises : (f h : (Item → Bool) → ℕ) → ((p : Item → Bool) → f p ≤ h p) → (u : Blaming) → IsBlaming f u → IsBlaming h u
  rises f h up nothing is = tt
  rises f h up (marks a l b d x waits) is = let o = is.1 in (is.0, record { writes = o.writes; other = o.other; stands = λ p z. let q = o.stands p z in let y = up p in omega (arith, q, y) })
  rises f h up (closes a l b d x waits) is = let o = is.1 in (tt, record { writes = o.writes; other = o.other; stands = λ p z. let q = o.stands p z in let y = up p in omega (arith, q, y) })

  pub blamed_view : (w : ℕ) (v : View) → Blamed v (after_load_notify g k w n v)
  blamed_view w v = let u = of v.stacks in record { kind = u.0; is = u.1; items_are = u.2 }
    where
      of : (ss : List Stack) → (kind : Blaming) × IsBlaming (λ p. in_stacks p ss) kind × ((p : Item → Bool) → in_stacks p (on_top (blamed_items g k n) ss) ≡ in_stacks p ss + count p (comes kind))
      of [] = (nothing, tt, λ p. omega arith)
      of (u ∷ ss) = let b = becomes u.items in (b.kind, rises (λ p. count p u.items) (λ p. count p u.items + in_stacks p ss) (λ p. omega arith) b.kind b.is, λ p. let a = b.items_are p in omega (arith, a))

  -- a test that no suspect of the life shown passes
  pub none_comes : (p : Item → Bool) → ((d : Cause) (b : Bool) → p (item.Suspect k (life_of n) d b) ≡ false) → (u : Blaming) → count p (comes u) ≡ 0
  none_comes p fails nothing = refl
  none_comes p fails (marks a l b d f waits) = ap (λ (o : Bool). bump o 0) (fails cause.Notify false)
  none_comes p fails (closes a l b d f waits) = ap (λ (o : Bool). bump o 0) (fails (cause.Block b d f) true)

  pub comes_at : (m : ℕ) (u : Blaming) → count (is_at m) (comes u) ≤ hit (eqb m k)
  comes_at m nothing = omega arith
  comes_at m (marks a l b d f waits) = let x = bump_is (eqb m k) 0 in omega (arith, x)
  comes_at m (closes a l b d f waits) = let x = bump_is (eqb m k) 0 in omega (arith, x)
