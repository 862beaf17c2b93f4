-- What closing a notify word leaves of the view, put so that every part can be read off.
use Rattle.std.proofs.Common.{◌≡◌, ◌≢◌, ℕ, zero, suc, ◌+◌, ◌*◌, ◌≤◌, ◌<◌, Bool, true, false, cond, ◌&&◌, eqb, nat_eq, List, [], ◌∷◌, ⊎_elim, arith, sym, ap, refl, ◌∙◌, subst}
use mathlib.Core.Logic.{dite}
use native.Mathlib.Decide.{ℕ_discrete}
use Rattle.std.specs.Int.{bit_at}
use Rattle.std.proofs.lemmas.Bool.Decides.{eqb_tells}
use Rattle.core_state.specs.Words.{life_of}
use Rattle.core_state.specs.Counts.{hit, count, in_stacks, items, ended, held, came, noted, stack_count, spare}
use Rattle.core_state.specs.Tests.{two, same_job, is_in, carries, is_close_from, is_ended}
use Rattle.core_state.specs.Guards.{AtWork}
use Rattle.core_state.specs.Effects.{seen, after_close, ports_from, ends_top}
use Rattle.core_state.specs.Views.{key_of, on_top, top_items, without_first}
use Rattle.core_state.specs.declared.answers.Closing.TheVariants as closing
use Rattle.graph_model.specs.declared.record.Cause.TheVariants as cause
use Rattle.graph_model.specs.declared.record.Record.{Record}
use Rattle.graph_model.specs.declared.record.Record.TheVariants as record_of
use Rattle.core_state.specs.declared.job.Job.{Job}
use Rattle.core_state.specs.declared.job.Job.TheVariants.{Compute}
use Rattle.core_state.specs.declared.views.Item.{Item}
use Rattle.core_state.specs.declared.views.Item.TheVariants as item
use Rattle.core_state.specs.declared.views.Known.TheVariants as known
use Rattle.core_state.specs.declared.views.Stack.{Stack}
use Rattle.core_state.specs.declared.views.Word.TheVariants as word
use Rattle.core_state.specs.declared.views.View.{View}
use Rattle.core_state.proofs.Base.Counting.{bump_is, eqb_here, hit_le}
use Rattle.core_state.proofs.Base.Tops.{push_came, push_length}
use Rattle.core_state.proofs.Base.ItemMoves.{swapped}
use Rattle.core_state.proofs.Spend.Keeps.{pushed}

-- a closing that was given up at word w, which was n: its job has ended, and where the word had the mark the life shown is suspected
pub record LeftView (k l w n : ℕ) (marked : Bool) (v u : View) : Type 0 where
  pub added : (p : Item → Bool) → items p u + hit (p (item.Close k l w)) ≡ items p v + hit (marked && p (item.Suspect k (life_of n) cause.Notify false))
  pub ended_more : (i : Job) (a b : ℕ) → ended i a b u ≡ ended i a b v + hit (same_job i Compute && two a b k l)
  pub records_are : u.records ≡ v.records
  pub known_is : u.known ≡ seen k (word.Notify w) n v.known
  pub hands_are : u.hands ≡ v.hands
  pub strikes_are : u.strikes ≡ v.strikes
  pub comes : (i : Job) (m b : ℕ) → came i m b u ≡ came i m b v
  pub stacks_as_many : stack_count u ≡ stack_count v
  pub spare_same : spare u ≡ spare v

-- a closing of word w, which was n: its ports are to be told, and the next word comes
pub record ClosedView (k l w n : ℕ) (v u : View) : Type 0 where
  pub added : (p : Item → Bool) → items p u + hit (p (item.Close k l w)) ≡ items p v + hit (p (item.Notify k l w (ports_from w n 0 40))) + hit (p (item.Close k l (w + 1)))
  pub noted_more : (p : Record → Bool) → noted p u ≡ noted p v + hit (p (record_of.Closed (key_of k) l w))
  pub known_is : u.known ≡ known.Closed k l w ∷ seen k (word.Notify w) n v.known
  pub ended_is : u.ended ≡ v.ended
  pub hands_are : u.hands ≡ v.hands
  pub strikes_are : u.strikes ≡ v.strikes
  pub comes : (i : Job) (m b : ℕ) → came i m b u ≡ came i m b v
  pub stacks_as_many : stack_count u ≡ stack_count v
  pub spare_same : spare u ≡ spare v

module _ (k l w n : ℕ) (v : View) (at : AtWork v (item.Close k l w)) where
  -- the closing that is at work goes
  taken : (p : Item → Bool) → in_stacks p (on_top without_first v.stacks) + hit (p (item.Close k l w)) ≡ in_stacks p v.stacks
  taken p = let a = swapped p without_first v.stacks at.others at.stack (item.Close k l w) at.below at.below at.stacks_are at.items_are refl in omega (arith, a)

  pub at_top : (p : Item → Bool) → hit (p (item.Close k l w)) ≤ items p v
  at_top p = let a = taken p in omega (arith, a)

  ends : (i : Job) (a b : ℕ) → count (is_ended i a b) (ends_top (top_items v.stacks) v.ended) ≡ ended i a b v + hit (same_job i Compute && two a b k l)
  ends i a b = ap (λ ss. count (is_ended i a b) (ends_top (top_items ss) v.ended)) at.stacks_are ∙ ap (λ xs. count (is_ended i a b) (ends_top xs v.ended)) at.items_are ∙ (let f = bump_is (same_job i Compute && two a b k l) (count (is_ended i a b) v.ended) in omega (arith, f))

  pub stale_view : (m : ℕ) → LeftView k l w n false v (after_close k l w n (closing.Stale m) v)
  stale_view m = record {
    added = λ p. let a = taken p in omega (arith, a);
    ended_more = ends;
    records_are = refl;
    known_is = refl;
    hands_are = refl;
    strikes_are = refl;
    comes = λ i a b. push_came i a b without_first v.stacks;
    stacks_as_many = push_length without_first v.stacks;
    spare_same = refl;
  }

  pub struck_view : LeftView k l w n true v (after_close k l w n (closing.Struck (life_of n)) v)
  struck_view = record {
    added = λ p. let a = taken p in let b = pushed p (item.Suspect k (life_of n) cause.Notify false) (on_top without_first v.stacks) at.others (record at.stack { items = without_first at.stack.items }) (ap (on_top without_first) at.stacks_are) in omega (arith, a, b);
    ended_more = ends;
    records_are = refl;
    known_is = refl;
    hands_are = refl;
    strikes_are = refl;
    comes = λ i a b. push_came i a b (λ xs. item.Suspect k (life_of n) cause.Notify false ∷ xs) (on_top without_first v.stacks) ∙ push_came i a b without_first v.stacks;
    stacks_as_many = push_length (λ xs. item.Suspect k (life_of n) cause.Notify false ∷ xs) (on_top without_first v.stacks) ∙ push_length without_first v.stacks;
    spare_same = refl;
  }

  swap : List Item → List Item
  swap xs = item.Notify k l w (ports_from w n 0 40) ∷ item.Close k l (w + 1) ∷ without_first xs

  pub closed_view : (ports : ℕ) → ClosedView k l w n v (after_close k l w n (closing.Edges ports) v)
  unfolding swap
  closed_view ports = record {
    added = λ p. let a = swapped p swap v.stacks at.others at.stack (item.Close k l w) at.below (item.Notify k l w (ports_from w n 0 40) ∷ item.Close k l (w + 1) ∷ at.below) at.stacks_are at.items_are refl in
        let b = bump_is (p (item.Notify k l w (ports_from w n 0 40))) (count p (item.Close k l (w + 1) ∷ at.below)) in let d = bump_is (p (item.Close k l (w + 1))) (count p at.below) in omega (arith, a, b, d);
    noted_more = λ p. let a = bump_is (p (record_of.Closed (key_of k) l w)) (count p v.records) in omega (arith, a);
    known_is = refl;
    ended_is = refl;
    hands_are = refl;
    strikes_are = refl;
    comes = λ i a b. push_came i a b swap v.stacks;
    stacks_as_many = push_length swap v.stacks;
    spare_same = refl;
  }

-- a set bit gives a port
pub listed : (w n b c i : ℕ) → b ≤ i → i < b + c → bit_at n i ≡ 1 → is_in (40 * w + i) (ports_from w n b c) ≡ true
unfolding ports_from
listed w n b zero i low high is = absurd (omega (arith, low, high))
listed w n b (suc c) i low high is = dite (ℕ_discrete i b)
    (λ z. subst (λ o. is_in (40 * w + i) (cond (nat_eq (bit_at n o) 1) ((40 * w + o) ∷ ports_from w n (o + 1) c) (ports_from w n (o + 1) c)) ≡ true) z (rw (is, eqb_here (40 * w + i)) refl))
    (λ ne. further (nat_eq (bit_at n b) 1) (listed w n (b + 1) c i (omega (arith, low, ne)) (omega (arith, high)) is))
  where
    further : (t : Bool) → is_in (40 * w + i) (ports_from w n (b + 1) c) ≡ true → is_in (40 * w + i) (cond t ((40 * w + b) ∷ ports_from w n (b + 1) c) (ports_from w n (b + 1) c)) ≡ true
    further false h = h
    further true h = here (eqb (40 * w + i) (40 * w + b)) h
      where
        here : (o : Bool) → is_in (40 * w + i) (ports_from w n (b + 1) c) ≡ true → cond o true (is_in (40 * w + i) (ports_from w n (b + 1) c)) ≡ true
        here true h = refl
        here false h = h

-- a port comes from a set bit
abbrev pub FromBit : ℕ → ℕ → ℕ → ℕ → ℕ → Type 0
FromBit w n q low high = (i : ℕ) × (low ≤ i) × (i < high) × (q ≡ 40 * w + i) × (bit_at n i ≡ 1)

pub from_bit : (w n b c q : ℕ) → is_in q (ports_from w n b c) ≡ true → FromBit w n q b (b + c)
unfolding ports_from
from_bit w n b zero q is = absurd cc
from_bit w n b (suc c) q is = by (from_bit w n (b + 1) c q) (nat_eq (bit_at n b) 1) refl is
  where
    later : FromBit w n q (b + 1) (b + 1 + c) → FromBit w n q b (b + suc c)
    later z = let low = z.1 in let high = z.2 in (z.0, omega (arith, low), omega (arith, high), z.3, z.4)

    by : (is_in q (ports_from w n (b + 1) c) ≡ true → FromBit w n q (b + 1) (b + 1 + c)) → (t : Bool) → nat_eq (bit_at n b) 1 ≡ t → is_in q (cond t ((40 * w + b) ∷ ports_from w n (b + 1) c) (ports_from w n (b + 1) c)) ≡ true → FromBit w n q b (b + suc c)
    by old false f h = later (old h)
    by old true f h = ⊎_elim (λ z. (b, omega arith, omega arith, z.1, Rattle.std.proofs.lemmas.Bool.eqb-true (bit_at n b) 1 f)) (λ z. later (old (sym (ap (λ (o : Bool). cond o true (is_in q (ports_from w n (b + 1) c))) z.0) ∙ h))) (eqb_tells q (40 * w + b))

-- where two tests together pass no more items than a third, so it is in all stacks
two_below : (p q o : Item → Bool) → ((x : Item) → hit (p x) + hit (q x) ≤ hit (o x)) → (ss : List Stack) → in_stacks p ss + in_stacks q ss ≤ in_stacks o ss
two_below p q o h [] = omega arith
two_below p q o h (u ∷ ss) = let a = of u.items in let b = two_below p q o h ss in omega (arith, a, b)
  where
    of : (xs : List Item) → count p xs + count q xs ≤ count o xs
    of [] = omega arith
    of (x ∷ xs) = let a = bump_is (p x) (count p xs) in let b = bump_is (q x) (count q xs) in let d = bump_is (o x) (count o xs) in let f = h x in let g = of xs in omega (arith, a, b, d, f, g)

-- closings that come to two words of a life are closings of it
pub close_two : (k l a b : ℕ) → a ≢ b → (v : View) → items (is_close_from k l a) v + items (is_close_from k l b) v ≤ held Compute k l v
close_two k l a b ne v = two_below (is_close_from k l a) (is_close_from k l b) (carries Compute k l) here v.stacks
  where
    by : (f g : Bool) (x : ℕ) → hit (f && (g && eqb a x)) + hit (f && (g && eqb b x)) ≤ hit (f && g)
    by true true x = ⊎_elim (λ y. ⊎_elim (λ z. absurd (ne (y.1 ∙ sym z.1))) (λ z. let f = ap hit z.0 in let g = hit_le (eqb a x) in omega (arith, f, g)) (eqb_tells b x)) (λ y. let f = ap hit y.0 in let g = hit_le (eqb b x) in omega (arith, f, g)) (eqb_tells a x)
    by true false x = omega arith
    by false g x = omega arith

    here : (x : Item) → hit (is_close_from k l a x) + hit (is_close_from k l b x) ≤ hit (carries Compute k l x)
    here (item.Close m d x) = by (eqb k m) (eqb l d) x
    here x = omega arith
