-- Slots, records and views of a shared table, as lists.
use Rattle.std.proofs.Common.{◌≡◌, ℕ, zero, suc, ◌<◌, ◌&&◌, Bool, true, false, cond, List, [], ◌∷◌, length, get_or, set, arith, sym, ap, refl, ◌∙◌, Option, Some, None}
use Rattle.std.proofs.lemmas.List.{length-map, map-set}
use mathlib.Core.Option.{some, none, some-injective, some-ne-none}
use mathlib.Core.Option.{Option as Home}
use lib.ListN.{get_elem?}
use Rattle.core_state.specs.Graph.{Setting}
use Rattle.core_state.specs.Counts.{bump, count, noted, total_of}
use Rattle.core_state.specs.declared.block.BlockCells.{BlockCells}
use Rattle.core_state.specs.declared.views.View.{View}
use Rattle.graph_model.specs.declared.record.Record.{Record}
use Rattle.core_state.proofs.Seats.View.{count_both}
use Rattle.core_steps.specs.Table.{Plain, IsSound, Keeps, is_kept, is_root_replaced, stored}
use Rattle.task_table.specs.Kept.{at_rest, blocks_in, replaced_of, store_of, stores_of, those}

pub at_or : {A : Type 0} (l : List A) (i : ℕ) (a d : A) → get_elem? l i ≡ some a → get_or l i d ≡ a
at_or [] i a d e = absurd (some-ne-none a (sym e))
at_or (x ∷ xs) zero a d e = some-injective x a e
at_or (x ∷ xs) (suc i) a d e = at_or xs i a d e

pub low_of : {A : Type 0} (l : List A) (i : ℕ) (a : A) → get_elem? l i ≡ some a → i < length l
low_of [] i a e = absurd (some-ne-none a (sym e))
low_of (x ∷ xs) zero a e = omega arith
low_of (x ∷ xs) (suc i) a e = let b = low_of xs i a e in omega (arith, b)

-- one slot more or less at home
pub blocks_set : (hs : List (Home (Option BlockCells))) (b : ℕ) (y : Home (Option BlockCells)) → blocks_in (set hs b y) ≡ set (blocks_in hs) b (at_rest y)
blocks_set hs b y = map-set at_rest hs b y

-- a block that is at home lies in its slot
pub home_there : (hs : List (Home (Option BlockCells))) (b : ℕ) (x : BlockCells) → get_or (blocks_in hs) b None ≡ Some x → get_elem? hs b ≡ some (some (Some x))
home_there [] b x e = absurd cc
home_there (none ∷ hs) zero x e = absurd cc
home_there (some y ∷ hs) zero x e = ap (λ (z : Option BlockCells). some (some z)) e
home_there (h ∷ hs) (suc b) x e = home_there hs b x e

count_those : (p q : Record → Bool) (xs : List Record) → count p (those q xs) ≡ count (λ x. p x && q x) xs
count_those p q [] = refl
count_those p q (x ∷ xs) = by (q x) (p x) refl (count_those p q xs)
  where
    by : (b c : Bool) → p x ≡ c → count p (those q xs) ≡ count (λ y. p y && q y) xs → count p (cond b (x ∷ those q xs) (those q xs)) ≡ bump (p x && b) (count (λ y. p y && q y) xs)
    by true true is ih = (λ j. bump (is j) (ih j)) ∙ sym (ap (λ (o : Bool). bump (o && true) (count (λ y. p y && q y) xs)) is)
    by true false is ih = (λ j. bump (is j) (ih j)) ∙ sym (ap (λ (o : Bool). bump (o && true) (count (λ y. p y && q y) xs)) is)
    by false true is ih = ih ∙ sym (ap (λ (o : Bool). bump (o && false) (count (λ y. p y && q y) xs)) is)
    by false false is ih = ih ∙ sym (ap (λ (o : Bool). bump (o && false) (count (λ y. p y && q y) xs)) is)

stored_all : (root : ℕ) (p : Record → Bool) (vs : List View) → stored p (stores_of root vs) ≡ total_of vs (noted (λ x. p x && is_kept root x))
unfolding total_of
stored_all root p [] = refl
stored_all root p (v ∷ vs) = let a = count_those p (is_kept root) v.records in let b = stored_all root p vs in omega (arith, a, b)

replaced_all : (root : ℕ) (p : Record → Bool) (vs : List View) → count p (replaced_of root vs) ≡ total_of vs (noted (λ x. p x && is_root_replaced root x))
unfolding total_of
replaced_all root p [] = refl
replaced_all root p (v ∷ vs) = let a = count_those p (is_root_replaced root) v.records in let b = replaced_all root p vs in let c = count_both p (those (is_root_replaced root) v.records) (replaced_of root vs) in omega (arith, a, b, c)

-- the records of all views are those that their seats keep, and the root's replacements
pub all_keep : (root : ℕ) (vs : List View) → Keeps root vs (stores_of root vs) (replaced_of root vs)
all_keep root vs = record { others = λ p. stored_all root p vs; replaced = λ p. replaced_all root p vs }

pub stores_many : (root : ℕ) (vs : List View) → length (stores_of root vs) ≡ length vs
stores_many root vs = length-map vs (store_of root)

-- what holds of a plain table holds of it with its records in the stores of the views
pub restored : (e : Setting) (p : Plain) → IsSound e p → IsSound e (record p { stores = stores_of e.graph.root p.views; root_replaced = replaced_of e.graph.root p.views; replaced_room = 0 })
restored e p s = record {
  setting = s.setting;
  shape_is = s.shape_is;
  root_is = s.root_is;
  fits = s.fits;
  holds = s.holds;
  passed = s.passed;
  prevented = s.prevented;
  keeps = all_keep e.graph.root p.views;
  workers = stores_many e.graph.root p.views;
  at_home = s.at_home;
  housed = s.housed;
  root_last = s.root_last;
  room_is = s.room_is;
}
