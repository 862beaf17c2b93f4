-- The changes that events make in a stack are changes of its topmost item alone.
use Rattle.std.proofs.Common.{◌≡◌, ℕ, ◌+◌, Bool, true, false, cond, eqb, nat_lt, ◌&&◌, List, [], ◌∷◌, ◌++◌, refl}
use Rattle.core_state.specs.Graph.{Graph, Plan}
use Rattle.core_state.specs.Words.{life_of, mark_of, closed_bit, standing_life}
use Rattle.std.specs.Int.{bit_at}
use Rattle.core_state.specs.Views.{none_left, without_first}
use Rattle.core_state.specs.Effects.{moved_items, skipped_items, others_before, distance, loaded_items, blamed_items, cleared_items, read_items, is_good, found_in}
use Rattle.graph_model.specs.declared.record.Cause.TheVariants as cause
use Rattle.graph_model.specs.declared.plan.Point.TheVariants as point
use Rattle.core_state.specs.declared.block.BlockCells.{BlockCells}
use Rattle.core_state.specs.declared.views.Known.{Known}
use Rattle.core_state.specs.declared.views.Item.{Item}
use Rattle.core_state.specs.declared.views.Item.TheVariants as item
use Rattle.core_state.proofs.Lines.Top.{Local}

cond_more : (b : Bool) (xs ys zs : List Item) → cond b (xs ++ zs) (ys ++ zs) ≡ cond b xs ys ++ zs
cond_more true xs ys zs = refl
cond_more false xs ys zs = refl

pub moved_local : (g : Graph) → Local (moved_items g)
moved_local g = record { one = one }
  where
    one : (x : Item) (xs : List Item) → moved_items g (x ∷ xs) ≡ moved_items g (x ∷ []) ++ xs
    one (item.Explore k l j) xs = cond_more (nat_lt j (g.places k)) (item.Explore k l (j + 1) ∷ []) [] xs
    one (item.Notify k l w []) xs = refl
    one (item.Notify k l w (q ∷ qs)) xs = refl
    one (item.Reenter k l []) xs = refl
    one (item.Reenter k l (q ∷ qs)) xs = refl
    one (item.Compute k l a b c) xs = refl
    one (item.Close k l w) xs = refl
    one (item.Suspect k l c w) xs = refl
    one (item.Renew k l d) xs = refl
    one (item.Owe k j l) xs = refl

pub skipped_local : (g : Graph) (rows r : ℕ) (known : List Known) → Local (skipped_items g rows r known)
skipped_local g rows r known = record { one = one }
  where
    one : (x : Item) (xs : List Item) → skipped_items g rows r known (x ∷ xs) ≡ skipped_items g rows r known (x ∷ []) ++ xs
    one (item.Reenter k l []) xs = refl
    one (item.Reenter k l (q ∷ qs)) xs = cond_more (others_before rows (g.succ k q).task known (distance rows (g.succ k q).task r)) (item.Reenter k l qs ∷ []) (item.Reenter k l (q ∷ qs) ∷ []) xs
    one (item.Explore k l j) xs = refl
    one (item.Notify k l w qs) xs = refl
    one (item.Compute k l a b c) xs = refl
    one (item.Close k l w) xs = refl
    one (item.Suspect k l c w) xs = refl
    one (item.Renew k l d) xs = refl
    one (item.Owe k j l) xs = refl

pub loaded_local : (g : Graph) (p : Plan) (made : List ℕ) (k n : ℕ) → Local (loaded_items g p made k n)
loaded_local g p made k n = record { one = one }
  where
    by : (a b c : Bool) (x y z : Item) (xs : List Item) → cond a (cond b (x ∷ xs) (cond c (y ∷ xs) xs)) (z ∷ xs) ≡ cond a (cond b (x ∷ []) (cond c (y ∷ []) [])) (z ∷ []) ++ xs
    by true true c x y z xs = refl
    by true false true x y z xs = refl
    by true false false x y z xs = refl
    by false b c x y z xs = refl

    again : (a b c : Bool) (x y z : Item) (xs : List Item) → cond a (cond b (x ∷ y ∷ xs) (cond c (y ∷ xs) (z ∷ xs))) (z ∷ xs) ≡ cond a (cond b (x ∷ y ∷ []) (cond c (y ∷ []) (z ∷ []))) (z ∷ []) ++ xs
    again true true c x y z xs = refl
    again true false true x y z xs = refl
    again true false false x y z xs = refl
    again false b c x y z xs = refl

    one : (x : Item) (xs : List Item) → loaded_items g p made k n (x ∷ xs) ≡ loaded_items g p made k n (x ∷ []) ++ xs
    one (item.Compute d l true r m) xs = refl
    one (item.Compute d l false r m) xs = by (eqb k d && none_left g p point.Ready d l made) (eqb (mark_of n) 1) (eqb (life_of n) l) (item.Suspect d (life_of n) cause.Descriptor false) (item.Compute d l true r m) (item.Compute d l false r m) xs
    one (item.Reenter d l []) xs = refl
    one (item.Reenter d l (q ∷ qs)) xs = again (eqb k (g.succ d q).task) (eqb (mark_of n) 1) (eqb (bit_at n (g.succ d q).place) 1) (item.Suspect k (life_of n) cause.Descriptor false) (item.Reenter d l qs) (item.Reenter d l (q ∷ qs)) xs
    one (item.Explore d l j) xs = refl
    one (item.Notify d l w qs) xs = refl
    one (item.Close d l w) xs = refl
    one (item.Suspect d l c w) xs = refl
    one (item.Renew d l m) xs = refl
    one (item.Owe d j l) xs = refl

pub blamed_local : (g : Graph) (k n : ℕ) → Local (blamed_items g k n)
blamed_local g k n = record { one = one }
  where
    by : (a b c : Bool) (x y z : Item) (xs : List Item) → cond a (cond b (x ∷ z ∷ xs) (cond c (y ∷ z ∷ xs) (z ∷ xs))) (z ∷ xs) ≡ cond a (cond b (x ∷ z ∷ []) (cond c (y ∷ z ∷ []) (z ∷ []))) (z ∷ []) ++ xs
    by true true c x y z xs = refl
    by true false true x y z xs = refl
    by true false false x y z xs = refl
    by false b c x y z xs = refl

    one : (x : Item) (xs : List Item) → blamed_items g k n (x ∷ xs) ≡ blamed_items g k n (x ∷ []) ++ xs
    one (item.Suspect d l cause.Descriptor w) xs = refl
    one (item.Suspect d l cause.Notify w) xs = refl
    one (item.Suspect d l (cause.Block b v f) w) xs = by (eqb k (g.writer b v) && cond (eqb k d) false true) (eqb (mark_of n) 1) (eqb (closed_bit n) 1) (item.Suspect k (life_of n) cause.Notify false) (item.Suspect k (life_of n) (cause.Block b v f) true) (item.Suspect d l (cause.Block b v f) w) xs
    one (item.Explore d l j) xs = refl
    one (item.Notify d l w qs) xs = refl
    one (item.Compute d l a b c) xs = refl
    one (item.Reenter d l qs) xs = refl
    one (item.Close d l w) xs = refl
    one (item.Renew d l m) xs = refl
    one (item.Owe d j l) xs = refl

pub cleared_local : (k n : ℕ) → Local (cleared_items k n)
cleared_local k n = record { one = one }
  where
    one : (x : Item) (xs : List Item) → cleared_items k n (x ∷ xs) ≡ cleared_items k n (x ∷ []) ++ xs
    one (item.Suspect d l c w) xs = cond_more (eqb k d && nat_lt l (standing_life n)) [] (item.Suspect d l c w ∷ []) xs
    one (item.Explore d l j) xs = refl
    one (item.Notify d l w qs) xs = refl
    one (item.Compute d l a b c) xs = refl
    one (item.Reenter d l qs) xs = refl
    one (item.Close d l w) xs = refl
    one (item.Renew d l m) xs = refl
    one (item.Owe d j l) xs = refl

pub read_local : (g : Graph) (b : ℕ) (was : BlockCells) → Local (read_items g b was)
read_local g b was = record { one = one }
  where
    by : (a c : Bool) (x y z : Item) (xs : List Item) → cond a (cond c (x ∷ xs) (y ∷ xs)) (z ∷ xs) ≡ cond a (cond c (x ∷ []) (y ∷ [])) (z ∷ []) ++ xs
    by true true x y z xs = refl
    by true false x y z xs = refl
    by false c x y z xs = refl

    one : (x : Item) (xs : List Item) → read_items g b was (x ∷ xs) ≡ read_items g b was (x ∷ []) ++ xs
    one (item.Compute k l false r m) xs = refl
    one (item.Compute k l true r m) xs = let d = (g.pred k r).task in by (nat_lt r (g.inputs k) && eqb b (g.block d)) (is_good (g.version d) was) (item.Compute k l true (r + 1) m) (item.Suspect k l (cause.Block b (g.version d) (found_in (g.version d) was)) false) (item.Compute k l true r m) xs
    one (item.Suspect k l c w) xs = refl
    one (item.Explore k l j) xs = refl
    one (item.Notify k l w qs) xs = refl
    one (item.Reenter k l qs) xs = refl
    one (item.Close k l w) xs = refl
    one (item.Renew k l m) xs = refl
    one (item.Owe k j l) xs = refl

-- the topmost item makes way for these
pub onto_local : (ys : List Item) → Local (λ xs. ys ++ without_first xs)
onto_local ys = record { one = λ x xs. one ys xs }
  where
    one : (ys xs : List Item) → ys ++ xs ≡ (ys ++ []) ++ xs
    one [] xs = refl
    one (y ∷ ys) xs = Rattle.std.proofs.Common.ap (λ z. y ∷ z) (one ys xs)
