-- A step of a worker, as a change of words by name and of sums over the views.
use Rattle.std.proofs.Common.{◌≡◌, ℕ, zero, suc, ◌+◌, ◌<◌, true, nat_lt, List, [], ◌∷◌, length, get_or, set, arith, sym, ap, refl, ◌∙◌}
use mathlib.Core.Option.{some, some-injective}
use lib.ListN.{get_elem?}
use Rattle.std.proofs.lemmas.Bool.{ltb-true}
use Rattle.std.proofs.lemmas.Nat.{mul-add-lt}
use Rattle.atomic_table.specs.Table.{keeps}
use Rattle.core_state.specs.Words.{Shape, Spot, pending, stop, key, descriptor, notify, recovery, posted, turn, place_of, inside, width}
use Rattle.core_state.specs.Counts.{count}
use Rattle.core_state.specs.Change.{Change, block_of, held_by, held_in, or_else, cells_or}
use Rattle.core_state.specs.Views.{blank}
use Rattle.core_state.specs.declared.block.BlockCells.{BlockCells}
use Rattle.core_state.specs.declared.job.Job.TheVariants.{Explore, Compute}
use Rattle.core_state.specs.declared.views.View.{View}
use Rattle.core_state.proofs.Base.Counting.{both}
use Rattle.core_state.proofs.Base.Tables.{stepped_change}
use Rattle.core_steps.specs.Table.{Plain, Stored, no_store, view_at, home_at, core_by, word_count}

pub elem_at : {A : Type 0} (l : List A) (i : ℕ) (d : A) → i < length l → get_elem? l i ≡ some (get_or l i d)
elem_at [] i d h = absurd (omega (arith, h))
elem_at (x ∷ xs) zero d h = refl
elem_at (x ∷ xs) (suc i) d h = elem_at xs i d (omega (arith, h))

pub all_count : {A : Type 0} (xs : List A) → count (λ _. true) xs ≡ length xs
all_count [] = refl
all_count (x ∷ xs) = let a = all_count xs in omega (arith, a)

-- each word of the table lies in the list
pub low_place : (h : Shape) (a : Spot) → inside h a ≡ true → place_of h a < word_count h
low_place h pending e = omega arith
low_place h stop e = omega arith
low_place h (key r) e = let a = mul-add-lt r (width h) 0 h.rows (ltb-true r h.rows e) (omega arith) in omega (arith, a)
low_place h (descriptor r) e = let a = mul-add-lt r (width h) 1 h.rows (ltb-true r h.rows e) (omega arith) in omega (arith, a)
low_place h (notify r w) e = let q = both (nat_lt r h.rows) (nat_lt w h.notify_words) e in let b = ltb-true w h.notify_words q.1 in let a = mul-add-lt r (width h) (w + 2) h.rows (ltb-true r h.rows q.0) (omega (arith, b)) in omega (arith, a)
low_place h (recovery r) e = let a = mul-add-lt r (width h) (h.notify_words + 2) h.rows (ltb-true r h.rows e) (omega arith) in omega (arith, a)
low_place h (posted Explore r) e = let a = mul-add-lt r (width h) (h.notify_words + 3) h.rows (ltb-true r h.rows e) (omega arith) in omega (arith, a)
low_place h (posted Compute r) e = let a = mul-add-lt r (width h) (h.notify_words + 4) h.rows (ltb-true r h.rows e) (omega arith) in omega (arith, a)
low_place h (turn b) e = let a = ltb-true b h.blocks e in omega (arith, a)

-- the block comes into no hand
pub held_same : (b : ℕ) (vs : List View) (i : ℕ) (v w : View) → get_elem? vs i ≡ some v → held_in b w.hands ≡ held_in b v.hands → held_by b (set vs i w) ≡ held_by b vs
held_same b [] i v w e h = refl
held_same b (x ∷ xs) zero v w e h = ap (λ y. or_else y (held_by b xs)) (h ∙ ap (λ (u : View). held_in b u.hands) (sym (some-injective x v e)))
held_same b (x ∷ xs) (suc i) v w e h = ap (or_else (held_in b x.hands)) (held_same b xs i v w e h)

pub blocks_same : (home : ℕ → BlockCells) (b : ℕ) (vs : List View) (i : ℕ) (v w : View) → get_elem? vs i ≡ some v → w.hands ≡ v.hands → block_of home (set vs i w) b ≡ block_of home vs b
unfolding block_of
blocks_same home b vs i v w e h = ap (cells_or (home b)) (held_same b vs i v w e (ap (held_in b) h))

pub change_of : (p : Plain) (i : ℕ) (a : Spot) (m : ℕ) (w : View) → i < length p.views → length p.words ≡ word_count p.shape → inside p.shape a ≡ true → w.hands ≡ (view_at p i).hands
    → Change (core_by p.shape p.words p.blocks p.views) (core_by p.shape (set p.words (place_of p.shape a) m) p.blocks (set p.views i w)) a (get_or p.words (place_of p.shape a) 0) m (view_at p i) w
change_of p i a m w low fits here hands = stepped_change {S = BlockCells} p.shape (λ _. home_at p.blocks) (record { words = p.words; homes = []; views = p.views }) a m i (view_at p i) w [] keeps here
    (let x = low_place p.shape a here in omega (arith, x, fits)) (elem_at p.views i blank low)
    (λ b ne. blocks_same (home_at p.blocks) b p.views i (view_at p i) w (elem_at p.views i blank low) hands)

pub any_store : (ss : List Stored) (i : ℕ) (d : Stored) → i < length ss → get_or ss i d ≡ get_or ss i no_store
any_store [] i d l = absurd (omega (arith, l))
any_store (x ∷ xs) zero d l = refl
any_store (x ∷ xs) (suc i) d l = any_store xs i d (omega (arith, l))
