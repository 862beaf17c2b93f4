-- What spending a place leaves of the words and the views, put so that every part can be read off.
use Rattle.std.proofs.Common.{◌≡◌, ◌⊎◌, ℕ, ◌+◌, ◌≤◌, Bool, true, false, cond, ◌&&◌, eqb, List, ◌∷◌, ⊎_elim, inl, inr, arith, ap, refl, ◌∙◌}
use Rattle.core_state.specs.Graph.{Setting}
use Rattle.core_state.specs.Words.{life_of, mark_of, life_shown, mark_shown}
use Rattle.core_state.specs.Counts.{hit, count, items, owed, held, ended, begun, came, noted, facts, knows_row, waits, in_hand, in_wrong_hand, struck_by, struck_idly, struck_upto, stack_count, spare, too_many}
use Rattle.core_state.specs.Tests.{two, explores, is_seen_life, is_seen_mark}
use Rattle.core_state.specs.Laws.{IsPlace}
use Rattle.core_state.specs.Cover.{covers_edge}
use Rattle.core_state.specs.Views.{key_of}
use Rattle.core_state.specs.Effects.{seen, moved}
use Rattle.core_state.specs.declared.answers.Told.{Told}
use Rattle.core_state.specs.declared.answers.Told.TheVariants as told
use Rattle.graph_model.specs.declared.record.Cause.TheVariants as cause
use Rattle.graph_model.specs.declared.record.Record.{Record}
use Rattle.graph_model.specs.declared.record.Record.TheVariants as record_of
use Rattle.core_state.specs.declared.job.Job.{Job}
use Rattle.core_state.specs.declared.job.Job.TheVariants.{Compute}
use Rattle.core_state.specs.declared.views.Item.{Item}
use Rattle.core_state.specs.declared.views.Item.TheVariants as item
use Rattle.core_state.specs.declared.views.Known.{Known}
use Rattle.core_state.specs.declared.views.Known.TheVariants as known
use Rattle.core_state.specs.declared.views.Word.{Word}
use Rattle.core_state.specs.declared.views.Word.TheVariants as word
use Rattle.core_state.specs.declared.views.View.{View}
use Rattle.core_state.proofs.Base.Counting.{two_tells}

-- whether an answer tells of a new spending, of the last one, or of a mark
abbrev pub is_fresh : Told → Bool
is_fresh (told.Spent l) = true
is_fresh (told.Last l) = true
is_fresh (told.Already l) = false
is_fresh (told.Struck l) = false

abbrev pub is_last : Told → Bool
is_last (told.Spent l) = false
is_last (told.Last l) = true
is_last (told.Already l) = false
is_last (told.Struck l) = false

abbrev pub is_marked : Told → Bool
is_marked (told.Spent l) = false
is_marked (told.Last l) = false
is_marked (told.Already l) = false
is_marked (told.Struck l) = true

-- what spending place j of k, where the descriptor was n, leaves of the view
pub record SpendView (e : Setting) (k j n : ℕ) (x : Told) (v w : View) : Type 0 where
  pub added : (p : Item → Bool) → items p w ≡ items p (moved e.graph v) + hit (is_last x && p (item.Owe k Compute (life_of n))) + hit (is_marked x && p (item.Suspect k (life_of n) cause.Descriptor false))
  pub noted_more : (p : Record → Bool) → noted p w ≡ noted p v + hit (is_fresh x && p (record_of.Spent (key_of k) (life_of n) j))
  pub known_is : w.known ≡ seen k word.Descriptor n v.known
  pub ended_is : w.ended ≡ (moved e.graph v).ended
  pub hands_are : w.hands ≡ v.hands
  pub strikes_are : w.strikes ≡ v.strikes
  pub comes : (i : Job) (m l : ℕ) → came i m l w ≡ came i m l v
  pub stacks_as_many : stack_count w ≡ stack_count v
  pub spare_same : spare w ≡ spare v
  -- from the place that is spent
  pub selfs : (a b i : ℕ) → IsPlace e.graph a i → (items (explores a b i) v ≤ items (explores a b i) (moved e.graph v)) ⊎ ((a ≡ k) × (i ≡ j))
  pub edges : (p q : ℕ) → (covers_edge p q v ≤ covers_edge p q (moved e.graph v)) ⊎ (((e.graph.succ p q).task ≡ k) × ((e.graph.succ p q).place ≡ j))
  pub ends : (i : Job) (a b : ℕ) → (ended i a b (moved e.graph v) ≡ ended i a b v) ⊎ (a ≡ k)

pub and_fails : (a b : Bool) → b ≡ false → hit (a && b) ≡ 0
and_fails true b z = ap hit z
and_fails false b z = refl

pub and_low : (a b : Bool) → hit (a && b) ≤ hit b
and_low true b = omega arith
and_low false b = omega arith

-- one more fact is of this life of this word
pub seen_other : (p : Known → Bool) (k : ℕ) (y : Word) (n : ℕ) (xs : List Known) → ((l : ℕ) → p (known.Life k y l) ≡ false) → ((l : ℕ) → p (known.Mark k y l) ≡ false) → count p (seen k y n xs) ≡ count p xs
seen_other p k y n xs life mark = by (eqb (mark_shown y n) 1)
  where
    by : (b : Bool) → count p (cond b (known.Mark k y (life_shown y n) ∷ known.Life k y (life_shown y n) ∷ xs) (known.Life k y (life_shown y n) ∷ xs)) ≡ count p xs
    by true = ap (λ (b : Bool). Rattle.core_state.specs.Counts.bump b (count p (known.Life k y (life_shown y n) ∷ xs))) (mark (life_shown y n)) ∙ ap (λ (b : Bool). Rattle.core_state.specs.Counts.bump b (count p xs)) (life (life_shown y n))
    by false = ap (λ (b : Bool). Rattle.core_state.specs.Counts.bump b (count p xs)) (life (life_shown y n))

-- a life of the key that was seen was seen before, or is that of the descriptor
pub seen_life : (m l : ℕ) (y : Word) (k n : ℕ) (xs : List Known) → (count (is_seen_life m y l) (seen k word.Descriptor n xs) ≡ count (is_seen_life m y l) xs) ⊎ ((m ≡ k) × (l ≡ life_of n) × (y ≡ word.Descriptor))
seen_life m l word.Descriptor k n xs = ⊎_elim (λ z. inl (by (eqb (mark_of n) 1) z)) (λ z. inr (z.1, z.2, refl)) (two_tells m l k (life_of n))
  where
    by : (b : Bool) → two m l k (life_of n) ≡ false → count (is_seen_life m word.Descriptor l) (cond b (known.Mark k word.Descriptor (life_of n) ∷ known.Life k word.Descriptor (life_of n) ∷ xs) (known.Life k word.Descriptor (life_of n) ∷ xs)) ≡ count (is_seen_life m word.Descriptor l) xs
    by true z = ap (λ (b : Bool). Rattle.core_state.specs.Counts.bump (b && true) (count (is_seen_life m word.Descriptor l) xs)) z
    by false z = ap (λ (b : Bool). Rattle.core_state.specs.Counts.bump (b && true) (count (is_seen_life m word.Descriptor l) xs)) z
seen_life m l (word.Notify u) k n xs = inl (by (eqb (mark_of n) 1))
  where
    nothing : (b : Bool) → (b && false) ≡ false
    nothing true = refl
    nothing false = refl

    by : (b : Bool) → count (is_seen_life m (word.Notify u) l) (cond b (known.Mark k word.Descriptor (life_of n) ∷ known.Life k word.Descriptor (life_of n) ∷ xs) (known.Life k word.Descriptor (life_of n) ∷ xs)) ≡ count (is_seen_life m (word.Notify u) l) xs
    by true = ap (λ (b : Bool). Rattle.core_state.specs.Counts.bump b (count (is_seen_life m (word.Notify u) l) xs)) (nothing (two m l k (life_of n)))
    by false = ap (λ (b : Bool). Rattle.core_state.specs.Counts.bump b (count (is_seen_life m (word.Notify u) l) xs)) (nothing (two m l k (life_of n)))
seen_life m l word.Recovery k n xs = inl (by (eqb (mark_of n) 1))
  where
    nothing : (b : Bool) → (b && false) ≡ false
    nothing true = refl
    nothing false = refl

    by : (b : Bool) → count (is_seen_life m word.Recovery l) (cond b (known.Mark k word.Descriptor (life_of n) ∷ known.Life k word.Descriptor (life_of n) ∷ xs) (known.Life k word.Descriptor (life_of n) ∷ xs)) ≡ count (is_seen_life m word.Recovery l) xs
    by true = ap (λ (b : Bool). Rattle.core_state.specs.Counts.bump b (count (is_seen_life m word.Recovery l) xs)) (nothing (two m l k (life_of n)))
    by false = ap (λ (b : Bool). Rattle.core_state.specs.Counts.bump b (count (is_seen_life m word.Recovery l) xs)) (nothing (two m l k (life_of n)))

pub seen_mark : (m l : ℕ) (y : Word) (k n : ℕ) (xs : List Known) → (count (is_seen_mark m y l) (seen k word.Descriptor n xs) ≡ count (is_seen_mark m y l) xs) ⊎ ((m ≡ k) × (l ≡ life_of n) × (y ≡ word.Descriptor) × (mark_of n ≡ 1))
seen_mark m l word.Descriptor k n xs = by (eqb (mark_of n) 1) refl
  where
    by : (b : Bool) → eqb (mark_of n) 1 ≡ b → (count (is_seen_mark m word.Descriptor l) (cond b (known.Mark k word.Descriptor (life_of n) ∷ known.Life k word.Descriptor (life_of n) ∷ xs) (known.Life k word.Descriptor (life_of n) ∷ xs)) ≡ count (is_seen_mark m word.Descriptor l) xs) ⊎ ((m ≡ k) × (l ≡ life_of n) × (word.Descriptor ≡ word.Descriptor) × (mark_of n ≡ 1))
    by true q = ⊎_elim (λ z. inl (ap (λ (b : Bool). Rattle.core_state.specs.Counts.bump (b && true) (count (is_seen_mark m word.Descriptor l) xs)) z)) (λ z. inr (z.1, z.2, refl, Rattle.std.proofs.lemmas.Bool.eqb-true (mark_of n) 1 q)) (two_tells m l k (life_of n))
    by false q = inl refl
seen_mark m l (word.Notify u) k n xs = inl (by (eqb (mark_of n) 1))
  where
    nothing : (b : Bool) → (b && false) ≡ false
    nothing true = refl
    nothing false = refl

    by : (b : Bool) → count (is_seen_mark m (word.Notify u) l) (cond b (known.Mark k word.Descriptor (life_of n) ∷ known.Life k word.Descriptor (life_of n) ∷ xs) (known.Life k word.Descriptor (life_of n) ∷ xs)) ≡ count (is_seen_mark m (word.Notify u) l) xs
    by true = ap (λ (b : Bool). Rattle.core_state.specs.Counts.bump b (count (is_seen_mark m (word.Notify u) l) xs)) (nothing (two m l k (life_of n)))
    by false = refl
seen_mark m l word.Recovery k n xs = inl (by (eqb (mark_of n) 1))
  where
    nothing : (b : Bool) → (b && false) ≡ false
    nothing true = refl
    nothing false = refl

    by : (b : Bool) → count (is_seen_mark m word.Recovery l) (cond b (known.Mark k word.Descriptor (life_of n) ∷ known.Life k word.Descriptor (life_of n) ∷ xs) (known.Life k word.Descriptor (life_of n) ∷ xs)) ≡ count (is_seen_mark m word.Recovery l) xs
    by true = ap (λ (b : Bool). Rattle.core_state.specs.Counts.bump b (count (is_seen_mark m word.Recovery l) xs)) (nothing (two m l k (life_of n)))
    by false = refl
