-- What registering a port leaves of the views, put so that every part can be read off.
use Rattle.std.proofs.Common.{◌≡◌, ◌⊎◌, ℕ, ◌+◌, ◌/◌, ◌≤◌, Bool, true, false, cond, ◌&&◌, eqb, List, ◌∷◌, ⊎_elim, inl, inr, arith, ap, refl, ◌∙◌}
use Rattle.std.proofs.lemmas.Bool.Decides.{eqb_tells}
use Rattle.core_state.specs.Counts.{hit, bump, count, items, ended, begun, came, stack_count, spare}
use Rattle.core_state.specs.Tests.{two, explores, is_seen_life, is_seen_mark}
use Rattle.core_state.specs.Laws.{IsPlace}
use Rattle.core_state.specs.declared.answers.Registered.{Registered}
use Rattle.core_state.specs.declared.answers.Registered.TheVariants as registered
use Rattle.std.proofs.lemmas.Bool.{lt-ltb}
use Rattle.core_state.specs.Graph.{Setting, Graph}
use Rattle.core_state.specs.Words.{life_of, mark_of}
use Rattle.core_state.specs.Cover.{covers_edge}
use Rattle.core_state.specs.Effects.{moved}
use Rattle.graph_model.specs.declared.record.Cause.TheVariants as cause
use Rattle.core_state.specs.declared.job.Job.{Job}
use Rattle.core_state.specs.declared.views.Item.{Item}
use Rattle.core_state.specs.declared.views.Item.TheVariants as item
use Rattle.core_state.specs.declared.views.Known.{Known}
use Rattle.core_state.specs.declared.views.Known.TheVariants as known
use Rattle.core_state.specs.declared.views.Word.{Word}
use Rattle.core_state.specs.declared.views.Word.TheVariants as word
use Rattle.core_state.specs.declared.views.View.{View}
use Rattle.core_state.specs.Words.{closed_bit}
use Rattle.core_state.specs.Effects.{seen}
use Rattle.core_state.proofs.Base.Counting.{two_tells}
use Rattle.core_state.proofs.Base.ItemMoves.{Still, Falling, moved_still, moved_falls, moved_begun, moved_ends_up}

abbrev pub is_waiting : Registered → Bool
is_waiting (registered.Waiting m) = true
is_waiting (registered.Closed m) = false
is_waiting (registered.Struck m) = false

abbrev pub is_marked : Registered → Bool
is_marked (registered.Waiting m) = false
is_marked (registered.Closed m) = false
is_marked (registered.Struck m) = true

-- what an answer says of the bits of the word n
abbrev pub IsRegistered : ℕ → Registered → Type 0
IsRegistered n (registered.Waiting m) = (m ≡ life_of n) × (mark_of n ≡ 0) × (closed_bit n ≡ 0)
IsRegistered n (registered.Closed m) = (m ≡ life_of n) × (mark_of n ≡ 0) × (closed_bit n ≡ 1)
IsRegistered n (registered.Struck m) = (m ≡ life_of n) × (mark_of n ≡ 1)

-- the fact that an answer brings beside the life and the mark
abbrev pub learned : ℕ → ℕ → Registered → List Known → List Known
learned p q (registered.Waiting m) xs = known.Waits p m q ∷ xs
learned p q (registered.Closed m) xs = known.Closed p m (q / 40) ∷ xs
learned p q (registered.Struck m) xs = xs

-- the item at work goes on only where the port waits
abbrev pub stirred : Graph → Registered → View → View
stirred g (registered.Waiting m) v = moved g v
stirred g (registered.Closed m) v = v
stirred g (registered.Struck m) v = v

-- what registering port q of p, where the word was n, leaves of the view; the port serves place j of k
pub record RegisterView (e : Setting) (k j p q n : ℕ) (x : Registered) (v w : View) : Type 0 where
  pub added : (y : Item → Bool) → items y w ≡ items y (stirred e.graph x v) + hit (is_marked x && y (item.Suspect p (life_of n) cause.Notify false))
  pub records_are : w.records ≡ v.records
  pub known_is : w.known ≡ learned p q x (seen p (word.Notify (q / 40)) n v.known)
  pub ended_is : w.ended ≡ (stirred e.graph x v).ended
  pub hands_are : w.hands ≡ v.hands
  pub strikes_are : w.strikes ≡ v.strikes
  pub comes : (i : Job) (m l : ℕ) → came i m l w ≡ came i m l v
  pub stacks_as_many : stack_count w ≡ stack_count v
  pub spare_same : spare w ≡ spare v
  pub selfs : (a b i : ℕ) → IsPlace e.graph a i → (items (explores a b i) v ≤ items (explores a b i) (stirred e.graph x v)) ⊎ ((a ≡ k) × (i ≡ j) × (is_waiting x ≡ true))
  pub edges : (a b : ℕ) → (covers_edge a b v ≤ covers_edge a b (stirred e.graph x v)) ⊎ (((e.graph.succ a b).task ≡ k) × ((e.graph.succ a b).place ≡ j) × (is_waiting x ≡ true))
  pub ends : (i : Job) (a b : ℕ) → (ended i a b (stirred e.graph x v) ≡ ended i a b v) ⊎ (a ≡ k)

pub stirred_still : (y : Item → Bool) → Still y → (g : Graph) (x : Registered) (v : View) → items y (stirred g x v) ≡ items y v
stirred_still y still g (registered.Waiting m) v = moved_still y still g v
stirred_still y still g (registered.Closed m) v = refl
stirred_still y still g (registered.Struck m) v = refl

pub stirred_falls : (y : Item → Bool) → Falling y → (g : Graph) (x : Registered) (v : View) → items y (stirred g x v) ≤ items y v
stirred_falls y falls g (registered.Waiting m) v = moved_falls y falls g v
stirred_falls y falls g (registered.Closed m) v = omega arith
stirred_falls y falls g (registered.Struck m) v = omega arith

pub stirred_begun : (i : Job) (a m : ℕ) (g : Graph) (x : Registered) (v : View) → begun i a m (stirred g x v) ≡ begun i a m v
stirred_begun i a m g (registered.Waiting d) v = moved_begun i a m g v
stirred_begun i a m g (registered.Closed d) v = refl
stirred_begun i a m g (registered.Struck d) v = refl

pub stirred_ends_up : (i : Job) (a m : ℕ) (g : Graph) (x : Registered) (v : View) → ended i a m v ≤ ended i a m (stirred g x v)
stirred_ends_up i a m g (registered.Waiting d) v = moved_ends_up i a m g v
stirred_ends_up i a m g (registered.Closed d) v = omega arith
stirred_ends_up i a m g (registered.Struck d) v = omega arith

pub learned_other : (f : Known → Bool) (p q : ℕ) (x : Registered) (xs : List Known) → ((l : ℕ) → f (known.Waits p l q) ≡ false) → ((l : ℕ) → f (known.Closed p l (q / 40)) ≡ false) → count f (learned p q x xs) ≡ count f xs
learned_other f p q (registered.Waiting m) xs waiting closed = ap (λ (b : Bool). bump b (count f xs)) (waiting m)
learned_other f p q (registered.Closed m) xs waiting closed = ap (λ (b : Bool). bump b (count f xs)) (closed m)
learned_other f p q (registered.Struck m) xs waiting closed = refl

nothing : (b : Bool) → (b && false) ≡ false
nothing true = refl
nothing false = refl

-- a life that was seen was seen before, or is that of the notify word
pub seen_life_at : (m l : ℕ) (y : Word) (k d n : ℕ) (xs : List Known) → (count (is_seen_life m y l) (seen k (word.Notify d) n xs) ≡ count (is_seen_life m y l) xs) ⊎ ((m ≡ k) × (l ≡ life_of n) × (y ≡ word.Notify d))
seen_life_at m l (word.Notify z) k d n xs = ⊎_elim (λ f. ⊎_elim (λ g. inr (f.1, f.2, ap word.Notify g.1)) (λ g. inl (by (eqb (mark_of n) 1) (ap (λ (b : Bool). two m l k (life_of n) && b) g.0 ∙ nothing (two m l k (life_of n))))) (eqb_tells z d)) (λ f. inl (by (eqb (mark_of n) 1) (ap (λ (b : Bool). b && eqb z d) f))) (other (two_tells m l k (life_of n)))
  where
    other : {A B : Type 0} → A ⊎ B → B ⊎ A
    other (inl a) = inr a
    other (inr b) = inl b

    by : (b : Bool) → (two m l k (life_of n) && eqb z d) ≡ false → count (is_seen_life m (word.Notify z) l) (cond b (known.Mark k (word.Notify d) (life_of n) ∷ known.Life k (word.Notify d) (life_of n) ∷ xs) (known.Life k (word.Notify d) (life_of n) ∷ xs)) ≡ count (is_seen_life m (word.Notify z) l) xs
    by true f = ap (λ (b : Bool). bump b (count (is_seen_life m (word.Notify z) l) xs)) f
    by false f = ap (λ (b : Bool). bump b (count (is_seen_life m (word.Notify z) l) xs)) f
seen_life_at m l word.Descriptor k d n xs = inl (by (eqb (mark_of n) 1))
  where
    by : (b : Bool) → count (is_seen_life m word.Descriptor l) (cond b (known.Mark k (word.Notify d) (life_of n) ∷ known.Life k (word.Notify d) (life_of n) ∷ xs) (known.Life k (word.Notify d) (life_of n) ∷ xs)) ≡ count (is_seen_life m word.Descriptor l) xs
    by true = ap (λ (b : Bool). bump b (count (is_seen_life m word.Descriptor l) xs)) (nothing (two m l k (life_of n)))
    by false = ap (λ (b : Bool). bump b (count (is_seen_life m word.Descriptor l) xs)) (nothing (two m l k (life_of n)))
seen_life_at m l word.Recovery k d n xs = inl (by (eqb (mark_of n) 1))
  where
    by : (b : Bool) → count (is_seen_life m word.Recovery l) (cond b (known.Mark k (word.Notify d) (life_of n) ∷ known.Life k (word.Notify d) (life_of n) ∷ xs) (known.Life k (word.Notify d) (life_of n) ∷ xs)) ≡ count (is_seen_life m word.Recovery l) xs
    by true = ap (λ (b : Bool). bump b (count (is_seen_life m word.Recovery l) xs)) (nothing (two m l k (life_of n)))
    by false = ap (λ (b : Bool). bump b (count (is_seen_life m word.Recovery l) xs)) (nothing (two m l k (life_of n)))

pub seen_mark_at : (m l : ℕ) (y : Word) (k d n : ℕ) (xs : List Known) → (count (is_seen_mark m y l) (seen k (word.Notify d) n xs) ≡ count (is_seen_mark m y l) xs) ⊎ ((m ≡ k) × (l ≡ life_of n) × (y ≡ word.Notify d) × (mark_of n ≡ 1))
seen_mark_at m l (word.Notify z) k d n xs = by (eqb (mark_of n) 1) refl
  where
    by : (b : Bool) → eqb (mark_of n) 1 ≡ b → (count (is_seen_mark m (word.Notify z) l) (cond b (known.Mark k (word.Notify d) (life_of n) ∷ known.Life k (word.Notify d) (life_of n) ∷ xs) (known.Life k (word.Notify d) (life_of n) ∷ xs)) ≡ count (is_seen_mark m (word.Notify z) l) xs) ⊎ ((m ≡ k) × (l ≡ life_of n) × (word.Notify z ≡ word.Notify d) × (mark_of n ≡ 1))
    by true f = ⊎_elim (λ g. inl (ap (λ (b : Bool). bump (b && eqb z d) (count (is_seen_mark m (word.Notify z) l) xs)) g))
        (λ g. ⊎_elim (λ h. inr (g.1, g.2, ap word.Notify h.1, Rattle.std.proofs.lemmas.Bool.eqb-true (mark_of n) 1 f)) (λ h. inl (ap (λ (b : Bool). bump b (count (is_seen_mark m (word.Notify z) l) xs)) (ap (λ (b : Bool). two m l k (life_of n) && b) h.0 ∙ nothing (two m l k (life_of n))))) (eqb_tells z d)) (two_tells m l k (life_of n))
    by false f = inl refl
seen_mark_at m l word.Descriptor k d n xs = inl (by (eqb (mark_of n) 1))
  where
    by : (b : Bool) → count (is_seen_mark m word.Descriptor l) (cond b (known.Mark k (word.Notify d) (life_of n) ∷ known.Life k (word.Notify d) (life_of n) ∷ xs) (known.Life k (word.Notify d) (life_of n) ∷ xs)) ≡ count (is_seen_mark m word.Descriptor l) xs
    by true = ap (λ (b : Bool). bump b (count (is_seen_mark m word.Descriptor l) xs)) (nothing (two m l k (life_of n)))
    by false = refl
seen_mark_at m l word.Recovery k d n xs = inl (by (eqb (mark_of n) 1))
  where
    by : (b : Bool) → count (is_seen_mark m word.Recovery l) (cond b (known.Mark k (word.Notify d) (life_of n) ∷ known.Life k (word.Notify d) (life_of n) ∷ xs) (known.Life k (word.Notify d) (life_of n) ∷ xs)) ≡ count (is_seen_mark m word.Recovery l) xs
    by true = ap (λ (b : Bool). bump b (count (is_seen_mark m word.Recovery l) xs)) (nothing (two m l k (life_of n)))
    by false = refl
