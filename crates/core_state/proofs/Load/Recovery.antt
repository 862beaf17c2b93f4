-- A load that only tells a life keeps every part, and so does a load of the recovery word.
use Rattle.std.proofs.Common.{◌≡◌, ◌≢◌, ◌⊎◌, ℕ, ◌+◌, ◌≤◌, Bool, true, false, cond, ◌&&◌, nat_lt, eqb, List, [], ◌∷◌, ⊎_elim, inl, inr, arith, sym, ap, refl, ◌∙◌, subst}
use mathlib.Core.Logic.{dite}
use native.Mathlib.Decide.{ℕ_discrete, dec_lt}
use Rattle.std.proofs.lemmas.Bool.Decides.{eqb_tells}
use Rattle.std.proofs.lemmas.Bool.{le-ltb}
use Rattle.core_state.specs.Graph.{Setting}
use Rattle.core_state.specs.Words.{Spot, descriptor, notify, recovery, turn, spot_of, life_of, life_shown, mark_shown, standing_life}
use Rattle.core_state.specs.Counts.{hit, bump, count, items, in_stacks, knows_row, owed}
use Rattle.core_state.specs.Tests.{two, is_at, is_suspect, is_seen_life, is_seen_mark, explores, is_renew_of, came_with, is_made_any}
use Rattle.core_state.specs.Change.{Core, Change}
use Rattle.core_state.specs.Rows.{HasKey}
use Rattle.core_state.specs.Invariant.{Invariant}
use Rattle.core_state.specs.Guards.{KnowsRow}
use Rattle.core_state.specs.Effects.{seen, saw, after_load_recovery, cleared_items}
use Rattle.core_state.specs.Views.{on_top}
use Rattle.graph_model.specs.declared.record.Cause.{Cause}
use Rattle.core_state.specs.declared.views.Item.{Item}
use Rattle.core_state.specs.declared.views.Item.TheVariants as item
use Rattle.core_state.specs.declared.views.Known.{Known}
use Rattle.core_state.specs.declared.views.Stack.{Stack}
use Rattle.core_state.specs.declared.views.Word.{Word}
use Rattle.core_state.specs.declared.views.Word.TheVariants as word
use Rattle.core_state.specs.declared.views.View.{View}
use Rattle.core_state.proofs.Base.Counting.{bump_is, two_tells}
use Rattle.core_state.proofs.Credit.JobView.{and_false}
use Rattle.core_state.proofs.Load.SameWord.{LookView, look_keeps}
use Rattle.core_state.proofs.Base.Tops.{push_came, push_length}
use Rattle.core_state.proofs.Spend.View.{seen_other, seen_life, seen_mark}
use Rattle.core_state.proofs.Register.View.{seen_life_at, seen_mark_at}
use Rattle.core_state.proofs.Replace.Suspects.{descriptor_high}

-- a life that was seen was seen before, or is that of the word
pub life_any : (y : Word) (m l : ℕ) (z : Word) (k n : ℕ) (xs : List Known) → (count (is_seen_life m z l) (seen k y n xs) ≡ count (is_seen_life m z l) xs) ⊎ ((m ≡ k) × (l ≡ life_shown y n) × (z ≡ y))
life_any word.Descriptor m l z k n xs = seen_life m l z k n xs
life_any (word.Notify d) m l z k n xs = seen_life_at m l z k d n xs
life_any word.Recovery m l word.Recovery k n xs = ⊎_elim (λ q. inl (ap (λ (b : Bool). bump (b && true) (count (is_seen_life m word.Recovery l) xs)) q)) (λ q. inr (q.1, q.2, refl)) (two_tells m l k (standing_life n))
life_any word.Recovery m l word.Descriptor k n xs = inl (ap (λ (b : Bool). bump b (count (is_seen_life m word.Descriptor l) xs)) (and_false (two m l k (standing_life n))))
life_any word.Recovery m l (word.Notify d) k n xs = inl (ap (λ (b : Bool). bump b (count (is_seen_life m (word.Notify d) l) xs)) (and_false (two m l k (standing_life n))))

pub mark_any : (y : Word) (m l : ℕ) (z : Word) (k n : ℕ) (xs : List Known) → (count (is_seen_mark m z l) (seen k y n xs) ≡ count (is_seen_mark m z l) xs) ⊎ ((m ≡ k) × (l ≡ life_shown y n) × (z ≡ y) × (mark_shown y n ≡ 1))
mark_any word.Descriptor m l z k n xs = seen_mark m l z k n xs
mark_any (word.Notify d) m l z k n xs = seen_mark_at m l z k d n xs
mark_any word.Recovery m l z k n xs = inl refl

-- a view that only learns what the word showed
saw_view : (e : Setting) (s : Core) (r k n : ℕ) (y : Word) (v : View) → LookView e s r k n y v (saw k y n v)
saw_view e s r k n y v = record {
  records_are = refl;
  hands_are = refl;
  strikes_are = refl;
  stacks_as_many = refl;
  spare_same = refl;
  comes = λ i m l. refl;
  life_known = λ m l z. life_any y m l z k n v.known;
  mark_known = λ m l z. mark_any y m l z k n v.known;
  closed_known = λ m l d some. inl (seen_other (Rattle.core_state.specs.Tests.is_seen_closed m l d) k y n v.known (λ l. refl) (λ l. refl));
  row_known = λ m d. seen_other (Rattle.core_state.specs.Tests.is_row m d) k y n v.known (λ l. refl) (λ l. refl);
  waits_known = λ m l q. seen_other (Rattle.core_state.specs.Tests.waits_at m l q) k y n v.known (λ l. refl) (λ l. refl);
  idle_known = seen_other Rattle.core_state.specs.Tests.is_idle k y n v.known (λ l. refl) (λ l. refl);
  stopped_known = seen_other Rattle.core_state.specs.Tests.is_stopped k y n v.known (λ l. refl) (λ l. refl);
  stops_known = seen_other Rattle.core_state.specs.Tests.is_stops k y n v.known (λ l. refl) (λ l. refl);
  owes = λ i m l. refl;
  begins = λ i m l. refl;
  ends = λ i m l. inl refl;
  ends_up = λ i m l. omega arith;
  few = omega arith;
  wrong = λ b. omega arith;
  at = λ m. omega arith;
  renews = λ m. refl;
  renew_ats = λ m l d. refl;
  unmade = λ m l. omega arith;
  computes = λ m l. omega arith;
  made = λ m l. omega arith;
  early = refl;
  closes = λ m l. omega arith;
  closes_from = λ m l d. omega arith;
  tells_word = λ m l d. omega arith;
  tells = λ p q. omega arith;
  blames = λ b d. inl (omega arith);
  suspected = λ m l. inl (omega arith);
  root_clear = λ l. omega arith;
  caused = λ m l d. inl (omega arith);
  no_suspect = λ z. omega arith;
  selfs = λ z m l i needs at. omega arith;
  edges = λ z m l i needs less. inl (omega arith);
  working = λ z m has. omega arith;
}

module _ (e : Setting) (s t : Core) (r k n : ℕ) (y : Word) (v w : View) (can : KnowsRow e v r k) (c : Change s t (spot_of r y) n n v w) (inv : Invariant e s) where
  pub row_is : HasKey e s r k
  row_is = inv.keys.known r k (let a = c.within (knows_row r k) in let b = can.row_known in omega (arith, a, b))

  pub at_row : (z m : ℕ) → HasKey e s z m → m ≡ k → z ≡ r
  at_row z m old q = inv.keys.one_row z r k (subst (HasKey e s z) q old) row_is

  -- no word changes
  pub all_words : ((a : Spot) → (a ≡ spot_of r y) ⊎ (a ≢ spot_of r y)) → (a : Spot) → t.word a ≡ s.word a
  all_words tells a = ⊎_elim (λ q. ap t.word q ∙ c.left_is ∙ sym c.found_is ∙ sym (ap s.word q)) (λ ne. c.others a ne) (tells a)

-- the words of a row are told apart by their names
pub same_spot : (r : ℕ) (y : Word) (a : Spot) → (a ≡ spot_of r y) ⊎ (a ≢ spot_of r y)
same_spot r word.Descriptor (descriptor z) = dite (ℕ_discrete z r) (λ q. inl (ap descriptor q)) (λ ne. inr (λ q. ne cc))
same_spot r word.Recovery (recovery z) = dite (ℕ_discrete z r) (λ q. inl (ap recovery q)) (λ ne. inr (λ q. ne cc))
same_spot r (word.Notify d) (notify z x) = dite (ℕ_discrete z r) (λ q. dite (ℕ_discrete x d) (λ p. inl (ap (λ o. notify o x) q ∙ ap (notify r) p)) (λ ne. inr (λ p. ne cc))) (λ ne. inr (λ q. ne cc))
same_spot r word.Descriptor a = inr (λ q. cc)
same_spot r word.Recovery a = inr (λ q. cc)
same_spot r (word.Notify d) a = inr (λ q. cc)

pub no_turn : (r : ℕ) (y : Word) (b : ℕ) → turn b ≢ spot_of r y
no_turn r word.Descriptor b = λ q. cc
no_turn r (word.Notify d) b = λ q. cc
no_turn r word.Recovery b = λ q. cc

module _ (e : Setting) (s t : Core) (r k n : ℕ) (y : Word) (v : View) (can : KnowsRow e v r k) (inv : Invariant e s) where
  -- a load after which no item goes on, and a closing that has to be tried again
  pub keeps_saw : Change s t (spot_of r y) n n v (saw k y n v) → Invariant e t
  keeps_saw c = look_keeps e s t r k n y v (saw k y n v) c (row_is e s t r k n y v (saw k y n v) can c inv) (at_row e s t r k n y v (saw k y n v) can c inv) (saw_view e s r k n y v) (all_words e s t r k n y v (saw k y n v) can c inv (same_spot r y)) (λ b. c.blocks b (no_turn r y b)) inv

-- what a load of the recovery word takes from the items: a suspect whose life has ended
module _ (k n : ℕ) where
  cleared_same : (q : Item → Bool) → ((a l : ℕ) (d : Cause) (b : Bool) → q (item.Suspect a l d b) ≡ false) → (xs : List Item) → count q (cleared_items k n xs) ≡ count q xs
  cleared_same q none [] = refl
  cleared_same q none (item.Suspect a l d b ∷ xs) = by (eqb k a && nat_lt l (standing_life n))
    where
      by : (f : Bool) → count q (cond f xs (item.Suspect a l d b ∷ xs)) ≡ count q (item.Suspect a l d b ∷ xs)
      by true = sym (ap (λ (f : Bool). bump f (count q xs)) (none a l d b))
      by false = refl
  cleared_same q none (item.Explore a l j ∷ xs) = refl
  cleared_same q none (item.Compute a l f h m ∷ xs) = refl
  cleared_same q none (item.Close a l w ∷ xs) = refl
  cleared_same q none (item.Notify a l w ps ∷ xs) = refl
  cleared_same q none (item.Renew a l d ∷ xs) = refl
  cleared_same q none (item.Reenter a l ps ∷ xs) = refl
  cleared_same q none (item.Owe a j l ∷ xs) = refl

  cleared_falls : (q : Item → Bool) (xs : List Item) → count q (cleared_items k n xs) ≤ count q xs
  cleared_falls q [] = omega arith
  cleared_falls q (item.Suspect a l d b ∷ xs) = by (eqb k a && nat_lt l (standing_life n))
    where
      by : (f : Bool) → count q (cond f xs (item.Suspect a l d b ∷ xs)) ≤ count q (item.Suspect a l d b ∷ xs)
      by true = let z = bump_is (q (item.Suspect a l d b)) (count q xs) in omega (arith, z)
      by false = omega arith
  cleared_falls q (item.Explore a l j ∷ xs) = omega arith
  cleared_falls q (item.Compute a l f h m ∷ xs) = omega arith
  cleared_falls q (item.Close a l w ∷ xs) = omega arith
  cleared_falls q (item.Notify a l w ps ∷ xs) = omega arith
  cleared_falls q (item.Renew a l d ∷ xs) = omega arith
  cleared_falls q (item.Reenter a l ps ∷ xs) = omega arith
  cleared_falls q (item.Owe a j l ∷ xs) = omega arith

  -- a suspect of a life that stands stays
  cleared_kept : (m l : ℕ) → (m ≡ k → standing_life n ≤ l) → (xs : List Item) → count (is_suspect m l) (cleared_items k n xs) ≡ count (is_suspect m l) xs
  cleared_kept m l stands [] = refl
  cleared_kept m l stands (item.Suspect a d f b ∷ xs) = ⊎_elim
      (λ here. dite (dec_lt d (standing_life n))
      (λ low. let not_it : two m l a d ≡ false = ⊎_elim (λ q. q) (λ q. absurd (let x = stands (q.1 ∙ sym here.1) in let z = q.2 in omega (arith, x, z, low))) (two_tells m l a d) in gone (eqb k a && nat_lt d (standing_life n)) not_it)
      (λ high. ap (λ (o : Bool). count (is_suspect m l) (cond (eqb k a && o) xs (item.Suspect a d f b ∷ xs))) (le-ltb d (standing_life n) (omega (arith, high))) ∙ ap (λ (o : Bool). count (is_suspect m l) (cond o xs (item.Suspect a d f b ∷ xs))) (and_false (eqb k a))))
      (λ other. ap (λ (o : Bool). count (is_suspect m l) (cond (o && nat_lt d (standing_life n)) xs (item.Suspect a d f b ∷ xs))) other.0) (eqb_tells k a)
    where
      gone : (o : Bool) → two m l a d ≡ false → count (is_suspect m l) (cond o xs (item.Suspect a d f b ∷ xs)) ≡ count (is_suspect m l) (item.Suspect a d f b ∷ xs)
      gone true q = sym (ap (λ (o : Bool). bump o (count (is_suspect m l) xs)) q)
      gone false q = refl
  cleared_kept m l stands (item.Explore a d j ∷ xs) = refl
  cleared_kept m l stands (item.Compute a d f h o ∷ xs) = refl
  cleared_kept m l stands (item.Close a d w ∷ xs) = refl
  cleared_kept m l stands (item.Notify a d w ps ∷ xs) = refl
  cleared_kept m l stands (item.Renew a d f ∷ xs) = refl
  cleared_kept m l stands (item.Reenter a d ps ∷ xs) = refl
  cleared_kept m l stands (item.Owe a j d ∷ xs) = refl

  pub on_same : (q : Item → Bool) → ((a l : ℕ) (d : Cause) (b : Bool) → q (item.Suspect a l d b) ≡ false) → (ss : List Stack) → in_stacks q (on_top (cleared_items k n) ss) ≡ in_stacks q ss
  on_same q none [] = refl
  on_same q none (u ∷ ss) = ap (λ x. x + in_stacks q ss) (cleared_same q none u.items)

  on_falls : (q : Item → Bool) (ss : List Stack) → in_stacks q (on_top (cleared_items k n) ss) ≤ in_stacks q ss
  on_falls q [] = omega arith
  on_falls q (u ∷ ss) = let a = cleared_falls q u.items in omega (arith, a)

  on_kept : (m l : ℕ) → (m ≡ k → standing_life n ≤ l) → (ss : List Stack) → in_stacks (is_suspect m l) (on_top (cleared_items k n) ss) ≡ in_stacks (is_suspect m l) ss
  on_kept m l stands [] = refl
  on_kept m l stands (u ∷ ss) = ap (λ x. x + in_stacks (is_suspect m l) ss) (cleared_kept m l stands u.items)

pub suspect_carries : (i : Rattle.core_state.specs.declared.job.Job.Job) (m l a b : ℕ) (d : Cause) (f : Bool) → Rattle.core_state.specs.Tests.carries i m l (item.Suspect a b d f) ≡ false
suspect_carries Rattle.core_state.specs.declared.job.Job.TheVariants.Explore m l a b d f = refl
suspect_carries Rattle.core_state.specs.declared.job.Job.TheVariants.Compute m l a b d f = refl

module _ (e : Setting) (s t : Core) (r k n : ℕ) (v : View) (can : KnowsRow e v r k) (c : Change s t (recovery r) n n v (after_load_recovery k n v)) (inv : Invariant e s) where
  my_row : HasKey e s r k
  my_row = row_is e s t r k n word.Recovery v (after_load_recovery k n v) can c inv

  here : (z m : ℕ) → HasKey e s z m → m ≡ k → z ≡ r
  here = at_row e s t r k n word.Recovery v (after_load_recovery k n v) can c inv

  none : (q : Item → Bool) → ((a l : ℕ) (d : Cause) (b : Bool) → q (item.Suspect a l d b) ≡ false) → items q (after_load_recovery k n v) ≡ items q v
  none q f = on_same k n q f v.stacks

  less : (q : Item → Bool) → items q (after_load_recovery k n v) ≤ items q v
  less q = on_falls k n q v.stacks

  cleared_view : LookView e s r k n word.Recovery v (after_load_recovery k n v)
  cleared_view = record {
    records_are = refl;
    hands_are = refl;
    strikes_are = refl;
    stacks_as_many = push_length (cleared_items k n) v.stacks;
    spare_same = refl;
    comes = λ i m l. push_came i m l (cleared_items k n) v.stacks;
    life_known = λ m l z. life_any word.Recovery m l z k n v.known;
    mark_known = λ m l z. mark_any word.Recovery m l z k n v.known;
    closed_known = λ m l d some. inl (seen_other (Rattle.core_state.specs.Tests.is_seen_closed m l d) k word.Recovery n v.known (λ l. refl) (λ l. refl));
    row_known = λ m d. seen_other (Rattle.core_state.specs.Tests.is_row m d) k word.Recovery n v.known (λ l. refl) (λ l. refl);
    waits_known = λ m l q. seen_other (Rattle.core_state.specs.Tests.waits_at m l q) k word.Recovery n v.known (λ l. refl) (λ l. refl);
    idle_known = seen_other Rattle.core_state.specs.Tests.is_idle k word.Recovery n v.known (λ l. refl) (λ l. refl);
    stopped_known = seen_other Rattle.core_state.specs.Tests.is_stopped k word.Recovery n v.known (λ l. refl) (λ l. refl);
    stops_known = seen_other Rattle.core_state.specs.Tests.is_stops k word.Recovery n v.known (λ l. refl) (λ l. refl);
    owes = λ i m l. none (Rattle.core_state.specs.Tests.is_owed i m l) (λ a b d f. refl);
    begins = λ i m l. ap (λ x. x + Rattle.core_state.specs.Counts.ended i m l v) (none (Rattle.core_state.specs.Tests.carries i m l) (λ a b d f. suspect_carries i m l a b d f));
    ends = λ i m l. inl refl;
    ends_up = λ i m l. omega arith;
    few = let a = none Rattle.core_state.specs.Tests.is_owe (λ a b d f. refl) in omega (arith, a);
    wrong = λ b. let a = ap (λ x. cond (eqb x 0) (Rattle.core_state.specs.Counts.in_hand b v) 0) (none (is_made_any e.graph.root) (λ a b d f. refl)) in omega (arith, a);
    at = λ m. let a = less (is_at m) in omega (arith, a);
    renews = λ m. none (Rattle.core_state.specs.Tests.is_renew m) (λ a b d f. refl);
    renew_ats = λ m l d. none (Rattle.core_state.specs.Tests.is_renew_at m l d) (λ a b d f. refl);
    unmade = λ m l. less (Rattle.core_state.specs.Tests.is_unmade m l);
    computes = λ m l. less (Rattle.core_state.specs.Tests.is_compute m l);
    made = λ m l. less (Rattle.core_state.specs.Tests.is_made m l);
    early = none (Rattle.core_state.specs.Work.is_made_early e.graph) (λ a b d f. refl);
    closes = λ m l. less (Rattle.core_state.specs.Tests.is_close m l);
    closes_from = λ m l d. less (Rattle.core_state.specs.Tests.is_close_from m l d);
    tells_word = λ m l d. less (Rattle.core_state.specs.Tests.is_notify m l d);
    tells = λ p q. less (Rattle.core_state.specs.Tests.notifies p q);
    blames = λ b d. inl (less (Rattle.core_state.specs.Tests.suspects_block b d));
    suspected = λ m l. inl (less (is_suspect m l));
    root_clear = λ l. less (is_suspect e.graph.root l);
    caused = λ m l d. inl (less (Rattle.core_state.specs.Tests.is_suspect_for m l d));
    no_suspect = λ z. less Rattle.core_state.specs.Tests.is_any_suspect;
    selfs = λ z m l i needs at. let a = none (explores m l i) (λ a b d f. refl) in let b = none (Rattle.core_state.specs.Tests.is_owed Rattle.core_state.specs.declared.job.Job.TheVariants.Explore m l) (λ a b d f. refl) in
        let d = on_kept k n m l (λ q. let f = ap (λ o. standing_life (s.word (recovery o))) (here z m needs.has_key q) in let g = ap standing_life c.found_is in let h = needs.life_stands in omega (arith, f, g, h)) v.stacks in omega (arith, a, b, d);
    edges = λ z m l i needs low. inl (let a = none (Rattle.core_state.specs.Tests.notifies (e.graph.pred m i).task (e.graph.pred m i).port) (λ a b d f. refl) in let b = none (Rattle.core_state.specs.Tests.is_renew (e.graph.pred m i).task) (λ a b d f. refl) in
        let d = none (Rattle.core_state.specs.Tests.reenters (e.graph.pred m i).task (e.graph.pred m i).port) (λ a b d f. refl) in omega (arith, a, b, d));
    working = λ z m old. let l : ℕ = life_of (s.word (descriptor z)) in let a = none (Rattle.core_state.specs.Tests.is_owed Rattle.core_state.specs.declared.job.Job.TheVariants.Compute m l) (λ a b d f. refl) in
        let b = none (Rattle.core_state.specs.Tests.carries Rattle.core_state.specs.declared.job.Job.TheVariants.Compute m l) (λ a b d f. refl) in let f = none (is_renew_of m l) (λ a b d f. refl) in
        let d = on_kept k n m l (λ q. let f = ap (λ o. life_of (s.word (descriptor o))) (here z m old q) in let g = descriptor_high e s r k (s.word (recovery r)) (inv.lives.each r k my_row) in let h = ap standing_life c.found_is in omega (arith, f, g, h)) v.stacks in omega (arith, a, b, d, f);
  }

  pub keeps_load_recovery : Invariant e t
  keeps_load_recovery = look_keeps e s t r k n word.Recovery v (after_load_recovery k n v) c my_row here cleared_view (all_words e s t r k n word.Recovery v (after_load_recovery k n v) can c inv (same_spot r word.Recovery)) (λ b. c.blocks b (no_turn r word.Recovery b)) inv
