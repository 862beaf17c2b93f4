-- A step on one word of a row that changes, of its view, no more than the renewal at work: what the one renewal of a key says, and the parts that such a step hardly touches.
use Rattle.std.proofs.Common.{◌≡◌, ◌⊎◌, ℕ, ◌+◌, ◌≤◌, ◌<◌, Bool, true, false, cond, ◌&&◌, eqb, ne_eqb, List, ⊎_elim, inl, inr, arith, sym, ap, refl, ◌∙◌, subst}
use mathlib.Core.Logic.{dite}
use native.Mathlib.Decide.{ℕ_discrete}
use Rattle.core_state.specs.Graph.{Setting}
use Rattle.core_state.specs.Words.{Spot, pending, stop, key, descriptor, notify, recovery, posted, turn, spot_of, life_shown, mark_shown, standing_life, replacing}
use Rattle.core_state.specs.Counts.{hit, items, in_stacks, owed, held, ended, begun, came, noted, facts, in_hand, in_wrong_hand, struck_by, struck_idly, struck_upto, stack_count, spare, too_many}
use Rattle.core_state.specs.Tests.{three, is_at, notifies, suspects_block, is_owe, carries, is_owed, is_made_any, is_unmade, is_compute, is_made, is_close, is_close_from, is_notify, is_suspect, is_suspect_for, is_renew, is_renew_at, is_row, waits_at, job_of, is_created, is_computed, is_written, is_closed, is_replaced, is_replaced_for, is_struck_upto}
use Rattle.core_state.specs.Change.{Core, Change, many}
use Rattle.core_state.specs.Rows.{HasKey, Keys, Empty, Replacing, Facts}
use Rattle.core_state.specs.Work.{Computings, Credits, RootWork, is_made_early}
use Rattle.core_state.specs.Blocks.{Blocks}
use Rattle.core_state.specs.Records.{Causes, Strikes}
use Rattle.core_state.specs.Invariant.{Invariant}
use Rattle.core_state.specs.Guards.{AtWork}
use Rattle.core_state.specs.Views.{on_top, change_top, without_first}
use Rattle.graph_model.specs.declared.record.Record.{Record}
use Rattle.core_state.specs.declared.job.Job.{Job}
use Rattle.core_state.specs.declared.job.Job.TheVariants.{Explore, Compute}
use Rattle.core_state.specs.declared.views.Item.{Item}
use Rattle.core_state.specs.declared.views.Item.TheVariants as item
use Rattle.core_state.specs.declared.views.Known.{Known}
use Rattle.core_state.specs.declared.views.Word.{Word}
use Rattle.core_state.specs.declared.views.Word.TheVariants as word
use Rattle.core_state.specs.declared.views.View.{View}
use Rattle.core_state.proofs.Base.Counting.{eqb_here, three_else, both}
use Rattle.core_state.proofs.Row.View.{fewer_items}
use Rattle.core_state.proofs.Base.Frame.{SameKeys, SameRecords, SamePosted, SameWaits, had, keys_stay, frame_blocks, posted_same}
use Rattle.core_state.proofs.Credit.JobView.{popped_items, same_key}
use Rattle.core_state.proofs.Replace.LaterLife.{LaterShown, later_facts, landed_descriptor, landed_notify}
use Rattle.core_state.proofs.Base.Tops.{push_came, push_length}
use Rattle.core_state.proofs.Load.Recovery.{same_spot}
use Rattle.core_state.proofs.Base.WeakFrame.{wide_computings, wide_root, wide_causes, strikes_left}

-- a word of a row that shows a life
abbrev is_shown : Spot → Bool
is_shown (descriptor r) = true
is_shown (notify r w) = true
is_shown (recovery r) = true
is_shown _ = false

shown_spot : (r : ℕ) (w : Word) → is_shown (spot_of r w) ≡ true
shown_spot r word.Descriptor = refl
shown_spot r (word.Notify w) = refl
shown_spot r word.Recovery = refl

-- such a word is of one row
spot_parts : (z r : ℕ) (x y : Word) → spot_of z x ≡ spot_of r y → (z ≡ r) × (x ≡ y)
spot_parts z r word.Descriptor word.Descriptor q = (let a : z ≡ r = cc in a, refl)
spot_parts z r (word.Notify x) (word.Notify y) q = (let a : z ≡ r = cc in a, let b : x ≡ y = cc in ap (λ o. word.Notify o) b)
spot_parts z r word.Recovery word.Recovery q = (let a : z ≡ r = cc in a, refl)
spot_parts z r word.Descriptor (word.Notify y) q = absurd cc
spot_parts z r word.Descriptor word.Recovery q = absurd cc
spot_parts z r (word.Notify x) word.Descriptor q = absurd cc
spot_parts z r (word.Notify x) word.Recovery q = absurd cc
spot_parts z r word.Recovery word.Descriptor q = absurd cc
spot_parts z r word.Recovery (word.Notify y) q = absurd cc

-- what the renewal at work says of its key: it is the one renewal of it, of the life that is being replaced, and has done as many words as were renewed
pub record OneRenewal (e : Setting) (s : Core) (r k l done : ℕ) : Type 0 where
  pub replacing_now : replacing (s.word (recovery r)) ≡ 1
  pub life_is : standing_life (s.word (recovery r)) ≡ l
  pub stage : Replacing e s r k (standing_life (s.word (recovery r)))
  pub done_is : stage.done ≡ done
  pub once : s.total (items (is_renew k)) ≡ 1
  pub at_only : (a b : ℕ) → s.total (items (is_renew_at k a b)) ≡ hit (three k a b k l done)

module _ (e : Setting) (s t : Core) (at : Spot) (r k l done n left : ℕ) (v u : View) (c : Change s t at n left v u) (has : HasKey e s r k) (at_work : AtWork v (item.Renew k l done)) (inv : Invariant e s) where
  here : items (is_renew k) v ≡ in_stacks (is_renew k) (on_top without_first v.stacks) + 1
  here = let a = popped_items (is_renew k) v.stacks at_work.stack (item.Renew k l done) at_work.below at_work.others at_work.stacks_are at_work.items_are in let b = ap hit (eqb_here k) in omega (arith, a, b)

  replacing_now : replacing (s.word (recovery r)) ≡ 1
  replacing_now = let a = (inv.lives.each r k has).renewing in let b = c.within (items (is_renew k)) in let d = here in omega (arith, a, b, d)

  one_renewal : s.total (items (is_renew k)) ≡ 1
  one_renewal = (inv.lives.each r k has).renewing ∙ replacing_now

  -- a test that only renewals of the key pass is passed by this one alone
  only : (p : Item → Bool) → ((x : Item) → p x ≡ true → is_renew k x ≡ true) → s.total (items p) ≡ hit (p (item.Renew k l done))
  only p h = c.alone (items p) (items (is_renew k)) (λ o z. fewer_items (is_renew k) p h o.stacks z) (let a = one_renewal in let b = here in omega (arith, a, b)) ∙
      (let a = popped_items p v.stacks at_work.stack (item.Renew k l done) at_work.below at_work.others at_work.stacks_are at_work.items_are in
      let b = fewer_items (is_renew k) p h (on_top without_first v.stacks) (let x = here in let y = one_renewal in let z = c.within (items (is_renew k)) in omega (arith, x, y, z)) in omega (arith, a, b))

  renew_at_only : (a b : ℕ) → s.total (items (is_renew_at k a b)) ≡ hit (three k a b k l done)
  renew_at_only a b = only (is_renew_at k a b) of
    where
      of : (x : Item) → is_renew_at k a b x ≡ true → is_renew k x ≡ true
      of (item.Renew m i j) z = (both (eqb k m) (eqb a i && eqb b j) z).0
      of x z = absurd cc

  stage : Replacing e s r k (standing_life (s.word (recovery r)))
  stage = (inv.lives.each r k has).being_replaced replacing_now

  -- a renewal of another life or with other words done would be a second one
  both_are : (k ≡ k) × (standing_life (s.word (recovery r)) ≡ l) × (stage.done ≡ done)
  both_are = ⊎_elim (λ z. absurd (let a = renew_at_only (standing_life (s.word (recovery r))) stage.done in let b = stage.one_view in omega (arith, a, b, z))) (λ z. z) (three_else k (standing_life (s.word (recovery r))) stage.done k l done)

  pub the_renewal : OneRenewal e s r k l done
  the_renewal = record { replacing_now = replacing_now; life_is = both_are.1; stage = stage; done_is = both_are.2; once = one_renewal; at_only = renew_at_only }

-- a test that passes neither renewals nor what comes of one is passed by as many items as before
abbrev pub Aside : ℕ → ℕ → ℕ → List ℕ → View → View → Type 0
Aside k l done ports v u = (p : Item → Bool) → p (item.Renew k l done) ≡ false → p (item.Renew k l (done + 1)) ≡ false → p (item.Owe k Explore (l + 1)) ≡ false → p (item.Reenter k (l + 1) ports) ≡ false → items p u ≡ items p v

-- what such a step on word y of row r leaves as it was, and the parts that it keeps
pub record Rest (e : Setting) (s t : Core) (r left : ℕ) (y : Word) (v u : View) : Type 0 where
  pub here_or : (z : ℕ) (x : Word) → ((z ≡ r) × (x ≡ y)) ⊎ ((z ≡ r) × (x ≡ y) → ⊥)
  pub new_word : (z : ℕ) (x : Word) → (z ≡ r) × (x ≡ y) → t.word (spot_of z x) ≡ left
  pub passed : (z : ℕ) (x : Word) → (z ≡ r) × (x ≡ y) → life_shown x (s.word (spot_of z x)) < life_shown x (t.word (spot_of z x))
  pub other_word : (z : ℕ) (x : Word) → ((z ≡ r) × (x ≡ y) → ⊥) → t.word (spot_of z x) ≡ s.word (spot_of z x)
  pub later : LaterShown s t
  pub keys_same : SameKeys s t
  pub posts_same : SamePosted s t
  pub recs : SameRecords s t
  pub waits_same : SameWaits s t
  pub blocks_same : (b : ℕ) → t.block b ≡ s.block b
  pub held_view : (i : Job) (m a : ℕ) → held i m a u ≡ held i m a v
  pub held_same : (i : Job) (m a : ℕ) → t.total (held i m a) ≡ s.total (held i m a)
  pub ended_same : (i : Job) (m a : ℕ) → t.total (ended i m a) ≡ s.total (ended i m a)
  pub begun_same : (i : Job) (m a : ℕ) → t.total (begun i m a) ≡ s.total (begun i m a)
  pub came_same : (i : Job) (m a : ℕ) → t.total (came i m a) ≡ s.total (came i m a)
  pub computes_same : (z m a : ℕ) → t.total (owed Compute m a) + hit (eqb a (t.word (posted Compute z))) ≡ s.total (owed Compute m a) + hit (eqb a (s.word (posted Compute z)))
  pub keys : Keys e t
  pub empty : Empty e t
  pub facts : Facts e t
  pub credits : items is_owe v ≤ items is_owe u → Credits e t
  pub computings : Computings e t
  pub root : RootWork e t
  pub blocks : Blocks e t
  pub causes : Causes e t
  pub strikes : Strikes e t

module _ (e : Setting) (s t : Core) (r k l done n left : ℕ) (y : Word) (ports : List ℕ) (v : View) (f : List Item → List Item) (c : Change s t (spot_of r y) n left v (change_top f v)) (has : HasKey e s r k) (fits : (w : ℕ) → y ≡ word.Notify w → w < e.graph.notify_words k)
    (rises : life_shown y n < life_shown y left) (aside : Aside k l done ports v (change_top f v)) (inv : Invariant e s) where
  same : (g : View → ℕ) → g (change_top f v) ≡ g v → t.total g ≡ s.total g
  same g q = let a = c.sums g in omega (arith, a, q)

  word_stays : (a : Spot) → is_shown a ≡ false → t.word a ≡ s.word a
  word_stays a z = c.others a (λ q. let b : is_shown (spot_of r y) ≡ false = sym (ap is_shown q) ∙ z in absurd (let d : true ≡ false = sym (shown_spot r y) ∙ b in cc))

  other_word : (z : ℕ) (x : Word) → ((z ≡ r) × (x ≡ y) → ⊥) → t.word (spot_of z x) ≡ s.word (spot_of z x)
  other_word z x ne = c.others (spot_of z x) (λ q. ne (spot_parts z r x y q))

  other_row : (z : ℕ) (x : Word) → (z ≡ r → ⊥) → t.word (spot_of z x) ≡ s.word (spot_of z x)
  other_row z x ne = other_word z x (λ q. ne q.0)

  keys_same : SameKeys s t
  keys_same z = word_stays (key z) refl

  posts_same : SamePosted s t
  posts_same i z = word_stays (posted i z) refl

  here_or : (z : ℕ) (x : Word) → ((z ≡ r) × (x ≡ y)) ⊎ ((z ≡ r) × (x ≡ y) → ⊥)
  here_or z x = ⊎_elim (λ q. inl (spot_parts z r x y q)) (λ ne. inr (λ q. ne (ap (λ o. spot_of o x) q.0 ∙ ap (λ (o : Word). spot_of r o) q.1))) (same_spot r y (spot_of z x))

  new_word : (z : ℕ) (x : Word) → (z ≡ r) × (x ≡ y) → t.word (spot_of z x) ≡ left
  new_word z x q = ap (λ o. t.word (spot_of o x)) q.0 ∙ ap (λ (o : Word). t.word (spot_of r o)) q.1 ∙ c.left_is

  old_word : (z : ℕ) (x : Word) → (z ≡ r) × (x ≡ y) → s.word (spot_of z x) ≡ n
  old_word z x q = ap (λ o. s.word (spot_of o x)) q.0 ∙ ap (λ (o : Word). s.word (spot_of r o)) q.1 ∙ c.found_is

  -- the word shows a later life
  passed : (z : ℕ) (x : Word) → (z ≡ r) × (x ≡ y) → life_shown x (s.word (spot_of z x)) < life_shown x (t.word (spot_of z x))
  passed z x q = let a = ap (life_shown x) (old_word z x q) in let b = ap (life_shown x) (new_word z x q) in let d : life_shown x n < life_shown x left = subst (λ (o : Word). life_shown o n < life_shown o left) (sym q.1) rises in omega (arith, a, b, d)

  later : LaterShown s t
  later z x = ⊎_elim (λ q. inr (passed z x q)) (λ ne. inl (ap (life_shown x) (other_word z x ne), ap (mark_shown x) (other_word z x ne))) (here_or z x)

  recs : SameRecords s t
  recs p = same (noted p) refl

  more : (p : Record → Bool) → many s p ≤ many t p
  more p = let a = recs p in omega (arith, a)

  knows : (g : Known → Bool) → t.total (facts g) ≡ s.total (facts g)
  knows g = same (facts g) refl

  waits_same : SameWaits s t
  waits_same a b q = knows (waits_at a b q)

  blocks_same : (b : ℕ) → t.block b ≡ s.block b
  blocks_same b = c.blocks b (λ q. let d : is_shown (turn b) ≡ true = ap is_shown q ∙ shown_spot r y in absurd cc)

  its : (p : Item → Bool) → p (item.Renew k l done) ≡ false → p (item.Renew k l (done + 1)) ≡ false → p (item.Owe k Explore (l + 1)) ≡ false → p (item.Reenter k (l + 1) ports) ≡ false → t.total (items p) ≡ s.total (items p)
  its p a b d h = same (items p) (aside p a b d h)

  fewer : (p : Item → Bool) → t.total (items p) ≡ s.total (items p) → 0 < t.total (items p) → 0 < s.total (items p)
  fewer p q z = omega (arith, q, z)

  held_view : (i : Job) (m a : ℕ) → held i m a (change_top f v) ≡ held i m a v
  held_view Explore m a = aside (carries Explore m a) refl refl refl refl
  held_view Compute m a = aside (carries Compute m a) refl refl refl refl

  held_same : (i : Job) (m a : ℕ) → t.total (held i m a) ≡ s.total (held i m a)
  held_same i m a = same (held i m a) (held_view i m a)

  begun_view : (i : Job) (m a : ℕ) → begun i m a (change_top f v) ≡ begun i m a v
  begun_view i m a = let b = held_view i m a in omega (arith, b)

  begun_same : (i : Job) (m a : ℕ) → t.total (begun i m a) ≡ s.total (begun i m a)
  begun_same i m a = same (begun i m a) (begun_view i m a)

  ended_same : (i : Job) (m a : ℕ) → t.total (ended i m a) ≡ s.total (ended i m a)
  ended_same i m a = same (ended i m a) refl

  came_same : (i : Job) (m a : ℕ) → t.total (came i m a) ≡ s.total (came i m a)
  came_same i m a = same (came i m a) (push_came i m a f v.stacks)

  -- computing is neither renewed nor owed anew
  computes_same : (z m a : ℕ) → t.total (owed Compute m a) + hit (eqb a (t.word (posted Compute z))) ≡ s.total (owed Compute m a) + hit (eqb a (s.word (posted Compute z)))
  computes_same z m a = let b = its (is_owed Compute m a) refl refl refl refl in let d = ap (λ o. hit (eqb a o)) (posts_same Compute z) in omega (arith, b, d)

  renewal_keys : Keys e t
  renewal_keys = keys_stay e s t keys_same (λ z m q. inv.keys.known z m (let a = knows (is_row z m) in omega (arith, a, q)))
      (λ m q. dite (ℕ_discrete m k) (λ o. (r, subst (HasKey e s r) (sym o) has)) (λ ne. inv.keys.of_item m (let o = ne_eqb m k ne in fewer (is_at m) (its (is_at m) o o o o) q)))
      (λ i m a q. inv.keys.of_ended i m a (let b = ended_same i m a in omega (arith, b, q))) (λ p a b q. inv.keys.of_waiting p a b (let d = waits_same p a b in omega (arith, d, q)))
      (λ p q z. inv.keys.of_notify p q (fewer (notifies p q) (its (notifies p q) refl refl refl refl) z)) (λ b a z. inv.keys.of_cause b a (fewer (suspects_block b a) (its (suspects_block b a) refl refl refl refl) z)) (λ m. recs (is_created m)) inv.keys

  renewal_empty : Empty e t
  renewal_empty = record {
    no_descriptor = λ z q. let old = none z q in other_row z word.Descriptor (else z old) ∙ inv.empty.no_descriptor z old;
    no_notify = λ z w q. let old = none z q in other_row z (word.Notify w) (else z old) ∙ inv.empty.no_notify z w old;
    no_recovery = λ z q. let old = none z q in other_row z word.Recovery (else z old) ∙ inv.empty.no_recovery z old;
    no_job = λ i z q. posts_same i z ∙ inv.empty.no_job i z (none z q);
    beyond = λ z m w it low. let old = had e s t keys_same z m it in other_word z (word.Notify w) (λ q. let a = fits w (sym q.1) in let b : m ≡ k = same_key e s t r k m has (subst (λ o. HasKey e s o m) q.0 old) in let d = ap e.graph.notify_words b in omega (arith, a, d, low)) ∙ inv.empty.beyond z m w old low;
  }
    where
      none : (z : ℕ) → t.word (key z) ≡ 0 → s.word (key z) ≡ 0
      none z q = sym (keys_same z) ∙ q

      else : (z : ℕ) → s.word (key z) ≡ 0 → z ≡ r → ⊥
      else z q o = let a = has.1 in let b = ap (λ x. s.word (key x)) o in omega (arith, a, b, q)

  renewal_facts : Facts e t
  renewal_facts = later_facts e s t later recs keys_same knows (word_stays pending refl) (word_stays stop refl) inv.facts

  renewal_credits : items is_owe v ≤ items is_owe (change_top f v) → Credits e t
  renewal_credits low = record {
    sum = let a = posted_same s.word t.word e.shape.rows posts_same in let b = same stack_count (push_length f v.stacks) in let d = same spare refl in let h = word_stays pending refl in let o = inv.work.credits.sum in omega (arith, a, b, d, h, o);
    few_spare = let a = c.sums too_many in let h : too_many (change_top f v) ≤ too_many v = omega (arith, low) in let o = inv.work.credits.few_spare in let b = c.within too_many in omega (arith, a, h, o, b);
  }

  renewal_computings : Computings e t
  renewal_computings = wide_computings e s t keys_same
      (λ z m a old some q. (inv.work.computings.each z m a old some).unmade (let b = computes_same z m a in let d = its (is_unmade m a) refl refl refl refl in omega (arith, b, d, q)))
      (λ z m a old some q. (inv.work.computings.each z m a old some).unwritten (let b = computes_same z m a in let d = its (is_compute m a) refl refl refl refl in omega (arith, b, d, q)))
      (λ m a q. fewer (is_made m a) (its (is_made m a) refl refl refl refl) q) (λ m a q. fewer (is_close m a) (its (is_close m a) refl refl refl refl) q)
      (λ m a w q. fewer (is_close_from m a w) (its (is_close_from m a w) refl refl refl refl) q) (λ m a w q. fewer (is_notify m a w) (its (is_notify m a w) refl refl refl refl) q)
      (λ m a q. let b = begun_same Compute m a in omega (arith, b, q)) (its (is_made_early e.graph) refl refl refl refl) (λ m a. recs (is_computed m a)) (λ m a. recs (is_written m a)) (λ m a w. recs (is_closed m a w)) inv.work.computings

  renewal_root : RootWork e t
  renewal_root = wide_root e s t (λ a q. fewer (is_suspect e.graph.root a) (its (is_suspect e.graph.root a) refl refl refl refl) q) (λ a. recs (is_replaced e.graph.root a)) (λ a. let b = ended_same Compute e.graph.root a in omega (arith, b)) (λ a. recs (is_computed e.graph.root a))
      (λ b m. let a = same (in_wrong_hand b m) (ap (λ o. cond (eqb o 0) (in_hand b v) 0) (aside (is_made_any m) refl refl refl refl)) in omega (arith, a)) (λ b. same (in_hand b) refl) blocks_same inv.work.root

  renewal_blocks : Blocks e t
  renewal_blocks = frame_blocks e s t (λ b. word_stays (turn b) refl) (λ b. same (in_hand b) refl) recs blocks_same inv.blocks

  renewal_causes : Causes e t
  renewal_causes = wide_causes e s t more (λ m a d. recs (is_replaced_for m a d)) (λ m a d q. inv.causes.suspected m a d (fewer (is_suspect_for m a d) (its (is_suspect_for m a d) refl refl refl refl) q)) inv.causes

  renewal_strikes : Strikes e t
  renewal_strikes = strikes_left e s t keys_same (landed_descriptor e s t later recs) (landed_notify e s t later recs) more (λ x. same (struck_by x) refl)
      (λ x m. let a = same (struck_idly x m) (ap (λ o. cond (eqb o 0) (struck_by m v) 0) (begun_view (job_of x.point) x.key.0 x.life)) in omega (arith, a)) (λ m a h. same (struck_upto e.plan m a h) refl) (λ m a h. recs (is_struck_upto m a h)) inv.strikes

  pub renewal_rest : Rest e s t r left y v (change_top f v)
  renewal_rest = record {
    here_or = here_or;
    new_word = new_word;
    passed = passed;
    other_word = other_word;
    later = later;
    keys_same = keys_same;
    posts_same = posts_same;
    recs = recs;
    waits_same = waits_same;
    blocks_same = blocks_same;
    held_view = held_view;
    held_same = held_same;
    ended_same = ended_same;
    begun_same = begun_same;
    came_same = came_same;
    computes_same = computes_same;
    keys = renewal_keys;
    empty = renewal_empty;
    facts = renewal_facts;
    credits = renewal_credits;
    computings = renewal_computings;
    root = renewal_root;
    blocks = renewal_blocks;
    causes = renewal_causes;
    strikes = renewal_strikes;
  }
