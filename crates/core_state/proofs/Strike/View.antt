-- What a strike leaves of a view, and the parts that read neither its word nor its block.
use Rattle.std.proofs.Common.{◌≡◌, ◌⊎◌, ℕ, ◌+◌, ◌≤◌, ◌<◌, Bool, ◌&&◌, false, eqb, nat_lt, ◌∷◌, length, ⊎_elim, inl, inr, arith, sym, ap, refl, ◌∙◌, subst}
use Rattle.core_state.specs.Graph.{Setting}
use Rattle.core_state.specs.Words.{pending, stop, recovery, posted, standing_life, replacing}
use Rattle.core_state.specs.Counts.{hit, count, in_stacks, items, owed, held, ended, begun, came, noted, facts, stack_count, spare, too_many}
use Rattle.core_state.specs.Tests.{is_at, is_owed, is_owe, carries, explores, is_unmade, is_compute, is_made, is_close, is_close_from, is_notify, is_renew, is_renew_at, is_renew_of, is_suspect, is_suspect_for, suspects_block, notifies, reenters, is_ended, came_with, is_row, waits_at, is_created, is_spent, is_computed, is_written, is_closed, is_misstruck, is_miswritten, is_replaced, is_replaced_for, is_any_struck, is_of}
use Rattle.core_state.specs.Change.{Core, many}
use Rattle.core_state.specs.Rows.{HasKey, Keys, Lives}
use Rattle.core_state.specs.Work.{Credits, Jobs, Computings, is_made_early}
use Rattle.core_state.specs.Records.{Records, Causes}
use Rattle.core_state.specs.Cover.{covers_self, covers_edge, works, Cover, Activity, NoFault}
use Rattle.core_state.specs.Invariant.{Invariant}
use Rattle.core_state.specs.Views.{key_of}
use Rattle.graph_model.specs.declared.record.Hit.{Hit}
use Rattle.graph_model.specs.declared.record.Record.{Record}
use Rattle.graph_model.specs.declared.record.Record.TheVariants as record_of
use Rattle.core_state.specs.declared.job.Job.{Job}
use Rattle.core_state.specs.declared.job.Job.TheVariants.{Explore, Compute}
use Rattle.core_state.specs.declared.views.Item.{Item}
use Rattle.core_state.specs.declared.views.Known.{Known}
use Rattle.core_state.specs.declared.views.Known.TheVariants as known
use Rattle.core_state.specs.declared.views.Word.{Word}
use Rattle.core_state.specs.declared.views.Word.TheVariants.{Descriptor}
use Rattle.core_state.specs.declared.views.View.{View}
use Rattle.core_state.proofs.Base.Counting.{two_tells}
use Rattle.core_state.proofs.Base.Frame.{SameKeys, SameRecovery, SamePosted, keys_stay, posted_same}
use Rattle.core_state.proofs.Base.RecordFrame.{MayName, wide_records}
use Rattle.core_state.proofs.Spend.View.{and_fails}
use Rattle.core_state.proofs.Replace.Lives.{replaced_below}
use Rattle.core_state.proofs.Base.WeakFrame.{SameLives, KeptMarks, marked_lives, jobs_later, wide_computings, wide_causes, marked_cover, marked_activity}

-- the strike was made, and where it landed its record came, of this life and hit
pub record StrikeView (strike k m : ℕ) (h : Hit) (landed : Bool) (v w : View) : Type 0 where
  pub stacks_are : w.stacks ≡ v.stacks
  pub ended_are : w.ended ≡ v.ended
  pub spare_same : spare w ≡ spare v
  pub strikes_are : w.strikes ≡ strike ∷ v.strikes
  pub noted_more : (p : Record → Bool) → noted p w ≡ noted p v + hit (landed && p (record_of.Struck (key_of k) m h))
  pub known_same : (f : Known → Bool) → ((y : Word) (a : ℕ) → f (known.Life k y a) ≡ false) → ((y : Word) (a : ℕ) → f (known.Mark k y a) ≡ false) → facts f w ≡ facts f v

-- each word shows the life that it showed, no mark goes, and other words of rows stay
pub record StrikeStep (e : Setting) (s t : Core) (v w : View) : Type 0 where
  pub keys : SameKeys s t
  pub recoveries : SameRecovery s t
  pub posts : SamePosted s t
  pub pending_same : t.word pending ≡ s.word pending
  pub stop_same : t.word stop ≡ s.word stop
  pub lives : SameLives e s t
  pub marks : KeptMarks e s t
  pub sums : (f : View → ℕ) → t.total f + f v ≡ s.total f + f w
  pub within : (f : View → ℕ) → f v ≤ s.total f
  pub alone : (f g : View → ℕ) → ((u : View) → g u ≡ 0 → f u ≡ 0) → s.total g ≤ g v → s.total f ≡ f v

module _ (e : Setting) (s t : Core) (strike k m : ℕ) (h : Hit) (landed : Bool) (v w : View) (c : StrikeStep e s t v w) (u : StrikeView strike k m h landed v w) (inv : Invariant e s) where
  pub eq : (f : View → ℕ) → f w ≡ f v → t.total f ≡ s.total f
  eq f q = let a = c.sums f in omega (arith, a, q)

  pub same_items : (p : Item → Bool) → items p w ≡ items p v
  same_items p = ap (in_stacks p) u.stacks_are

  pub its : (p : Item → Bool) → t.total (items p) ≡ s.total (items p)
  its p = eq (items p) (same_items p)

  pub same_ended : (i : Job) (a l : ℕ) → ended i a l w ≡ ended i a l v
  same_ended i a l = ap (count (is_ended i a l)) u.ended_are

  pub same_begun : (i : Job) (a l : ℕ) → begun i a l w ≡ begun i a l v
  same_begun i a l = let x = same_items (carries i a l) in let y = same_ended i a l in omega (arith, x, y)

  pub more : (p : Record → Bool) → many s p ≤ many t p
  more p = let a = c.sums (noted p) in let b = u.noted_more p in omega (arith, a, b)

  pub rec : (p : Record → Bool) → p (record_of.Struck (key_of k) m h) ≡ false → many t p ≡ many s p
  rec p z = eq (noted p) (let a = u.noted_more p in let b = and_fails landed (p (record_of.Struck (key_of k) m h)) z in omega (arith, a, b))

  pub one_more : (p : Record → Bool) → many t p ≡ many s p + hit (landed && p (record_of.Struck (key_of k) m h))
  one_more p = let a = c.sums (noted p) in let b = u.noted_more p in omega (arith, a, b)

  -- facts of other words than this one
  pub fact : (f : Known → Bool) → ((y : Word) (a : ℕ) → f (known.Life k y a) ≡ false) → ((y : Word) (a : ℕ) → f (known.Mark k y a) ≡ false) → t.total (facts f) ≡ s.total (facts f)
  fact f life mark = eq (facts f) (u.known_same f life mark)

  post_same : (i : Job) (r l : ℕ) → hit (eqb l (t.word (posted i r))) ≡ hit (eqb l (s.word (posted i r)))
  post_same i r l = ap (λ o. hit (eqb l o)) (c.posts i r)

  pub made_keys : Keys e t
  made_keys = keys_stay e s t c.keys (λ r a z. inv.keys.known r a (let x = fact (is_row r a) (λ y o. refl) (λ y o. refl) in omega (arith, x, z)))
      (λ a z. inv.keys.of_item a (let x = its (is_at a) in omega (arith, x, z))) (λ i a l z. inv.keys.of_ended i a l (let x = eq (ended i a l) (same_ended i a l) in omega (arith, x, z)))
      (λ p l q z. inv.keys.of_waiting p l q (let x = fact (waits_at p l q) (λ y o. refl) (λ y o. refl) in omega (arith, x, z)))
      (λ p q z. inv.keys.of_notify p q (let x = its (notifies p q) in omega (arith, x, z))) (λ b d z. inv.keys.of_cause b d (let x = its (suspects_block b d) in omega (arith, x, z))) (λ a. rec (is_created a) refl) inv.keys

  pub made_lives : Lives e t
  made_lives = marked_lives e s t c.keys c.recoveries c.lives (λ a. its (is_renew a)) (λ a l d. its (is_renew_at a l d)) (λ r a l old z. (inv.lives.each r a old).suspected l (let x = its (is_suspect a l) in omega (arith, x, z))) inv.lives

  pub made_credits : Credits e t
  made_credits = record {
    sum = let a = posted_same s.word t.word e.shape.rows c.posts in let b = eq stack_count (ap length u.stacks_are) in let d = eq spare u.spare_same in let f = c.pending_same in let g = inv.work.credits.sum in omega (arith, a, b, d, f, g);
    few_spare = eq too_many (let a = same_items is_owe in let b = u.spare_same in omega (arith, a, b)) ∙ inv.work.credits.few_spare;
  }

  owes : (i : Job) (a l : ℕ) → t.total (owed i a l) ≡ s.total (owed i a l)
  owes i a l = its (is_owed i a l)

  holds : (i : Job) (a l : ℕ) → t.total (held i a l) ≡ s.total (held i a l)
  holds i a l = its (carries i a l)

  pub made_jobs : Jobs e t
  made_jobs = jobs_later e s t c.keys (λ r. let a = c.lives r Descriptor in omega (arith, a)) (λ r. ap standing_life (c.recoveries r)) (λ i r a l old z. let x = owes i a l in let y = holds i a l in let o = eq (ended i a l) (same_ended i a l) in let q = post_same i r l in omega (arith, x, y, o, q))
      (λ i a. let x = owes i a 0 in let y = holds i a 0 in let o = eq (ended i a 0) (same_ended i a 0) in let q = inv.work.jobs.some_life i a in omega (arith, x, y, o, q))
      (λ i a l. let x = eq (came i a l) (ap (count (came_with i a l)) u.stacks_are) in let y = eq (begun i a l) (same_begun i a l) in let o = inv.work.jobs.came i a l in omega (arith, x, y, o)) more inv.work.jobs

  pub made_computings : Computings e t
  made_computings = wide_computings e s t c.keys
      (λ r a l old z q. (inv.work.computings.each r a l old z).unmade (let x = owes Compute a l in let y = post_same Compute r l in let o = its (is_unmade a l) in omega (arith, x, y, o, q)))
      (λ r a l old z q. (inv.work.computings.each r a l old z).unwritten (let x = owes Compute a l in let y = post_same Compute r l in let o = its (is_compute a l) in omega (arith, x, y, o, q)))
      (λ a l z. let x = its (is_made a l) in omega (arith, x, z)) (λ a l z. let x = its (is_close a l) in omega (arith, x, z)) (λ a l d z. let x = its (is_close_from a l d) in omega (arith, x, z)) (λ a l d z. let x = its (is_notify a l d) in omega (arith, x, z))
      (λ a l z. let x = eq (begun Compute a l) (same_begun Compute a l) in omega (arith, x, z)) (its (is_made_early e.graph)) (λ a l. rec (is_computed a l) refl) (λ a l. rec (is_written a l) refl) (λ a l d. rec (is_closed a l d) refl) inv.work.computings

  pub made_causes : Causes e t
  made_causes = wide_causes e s t more (λ a l d. rec (is_replaced_for a l d) refl) (λ a l d z. inv.causes.suspected a l d (let x = its (is_suspect_for a l d) in omega (arith, x, z))) inv.causes

  pub made_cover : Cover e t
  made_cover = marked_cover e s t c.keys c.lives c.recoveries (λ a l j z. sym (rec (is_spent a l j) refl) ∙ z) (λ a l d z. rec (is_closed a l d) refl ∙ z) (λ a l q z. let x = fact (waits_at a l q) (λ y o. refl) (λ y o. refl) in omega (arith, x, z))
      (λ r a l j old some. let x = eq (covers_self a l j) (let f = same_items (explores a l j) in let g = same_items (is_owed Explore a l) in let i = same_items (is_suspect a l) in omega (arith, f, g, i)) in let y = post_same Explore r l in omega (arith, x, y))
      (λ p q. let x = eq (covers_edge p q) (let f = same_items (notifies p q) in let g = same_items (is_renew p) in let i = same_items (reenters p q) in omega (arith, f, g, i)) in omega (arith, x)) inv.cover

  pub made_activity : Activity e t
  made_activity = marked_activity e s t c.keys c.lives more (λ a l j z. let x = rec (is_spent a l j) refl in omega (arith, x, z))
      (λ r a l old some. let x = eq (works a l) (let f = same_items (is_owed Compute a l) in let g = same_items (carries Compute a l) in let i = same_items (is_suspect a l) in let o = same_items (is_renew_of a l) in omega (arith, f, g, i, o)) in let y = post_same Compute r l in omega (arith, x, y)) inv.activity

  new_of : (a l : ℕ) → (many t (is_of a l) ≡ many s (is_of a l)) ⊎ ((a ≡ k) × (l ≡ m))
  new_of a l = ⊎_elim (λ z. inl (rec (is_of a l) z)) (λ z. inr (z.1, z.2)) (two_tells a l k m)

  -- the record, if it came, is of a life that stands or comes next
  pub made_records : (r : ℕ) → HasKey e s r k → 0 < m → m ≤ standing_life (s.word (recovery r)) + replacing (s.word (recovery r)) → is_misstruck e.graph (record_of.Struck (key_of k) m h) ≡ false → Records e t
  made_records r has some top own = wide_records e s t c.keys more (λ a. rec (is_created a) refl) (λ a l i. rec (is_spent a l i) refl) (λ a l. rec (is_computed a l) refl) (λ a l. rec (is_written a l) refl) (rec (is_miswritten e.graph) refl) (λ a l i. rec (is_closed a l i) refl)
      (λ a l. ⊎_elim (λ q. inl q) (λ q. inr (subst (λ o. MayName e s t o l) (sym q.0) (subst (MayName e s t k) (sym q.1) (some, (λ later. replaced_below e s r k m inv.records has later top), inv.keys.created r k has, inv.keys.reached r k has)))) (new_of a l))
      (λ y a l it'. rec (is_replaced a l) refl ∙ inv.records.replaced y a l it' ∙ ap (λ z. hit (nat_lt 0 l && nat_lt l (standing_life z + replacing z))) (sym (c.recoveries y))) (rec (is_misstruck e.graph) own ∙ inv.records.names_own) inv.records

  -- a strike landed now or before, so nothing is said of faultless states
  pub made_no_fault : 0 < many t is_any_struck → NoFault e t
  made_no_fault some = record { faultless = λ z. absurd (omega (arith, some, z)) }
