-- A claim that made the row keeps every part.
use Rattle.std.proofs.Common.{◌≡◌, ◌≢◌, ◌⊎◌, ℕ, suc, ◌+◌, ◌*◌, ◌/◌, ◌%◌, ◌<◌, ◌≤◌, Bool, true, false, cond, eqb, ne_eqb, min, ◌&&◌, List, [], ◌∷◌, ⊎_elim, inl, inr, arith, sym, ap, refl, ◌∙◌, subst}
use mathlib.Core.Logic.{dite}
use native.Mathlib.Decide.{ℕ_discrete}
use Rattle.std.proofs.lemmas.Nat.Bits.{bit_at-zero}
use Rattle.core_state.specs.Graph.{Edge, Setting, Sound, Reached}
use Rattle.core_state.specs.Graph.Reached.{through}
use Rattle.core_state.specs.Words.{Spot, pending, key, descriptor, notify, recovery, posted, life_of, standing_life, replacing}
use Rattle.core_state.specs.Counts.{hit, bump, items, in_stacks, noted, knows_row, ended, waits, stack_count, spare, too_many}
use Rattle.core_state.specs.Tests.{two, is_at, is_owed, is_owe, is_exploring, carries, is_renew, is_suspect, is_made, is_close, is_close_from, is_notify, notifies, suspects_block, is_of, is_created, is_spent, is_closed, is_struck, is_replaced, is_computed, is_written, came_with}
use Rattle.core_state.specs.Change.{Core, Change, Sums, many}
use Rattle.core_state.specs.Rows.{HasKey, HasRow, Keys, Empty, LifeOf, Lives, Shows, Lists, Content}
use Rattle.core_state.specs.Work.{Credits}
use Rattle.core_state.specs.Cover.{Needs, Covered, CoveredSelf, Cover, covers_self, covers_edge}
use Rattle.core_state.specs.Invariant.{Invariant}
use Rattle.core_state.specs.Guards.{CanClaim}
use Rattle.core_state.specs.Views.{key_of}
use Rattle.core_state.specs.Effects.{after_claim, distance}
use Rattle.core_state.specs.declared.answers.Claim.TheVariants as claim
use Rattle.graph_model.specs.declared.record.Hit.TheVariants as hit_of
use Rattle.core_state.specs.declared.views.Item.{Item}
use Rattle.core_state.specs.declared.views.Item.TheVariants as item
use Rattle.core_state.specs.declared.job.Job.{Job}
use Rattle.core_state.specs.declared.job.Job.TheVariants as job
use Rattle.graph_model.specs.declared.record.Record.{Record}
use Rattle.graph_model.specs.declared.record.Record.TheVariants as record_of
use Rattle.core_state.specs.declared.views.Stack.{Stack}
use Rattle.core_state.specs.declared.views.View.{View}
use Rattle.core_state.proofs.Base.Paths.{at_distance}
use Rattle.core_state.proofs.Base.Counting.{eqb_here, two_here, two_tells, bump_is}
pub use Rattle.core_state.proofs.Base.Counting.{both}
use Rattle.core_state.proofs.Base.Tops.{push_none, push_one, push_length}
use Rattle.core_state.proofs.Base.Frame.{was, posted_same}
use Rattle.core_state.proofs.Row.View.{other_there, no_row, no_record_such, no_item, fewer_items}

first_stack : (p : Item → Bool) (ss : List Stack) → 0 < in_stacks p ss → (u : Stack) × ((rest : List Stack) × (ss ≡ u ∷ rest))
first_stack p [] z = absurd (omega (arith, z))
first_stack p (s ∷ ss) z = (s, (ss, refl))

-- tests that name the key
pub exploring_at : (k l j : ℕ) (x : Item) → is_exploring k l j x ≡ true → is_at k x ≡ true
exploring_at k l j (item.Explore a m i) e = (both (eqb k a) (eqb l m && eqb j i) e).0
exploring_at k l j x e = absurd cc

pub renew_at : (k : ℕ) (x : Item) → is_renew k x ≡ true → is_at k x ≡ true
renew_at k (item.Renew a l d) e = e
renew_at k x e = absurd cc

pub suspect_at : (k l : ℕ) (x : Item) → is_suspect k l x ≡ true → is_at k x ≡ true
suspect_at k l (item.Suspect a m c w) e = (both (eqb k a) (eqb l m) e).0
suspect_at k l x e = absurd cc

pub spent_of : (k l j : ℕ) (x : Record) → is_spent k l j x ≡ true → is_of k l x ≡ true
spent_of k l j (record_of.Spent a m i) e = let f = both (eqb k a.0) (eqb l m && eqb j i) e in let b = both (eqb l m) (eqb j i) f.1 in rw (f.0, b.0)
spent_of k l j x e = absurd cc

pub closed_of : (k l j : ℕ) (x : Record) → is_closed k l j x ≡ true → is_of k l x ≡ true
closed_of k l j (record_of.Closed a m i) e = let f = both (eqb k a.0) (eqb l m && eqb j i) e in let b = both (eqb l m) (eqb j i) f.1 in rw (f.0, b.0)
closed_of k l j x e = absurd cc

pub struck_of : (k l : ℕ) (h : Rattle.graph_model.specs.declared.record.Hit.Hit) (x : Record) → is_struck k l h x ≡ true → is_of k l x ≡ true
struck_of k l h (record_of.Struck a m i) e = (both (two k l a.0 m) (Rattle.core_state.specs.Tests.same_hit h i) e).0
struck_of k l h x e = absurd cc

pub written_of : (k l : ℕ) (x : Record) → is_written k l x ≡ true → is_of k l x ≡ true
written_of k l (record_of.Written a m b u) z = z
written_of k l x z = absurd cc

pub computed_of : (k l : ℕ) (x : Record) → is_computed k l x ≡ true → is_of k l x ≡ true
computed_of k l (record_of.Computed a m) z = z
computed_of k l x z = absurd cc

pub replaced_of : (k l : ℕ) (x : Record) → is_replaced k l x ≡ true → is_of k l x ≡ true
replaced_of k l (record_of.Replaced a m b) z = z
replaced_of k l x z = absurd cc

pub owed_at : (i : Job) (k l : ℕ) (x : Item) → is_owed i k l x ≡ true → is_at k x ≡ true
owed_at i k l (item.Owe a j m) z = (both (eqb k a) (eqb l m) (both (Rattle.core_state.specs.Tests.same_job i j) (two k l a m) z).1).0
owed_at i k l x z = absurd cc

pub carries_at : (i : Job) (k l : ℕ) (x : Item) → carries i k l x ≡ true → is_at k x ≡ true
carries_at job.Explore k l (item.Explore a m j) z = (both (eqb k a) (eqb l m) z).0
carries_at job.Compute k l (item.Compute a m b d f) z = (both (eqb k a) (eqb l m) z).0
carries_at job.Compute k l (item.Close a m j) z = (both (eqb k a) (eqb l m) z).0
carries_at i k l x z = absurd cc

pub made_at : (k l : ℕ) (x : Item) → is_made k l x ≡ true → is_at k x ≡ true
made_at k l (item.Compute a m b d f) z = (both (eqb k a) (eqb l m) (both (two k l a m) f z).0).0
made_at k l x z = absurd cc

pub close_at : (k l : ℕ) (x : Item) → is_close k l x ≡ true → is_at k x ≡ true
close_at k l (item.Close a m w) z = (both (eqb k a) (eqb l m) z).0
close_at k l x z = absurd cc

pub close_from_at : (k l w : ℕ) (x : Item) → is_close_from k l w x ≡ true → is_at k x ≡ true
close_from_at k l w (item.Close a m u) z = (both (eqb k a) (eqb l m && eqb w u) z).0
close_from_at k l w x z = absurd cc

pub notify_at : (k l w : ℕ) (x : Item) → is_notify k l w x ≡ true → is_at k x ≡ true
notify_at k l w (item.Notify a m u qs) z = (both (eqb k a) (eqb l m && eqb w u) z).0
notify_at k l w x z = absurd cc

module _ (e : Setting) (fit : Sound e) (s t : Core) (sums : Sums s) (r k : ℕ) (v : View) (can : CanClaim e v r k) (c : Change s t (key r) 0 (k + 1) v (after_claim r k claim.Made v)) (i : Invariant e s) where
  pub owe : Item
  owe = item.Owe k job.Explore 1

  -- the view has a stack
  pub top : (u : Stack) × ((rest : List Stack) × (v.stacks ≡ u ∷ rest))
  top = first_stack (is_exploring can.explorer can.life can.place) v.stacks can.exploring

  pub same : (f : View → ℕ) → f (after_claim r k claim.Made v) ≡ f v → t.total f ≡ s.total f
  same f q = let a = c.sums f in omega (arith, a, q)

  pub word : (a : Spot) → (key r ≡ a → ⊥) → t.word a ≡ s.word a
  word a ne = c.others a (λ q. ne (sym q))

  pub its : (p : Item → Bool) → p (item.Owe k job.Explore 1) ≡ false → t.total (items p) ≡ s.total (items p)
  its p q = same (items p) (push_none p (item.Owe k job.Explore 1) v.stacks q)

  pub one_more : (p : Item → Bool) → p (item.Owe k job.Explore 1) ≡ true → t.total (items p) ≡ s.total (items p) + 1
  one_more p q = let a = c.sums (items p) in let b = push_one p (item.Owe k job.Explore 1) v.stacks top.1.0 top.0 top.1.1 q in omega (arith, a, b)

  pub no_old : HasRow e s k → ⊥
  no_old = no_row e s r k v i.keys c.within can.low can.path c.found_is

  pub row_new : HasKey e t r k
  row_new = (can.low, let a = c.left_is in omega (arith, a))

  pub kept : (x m : ℕ) → HasKey e s x m → HasKey e t x m
  kept x m has = (has.0, c.others (key x) (λ q. let a = has.1 in let b : s.word (key x) ≡ 0 = ap (λ y. s.word y) q ∙ c.found_is in omega (arith, a, b)) ∙ has.1)

  pub claimed : (x m : ℕ) → HasKey e t x m → ((x ≡ r) × (m ≡ k)) ⊎ ((x ≢ r) × HasKey e s x m)
  claimed x m has = dite (ℕ_discrete x r) (λ q. inl (q, let a = has.1 in let b : t.word (key x) ≡ k + 1 = ap (λ y. t.word (key y)) q ∙ c.left_is in omega (arith, a, b)))
      (λ q. inr (q, (has.0, sym (word (key x) (λ y. q (let z : x ≡ r = cc in z))) ∙ has.1)))

  -- what holds of the new row and of the old ones
  pub rows : (P : ℕ → ℕ → Type 0) → P r k → ((x m : ℕ) → HasKey e s x m → m ≢ k → P x m) → (x m : ℕ) → HasKey e t x m → P x m
  rows P new old x m has = ⊎_elim (λ q. subst (λ y. P y m) (sym q.0) (subst (P r) (sym q.1) new)) (λ q. old x m q.1 (λ z. no_old (x, subst (HasKey e s x) z q.1))) (claimed x m has)

  pub has_row : (m : ℕ) → HasRow e s m → HasRow e t m
  has_row m has = (has.0, kept has.0 m has.1)

  pub item_none : (p : Item → Bool) → ((x : Item) → p x ≡ true → is_at k x ≡ true) → s.total (items p) ≡ 0
  item_none p h = no_item e s r k v sums no_old i.keys p h

  pub record_none : (l : ℕ) (p : Record → Bool) → ((x : Record) → p x ≡ true → is_of k l x ≡ true) → many s p ≡ 0
  record_none l p h = no_record_such e s r k v sums i.records no_old i.keys l p h

  pub made_keys : Keys e t
  made_keys = record {
    known = λ x m z. ⊎_elim (λ no. kept x m (i.keys.known x m (let a = c.sums (knows_row x m) in let b : knows_row x m (after_claim r k claim.Made v) ≡ knows_row x m v = ap (λ (u : Bool). bump u (knows_row x m v)) no in omega (arith, a, b, z))))
        (λ is. subst (λ y. HasKey e t y m) (sym is.1) (subst (HasKey e t r) (sym is.2) row_new)) (two_tells x m r k);
    one_row = λ x y m a b. ⊎_elim (λ p. ⊎_elim (λ q. p.0 ∙ sym q.0) (λ q. absurd (no_old (y, subst (HasKey e s y) p.1 q.1))) (claimed y m b))
        (λ p. ⊎_elim (λ q. absurd (no_old (x, subst (HasKey e s x) q.1 p.1))) (λ q. i.keys.one_row x y m p.1 q.1) (claimed y m b)) (claimed x m a);
    path = λ x m d j has low at less. ⊎_elim
        (λ q. let f : d ≡ distance e.shape.rows k r = at_distance e.shape.rows k r d can.low low (sym q.0 ∙ at ∙ ap (λ y. (y + d) % e.shape.rows) q.1) in
        let o = other_there e s r k v i.keys c.within can.path j (omega (arith, f, less)) in let h = (kept ((k + j) % e.shape.rows) o.0 o.1).1 in let g : t.word (key ((m + j) % e.shape.rows)) ≡ suc o.0 = ap (λ y. t.word (key ((y + j) % e.shape.rows))) q.1 ∙ h in omega (arith, g))
        (λ q. let y : ℕ = (m + j) % e.shape.rows in dite (ℕ_discrete y r) (λ z. let a : t.word (key y) ≡ k + 1 = ap (λ u. t.word (key u)) z ∙ c.left_is in omega (arith, a))
        (λ z. let a = i.keys.path x m d j q.1 low at less in let b : t.word (key y) ≡ s.word (key y) = word (key y) (λ u. z (let w : y ≡ r = cc in w)) in omega (arith, a, b))) (claimed x m has);
    of_item = λ m z. ⊎_elim (λ q. (r, subst (HasKey e t r) (sym q.1) row_new)) (λ q. has_row m (i.keys.of_item m (was (t.total (items (is_at m))) (s.total (items (is_at m))) (its (is_at m) q.0) z)))
        (Rattle.std.proofs.lemmas.Bool.Decides.eqb_tells m k);
    of_ended = λ j m l z. has_row m (i.keys.of_ended j m l (was (t.total (ended j m l)) (s.total (ended j m l)) (same (ended j m l) refl) z));
    of_waiting = λ p l q z. let a = i.keys.of_waiting p l q (was (t.total (waits p l q)) (s.total (waits p l q)) (same (waits p l q) refl) z) in (a.0, has_row p a.1, has_row (e.graph.succ p q).task a.2);
    of_notify = λ p q z. let a = i.keys.of_notify p q (was (t.total (items (notifies p q))) (s.total (items (notifies p q))) (its (notifies p q) refl) z) in (a.0, has_row (e.graph.succ p q).task a.1);
    of_cause = λ b u z. has_row (e.graph.writer b u) (i.keys.of_cause b u (was (t.total (items (suspects_block b u))) (s.total (items (suspects_block b u))) (its (suspects_block b u) refl) z));
    of_root = has_row e.graph.root i.keys.of_root;
    created = λ x m has. rows (λ y n. many t (is_created n) ≡ 1)
        (let a = c.sums (noted (is_created k)) in let b : noted (is_created k) (after_claim r k claim.Made v) ≡ noted (is_created k) v + 1 = ap (λ (u : Bool). bump u (noted (is_created k) v)) (eqb_here k) in let d : many s (is_created k) ≡ 0 = dite (ℕ_discrete (many s (is_created k)) 0) (λ z. z) (λ z. absurd (no_old (i.keys.of_created k (omega (arith, z))))) in omega (arith, a, b, d))
        (λ y n old ne. same (noted (is_created n)) (ap (λ (u : Bool). bump u (noted (is_created n) v)) (ne_eqb n k ne)) ∙ i.keys.created y n old) x m has;
    of_created = λ m z. dite (ℕ_discrete m k) (λ q. (r, subst (HasKey e t r) (sym q) row_new))
        (λ q. has_row m (i.keys.of_created m (was (many t (is_created m)) (many s (is_created m)) (same (noted (is_created m)) (ap (λ (u : Bool). bump u (noted (is_created m) v)) (ne_eqb m k q))) z)));
    reached = λ x m has. rows (λ y n. Reached e.graph n) (subst (Reached e.graph) can.names (through can.explorer can.place (explorer_reached) can.is_place)) (λ y n old ne. i.keys.reached y n old) x m has;
  }
    where
      explorer_row : HasRow e s can.explorer
      explorer_row = i.keys.of_item can.explorer (let a = c.within (items (is_at can.explorer)) in let b : 0 < in_stacks (is_at can.explorer) v.stacks = dite (ℕ_discrete (in_stacks (is_at can.explorer) v.stacks) 0)
          (λ z. absurd (let d = fewer_items (is_at can.explorer) (is_exploring can.explorer can.life can.place) (exploring_at can.explorer can.life can.place) v.stacks z in let f = can.exploring in omega (arith, d, f))) (λ ne. omega (arith, ne)) in omega (arith, a, b))

      explorer_reached : Reached e.graph can.explorer
      explorer_reached = i.keys.reached explorer_row.0 can.explorer explorer_row.1

  pub made_empty : Empty e t
  made_empty = record {
    no_descriptor = λ x z. word (descriptor x) (λ q. cc) ∙ i.empty.no_descriptor x (old x z);
    no_notify = λ x w z. word (notify x w) (λ q. cc) ∙ i.empty.no_notify x w (old x z);
    no_recovery = λ x z. word (recovery x) (λ q. cc) ∙ i.empty.no_recovery x (old x z);
    no_job = λ j x z. word (posted j x) (λ q. cc) ∙ i.empty.no_job j x (old x z);
    beyond = λ x m w has low. word (notify x w) (λ q. cc) ∙ ⊎_elim (λ q. i.empty.no_notify x w (ap (λ y. s.word (key y)) q.0 ∙ c.found_is)) (λ q. i.empty.beyond x m w q.1 low) (claimed x m has);
  }
    where
      old : (x : ℕ) → t.word (key x) ≡ 0 → s.word (key x) ≡ 0
      old x z = dite (ℕ_discrete x r) (λ q. ap (λ y. s.word (key y)) q ∙ c.found_is) (λ q. sym (word (key x) (λ u. q (let w : x ≡ r = cc in w))) ∙ z)

  pub made_lives : Lives e t
  made_lives = record {
    each = λ x m has. rows (λ y n. LifeOf e t y n (t.word (recovery y)))
        (subst (LifeOf e t r k) (sym (word (recovery r) (λ q. cc) ∙ i.empty.no_recovery r c.found_is)) record {
          renewing = its (is_renew k) refl ∙ item_none (is_renew k) (renew_at k);
          standing = λ z. record { descriptor_life = ap life_of (word (descriptor r) (λ q. cc) ∙ i.empty.no_descriptor r c.found_is); notify_life = λ w low. ap life_of (word (notify r w) (λ q. cc) ∙ i.empty.no_notify r w c.found_is) };
          being_replaced = λ z. absurd (omega (arith, z));
          at_most = ⊎_elim (λ q. absurd (no_old (subst (HasRow e s) (sym q.1) i.keys.of_root))) (λ q. subst (λ (b : Bool). 1 ≤ cond b 65535 e.lives) (sym q.0) (let a = fit.some_life.0 in omega (arith, a))) (Rattle.std.proofs.lemmas.Bool.Decides.eqb_tells k e.graph.root);
          suspected = λ l z. absurd (let a = its (is_suspect k l) refl in let b = item_none (is_suspect k l) (suspect_at k l) in omega (arith, a, b, z));
        })
        (λ y n old ne. subst (LifeOf e t y n) (sym (word (recovery y) (λ q. cc))) (let was' = i.lives.each y n old in record {
          renewing = its (is_renew n) refl ∙ was'.renewing;
          standing = λ z. let st = was'.standing z in record { descriptor_life = ap life_of (word (descriptor y) (λ q. cc)) ∙ st.descriptor_life; notify_life = λ w low. ap life_of (word (notify y w) (λ q. cc)) ∙ st.notify_life w low };
          being_replaced = λ z. let st = was'.being_replaced z in record {
            done = st.done;
            one_view = its (Rattle.core_state.specs.Tests.is_renew_at n (standing_life (s.word (recovery y))) st.done) refl ∙ st.one_view;
            at_most = st.at_most;
            done_words = λ w low less. ap life_of (word (notify y w) (λ q. cc)) ∙ st.done_words w low less;
            other_words = λ w low less. ap life_of (word (notify y w) (λ q. cc)) ∙ st.other_words w low less;
            descriptor_before = λ z. ap life_of (word (descriptor y) (λ q. cc)) ∙ st.descriptor_before z;
            descriptor_after = λ z. ap life_of (word (descriptor y) (λ q. cc)) ∙ st.descriptor_after z;
          };
          at_most = was'.at_most;
          suspected = λ l z. was'.suspected l (was (t.total (items (is_suspect n l))) (s.total (items (is_suspect n l))) (its (is_suspect n l) refl) z);
        })) x m has;
  }

  pub recs : (p : Record → Bool) → p (record_of.Created (key_of k)) ≡ false → many t p ≡ many s p
  recs p q = same (noted p) (ap (λ (u : Bool). bump u (noted p v)) q)

  pub more : (p : Record → Bool) → many s p ≤ many t p
  more p = let a = c.sums (noted p) in let b : noted p (after_claim r k claim.Made v) ≡ hit (p (record_of.Created (key_of k))) + noted p v = bump_is (p (record_of.Created (key_of k))) (noted p v) in omega (arith, a, b)

  pub no_waits : (l q : ℕ) → s.total (waits k l q) ≡ 0
  no_waits l q = dite (ℕ_discrete (s.total (waits k l q)) 0) (λ z. z) (λ z. absurd (no_old (i.keys.of_waiting k l q (omega (arith, z))).1))

  pub made_content : Content e t
  made_content = record {
    descriptors = λ x m has. rows (λ y n. Shows e t n (t.word (descriptor y)))
        (subst (Shows e t k) (sym (word (descriptor r) (λ q. cc) ∙ i.empty.no_descriptor r c.found_is)) record {
          other_bits = omega arith;
          spent = λ z j low. bit_at-zero j ∙ sym (recs (is_spent k 1 j) refl ∙ record_none 1 (is_spent k 1 j) (spent_of k 1 j));
          struck = λ z. absurd (omega (arith, z));
          root = λ z. refl;
          spent_later = λ l j less. recs (is_spent k l j) refl ∙ record_none l (is_spent k l j) (spent_of k l j);
          struck_later = λ l less. recs (is_struck k l hit_of.Descriptor) refl ∙ record_none l (is_struck k l hit_of.Descriptor) (struck_of k l hit_of.Descriptor);
        })
        (λ y n old ne. subst (Shows e t n) (sym (word (descriptor y) (λ q. cc))) (let o = i.content.descriptors y n old in let d : ℕ = s.word (descriptor y) in record {
          other_bits = o.other_bits;
          spent = λ z j low. o.spent z j low ∙ sym (recs (is_spent n (life_of d) j) refl);
          struck = λ z. was (many s (is_struck n (life_of d) hit_of.Descriptor)) (many t (is_struck n (life_of d) hit_of.Descriptor)) (sym (recs (is_struck n (life_of d) hit_of.Descriptor) refl)) (o.struck z);
          root = o.root;
          spent_later = λ l j less. recs (is_spent n l j) refl ∙ o.spent_later l j less;
          struck_later = λ l less. recs (is_struck n l hit_of.Descriptor) refl ∙ o.struck_later l less;
        })) x m has;
    notify_words = λ x m w has. rows (λ y n. w < e.graph.notify_words n → Lists e t n w (t.word (notify y w)))
        (λ low. subst (Lists e t k w) (sym (word (notify r w) (λ q. cc) ∙ i.empty.no_notify r w c.found_is)) record {
          other_bits = omega arith;
          closing = λ z. sym (recs (is_closed k 1 w) refl ∙ record_none 1 (is_closed k 1 w) (closed_of k 1 w));
          waiting = λ z o b less. bit_at-zero b ∙ ap (min 1) (sym (same (waits k 1 (40 * w + b)) refl ∙ no_waits 1 (40 * w + b)));
          struck = λ z. absurd (omega (arith, z));
          root = λ z. refl;
          registered = λ z b less some. absurd (let a = same (waits k 1 (40 * w + b)) refl in let d = no_waits 1 (40 * w + b) in omega (arith, a, d, some));
          closed_later = λ l less. recs (is_closed k l w) refl ∙ record_none l (is_closed k l w) (closed_of k l w);
          waiting_later = λ l b less low'. same (waits k l (40 * w + b)) refl ∙ no_waits l (40 * w + b);
          struck_later = λ l less. recs (is_struck k l (hit_of.Notify w)) refl ∙ record_none l (is_struck k l (hit_of.Notify w)) (struck_of k l (hit_of.Notify w));
        })
        (λ y n old ne low. subst (Lists e t n w) (sym (word (notify y w) (λ q. cc))) (let o = i.content.notify_words y n w old low in let d : ℕ = s.word (notify y w) in record {
          other_bits = o.other_bits;
          closing = λ z. o.closing z ∙ sym (recs (is_closed n (life_of d) w) refl);
          waiting = λ z opened b less. o.waiting z opened b less ∙ ap (min 1) (sym (same (waits n (life_of d) (40 * w + b)) refl));
          registered = λ z b less some. o.registered z b less (was (t.total (waits n (life_of d) (40 * w + b))) (s.total (waits n (life_of d) (40 * w + b))) (same (waits n (life_of d) (40 * w + b)) refl) some);
          struck = λ z. was (many s (is_struck n (life_of d) (hit_of.Notify w))) (many t (is_struck n (life_of d) (hit_of.Notify w))) (sym (recs (is_struck n (life_of d) (hit_of.Notify w)) refl)) (o.struck z);
          root = o.root;
          closed_later = λ l less. recs (is_closed n l w) refl ∙ o.closed_later l less;
          waiting_later = λ l b less low'. same (waits n l (40 * w + b)) refl ∙ o.waiting_later l b less low';
          struck_later = λ l less. recs (is_struck n l (hit_of.Notify w)) refl ∙ o.struck_later l less;
        })) x m has;
  }

  pub made_credits : Credits e t
  made_credits = record {
    sum = let a = posted_same s.word t.word e.shape.rows (λ j x. word (posted j x) (λ q. cc)) in let b = same stack_count (push_length (λ xs. item.Owe k job.Explore 1 ∷ xs) v.stacks) in let d = same spare refl in let f = word pending (λ q. cc) in let g = i.work.credits.sum in omega (arith, a, b, d, f, g);
    few_spare = let a = c.sums too_many in let b = i.work.credits.few_spare in let d = c.within too_many in let f = push_one is_owe (item.Owe k job.Explore 1) v.stacks top.1.0 top.0 top.1.1 refl in
        let g : too_many (after_claim r k claim.Made v) ≤ too_many v = omega (arith, f) in omega (arith, a, b, d, g);
  }

  pub made_causes : Rattle.core_state.specs.Records.Causes e t
  made_causes = record {
    replaced = record { shown = λ m l d z. Rattle.core_state.proofs.Base.MoreRecords.shown_grows e.graph (many s) (many t) more m l d (i.causes.replaced.shown m l d (was (many t (Rattle.core_state.specs.Tests.is_replaced_for m l d)) (many s (Rattle.core_state.specs.Tests.is_replaced_for m l d)) (recs (Rattle.core_state.specs.Tests.is_replaced_for m l d) refl) z)) };
    suspected = λ m l d z. Rattle.core_state.proofs.Base.MoreRecords.shown_grows e.graph (many s) (many t) more m l d (i.causes.suspected m l d (was (t.total (items (Rattle.core_state.specs.Tests.is_suspect_for m l d))) (s.total (items (Rattle.core_state.specs.Tests.is_suspect_for m l d))) (its (Rattle.core_state.specs.Tests.is_suspect_for m l d) refl) z));
  }

  pub covers_new : (l j : ℕ) → l ≡ 1 → 0 < t.total (covers_self k l j)
  covers_new l j one = let a = c.within (covers_self k l j) in let b = c.sums (covers_self k l j) in let x : Item = item.Owe k job.Explore 1 in
      let d = push_none (Rattle.core_state.specs.Tests.explores k l j) x v.stacks refl in let f = push_one (is_owed job.Explore k l) x v.stacks top.1.0 top.0 top.1.1 (subst (λ y. two k y k 1 ≡ true) (sym one) (two_here k 1)) in let g = push_none (is_suspect k l) x v.stacks refl in omega (arith, a, b, d, f, g)

  pub covers_old : (n l j : ℕ) → n ≢ k → t.total (covers_self n l j) ≡ s.total (covers_self n l j)
  covers_old n l j ne = let x : Item = item.Owe k job.Explore 1 in same (covers_self n l j) (let d = push_none (Rattle.core_state.specs.Tests.explores n l j) x v.stacks refl in let f = push_none (is_owed job.Explore n l) x v.stacks (ap (λ (b : Bool). b && eqb l 1) (ne_eqb n k ne)) in let g = push_none (is_suspect n l) x v.stacks refl in omega (arith, d, f, g))

  pub covers_edges : (p q : ℕ) → t.total (covers_edge p q) ≡ s.total (covers_edge p q)
  covers_edges p q = let x : Item = item.Owe k job.Explore 1 in same (covers_edge p q) (let d = push_none (notifies p q) x v.stacks refl in let f = push_none (is_renew p) x v.stacks refl in let g = push_none (Rattle.core_state.specs.Tests.reenters p q) x v.stacks refl in omega (arith, d, f, g))

  was_needed : (x m l j : ℕ) → Needs e t x m l j → HasKey e s x m → Needs e s x m l j
  was_needed x m l j needs old = record {
    has_key = old;
    stands = ap replacing (sym (word (recovery x) (λ q. cc))) ∙ needs.stands;
    life_stands = ap standing_life (sym (word (recovery x) (λ q. cc))) ∙ needs.life_stands;
    life_shown = ap life_of (sym (word (descriptor x) (λ q. cc))) ∙ needs.life_shown;
    unspent = sym (recs (is_spent m l j) refl) ∙ needs.unspent;
  }

  new_life : (l j : ℕ) → Needs e t r k l j → l ≡ 1
  new_life l j needs = sym needs.life_shown ∙ ap life_of (word (descriptor r) (λ q. cc) ∙ i.empty.no_descriptor r c.found_is)

  pub made_cover : Cover e t
  made_cover = record {
    places = λ x m l j needs low. rows (λ y n. Needs e t y n l j → j < e.graph.places n → Covered e t y n l j)
        (λ n low. inl (let a = covers_new l j (new_life l j n) in omega (arith, a)))
        (λ y n old ne needs low. let z : Edge = e.graph.pred n j in ⊎_elim (λ z'. inl (let a = covers_old n l j ne in let b = covers_edges z.task z.port in let d = ap (λ u. hit (eqb l u)) (word (posted job.Explore y) (λ q. cc)) in omega (arith, a, b, d, z')))
        (λ w. let dw : t.word (notify w.row (z.port / 40)) ≡ s.word (notify w.row (z.port / 40)) = word (notify w.row (z.port / 40)) (λ q. cc) in let u : ℕ = life_of (s.word (notify w.row (z.port / 40))) in inr record {
          row = w.row;
          has_key = kept w.row z.task w.has_key;
          waits_there = subst (λ n. 0 < t.total (waits z.task (life_of n) z.port)) (sym dw) (was (s.total (waits z.task u z.port)) (t.total (waits z.task u z.port)) (sym (same (waits z.task u z.port) refl)) w.waits_there);
          open_word = subst (λ n. many t (is_closed z.task (life_of n) (z.port / 40)) ≡ 0) (sym dw) (recs (is_closed z.task u (z.port / 40)) refl ∙ w.open_word);
        })
        (i.cover.places y n l j (was_needed y n l j needs old) low)) x m needs.has_key needs low;
    self_place = λ x m l needs. rows (λ y n. Needs e t y n l 40 → CoveredSelf e t y n l 40)
        (λ n. let a = covers_new l 40 (new_life l 40 n) in omega (arith, a))
        (λ y n old ne needs. let a = covers_old n l 40 ne in let d = ap (λ u. hit (eqb l u)) (word (posted job.Explore y) (λ q. cc)) in let z = i.cover.self_place y n l (was_needed y n l 40 needs old) in omega (arith, a, d, z)) x m needs.has_key needs;
  }
