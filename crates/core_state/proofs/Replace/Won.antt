-- An election that was won: what it leaves of the view, and the parts that speak of rows and of work.
use Rattle.std.proofs.Common.{◌≡◌, ◌≢◌, ℕ, ◌+◌, ◌-◌, ◌*◌, ◌≤◌, ◌<◌, Bool, true, false, ◌&&◌, eqb, min, ◌∷◌, ⊎_elim, arith, sym, ap, refl, ◌∙◌, subst}
use mathlib.Core.Logic.{dite}
use native.Mathlib.Decide.{ℕ_discrete}
use Rattle.core_state.specs.Graph.{Setting, greatest_life}
use Rattle.core_state.specs.Words.{Spot, pending, stop, key, descriptor, notify, recovery, posted, spot_of, life_of, mark_of, life_shown, mark_shown, standing_life}
use Rattle.core_state.specs.Counts.{hit, count, items, held, ended, begun, came, noted, facts, stack_count, spare, too_many}
use Rattle.core_state.specs.Tests.{two, is_at, is_owed, is_owe, carries, is_unmade, is_compute, is_made, is_close, is_close_from, is_notify, is_renew, is_renew_at, is_suspect, suspects_block, notifies, is_ended, is_row, is_idle, is_stopped, is_stops, is_seen_life, is_seen_mark, is_seen_closed, waits_at, is_created, is_spent, is_computed, is_written, is_closed, is_struck, is_replaced}
use Rattle.core_state.specs.Change.{Core, Change, Sums, many}
use Rattle.core_state.specs.Rows.{HasKey, Keys, Empty, LifeOf, Lives, Content, Facts}
use Rattle.core_state.specs.Work.{Credits, Jobs, Computings, is_made_early}
use Rattle.core_state.specs.Invariant.{Invariant}
use Rattle.core_state.specs.Guards.{AtWork}
use Rattle.core_state.specs.Effects.{seen, after_elect}
use Rattle.core_state.specs.Views.{key_of, without_first}
use Rattle.core_state.specs.declared.answers.Elected.TheVariants as elected
use Rattle.graph_model.specs.declared.record.Cause.{Cause}
use Rattle.graph_model.specs.declared.record.Record.{Record}
use Rattle.graph_model.specs.declared.record.Record.TheVariants as record_of
use Rattle.core_state.specs.declared.job.Job.{Job}
use Rattle.core_state.specs.declared.job.Job.TheVariants.{Explore, Compute}
use Rattle.core_state.specs.declared.views.Item.{Item}
use Rattle.core_state.specs.declared.views.Item.TheVariants as item
use Rattle.core_state.specs.declared.views.Known.{Known}
use Rattle.core_state.specs.declared.views.Known.TheVariants as known
use Rattle.core_state.specs.declared.views.Word.{Word}
use Rattle.core_state.specs.declared.views.Word.TheVariants as word
use Rattle.core_state.specs.declared.views.View.{View}
use Rattle.core_state.proofs.Blocks.Advance.{advanced_items}
use Rattle.core_state.proofs.Base.Counting.{bump_is, eqb_here, three_here, three_apart, not_here, both}
use Rattle.core_state.proofs.Row.View.{fewer_items}
use Rattle.core_state.proofs.Base.Frame.{SameKeys, keys_stay, had, posted_same}
use Rattle.core_state.proofs.Base.Tops.{push_came, push_length}
use Rattle.core_state.proofs.Load.Recovery.{life_any, mark_any}
use Rattle.core_state.proofs.Base.RecordFrame.{wide_content}
use Rattle.core_state.proofs.Spend.View.{seen_other}
use Rattle.core_state.proofs.Base.WeakFrame.{row_lives, jobs_later, wide_computings, wide_facts}

-- the suspect at work became the renewal of its life, and the replacement is recorded
pub record ElectView (k l n : ℕ) (cause : Cause) (waits : Bool) (v u : View) : Type 0 where
  pub added : (p : Item → Bool) → items p u + hit (p (item.Suspect k l cause waits)) ≡ items p v + hit (p (item.Renew k l 0))
  pub noted_more : (p : Record → Bool) → noted p u ≡ noted p v + hit (p (record_of.Replaced (key_of k) l cause))
  pub known_is : u.known ≡ seen k word.Recovery n v.known
  pub ended_is : u.ended ≡ v.ended
  pub hands_are : u.hands ≡ v.hands
  pub strikes_are : u.strikes ≡ v.strikes
  pub comes : (i : Job) (m b : ℕ) → came i m b u ≡ came i m b v
  pub stacks_as_many : stack_count u ≡ stack_count v
  pub spare_same : spare u ≡ spare v

pub elect_view : (k l n : ℕ) (cause : Cause) (waits : Bool) (v : View) → AtWork v (item.Suspect k l cause waits) → ElectView k l n cause waits v (after_elect k l cause waits n elected.Yes v)
elect_view k l n cause waits v at = record {
  added = λ p. advanced_items p (λ xs. item.Renew k l 0 ∷ without_first xs) v.stacks at.others at.stack (item.Suspect k l cause waits) (item.Renew k l 0) at.below at.stacks_are at.items_are refl;
  noted_more = λ p. let a = bump_is (p (record_of.Replaced (key_of k) l cause)) (count p v.records) in omega (arith, a);
  known_is = refl;
  ended_is = refl;
  hands_are = refl;
  strikes_are = refl;
  comes = λ i a b. push_came i a b (λ xs. item.Renew k l 0 ∷ without_first xs) v.stacks;
  stacks_as_many = push_length (λ xs. item.Renew k l 0 ∷ without_first xs) v.stacks;
  spare_same = refl;
}

-- what an election that was won is about: the row is that of the key, the life stood, and one more is allowed
pub record Won (e : Setting) (s t : Core) (r k l n : ℕ) (cause : Cause) (waits : Bool) (v u : View) : Type 0 where
  pub sums : Sums s
  pub change : Change s t (recovery r) n (n + 1) v u
  pub has : HasKey e s r k
  pub stood : n ≡ 2 * (l - 1)
  pub some : 0 < l
  pub not_last : l < greatest_life e k
  pub view : ElectView k l n cause waits v u
  pub inv : Invariant e s

module _ {e : Setting} {s t : Core} {r k l n : ℕ} {cause : Cause} {waits : Bool} {v u : View} (o : Won e s t r k l n cause waits v u) where
  pub wd : (a : Spot) → (recovery r ≡ a → ⊥) → t.word a ≡ s.word a
  wd a ne = o.change.others a (λ z. ne (sym z))

  pub eq : (f : View → ℕ) → f u ≡ f v → t.total f ≡ s.total f
  eq f z = let a = o.change.sums f in omega (arith, a, z)

  pub keys_same : SameKeys s t
  keys_same y = wd (key y) (λ z. cc)

  -- a test that tells the renewal no more than the suspect
  pub kept : (p : Item → Bool) → p (item.Renew k l 0) ≡ p (item.Suspect k l cause waits) → items p u ≡ items p v
  kept p a = let d = o.view.added p in let f = ap hit a in omega (arith, d, f)

  pub it : (p : Item → Bool) → p (item.Renew k l 0) ≡ p (item.Suspect k l cause waits) → t.total (items p) ≡ s.total (items p)
  it p a = eq (items p) (kept p a)

  pub low : (p : Item → Bool) → p (item.Renew k l 0) ≡ false → 0 < t.total (items p) → 0 < s.total (items p)
  low p a z = let b = o.change.sums (items p) in let d = o.view.added p in let f = ap hit a in omega (arith, b, d, f, z)

  pub more : (p : Record → Bool) → many s p ≤ many t p
  more p = let a = o.change.sums (noted p) in let b = o.view.noted_more p in omega (arith, a, b)

  pub rec : (p : Record → Bool) → p (record_of.Replaced (key_of k) l cause) ≡ false → many t p ≡ many s p
  rec p z = eq (noted p) (let a = o.view.noted_more p in let b = ap hit z in omega (arith, a, b))

  pub replaced_more : (m a : ℕ) → many t (is_replaced m a) ≡ many s (is_replaced m a) + hit (two m a k l)
  replaced_more m a = let d = o.change.sums (noted (is_replaced m a)) in let f = o.view.noted_more (is_replaced m a) in omega (arith, d, f)

  pub known_same : (f : Known → Bool) → ((a : ℕ) → f (known.Life k word.Recovery a) ≡ false) → ((a : ℕ) → f (known.Mark k word.Recovery a) ≡ false) → t.total (facts f) ≡ s.total (facts f)
  known_same f life mark = eq (facts f) (ap (count f) o.view.known_is ∙ seen_other f k word.Recovery n v.known life mark)

  seen_now : (f : Known → Bool) → count f (seen k word.Recovery n v.known) ≡ count f v.known → t.total (facts f) ≡ s.total (facts f)
  seen_now f same = eq (facts f) (ap (count f) o.view.known_is ∙ same)

  pub row_of : (y m : ℕ) → HasKey e s y m → y ≡ r → m ≡ k
  row_of y m has z = let a = has.1 in let b = o.has.1 in let d = ap (λ x. s.word (key x)) z in omega (arith, a, b, d)

  pub at_row : (y m : ℕ) → HasKey e s y m → m ≡ k → y ≡ r
  at_row y m old z = o.inv.keys.one_row y r k (subst (HasKey e s y) z old) o.has

  pub word_other : (y : ℕ) → y ≢ r → t.word (recovery y) ≡ s.word (recovery y)
  word_other y ne = wd (recovery y) (λ z. ne cc)

  pub stood : s.word (recovery r) ≡ 2 * (l - 1)
  stood = o.change.found_is ∙ o.stood

  pub replaced_now : t.word (recovery r) ≡ 2 * (l - 1) + 1
  replaced_now = o.change.left_is ∙ ap (λ x. x + 1) o.stood

  -- the life that stands and every life and mark shown stay
  pub standing_same : (y : ℕ) → standing_life (t.word (recovery y)) ≡ standing_life (s.word (recovery y))
  standing_same y = dite (ℕ_discrete y r) (λ q. let a = ap (λ x. t.word (recovery x)) q ∙ replaced_now in let b = ap (λ x. s.word (recovery x)) q ∙ stood in omega (arith, a, b)) (λ ne. ap standing_life (word_other y ne))

  pub shown : (y : ℕ) (z : Word) → (life_shown z (t.word (spot_of y z)) ≡ life_shown z (s.word (spot_of y z))) × (mark_shown z (t.word (spot_of y z)) ≡ mark_shown z (s.word (spot_of y z)))
  shown y word.Descriptor = (ap life_of (wd (descriptor y) (λ z. cc)), ap mark_of (wd (descriptor y) (λ z. cc)))
  shown y (word.Notify z) = (ap life_of (wd (notify y z) (λ z. cc)), ap mark_of (wd (notify y z) (λ z. cc)))
  shown y word.Recovery = (standing_same y, refl)

  pub elect_keys : Keys e t
  elect_keys = keys_stay e s t keys_same (λ y m z. o.inv.keys.known y m (let a = known_same (is_row y m) (λ x. refl) (λ x. refl) in omega (arith, a, z)))
      (λ m z. o.inv.keys.of_item m (let a = it (is_at m) refl in omega (arith, a, z)))
      (λ i m a z. o.inv.keys.of_ended i m a (let b = eq (ended i m a) (ap (count (is_ended i m a)) o.view.ended_is) in omega (arith, b, z)))
      (λ p a q z. o.inv.keys.of_waiting p a q (let b = known_same (waits_at p a q) (λ x. refl) (λ x. refl) in omega (arith, b, z)))
      (λ p q z. o.inv.keys.of_notify p q (low (notifies p q) refl z)) (λ b y z. o.inv.keys.of_cause b y (low (suspects_block b y) refl z)) (λ m. rec (is_created m) refl) o.inv.keys

  pub elect_empty : Empty e t
  elect_empty = record {
    no_descriptor = λ y z. wd (descriptor y) (λ f. cc) ∙ o.inv.empty.no_descriptor y (sym (keys_same y) ∙ z);
    no_notify = λ y m z. wd (notify y m) (λ f. cc) ∙ o.inv.empty.no_notify y m (sym (keys_same y) ∙ z);
    no_recovery = λ y z. let old : s.word (key y) ≡ 0 = sym (keys_same y) ∙ z in word_other y (λ f. let a = o.has.1 in let b = ap (λ x. s.word (key x)) f in omega (arith, a, b, old)) ∙ o.inv.empty.no_recovery y old;
    no_job = λ i y z. wd (posted i y) (λ f. cc) ∙ o.inv.empty.no_job i y (sym (keys_same y) ∙ z);
    beyond = λ y m z has high. wd (notify y z) (λ f. cc) ∙ o.inv.empty.beyond y m z (had e s t keys_same y m has) high;
  }

  -- nobody renewed the key before
  none_renews : s.total (items (is_renew k)) ≡ 0
  none_renews = (o.inv.lives.each r k o.has).renewing ∙ (let a = stood in omega (arith, a))

  standing : LifeOf e s r k (s.word (recovery r))
  standing = o.inv.lives.each r k o.has

  life_here : LifeOf e t r k (2 * (l - 1) + 1)
  life_here = let st = standing.standing (let a = stood in omega (arith, a)) in let now : standing_life (s.word (recovery r)) ≡ l = (let a = stood in let b = o.some in omega (arith, a, b)) in let is : standing_life (2 * (l - 1) + 1) ≡ l = (let b = o.some in omega (arith, b)) in record {
    renewing = let a = o.change.sums (items (is_renew k)) in let b = o.view.added (is_renew k) in let d = ap hit (eqb_here k) in let f = none_renews in omega (arith, a, b, d, f);
    standing = λ z. absurd (omega (arith, z));
    being_replaced = λ z. record {
      done = 0;
      one_view = subst (λ x. t.total (items (is_renew_at k x 0)) ≡ 1) (sym is) (let a = o.change.sums (items (is_renew_at k l 0)) in let b = o.view.added (is_renew_at k l 0) in let d = three_here k l 0 in let f = none_at in omega (arith, a, b, d, f));
      at_most = omega arith;
      done_words = λ w inside less. absurd (omega (arith, less));
      other_words = λ w inside less. ap life_of (wd (notify r w) (λ z. cc)) ∙ st.notify_life w inside ∙ now ∙ sym is;
      descriptor_before = λ less. ap life_of (wd (descriptor r) (λ z. cc)) ∙ st.descriptor_life ∙ now ∙ sym is;
      descriptor_after = λ q. absurd (omega (arith, q));
    };
    at_most = let a = o.not_last in let b = o.some in omega (arith, a, b);
    suspected = λ a z. let b = standing.suspected a (low (is_suspect k a) refl z) in let d = stood in let f = o.some in let g = b.1 in (b.0, omega (arith, d, f, g));
  }
    where
      of : (x : Item) → is_renew_at k l 0 x ≡ true → is_renew k x ≡ true
      of (item.Renew a m b) f = (both (eqb k a) (eqb l m && eqb 0 b) f).0
      of x f = absurd cc

      none_at : s.total (items (is_renew_at k l 0)) ≡ 0
      none_at = o.sums.none (items (is_renew k)) (items (is_renew_at k l 0)) (λ y f. fewer_items (is_renew k) (is_renew_at k l 0) of y.stacks f) none_renews

  -- a test of another key's items
  apart : (p : Item → Bool) → hit (p (item.Renew k l 0)) ≡ 0 → hit (p (item.Suspect k l cause waits)) ≡ 0 → t.total (items p) ≡ s.total (items p)
  apart p a b = eq (items p) (let d = o.view.added p in omega (arith, a, b, d))

  life_there : (y m : ℕ) → HasKey e s y m → m ≢ k → LifeOf e t y m (s.word (recovery y))
  life_there y m has ne = row_lives e s t y m (s.word (recovery y)) (λ w. (shown y w).0) (apart (is_renew m) (not_here m k ne) refl) (λ a d. apart (is_renew_at m a d) (three_apart m a d k l 0 (λ q. ne q.0)) refl)
      (λ a z. (o.inv.lives.each y m has).suspected a (low (is_suspect m a) refl z)) (o.inv.lives.each y m has)

  pub elect_lives : Lives e t
  elect_lives = record {
    each = λ y m has. let old = had e s t keys_same y m has in dite (ℕ_discrete y r)
        (λ q. subst (λ x. LifeOf e t x m (t.word (recovery x))) (sym q) (subst (λ x. LifeOf e t r x (t.word (recovery r))) (sym (row_of y m old q)) (subst (LifeOf e t r k) (sym replaced_now) life_here)))
        (λ ne. subst (LifeOf e t y m) (sym (word_other y ne)) (life_there y m old (λ q. ne (at_row y m old q))));
  }

  pub elect_content : Content e t
  elect_content = wide_content e s t keys_same (λ y. wd (descriptor y) (λ z. cc)) (λ y w. wd (notify y w) (λ z. cc)) (λ m a i. rec (is_spent m a i) refl) (λ m a w. rec (is_closed m a w) refl) (λ m a h. rec (is_struck m a h) refl)
      (λ m a q. known_same (waits_at m a q) (λ x. refl) (λ x. refl)) o.inv.content

  word_here : (y m : ℕ) → HasKey e s y m → m ≡ k → s.word (spot_of y word.Recovery) ≡ n
  word_here y m old q = ap (λ x. s.word (recovery x)) (at_row y m old q) ∙ o.change.found_is

  pub elect_facts : Facts e t
  elect_facts = wide_facts e s t keys_same shown more
      (λ y m a z old x. ⊎_elim (λ f. o.inv.facts.life y m a z old (let b = seen_now (is_seen_life m z a) f in omega (arith, b, x)))
      (λ f. subst (λ (d : Word). a ≤ life_shown d (s.word (spot_of y d))) (sym f.2) (let h = f.1 in let b = ap standing_life (word_here y m old f.0) in omega (arith, h, b))) (life_any word.Recovery m a z k n v.known))
      (λ y m a z old x. ⊎_elim (λ f. o.inv.facts.mark y m a z old (let b = seen_now (is_seen_mark m z a) f in omega (arith, b, x))) (λ f. absurd (let h = f.3 in cc)) (mark_any word.Recovery m a z k n v.known))
      (λ m a z x. ⊎_elim (λ f. o.inv.facts.row_of_life m a z (let b = seen_now (is_seen_life m z a) f in omega (arith, b, x))) (λ f. (r, subst (HasKey e s r) (sym f.0) o.has)) (life_any word.Recovery m a z k n v.known))
      (λ m a z x. ⊎_elim (λ f. o.inv.facts.row_of_mark m a z (let b = seen_now (is_seen_mark m z a) f in omega (arith, b, x))) (λ f. (r, subst (HasKey e s r) (sym f.0) o.has)) (mark_any word.Recovery m a z k n v.known))
      (λ m a w z. o.inv.facts.closed m a w (let b = known_same (is_seen_closed m a w) (λ x. refl) (λ x. refl) in omega (arith, b, z)))
      (λ z. wd pending (λ f. cc) ∙ o.inv.facts.idle (let a = known_same is_idle (λ x. refl) (λ x. refl) in omega (arith, a, z))) (λ z. wd stop (λ f. cc) ∙ o.inv.facts.stopped (let a = known_same is_stopped (λ x. refl) (λ x. refl) in omega (arith, a, z)))
      (wd stop (λ f. cc) ∙ o.inv.facts.stops ∙ ap (min 1) (sym (known_same is_stops (λ x. refl) (λ x. refl))))

  pub elect_credits : Credits e t
  elect_credits = record {
    sum = let a = posted_same s.word t.word e.shape.rows (λ i y. wd (posted i y) (λ f. cc)) in let b = eq stack_count o.view.stacks_as_many in let d = eq spare o.view.spare_same in let f = wd pending (λ f. cc) in let h = o.inv.work.credits.sum in omega (arith, a, b, d, f, h);
    few_spare = let a = o.change.sums too_many in let b = kept is_owe refl in let f = o.view.spare_same in let h : too_many u ≤ too_many v = omega (arith, b, f) in let i = o.inv.work.credits.few_spare in let y = o.change.within too_many in omega (arith, a, h, i, y);
  }

  held_view : (i : Job) (m a : ℕ) → held i m a u ≡ held i m a v
  held_view Explore m a = kept (carries Explore m a) refl
  held_view Compute m a = kept (carries Compute m a) refl

  pub ended_view : (i : Job) (m a : ℕ) → ended i m a u ≡ ended i m a v
  ended_view i m a = ap (count (is_ended i m a)) o.view.ended_is

  pub begun_view : (i : Job) (m a : ℕ) → begun i m a u ≡ begun i m a v
  begun_view i m a = let b = held_view i m a in let d = ended_view i m a in omega (arith, b, d)

  pub post_same : (i : Job) (y a : ℕ) → hit (eqb a (t.word (posted i y))) ≡ hit (eqb a (s.word (posted i y)))
  post_same i y a = ap (λ z. hit (eqb a z)) (wd (posted i y) (λ f. cc))

  pub elect_jobs : Jobs e t
  elect_jobs = jobs_later e s t keys_same (λ y. let a = (shown y word.Descriptor).0 in omega (arith, a)) standing_same (λ i y m a old z. let b = it (is_owed i m a) refl in let d = eq (held i m a) (held_view i m a) in let f = eq (ended i m a) (ended_view i m a) in let h = post_same i y a in omega (arith, b, d, f, h))
      (λ i m. let b = it (is_owed i m 0) refl in let d = eq (held i m 0) (held_view i m 0) in let f = eq (ended i m 0) (ended_view i m 0) in let h = o.inv.work.jobs.some_life i m in omega (arith, b, d, f, h))
      (λ i m a. let b = eq (came i m a) (o.view.comes i m a) in let d = eq (begun i m a) (begun_view i m a) in let f = o.inv.work.jobs.came i m a in omega (arith, b, d, f)) more o.inv.work.jobs

  pub elect_computings : Computings e t
  elect_computings = wide_computings e s t keys_same
      (λ y m a old some q. (o.inv.work.computings.each y m a old some).unmade (let b = it (is_owed Compute m a) refl in let d = post_same Compute y a in let f = it (is_unmade m a) refl in omega (arith, b, d, f, q)))
      (λ y m a old some q. (o.inv.work.computings.each y m a old some).unwritten (let b = it (is_owed Compute m a) refl in let d = post_same Compute y a in let f = it (is_compute m a) refl in omega (arith, b, d, f, q)))
      (λ m a z. low (is_made m a) refl z) (λ m a z. low (is_close m a) refl z) (λ m a w z. low (is_close_from m a w) refl z) (λ m a w z. low (is_notify m a w) refl z)
      (λ m a z. let b = eq (begun Compute m a) (begun_view Compute m a) in omega (arith, b, z)) (it (is_made_early e.graph) refl) (λ m a. rec (is_computed m a) refl) (λ m a. rec (is_written m a) refl) (λ m a w. rec (is_closed m a w) refl) o.inv.work.computings
