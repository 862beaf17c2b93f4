-- A notify word that was closed keeps every part.
use Rattle.std.proofs.Common.{◌≡◌, ◌≢◌, ◌⊎◌, ℕ, ◌+◌, ◌-◌, ◌*◌, ◌/◌, ◌%◌, ◌^◌, ◌≤◌, ◌<◌, Bool, true, false, cond, ◌&&◌, eqb, ne_eqb, nat_lt, min, bit_or, ⊎_elim, inl, inr, arith, sym, ap, refl, ◌∙◌, subst}
use mathlib.Core.Logic.{dite}
use native.Mathlib.Decide.{ℕ_discrete}
use Rattle.std.specs.Int.{bit_at}
use Rattle.std.proofs.lemmas.Bool.{lt-ltb, le-ltb}
use Rattle.std.proofs.lemmas.Bool.Decides.{eqb_tells}
use Rattle.core_state.specs.Graph.{Setting, Edge, Reached}
use Rattle.core_state.specs.Words.{Spot, pending, stop, key, descriptor, notify, recovery, posted, turn, spot_of, life_of, mark_of, closed_bit, life_shown, mark_shown, standing_life, replacing}
use Rattle.core_state.specs.Counts.{hit, count, items, owed, held, ended, begun, came, noted, facts, waits, in_hand, in_wrong_hand, struck_by, struck_idly, struck_upto, stack_count, spare, too_many}
use Rattle.core_state.specs.Tests.{three, is_in, is_at, is_owed, is_owe, carries, explores, is_unmade, is_compute, is_made, is_made_any, is_close, is_close_from, is_notify, is_renew, is_renew_at, is_renew_of, is_suspect, is_suspect_for, is_any_suspect, suspects_block, notifies, reenters, is_ended, is_row, is_idle, is_stopped, is_stops, is_seen_life, is_seen_mark, is_seen_closed, waits_at, is_hand, strikes_upto, job_of, is_created, is_spent, is_computed, is_written, is_closed, is_closing, is_struck, is_struck_upto, is_misstruck, is_miswritten, is_version, is_replaced, is_replaced_for, is_of}
use Rattle.core_state.specs.Change.{Core, Change, Sums, many}
use Rattle.core_state.specs.Rows.{HasKey, HasRow, Keys, Empty, Lives, Shows, Lists, Content, Facts}
use Rattle.core_state.specs.Work.{Jobs, Computings, Credits, RootWork, is_made_early}
use Rattle.core_state.specs.Blocks.{Blocks}
use Rattle.core_state.specs.Records.{Records, Causes, Strikes}
use Rattle.core_state.specs.Cover.{covers_self, covers_edge, works, Needs, Waiting, Cover, Activity, NoFault}
use Rattle.core_state.specs.Invariant.{Invariant}
use Rattle.core_state.specs.Effects.{seen, ports_from}
use Rattle.core_state.specs.Views.{key_of}
use Rattle.graph_model.specs.declared.record.Hit.TheVariants as hit_of
use Rattle.graph_model.specs.declared.record.Record.{Record}
use Rattle.graph_model.specs.declared.record.Record.TheVariants as record_of
use Rattle.core_state.specs.declared.job.Job.{Job}
use Rattle.core_state.specs.declared.job.Job.TheVariants.{Explore, Compute}
use Rattle.core_state.specs.declared.views.Item.{Item}
use Rattle.core_state.specs.declared.views.Item.TheVariants as item
use Rattle.core_state.specs.declared.views.Known.{Known}
use Rattle.core_state.specs.declared.views.Known.TheVariants as known
use Rattle.core_state.specs.declared.views.Word.{Word}
use Rattle.core_state.specs.declared.views.Word.TheVariants as word
use Rattle.core_state.specs.declared.views.View.{View}
use Rattle.core_state.proofs.Base.Bits.{bit_set_here, bit_set_else, life_set, set_low}
use Rattle.core_state.proofs.Base.Counting.{bump_is, three_here, three_apart, three_else, two_here, two_tells}
use Rattle.core_state.proofs.Close.View.{ClosedView, listed, from_bit, close_two}
use Rattle.core_state.proofs.Base.Frame.{SameKeys, keys_stay, had, posted_same}
use Rattle.core_state.proofs.Spend.View.{seen_other}
use Rattle.core_state.proofs.Replace.Lives.{replaced_below}
use Rattle.core_state.proofs.Replace.Suspects.{notify_low}
use Rattle.core_state.proofs.Register.View.{seen_life_at, seen_mark_at}
use Rattle.core_state.proofs.Base.WeakFrame.{wide_needs, wide_lives, wide_jobs, wide_root, wide_causes, wide_strikes, wide_facts_now, wide_blocks, wide_activity, wide_no_fault}

module _ (e : Setting) (s t : Core) (sums : Sums s) (r k l w n : ℕ) (v u : View) (c : Change s t (notify r w) n (bit_or n (2 ^ 40)) v u) (has : HasKey e s r k) (word_in : w < e.graph.notify_words k)
    (plain : mark_of n ≡ 0) (opened : closed_bit n ≡ 0) (now : life_of n ≡ l) (some : 0 < l) (at_work : (p : Item → Bool) → hit (p (item.Close k l w)) ≤ items p v) (g : ClosedView k l w n v u) (inv : Invariant e s) where
  wd : (a : Spot) → (notify r w ≡ a → ⊥) → t.word a ≡ s.word a
  wd a ne = c.others a (λ z. ne (sym z))

  eq : (f : View → ℕ) → f u ≡ f v → t.total f ≡ s.total f
  eq f z = let a = c.sums f in omega (arith, a, z)

  -- what the view now has is in the sum
  at_least : (f : View → ℕ) → f u ≤ t.total f
  at_least f = let a = c.sums f in let b = c.within f in omega (arith, a, b)

  keys_same : SameKeys s t
  keys_same y = wd (key y) (λ z. cc)

  -- a test that does not see which word comes next
  kept : (p : Item → Bool) → p (item.Notify k l w (ports_from w n 0 40)) ≡ false → p (item.Close k l (w + 1)) ≡ p (item.Close k l w) → items p u ≡ items p v
  kept p a b = let d = g.added p in let f = ap hit a in let h = ap hit b in omega (arith, d, f, h)

  it : (p : Item → Bool) → p (item.Notify k l w (ports_from w n 0 40)) ≡ false → p (item.Close k l (w + 1)) ≡ p (item.Close k l w) → t.total (items p) ≡ s.total (items p)
  it p a b = eq (items p) (kept p a b)

  more : (p : Record → Bool) → many s p ≤ many t p
  more p = let a = c.sums (noted p) in let b = g.noted_more p in omega (arith, a, b)

  rec : (p : Record → Bool) → p (record_of.Closed (key_of k) l w) ≡ false → many t p ≡ many s p
  rec p z = eq (noted p) (let a = g.noted_more p in let b = ap hit z in omega (arith, a, b))

  known_same : (f : Known → Bool) → ((a : ℕ) → f (known.Life k (word.Notify w) a) ≡ false) → ((a : ℕ) → f (known.Mark k (word.Notify w) a) ≡ false) → f (known.Closed k l w) ≡ false → t.total (facts f) ≡ s.total (facts f)
  known_same f life mark closed = eq (facts f) (ap (count f) g.known_is ∙ ap (λ (b : Bool). Rattle.core_state.specs.Counts.bump b (count f (seen k (word.Notify w) n v.known))) closed ∙ seen_other f k (word.Notify w) n v.known life mark)

  seen_now : (f : Known → Bool) → f (known.Closed k l w) ≡ false → count f (seen k (word.Notify w) n v.known) ≡ count f v.known → t.total (facts f) ≡ s.total (facts f)
  seen_now f closed same = eq (facts f) (ap (count f) g.known_is ∙ ap (λ (b : Bool). Rattle.core_state.specs.Counts.bump b (count f (seen k (word.Notify w) n v.known))) closed ∙ same)

  closed_more : (m a b : ℕ) → many t (is_closed m a b) ≡ many s (is_closed m a b) + hit (three m a b k l w)
  closed_more m a b = let d = c.sums (noted (is_closed m a b)) in let f = g.noted_more (is_closed m a b) in omega (arith, d, f)

  closed_else : (m a b : ℕ) → ((m ≡ k) × (a ≡ l) × (b ≡ w) → ⊥) → many t (is_closed m a b) ≡ many s (is_closed m a b)
  closed_else m a b ne = let d = closed_more m a b in let f = three_apart m a b k l w ne in omega (arith, d, f)

  closed_now : many t (is_closed k l w) ≡ many s (is_closed k l w) + 1
  closed_now = let d = closed_more k l w in let f = three_here k l w in omega (arith, d, f)

  -- rows and words
  mark_kept : mark_of (bit_or n (2 ^ 40)) ≡ mark_of n
  mark_kept = bit_set_else n 40 41 (λ z. omega (arith, z))

  life_kept : life_of (bit_or n (2 ^ 40)) ≡ l
  life_kept = life_set n 40 (omega arith) ∙ now

  here_or : (y z : ℕ) → ((y ≡ r) × (z ≡ w)) ⊎ ((y ≡ r) × (z ≡ w) → ⊥)
  here_or y z = dite (ℕ_discrete y r) (λ a. dite (ℕ_discrete z w) (λ b. inl (a, b)) (λ ne. inr (λ f. ne f.1))) (λ ne. inr (λ f. ne f.0))

  old_word : (y z : ℕ) → (y ≡ r) × (z ≡ w) → s.word (notify y z) ≡ n
  old_word y z f = ap (λ o. s.word (notify o z)) f.0 ∙ ap (λ o. s.word (notify r o)) f.1 ∙ c.found_is

  new_word : (y z : ℕ) → (y ≡ r) × (z ≡ w) → t.word (notify y z) ≡ bit_or n (2 ^ 40)
  new_word y z f = ap (λ o. t.word (notify o z)) f.0 ∙ ap (λ o. t.word (notify r o)) f.1 ∙ c.left_is

  other_word : (y z : ℕ) → ((y ≡ r) × (z ≡ w) → ⊥) → t.word (notify y z) ≡ s.word (notify y z)
  other_word y z ne = c.others (notify y z) (λ f. ne (let a : y ≡ r = cc in let b : z ≡ w = cc in (a, b)))

  shown : (y : ℕ) (z : Word) → (life_shown z (t.word (spot_of y z)) ≡ life_shown z (s.word (spot_of y z))) × (mark_shown z (t.word (spot_of y z)) ≡ mark_shown z (s.word (spot_of y z)))
  shown y word.Descriptor = (ap life_of (wd (descriptor y) (λ z. cc)), ap mark_of (wd (descriptor y) (λ z. cc)))
  shown y (word.Notify z) = ⊎_elim (λ f. (ap life_of (new_word y z f) ∙ life_kept ∙ sym now ∙ sym (ap life_of (old_word y z f)), ap mark_of (new_word y z f) ∙ mark_kept ∙ sym (ap mark_of (old_word y z f)))) (λ ne. (ap life_of (other_word y z ne), ap mark_of (other_word y z ne))) (here_or y z)
  shown y word.Recovery = (ap standing_life (wd (recovery y) (λ z. cc)), refl)

  lists : Lists e s k w n
  lists = subst (Lists e s k w) c.found_is (inv.content.notify_words r k w has word_in)

  row_of : (y m : ℕ) → HasKey e s y m → y ≡ r → m ≡ k
  row_of y m it z = let a = it.1 in let b = has.1 in let d = ap (λ o. s.word (key o)) z in omega (arith, a, b, d)

  at_row : (y m : ℕ) → HasKey e s y m → m ≡ k → y ≡ r
  at_row y m old z = inv.keys.one_row y r k (subst (HasKey e s y) z old) has

  -- it was not closed in this life before
  none_yet : many s (is_closed k l w) ≡ 0
  none_yet = ap (λ o. many s (is_closed k o w)) (sym now) ∙ sym (lists.closing plain) ∙ opened

  set_bit : (i : ℕ) → i < 40 → 0 < s.total (waits k (life_of n) (40 * w + i)) → bit_at n i ≡ 1
  set_bit i low waiting = let a = lists.waiting plain opened i low in omega (arith, a, waiting)

  waiting_at : (i : ℕ) → i < 40 → bit_at n i ≡ 1 → 0 < s.total (waits k (life_of n) (40 * w + i))
  waiting_at i low set = let a = lists.waiting plain opened i low in omega (arith, a, set)

  pub closed_empty : Empty e t
  closed_empty = record {
    no_descriptor = λ y z. wd (descriptor y) (λ f. cc) ∙ inv.empty.no_descriptor y (sym (keys_same y) ∙ z);
    no_notify = λ y m z. let old : s.word (key y) ≡ 0 = sym (keys_same y) ∙ z in other_word y m (λ f. let a = has.1 in let b = ap (λ o. s.word (key o)) f.0 in omega (arith, a, b, old)) ∙ inv.empty.no_notify y m old;
    no_recovery = λ y z. wd (recovery y) (λ f. cc) ∙ inv.empty.no_recovery y (sym (keys_same y) ∙ z);
    no_job = λ i y z. wd (posted i y) (λ f. cc) ∙ inv.empty.no_job i y (sym (keys_same y) ∙ z);
    beyond = λ y m z it' low. let old = had e s t keys_same y m it' in other_word y z (λ f. let a = row_of y m old f.0 in let b = ap e.graph.notify_words a in let d = f.1 in let h = word_in in omega (arith, b, d, h, low)) ∙ inv.empty.beyond y m z old low;
  }

  pub closed_content : Content e t
  closed_content = record {
    descriptors = λ y m it'. subst (Shows e t m) (sym (wd (descriptor y) (λ f. cc))) (let o = inv.content.descriptors y m (had e s t keys_same y m it') in let d : ℕ = s.word (descriptor y) in record {
      other_bits = o.other_bits;
      spent = λ z j low. o.spent z j low ∙ sym (rec (is_spent m (life_of d) j) refl);
      struck = λ z. let a = o.struck z in let b = more (is_struck m (life_of d) hit_of.Descriptor) in omega (arith, a, b);
      root = o.root;
      spent_later = λ a j less. rec (is_spent m a j) refl ∙ o.spent_later a j less;
      struck_later = λ a less. rec (is_struck m a hit_of.Descriptor) refl ∙ o.struck_later a less;
    });
    notify_words = λ y m z it' low. let old = had e s t keys_same y m it' in ⊎_elim
        (λ f. subst (λ o. Lists e t o z (t.word (notify y z))) (sym (row_of y m old f.0)) (subst (λ o. Lists e t k o (t.word (notify y z))) (sym f.1) (subst (Lists e t k w) (sym (new_word y z f)) record {
          other_bits = set_low n 40 lists.other_bits (omega arith);
          closing = λ h. bit_set_here n 40 ∙ (let a = closed_now in let b = none_yet in omega (arith, a, b)) ∙ ap (λ o. many t (is_closed k o w)) (sym life_kept);
          waiting = λ h o b less. absurd (let a = bit_set_here n 40 in omega (arith, a, o));
          registered = λ h b less some. bit_set_else n 40 b (λ q. omega (arith, q, less)) ∙ set_bit b less (let a = known_same (waits_at k (life_of n) (40 * w + b)) (λ o. refl) (λ o. refl) refl in let x = subst (λ o. 0 < t.total (waits k o (40 * w + b))) (life_kept ∙ sym now) some in omega (arith, a, x));
          struck = λ h. absurd (let a = mark_kept in let b = plain in omega (arith, a, b, h));
          root = λ h. mark_kept ∙ plain;
          closed_later = λ a less. closed_else k a w (λ o. let x = o.1 in let b = life_kept in omega (arith, x, b, less)) ∙ lists.closed_later a (subst (λ o. o < a) (life_kept ∙ sym now) less);
          waiting_later = λ a b less low'. known_same (waits_at k a (40 * w + b)) (λ o. refl) (λ o. refl) refl ∙ lists.waiting_later a b (subst (λ o. o < a) (life_kept ∙ sym now) less) low';
          struck_later = λ a less. rec (is_struck k a (hit_of.Notify w)) refl ∙ lists.struck_later a (subst (λ o. o < a) (life_kept ∙ sym now) less);
        })))
        (λ ne. subst (Lists e t m z) (sym (other_word y z ne)) (let o = inv.content.notify_words y m z old low in let d : ℕ = s.word (notify y z) in record {
          other_bits = o.other_bits;
          closing = λ h. o.closing h ∙ sym (closed_else m (life_of d) z (λ f. ne (at_row y m old f.0, f.2)));
          waiting = λ h x b less. o.waiting h x b less ∙ ap (min 1) (sym (known_same (waits_at m (life_of d) (40 * z + b)) (λ o. refl) (λ o. refl) refl));
          registered = λ h b less some. o.registered h b less (let a = known_same (waits_at m (life_of d) (40 * z + b)) (λ o. refl) (λ o. refl) refl in omega (arith, a, some));
          struck = λ h. let a = o.struck h in let b = more (is_struck m (life_of d) (hit_of.Notify z)) in omega (arith, a, b);
          root = o.root;
          closed_later = λ a less. closed_else m a z (λ f. ne (at_row y m old f.0, f.2)) ∙ o.closed_later a less;
          waiting_later = λ a b less low'. known_same (waits_at m a (40 * z + b)) (λ o. refl) (λ o. refl) refl ∙ o.waiting_later a b less low';
          struck_later = λ a less. rec (is_struck m a (hit_of.Notify z)) refl ∙ o.struck_later a less;
        })) (here_or y z);
  }

  -- a port that is to be told now was registered
  told_row : (p q : ℕ) → p ≡ k → is_in q (ports_from w n 0 40) ≡ true → (q < e.graph.ports p) × HasRow e s (e.graph.succ p q).task
  told_row p q is there = let z = from_bit w n 0 40 q there in let low : z.0 < 40 = (let a = z.2 in omega (arith, a)) in let a = inv.keys.of_waiting k (life_of n) (40 * w + z.0) (waiting_at z.0 low z.4) in
      (subst (λ o. q < e.graph.ports o) (sym is) (subst (λ o. o < e.graph.ports k) (sym z.3) a.0), subst (λ o. HasRow e s (e.graph.succ o q).task) (sym is) (subst (λ o. HasRow e s (e.graph.succ k o).task) (sym z.3) a.2))

  pub closed_keys : Keys e t
  closed_keys = keys_stay e s t keys_same (λ y m z. inv.keys.known y m (let a = known_same (is_row y m) (λ o. refl) (λ o. refl) refl in omega (arith, a, z)))
      (λ m z. dite (ℕ_discrete m k) (λ f. (r, subst (HasKey e s r) (sym f) has)) (λ ne. inv.keys.of_item m (let a = c.sums (items (is_at m)) in let b = g.added (is_at m) in let f = ap hit (ne_eqb m k ne) in omega (arith, a, b, f, z))))
      (λ i m a z. inv.keys.of_ended i m a (let b = eq (ended i m a) (ap (count (is_ended i m a)) g.ended_is) in omega (arith, b, z)))
      (λ p a q z. inv.keys.of_waiting p a q (let b = known_same (waits_at p a q) (λ o. refl) (λ o. refl) refl in omega (arith, b, z)))
      (λ p q z. let a = c.sums (items (notifies p q)) in let b = g.added (notifies p q) in ⊎_elim
      (λ f. by p q f.1 (is_in q (ports_from w n 0 40)) refl (λ o. inv.keys.of_notify p q (let h : hit (eqb p k && is_in q (ports_from w n 0 40)) ≡ 0 = rw (f.0, o) refl in omega (arith, a, b, h, z))))
      (λ f. inv.keys.of_notify p q (let h : hit (eqb p k && is_in q (ports_from w n 0 40)) ≡ 0 = ap (λ (o : Bool). hit (o && is_in q (ports_from w n 0 40))) f.0 in omega (arith, a, b, h, z))) (eqb_tells p k))
      (λ b y z. inv.keys.of_cause b y (let a = it (suspects_block b y) refl refl in omega (arith, a, z))) (λ m. rec (is_created m) refl) inv.keys
    where
      by : (p q : ℕ) → p ≡ k → (b : Bool) → is_in q (ports_from w n 0 40) ≡ b → (is_in q (ports_from w n 0 40) ≡ false → (q < e.graph.ports p) × HasRow e s (e.graph.succ p q).task) → (q < e.graph.ports p) × HasRow e s (e.graph.succ p q).task
      by p q is true f none = told_row p q is f
      by p q is false f none = none f

  pub closed_lives : Lives e t
  closed_lives = wide_lives e s t keys_same (λ y. wd (recovery y) (λ z. cc)) shown (λ m. it (is_renew m) refl refl) (λ m a d. it (is_renew_at m a d) refl refl)
      (λ y m a old z. (inv.lives.each y m old).suspected a (let b = it (is_suspect m a) refl refl in omega (arith, b, z))) inv.lives

  -- a word that was seen closed was so before, or is this one
  closed_seen : (m a b : ℕ) → 0 < t.total (facts (is_seen_closed m a b)) → 0 < many t (is_closed m a b)
  closed_seen m a b z = ⊎_elim
      (λ f. let o = inv.facts.closed m a b (let h = eq (facts (is_seen_closed m a b)) (ap (count (is_seen_closed m a b)) g.known_is ∙ (let x = bump_is (three m a b k l w) (count (is_seen_closed m a b) (seen k (word.Notify w) n v.known)) in let y = seen_other (is_seen_closed m a b) k (word.Notify w) n v.known (λ o. refl) (λ o. refl) in omega (arith, x, y, f))) in omega (arith, h, z)) in let h = more (is_closed m a b) in omega (arith, o, h))
      (λ f. let h = closed_more m a b in let o = three_here k l w in let x : hit (three m a b k l w) ≡ hit (three k l w k l w) = ap (λ y. hit (three y a b k l w)) f.0 ∙ ap (λ y. hit (three k y b k l w)) f.1 ∙ ap (λ y. hit (three k l y k l w)) f.2 in omega (arith, h, o, x)) (three_else m a b k l w)

  word_here : (y m : ℕ) → HasKey e s y m → m ≡ k → s.word (spot_of y (word.Notify w)) ≡ n
  word_here y m old f = old_word y w (at_row y m old f, refl)

  pub closed_facts : Facts e t
  closed_facts = wide_facts_now e s t keys_same shown
      (λ y m a z old x. ⊎_elim (λ f. inv.facts.life y m a z old (let b = seen_now (is_seen_life m z a) refl f in omega (arith, b, x)))
      (λ f. subst (λ (d : Word). a ≤ life_shown d (s.word (spot_of y d))) (sym f.2) (let o = f.1 in let b = ap life_of (word_here y m old f.0) in omega (arith, o, b))) (seen_life_at m a z k w n v.known))
      (λ y m a z old x. ⊎_elim (λ f. inv.facts.mark y m a z old (let b = seen_now (is_seen_mark m z a) refl f in omega (arith, b, x))) (λ f. absurd (let o = f.3 in let b = plain in omega (arith, o, b))) (seen_mark_at m a z k w n v.known))
      (λ m a z x. ⊎_elim (λ f. inv.facts.row_of_life m a z (let b = seen_now (is_seen_life m z a) refl f in omega (arith, b, x))) (λ f. (r, subst (HasKey e s r) (sym f.0) has)) (seen_life_at m a z k w n v.known))
      (λ m a z x. ⊎_elim (λ f. inv.facts.row_of_mark m a z (let b = seen_now (is_seen_mark m z a) refl f in omega (arith, b, x))) (λ f. (r, subst (HasKey e s r) (sym f.0) has)) (seen_mark_at m a z k w n v.known))
      closed_seen
      (λ z. wd pending (λ f. cc) ∙ inv.facts.idle (let a = known_same is_idle (λ o. refl) (λ o. refl) refl in omega (arith, a, z))) (λ z. wd stop (λ f. cc) ∙ inv.facts.stopped (let a = known_same is_stopped (λ o. refl) (λ o. refl) refl in omega (arith, a, z)))
      (wd stop (λ f. cc) ∙ inv.facts.stops ∙ ap (min 1) (sym (known_same is_stops (λ o. refl) (λ o. refl) refl)))

  pub closed_credits : Credits e t
  closed_credits = record {
    sum = let a = posted_same s.word t.word e.shape.rows (λ i y. wd (posted i y) (λ f. cc)) in let b = eq stack_count g.stacks_as_many in let d = eq spare g.spare_same in let f = wd pending (λ f. cc) in let h = inv.work.credits.sum in omega (arith, a, b, d, f, h);
    few_spare = let a = c.sums too_many in let b = kept is_owe refl refl in let f = g.spare_same in let h : too_many u ≤ too_many v = omega (arith, b, f) in let o = inv.work.credits.few_spare in let y = c.within too_many in omega (arith, a, h, o, y);
  }

  held_view : (i : Job) (m a : ℕ) → held i m a u ≡ held i m a v
  held_view Explore m a = kept (carries Explore m a) refl refl
  held_view Compute m a = kept (carries Compute m a) refl refl

  ended_view : (i : Job) (m a : ℕ) → ended i m a u ≡ ended i m a v
  ended_view i m a = ap (count (is_ended i m a)) g.ended_is

  begun_view : (i : Job) (m a : ℕ) → begun i m a u ≡ begun i m a v
  begun_view i m a = let b = held_view i m a in let d = ended_view i m a in omega (arith, b, d)

  owed_same : (i : Job) (m a : ℕ) → t.total (owed i m a) ≡ s.total (owed i m a)
  owed_same i m a = it (is_owed i m a) refl refl

  post_same : (i : Job) (y a : ℕ) → hit (eqb a (t.word (posted i y))) ≡ hit (eqb a (s.word (posted i y)))
  post_same i y a = ap (λ z. hit (eqb a z)) (wd (posted i y) (λ f. cc))

  pub closed_jobs : Jobs e t
  closed_jobs = wide_jobs e s t keys_same shown (λ y. wd (recovery y) (λ f. cc)) (λ i y m a old z. let b = owed_same i m a in let d = eq (held i m a) (held_view i m a) in let f = eq (ended i m a) (ended_view i m a) in let h = post_same i y a in omega (arith, b, d, f, h))
      (λ i m. let b = owed_same i m 0 in let d = eq (held i m 0) (held_view i m 0) in let f = eq (ended i m 0) (ended_view i m 0) in let h = inv.work.jobs.some_life i m in omega (arith, b, d, f, h))
      (λ i m a. let b = eq (came i m a) (g.comes i m a) in let d = eq (begun i m a) (begun_view i m a) in let f = inv.work.jobs.came i m a in omega (arith, b, d, f)) more inv.work.jobs

  -- this closing is the only one of its life
  one_held : s.total (held Compute k l) ≤ 1
  one_held = let a = inv.work.jobs.computed r k l has some in omega (arith, a)

  both_from : (x y : ℕ) → x ≢ y → s.total (items (is_close_from k l x)) + s.total (items (is_close_from k l y)) ≤ s.total (held Compute k l)
  both_from x y ne = let a = sums.add (items (is_close_from k l x)) (items (is_close_from k l y)) in let b = sums.below (λ o. items (is_close_from k l x) o + items (is_close_from k l y) o) (held Compute k l) (λ o. close_two k l x y ne o) in omega (arith, a, b)

  closes_here : 0 < s.total (items (is_close_from k l w))
  closes_here = let a = c.within (items (is_close_from k l w)) in let b = at_work (is_close_from k l w) in let d = three_here k l w in omega (arith, a, b, d)

  next_word : (x : ℕ) → 0 < t.total (items (is_close_from k l x)) → x ≡ w + 1
  next_word x z = dite (ℕ_discrete x (w + 1)) (λ q. q) (λ ne. absurd (let a = c.sums (items (is_close_from k l x)) in let b = g.added (is_close_from k l x) in let d = three_apart k l x k l (w + 1) (λ q. ne q.2) in let f = one_held in let h = closes_here in dite (ℕ_discrete x w)
      (λ q. let o = both_from w (w + 1) (λ z. omega (arith, z)) in let i = three_here k l w in let j : hit (three k l x k l w) ≡ hit (three k l w k l w) = ap (λ y. hit (three k l y k l w)) q in let m = ap (λ y. s.total (items (is_close_from k l y))) q in omega (arith, a, b, d, f, o, i, j, m, z))
      (λ not. let o = both_from x w not in omega (arith, a, b, d, f, h, o, z))))

  -- exactly the words below the next one are closed
  closed_below : (i : ℕ) → many t (is_closed k l i) ≡ hit (nat_lt i (w + 1))
  closed_below i = let old = (inv.work.computings.each r k l has some).closing w i closes_here in dite (ℕ_discrete i w)
      (λ q. ap (λ o. many t (is_closed k l o)) q ∙ (let a = closed_now in let b = none_yet in let d : hit (nat_lt i (w + 1)) ≡ 1 = ap hit (lt-ltb i (w + 1) (omega (arith, q))) in omega (arith, a, b, d)))
      (λ ne. closed_else k l i (λ q. ne q.2) ∙ old ∙ same ne)
    where
      same : i ≢ w → hit (nat_lt i w) ≡ hit (nat_lt i (w + 1))
      same ne = dite (native.Mathlib.Decide.dec_lt i w) (λ q. ap hit (lt-ltb i w q) ∙ sym (ap hit (lt-ltb i (w + 1) (omega (arith, q))))) (λ not. ap hit (le-ltb i w (omega (arith, not))) ∙ sym (ap hit (le-ltb i (w + 1) (omega (arith, not, ne)))))

  same_life : (m a : ℕ) → ((m ≡ k) × (a ≡ l)) ⊎ ((m ≡ k) × (a ≡ l) → ⊥)
  same_life m a = dite (ℕ_discrete m k) (λ x. dite (ℕ_discrete a l) (λ y. inl (x, y)) (λ ne. inr (λ f. ne f.1))) (λ ne. inr (λ f. ne f.0))

  from_same : (m a x : ℕ) → ((m ≡ k) × (a ≡ l) → ⊥) → t.total (items (is_close_from m a x)) ≡ s.total (items (is_close_from m a x))
  from_same m a x ne = let b = c.sums (items (is_close_from m a x)) in let d = g.added (is_close_from m a x) in let f = three_apart m a x k l w (λ q. ne (q.0, q.1)) in let h = three_apart m a x k l (w + 1) (λ q. ne (q.0, q.1)) in omega (arith, b, d, f, h)

  pub closed_computings : Computings e t
  closed_computings = record {
    each = λ y m a it' low. let old_key = had e s t keys_same y m it' in let old = inv.work.computings.each y m a old_key low in record {
      unmade = λ z. rec (is_computed m a) refl ∙ old.unmade (let b = owed_same Compute m a in let d = post_same Compute y a in let f = it (is_unmade m a) refl refl in omega (arith, b, d, f, z));
      made = λ z. let b = old.made (let f = it (is_made m a) refl refl in omega (arith, f, z)) in let d = more (is_computed m a) in omega (arith, b, d);
      unwritten = λ z. rec (is_written m a) refl ∙ old.unwritten (let b = owed_same Compute m a in let d = post_same Compute y a in let f = it (is_compute m a) refl refl in omega (arith, b, d, f, z));
      written = λ z. let b = old.written (let f = it (is_close m a) refl refl in omega (arith, f, z)) in let d = more (is_written m a) in omega (arith, b, d);
      closing = λ x i z. ⊎_elim
          (λ q. let here : 0 < t.total (items (is_close_from k l x)) = subst (λ o. 0 < t.total (items (is_close_from o l x))) q.0 (subst (λ o. 0 < t.total (items (is_close_from m o x))) q.1 z) in
          ap (λ o. many t (is_closed o a i)) q.0 ∙ ap (λ o. many t (is_closed k o i)) q.1 ∙ closed_below i ∙ ap (λ o. hit (nat_lt i o)) (sym (next_word x here)))
          (λ ne. closed_else m a i (λ q. ne (q.0, q.1)) ∙ old.closing x i (let b = from_same m a x ne in omega (arith, b, z))) (same_life m a);
      close_word = λ x z. ⊎_elim
          (λ q. let here : 0 < t.total (items (is_close_from k l x)) = subst (λ o. 0 < t.total (items (is_close_from o l x))) q.0 (subst (λ o. 0 < t.total (items (is_close_from m o x))) q.1 z) in
          subst (λ o. x ≤ e.graph.notify_words o) (sym q.0) (let b = next_word x here in let d = word_in in omega (arith, b, d)))
          (λ ne. old.close_word x (let b = from_same m a x ne in omega (arith, b, z))) (same_life m a);
      notifying = λ x z. let b = c.sums (items (is_notify m a x)) in let d = g.added (is_notify m a x) in let f = closed_more m a x in ⊎_elim (λ q. let h = old.notifying x (omega (arith, b, d, q, z)) in omega (arith, f, h))
          (λ q. let o = three_here k l w in let h : hit (three m a x k l w) ≡ hit (three k l w k l w) = ap (λ y. hit (three y a x k l w)) q.0 ∙ ap (λ y. hit (three k y x k l w)) q.1 ∙ ap (λ y. hit (three k l y k l w)) q.2 in omega (arith, f, o, h)) (three_else m a x k l w);
      begun = λ z. let b = old.begun (let f = rec (is_computed m a) refl in omega (arith, f, z)) in let d = eq (begun Compute m a) (begun_view Compute m a) in omega (arith, b, d);
    };
    none_early = it (is_made_early e.graph) refl refl ∙ inv.work.computings.none_early;
  }

  hands_same : (b : ℕ) → in_hand b u ≡ in_hand b v
  hands_same b = ap (count (is_hand b)) g.hands_are

  wrong_same : (b m : ℕ) → in_wrong_hand b m u ≡ in_wrong_hand b m v
  wrong_same b m = ap (λ y. cond (eqb y 0) (in_hand b u) 0) (kept (is_made_any m) refl refl) ∙ ap (λ y. cond (eqb (items (is_made_any m) v) 0) y 0) (hands_same b)

  pub closed_root : RootWork e t
  closed_root = wide_root e s t (λ a z. let b = it (is_suspect e.graph.root a) refl refl in omega (arith, b, z)) (λ a. rec (is_replaced e.graph.root a) refl) (λ a. let b = eq (ended Compute e.graph.root a) (ended_view Compute e.graph.root a) in omega (arith, b))
      (λ a. rec (is_computed e.graph.root a) refl) (λ b m. let a = eq (in_wrong_hand b m) (wrong_same b m) in omega (arith, a)) (λ b. eq (in_hand b) (hands_same b)) (λ b. c.blocks b (λ f. cc)) inv.work.root

  pub closed_blocks : Blocks e t
  closed_blocks = wide_blocks e s t (λ b. wd (turn b) (λ f. cc)) (λ b. eq (in_hand b) (hands_same b)) more (λ b y. rec (is_version b y) refl) (λ b. c.blocks b (λ f. cc)) inv.blocks

  new_of : (m a : ℕ) → (many t (is_of m a) ≡ many s (is_of m a)) ⊎ ((m ≡ k) × (a ≡ l))
  new_of m a = ⊎_elim (λ z. inl (rec (is_of m a) z)) (λ z. inr (z.1, z.2)) (two_tells m a k l)

  pub closed_records : Records e t
  closed_records = record {
    spent = record {
      once = λ m a i. let b = rec (is_spent m a i) refl in let d = inv.records.spent.once m a i in omega (arith, b, d);
      is_place = λ m a i z. inv.records.spent.is_place m a i (let b = rec (is_spent m a i) refl in omega (arith, b, z));
    };
    computed = record {
      computed_once = λ m a. let b = rec (is_computed m a) refl in let d = inv.records.computed.computed_once m a in omega (arith, b, d);
      computed_ready = λ m a i z at. let b = inv.records.computed.computed_ready m a i (let d = rec (is_computed m a) refl in omega (arith, d, z)) at in let d = more (is_spent m a i) in omega (arith, b, d);
      written_once = λ m a. let b = rec (is_written m a) refl in let d = inv.records.computed.written_once m a in omega (arith, b, d);
      written_place = rec (is_miswritten e.graph) refl ∙ inv.records.computed.written_place;
      written_computed = λ m a z. let b = inv.records.computed.written_computed m a (let d = rec (is_written m a) refl in omega (arith, d, z)) in let d = more (is_computed m a) in omega (arith, b, d);
      closed_once = λ m a y. let b = closed_more m a y in ⊎_elim (λ q. let d = inv.records.computed.closed_once m a y in omega (arith, b, d, q))
          (λ q. subst (λ o. many t (is_closed o a y) ≤ 1) (sym q.0) (subst (λ o. many t (is_closed k o y) ≤ 1) (sym q.1) (subst (λ o. many t (is_closed k l o) ≤ 1) (sym q.2) (let d = closed_now in let f = none_yet in omega (arith, d, f))))) (three_else m a y k l w);
      closed_word = λ m a y z. let b = closed_more m a y in ⊎_elim (λ q. inv.records.computed.closed_word m a y (omega (arith, b, q, z))) (λ q. subst (λ o. y < e.graph.notify_words o) (sym q.0) (let d = q.2 in let f = word_in in omega (arith, d, f))) (three_else m a y k l w);
      closed_written = λ m a y z. let b = closed_more m a y in let d = more (is_written m a) in ⊎_elim (λ q. let f = inv.records.computed.closed_written m a y (omega (arith, b, q, z)) in omega (arith, d, f))
          (λ q. let f = (inv.work.computings.each r k l has some).written closes in let h : many s (is_written m a) ≡ many s (is_written k l) = ap (λ o. many s (is_written o a)) q.0 ∙ ap (λ o. many s (is_written k o)) q.1 in omega (arith, d, f, h)) (three_else m a y k l w);
    };
    lives = record {
      replaced_before = λ m a later z. ⊎_elim (λ q. let b = inv.records.lives.replaced_before m a later (omega (arith, q, z)) in let d = more (is_replaced m (a - 1)) in omega (arith, b, d))
          (λ q. subst (λ o. 0 < many t (is_replaced o (a - 1))) (sym q.0) (let b = replaced_below e s r k a inv.records has later (let low = notify_low e s r k (s.word (recovery r)) (inv.lives.each r k has) w word_in in let f = q.1 in let h = ap life_of c.found_is in let j = now in omega (arith, low, f, h, j)) in let d = more (is_replaced k (a - 1)) in omega (arith, b, d))) (new_of m a);
      created_once = λ m a z. rec (is_created m) refl ∙ ⊎_elim (λ q. inv.records.lives.created_once m a (omega (arith, q, z))) (λ q. subst (λ o. many s (is_created o) ≡ 1) (sym q.0) (inv.keys.created r k has)) (new_of m a);
      reached = λ m a z. ⊎_elim (λ q. inv.records.lives.reached m a (omega (arith, q, z))) (λ q. subst (Reached e.graph) (sym q.0) (inv.keys.reached r k has)) (new_of m a);
    };
    edges = record { closed = λ m a i low z. let b = inv.records.edges.closed m a i low (let d = rec (is_spent m a i) refl in omega (arith, d, z)) in let d = more (is_closing (e.graph.pred m i).task ((e.graph.pred m i).port / 40)) in omega (arith, b, d) };
    some_life = λ m. ⊎_elim (λ q. q ∙ inv.records.some_life m) (λ q. absurd (let a = q.1 in let b = some in omega (arith, a, b))) (new_of m 0);
    replaced = λ y m a it'. rec (is_replaced m a) refl ∙ inv.records.replaced y m a (had e s t keys_same y m it') ∙ ap (λ z. hit (nat_lt 0 a && nat_lt a (standing_life z + replacing z))) (sym (wd (recovery y) (λ q. cc)));
    names_own = rec (is_misstruck e.graph) refl ∙ inv.records.names_own;
  }
    where
      closes : 0 < s.total (items (is_close k l))
      closes = let a = c.within (items (is_close k l)) in let b = at_work (is_close k l) in let d = ap hit (two_here k l) in omega (arith, a, b, d)

  pub closed_causes : Causes e t
  closed_causes = wide_causes e s t more (λ m a d. rec (is_replaced_for m a d) refl) (λ m a d z. inv.causes.suspected m a d (let b = it (is_suspect_for m a d) refl refl in omega (arith, b, z))) inv.causes

  pub closed_strikes : Strikes e t
  closed_strikes = wide_strikes e s t keys_same shown more (λ y. eq (struck_by y) (ap (count (eqb y)) g.strikes_are))
      (λ y z. let a = eq (struck_idly y z) (ap (λ o. cond (eqb o 0) (struck_by z u) 0) (begun_view (job_of y.point) y.key.0 y.life) ∙ ap (λ o. cond (eqb (begun (job_of y.point) y.key.0 y.life v) 0) (count (eqb z) o) 0) g.strikes_are) in omega (arith, a))
      (λ m a h. eq (struck_upto e.plan m a h) (ap (count (strikes_upto e.plan m a h)) g.strikes_are)) (λ m a h. rec (is_struck_upto m a h) refl) inv.strikes

  selfs_same : (m a i : ℕ) → t.total (covers_self m a i) ≡ s.total (covers_self m a i)
  selfs_same m a i = eq (covers_self m a i) (let b = kept (explores m a i) refl refl in let d = kept (is_owed Explore m a) refl refl in let f = kept (is_suspect m a) refl refl in omega (arith, b, d, f))

  edges_rise : (p q : ℕ) → s.total (covers_edge p q) ≤ t.total (covers_edge p q)
  edges_rise p q = let a = c.sums (covers_edge p q) in let b = g.added (notifies p q) in let d = kept (is_renew p) refl refl in let f = kept (reenters p q) refl refl in omega (arith, a, b, d, f)

  -- who waited at the word is to be told now
  waits_or_told : (p q : ℕ) → Waiting e s p q → (0 < t.total (covers_edge p q)) ⊎ Waiting e t p q
  waits_or_told p q z = let d : ℕ = s.word (notify z.row (q / 40)) in ⊎_elim
      (λ f. let is = row_of z.row p z.has_key f.0 in let found = old_word z.row (q / 40) f in let whole : 40 * w + q % 40 ≡ q = (let a = f.1 in omega (arith, a)) in
      let waited : 0 < s.total (waits k (life_of n) (40 * w + q % 40)) = subst (λ o. 0 < s.total (waits k (life_of n) o)) (sym whole) (subst (λ o. 0 < s.total (waits o (life_of n) q)) is (subst (λ o. 0 < s.total (waits p (life_of o) q)) found z.waits_there)) in
      let there : is_in q (ports_from w n 0 40) ≡ true = subst (λ o. is_in o (ports_from w n 0 40) ≡ true) whole (listed w n 0 40 (q % 40) (omega arith) (omega arith) (set_bit (q % 40) (omega arith) waited)) in
      inl (let a = at_least (covers_edge p q) in let b = g.added (notifies p q) in let h : hit (eqb p k && is_in q (ports_from w n 0 40)) ≡ 1 = rw (there, is, Rattle.core_state.proofs.Base.Counting.eqb_here k) in omega (arith, a, b, h)))
      (λ ne. let same = other_word z.row (q / 40) ne in inr record {
        row = z.row;
        has_key = (z.has_key.0, keys_same z.row ∙ z.has_key.1);
        waits_there = subst (λ o. 0 < t.total (waits p (life_of o) q)) (sym same) (let a = known_same (waits_at p (life_of d) q) (λ o. refl) (λ o. refl) refl in let b = z.waits_there in omega (arith, a, b));
        open_word = subst (λ o. many t (is_closed p (life_of o) (q / 40)) ≡ 0) (sym same) (closed_else p (life_of d) (q / 40) (λ f. ne (at_row z.row p z.has_key f.0, f.2)) ∙ z.open_word);
      }) (here_or z.row (q / 40))

  pub closed_cover : Cover e t
  closed_cover = record {
    places = λ y m a i needs low. let d = post_same Explore y a in let x : Edge = e.graph.pred m i in let f = selfs_same m a i in let h = edges_rise x.task x.port in ⊎_elim (λ o. inl (omega (arith, d, f, h, o))) (λ o. ⊎_elim (λ z. inl (omega (arith, z))) (λ z. inr z) (waits_or_told x.task x.port o)) (inv.cover.places y m a i (old_needs y m a i needs) low);
    self_place = λ y m a needs. let d = post_same Explore y a in let f = selfs_same m a 40 in let o = inv.cover.self_place y m a (old_needs y m a 40 needs) in omega (arith, d, f, o);
  }
    where
      old_needs : (y m a i : ℕ) → Needs e t y m a i → Needs e s y m a i
      old_needs = wide_needs e s t keys_same shown (λ y. wd (recovery y) (λ f. cc)) (λ m a i z. sym (rec (is_spent m a i) refl) ∙ z)

  pub closed_activity : Activity e t
  closed_activity = wide_activity e s t keys_same shown more (λ m a i z. let b = rec (is_spent m a i) refl in omega (arith, b, z))
      (λ y m a old z. let b = eq (works m a) (let x = kept (is_owed Compute m a) refl refl in let y = held_view Compute m a in let o = kept (is_suspect m a) refl refl in let q = kept (is_renew_of m a) refl refl in omega (arith, x, y, o, q)) in let h = post_same Compute y a in omega (arith, b, h)) inv.activity

  pub closed_no_fault : NoFault e t
  closed_no_fault = wide_no_fault e s t keys_same (λ y. wd (recovery y) (λ f. cc)) more (λ unstruck old. it is_any_suspect refl refl ∙ old.none_suspected) (λ b y. rec (is_version b y) refl) (λ b. c.blocks b (λ f. cc)) inv.no_fault

  pub closed_keeps : Invariant e t
  closed_keeps = record {
    keys = closed_keys;
    empty = closed_empty;
    lives = closed_lives;
    content = closed_content;
    facts = closed_facts;
    work = record { credits = closed_credits; jobs = closed_jobs; computings = closed_computings; root = closed_root };
    blocks = closed_blocks;
    records = closed_records;
    causes = closed_causes;
    strikes = closed_strikes;
    cover = closed_cover;
    activity = closed_activity;
    no_fault = closed_no_fault;
  }
