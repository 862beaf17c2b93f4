-- A word that is renewed keeps every part: it becomes the empty word of the next life, of which nothing is recorded and nothing waits.
use Rattle.std.proofs.Common.{◌≡◌, ◌≢◌, ◌⊎◌, ℕ, ◌+◌, ◌-◌, ◌*◌, ◌/◌, ◌^◌, ◌<◌, Bool, ◌&&◌, eqb, ne_eqb, min, List, [], ◌∷◌, ⊎_elim, inl, inr, arith, sym, ap, refl, ◌∙◌, subst}
use mathlib.Core.Logic.{dite}
use native.Mathlib.Decide.{ℕ_discrete}
use Rattle.std.specs.Int.{bit_at}
use Rattle.std.proofs.lemmas.Nat.Bits.{bit_at-zero, bit_at_cat_low}
use Rattle.core_state.specs.Graph.{Setting, Edge}
use Rattle.core_state.specs.Words.{descriptor, notify, recovery, spot_of, life_of, life_shown, standing_life, replacing, empty_word}
use Rattle.core_state.specs.Counts.{hit, count, items, owed}
use Rattle.core_state.specs.Tests.{three, is_owed, is_owe, explores, is_renew, is_renew_at, is_renew_of, is_suspect, is_any_suspect, notifies, reenters, is_spent, is_struck, is_closed, is_version}
use Rattle.core_state.specs.Change.{Core, Change}
use Rattle.core_state.specs.Rows.{HasKey, LifeOf, Lives, Shows, Lists, Content}
use Rattle.core_state.specs.Work.{Jobs}
use Rattle.core_state.specs.Cover.{covers_self, covers_edge, works, Needs, Waiting, Cover, Activity}
use Rattle.core_state.specs.Invariant.{Invariant}
use Rattle.core_state.specs.Guards.{AtWork}
use Rattle.core_state.specs.Effects.{after_renew}
use Rattle.core_state.specs.Views.{without_first}
use Rattle.graph_model.specs.declared.record.Hit.TheVariants as hit_of
use Rattle.core_state.specs.declared.job.Job.{Job}
use Rattle.core_state.specs.declared.job.Job.TheVariants.{Explore, Compute}
use Rattle.core_state.specs.declared.views.Item.{Item}
use Rattle.core_state.specs.declared.views.Item.TheVariants as item
use Rattle.core_state.specs.declared.views.Word.{Word}
use Rattle.core_state.specs.declared.views.Word.TheVariants as word
use Rattle.core_state.specs.declared.views.View.{View}
use Rattle.core_state.proofs.Base.Bits.{no_low_bits}
use Rattle.core_state.proofs.Base.Counting.{bump_is, eqb_here, three_here}
use Rattle.core_state.proofs.Base.Frame.{SameRecovery, had, same_shows, same_lists, needs_at, waiting_at, activity_at, frame_records}
use Rattle.core_state.proofs.Credit.JobView.{same_key}
use Rattle.core_state.proofs.Base.ItemMoves.{swapped}
use Rattle.core_state.proofs.Replace.RenewalParts.{Aside, OneRenewal, the_renewal, Rest, renewal_rest}
use Rattle.core_state.proofs.Blocks.AtWork.{at_work}
use Rattle.core_state.proofs.Base.WeakFrame.{row_lives, jobs_later, wide_no_fault}

-- the word that is renewed after so many: a notify word, and after all of them the descriptor
abbrev pub IsNext : Setting → ℕ → ℕ → Word → Type 0
IsNext e k done y = ((y ≡ word.Notify done) × (done < e.graph.notify_words k)) ⊎ ((y ≡ word.Descriptor) × (done ≡ e.graph.notify_words k))

module _ (e : Setting) (s t : Core) (r k l done n : ℕ) (y : Word) (v : View) (has : HasKey e s r k) (next : IsNext e k done y) (at : AtWork v (item.Renew k l done)) (c : Change s t (spot_of r y) n (empty_word (l + 1)) v (after_renew k l done v)) (inv : Invariant e s) where
  abbrev swap : List Item → List Item
  swap xs = item.Renew k l (done + 1) ∷ without_first xs

  added : (p : Item → Bool) → items p (after_renew k l done v) + hit (p (item.Renew k l done)) ≡ items p v + hit (p (item.Renew k l (done + 1)))
  added p = let a = swapped p swap v.stacks at.others at.stack (item.Renew k l done) at.below (item.Renew k l (done + 1) ∷ at.below) at.stacks_are at.items_are refl in let b = bump_is (p (item.Renew k l (done + 1))) (count p at.below) in omega (arith, a, b)

  -- a test that does not see how many words are done
  kept : (p : Item → Bool) → p (item.Renew k l (done + 1)) ≡ p (item.Renew k l done) → items p (after_renew k l done v) ≡ items p v
  kept p q = let a = added p in let b = ap hit q in omega (arith, a, b)

  aside : Aside k l done [] v (after_renew k l done v)
  aside p a b d f = kept p (b ∙ sym a)

  eq : (f : View → ℕ) → f (after_renew k l done v) ≡ f v → t.total f ≡ s.total f
  eq f q = let a = c.sums f in omega (arith, a, q)

  one : OneRenewal e s r k l done
  one = the_renewal e s t (spot_of r y) r k l done n (empty_word (l + 1)) v (after_renew k l done v) c has at inv

  next_life : life_of (empty_word (l + 1)) ≡ l + 1
  next_life = omega arith

  no_bit : (i : ℕ) → i < 48 → bit_at (empty_word (l + 1)) i ≡ 0
  no_bit i low = ap (λ o. bit_at o i) (let a : (l + 1 - 1) * 2 ^ 48 ≡ (l + 1 - 1) * 2 ^ 48 + 0 = omega arith in a) ∙ bit_at_cat_low (l + 1 - 1) 48 0 i low ∙ bit_at-zero i

  fits : (w : ℕ) → y ≡ word.Notify w → w < e.graph.notify_words k
  fits w q = ⊎_elim (λ z. let a : word.Notify w ≡ word.Notify done = sym q ∙ z.0 in let b : w ≡ done = cc in let d = z.1 in omega (arith, b, d)) (λ z. absurd (let a : word.Notify w ≡ word.Descriptor = sym q ∙ z.0 in cc)) next

  -- the word that comes next still shows the life
  shown : life_shown y n ≡ l
  shown = sym (ap (life_shown y) c.found_is) ∙ ⊎_elim
      (λ z. ap (λ (o : Word). life_shown o (s.word (spot_of r o))) z.0 ∙ one.stage.other_words done z.1 (let a = one.done_is in omega (arith, a)) ∙ one.life_is)
      (λ z. ap (λ (o : Word). life_shown o (s.word (spot_of r o))) z.0 ∙ one.stage.descriptor_before (let a = one.done_is in let b = z.1 in omega (arith, a, b)) ∙ one.life_is) next

  shown_next : life_shown y (empty_word (l + 1)) ≡ l + 1
  shown_next = ⊎_elim (λ z. ap (λ (o : Word). life_shown o (empty_word (l + 1))) z.0 ∙ next_life) (λ z. ap (λ (o : Word). life_shown o (empty_word (l + 1))) z.0 ∙ next_life) next

  rises : life_shown y n < life_shown y (empty_word (l + 1))
  rises = let a = shown in let b = shown_next in omega (arith, a, b)

  rest : Rest e s t r (empty_word (l + 1)) y v (after_renew k l done v)
  rest = renewal_rest e s t r k l done n (empty_word (l + 1)) y [] v swap c has fits rises aside inv

  recovery_same : SameRecovery s t
  recovery_same z = rest.other_word z word.Recovery (λ q. ⊎_elim (λ o. let a : word.Recovery ≡ word.Notify done = q.1 ∙ o.0 in cc) (λ o. let a : word.Recovery ≡ word.Descriptor = q.1 ∙ o.0 in cc) next)

  -- a row of the key is this one
  at_row : (z m : ℕ) → HasKey e s z m → m ≡ k → z ≡ r
  at_row z m old q = inv.keys.one_row z r k (subst (HasKey e s z) q old) has

  row_of : (z m : ℕ) → HasKey e s z m → z ≡ r → m ≡ k
  row_of z m old q = same_key e s t r k m has (subst (λ o. HasKey e s o m) q old)

  -- of the words of the row, the next one is new and the others are as they were
  notify_now : (w : ℕ) → w < e.graph.notify_words k → ((w ≡ done) × (t.word (notify r w) ≡ empty_word (l + 1))) ⊎ ((w ≢ done) × (t.word (notify r w) ≡ s.word (notify r w)))
  notify_now w low = ⊎_elim
      (λ z. dite (ℕ_discrete w done) (λ q. inl (q, rest.new_word r (word.Notify w) (refl, ap (λ o. word.Notify o) q ∙ sym z.0))) (λ ne. inr (ne, rest.other_word r (word.Notify w) (λ q. ne (let a : word.Notify w ≡ word.Notify done = q.1 ∙ z.0 in cc)))))
      (λ z. inr ((λ q. let a = z.1 in omega (arith, a, q, low)), rest.other_word r (word.Notify w) (λ q. let a : word.Notify w ≡ word.Descriptor = q.1 ∙ z.0 in cc))) next

  descriptor_now : ((done ≡ e.graph.notify_words k) × (t.word (descriptor r) ≡ empty_word (l + 1))) ⊎ ((done < e.graph.notify_words k) × (t.word (descriptor r) ≡ s.word (descriptor r)))
  descriptor_now = ⊎_elim (λ z. inr (z.1, rest.other_word r word.Descriptor (λ q. let a : word.Descriptor ≡ word.Notify done = q.1 ∙ z.0 in cc))) (λ z. inl (z.1, rest.new_word r word.Descriptor (refl, sym z.0))) next

  renewals : (m : ℕ) → t.total (items (is_renew m)) ≡ s.total (items (is_renew m))
  renewals m = eq (items (is_renew m)) (kept (is_renew m) refl)

  suspects : (m a : ℕ) → t.total (items (is_suspect m a)) ≡ s.total (items (is_suspect m a))
  suspects m a = eq (items (is_suspect m a)) (kept (is_suspect m a) refl)

  next_done : (a : ℕ) → a ≡ l → t.total (items (is_renew_at k a (done + 1))) ≡ 1
  next_done a q = let b = c.sums (items (is_renew_at k a (done + 1))) in let d = added (is_renew_at k a (done + 1)) in let f = one.at_only a (done + 1) in
      let h : hit (three k a (done + 1) k l (done + 1)) ≡ 1 = ap (λ o. hit (three k o (done + 1) k l (done + 1))) q ∙ three_here k l (done + 1) in omega (arith, b, d, f, h)

  here_life : LifeOf e t r k (s.word (recovery r))
  here_life = let old = inv.lives.each r k has in let num : ℕ = s.word (recovery r) in let is = one.life_is in let by = one.done_is in record {
    renewing = renewals k ∙ old.renewing;
    standing = λ z. absurd (let a = one.replacing_now in omega (arith, a, z));
    being_replaced = λ z. record {
      done = done + 1;
      one_view = next_done (standing_life num) is;
      at_most = ⊎_elim (λ q. let a = q.1 in omega (arith, a)) (λ q. let a = q.1 in omega (arith, a)) next;
      done_words = λ w low less. ⊎_elim (λ q. let a = ap life_of q.1 in let b = next_life in omega (arith, a, b, is)) (λ q. ap life_of q.1 ∙ one.stage.done_words w low (let a = q.0 in omega (arith, a, by, less))) (notify_now w low);
      other_words = λ w low less. ⊎_elim (λ q. absurd (let a = q.0 in omega (arith, a, less))) (λ q. ap life_of q.1 ∙ one.stage.other_words w low (omega (arith, by, less))) (notify_now w low);
      descriptor_before = λ low. ⊎_elim (λ q. absurd (let a = q.0 in omega (arith, a, low))) (λ q. ap life_of q.1 ∙ one.stage.descriptor_before (omega (arith, by, low))) descriptor_now;
      descriptor_after = λ all. ⊎_elim (λ q. let a = ap life_of q.1 in let b = next_life in omega (arith, a, b, is)) (λ q. absurd (let a = q.0 in omega (arith, a, all))) descriptor_now;
    };
    at_most = old.at_most;
    suspected = λ a z. old.suspected a (let b = suspects k a in omega (arith, b, z));
  }

  renewed_lives : Lives e t
  renewed_lives = record {
    each = λ z m it. let old = had e s t rest.keys_same z m it in subst (LifeOf e t z m) (sym (recovery_same z)) (dite (ℕ_discrete z r)
        (λ q. subst (λ o. LifeOf e t o m (s.word (recovery o))) (sym q) (subst (λ o. LifeOf e t r o (s.word (recovery r))) (sym (row_of z m old q)) here_life))
        (λ ne. let apart = ne_eqb m k (λ q. ne (at_row z m old q)) in row_lives e s t z m (s.word (recovery z)) (λ x. ap (life_shown x) (rest.other_word z x (λ q. ne q.0))) (renewals m)
        (λ a d. eq (items (is_renew_at m a d)) (kept (is_renew_at m a d) (ap (λ (b : Bool). b && (eqb a l && eqb d (done + 1))) apart ∙ sym (ap (λ (b : Bool). b && (eqb a l && eqb d done)) apart))))
        (λ a some. (inv.lives.each z m old).suspected a (let b = suspects m a in omega (arith, b, some))) (inv.lives.each z m old)));
  }

  -- nothing is recorded of a later life than a word shows, and no port waits in one
  fresh_shows : (m a b : ℕ) → life_of a < life_of b → ((i : ℕ) → i < 48 → bit_at b i ≡ 0) → Shows e s m a → Shows e t m b
  fresh_shows m a b less bits old = record {
    other_bits = let z = no_low_bits b 48 bits in omega (arith, z);
    spent = λ z j low. bits j (omega (arith, low)) ∙ sym (rest.recs (is_spent m (life_of b) j) ∙ old.spent_later (life_of b) j less);
    struck = λ z. absurd (let d = bits 41 (omega arith) in omega (arith, d, z));
    root = λ z. bits 41 (omega arith);
    spent_later = λ d j more. rest.recs (is_spent m d j) ∙ old.spent_later d j (omega (arith, less, more));
    struck_later = λ d more. rest.recs (is_struck m d hit_of.Descriptor) ∙ old.struck_later d (omega (arith, less, more));
  }

  fresh_lists : (m w a b : ℕ) → life_of a < life_of b → ((i : ℕ) → i < 48 → bit_at b i ≡ 0) → Lists e s m w a → Lists e t m w b
  fresh_lists m w a b less bits old = record {
    other_bits = let z = no_low_bits b 48 bits in omega (arith, z);
    closing = λ z. bits 40 (omega arith) ∙ sym (rest.recs (is_closed m (life_of b) w) ∙ old.closed_later (life_of b) less);
    waiting = λ z o i low. bits i (omega (arith, low)) ∙ ap (min 1) (sym (rest.waits_same m (life_of b) (40 * w + i) ∙ old.waiting_later (life_of b) i less low));
    struck = λ z. absurd (let d = bits 41 (omega arith) in omega (arith, d, z));
    root = λ z. bits 41 (omega arith);
    registered = λ z i low some. absurd (let d = rest.waits_same m (life_of b) (40 * w + i) in let f = old.waiting_later (life_of b) i less low in omega (arith, d, f, some));
    closed_later = λ d more. rest.recs (is_closed m d w) ∙ old.closed_later d (omega (arith, less, more));
    waiting_later = λ d i more low. rest.waits_same m d (40 * w + i) ∙ old.waiting_later d i (omega (arith, less, more)) low;
    struck_later = λ d more. rest.recs (is_struck m d (hit_of.Notify w)) ∙ old.struck_later d (omega (arith, less, more));
  }

  bits_now : (z : ℕ) (x : Word) → (z ≡ r) × (x ≡ y) → (i : ℕ) → i < 48 → bit_at (t.word (spot_of z x)) i ≡ 0
  bits_now z x q i low = ap (λ o. bit_at o i) (rest.new_word z x q) ∙ no_bit i low

  renewed_content : Content e t
  renewed_content = record {
    descriptors = λ z m it. let old = inv.content.descriptors z m (had e s t rest.keys_same z m it) in ⊎_elim (λ q. fresh_shows m (s.word (descriptor z)) (t.word (descriptor z)) (rest.passed z word.Descriptor q) (bits_now z word.Descriptor q) old)
        (λ ne. subst (Shows e t m) (sym (rest.other_word z word.Descriptor ne)) (same_shows e s t rest.recs m (s.word (descriptor z)) old)) (rest.here_or z word.Descriptor);
    notify_words = λ z m w it low. let old = inv.content.notify_words z m w (had e s t rest.keys_same z m it) low in ⊎_elim (λ q. fresh_lists m w (s.word (notify z w)) (t.word (notify z w)) (rest.passed z (word.Notify w) q) (bits_now z (word.Notify w) q) old)
        (λ ne. subst (Lists e t m w) (sym (rest.other_word z (word.Notify w) ne)) (same_lists e s t rest.recs rest.waits_same m w (s.word (notify z w)) old)) (rest.here_or z (word.Notify w));
  }

  owed_same : (i : Job) (m a : ℕ) → t.total (owed i m a) ≡ s.total (owed i m a)
  owed_same i m a = eq (owed i m a) (kept (is_owed i m a) refl)

  renewed_jobs : Jobs e t
  renewed_jobs = jobs_later e s t rest.keys_same (λ z. ⊎_elim (λ q. let a = q.0 in omega (arith, a)) (λ q. omega (arith, q)) (rest.later z word.Descriptor)) (λ z. ap standing_life (recovery_same z))
      (λ i z m a old some. let b = owed_same i m a in let d = rest.held_same i m a in let f = rest.ended_same i m a in let h = ap (λ o. hit (eqb a o)) (rest.posts_same i z) in omega (arith, b, d, f, h))
      (λ i m. let b = owed_same i m 0 in let d = rest.held_same i m 0 in let f = rest.ended_same i m 0 in let h = inv.work.jobs.some_life i m in omega (arith, b, d, f, h))
      (λ i m a. let b = rest.came_same i m a in let d = rest.begun_same i m a in let f = inv.work.jobs.came i m a in omega (arith, b, d, f)) (λ p. let a = rest.recs p in omega (arith, a)) inv.work.jobs

  selfs_same : (m a i : ℕ) → t.total (covers_self m a i) ≡ s.total (covers_self m a i)
  selfs_same m a i = eq (covers_self m a i) (let b = kept (explores m a i) refl in let d = kept (is_owed Explore m a) refl in let f = kept (is_suspect m a) refl in omega (arith, b, d, f))

  edges_same : (p q : ℕ) → t.total (covers_edge p q) ≡ s.total (covers_edge p q)
  edges_same p q = eq (covers_edge p q) (let b = kept (notifies p q) refl in let d = kept (is_renew p) refl in let f = kept (reenters p q) refl in omega (arith, b, d, f))

  -- the renewal itself covers what waited at a word of the key
  renewal_covers : (q : ℕ) → 0 < t.total (covers_edge k q)
  renewal_covers q = let a = edges_same k q in let b = c.within (covers_edge k q) in let d = at_work (is_renew k) v (item.Renew k l done) at in let f = ap hit (eqb_here k) in omega (arith, a, b, d, f)

  -- the key of this row does not stand
  not_here : (z m a i : ℕ) → Needs e t z m a i → z ≡ r → ⊥
  not_here z m a i needs q = let b = needs.stands in let d = ap replacing (recovery_same z) in let f = ap (λ o. replacing (s.word (recovery o))) q in let h = one.replacing_now in omega (arith, b, d, f, h)

  old_needs : (z m a i : ℕ) → Needs e t z m a i → Needs e s z m a i
  old_needs z m a i needs = needs_at e s t rest.keys_same rest.recs z m a i (rest.other_word z word.Descriptor (λ q. not_here z m a i needs q.0)) (recovery_same z) needs

  waits_or_renewed : (p q : ℕ) → Waiting e s p q → (0 < t.total (covers_edge p q)) ⊎ Waiting e t p q
  waits_or_renewed p q z = dite (ℕ_discrete p k) (λ f. inl (subst (λ o. 0 < t.total (covers_edge o q)) (sym f) (renewal_covers q)))
      (λ ne. inr (waiting_at e s t rest.keys_same rest.recs rest.waits_same p q z (rest.other_word z.row (word.Notify (q / 40)) (λ f. ne (row_of z.row p z.has_key f.0)))))

  renewed_cover : Cover e t
  renewed_cover = record {
    places = λ z m a i needs low. let x : Edge = e.graph.pred m i in let b = selfs_same m a i in let d = edges_same x.task x.port in let f = ap (λ o. hit (eqb a o)) (rest.posts_same Explore z) in
        ⊎_elim (λ o. inl (omega (arith, b, d, f, o))) (λ o. ⊎_elim (λ h. inl (omega (arith, h))) (λ h. inr h) (waits_or_renewed x.task x.port o)) (inv.cover.places z m a i (old_needs z m a i needs) low);
    self_place = λ z m a needs. let b = selfs_same m a 40 in let f = ap (λ o. hit (eqb a o)) (rest.posts_same Explore z) in let o = inv.cover.self_place z m a (old_needs z m a 40 needs) in omega (arith, b, f, o);
  }

  works_same : (m a : ℕ) → t.total (works m a) ≡ s.total (works m a)
  works_same m a = eq (works m a) (let b = kept (is_owed Compute m a) refl in let d = rest.held_view Compute m a in let f = kept (is_suspect m a) refl in let h = kept (is_renew_of m a) refl in omega (arith, b, d, f, h))

  -- of the life that the new descriptor shows, the self place is not spent
  renewed_activity : Activity e t
  renewed_activity = record {
    each = λ z m it all. let old = had e s t rest.keys_same z m it in ⊎_elim
        (λ q. absurd (let a = all 40 (inr refl) in let b = rest.recs (is_spent m (life_of (t.word (descriptor z))) 40) in let d = (inv.content.descriptors z m old).spent_later (life_of (t.word (descriptor z))) 40 (rest.passed z word.Descriptor q) in omega (arith, a, b, d)))
        (λ ne. activity_at e s t rest.posts_same rest.recs z m (rest.other_word z word.Descriptor ne) (let a = works_same m (life_of (s.word (descriptor z))) in omega (arith, a)) (inv.activity.each z m old) all) (rest.here_or z word.Descriptor);
  }

  pub renewed_keeps : Invariant e t
  renewed_keeps = record {
    keys = rest.keys;
    empty = rest.empty;
    lives = renewed_lives;
    content = renewed_content;
    facts = rest.facts;
    work = record {
      credits = rest.credits (let a = kept is_owe refl in omega (arith, a));
      jobs = renewed_jobs;
      computings = rest.computings;
      root = rest.root;
    };
    blocks = rest.blocks;
    records = frame_records e s t rest.keys_same recovery_same rest.recs inv.records;
    causes = rest.causes;
    strikes = rest.strikes;
    cover = renewed_cover;
    activity = renewed_activity;
    no_fault = wide_no_fault e s t rest.keys_same recovery_same (λ p. let a = rest.recs p in omega (arith, a)) (λ unstruck old. eq (items is_any_suspect) (kept is_any_suspect refl) ∙ old.none_suspected) (λ b x. rest.recs (is_version b x)) (rest.blocks_same) inv.no_fault;
  }
