-- Ending an election keeps every part: the next life stands, its exploring is owed, and the successors are to be entered again.
use Rattle.std.proofs.Common.{◌≡◌, ◌≢◌, ◌⊎◌, ℕ, zero, suc, ◌+◌, ◌/◌, ◌≤◌, ◌<◌, Bool, true, false, cond, ◌&&◌, eqb, ne_eqb, List, ◌∷◌, ⊎_elim, inl, inr, arith, sym, ap, refl, ◌∙◌, subst}
use mathlib.Core.Logic.{dite}
use native.Mathlib.Decide.{ℕ_discrete}
use Rattle.core_state.specs.Graph.{Setting, Sound, Edge}
use Rattle.core_state.specs.Words.{descriptor, recovery, spot_of, life_of, life_shown, standing_life, replacing}
use Rattle.core_state.specs.Counts.{hit, count, items, owed, held, ended, knows_row}
use Rattle.core_state.specs.Tests.{two, is_in, is_owed, is_owe, explores, is_renew, is_renew_at, is_renew_of, is_suspect, is_any_struck, notifies, reenters, is_spent}
use Rattle.core_state.specs.Change.{Core, Change}
use Rattle.core_state.specs.Rows.{HasKey, LifeOf, Lives}
use Rattle.core_state.specs.Work.{Jobs, job_count}
use Rattle.core_state.specs.Cover.{covers_self, covers_edge, works, Needs, Cover, Activity, NoFault}
use Rattle.core_state.specs.Invariant.{Invariant}
use Rattle.core_state.specs.Guards.{CanFinish}
use Rattle.core_state.specs.Effects.{after_finish, finish_left, all_ports}
use Rattle.core_state.specs.Views.{without_first}
use Rattle.core_state.specs.declared.job.Job.{Job}
use Rattle.core_state.specs.declared.job.Job.TheVariants.{Explore, Compute}
use Rattle.core_state.specs.declared.views.Item.{Item}
use Rattle.core_state.specs.declared.views.Item.TheVariants as item
use Rattle.core_state.specs.declared.views.Word.{Word}
use Rattle.core_state.specs.declared.views.Word.TheVariants as word
use Rattle.core_state.specs.declared.views.View.{View}
use Rattle.core_state.proofs.Base.Counting.{bump_is, eqb_here, two_here, not_two}
use Rattle.core_state.proofs.Base.Frame.{SameDescriptors, SameNotify, had, needs_at, waiting_at, activity_at, frame_content, records_upto}
use Rattle.core_state.proofs.Credit.JobView.{same_key}
use Rattle.core_state.proofs.Base.ItemMoves.{swapped}
use Rattle.core_state.proofs.Replace.RenewalParts.{Aside, OneRenewal, the_renewal, Rest, renewal_rest}
use Rattle.core_state.proofs.Base.WeakFrame.{row_lives}

-- all ports are in the list of all
all_listed : (q b c : ℕ) → b ≤ q → q < b + c → is_in q (all_ports b c) ≡ true
all_listed q b zero low high = absurd (omega (arith, low, high))
all_listed q b (suc c) low high = dite (ℕ_discrete q b) (λ z. subst (λ o. cond (eqb q o) true (is_in q (all_ports (o + 1) c)) ≡ true) z (rw (eqb_here q) refl))
    (λ ne. rw (ne_eqb q b ne) (all_listed q (b + 1) c (omega (arith, low, ne)) (omega (arith, high))))

module _ (e : Setting) (fit : Sound e) (s t : Core) (r k l n : ℕ) (v : View) (can : CanFinish e v r k l) (c : Change s t (recovery r) n (finish_left l) v (after_finish e.graph k l v)) (inv : Invariant e s) where
  abbrev last : ℕ
  last = e.graph.notify_words k + 1

  abbrev ports : List ℕ
  ports = all_ports 0 (e.graph.ports k)

  abbrev swap : List Item → List Item
  swap xs = item.Owe k Explore (l + 1) ∷ item.Reenter k (l + 1) ports ∷ without_first xs

  has : HasKey e s r k
  has = inv.keys.known r k (let a = c.within (knows_row r k) in let b = can.row.row_known in omega (arith, a, b))

  added : (p : Item → Bool) → items p (after_finish e.graph k l v) + hit (p (item.Renew k l last)) ≡ items p v + hit (p (item.Owe k Explore (l + 1))) + hit (p (item.Reenter k (l + 1) ports))
  added p = let at = can.at_work in let a = swapped p swap v.stacks at.others at.stack (item.Renew k l last) at.below (item.Owe k Explore (l + 1) ∷ item.Reenter k (l + 1) ports ∷ at.below) at.stacks_are at.items_are refl in
      let b = bump_is (p (item.Owe k Explore (l + 1))) (count p (item.Reenter k (l + 1) ports ∷ at.below)) in let d = bump_is (p (item.Reenter k (l + 1) ports)) (count p at.below) in omega (arith, a, b, d)

  aside : Aside k l last ports v (after_finish e.graph k l v)
  aside p a b d f = let x = added p in let y = ap hit a in let z = ap hit d in let o = ap hit f in omega (arith, x, y, z, o)

  one : OneRenewal e s r k l last
  one = the_renewal e s t (recovery r) r k l last n (finish_left l) v (after_finish e.graph k l v) c has can.at_work inv

  fits : (w : ℕ) → word.Recovery ≡ word.Notify w → w < e.graph.notify_words k
  fits w q = absurd cc

  rises : standing_life n < standing_life (finish_left l)
  rises = let a = ap standing_life c.found_is in let b = one.life_is in omega (arith, a, b)

  rest : Rest e s t r (finish_left l) word.Recovery v (after_finish e.graph k l v)
  rest = renewal_rest e s t r k l last n (finish_left l) word.Recovery ports v swap c has fits rises aside inv

  other_row : (z : ℕ) (x : Word) → (z ≡ r → ⊥) → t.word (spot_of z x) ≡ s.word (spot_of z x)
  other_row z x ne = rest.other_word z x (λ q. ne q.0)

  descriptors_same : SameDescriptors s t
  descriptors_same z = rest.other_word z word.Descriptor (λ q. let a : word.Descriptor ≡ word.Recovery = q.1 in cc)

  notify_same : SameNotify s t
  notify_same z w = rest.other_word z (word.Notify w) (λ q. let a : word.Notify w ≡ word.Recovery = q.1 in cc)

  its : (p : Item → Bool) → p (item.Renew k l last) ≡ false → p (item.Renew k l (last + 1)) ≡ false → p (item.Owe k Explore (l + 1)) ≡ false → p (item.Reenter k (l + 1) ports) ≡ false → t.total (items p) ≡ s.total (items p)
  its p a b d f = let x = c.sums (items p) in let y = aside p a b d f in omega (arith, x, y)

  key_of_row : (z m : ℕ) → HasKey e s z m → z ≡ r → m ≡ k
  key_of_row z m old q = same_key e s t r k m has (subst (λ o. HasKey e s o m) q old)

  other_key : (z m : ℕ) → HasKey e s z m → (z ≡ r → ⊥) → m ≢ k
  other_key z m old ne q = ne (inv.keys.one_row z r k (subst (HasKey e s z) q old) has)

  here_life : LifeOf e t r k (finish_left l)
  here_life = let old = inv.lives.each r k has in let is = one.life_is in let now = one.replacing_now in record {
    renewing = let a = c.sums (items (is_renew k)) in let b = added (is_renew k) in let d = ap hit (eqb_here k) in let f = one.once in omega (arith, a, b, d, f);
    standing = λ z. record {
      descriptor_life = ap life_of (descriptors_same r) ∙ one.stage.descriptor_after one.done_is ∙ omega (arith, is);
      notify_life = λ w low. ap life_of (notify_same r w) ∙ one.stage.done_words w low (let a = one.done_is in omega (arith, a, low)) ∙ omega (arith, is);
    };
    being_replaced = λ z. absurd (omega (arith, z));
    at_most = let a = old.at_most in omega (arith, a, is, now);
    suspected = λ a z. let b = old.suspected a (let d = its (is_suspect k a) refl refl refl refl in omega (arith, d, z)) in (b.0, let d = b.1 in omega (arith, d, is, now));
  }

  finished_lives : Lives e t
  finished_lives = record {
    each = λ z m it. let old = had e s t rest.keys_same z m it in dite (ℕ_discrete z r)
        (λ q. subst (λ o. LifeOf e t o m (t.word (recovery o))) (sym q) (subst (λ o. LifeOf e t r o (t.word (recovery r))) (sym (key_of_row z m old q)) (subst (LifeOf e t r k) (sym c.left_is) here_life)))
        (λ ne. let apart = ne_eqb m k (other_key z m old ne) in subst (LifeOf e t z m) (sym (other_row z word.Recovery ne)) (row_lives e s t z m (s.word (recovery z)) (λ x. ap (life_shown x) (other_row z x ne)) (its (is_renew m) apart apart refl refl)
        (λ a d. its (is_renew_at m a d) (ap (λ (b : Bool). b && (eqb a l && eqb d last)) apart) (ap (λ (b : Bool). b && (eqb a l && eqb d (last + 1))) apart) refl refl)
        (λ a some. (inv.lives.each z m old).suspected a (let b = its (is_suspect m a) refl refl refl refl in omega (arith, b, some))) (inv.lives.each z m old)));
  }

  -- exploring of the next life is owed once more
  explores_more : (z m a : ℕ) → job_count e t Explore z m a ≡ job_count e s Explore z m a + hit (two m a k (l + 1))
  explores_more z m a = let b = c.sums (owed Explore m a) in let d = added (is_owed Explore m a) in let f = rest.held_same Explore m a in let o = rest.ended_same Explore m a in let i = ap (λ x. hit (eqb a x)) (rest.posts_same Explore z) in omega (arith, b, d, f, o, i)

  computes_same : (z m a : ℕ) → job_count e t Compute z m a ≡ job_count e s Compute z m a
  computes_same z m a = let b = rest.computes_same z m a in let f = rest.held_same Compute m a in let o = rest.ended_same Compute m a in omega (arith, b, f, o)

  not_next : (m a : ℕ) → ((m ≡ k) × (a ≡ l + 1) → ⊥) → hit (two m a k (l + 1)) ≡ 0
  not_next m a ne = ap hit (not_two m a k (l + 1) ne)

  -- the next life stands in this row, and the others are as they were
  standing_now : (z m : ℕ) → HasKey e s z m → ((m ≡ k) × (standing_life (t.word (recovery z)) ≡ l + 1) × (standing_life (s.word (recovery z)) ≡ l)) ⊎ ((m ≢ k) × (t.word (recovery z) ≡ s.word (recovery z)))
  standing_now z m old = dite (ℕ_discrete z r) (λ q. inl (key_of_row z m old q, ap (λ o. standing_life (t.word (recovery o))) q ∙ ap standing_life c.left_is ∙ omega arith, ap (λ o. standing_life (s.word (recovery o))) q ∙ one.life_is)) (λ ne. inr (other_key z m old ne, other_row z word.Recovery ne))

  finished_jobs : Jobs e t
  finished_jobs = let jobs = inv.work.jobs in record {
    explored = λ z m a it some low. let old = had e s t rest.keys_same z m it in let more = explores_more z m a in ⊎_elim
        (λ q. dite (ℕ_discrete a (l + 1)) (λ o. let d = jobs.not_explored z m a old (let f = q.2 in omega (arith, f, o)) in let f : hit (two m a k (l + 1)) ≡ 1 = ap (λ x. hit (two x a k (l + 1))) q.0 ∙ ap (λ x. hit (two k x k (l + 1))) o ∙ ap hit (two_here k (l + 1)) in omega (arith, more, d, f))
        (λ ne. let d = jobs.explored z m a old some (let f = q.1 in let h = q.2 in omega (arith, f, h, low, ne)) in let f = not_next m a (λ x. ne x.1) in omega (arith, more, d, f)))
        (λ q. let d = jobs.explored z m a old some (let f = ap standing_life q.1 in omega (arith, f, low)) in let f = not_next m a (λ x. q.0 x.0) in omega (arith, more, d, f)) (standing_now z m old);
    not_explored = λ z m a it less. let old = had e s t rest.keys_same z m it in let more = explores_more z m a in ⊎_elim
        (λ q. let o = q.1 in let h = q.2 in let d = jobs.not_explored z m a old (omega (arith, o, h, less)) in let f = not_next m a (λ x. let y = x.1 in omega (arith, y, o, less)) in omega (arith, more, d, f))
        (λ q. let d = jobs.not_explored z m a old (let f = ap standing_life q.1 in omega (arith, f, less)) in let f = not_next m a (λ x. q.0 x.0) in omega (arith, more, d, f)) (standing_now z m old);
    computed = λ z m a it some. let b = computes_same z m a in let d = jobs.computed z m a (had e s t rest.keys_same z m it) some in omega (arith, b, d);
    not_computed = λ z m a it less. computes_same z m a ∙ jobs.not_computed z m a (had e s t rest.keys_same z m it) (subst (λ o. life_of o < a) (descriptors_same z) less);
    some_life = some_life;
    ready = λ z m a j it some y place. let b = computes_same z m a in let d = jobs.ready z m a j (had e s t rest.keys_same z m it) some (omega (arith, b, y)) place in let f = rest.recs (is_spent m a j) in omega (arith, d, f);
    came = λ i m a. let b = rest.came_same i m a in let d = rest.begun_same i m a in let f = jobs.came i m a in omega (arith, b, d, f);
  }
    where
      some_life : (i : Job) (m : ℕ) → t.total (owed i m 0) + t.total (held i m 0) + t.total (ended i m 0) ≡ 0
      some_life Explore m = let b = c.sums (owed Explore m 0) in let d = added (is_owed Explore m 0) in let f = rest.held_same Explore m 0 in let o = rest.ended_same Explore m 0 in let i = not_next m 0 (λ x. let y = x.1 in omega (arith, y)) in let j = inv.work.jobs.some_life Explore m in omega (arith, b, d, f, o, i, j)
      some_life Compute m = let b = its (is_owed Compute m 0) refl refl refl refl in let f = rest.held_same Compute m 0 in let o = rest.ended_same Compute m 0 in let j = inv.work.jobs.some_life Compute m in omega (arith, b, f, o, j)

  selfs_rise : (m a i : ℕ) → s.total (covers_self m a i) ≤ t.total (covers_self m a i)
  selfs_rise m a i = let b = c.sums (covers_self m a i) in let d = aside (explores m a i) refl refl refl refl in let f = added (is_owed Explore m a) in let h = aside (is_suspect m a) refl refl refl refl in omega (arith, b, d, f, h)

  -- the exploring that is owed comes to each place
  next_covered : (i : ℕ) → 0 < t.total (covers_self k (l + 1) i)
  next_covered i = let b = c.sums (covers_self k (l + 1) i) in let d = c.within (covers_self k (l + 1) i) in let f = added (is_owed Explore k (l + 1)) in let h = ap hit (two_here k (l + 1)) in
      let x = aside (explores k (l + 1) i) refl refl refl refl in let y = aside (is_suspect k (l + 1)) refl refl refl refl in omega (arith, b, d, f, h, x, y)

  -- an edge that the renewal covered is entered again
  edges_stay : (p q : ℕ) → q < e.graph.ports p → (0 < t.total (covers_edge p q)) ⊎ (t.total (covers_edge p q) ≡ s.total (covers_edge p q))
  edges_stay p q low = let a = c.sums (covers_edge p q) in let b = aside (notifies p q) refl refl refl refl in let d = added (is_renew p) in let f = added (reenters p q) in dite (ℕ_discrete p k)
      (λ z. inl (let h : hit (eqb p k && is_in q ports) ≡ 1 = rw (z, eqb_here k, all_listed q 0 (e.graph.ports k) (omega arith) (let y : q < e.graph.ports k = subst (λ o. q < e.graph.ports o) z low in omega (arith, y))) refl in let o = c.within (covers_edge p q) in let i : hit (eqb p k) ≡ 1 = rw (z, eqb_here k) refl in omega (arith, a, b, d, f, h, i, o)))
      (λ ne. inr (let apart = ne_eqb p k ne in let h : hit (eqb p k && is_in q ports) ≡ 0 = ap (λ (x : Bool). hit (x && is_in q ports)) apart in let i = ap hit apart in omega (arith, a, b, d, f, h, i)))

  finished_cover : Cover e t
  finished_cover = record {
    places = λ z m a i needs low. let x : Edge = e.graph.pred m i in ⊎_elim (λ q. inl (let b = covered z m a i needs q in omega (arith, b)))
        (λ q. let b = selfs_rise m a i in let f = ap (λ o. hit (eqb a o)) (rest.posts_same Explore z) in ⊎_elim
        (λ o. inl (⊎_elim (λ h. omega (arith, h)) (λ h. omega (arith, b, f, h, o)) (edges_stay x.task x.port (fit.lawful.back m i low).0)))
        (λ o. inr (waiting_at e s t rest.keys_same rest.recs rest.waits_same x.task x.port o (notify_same o.row (x.port / 40)))) (inv.cover.places z m a i (old_needs z m a i needs q) low)) (standing_now z m (had e s t rest.keys_same z m needs.has_key));
    self_place = λ z m a needs. ⊎_elim (λ q. let b = covered z m a 40 needs q in omega (arith, b))
        (λ q. let b = selfs_rise m a 40 in let f = ap (λ o. hit (eqb a o)) (rest.posts_same Explore z) in let o = inv.cover.self_place z m a (old_needs z m a 40 needs q) in omega (arith, b, f, o)) (standing_now z m (had e s t rest.keys_same z m needs.has_key));
  }
    where
      covered : (z m a i : ℕ) → Needs e t z m a i → (m ≡ k) × (standing_life (t.word (recovery z)) ≡ l + 1) × (standing_life (s.word (recovery z)) ≡ l) → 0 < t.total (covers_self m a i)
      covered z m a i needs q = subst (λ o. 0 < t.total (covers_self o a i)) (sym q.0) (subst (λ o. 0 < t.total (covers_self k o i)) (sym q.1 ∙ needs.life_stands) (next_covered i))

      old_needs : (z m a i : ℕ) → Needs e t z m a i → (m ≢ k) × (t.word (recovery z) ≡ s.word (recovery z)) → Needs e s z m a i
      old_needs z m a i needs q = needs_at e s t rest.keys_same rest.recs z m a i (descriptors_same z) q.1 needs

  -- the renewal was no work on the life that the descriptor shows
  works_same : (z m : ℕ) → HasKey e s z m → t.total (works m (life_of (s.word (descriptor z)))) ≡ s.total (works m (life_of (s.word (descriptor z))))
  works_same z m old = let d : ℕ = life_of (s.word (descriptor z)) in let a = c.sums (works m d) in let b = aside (is_owed Compute m d) refl refl refl refl in let f = rest.held_view Compute m d in let h = aside (is_suspect m d) refl refl refl refl in let o = added (is_renew_of m d) in
      let i : hit (two m d k l) ≡ 0 = ap hit (not_two m d k l (λ q. let y = one.stage.descriptor_after one.done_is in let x = ap (λ o. life_of (s.word (descriptor o))) (inv.keys.one_row z r k (subst (HasKey e s z) q.0 old) has) in let u = q.1 in let w = one.life_is in omega (arith, x, y, u, w))) in omega (arith, a, b, f, h, o, i)

  finished_activity : Activity e t
  finished_activity = record { each = λ z m it all. let old = had e s t rest.keys_same z m it in activity_at e s t rest.posts_same rest.recs z m (descriptors_same z) (let a = works_same z m old in omega (arith, a)) (inv.activity.each z m old) all }

  -- a life that was replaced was struck
  finished_no_fault : NoFault e t
  finished_no_fault = record { faultless = λ z. absurd (let a = (inv.no_fault.faultless (let b = rest.recs is_any_struck in omega (arith, b, z))).first_life r k has in let b = ap replacing a in let d = one.replacing_now in omega (arith, b, d)) }

  replaced_same : (z : ℕ) → standing_life (t.word (recovery z)) + replacing (t.word (recovery z)) ≡ standing_life (s.word (recovery z)) + replacing (s.word (recovery z))
  replaced_same z = dite (ℕ_discrete z r)
      (λ q. ap (λ o. standing_life (t.word (recovery o)) + replacing (t.word (recovery o))) q ∙ ap (λ o. standing_life o + replacing o) c.left_is ∙ (let a = one.life_is in let b = one.replacing_now in omega (arith, a, b)) ∙ sym (ap (λ o. standing_life (s.word (recovery o)) + replacing (s.word (recovery o))) q))
      (λ ne. ap (λ o. standing_life o + replacing o) (other_row z word.Recovery ne))

  pub keeps_finish : Invariant e t
  keeps_finish = record {
    keys = rest.keys;
    empty = rest.empty;
    lives = finished_lives;
    content = frame_content e s t rest.keys_same descriptors_same notify_same rest.recs rest.waits_same inv.content;
    facts = rest.facts;
    work = record {
      credits = rest.credits (let a = added is_owe in omega (arith, a));
      jobs = finished_jobs;
      computings = rest.computings;
      root = rest.root;
    };
    blocks = rest.blocks;
    records = records_upto e s t rest.keys_same replaced_same rest.recs inv.records;
    causes = rest.causes;
    strikes = rest.strikes;
    cover = finished_cover;
    activity = finished_activity;
    no_fault = finished_no_fault;
  }
