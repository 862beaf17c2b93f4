-- That a result was made keeps every part: its record and its item enter the view, and no word changes.
use Rattle.std.proofs.Common.{◌≡◌, ◌⊎◌, ℕ, ◌+◌, ◌≤◌, ◌<◌, Bool, true, false, cond, ◌&&◌, eqb, inl, inr, arith, sym, ap, refl, ◌∙◌, subst}
use Rattle.core_state.specs.Graph.{Setting}
use Rattle.core_state.specs.Words.{turn, posted}
use Rattle.core_state.specs.Counts.{hit, bump, items, owed, held, ended, begun, noted, in_hand, in_wrong_hand}
use Rattle.core_state.specs.Tests.{two, carries, is_unmade, is_made, is_made_any, is_compute, is_close, is_close_from, is_notify, is_suspect, is_any_suspect, is_created, is_spent, is_computed, is_written, is_closed, is_struck, is_struck_upto, is_misstruck, is_miswritten, is_replaced, is_replaced_for, is_version, is_of}
use Rattle.core_state.specs.Change.{Core, Shift, Sums, many}
use Rattle.core_state.specs.Laws.{IsPlace, ComputedOnce}
use Rattle.core_state.specs.Rows.{HasKey}
use Rattle.core_state.specs.Work.{Computings, RootWork, is_made_early}
use Rattle.core_state.specs.Blocks.{Holds, Blocks}
use Rattle.core_state.specs.Invariant.{Invariant}
use Rattle.core_state.specs.Guards.{CanCompute}
use Rattle.core_state.specs.Effects.{after_computed, made_items}
use Rattle.core_state.specs.Views.{key_of}
use Rattle.graph_model.specs.declared.record.Record.{Record}
use Rattle.graph_model.specs.declared.record.Record.TheVariants as record_of
use Rattle.core_state.specs.declared.job.Job.{Job}
use Rattle.core_state.specs.declared.job.Job.TheVariants.{Explore, Compute}
use Rattle.core_state.specs.declared.views.Item.{Item}
use Rattle.core_state.specs.declared.views.Item.TheVariants as item
use Rattle.core_state.specs.declared.views.View.{View}
use Rattle.core_state.proofs.Blocks.Advance.{Onward, Advance, Results, shift_onward, advanced_items, begins_same, owes_same, post_same, advance_keys, advance_empty, advance_lives, advance_content, advance_facts, advance_credits, advance_jobs, advance_causes, advance_strikes, advance_cover, advance_activity, advance_records, advance_holds}
use Rattle.core_state.proofs.Base.Counting.{bump_is, eqb_here, two_here, split2}
use Rattle.core_state.proofs.Row.View.{items_below}
use Rattle.core_state.proofs.Base.Frame.{had}
use Rattle.core_state.proofs.Credit.JobParts.{idle_falls}
use Rattle.core_state.proofs.Credit.JobView.{and_false}
use Rattle.core_state.proofs.Base.Tops.{push_came, push_length}
use Rattle.core_state.proofs.Blocks.AtWork.{key_row, held_here, computing_once, life_named, job_once, all_spent, computing, some_item, unmade_compute}
use Rattle.core_state.proofs.Base.WeakFrame.{wide_no_fault}

same_carried : (k l read : ℕ) (i : Job) (m d : ℕ) → carries i m d (item.Compute k l true read true) ≡ carries i m d (item.Compute k l true read false)
same_carried k l read Explore m d = refl
same_carried k l read Compute m d = refl

module _ (e : Setting) (s t : Core) (sums : Sums s) (k l : ℕ) (v : View) (can : CanCompute e v k l) (c : Shift s t v (after_computed k l v)) (inv : Invariant e s) where
  abbrev w : View
  w = after_computed k l v

  abbrev before : Item
  before = item.Compute k l true (e.graph.inputs k) false

  abbrev after : Item
  after = item.Compute k l true (e.graph.inputs k) true

  abbrev new : Record
  new = record_of.Computed (key_of k) l

  eq : (f : View → ℕ) → f (after_computed k l v) ≡ f v → t.total f ≡ s.total f
  eq f q = let a = c.sums f in omega (arith, a, q)

  rec : (p : Record → Bool) → p (record_of.Computed (key_of k) l) ≡ false → many t p ≡ many s p
  rec p q = eq (noted p) (ap (λ (b : Bool). bump b (noted p v)) q)

  more : (p : Record → Bool) → many s p ≤ many t p
  more p = let a = c.sums (noted p) in let b = bump_is (p (record_of.Computed (key_of k) l)) (noted p v) in omega (arith, a, b)

  advance : Advance (item.Compute k l true (e.graph.inputs k) false) (item.Compute k l true (e.graph.inputs k) true) v (after_computed k l v)
  advance = let at = can.at_work in record {
    its = λ p. advanced_items p (made_items k l) v.stacks at.others at.stack (item.Compute k l true (e.graph.inputs k) false) (item.Compute k l true (e.graph.inputs k) true) at.below at.stacks_are at.items_are refl;
    before = λ p q. q.compute k l (e.graph.inputs k) true false;
    after = λ p q. q.compute k l (e.graph.inputs k) true true;
    same_key = λ m. refl;
    same_job = same_carried k l (e.graph.inputs k);
    comes = λ i m d. push_came i m d (made_items k l) v.stacks;
    stacks_as_many = push_length (made_items k l) v.stacks;
    spare_same = refl;
    ended_are = refl;
    known_are = refl;
  }

  results : Results s t
  results = record {
    more = more;
    created = λ m. rec (is_created m) refl;
    spent = λ m d j. rec (is_spent m d j) refl;
    closed = λ m d j. rec (is_closed m d j) refl;
    struck = λ m d h. rec (is_struck m d h) refl;
    struck_upto = λ m d h. rec (is_struck_upto m d h) refl;
    misstruck = λ g. rec (is_misstruck g) refl;
    replaced = λ m d. rec (is_replaced m d) refl;
    replaced_for = λ m d f. rec (is_replaced_for m d f) refl;
  }

  onward : Onward s t v (after_computed k l v)
  onward = shift_onward s t v (after_computed k l v) c

  made_now : many t (is_computed k l) ≡ many s (is_computed k l) + 1
  made_now = let a = c.sums (noted (is_computed k l)) in let b : noted (is_computed k l) (after_computed k l v) ≡ noted (is_computed k l) v + 1 = ap (λ (b : Bool). bump b (noted (is_computed k l) v)) (two_here k l) in omega (arith, a, b)

  not_computed : many s (is_computed k l) ≡ 0
  not_computed = (computing e s sums k l (e.graph.inputs k) false v can.at_work c.within inv).unmade (let a = some_item e s sums k l (e.graph.inputs k) false v can.at_work c.within inv (is_unmade k l) (ap (λ (b : Bool). b && true) (two_here k l)) in omega (arith, a))

  computed : ComputedOnce e.graph (many t)
  computed = record {
    computed_once = split2 (λ m d. many t (is_computed m d) ≤ 1) k l (λ m d z. let a = rec (is_computed m d) z in let b = inv.records.computed.computed_once m d in omega (arith, a, b)) (let a = made_now in let b = not_computed in omega (arith, a, b));
    computed_ready = λ m d j. split2 (λ m d. 0 < many t (is_computed m d) → IsPlace e.graph m j → 0 < many t (is_spent m d j)) k l
        (λ m d q z place. let a = inv.records.computed.computed_ready m d j (let b = rec (is_computed m d) q in omega (arith, b, z)) place in let f = more (is_spent m d j) in omega (arith, a, f))
        (λ z place. let a = all_spent e s sums k l (e.graph.inputs k) false v can.at_work c.within inv j place in let f = more (is_spent k l j) in omega (arith, a, f)) m d;
    written_once = λ m d. let a = rec (is_written m d) refl in let b = inv.records.computed.written_once m d in omega (arith, a, b);
    written_place = rec (is_miswritten e.graph) refl ∙ inv.records.computed.written_place;
    written_computed = λ m d z. let b = inv.records.computed.written_computed m d (let a = rec (is_written m d) refl in omega (arith, a, z)) in let f = more (is_computed m d) in omega (arith, b, f);
    closed_once = λ m d y. let a = rec (is_closed m d y) refl in let b = inv.records.computed.closed_once m d y in omega (arith, a, b);
    closed_word = λ m d y z. inv.records.computed.closed_word m d y (let a = rec (is_closed m d y) refl in omega (arith, a, z));
    closed_written = λ m d y z. let b = inv.records.computed.closed_written m d y (let a = rec (is_closed m d y) refl in omega (arith, a, z)) in let f = more (is_written m d) in omega (arith, b, f);
  }

  is_of_or : (m d : ℕ) → (many t (is_of m d) ≡ many s (is_of m d)) ⊎ (0 < many s (is_of m d))
  is_of_or = split2 (λ m d. (many t (is_of m d) ≡ many s (is_of m d)) ⊎ (0 < many s (is_of m d))) k l (λ m d z. inl (rec (is_of m d) z)) (inr (life_named e s sums k l (e.graph.inputs k) false v can.at_work c.within inv))

  -- computing stands as it was, but that it is made
  items_same : (p : Item → Bool) → p (item.Compute k l true (e.graph.inputs k) true) ≡ p (item.Compute k l true (e.graph.inputs k) false) → t.total (items p) ≡ s.total (items p)
  items_same p q = eq (items p) (let a = advance.its p in let b = ap hit q in omega (arith, a, b))

  fewer_unmade : (m d : ℕ) → t.total (items (is_unmade m d)) + hit (two m d k l) ≡ s.total (items (is_unmade m d))
  fewer_unmade m d = let a = c.sums (items (is_unmade m d)) in let b = advance.its (is_unmade m d) in let f = ap hit (and_false (two m d k l)) in let g = ap hit (and_true (two m d k l)) in omega (arith, a, b, f, g)
    where
      and_true : (b : Bool) → (b && true) ≡ b
      and_true true = refl
      and_true false = refl

  none_unmade : t.total (items (is_unmade k l)) ≡ 0
  none_unmade = let a = fewer_unmade k l in let b = ap hit (two_here k l) in let d = computing_once e s sums k l (e.graph.inputs k) false v can.at_work c.within inv in
      let f = sums.below (items (is_unmade k l)) (items (is_compute k l)) (λ o. items_below (is_unmade k l) (is_compute k l) (unmade_compute k l) o.stacks) in omega (arith, a, b, d, f)

  computings : Computings e t
  computings = record {
    each = λ r m d it' some. let old_key = had e s t (λ o. c.words (Rattle.core_state.specs.Words.key o)) r m it' in let old = inv.work.computings.each r m d old_key some in record {
      unmade = unmade r m d old_key some;
      made = made r m d old_key some;
      unwritten = λ z. rec (is_written m d) refl ∙ old.unwritten (let a = owes_same e s t before after v w onward advance results inv Compute m d in let b = post_same e s t before after v w onward advance results inv Compute r d in let f = items_same (is_compute m d) refl in omega (arith, a, b, f, z));
      written = λ z. let a = old.written (let b = items_same (is_close m d) refl in omega (arith, b, z)) in let f = more (is_written m d) in omega (arith, a, f);
      closing = λ y i z. rec (is_closed m d i) refl ∙ old.closing y i (let b = items_same (is_close_from m d y) refl in omega (arith, b, z));
      close_word = λ y z. old.close_word y (let b = items_same (is_close_from m d y) refl in omega (arith, b, z));
      notifying = λ y z. let a = old.notifying y (let b = items_same (is_notify m d y) refl in omega (arith, b, z)) in let f = more (is_closed m d y) in omega (arith, a, f);
      begun = begun_before r m d old_key some;
    };
    none_early = let a = inv.work.computings.none_early in let b = c.sums (items (is_made_early e.graph)) in let d = advance.its (is_made_early e.graph) in let f : hit (is_made_early e.graph (item.Compute k l true (e.graph.inputs k) true)) ≡ 0 = ap (λ (y : Bool). hit (cond y false true)) (eqb_here (e.graph.inputs k)) in omega (arith, a, b, d, f);
  }
    where
      unmade : (r m d : ℕ) → HasKey e s r m → 0 < d → 0 < t.total (owed Compute m d) + hit (eqb d (t.word (posted Compute r))) + t.total (items (is_unmade m d)) → many t (is_computed m d) ≡ 0
      unmade r = split2 (λ m d. HasKey e s r m → 0 < d → 0 < t.total (owed Compute m d) + hit (eqb d (t.word (posted Compute r))) + t.total (items (is_unmade m d)) → many t (is_computed m d) ≡ 0) k l
          (λ m d q has some z. rec (is_computed m d) q ∙ (inv.work.computings.each r m d has some).unmade (let a = owes_same e s t before after v w onward advance results inv Compute m d in let b = post_same e s t before after v w onward advance results inv Compute r d in let f = fewer_unmade m d in let g = ap hit q in omega (arith, a, b, f, g, z)))
          (λ has some z. absurd (let a = owes_same e s t before after v w onward advance results inv Compute k l in let b = post_same e s t before after v w onward advance results inv Compute r l in let f = none_unmade in
          let g = job_once e s sums k l (e.graph.inputs k) false v can.at_work c.within inv r has in let h = held_here e s sums k l (e.graph.inputs k) false v can.at_work c.within inv in omega (arith, a, b, f, g, h, z)))

      made : (r m d : ℕ) → HasKey e s r m → 0 < d → 0 < t.total (items (is_made m d)) → 0 < many t (is_computed m d)
      made r = split2 (λ m d. HasKey e s r m → 0 < d → 0 < t.total (items (is_made m d)) → 0 < many t (is_computed m d)) k l
          (λ m d q has some z. let a = (inv.work.computings.each r m d has some).made (let b = items_same (is_made m d) (ap (λ (o : Bool). o && true) q ∙ sym (and_false (two m d k l))) in omega (arith, b, z)) in let f = more (is_computed m d) in omega (arith, a, f))
          (λ has some z. let a = made_now in omega (arith, a))

      begun_before : (r m d : ℕ) → HasKey e s r m → 0 < d → 0 < many t (is_computed m d) → 0 < t.total (begun Compute m d)
      begun_before r = split2 (λ m d. HasKey e s r m → 0 < d → 0 < many t (is_computed m d) → 0 < t.total (begun Compute m d)) k l
          (λ m d q has some z. let a = (inv.work.computings.each r m d has some).begun (let b = rec (is_computed m d) q in omega (arith, b, z)) in let f = eq (begun Compute m d) (begins_same e s t before after v w onward advance results inv Compute m d) in omega (arith, a, f))
          (λ has some z. let a = eq (begun Compute k l) (begins_same e s t before after v w onward advance results inv Compute k l) in let b = sums.add (held Compute k l) (ended Compute k l) in let f = held_here e s sums k l (e.graph.inputs k) false v can.at_work c.within inv in omega (arith, a, b, f))

  root_work : RootWork e t
  root_work = record {
    right_hand = let b : ℕ = e.graph.block e.graph.root in let a = c.sums (in_wrong_hand (e.graph.block e.graph.root) e.graph.root) in let f = advance.its (is_made_any e.graph.root) in let g = ap hit (and_false (eqb e.graph.root k)) in
        let low : in_wrong_hand (e.graph.block e.graph.root) e.graph.root (after_computed k l v) ≤ in_wrong_hand (e.graph.block e.graph.root) e.graph.root v = idle_falls (items (is_made_any e.graph.root) v) (items (is_made_any e.graph.root) (after_computed k l v)) (in_hand (e.graph.block e.graph.root) v) (omega (arith, f, g)) in
        let h = inv.work.root.right_hand in let o = c.within (in_wrong_hand (e.graph.block e.graph.root) e.graph.root) in omega (arith, a, low, h, o);
    unwritten = λ z. ap (λ o. o.tag) (c.blocks (e.graph.block e.graph.root)) ∙ inv.work.root.unwritten (let a = eq (in_hand (e.graph.block e.graph.root)) refl in omega (arith, a, z));
    given_up = λ d z. let old = inv.work.root.given_up d (let a = items_same (is_suspect e.graph.root d) refl in let b = rec (is_replaced e.graph.root d) refl in omega (arith, a, b, z)) in
        (let a = eq (ended Compute e.graph.root d) refl in let b = old.0 in omega (arith, a, b), not_here d old.0 ∙ old.1);
  }
    where
      -- a life of the root that was given up isn't being computed
      not_here : (d : ℕ) → 0 < s.total (ended Compute e.graph.root d) → many t (is_computed e.graph.root d) ≡ many s (is_computed e.graph.root d)
      not_here = split2 (λ m d. 0 < s.total (ended Compute m d) → many t (is_computed m d) ≡ many s (is_computed m d)) k l (λ m d q z. rec (is_computed m d) q)
          (λ z. absurd (let r = key_row e s sums k l (e.graph.inputs k) false v can.at_work c.within inv in let a = job_once e s sums k l (e.graph.inputs k) false v can.at_work c.within inv r.0 r.1 in let b = held_here e s sums k l (e.graph.inputs k) false v can.at_work c.within inv in omega (arith, a, b, z))) e.graph.root

  blocks : Blocks e t
  blocks = record {
    each = λ b low. let o = inv.blocks.each b low in let hand = eq (in_hand b) refl in record {
      taken = c.words (turn b) ∙ o.taken ∙ sym hand;
      once = let a = o.once in omega (arith, a, hand);
      holds = subst (Holds e t b) (sym (c.blocks b)) (advance_holds e s t before after v w onward advance results inv b (s.block b) (λ d. rec (is_version b d) refl) o.holds);
    };
  }

  pub keeps_computed : Invariant e t
  keeps_computed = record {
    keys = advance_keys e s t before after v w onward advance results inv;
    empty = advance_empty e s t before after v w onward advance results inv;
    lives = advance_lives e s t before after v w onward advance results inv;
    content = advance_content e s t before after v w onward advance results inv;
    facts = advance_facts e s t before after v w onward advance results inv;
    work = record { credits = advance_credits e s t before after v w onward advance results inv; jobs = advance_jobs e s t before after v w onward advance results inv; computings = computings; root = root_work };
    blocks = blocks;
    records = advance_records e s t before after v w onward advance results inv is_of_or computed;
    causes = advance_causes e s t before after v w onward advance results inv;
    strikes = advance_strikes e s t before after v w onward advance results inv refl;
    cover = advance_cover e s t before after v w onward advance results inv;
    activity = advance_activity e s t before after v w onward advance results inv;
    no_fault = wide_no_fault e s t (λ r. c.words (Rattle.core_state.specs.Words.key r)) (λ r. c.words (Rattle.core_state.specs.Words.recovery r)) more (λ unstruck old. items_same is_any_suspect refl ∙ old.none_suspected) (λ b d. rec (is_version b d) refl) c.blocks inv.no_fault;
  }
