-- That a block goes home written keeps every part: the result lies in it, its record comes, and closing begins.
use Rattle.std.proofs.Common.{◌≡◌, ◌≢◌, ◌⊎◌, ℕ, ◌+◌, ◌-◌, ◌≤◌, ◌<◌, Bool, true, false, cond, ◌&&◌, nat_lt, eqb, ne_eqb, ◌∷◌, ⊎_elim, inl, inr, arith, sym, ap, refl, ◌∙◌, subst}
use mathlib.Core.Logic.{dite}
use native.Mathlib.Decide.{ℕ_discrete, dec_lt}
use Rattle.std.proofs.lemmas.Bool.{le-ltb}
use Rattle.core_state.specs.Graph.{Setting, Sound, Reached, Reads}
use Rattle.core_state.specs.Words.{turn, posted, recovery, standing_life, replacing}
use Rattle.core_state.specs.Counts.{hit, bump, items, owed, ended, begun, noted, in_hand, in_wrong_hand}
use Rattle.core_state.specs.Tests.{two, carries, is_unmade, is_made, is_made_any, is_compute, is_close, is_close_from, is_notify, is_suspect, is_any_suspect, is_created, is_spent, is_computed, is_written, is_closed, is_struck, is_struck_upto, is_misstruck, is_miswritten, is_replaced, is_replaced_for, is_any_struck, is_version, is_writing, is_of}
use Rattle.core_state.specs.Change.{Core, Change, Sums, many}
use Rattle.core_state.specs.Laws.{ComputedOnce}
use Rattle.core_state.specs.Rows.{HasKey}
use Rattle.core_state.specs.Work.{Computings, RootWork, is_made_early}
use Rattle.core_state.specs.Blocks.{Holds, Blocks}
use Rattle.core_state.specs.Cover.{Faultless, NoFault}
use Rattle.core_state.specs.Invariant.{Invariant}
use Rattle.core_state.specs.Guards.{CanGiveWritten}
use Rattle.core_state.specs.Effects.{after_give_written}
use Rattle.core_state.specs.Views.{key_of, without_first}
use Rattle.graph_model.specs.declared.record.Record.{Record}
use Rattle.graph_model.specs.declared.record.Record.TheVariants as record_of
use Rattle.core_state.specs.declared.block.BlockCells.{BlockCells}
use Rattle.core_state.specs.declared.job.Job.{Job}
use Rattle.core_state.specs.declared.job.Job.TheVariants.{Explore, Compute}
use Rattle.core_state.specs.declared.views.Item.{Item}
use Rattle.core_state.specs.declared.views.Item.TheVariants as item
use Rattle.core_state.specs.declared.views.View.{View}
use Rattle.core_state.proofs.Blocks.Advance.{Onward, Advance, Results, turn_onward, advanced_items, begins_same, keys_same, recovery_same, owes_same, post_same, advance_keys, advance_empty, advance_lives, advance_content, advance_facts, advance_credits, advance_jobs, advance_causes, advance_strikes, advance_cover, advance_activity, advance_records, advance_holds}
use Rattle.core_state.proofs.Blocks.Blame.{written_life}
use Rattle.core_state.proofs.Base.Counting.{bump_is, two_here, two_tells, not_two, split2, three_else}
use Rattle.core_state.proofs.Blocks.Versions.{many_some, version_written, version_below, made_after}
use Rattle.core_state.proofs.Base.Frame.{had}
use Rattle.core_state.proofs.Blocks.Home.{hand_left, wrong_falls, none_has, other_hand, given_blocks}
use Rattle.core_state.proofs.Credit.JobView.{and_false}
use Rattle.core_state.proofs.Base.Tops.{push_came, push_length}
use Rattle.core_state.proofs.Blocks.AtWork.{key_row, key_reached, held_here, computing_once, life_named, job_once, computing, some_item, not_written}

-- closing carries the job that computing carried
closing_carries : (k l read w : ℕ) (i : Job) (m d : ℕ) → carries i m d (item.Close k l w) ≡ carries i m d (item.Compute k l true read true)
closing_carries k l read w Explore m d = refl
closing_carries k l read w Compute m d = refl

cond_most : (q : Bool) (n : ℕ) → cond q n 0 ≤ n
cond_most true n = omega arith
cond_most false n = omega arith

written_writing : (k l : ℕ) (x : Record) → is_written k l x ≡ true → is_writing k x ≡ true
written_writing k l (record_of.Written a m b u) z = by (eqb k a.0) z
  where
    by : (q : Bool) → (q && eqb l m) ≡ true → q ≡ true
    by true f = refl
    by false f = absurd cc
written_writing k l x z = absurd cc

-- while no strike has landed each record is of the first life
first_life : (e : Setting) (s : Core) (inv : Invariant e s) (old : Faultless e s) (r k l : ℕ) → HasKey e s r k → 0 < many s (is_of k l) → l ≡ 1
first_life e s inv old r k l has some = dite (ℕ_discrete l 0)
    (λ z. absurd (let a = inv.records.some_life k in let d = ap (λ x. many s (is_of k x)) z in omega (arith, a, d, some)))
    (λ ne. dite (dec_lt 1 l)
    (λ later. absurd (let a = inv.records.lives.replaced_before k l later some in let d = inv.records.replaced r k (l - 1) has in let f = old.first_life r k has in
    let g : nat_lt (l - 1) (standing_life (s.word (recovery r)) + replacing (s.word (recovery r))) ≡ false = le-ltb (l - 1) (standing_life (s.word (recovery r)) + replacing (s.word (recovery r))) (omega (arith, f, later)) in
    let h : hit (nat_lt 0 (l - 1) && nat_lt (l - 1) (standing_life (s.word (recovery r)) + replacing (s.word (recovery r)))) ≡ 0 = ap (λ (o : Bool). hit (nat_lt 0 (l - 1) && o)) g ∙ ap hit (and_false (nat_lt 0 (l - 1))) in omega (arith, a, d, h)))
    (λ low. omega (arith, low, ne)))

module _ (e : Setting) (fit : Sound e) (s t : Core) (sums : Sums s) (k l b n : ℕ) (was now : BlockCells) (v : View) (can : CanGiveWritten e v k l b was now) (left_block : t.block b ≡ now) (c : Change s t (turn b) n 0 v (after_give_written k l b now.tag v)) (inv : Invariant e s) where
  abbrev w : View
  w = after_give_written k l b now.tag v

  abbrev before : Item
  before = item.Compute k l true can.read true

  abbrev after : Item
  after = item.Close k l 0

  eq : (f : View → ℕ) → f (after_give_written k l b now.tag v) ≡ f v → t.total f ≡ s.total f
  eq f q = let a = c.sums f in omega (arith, a, q)

  rec : (p : Record → Bool) → p (record_of.Written (key_of k) l b now.tag) ≡ false → many t p ≡ many s p
  rec p q = eq (noted p) (ap (λ (o : Bool). bump o (noted p v)) q)

  more : (p : Record → Bool) → many s p ≤ many t p
  more p = let a = c.sums (noted p) in let d = bump_is (p (record_of.Written (key_of k) l b now.tag)) (noted p v) in omega (arith, a, d)

  one_more : (p : Record → Bool) → p (record_of.Written (key_of k) l b now.tag) ≡ true → many t p ≡ many s p + 1
  one_more p q = let a = c.sums (noted p) in let d : noted p (after_give_written k l b now.tag v) ≡ noted p v + 1 = ap (λ (o : Bool). bump o (noted p v)) q in omega (arith, a, d)

  advance : Advance (item.Compute k l true can.read true) (item.Close k l 0) v (after_give_written k l b now.tag v)
  advance = let at = can.at_work in record {
    its = λ p. advanced_items p (λ xs. item.Close k l 0 ∷ without_first xs) v.stacks at.others at.stack (item.Compute k l true can.read true) (item.Close k l 0) at.below at.stacks_are at.items_are refl;
    before = λ p q. q.compute k l can.read true true;
    after = λ p q. q.close k l 0;
    same_key = λ m. refl;
    same_job = closing_carries k l can.read 0;
    comes = λ i m d. push_came i m d (λ xs. item.Close k l 0 ∷ without_first xs) v.stacks;
    stacks_as_many = push_length (λ xs. item.Close k l 0 ∷ without_first xs) v.stacks;
    spare_same = refl;
    ended_are = refl;
    known_are = refl;
  }

  results : Results s t
  results = record {
    more = more;
    created = λ m. rec (is_created m) refl;
    spent = λ m d j. rec (is_spent m d j) refl;
    closed = λ m d j. rec (is_closed m d j) refl;
    struck = λ m d h. rec (is_struck m d h) refl;
    struck_upto = λ m d h. rec (is_struck_upto m d h) refl;
    misstruck = λ g. rec (is_misstruck g) refl;
    replaced = λ m d. rec (is_replaced m d) refl;
    replaced_for = λ m d f. rec (is_replaced_for m d f) refl;
  }

  onward : Onward s t v (after_give_written k l b now.tag v)
  onward = turn_onward s t b n 0 v (after_give_written k l b now.tag v) c

  unwritten : many s (is_written k l) ≡ 0
  unwritten = not_written e s sums k l can.read true v can.at_work c.within inv

  unclosed : (i : ℕ) → many s (is_closed k l i) ≡ 0
  unclosed i = dite (ℕ_discrete (many s (is_closed k l i)) 0) (λ q. q) (λ ne. absurd (let a = inv.records.computed.closed_written k l i (omega (arith, ne)) in let d = unwritten in omega (arith, a, d)))

  written_now : many t (is_written k l) ≡ many s (is_written k l) + 1
  written_now = one_more (is_written k l) (two_here k l)

  was_made : 0 < many s (is_computed k l)
  was_made = (computing e s sums k l can.read true v can.at_work c.within inv).made (some_item e s sums k l can.read true v can.at_work c.within inv (is_made k l) (ap (λ (o : Bool). o && true) (two_here k l)))

  rightly : is_miswritten e.graph (record_of.Written (key_of k) l b now.tag) ≡ false
  rightly = ap (λ (o : Bool). cond o false true) (ap (λ o. two (e.graph.block k) (e.graph.version k) o now.tag) can.block_is ∙ ap (λ o. two (e.graph.block k) (e.graph.version k) (e.graph.block k) o) can.tag_is ∙ two_here (e.graph.block k) (e.graph.version k))

  computed : ComputedOnce e.graph (many t)
  computed = record {
    computed_once = λ m d. let a = rec (is_computed m d) refl in let f = inv.records.computed.computed_once m d in omega (arith, a, f);
    computed_ready = λ m d j z place. let a = inv.records.computed.computed_ready m d j (let f = rec (is_computed m d) refl in omega (arith, f, z)) place in let f = more (is_spent m d j) in omega (arith, a, f);
    written_once = split2 (λ m d. many t (is_written m d) ≤ 1) k l (λ m d q. let a = rec (is_written m d) q in let f = inv.records.computed.written_once m d in omega (arith, a, f)) (let a = written_now in let f = unwritten in omega (arith, a, f));
    written_place = rec (is_miswritten e.graph) rightly ∙ inv.records.computed.written_place;
    written_computed = split2 (λ m d. 0 < many t (is_written m d) → 0 < many t (is_computed m d)) k l (λ m d q z. let a = inv.records.computed.written_computed m d (let f = rec (is_written m d) q in omega (arith, f, z)) in let f = more (is_computed m d) in omega (arith, a, f))
        (λ z. let a = was_made in let f = more (is_computed k l) in omega (arith, a, f));
    closed_once = λ m d y. let a = rec (is_closed m d y) refl in let f = inv.records.computed.closed_once m d y in omega (arith, a, f);
    closed_word = λ m d y z. inv.records.computed.closed_word m d y (let a = rec (is_closed m d y) refl in omega (arith, a, z));
    closed_written = λ m d y z. let a = inv.records.computed.closed_written m d y (let f = rec (is_closed m d y) refl in omega (arith, f, z)) in let f = more (is_written m d) in omega (arith, a, f);
  }

  is_of_or : (m d : ℕ) → (many t (is_of m d) ≡ many s (is_of m d)) ⊎ (0 < many s (is_of m d))
  is_of_or = split2 (λ m d. (many t (is_of m d) ≡ many s (is_of m d)) ⊎ (0 < many s (is_of m d))) k l (λ m d q. inl (rec (is_of m d) q)) (inr (life_named e s sums k l can.read true v can.at_work c.within inv))

  -- items of which neither the computing nor the closing is one
  stay : (p : Item → Bool) → p (item.Close k l 0) ≡ p (item.Compute k l true can.read true) → t.total (items p) ≡ s.total (items p)
  stay p q = eq (items p) (let a = advance.its p in let d = ap hit q in omega (arith, a, d))

  owes : (m d : ℕ) → t.total (owed Compute m d) ≡ s.total (owed Compute m d)
  owes m d = owes_same e s t before after v w onward advance results inv Compute m d

  posts : (r d : ℕ) → hit (eqb d (t.word (posted Compute r))) ≡ hit (eqb d (s.word (posted Compute r)))
  posts r d = post_same e s t before after v w onward advance results inv Compute r d

  computings : Computings e t
  computings = record {
    each = λ r m d it' some. let has = had e s t (keys_same e s t before after v w onward advance results inv) r m it' in let old = inv.work.computings.each r m d has some in record {
      unmade = λ z. rec (is_computed m d) refl ∙ old.unmade (let a = owes m d in let f = posts r d in let g = stay (is_unmade m d) (sym (and_false (two m d k l))) in omega (arith, a, f, g, z));
      made = λ z. let a = old.made (let f = c.sums (items (is_made m d)) in let g = advance.its (is_made m d) in omega (arith, f, g, z)) in let f = more (is_computed m d) in omega (arith, a, f);
      unwritten = no_write r m d has some;
      written = wrote r m d has some;
      closing = λ y i z. rec (is_closed m d i) refl ∙ closes r m d y i has some z;
      close_word = λ y z. words r m d y has some z;
      notifying = λ y z. let a = old.notifying y (let f = stay (is_notify m d y) refl in omega (arith, f, z)) in let f = more (is_closed m d y) in omega (arith, a, f);
      begun = λ z. let a = old.begun (let f = rec (is_computed m d) refl in omega (arith, f, z)) in let f = eq (begun Compute m d) (begins_same e s t before after v w onward advance results inv Compute m d) in omega (arith, a, f);
    };
    none_early = let a = inv.work.computings.none_early in let f = c.sums (items (is_made_early e.graph)) in let g = advance.its (is_made_early e.graph) in omega (arith, a, f, g);
  }
    where
      no_write : (r m d : ℕ) → HasKey e s r m → 0 < d → 0 < t.total (owed Compute m d) + hit (eqb d (t.word (posted Compute r))) + t.total (items (is_compute m d)) → many t (is_written m d) ≡ 0
      no_write r = split2 (λ m d. HasKey e s r m → 0 < d → 0 < t.total (owed Compute m d) + hit (eqb d (t.word (posted Compute r))) + t.total (items (is_compute m d)) → many t (is_written m d) ≡ 0) k l
          (λ m d q has some z. rec (is_written m d) q ∙ (inv.work.computings.each r m d has some).unwritten (let a = owes m d in let f = posts r d in let g = stay (is_compute m d) (sym q) in omega (arith, a, f, g, z)))
          (λ has some z. absurd (let a = owes k l in let f = posts r l in let g = c.sums (items (is_compute k l)) in let h = advance.its (is_compute k l) in let i = ap hit (two_here k l) in let j = computing_once e s sums k l can.read true v can.at_work c.within inv in
          let o = job_once e s sums k l can.read true v can.at_work c.within inv r has in let p = held_here e s sums k l can.read true v can.at_work c.within inv in omega (arith, a, f, g, h, i, j, o, p, z)))

      wrote : (r m d : ℕ) → HasKey e s r m → 0 < d → 0 < t.total (items (is_close m d)) → 0 < many t (is_written m d)
      wrote r = split2 (λ m d. HasKey e s r m → 0 < d → 0 < t.total (items (is_close m d)) → 0 < many t (is_written m d)) k l
          (λ m d q has some z. let a = (inv.work.computings.each r m d has some).written (let f = stay (is_close m d) q in omega (arith, f, z)) in let f = more (is_written m d) in omega (arith, a, f)) (λ has some z. let a = written_now in omega (arith, a))

      close_or : (m d y : ℕ) → (t.total (items (is_close_from m d y)) ≡ s.total (items (is_close_from m d y))) ⊎ ((m ≡ k) × (d ≡ l) × (y ≡ 0))
      close_or m d y = ⊎_elim (λ q. inl (let a = c.sums (items (is_close_from m d y)) in let f = advance.its (is_close_from m d y) in omega (arith, a, f, q))) (λ q. inr q) (three_else m d y k l 0)

      closes : (r m d y i : ℕ) → HasKey e s r m → 0 < d → 0 < t.total (items (is_close_from m d y)) → many s (is_closed m d i) ≡ hit (nat_lt i y)
      closes r m d y i has some z = ⊎_elim (λ q. (inv.work.computings.each r m d has some).closing y i (omega (arith, q, z)))
          (λ q. ap (λ o. many s (is_closed o d i)) q.0 ∙ ap (λ o. many s (is_closed k o i)) q.1 ∙ unclosed i ∙ sym (ap (λ o. hit (nat_lt i o)) q.2 ∙ ap hit (le-ltb i 0 (omega arith)))) (close_or m d y)

      words : (r m d y : ℕ) → HasKey e s r m → 0 < d → 0 < t.total (items (is_close_from m d y)) → y ≤ e.graph.notify_words m
      words r m d y has some z = ⊎_elim (λ q. (inv.work.computings.each r m d has some).close_word y (omega (arith, q, z))) (λ q. let a = q.2 in omega (arith, a)) (close_or m d y)

  hand : (d : ℕ) → in_hand d (after_give_written k l b now.tag v) + hit (eqb d b) ≡ in_hand d v
  hand d = hand_left d b was v can.hand

  reached : Reached e.graph k
  reached = key_reached e s sums k l can.read true v can.at_work c.within inv

  inside : b < e.shape.blocks
  inside = subst (λ o. o < e.shape.blocks) (sym can.block_is) (fit.blocks_fit k reached)

  none : t.total (in_hand b) ≡ 0
  none = none_has e s t b n v w c hand inv.blocks inside

  of_root : e.graph.block e.graph.root ≡ b → k ≡ e.graph.root
  of_root q = fit.lawful.root_block.1 k (sym (q ∙ can.block_is))

  root_is : k ≡ e.graph.root → e.graph.block e.graph.root ≡ b
  root_is q = ap e.graph.block (sym q) ∙ sym can.block_is

  root_work : RootWork e t
  root_work = record {
    right_hand = let a = c.sums (in_wrong_hand (e.graph.block e.graph.root) e.graph.root) in let f = inv.work.root.right_hand in let g = c.within (in_wrong_hand (e.graph.block e.graph.root) e.graph.root) in dite (ℕ_discrete k e.graph.root)
        (λ q. let h = cond_most (eqb (items (is_made_any e.graph.root) (after_give_written k l b now.tag v)) 0) (in_hand (e.graph.block e.graph.root) (after_give_written k l b now.tag v)) in
        let i : t.total (in_hand (e.graph.block e.graph.root)) ≡ 0 = ap (λ o. t.total (in_hand o)) (root_is q) ∙ none in let j = c.sums (in_hand (e.graph.block e.graph.root)) in let o = c.within (in_hand (e.graph.block e.graph.root)) in omega (arith, a, f, g, h, i, j, o))
        (λ ne. let same : items (is_made_any e.graph.root) (after_give_written k l b now.tag v) ≡ items (is_made_any e.graph.root) v = (let h = advance.its (is_made_any e.graph.root) in let i = ap (λ (o : Bool). hit (o && true)) (ne_eqb e.graph.root k (λ q. ne (sym q))) in omega (arith, h, i)) in
        let low : in_hand (e.graph.block e.graph.root) (after_give_written k l b now.tag v) ≤ in_hand (e.graph.block e.graph.root) v = (let h = hand (e.graph.block e.graph.root) in omega (arith, h)) in
        let h = wrong_falls (e.graph.block e.graph.root) e.graph.root v (after_give_written k l b now.tag v) same low in omega (arith, a, f, g, h));
    unwritten = λ some. dite (ℕ_discrete k e.graph.root)
        (λ q. absurd (let a : t.total (in_hand (e.graph.block e.graph.root)) ≡ 0 = ap (λ o. t.total (in_hand o)) (root_is q) ∙ none in omega (arith, a, some)))
        (λ ne. let apart : e.graph.block e.graph.root ≢ b = λ q. ne (of_root q) in ap (λ o. o.tag) (c.blocks (e.graph.block e.graph.root) (λ q. apart (let y : e.graph.block e.graph.root ≡ b = cc in y))) ∙
        inv.work.root.unwritten (let a = other_hand e s t b n v w c hand inv.blocks (e.graph.block e.graph.root) apart in omega (arith, a, some)));
    given_up = λ d z. let old = inv.work.root.given_up d (let a = stay (is_suspect e.graph.root d) refl in let f = rec (is_replaced e.graph.root d) refl in omega (arith, a, f, z)) in
        (let a = eq (ended Compute e.graph.root d) refl in let f = old.0 in omega (arith, a, f), rec (is_computed e.graph.root d) refl ∙ old.1);
  }

  writer_is : e.graph.writer b now.tag ≡ k
  writer_is = ap (λ o. e.graph.writer o now.tag) can.block_is ∙ ap (λ o. e.graph.writer (e.graph.block k) o) can.tag_is ∙ fit.lawful.written_by k reached

  some_tag : 0 < now.tag
  some_tag = let a = (fit.lawful.from_one k reached).0 in let d = can.tag_is in omega (arith, a, d)

  old_version : (u : ℕ) → now.tag < u → 0 < many t (is_version b u) → 0 < many s (is_version b u)
  old_version u less z = let a = rec (is_version b u) (not_two b u b now.tag (λ q. let f = q.1 in omega (arith, f, less))) in omega (arith, a, z)

  -- a version above this one was written only after this one was
  wrote_before : (u : ℕ) → now.tag < u → 0 < many t (is_version b u) → 0 < many s (is_version b now.tag)
  wrote_before u less z = version_below e fit s sums inv.records b now.tag (u - now.tag) some_tag (subst (λ o. 0 < many s (is_version b o)) (let q : u ≡ now.tag + (u - now.tag) = omega (arith, less) in q) (old_version u less z))

  blocks : Blocks e t
  blocks = given_blocks e s t b n v w c hand inv.blocks
      (λ low. subst (Holds e t b) (sym left_block) record {
        good = λ z some. can.cells_are ∙ sym (ap e.graph.value writer_is);
        written = λ some. let a = one_more (is_version b now.tag) (two_here b now.tag) in omega (arith, a);
        struck = λ z. absurd (let q = can.unstruck in cc);
        twice = λ u less z. let a = one_more (is_version b now.tag) (two_here b now.tag) in let d = wrote_before u less z in omega (arith, a, d);
        root = λ q. can.unstruck;
      })
      (λ d ne o. advance_holds e s t before after v w onward advance results inv d (s.block d) (λ u. rec (is_version d u) (not_two d u b now.tag (λ q. ne q.0))) o)

  no_fault : NoFault e t
  no_fault = record {
    faultless = λ z. let old = inv.no_fault.faultless (sym (rec is_any_struck refl) ∙ z) in record {
      first_life = λ r m it'. recovery_same e s t before after v w onward advance results inv r ∙ old.first_life r m (had e s t (keys_same e s t before after v w onward advance results inv) r m it');
      none_suspected = stay is_any_suspect refl ∙ old.none_suspected;
      newest = λ d u low some. dite (ℕ_discrete d b)
          (λ q. let same = ap (λ o. o.tag) (ap t.block q ∙ left_block) in let a = newest_here old u (subst (λ o. 0 < many t (is_version o u)) q some) in omega (arith, same, a))
          (λ ne. let same = ap (λ o. o.tag) (c.blocks d (λ q. ne (let y : d ≡ b = cc in y))) in let a = old.newest d u low (let f = rec (is_version d u) (not_two d u b now.tag (λ q. ne q.0)) in omega (arith, f, some)) in omega (arith, same, a));
      readers_first = λ d u m some wrote reads not_root other. ⊎_elim
          (λ q. let a = old.readers_first d u m some (let f = rec (is_version d (u + 1)) q in omega (arith, f, wrote)) reads not_root other in let f = more (is_writing m) in omega (arith, a, f))
          (λ q. let a = reader_writes d u m some q.1 q.2 reads not_root other in let f = more (is_writing m) in omega (arith, a, f)) (two_tells d (u + 1) b now.tag);
    };
  }
    where
      newest_here : Faultless e s → (u : ℕ) → 0 < many t (is_version b u) → u ≤ now.tag
      newest_here old u z = dite (dec_lt now.tag u)
          (λ less. absurd (let by = version_written e fit s sums inv.records b now.tag (wrote_before u less z) in let row = key_row e s sums k l can.read true v can.at_work c.within inv in
          let mine : 0 < many s (is_written k by.0) = subst (λ o. 0 < many s (is_written o by.0)) writer_is by.1 in
          let first = first_life e s inv old row.0 k by.0 row.1 (written_life e fit s sums inv k by.0 mine) in let this = first_life e s inv old row.0 k l row.1 (life_named e s sums k l can.read true v can.at_work c.within inv) in
          let same : by.0 ≡ l = first ∙ sym this in let a = ap (λ o. many s (is_written k o)) same in let d = unwritten in omega (arith, mine, a, d)))
          (λ high. omega (arith, high))

      -- a predecessor wrote before this result was made
      pred_writes : (j m : ℕ) → j < e.graph.places k → (e.graph.pred k j).task ≡ m → 0 < many s (is_writing m)
      pred_writes j m low is = let by = made_after e fit s sums inv.records k l j was_made low in let r = many_some e fit s sums inv.records (is_written (e.graph.pred k j).task by.0) by.1 in
          subst (λ o. 0 < many s (is_writing o)) is (r.2 (is_writing (e.graph.pred k j).task) (written_writing (e.graph.pred k j).task by.0 r.0 r.1))

      -- who reads the version below wrote before
      reader_writes : (d u m : ℕ) → 0 < u → d ≡ b → u + 1 ≡ now.tag → Reads e.graph m d u → m ≢ e.graph.root → m ≢ e.graph.writer d (u + 1) → 0 < many s (is_writing m)
      reader_writes d u m some is_block is_tag reads not_root other = let this : e.graph.writer d (u + 1) ≡ k = ap (λ o. e.graph.writer o (u + 1)) is_block ∙ ap (λ o. e.graph.writer b o) is_tag ∙ writer_is in
          let low : u < e.graph.versions d = (let a = (fit.lawful.from_one k reached).1 in let f = ap e.graph.versions (is_block ∙ can.block_is) in let g = can.tag_is in omega (arith, a, f, g, is_tag)) in
          ⊎_elim (λ q. absurd (other q)) (λ j. pred_writes j.0 m (subst (λ o. j.0 < e.graph.places o) this j.1) (ap (λ o. (e.graph.pred o j.0).task) (sym this) ∙ j.2)) (fit.lawful.after_readers d u m some low not_root reads)

  pub keeps_give_written : Invariant e t
  keeps_give_written = record {
    keys = advance_keys e s t before after v w onward advance results inv;
    empty = advance_empty e s t before after v w onward advance results inv;
    lives = advance_lives e s t before after v w onward advance results inv;
    content = advance_content e s t before after v w onward advance results inv;
    facts = advance_facts e s t before after v w onward advance results inv;
    work = record { credits = advance_credits e s t before after v w onward advance results inv; jobs = advance_jobs e s t before after v w onward advance results inv; computings = computings; root = root_work };
    blocks = blocks;
    records = advance_records e s t before after v w onward advance results inv is_of_or computed;
    causes = advance_causes e s t before after v w onward advance results inv;
    strikes = advance_strikes e s t before after v w onward advance results inv refl;
    cover = advance_cover e s t before after v w onward advance results inv;
    activity = advance_activity e s t before after v w onward advance results inv;
    no_fault = no_fault;
  }
