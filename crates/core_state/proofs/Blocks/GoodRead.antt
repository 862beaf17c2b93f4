-- That a block goes home as it was keeps every part, where nothing was read, a good input was, or a strike missed.
use Rattle.std.proofs.Common.{◌≡◌, ◌⊎◌, ℕ, ◌+◌, ◌≤◌, ◌<◌, Bool, true, false, cond, ◌&&◌, nat_lt, eqb, ne_eqb, List, [], ◌∷◌, ⊎_elim, inl, inr, arith, sym, ap, refl, ◌∙◌, subst}
use mathlib.Core.Option.{Option, some, none}
use mathlib.Core.Logic.{dite}
use native.Mathlib.Decide.{ℕ_discrete, dec_lt}
use Rattle.std.proofs.lemmas.Bool.{eq-eqb, eqb-true, lt-ltb, le-ltb}
use Rattle.core_state.specs.Graph.{Setting, Sound, Graph}
use Rattle.core_state.specs.Words.{turn}
use Rattle.core_state.specs.Counts.{hit, count, items, owed, ended, begun, noted, in_hand, in_wrong_hand, struck_upto}
use Rattle.core_state.specs.Tests.{is_unmade, is_made, is_made_any, is_compute, is_close, is_close_from, is_notify, is_suspect, is_any_suspect, is_hand, is_computed, is_replaced, is_version, carries, strikes_upto, is_struck_upto}
use Rattle.core_state.specs.Change.{Core, Change, Sums, many}
use Rattle.core_state.specs.Work.{Computings, RootWork, is_made_early}
use Rattle.core_state.specs.Blocks.{Blocks}
use Rattle.core_state.specs.Records.{Strikes}
use Rattle.core_state.specs.Invariant.{Invariant}
use Rattle.core_state.specs.Guards.{AtWork, InHand}
use Rattle.core_state.specs.Effects.{after_give_read, is_good, read_items, read_ended, missed, missed_by}
use Rattle.core_state.specs.Views.{on_top, top_items, without_first, strike_next, strike_of}
use Rattle.graph_model.specs.declared.plan.Target.TheVariants as target
use Rattle.graph_model.specs.declared.record.Record.{Record}
use Rattle.core_state.specs.declared.block.BlockCells.{BlockCells}
use Rattle.core_state.specs.declared.job.Job.{Job}
use Rattle.core_state.specs.declared.job.Job.TheVariants.{Explore, Compute}
use Rattle.core_state.specs.declared.views.Item.{Item}
use Rattle.core_state.specs.declared.views.Item.TheVariants as item
use Rattle.core_state.specs.declared.views.Stack.{Stack}
use Rattle.core_state.specs.declared.views.View.{View}
use Rattle.core_state.proofs.Blocks.Advance.{Onward, Advance, Results, turn_onward, advanced_items, it, begins_same, ends_same, keys_same, recovery_same, shown, owes_same, post_same, advance_keys, advance_empty, advance_lives, advance_content, advance_facts, advance_credits, advance_jobs, advance_causes, advance_strikes, advance_cover, advance_activity, advance_holds}
use Rattle.core_state.proofs.Base.Counting.{bump_is}
use Rattle.core_state.proofs.Base.Frame.{SameRecords, frame_records}
use Rattle.core_state.proofs.Base.MoreRecords.{block_struck_grows}
use Rattle.core_state.proofs.Blocks.Home.{hand_left, wrong_falls, given_blocks}
use Rattle.core_state.proofs.Base.Tops.{push_came, push_length}
use Rattle.core_state.proofs.Strike.Missed.{missed_is, missed_struck}
use Rattle.core_state.proofs.Strike.Once.{one_strike}
use Rattle.core_state.proofs.Strike.Next.{next_strike_is, not_made}
use Rattle.core_state.proofs.Blocks.AtWork.{not_made_yet}
use Rattle.core_state.proofs.Base.WeakFrame.{shown_lives, wide_computings, wide_no_fault}

-- two items of a computing that differ at most in how many inputs were read
pub record Alike (x y : Item) : Type 0 where
  pub unmade : (m l : ℕ) → is_unmade m l y ≡ is_unmade m l x
  pub made : (m l : ℕ) → is_made m l y ≡ is_made m l x
  pub made_any : (m : ℕ) → is_made_any m y ≡ is_made_any m x
  pub compute : (m l : ℕ) → is_compute m l y ≡ is_compute m l x
  pub close : (m l : ℕ) → is_close m l y ≡ is_close m l x
  pub close_from : (m l d : ℕ) → is_close_from m l d y ≡ is_close_from m l d x
  pub early : (g : Graph) → hit (is_made_early g y) ≤ hit (is_made_early g x)

-- the block went home as it was, and no record came
module _ (e : Setting) (s t : Core) (b n : ℕ) (was : BlockCells) (x y : Item) (v w : View) (hand : InHand v b was) (stays : t.block b ≡ s.block b) (c : Change s t (turn b) n 0 v w) (u : Advance x y v w) (a : Alike x y) (records_are : w.records ≡ v.records) (hands_are : w.hands ≡ without_first v.hands) (inv : Invariant e s) where
  eq : (f : View → ℕ) → f w ≡ f v → t.total f ≡ s.total f
  eq f q = let o = c.sums f in omega (arith, o, q)

  recs : SameRecords s t
  recs p = eq (noted p) (ap (count p) records_are)

  more : (p : Record → Bool) → many s p ≤ many t p
  more p = let o = recs p in omega (arith, o)

  pub results : Results s t
  results = record { more = more; created = λ m. recs _; spent = λ m d j. recs _; closed = λ m d j. recs _; struck = λ m d h. recs _; struck_upto = λ m d h. recs _; misstruck = λ g. recs _; replaced = λ m d. recs _; replaced_for = λ m d f. recs _ }

  pub onward : Onward s t v w
  onward = turn_onward s t b n 0 v w c

  stay_view : (p : Item → Bool) → p y ≡ p x → items p w ≡ items p v
  stay_view p q = let o = u.its p in let d = ap hit q in omega (arith, o, d)

  stay : (p : Item → Bool) → p y ≡ p x → t.total (items p) ≡ s.total (items p)
  stay p q = eq (items p) (stay_view p q)

  left : (d : ℕ) → in_hand d w + hit (eqb d b) ≡ in_hand d v
  left d = let o = hand_left d b was v hand in let f : in_hand d w ≡ count (is_hand d) (without_first v.hands) = ap (count (is_hand d)) hands_are in omega (arith, o, f)

  same_block : (d : ℕ) → t.block d ≡ s.block d
  same_block d = dite (ℕ_discrete d b) (λ q. ap t.block q ∙ stays ∙ sym (ap s.block q)) (λ ne. c.blocks d (λ q. ne (let z : d ≡ b = cc in z)))

  computings : Computings e t
  computings = wide_computings e s t (keys_same e s t x y v w onward u results inv)
      (λ r m l old life z. (inv.work.computings.each r m l old life).unmade (let o = owes_same e s t x y v w onward u results inv Compute m l in let d = post_same e s t x y v w onward u results inv Compute r l in let f = stay (is_unmade m l) (a.unmade m l) in omega (arith, o, d, f, z)))
      (λ r m l old life z. (inv.work.computings.each r m l old life).unwritten (let o = owes_same e s t x y v w onward u results inv Compute m l in let d = post_same e s t x y v w onward u results inv Compute r l in let f = stay (is_compute m l) (a.compute m l) in omega (arith, o, d, f, z)))
      (λ m l z. let o = stay (is_made m l) (a.made m l) in omega (arith, o, z)) (λ m l z. let o = stay (is_close m l) (a.close m l) in omega (arith, o, z)) (λ m l d z. let o = stay (is_close_from m l d) (a.close_from m l d) in omega (arith, o, z))
      (λ m l d z. let o = it e s t x y v w onward u results inv (is_notify m l d) record { compute = λ k l n a b. refl; close = λ k l w. refl } in omega (arith, o, z)) (λ m l z. let o = eq (begun Compute m l) (begins_same e s t x y v w onward u results inv Compute m l) in omega (arith, o, z))
      (let o = c.sums (items (is_made_early e.graph)) in let d = u.its (is_made_early e.graph) in let f = a.early e.graph in let g = inv.work.computings.none_early in let h = c.within (items (is_made_early e.graph)) in omega (arith, o, d, f, g, h))
      (λ m l. recs (is_computed m l)) (λ m l. recs _) (λ m l d. recs _) inv.work.computings

  root_work : RootWork e t
  root_work = record {
    right_hand = let o = c.sums (in_wrong_hand (e.graph.block e.graph.root) e.graph.root) in let d = stay_view (is_made_any e.graph.root) (a.made_any e.graph.root) in let f = left (e.graph.block e.graph.root) in
        let low = wrong_falls (e.graph.block e.graph.root) e.graph.root v w d (omega (arith, f)) in
        let g = inv.work.root.right_hand in let h = c.within (in_wrong_hand (e.graph.block e.graph.root) e.graph.root) in omega (arith, o, low, g, h);
    unwritten = λ z. ap (λ o. o.tag) (same_block (e.graph.block e.graph.root)) ∙ inv.work.root.unwritten (let o = c.sums (in_hand (e.graph.block e.graph.root)) in let d = left (e.graph.block e.graph.root) in let f = c.within (in_hand (e.graph.block e.graph.root)) in omega (arith, o, d, f, z));
    given_up = λ d z. let old = inv.work.root.given_up d (let o = it e s t x y v w onward u results inv (is_suspect e.graph.root d) record { compute = λ k l n a b. refl; close = λ k l w. refl } in let f = recs (is_replaced e.graph.root d) in omega (arith, o, f, z)) in
        (let o = eq (ended Compute e.graph.root d) (ends_same e s t x y v w onward u results inv Compute e.graph.root d) in let f = old.0 in omega (arith, o, f), recs (is_computed e.graph.root d) ∙ old.1);
  }

  pub returned : Strikes e t → Invariant e t
  returned strikes = record {
    keys = advance_keys e s t x y v w onward u results inv;
    empty = advance_empty e s t x y v w onward u results inv;
    lives = advance_lives e s t x y v w onward u results inv;
    content = advance_content e s t x y v w onward u results inv;
    facts = advance_facts e s t x y v w onward u results inv;
    work = record { credits = advance_credits e s t x y v w onward u results inv; jobs = advance_jobs e s t x y v w onward u results inv; computings = computings; root = root_work };
    blocks = given_blocks e s t b n v w c left inv.blocks (λ low. subst (Rattle.core_state.specs.Blocks.Holds e t b) (sym stays) (advance_holds e s t x y v w onward u results inv b (s.block b) (λ d. recs (is_version b d)) (inv.blocks.each b low).holds))
        (λ d ne o. advance_holds e s t x y v w onward u results inv d (s.block d) (λ f. recs (is_version d f)) o);
    records = frame_records e s t (keys_same e s t x y v w onward u results inv) (recovery_same e s t x y v w onward u results inv) recs inv.records;
    causes = advance_causes e s t x y v w onward u results inv;
    strikes = strikes;
    cover = advance_cover e s t x y v w onward u results inv;
    activity = advance_activity e s t x y v w onward u results inv;
    no_fault = wide_no_fault e s t (keys_same e s t x y v w onward u results inv) (recovery_same e s t x y v w onward u results inv) more (λ unstruck old. it e s t x y v w onward u results inv is_any_suspect record { compute = λ k l n a b. refl; close = λ k l w. refl } ∙ old.none_suspected) (λ b d. recs (is_version b d)) same_block inv.no_fault;
  }

-- a bad input is met: the block holds another version than the next input, or the mark
pub record ReadsBad (e : Setting) (b : ℕ) (was : BlockCells) (v : View) (k l read : ℕ) (made : Bool) : Type 0 where
  pub at_work : AtWork v (item.Compute k l true read made)
  pub is_input : read < e.graph.inputs k
  pub of_block : b ≡ e.graph.block (e.graph.pred k read).task
  pub bad : is_good (e.graph.version (e.graph.pred k read).task) was ≡ false

is_lower : (a b : ℕ) → nat_lt a b ≡ true → a < b
is_lower a b z = dite (dec_lt a b) (λ low. low) (λ high. absurd (let f : nat_lt a b ≡ false = le-ltb a b (omega (arith, high)) in cc))

-- what giving the block back does to the item at work
data Reading (e : Setting) (b : ℕ) (was : BlockCells) (v : View) : Type 0 where
  nothing : on_top (read_items e.graph b was) v.stacks ≡ v.stacks → read_ended e.graph b was (top_items v.stacks) v.ended ≡ v.ended → Reading e b was v
  good : (k l read : ℕ) (made : Bool) → AtWork v (item.Compute k l true read made) → read < e.graph.inputs k → b ≡ e.graph.block (e.graph.pred k read).task → is_good (e.graph.version (e.graph.pred k read).task) was ≡ true → Reading e b was v
  bad : (k l read : ℕ) (made : Bool) → ReadsBad e b was v k l read made → Reading e b was v

module _ (e : Setting) (b : ℕ) (was : BlockCells) (v : View) where
  -- where the topmost items stay, nothing is read
  stays_top : (u : Stack) (rest : List Stack) → v.stacks ≡ u ∷ rest → (ys : List Item) → u.items ≡ ys → read_items e.graph b was ys ≡ ys → read_ended e.graph b was ys v.ended ≡ v.ended → Reading e b was v
  stays_top u rest is ys has same ends = nothing (ap (on_top (read_items e.graph b was)) is ∙ ap (λ (o : List Item). record { job = u.job; key = u.key; life = u.life; items = o } ∷ rest) (ap (read_items e.graph b was) has ∙ same ∙ sym has) ∙ sym is) (ap (λ o. read_ended e.graph b was (top_items o) v.ended) is ∙ ap (λ o. read_ended e.graph b was o v.ended) has ∙ ends)

  of_items : (u : Stack) (rest : List Stack) → v.stacks ≡ u ∷ rest → (ys : List Item) → u.items ≡ ys → Reading e b was v
  of_items u rest is [] has = stays_top u rest is [] has refl refl
  of_items u rest is (item.Compute k l true read made ∷ ys) has = by (nat_lt read (e.graph.inputs k)) (eqb b (e.graph.block (e.graph.pred k read).task)) (is_good (e.graph.version (e.graph.pred k read).task) was) refl refl refl
    where
      at : AtWork v (item.Compute k l true read made)
      at = record { stack = u; others = rest; below = ys; stacks_are = is; items_are = has }

      by : (f g h : Bool) → nat_lt read (e.graph.inputs k) ≡ f → eqb b (e.graph.block (e.graph.pred k read).task) ≡ g → is_good (e.graph.version (e.graph.pred k read).task) was ≡ h → Reading e b was v
      by true true true p q o = good k l read made at (is_lower read (e.graph.inputs k) p) (eqb-true b (e.graph.block (e.graph.pred k read).task) q) o
      by true true false p q o = bad k l read made record { at_work = at; is_input = is_lower read (e.graph.inputs k) p; of_block = eqb-true b (e.graph.block (e.graph.pred k read).task) q; bad = o }
      by true false h p q o = stays_top u rest is (item.Compute k l true read made ∷ ys) has (rw (p, q)) (rw (p, q))
      by false g h p q o = stays_top u rest is (item.Compute k l true read made ∷ ys) has (rw p) (rw p)
  of_items u rest is (y ∷ ys) has = stays_top u rest is (y ∷ ys) has refl refl

  reading : Reading e b was v
  reading = of v.stacks refl
    where
      of : (ss : List Stack) → v.stacks ≡ ss → Reading e b was v
      of [] is = nothing (ap (on_top (read_items e.graph b was)) is ∙ sym is) (ap (λ o. read_ended e.graph b was (top_items o) v.ended) is)
      of (u ∷ rest) is = of_items u rest is u.items refl

-- a computing that was loaded has come to no point
pub no_strike_met : (e : Setting) (b : ℕ) (was : BlockCells) (v : View) (k l read : ℕ) (made : Bool) → AtWork v (item.Compute k l true read made) → (after_give_read e.graph e.plan b was v).strikes ≡ v.strikes
no_strike_met e b was v k l read made at = ap (λ o. missed_by e.graph e.plan b was o v.strikes) (ap (λ o. strike_of e.graph e.plan v.strikes (top_items o)) at.stacks_are ∙ ap (λ o. strike_of e.graph e.plan v.strikes o) at.items_are)

module _ (e : Setting) (fit : Sound e) (s t : Core) (sums : Sums s) (b n : ℕ) (was : BlockCells) (v : View) (hand : InHand v b was) (is_was : s.block b ≡ was) (stays : t.block b ≡ s.block b) (c : Change s t (turn b) n 0 v (after_give_read e.graph e.plan b was v)) (inv : Invariant e s) where
  abbrev w : View
  w = after_give_read e.graph e.plan b was v

  abbrev none_such : Item
  none_such = item.Close 0 0 0

  module _ (same : on_top (read_items e.graph b was) v.stacks ≡ v.stacks) (ends : read_ended e.graph b was (top_items v.stacks) v.ended ≡ v.ended) where
    calm : Advance (item.Close 0 0 0) (item.Close 0 0 0) v (after_give_read e.graph e.plan b was v)
    calm = record {
      its = λ p. ap (λ o. Rattle.core_state.specs.Counts.in_stacks p o + hit (p (item.Close 0 0 0))) same;
      before = λ p q. q.close 0 0 0;
      after = λ p q. q.close 0 0 0;
      same_key = λ m. refl;
      same_job = λ i m l. refl;
      comes = λ i m l. ap (count (Rattle.core_state.specs.Tests.came_with i m l)) same;
      stacks_as_many = ap Rattle.std.proofs.Common.length same;
      spare_same = refl;
      ended_are = ends;
      known_are = refl;
    }

    alike : Alike (item.Close 0 0 0) (item.Close 0 0 0)
    alike = record { unmade = λ m l. refl; made = λ m l. refl; made_any = λ m. refl; compute = λ m l. refl; close = λ m l. refl; close_from = λ m l d. refl; early = λ g. omega arith }

    struck : Strikes e t
    struck = by (strike_next e.graph e.plan v) refl
      where
        quiet : (after_give_read e.graph e.plan b was v).strikes ≡ v.strikes → Strikes e t
        quiet q = advance_strikes e s t none_such none_such v w (onward e s t b n was none_such none_such v w hand stays c calm alike refl refl inv) calm (results e s t b n was none_such none_such v w hand stays c calm alike refl refl inv) inv q

        by : (o : Option ℕ) → strike_next e.graph e.plan v ≡ o → Strikes e t
        by none is = quiet (ap (λ o. missed_by e.graph e.plan b was o v.strikes) is)
        by (some m) is = of (missed e.graph b was (e.plan.strike m)) refl
          where
            of : (o : Bool) → missed e.graph b was (e.plan.strike m) ≡ o → Strikes e t
            of true z = let strikes : (after_give_read e.graph e.plan b was v).strikes ≡ m ∷ v.strikes = ap (λ o. missed_by e.graph e.plan b was o v.strikes) is ∙ ap (λ (o : Bool). cond o (m ∷ v.strikes) v.strikes) z in
                let next = next_strike_is e v m is in let parts = missed_is e.graph b was (e.plan.strike m) z in
                let res = results e s t b n was none_such none_such v w hand stays c calm alike refl refl inv in let on = onward e s t b n was none_such none_such v w hand stays c calm alike refl refl inv in
                let look = shown e s t none_such none_such v w on calm res inv in one_strike e s t sums v w m c.sums c.within inv next (not_made e s sums v m c.within inv next c.alone) (keys_same e s t none_such none_such v w on calm res inv) (shown_lives e s t look) (λ r z f. (look r z).1 ∙ f) res.more strikes
                (begins_same e s t none_such none_such v w on calm res inv) (record {
                  on_descriptor = λ r it on'. absurd (let f : target.Block ≡ target.Descriptor = sym parts.0 ∙ on' in cc);
                  on_notify = λ r d it on'. absurd (let f : target.Block ≡ target.Notify d = sym parts.0 ∙ on' in cc);
                  on_block = λ on' at. block_struck_grows e.graph (many s) (many t) res.more e.plan (e.plan.strike m).key.0 (missed_struck e fit s sums v m c.within inv next b was is_was parts.1 parts.2 at);
                })
                (λ k l h. let f = res.struck_upto k l h in let g = inv.strikes.few k l h in let i = c.sums (struck_upto e.plan k l h) in let j = ap (count (strikes_upto e.plan k l h)) strikes in let o = bump_is (strikes_upto e.plan k l h m) (count (strikes_upto e.plan k l h) v.strikes) in omega (arith, f, g, i, j, o))
            of false z = quiet (ap (λ o. missed_by e.graph e.plan b was o v.strikes) is ∙ ap (λ (o : Bool). cond o (m ∷ v.strikes) v.strikes) z)

    untouched : Invariant e t
    untouched = returned e s t b n was none_such none_such v w hand stays c calm alike refl refl inv struck

  -- one more input was read
  module _ (k l read : ℕ) (made : Bool) (at : AtWork v (item.Compute k l true read made)) (low : read < e.graph.inputs k) (of_block : b ≡ e.graph.block (e.graph.pred k read).task) (good : is_good (e.graph.version (e.graph.pred k read).task) was ≡ true) where
    abbrev before : Item
    before = item.Compute k l true read made

    abbrev after : Item
    after = item.Compute k l true (read + 1) made

    unmade : made ≡ false
    unmade = not_made_yet e s sums k l read made v at c.within inv low

    further : Advance (item.Compute k l true read made) (item.Compute k l true (read + 1) made) v (after_give_read e.graph e.plan b was v)
    further = record {
      its = λ p. advanced_items p (read_items e.graph b was) v.stacks at.others at.stack (item.Compute k l true read made) (item.Compute k l true (read + 1) made) at.below at.stacks_are at.items_are (rw (lt-ltb read (e.graph.inputs k) low, eq-eqb b (e.graph.block (e.graph.pred k read).task) of_block, good));
      before = λ p q. q.compute k l read true made;
      after = λ p q. q.compute k l (read + 1) true made;
      same_key = λ m. refl;
      same_job = same_carried;
      comes = λ i m d. push_came i m d (read_items e.graph b was) v.stacks;
      stacks_as_many = push_length (read_items e.graph b was) v.stacks;
      spare_same = refl;
      ended_are = ap (λ o. read_ended e.graph b was (top_items o) v.ended) at.stacks_are ∙ ap (λ o. read_ended e.graph b was o v.ended) at.items_are ∙ rw (lt-ltb read (e.graph.inputs k) low, eq-eqb b (e.graph.block (e.graph.pred k read).task) of_block, good);
      known_are = refl;
    }
      where
        same_carried : (i : Job) (m d : ℕ) → carries i m d (item.Compute k l true (read + 1) made) ≡ carries i m d (item.Compute k l true read made)
        same_carried Explore m d = refl
        same_carried Compute m d = refl

    read_alike : Alike (item.Compute k l true read made) (item.Compute k l true (read + 1) made)
    read_alike = record { unmade = λ m d. refl; made = λ m d. refl; made_any = λ m. refl; compute = λ m d. refl; close = λ m d. refl; close_from = λ m d o. refl; early = λ g. subst (λ (o : Bool). hit (is_made_early g (item.Compute k l true (read + 1) o)) ≤ hit (is_made_early g (item.Compute k l true read o))) (sym unmade) (omega arith) }

    one_read : Invariant e t
    one_read = returned e s t b n was before after v w hand stays c further read_alike refl refl inv (advance_strikes e s t before after v w (onward e s t b n was before after v w hand stays c further read_alike refl refl inv) further (results e s t b n was before after v w hand stays c further read_alike refl refl inv) inv (no_strike_met e b was v k l read made at))

  -- where a bad input is met, what is still to be shown is a premise
  pub keeps_unless_bad : ((k l read : ℕ) (made : Bool) → ReadsBad e b was v k l read made → Invariant e t) → Invariant e t
  keeps_unless_bad on_bad = of (reading e b was v)
    where
      of : Reading e b was v → Invariant e t
      of (nothing same ends) = untouched same ends
      of (good k l read made at low of_block is) = one_read k l read made at low of_block is
      of (bad k l read made is) = on_bad k l read made is
