-- That a block goes home as it was keeps every part: where a bad input is met, the computing that met it has ended unmade and its life is suspected.
use Rattle.std.proofs.Common.{◌≡◌, ◌≢◌, ℕ, ◌+◌, ◌≤◌, ◌<◌, Bool, true, false, cond, ◌&&◌, eqb, min, ⊎_elim, arith, sym, ap, refl, ◌∙◌, subst}
use mathlib.Core.Logic.{dite}
use native.Mathlib.Decide.{ℕ_discrete, dec_lt}
use Rattle.std.proofs.lemmas.Bool.{eq-eqb, lt-ltb}
use Rattle.core_state.specs.Graph.{Setting, Sound}
use Rattle.core_state.specs.Words.{Spot, pending, stop, key, descriptor, notify, recovery, posted, turn, spot_of, life_of, life_shown, mark_shown, standing_life, replacing}
use Rattle.core_state.specs.Counts.{hit, count, items, owed, held, ended, begun, came, noted, facts, knows_row, waits, in_hand, in_wrong_hand, struck_by, struck_idly, struck_upto, stack_count, spare, too_many}
use Rattle.core_state.specs.Tests.{two, same_job, same_cause, is_at, is_owed, is_owe, carries, explores, is_unmade, is_compute, is_made, is_made_any, is_close, is_close_from, is_notify, is_renew, is_renew_at, is_renew_of, is_suspect, is_suspect_for, suspects_block, notifies, reenters, is_ended, is_idle, is_stopped, is_stops, is_seen_life, is_seen_mark, is_seen_closed, strikes_upto, job_of, is_created, is_spent, is_computed, is_written, is_closed, is_replaced, is_replaced_for, is_struck_upto, is_version}
use Rattle.core_state.specs.Change.{Core, Change, Sums, many}
use Rattle.core_state.specs.Laws.{Shown, Grounded}
use Rattle.core_state.specs.Rows.{HasKey, HasRow, Keys, Empty, Lives, Content, Facts}
use Rattle.core_state.specs.Work.{Credits, Jobs, Computings, RootWork, is_made_early}
use Rattle.core_state.specs.Blocks.{Holds, Blocks}
use Rattle.core_state.specs.Records.{Causes, Strikes}
use Rattle.core_state.specs.Cover.{covers_self, covers_edge, works, Cover, Activity, NoFault}
use Rattle.core_state.specs.Invariant.{Invariant}
use Rattle.core_state.specs.Guards.{InHand}
use Rattle.core_state.specs.Effects.{after_give_read, found_in, read_items, read_ended}
use Rattle.core_state.specs.Views.{top_items}
use Rattle.graph_model.specs.declared.record.Cause.{Cause}
use Rattle.graph_model.specs.declared.record.Cause.TheVariants as cause
use Rattle.graph_model.specs.declared.record.Record.{Record}
use Rattle.core_state.specs.declared.block.BlockCells.{BlockCells}
use Rattle.core_state.specs.declared.job.Job.{Job}
use Rattle.core_state.specs.declared.job.Job.TheVariants.{Explore, Compute}
use Rattle.core_state.specs.declared.views.Item.{Item}
use Rattle.core_state.specs.declared.views.Item.TheVariants as item
use Rattle.core_state.specs.declared.views.Word.{Word}
use Rattle.core_state.specs.declared.views.View.{View}
use Rattle.core_state.proofs.Blocks.Advance.{Onward, turn_onward, advanced_items}
use Rattle.core_state.proofs.Blocks.BadInput.{writer_row, bad_shown, none_shown}
use Rattle.core_state.proofs.Base.Counting.{bump_is, two_here, two_tells}
use Rattle.core_state.proofs.Base.Frame.{SameRecords, keys_stay, frame_empty, frame_content, frame_records, same_holds, posted_same}
use Rattle.core_state.proofs.Blocks.Home.{hand_left, wrong_falls, given_blocks}
use Rattle.core_state.proofs.Credit.JobView.{and_false}
use Rattle.core_state.proofs.Base.Tops.{push_came, push_length}
use Rattle.core_state.proofs.Blocks.GoodRead.{ReadsBad, no_strike_met, keeps_unless_bad}
use Rattle.core_state.proofs.Spend.View.{and_fails}
use Rattle.core_state.proofs.Replace.Suspects.{descriptor_low, cause_tells}
use Rattle.core_state.proofs.Blocks.AtWork.{not_made_yet, key_row, life_some, held_here, computing, some_item}
use Rattle.core_state.proofs.Base.WeakFrame.{wide_lives, wide_facts, wide_jobs, wide_computings, wide_causes, wide_strikes, wide_cover, wide_activity, wide_no_fault}

module _ (e : Setting) (fit : Sound e) (s t : Core) (sums : Sums s) (b n : ℕ) (was : BlockCells) (v : View) (hand : InHand v b was) (is_was : s.block b ≡ was) (stays : t.block b ≡ s.block b) (c : Change s t (turn b) n 0 v (after_give_read e.graph e.plan b was v)) (inv : Invariant e s) where
  abbrev w : View
  w = after_give_read e.graph e.plan b was v

  module _ (k l read : ℕ) (made : Bool) (bad : ReadsBad e b was v k l read made) where
    abbrev wanted : ℕ
    wanted = e.graph.version (e.graph.pred k read).task

    abbrev why : Cause
    why = cause.Block b (e.graph.version (e.graph.pred k read).task) (found_in (e.graph.version (e.graph.pred k read).task) was)

    abbrev before : Item
    before = item.Compute k l true read made

    abbrev after : Item
    after = item.Suspect k l (cause.Block b (e.graph.version (e.graph.pred k read).task) (found_in (e.graph.version (e.graph.pred k read).task) was)) false

    unmade : made ≡ false
    unmade = not_made_yet e s sums k l read made v bad.at_work c.within inv bad.is_input

    -- what the step leaves of the view: the computing that met the input is a suspect now, and its job has ended
    swapped : (p : Item → Bool) → items p (after_give_read e.graph e.plan b was v) + hit (p (item.Compute k l true read made)) ≡ items p v + hit (p (item.Suspect k l (cause.Block b (e.graph.version (e.graph.pred k read).task) (found_in (e.graph.version (e.graph.pred k read).task) was)) false))
    swapped p = let at = bad.at_work in advanced_items p (read_items e.graph b was) v.stacks at.others at.stack before after at.below at.stacks_are at.items_are (rw (lt-ltb read (e.graph.inputs k) bad.is_input, eq-eqb b (e.graph.block (e.graph.pred k read).task) bad.of_block, bad.bad) refl)

    ended_more : (i : Job) (m d : ℕ) → ended i m d (after_give_read e.graph e.plan b was v) ≡ ended i m d v + hit (same_job i Compute && two m d k l)
    ended_more i m d = let at = bad.at_work in ap (λ o. count (is_ended i m d) (read_ended e.graph b was (top_items o) v.ended)) at.stacks_are ∙ ap (λ o. count (is_ended i m d) (read_ended e.graph b was o v.ended)) at.items_are ∙
        rw (lt-ltb read (e.graph.inputs k) bad.is_input, eq-eqb b (e.graph.block (e.graph.pred k read).task) bad.of_block, bad.bad) (let f = bump_is (same_job i Compute && two m d k l) (count (is_ended i m d) v.ended) in omega (arith, f))

    hands_left : (d : ℕ) → in_hand d (after_give_read e.graph e.plan b was v) + hit (eqb d b) ≡ in_hand d v
    hands_left d = hand_left d b was v hand

    eq : (f : View → ℕ) → f (after_give_read e.graph e.plan b was v) ≡ f v → t.total f ≡ s.total f
    eq f q = let o = c.sums f in omega (arith, o, q)

    onward : Onward s t v (after_give_read e.graph e.plan b was v)
    onward = turn_onward s t b n 0 v w c

    kept : (a : Spot) → ((d : ℕ) → turn d ≢ a) → t.word a ≡ s.word a
    kept a ne = onward.words a ne

    keys_same : (r : ℕ) → t.word (key r) ≡ s.word (key r)
    keys_same r = kept (key r) (λ d q. cc)

    recovery_same : (r : ℕ) → t.word (recovery r) ≡ s.word (recovery r)
    recovery_same r = kept (recovery r) (λ d q. cc)

    posted_kept : (i : Job) (r : ℕ) → t.word (posted i r) ≡ s.word (posted i r)
    posted_kept i r = kept (posted i r) (λ d q. cc)

    word_same : (r : ℕ) (z : Word) → t.word (spot_of r z) ≡ s.word (spot_of r z)
    word_same r Rattle.core_state.specs.declared.views.Word.TheVariants.Descriptor = kept (descriptor r) (λ d q. cc)
    word_same r (Rattle.core_state.specs.declared.views.Word.TheVariants.Notify y) = kept (notify r y) (λ d q. cc)
    word_same r Rattle.core_state.specs.declared.views.Word.TheVariants.Recovery = kept (recovery r) (λ d q. cc)

    shown : (r : ℕ) (z : Word) → (life_shown z (t.word (spot_of r z)) ≡ life_shown z (s.word (spot_of r z))) × (mark_shown z (t.word (spot_of r z)) ≡ mark_shown z (s.word (spot_of r z)))
    shown r z = (ap (life_shown z) (word_same r z), ap (mark_shown z) (word_same r z))

    same_block : (d : ℕ) → t.block d ≡ s.block d
    same_block d = dite (ℕ_discrete d b) (λ q. ap t.block q ∙ stays ∙ sym (ap s.block q)) (λ ne. c.blocks d (λ q. ne (let z : d ≡ b = cc in z)))

    post_same : (i : Job) (r d : ℕ) → hit (eqb d (t.word (posted i r))) ≡ hit (eqb d (s.word (posted i r)))
    post_same i r d = ap (λ o. hit (eqb d o)) (posted_kept i r)

    recs : SameRecords s t
    recs p = eq (noted p) refl

    more : (p : Record → Bool) → many s p ≤ many t p
    more p = let o = recs p in omega (arith, o)

    -- a test that neither item passes, and one that no suspect passes
    beside : (p : Item → Bool) → p before ≡ false → p after ≡ false → t.total (items p) ≡ s.total (items p)
    beside p f g = eq (items p) (let o = swapped p in let x = ap hit f in let y = ap hit g in omega (arith, o, x, y))

    falls : (p : Item → Bool) → p after ≡ false → t.total (items p) ≤ s.total (items p)
    falls p g = let o = swapped p in let y = ap hit g in let z = c.sums (items p) in omega (arith, o, y, z)

    some : (p : Item → Bool) → p before ≡ true → 0 < s.total (items p)
    some p z = some_item e s sums k l read made v bad.at_work c.within inv p z

    my_row : HasRow e s k
    my_row = key_row e s sums k l read made v bad.at_work c.within inv

    life : 0 < l
    life = life_some e s sums k l read made v bad.at_work c.within inv

    bad_keys : Keys e t
    bad_keys = keys_stay e s t keys_same (λ r m z. inv.keys.known r m (let o = eq (knows_row r m) refl in omega (arith, o, z)))
        (λ m z. inv.keys.of_item m (let o = swapped (is_at m) in let x = c.sums (items (is_at m)) in omega (arith, o, x, z)))
        (λ i m d z. ⊎_elim (λ q. inv.keys.of_ended i m d (let o = ended_more i m d in let x = c.sums (ended i m d) in let f = and_fails (same_job i Compute) (two m d k l) q in omega (arith, o, x, f, z))) (λ q. subst (HasRow e s) (sym q.1) my_row) (two_tells m d k l))
        (λ p d q z. inv.keys.of_waiting p d q (let o = eq (waits p d q) refl in omega (arith, o, z))) (λ p q z. inv.keys.of_notify p q (let o = beside (notifies p q) refl refl in omega (arith, o, z)))
        (λ d y z. ⊎_elim (λ q. inv.keys.of_cause d y (let o = beside (suspects_block d y) refl q in omega (arith, o, z)))
        (λ q. subst (λ o. HasRow e s (e.graph.writer o y)) (sym (q.1 ∙ bad.of_block)) (subst (λ o. HasRow e s (e.graph.writer (e.graph.block (e.graph.pred k read).task) o)) (sym q.2) (writer_row e fit s sums inv k l read made v bad.at_work c.within bad.is_input))) (two_tells d y b wanted))
        (λ m. recs (is_created m)) inv.keys

    bad_empty : Empty e t
    bad_empty = frame_empty e s t keys_same (λ r. kept (descriptor r) (λ d q. cc)) (λ r y. kept (notify r y) (λ d q. cc)) recovery_same posted_kept inv.empty

    -- no word shows an earlier life than that of a computing
    life_low : (r : ℕ) → HasKey e s r k → l ≤ standing_life (s.word (recovery r)) + replacing (s.word (recovery r))
    life_low r has = let a = descriptor_low e s r k (s.word (recovery r)) (inv.lives.each r k has) in dite (dec_lt (life_of (s.word (descriptor r))) l)
        (λ later. absurd (let d = inv.work.jobs.not_computed r k l has later in let f = held_here e s sums k l read made v bad.at_work c.within inv in omega (arith, d, f))) (λ low. omega (arith, a, low))

    bad_lives : Lives e t
    bad_lives = wide_lives e s t keys_same recovery_same shown (λ m. beside (is_renew m) refl refl) (λ m d i. beside (is_renew_at m d i) refl refl)
        (λ r m d old z. ⊎_elim (λ q. (inv.lives.each r m old).suspected d (let o = beside (is_suspect m d) refl q in omega (arith, o, z)))
        (λ q. (let a = life in let f = q.2 in omega (arith, a, f), let a = life_low r (subst (HasKey e s r) q.1 old) in let f = q.2 in omega (arith, a, f))) (two_tells m d k l)) inv.lives

    bad_content : Content e t
    bad_content = frame_content e s t keys_same (λ r. kept (descriptor r) (λ d q. cc)) (λ r y. kept (notify r y) (λ d q. cc)) recs (λ m d q. eq (waits m d q) refl) inv.content

    bad_facts : Facts e t
    bad_facts = wide_facts e s t keys_same shown more (λ r m d z old o. inv.facts.life r m d z old (let a = eq (facts (is_seen_life m z d)) refl in omega (arith, a, o))) (λ r m d z old o. inv.facts.mark r m d z old (let a = eq (facts (is_seen_mark m z d)) refl in omega (arith, a, o)))
        (λ m d z o. inv.facts.row_of_life m d z (let a = eq (facts (is_seen_life m z d)) refl in omega (arith, a, o))) (λ m d z o. inv.facts.row_of_mark m d z (let a = eq (facts (is_seen_mark m z d)) refl in omega (arith, a, o))) (λ m d i o. inv.facts.closed m d i (let a = eq (facts (is_seen_closed m d i)) refl in omega (arith, a, o)))
        (λ z. kept pending (λ d q. cc) ∙ inv.facts.idle (let a = eq (facts is_idle) refl in omega (arith, a, z))) (λ z. kept stop (λ d q. cc) ∙ inv.facts.stopped (let a = eq (facts is_stopped) refl in omega (arith, a, z))) (kept stop (λ d q. cc) ∙ inv.facts.stops ∙ ap (min 1) (sym (eq (facts is_stops) refl)))

    bad_credits : Credits e t
    bad_credits = record {
      sum = let a = posted_same s.word t.word e.shape.rows posted_kept in let d = eq stack_count (push_length (read_items e.graph b was) v.stacks) in let f = eq spare refl in let g = kept pending (λ d q. cc) in let h = inv.work.credits.sum in omega (arith, a, d, f, g, h);
      few_spare = eq too_many (let a = swapped is_owe in omega (arith, a)) ∙ inv.work.credits.few_spare;
    }

    -- the job has ended that was held
    begins : (i : Job) (m d : ℕ) → begun i m d (after_give_read e.graph e.plan b was v) ≡ begun i m d v
    begins Explore m d = let a = swapped (carries Explore m d) in let f = ended_more Explore m d in omega (arith, a, f)
    begins Compute m d = let a = swapped (carries Compute m d) in let f = ended_more Compute m d in omega (arith, a, f)

    held_ended : (i : Job) (m d : ℕ) → t.total (held i m d) + t.total (ended i m d) ≡ s.total (held i m d) + s.total (ended i m d)
    held_ended i m d = let a = c.sums (held i m d) in let f = c.sums (ended i m d) in let g = begins i m d in omega (arith, a, f, g)

    owes : (i : Job) (m d : ℕ) → t.total (owed i m d) ≡ s.total (owed i m d)
    owes i m d = beside (is_owed i m d) refl refl

    bad_jobs : Jobs e t
    bad_jobs = wide_jobs e s t keys_same shown recovery_same (λ i r m d old z. let a = owes i m d in let f = held_ended i m d in let g = post_same i r d in omega (arith, a, f, g))
        (λ i m. let a = owes i m 0 in let f = held_ended i m 0 in let g = inv.work.jobs.some_life i m in omega (arith, a, f, g))
        (λ i m d. let a = eq (came i m d) (push_came i m d (read_items e.graph b was) v.stacks) in let f = eq (begun i m d) (begins i m d) in let g = inv.work.jobs.came i m d in omega (arith, a, f, g)) more inv.work.jobs

    bad_computings : Computings e t
    bad_computings = wide_computings e s t keys_same
        (λ r m d old z q. (inv.work.computings.each r m d old z).unmade (let a = owes Compute m d in let f = post_same Compute r d in let g = falls (is_unmade m d) refl in omega (arith, a, f, g, q)))
        (λ r m d old z q. (inv.work.computings.each r m d old z).unwritten (let a = owes Compute m d in let f = post_same Compute r d in let g = falls (is_compute m d) refl in omega (arith, a, f, g, q)))
        (λ m d z. let a = falls (is_made m d) refl in omega (arith, a, z)) (λ m d z. let a = falls (is_close m d) refl in omega (arith, a, z)) (λ m d i z. let a = falls (is_close_from m d i) refl in omega (arith, a, z))
        (λ m d i z. let a = falls (is_notify m d i) refl in omega (arith, a, z)) (λ m d z. let a = eq (begun Compute m d) (begins Compute m d) in omega (arith, a, z))
        (beside (is_made_early e.graph) (ap (λ (o : Bool). o && cond (eqb read (e.graph.inputs k)) false true) unmade) refl)
        (λ m d. recs (is_computed m d)) (λ m d. recs (is_written m d)) (λ m d i. recs (is_closed m d i)) inv.work.computings

    none_computed : many s (is_computed k l) ≡ 0
    none_computed = (computing e s sums k l read made v bad.at_work c.within inv).unmade (let a = some (is_unmade k l) (ap (λ (o : Bool). o && cond made false true) (two_here k l) ∙ ap (λ (o : Bool). cond o false true) unmade) in omega (arith, a))

    bad_root : RootWork e t
    bad_root = record {
      right_hand = let a = c.sums (in_wrong_hand (e.graph.block e.graph.root) e.graph.root) in let d = swapped (is_made_any e.graph.root) in let f : hit (is_made_any e.graph.root before) ≡ 0 = ap (λ (o : Bool). hit (eqb e.graph.root k && o)) unmade ∙ ap hit (and_false (eqb e.graph.root k)) in let g = hands_left (e.graph.block e.graph.root) in
          let low = wrong_falls (e.graph.block e.graph.root) e.graph.root v w (omega (arith, d, f)) (omega (arith, g)) in let h = inv.work.root.right_hand in let i = c.within (in_wrong_hand (e.graph.block e.graph.root) e.graph.root) in omega (arith, a, low, h, i);
      unwritten = λ z. ap (λ o. o.tag) (same_block (e.graph.block e.graph.root)) ∙ inv.work.root.unwritten (let a = c.sums (in_hand (e.graph.block e.graph.root)) in let d = hands_left (e.graph.block e.graph.root) in omega (arith, a, d, z));
      given_up = λ d z. ⊎_elim
          (λ q. let old = inv.work.root.given_up d (let a = beside (is_suspect e.graph.root d) refl q in let f = recs (is_replaced e.graph.root d) in omega (arith, a, f, z)) in
          (let a = c.sums (ended Compute e.graph.root d) in let f = ended_more Compute e.graph.root d in let g = old.0 in omega (arith, a, f, g), recs (is_computed e.graph.root d) ∙ old.1))
          (λ q. (
            let a = c.sums (ended Compute e.graph.root d) in let f = ended_more Compute e.graph.root d in let g = c.within (ended Compute e.graph.root d) in let h = ap hit q.0 in omega (arith, a, f, g, h),
            recs (is_computed e.graph.root d) ∙ ap (λ o. many s (is_computed o d)) q.1 ∙ ap (λ o. many s (is_computed k o)) q.2 ∙ none_computed,
          )) (two_tells e.graph.root d k l);
    }

    bad_blocks : Blocks e t
    bad_blocks = given_blocks e s t b n v w c hands_left inv.blocks (λ low. subst (Holds e t b) (sym stays) (same_holds e s t recs b (s.block b) (inv.blocks.each b low).holds)) (λ d ne o. same_holds e s t recs d (s.block d) o)

    cause_shown : Shown e.graph (many s) (Grounded e.graph (many s)) k l why
    cause_shown = subst (λ o. Shown e.graph (many s) (Grounded e.graph (many s)) k l (cause.Block o wanted (found_in wanted was))) (sym bad.of_block)
        (bad_shown e fit s sums inv k l read made v bad.at_work c.within bad.is_input was (ap s.block (sym bad.of_block) ∙ is_was) bad.bad)

    bad_causes : Causes e t
    bad_causes = wide_causes e s t more (λ m d f. recs (is_replaced_for m d f)) (λ m d f z. ⊎_elim
        (λ q. inv.causes.suspected m d f (let a = beside (is_suspect_for m d f) refl (ap (λ (o : Bool). o && same_cause f why) q) in omega (arith, a, z)))
        (λ q. ⊎_elim (λ g. inv.causes.suspected m d f (let a = beside (is_suspect_for m d f) refl (ap (λ (o : Bool). two m d k l && o) g ∙ and_false (two m d k l)) in omega (arith, a, z)))
        (λ g. subst (Shown e.graph (many s) (Grounded e.graph (many s)) m d) (sym g) (subst (λ o. Shown e.graph (many s) (Grounded e.graph (many s)) o d why) (sym q.1) (subst (λ o. Shown e.graph (many s) (Grounded e.graph (many s)) k o why) (sym q.2) cause_shown))) (cause_tells f why)) (two_tells m d k l)) inv.causes

    bad_strikes : Strikes e t
    bad_strikes = let strikes = no_strike_met e b was v k l read made bad.at_work in wide_strikes e s t keys_same shown more (λ d. eq (struck_by d) (ap (count (eqb d)) strikes))
        (λ x d. let a = eq (struck_idly x d) (ap (λ o. cond (eqb o 0) (struck_by d w) 0) (begins (job_of x.point) x.key.0 x.life) ∙ ap (λ o. cond (eqb (begun (job_of x.point) x.key.0 x.life v) 0) (count (eqb d) o) 0) strikes) in omega (arith, a))
        (λ m d h. eq (struck_upto e.plan m d h) (ap (count (strikes_upto e.plan m d h)) strikes)) (λ m d h. recs (is_struck_upto m d h)) inv.strikes

    bad_cover : Cover e t
    bad_cover = wide_cover e s t keys_same shown recovery_same (λ m d i z. sym (recs (is_spent m d i)) ∙ z) (λ m d i z. recs (is_closed m d i) ∙ z) (λ m d q z. let a = eq (waits m d q) refl in omega (arith, a, z))
        (λ r m d i old z. let a = c.sums (covers_self m d i) in let f = swapped (explores m d i) in let g = swapped (is_owed Explore m d) in let h = swapped (is_suspect m d) in let o = post_same Explore r d in omega (arith, a, f, g, h, o))
        (λ p q. let a = c.sums (covers_edge p q) in let f = swapped (notifies p q) in let g = swapped (is_renew p) in let h = swapped (reenters p q) in omega (arith, a, f, g, h)) inv.cover

    -- the suspect works on the life in place of the computing
    bad_activity : Activity e t
    bad_activity = wide_activity e s t keys_same shown more (λ m d i z. let a = recs (is_spent m d i) in omega (arith, a, z))
        (λ r m d old z. let a = c.sums (works m d) in let f = swapped (is_owed Compute m d) in let g = swapped (carries Compute m d) in let h = swapped (is_suspect m d) in let i = swapped (is_renew_of m d) in let o = post_same Compute r d in omega (arith, a, f, g, h, i, o)) inv.activity

    bad_no_fault : NoFault e t
    bad_no_fault = wide_no_fault e s t keys_same recovery_same more (λ unstruck old. absurd (none_shown e fit s sums inv unstruck old k l why cause_shown)) (λ d y. recs (is_version d y)) same_block inv.no_fault

    bad_met : Invariant e t
    bad_met = record {
      keys = bad_keys;
      empty = bad_empty;
      lives = bad_lives;
      content = bad_content;
      facts = bad_facts;
      work = record { credits = bad_credits; jobs = bad_jobs; computings = bad_computings; root = bad_root };
      blocks = bad_blocks;
      records = frame_records e s t keys_same recovery_same recs inv.records;
      causes = bad_causes;
      strikes = bad_strikes;
      cover = bad_cover;
      activity = bad_activity;
      no_fault = bad_no_fault;
    }

  pub keeps_give_read : Invariant e t
  keeps_give_read = keeps_unless_bad e fit s t sums b n was v hand is_was stays c inv bad_met
