-- What the closing of a word pays: it is closed, or of a life that has passed; or it moved or is marked, and the turn was in vain.
use Rattle.std.proofs.Common.{◌≡◌, ◌≢◌, ◌⊎◌, ℕ, ◌+◌, ◌%◌, ◌^◌, ◌<◌, ◌≤◌, ◌==◌, Bool, true, false, cond, nat_lt, bit_or, eqb, eq-eqb, ne_eqb, List, [], ◌∷◌, ◌++◌, length, Some, None, ⊎_elim, inl, inr, arith, refl, ap, sym, ◌∙◌, subst}
use mathlib.Core.Logic.{dite}
use native.Mathlib.Decide.{ℕ_discrete, dec_lt}
use Rattle.std.proofs.lemmas.Bool.{eqb-false, le-ltb, lt-ltb, ltb-false}
use Rattle.std.proofs.lemmas.Nat.{mod_below}
use Rattle.std.proofs.lemmas.Nat.Bits.{bit_at-lt}
use Rattle.graph_model.specs.Graph.{Graph as TaskGraph}
use Rattle.graph_model.specs.declared.plan.Strike.{Strike}
use Rattle.graph_model.specs.declared.record.Cause.TheVariants as cause
use Rattle.core_state.specs.Change.{Core, many}
use Rattle.core_state.specs.Counts.{hit, held, items}
use Rattle.core_state.specs.Effects.{closing_of}
use Rattle.core_state.specs.Events.{Event}
use Rattle.core_state.specs.Events.Event.{close}
use Rattle.core_state.specs.Graph.{Setting}
use Rattle.core_state.specs.Lines.{flat, of}
use Rattle.core_state.specs.Packed.{notify_of, notify_word}
use Rattle.core_state.specs.Rows.{HasKey, Lists}
use Rattle.core_state.specs.Sure.{IsOpen}
use Rattle.core_state.specs.Tests.{carries, is_close_from, is_closed}
use Rattle.core_state.specs.Words.{closed_bit, empty_word, inside, life_of, mark_of, notify, recovery, replacing, standing_life}
use Rattle.core_state.specs.declared.answers.Closing.TheVariants as closing
use Rattle.core_state.specs.declared.job.Job.TheVariants as job
use Rattle.core_state.specs.declared.views.Item.TheVariants as line
use Rattle.core_state.specs.declared.views.View.{View}
use Rattle.core_state.specs.declared.views.Word.TheVariants as word
use Rattle.core_state.specs.declared.words.NotifyWord.{NotifyWord}
use Rattle.core_state.proofs.Base.Counting.{eqb_here, two_here}
use Rattle.core_state.proofs.Base.Packing.{open_word}
use Rattle.core_state.proofs.Lines.After.{closes as closes_lines, line_stands}
use Rattle.core_state.proofs.Lines.Counts.{top_passes}
use Rattle.core_state.proofs.Load.Recovery.{same_spot}
use Rattle.recovery.proofs.Knowing.{row_known}
use Rattle.compute_notify.specs.Items.{Stands}
use Rattle.compute_notify.specs.Resting.{Excuses, LeavesAbove, LetsFall, suspect_rest}
use Rattle.compute_notify.specs.Resting.Excuses.{marked_word, moved}
use Rattle.compute_notify.specs.Running.{Runs}
use Rattle.compute_notify.specs.Striking.{FitsHand, seen_word, strike_left}
use Rattle.compute_notify.specs.Tasks.{IsNext, task_items, task_rest}
use Rattle.compute_notify.specs.declared.close.Close.{Close}
use Rattle.compute_notify.specs.declared.item.Item.{Item}
use Rattle.compute_notify.specs.declared.item.Item.TheVariants as item
use Rattle.compute_notify.specs.declared.task.Task.{Task}
use Rattle.compute_notify.proofs.Closing.{close_top, free_hand, taken_open, word_there}
use Rattle.run_bounds.specs.Doing.Doing.{works}
use Rattle.run_bounds.specs.Light.{lines_weight, task_light}
use Rattle.run_bounds.specs.Shared.{IsPart, IsPlain, IsQuiet, IsWinner, KeepsWords, StandsSeen}
use Rattle.run_bounds.specs.Struck.{IsBlamed, IsMade}
use Rattle.run_bounds.proofs.Shared.Balancing.{Paid, falls, plain_renews, seen_next, stalls}
use Rattle.run_bounds.proofs.Shared.Meeting.{keeps_all, notify_life, stands, wins_next}
use Rattle.run_bounds.proofs.Shared.Parts.{job_life, known_row}
use Rattle.run_bounds.proofs.Shared.Weighing.{closed_weighs, marked_weighs}

-- an open word has no mark
open_unmarked : (l ports n : ℕ) → ports < 2 ^ 40 → n ≡ empty_word l + ports → mark_of n ≡ 0
open_unmarked l ports n small is = omega (arith, small, is)

-- what the answer tells of the number
told_moved : (l m n : ℕ) (x : NotifyWord) → closing_of l m n ≡ closing.Moved x → (n ≢ m) × ((mark_of n ≡ 0) × ((life_of n ≤ l) × (x ≡ notify_of n)))
told_moved l m n x told = by (eqb n m) (eqb (mark_of n) 1) (nat_lt l (life_of n)) refl refl refl told
  where
    by : (a b d : Bool) → eqb n m ≡ a → eqb (mark_of n) 1 ≡ b → nat_lt l (life_of n) ≡ d → cond a (closing.Edges (n % 2 ^ 40)) (cond b (closing.Struck (life_of n)) (cond d (closing.Stale (life_of n)) (closing.Moved (notify_of n)))) ≡ closing.Moved x
        → (n ≢ m) × ((mark_of n ≡ 0) × ((life_of n ≤ l) × (x ≡ notify_of n)))
    by true b d same marked low is = absurd cc
    by false true d same marked low is = absurd cc
    by false false true same marked low is = absurd cc
    by false false false same marked low is = (
      eqb-false n m same,
      (let a = eqb-false (mark_of n) 1 marked in let b = bit_at-lt n 41 in omega (arith, a, b), (let a = ltb-false l (life_of n) low in omega (arith, a), (let z : notify_of n ≡ x = cc in sym z))),
    )

module _ (e : Setting) (s t : Core) (v w : View) (p : List Strike) (most : ℕ) (part : IsPart e s v) (task now : Task) (hints left : List ℕ) (before : task_rest e p task ≡ task_light e p task + lines_weight e (flat v.stacks)) (later : task_rest e p now ≡ task_light e p now + lines_weight e (flat w.stacks)) (same_hints : length left ≡ length hints)
    (g : TaskGraph) (lives : ℕ) (runs : Runs g p lives e) (others : List Item) (c : Close) (next : IsNext e.graph p (task_items task) others (Some (item.Close c))) (it : Stands g e v (item.Close c)) (in_hand : FitsHand e v c.duty.key.0 c.duty.life task.hand) (none_left : strike_left e.graph p (item.Close c) ≡ None) where
  -- how the word is taken to be
  abbrev taken_as : ℕ
  taken_as = notify_word (seen_word c.duty.life c.seen)

  abbrev closing_step : Event
  closing_step = close c.duty.row c.duty.key.0 c.duty.life c.word (notify_word (seen_word c.duty.life c.seen))

  word_left : c.word < e.graph.notify_words c.duty.key.0
  word_left = word_there e.graph p c next.2 none_left

  top : flat v.stacks ≡ of (line.Close c.duty.key.0 c.duty.life c.word) ∷ it.top.below
  top = close_top g e v c it.fits word_left it.top.below it.top.lines_are

  plain : IsPlain v
  plain = record { first = of (line.Close c.duty.key.0 c.duty.life c.word); below = it.top.below; top = top; plain = refl }

  has : HasKey e s c.duty.row c.duty.key.0
  has = known_row part c.duty.row c.duty.key.0 (row_known e v c.duty.row c.duty.key.0 it.fits.duty.known).row_known

  -- the computing of its life has begun
  has_begun : 0 < held job.Compute c.duty.key.0 c.duty.life v
  has_begun = top_passes (carries job.Compute c.duty.key.0 c.duty.life) v (line.Close c.duty.key.0 c.duty.life c.word) it.top.below top (two_here c.duty.key.0 c.duty.life)

  some_life : 0 < c.duty.life
  some_life = (job_life part.sound part.holds c.duty.row c.duty.key.0 has job.Compute c.duty.life (let a = has_begun in let b = part.within (held job.Compute c.duty.key.0 c.duty.life) in omega (arith, a, b))).0

  module _ (n : ℕ) (step : IsMade e (close c.duty.row c.duty.key.0 c.duty.life c.word (notify_word (seen_word c.duty.life c.seen))) n s t v w) (again : LeavesAbove e.graph p n (item.Close c) others (task_items now)) where
    word_inside : inside e.shape (notify c.duty.row c.word) ≡ true
    word_inside = let low = lt-ltb c.duty.row e.shape.rows it.fits.duty.known.low in let fit = part.sound.words_fit c.duty.key.0 in let here = word_left in let word_low = lt-ltb c.word e.shape.notify_words (omega (arith, here, fit)) in rw (low, word_low)

    found : s.word (notify c.duty.row c.word) ≡ n
    found = step.found_is word_inside

    -- as it is taken to be it has no mark
    taken_unmarked : n ≡ taken_as → mark_of n ≡ 0
    taken_unmarked same = let is = taken_open c.duty.life c.seen it.fits.seen in open_unmarked c.duty.life (seen_word c.duty.life c.seen).ports n is.small (same ∙ is.word_is)

    -- a word that stands as it was seen is found as it is taken to be
    seen_taken : StandsSeen e p s (works task) → n ≡ taken_as
    seen_taken seen = let same : item.Close c ≡ item.Close seen.close = seen_next e p s task others (item.Close c) next seen in let is : c ≡ seen.close = cc in
        let row : s.word (notify c.duty.row c.word) ≡ notify_word seen.seen = ap (λ (z : Close). s.word (notify z.duty.row z.word)) is ∙ seen.stands in
        let taken : taken_as ≡ notify_word seen.seen = ap (λ o. notify_word (seen_word c.duty.life o)) (ap (λ (z : Close). z.seen) is ∙ seen.seen_is) in sym found ∙ row ∙ sym taken

    heavier : lines_weight e (flat v.stacks) ≤ lines_weight e (flat w.stacks)
    heavier = closed_weighs e v w n c.duty.row c.duty.key.0 c.duty.life c.word taken_as it.top.below top step.view_is

    -- the word is not as it was taken to be: the turn is in vain
    module _ (other : n ≢ taken_as) where
      words : KeepsWords e s t
      words = keeps_all closing_step n step word_inside (ap (λ (b : Bool). cond b (bit_or n (2 ^ 40)) n) (ne_eqb n taken_as other)) (same_spot c.duty.row (word.Notify c.word))

      in_vain : task_light e p now ≤ task_light e p task → (IsQuiet e s → IsWinner e t w ⊎ StandsSeen e p t (works now)) → Paid e s t v w p most task now hints left
      in_vain less then = stalls e s t v w p most task now hints left before later same_hints less (free_hand g e v c it.fits word_left p lives runs it.top none_left task.hand in_hand).0 (plain_renews v plain) (λ seen. other (seen_taken seen)) words (λ quiet. inl (plain, then quiet))

      -- it bears a mark
      struck : mark_of n ≡ 1 → task_rest e p now ≤ task_rest e p task + suspect_rest e c.duty.key.0 → Paid e s t v w p most task now hints left
      struck marked more = in_vain
          (let a = marked_weighs e v w n c.duty.row c.duty.key.0 c.duty.life c.word taken_as it.top.below top step.view_is (life_of n) (sym told) in omega (arith, a, more, before, later))
          (λ quiet. inl (wins_next words c.duty.row c.duty.key.0 (life_of n) has blamed (notify_life part quiet c.duty.row c.duty.key.0 has c.word n found marked)))
        where
          told : closing.Struck (life_of n) ≡ closing_of c.duty.life taken_as n
          told = sym (rw (ne_eqb n taken_as other, eq-eqb (mark_of n) 1 marked))

          blamed : IsBlamed w c.duty.key.0 (life_of n)
          blamed = let lines = closes_lines e v w n c.duty.key.0 c.duty.life c.word taken_as (closing.Struck (life_of n)) it.top.below top told step.view_is in
              record { cause = cause.Notify; waits = false; below = it.top.below; marked = refl; top = line_stands e w (line.Suspect c.duty.key.0 (life_of n) cause.Notify false) it.top.below refl lines }

    -- it moved, as it was taken to be
    module _ (x : NotifyWord) (told : closing_of c.duty.life taken_as n ≡ closing.Moved x) where
      unmarked : mark_of n ≡ 0
      unmarked = (told_moved c.duty.life taken_as n x told).1.0

      -- where no life is being replaced, it stands open
      module _ (quiet : IsQuiet e s) where
        life_now : life_of n ≡ c.duty.life
        life_now = let a = (stands part quiet c.duty.row c.duty.key.0 has).notify_life c.word word_left in let b = ap life_of found in let few = (told_moved c.duty.life taken_as n x told).1.1.0 in
            let d = (stands part quiet c.duty.row c.duty.key.0 has).descriptor_life in
            let low = dite (dec_lt (life_of (s.word (Rattle.core_state.specs.Words.descriptor c.duty.row))) c.duty.life)
            (λ above. absurd (let f = part.holds.work.jobs.not_computed c.duty.row c.duty.key.0 c.duty.life has above in let h = part.within (held job.Compute c.duty.key.0 c.duty.life) in let i = has_begun in omega (arith, f, h, i)))
            (λ z. z) in omega (arith, a, b, d, low, few)

        lists : Lists e s c.duty.key.0 c.word n
        lists = subst (Lists e s c.duty.key.0 c.word) found (part.holds.content.notify_words c.duty.row c.duty.key.0 c.word has word_left)

        none_closed : many s (is_closed c.duty.key.0 c.duty.life c.word) ≡ 0
        none_closed = let a = top_passes (is_close_from c.duty.key.0 c.duty.life c.word) v (line.Close c.duty.key.0 c.duty.life c.word) it.top.below top (rw (eqb_here c.duty.key.0, eqb_here c.duty.life, eqb_here c.word)) in
            let b = part.within (items (is_close_from c.duty.key.0 c.duty.life c.word)) in
            let d = (part.holds.work.computings.each c.duty.row c.duty.key.0 c.duty.life has some_life).closing c.word c.word (omega (arith, a, b)) in
            let f = ap hit (le-ltb c.word c.word (omega arith)) in omega (arith, d, f)

        opened : closed_bit n ≡ 0
        opened = let a = lists.closing unmarked in let b = ap (λ m. many s (is_closed c.duty.key.0 m c.word)) life_now in let z = none_closed in omega (arith, a, b, z)

        word_is : notify_word (notify_of n) ≡ n
        word_is = let open_still : IsOpen c.duty.life (notify_of n) = record { life_is = life_now; unstruck = ap (λ (m : ℕ). m == 1) unmarked; open_still = ap (λ (m : ℕ). m == 1) opened } in
            (taken_open c.duty.life (Some (notify_of n)) (open_still, mod_below n (2 ^ 40) (omega arith))).word_is ∙ sym (open_word n c.duty.life lists.other_bits unmarked opened life_now)

        -- and is seen as it stands
        stands_seen : StandsSeen e p t (works now)
        stands_seen = record {
          task = now;
          doing_is = refl;
          left = others;
          close = record c { seen = Some (notify_of n) };
          items_are = again.items_are ∙ ap (λ xs. others ++ xs) (again.again none_left x told) ∙ ap (λ z. others ++ item.Close (record c { seen = Some z }) ∷ []) (told_moved c.duty.life taken_as n x told).1.1.1;
          inside = word_left;
          seen = notify_of n;
          seen_is = refl;
          no_strike = none_left;
          stands = (words other).unmarked_stays c.duty.row c.word (ap mark_of found ∙ unmarked) ∙ found ∙ sym word_is;
          unmarked = ap mark_of word_is ∙ unmarked;
        }
          where
            other : n ≢ taken_as
            other = (told_moved c.duty.life taken_as n x told).0

      moves_on : task_rest e p now ≤ task_rest e p task → Paid e s t v w p most task now hints left
      moves_on less = in_vain (told_moved c.duty.life taken_as n x told).0 (let a = heavier in omega (arith, a, less, before, later)) (λ quiet. inr (stands_seen quiet))

    -- the closing of a word
    pub closes_pays : LetsFall e p (close c.duty.row c.duty.key.0 c.duty.life c.word (notify_word (seen_word c.duty.life c.seen))) n (task_rest e p task) (task_rest e p now) → Paid e s t v w p most task now hints left
    closes_pays lets = ⊎_elim (λ less. falls e s t v w p most task now hints left before later same_hints heavier less) (λ more. by more.0 more.1 more.2) lets
      where
        by : (rise : ℕ) → Excuses e p (close c.duty.row c.duty.key.0 c.duty.life c.word (notify_word (seen_word c.duty.life c.seen))) n rise → task_rest e p now ≤ task_rest e p task + rise → Paid e s t v w p most task now hints left
        by rise (moved a b d f h m x told) low = moves_on x told (omega (arith, low))
        by rise (marked_word a b d f h m marked) low = dite (ℕ_discrete n taken_as) (λ same. absurd (let z = taken_unmarked same in omega (arith, z, marked))) (λ other. struck other marked low)
