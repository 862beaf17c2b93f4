-- What a turn of a task leaves of its view, one of several: what it has begun, ended, recorded and struck stays so, and behind the first line stay only plain ones.
use Rattle.std.proofs.Common.{◌≡◌, ℕ, ◌≤◌, Bool, true, false, List, [], ◌∷◌, length, Option, None, ⊎_elim, arith, refl, ap, sym, ◌∙◌, subst}
use Rattle.graph_model.specs.Graph.{Graph as TaskGraph}
use Rattle.graph_model.specs.declared.plan.Strike.{Strike}
use Rattle.graph_model.specs.declared.record.Cause.{Cause}
use Rattle.core_state.specs.Counts.{begun, count}
use Rattle.core_state.specs.Effects.{closing_of, elected_of}
use Rattle.core_state.specs.Events.{Event, after}
use Rattle.core_state.specs.Events.Event.{close, elect, finish, post, renew_descriptor, renew_notify}
use Rattle.core_state.specs.Graph.{Setting}
use Rattle.core_state.specs.Lines.{Line, flat, of}
use Rattle.core_state.specs.Outcome.{lines_left}
use Rattle.core_state.specs.Packed.{notify_word}
use Rattle.core_state.specs.Tests.{is_any_replaced, is_any_struck, is_ended}
use Rattle.core_state.specs.declared.block.BlockCells.{BlockCells}
use Rattle.core_state.specs.declared.job.Job.{Job}
use Rattle.core_state.specs.declared.job.Job.TheVariants as job
use Rattle.core_state.specs.declared.views.Item.TheVariants as line
use Rattle.core_state.specs.declared.views.View.{View}
use Rattle.core_state.proofs.Lines.Ends.{ended_grows}
use Rattle.core_state.proofs.Lines.Leaves.{HasLine, pushes}
use Rattle.recovery.proofs.Knowing.{known_is}
use Rattle.compute_notify.specs.Eventing.{item_event, item_hints, item_prepared, with_strike}
use Rattle.compute_notify.specs.Items.{Stands, is_over}
use Rattle.compute_notify.specs.Striking.{seen_word, strike_left}
use Rattle.compute_notify.specs.declared.close.Close.{Close}
use Rattle.compute_notify.specs.declared.item.Item.{Item}
use Rattle.compute_notify.specs.declared.item.Item.TheVariants as item
use Rattle.compute_notify.proofs.Closing.{close_top, word_there}
use Rattle.run_bounds.specs.Shared.{ArePlain, BehindPlain, Grows, IsTopped}
use Rattle.run_bounds.proofs.Entered.{noted_grows}
use Rattle.run_bounds.proofs.JobEvents.{begun_grows}
use Rattle.run_bounds.proofs.Shared.Topping.{all_plain, came_behind, closed_behind, elected_behind, plain_behind, topped_after}
use Rattle.run_bounds.proofs.Storm.Growing.{descriptor_grows, elected_grows, finish_grows, word_grows}
use Rattle.run_bounds.proofs.Storm.Preparing.{Prepared, prepared, prepared_same, strikes_more}
use Rattle.run_bounds.proofs.Storm.Sorts.{Renews, Sort, plain_serves}

-- the event of a closing at which no strike is left
pub closing_step : (g : TaskGraph) (e : Setting) (p : List Strike) (v : View) (h now : Option BlockCells) (y : Item) → Stands g e v y → (c : Close) → y ≡ item.Close c → strike_left e.graph p (item.Close c) ≡ None → item_event e v p h now y ≡ close c.duty.row c.duty.key.0 c.duty.life c.word (notify_word (seen_word c.duty.life c.seen))
closing_step g e p v h now y stands c is none_left = let it : Stands g e v (item.Close c) = subst (Stands g e v) is stands in
    ap (item_event e v p h now) is ∙ ap (with_strike e v h now (item.Close c)) none_left ∙ ap (λ k. close c.duty.row k c.duty.life c.word (notify_word (seen_word c.duty.life c.seen))) (known_is e v c.duty.row c.duty.key.0 it.fits.duty.known)

pub record IsClosing (v u : View) (x : Event) (rows : List ℕ) : Type 0 where
  pub row : ℕ
  pub key : ℕ
  pub life : ℕ
  pub word : ℕ
  pub seen : ℕ
  pub below : List Line
  pub event_is : x ≡ close row key life word seen
  pub none_made : u ≡ v
  pub none_hinted : rows ≡ []
  pub top : flat v.stacks ≡ of (line.Close key life word) ∷ below

pub closing_is : (g : TaskGraph) (e : Setting) (p : List Strike) (v : View) (h now : Option BlockCells) (y : Item) → Stands g e v y → is_over e.graph p y ≡ false → (c : Close) → y ≡ item.Close c → strike_left e.graph p (item.Close c) ≡ None → IsClosing v (item_prepared e.graph y v) (item_event e v p h now y) (item_hints y [])
closing_is g e p v h now y stands left c is none_left =
    let it : Stands g e v (item.Close c) = subst (Stands g e v) is stands in
    let inside = word_there e.graph p c (subst (λ z. is_over e.graph p z ≡ false) is left) none_left in record {
      row = c.duty.row;
      key = c.duty.key.0;
      life = c.duty.life;
      word = c.word;
      seen = notify_word (seen_word c.duty.life c.seen);
      below = it.top.below;
      event_is = closing_step g e p v h now y stands c is none_left;
      none_made = ap (λ z. item_prepared e.graph z v) is;
      none_hinted = ap (λ z. item_hints z []) is;
      top = close_top g e v c it.fits inside it.top.below it.top.lines_are;
    }

-- what grows whatever the event is
module _ (e : Setting) (v u w : View) (x : Event) (n : ℕ) (ready : Prepared e v u) (has : pushes x ≡ true → HasLine u) (is : w ≡ after e x n u) where
  grows_by : ((i : Job) (k l : ℕ) → begun i k l u ≤ begun i k l w) → Grows v w
  grows_by begins = record {
    begun_on = λ i k l. let a = begins i k l in let b = ready.same_begun i k l in omega (arith, a, b);
    ended_on = λ k l. let a = ended_grows e x n u w has is job.Compute k l in let b = ap (count (is_ended job.Compute k l)) ready.same_ended in omega (arith, a, b);
    replaced_on = let a = noted_grows e is_any_replaced x n u w is in let b = ready.same_replaced in omega (arith, a, b);
    struck_on = let a = noted_grows e is_any_struck x n u w is in let b = ready.same_struck in omega (arith, a, b);
    strikes_on = let a = strikes_more e x n u w is in let b = ap length ready.same_strikes in omega (arith, a, b);
  }

-- a view that has a line has it on
lined : {v : View} {y : Line} {b : List Line} → flat v.stacks ≡ y ∷ b → HasLine v
lined {y = y} {b = b} top = record { first = y; rest = b; lines_are = top }

-- both together
pub record Goes (v w : View) : Type 0 where
  pub grows : Grows v w
  pub topped : IsTopped w

-- an event from a view as it stands, which changes the first line
module _ (e : Setting) (v w : View) (x : Event) (n : ℕ) (y : Line) (b : List Line) (top : flat v.stacks ≡ y ∷ b) (is : w ≡ after e x n v) where
  goes_by : ((i : Job) (k l : ℕ) → begun i k l v ≤ begun i k l w) → BehindPlain (lines_left e x n v (y ∷ b)) → Goes v w
  goes_by begins behind = record {
    grows = grows_by e v v w x n (prepared_same e v) (λ z. lined top) is begins;
    topped = topped_after e x n v w (λ z. lined top) is (subst (λ ls. BehindPlain (lines_left e x n v ls)) (sym top) behind);
  }

-- what stands below a first line
below_plain : (v : View) (y : Line) (b : List Line) → flat v.stacks ≡ y ∷ b → IsTopped v → ArePlain b
below_plain v y b top topped = subst BehindPlain top topped

module _ (e : Setting) (v w : View) (n : ℕ) (topped : IsTopped v) where
  closes_on : (r k l m seen : ℕ) (b : List Line) → flat v.stacks ≡ of (line.Close k l m) ∷ b → w ≡ after e (close r k l m seen) n v → Goes v w
  closes_on r k l m seen b top is = goes_by e v w (close r k l m seen) n (of (line.Close k l m)) b top is (λ i a j. begun_grows i a j e n v (close r k l m seen) w (λ z. lined top) (b, top) is) (closed_behind k l m n (closing_of l seen n) b (below_plain v (of (line.Close k l m)) b top topped))

  posts_on : (r : ℕ) (i : Job) (k l : ℕ) (b : List Line) → flat v.stacks ≡ of (line.Owe k i l) ∷ b → w ≡ after e (post r i k l) n v → Goes v w
  posts_on r i k l b top is = goes_by e v w (post r i k l) n (of (line.Owe k i l)) b top is (λ j a m. begun_grows j a m e n v (post r i k l) w (λ z. absurd cc) (b, top) is) (came_behind i k n b (below_plain v (of (line.Owe k i l)) b top topped))

  elects_on : (r k l : ℕ) (c : Cause) (waits : Bool) (b : List Line) → flat v.stacks ≡ of (line.Suspect k l c waits) ∷ b → w ≡ after e (elect r k l c waits) n v → Goes v w
  elects_on r k l c waits b top is = goes_by e v w (elect r k l c waits) n (of (line.Suspect k l c waits)) b top is (λ i a m. elected_grows e n v w i a m r k l c waits b top is) (elected_behind k l c waits (elected_of l n) b (below_plain v (of (line.Suspect k l c waits)) b top topped))

  renews_on : (x : Event) (r k l d : ℕ) (b : List Line) → Renews x r k l d → flat v.stacks ≡ of (line.Renew k l d) ∷ b → w ≡ after e x n v → Goes v w
  renews_on x r k l d b renews top is = ⊎_elim (λ same. word (subst (λ z. w ≡ after e z n v) same is)) (λ other. ⊎_elim (λ same. descriptor (subst (λ z. w ≡ after e z n v) same is)) (λ same. ending (subst (λ z. w ≡ after e z n v) same is)) other) renews
    where
      below : ArePlain b
      below = below_plain v (of (line.Renew k l d)) b top topped

      word : w ≡ after e (renew_notify r k l d) n v → Goes v w
      word is = goes_by e v w (renew_notify r k l d) n (of (line.Renew k l d)) b top is (λ i a m. word_grows e n v w i a m r k l d b top d is) below

      descriptor : w ≡ after e (renew_descriptor r k l) n v → Goes v w
      descriptor is = goes_by e v w (renew_descriptor r k l) n (of (line.Renew k l d)) b top is (λ i a m. descriptor_grows e n v w i a m r k l d b top is) below

      ending : w ≡ after e (finish r k l) n v → Goes v w
      ending is = goes_by e v w (finish r k l) n (of (line.Renew k l d)) b top is (λ i a m. finish_grows e n v w i a m r k l d b top is) (refl, below)

  -- a turn of a task
  pub goes : (g : TaskGraph) (p : List Strike) (falls : Type 0) (h now : Option BlockCells) (y : Item) → Stands g e v y → is_over e.graph p y ≡ false → w ≡ after e (item_event e v p h now y) n (item_prepared e.graph y v)
      → Sort e p v (item_prepared e.graph y v) w n falls y (item_event e v p h now y) (item_hints y []) → Goes v w
  goes g p falls h now y stands left is sort = by sort
    where
      -- from the view as it stands
      as_is : (x : Event) → item_event e v p h now y ≡ x → item_prepared e.graph y v ≡ v → w ≡ after e x n v
      as_is x same none_made = subst (λ z. w ≡ after e z n v) same (subst (λ z. w ≡ after e (item_event e v p h now y) n z) none_made is)

      by : Sort e p v (item_prepared e.graph y v) w n falls y (item_event e v p h now y) (item_hints y []) → Goes v w
      by (Sort.closes c at none_left) = let it = closing_is g e p v h now y stands left c at none_left in closes_on it.row it.key it.life it.word it.seen it.below it.top (as_is (close it.row it.key it.life it.word it.seen) it.event_is it.none_made)
      by (Sort.posts r i k l b same rows none_made row top) = posts_on r i k l b top (as_is (post r i k l) same none_made)
      by (Sort.elects r k l c waits b same rows none_made row top) = elects_on r k l c waits b top (as_is (elect r k l c waits) same none_made)
      by (Sort.renews r k l d b renews rows none_made row top) = renews_on (item_event e v p h now y) r k l d b renews top (as_is (item_event e v p h now y) refl none_made)
      by (Sort.serves plainly plain rows) = let ready = prepared g e v y stands in let x : Event = item_event e v p h now y in let u : View = item_prepared e.graph y v in let has : HasLine v = lined plain.top in record {
        grows = grows_by e v u w x n ready (λ z. ready.line_on has) is (λ i k l. begun_grows i k l e n u x w (λ z. ready.line_on has) (plain_serves e v u w n falls x plainly) is);
        topped = topped_after e x n u w (λ z. ready.line_on has) is (plain_behind e v u w n falls x plainly (all_plain u (ready.plain_on plain) (ready.topped_on topped)));
      }
