-- The lines after an event, by the item on top and by the answer. Where the view does not depend on the event's row, the row is 0.
use Rattle.std.proofs.Common.{◌≡◌, ◌≢◌, ℕ, zero, suc, ◌+◌, ◌-◌, ◌*◌, nat_eq, ◌<◌, ◌≤◌, Bool, true, false, cond, eqb, ne_eqb, nat_lt, ◌&&◌, List, [], ◌∷◌, refl, ap, sym, ◌∙◌, subst, arith}
use mathlib.Core.Option.{some, none}
use Rattle.std.proofs.lemmas.Bool.{ltb-false, lt-ltb, le-ltb, eq-eqb}
use Rattle.std.specs.Int.{bit_at}
use Rattle.core_state.specs.Graph.{Setting, Graph, Plan}
use Rattle.core_state.specs.Words.{life_of, mark_of, closed_bit, standing_life}
use Rattle.core_state.specs.Views.{is_finished, none_left, next_strike, strike_next, strike_at, passing}
use Rattle.core_state.specs.Effects.{moved_items, skipped_items, others_before, distance, claim_of, registered_of, told_of, closing_of, elected_of, all_ports, is_good, found_in, read_items, after_computed, made_items}
use Rattle.core_state.specs.Events.{Event, after}
use Rattle.core_state.specs.Events.Event.{claim, look, load_descriptor, load_notify, load_recovery, load_pending, load_stop, register, spend, close, elect, renew_notify, renew_descriptor, finish, strike_descriptor, strike_notify, post, take, buy, drop_credit, take_turn, give_read, give_written, give_struck, halt}
use Rattle.core_state.specs.Lines.{Line, of, credit, onto, flat, HasLines, change_first, came_lines, begins, claimed_lines, registered_lines, told_lines, closed_lines, elected_lines, ready_lines, entered_lines, blamed_lines}
use Rattle.core_state.specs.Outcome.{lines_left}
use Rattle.graph_model.specs.declared.record.Cause.{Cause}
use Rattle.graph_model.specs.declared.record.Cause.TheVariants as cause
use Rattle.graph_model.specs.declared.plan.Point.{Point}
use Rattle.graph_model.specs.declared.plan.Point.TheVariants as point
use Rattle.core_state.specs.declared.block.BlockCells.{BlockCells}
use Rattle.core_state.specs.declared.job.Job.{Job}
use Rattle.core_state.specs.declared.job.Job.TheVariants as job
use Rattle.core_state.specs.declared.answers.Claim.{Claim}
use Rattle.core_state.specs.declared.answers.Registered.{Registered}
use Rattle.core_state.specs.declared.answers.Told.{Told}
use Rattle.core_state.specs.declared.answers.Closing.{Closing}
use Rattle.core_state.specs.declared.answers.Elected.{Elected}
use Rattle.core_state.specs.declared.answers.Elected.TheVariants as elected
use Rattle.core_state.specs.declared.views.Item.{Item}
use Rattle.core_state.specs.declared.views.Item.TheVariants as item
use Rattle.core_state.specs.declared.views.View.{View}
use Rattle.core_state.proofs.Lines.Leaves.{stepped}
use Rattle.core_state.proofs.Lines.Top.{first_strike, flat_changed, settled_unfinished, settled_finished}

-- exploring goes on below its last place, and leaves past it
pub explore_moves : (g : Graph) (k l j : ℕ) (b : List Line) → j < g.places k → change_first (moved_items g) (of (item.Explore k l j) ∷ b) ≡ of (item.Explore k l (j + 1)) ∷ b
explore_moves g k l j b low = rw (lt-ltb j (g.places k) low)

pub explore_ends : (g : Graph) (k l j : ℕ) (b : List Line) → g.places k ≤ j → change_first (moved_items g) (of (item.Explore k l j) ∷ b) ≡ b
explore_ends g k l j b high = rw (le-ltb j (g.places k) high)

-- a stack that came, where one was found
pub came_some : (i : Job) (k n : ℕ) (ls : List Line) → n ≢ 0 → came_lines i k n ls ≡ of (begins i k n) ∷ credit ∷ ls
came_some i k zero ls ne = absurd (ne refl)
came_some i k (suc n) ls ne = refl

pub came_none : (i : Job) (k n : ℕ) (ls : List Line) → n ≡ 0 → came_lines i k n ls ≡ ls
came_none i k n ls z = ap (λ m. came_lines i k m ls) z

-- Closing is over past its last word, where no strike is left.
pub close_goes_on : (g : Graph) (p : Plan) (made : List ℕ) (k l w : ℕ) → w < g.notify_words k → is_finished g p made (item.Close k l w) ≡ false
close_goes_on g p made k l w low = rw (lt-ltb w (g.notify_words k) low)

pub close_strikes : (g : Graph) (p : Plan) (made : List ℕ) (k l w n : ℕ) → g.notify_words k ≤ w → next_strike g p point.Notified k l made ≡ some n → is_finished g p made (item.Close k l w) ≡ false
close_strikes g p made k l w n high left = rw (le-ltb w (g.notify_words k) high, left)

pub close_is_over : (g : Graph) (p : Plan) (made : List ℕ) (k l w : ℕ) → g.notify_words k ≤ w → next_strike g p point.Notified k l made ≡ none → is_finished g p made (item.Close k l w) ≡ true
close_is_over g p made k l w high left = rw (le-ltb w (g.notify_words k) high, left)

-- the same by the strike that is next for it
pub close_has_ended : (g : Graph) (p : Plan) (made : List ℕ) (k l w : ℕ) → 0 < w → g.notify_words k ≤ w → strike_at g p made (passing g (item.Close k l w)) ≡ none → is_finished g p made (item.Close k l w) ≡ true
close_has_ended g p made k l w far high left = close_is_over g p made k l w high (sym (ap (strike_at g p made) at_end) ∙ left)
  where
    at_end : passing g (item.Close k l w) ≡ mathlib.Core.Option.some (record { at = point.Notified; key = k; life = l })
    at_end = rw (ne_eqb w 0 (λ z. omega (arith, z, far)), le-ltb w (g.notify_words k) high)

none_is_left : (g : Graph) (p : Plan) (at : Point) (k l : ℕ) (made : List ℕ) → next_strike g p at k l made ≡ none → none_left g p at k l made ≡ true
none_is_left g p at k l made is = rw is

-- a life that is told as being renewed is not a later one
pub renewing_low : (l m n : ℕ) → elected.Renewing m ≡ elected_of l n → m ≤ l
renewing_low l m n is = by (nat_eq n (2 * (l - 1))) (nat_lt l (standing_life n)) refl is
  where
    by : (a c : Bool) → nat_lt l (standing_life n) ≡ c → elected.Renewing m ≡ cond a elected.Yes (cond c (elected.Replaced (standing_life n)) (elected.Renewing (standing_life n))) → m ≤ l
    by true c low told = absurd cc
    by false true low told = absurd cc
    by false false low told = let same : m ≡ standing_life n = cc in let high = ltb-false l (standing_life n) low in omega (arith, same, high)

-- the first line stands where it is not finished, and is gone where it is
pub line_stands : (e : Setting) (v : View) (x : Item) (b : List Line) → is_finished e.graph e.plan v.strikes x ≡ false → HasLines e v (of x ∷ b) → flat v.stacks ≡ of x ∷ b
line_stands e v x b f is = is.lines_are ∙ settled_unfinished e.graph e.plan v.strikes x b f

pub line_gone : (e : Setting) (v : View) (x : Item) (b : List Line) → is_finished e.graph e.plan v.strikes x ≡ true → HasLines e v (of x ∷ b) → HasLines e v b
line_gone e v x b f is = record { lines_are = is.lines_are ∙ settled_finished e.graph e.plan v.strikes x b f }

-- the result was made: this is no event
pub computed_lines : (v : View) (k l d m r : ℕ) (loaded made : Bool) (b : List Line) → flat v.stacks ≡ of (item.Compute d m loaded r made) ∷ b → flat (after_computed k l v).stacks ≡ of (item.Compute d m loaded r true) ∷ b
computed_lines v k l d m r loaded made b is = flat_changed (made_items k l) (record { one = one }) v.stacks ∙ ap (change_first (made_items k l)) is
  where
    one : (x : Item) (xs : List Item) → made_items k l (x ∷ xs) ≡ Rattle.std.proofs.Common.◌++◌ (made_items k l (x ∷ [])) xs
    one (item.Compute a c f h o) xs = refl
    one (item.Explore a c j) xs = refl
    one (item.Close a c w) xs = refl
    one (item.Notify a c w qs) xs = refl
    one (item.Suspect a c w qs) xs = refl
    one (item.Renew a c w) xs = refl
    one (item.Reenter a c qs) xs = refl
    one (item.Owe a c j) xs = refl

module _ (e : Setting) (v w : View) (n : ℕ) where
  -- an event of which the lines are known
  become : (x : Event) (y : Line) (b ls : List Line) → flat v.stacks ≡ y ∷ b → w ≡ after e x n v → lines_left e x n v (y ∷ b) ≡ ls → HasLines e w ls
  become x y b ls top is same = subst (HasLines e w) (ap (lines_left e x n v) top ∙ same) (stepped e x n v w (λ z. record { first = y; rest = b; lines_are = top }) is)

  -- any event, where the first line is this one
  pub lines_after : (x : Event) (y : Line) (b : List Line) → flat v.stacks ≡ y ∷ b → w ≡ after e x n v → HasLines e w (lines_left e x n v (y ∷ b))
  lines_after x y b top is = become x y b (lines_left e x n v (y ∷ b)) top is refl

  -- an event that leaves the first line
  pub still : (x : Event) (y : Line) (b : List Line) → lines_left e x n v (y ∷ b) ≡ y ∷ b → flat v.stacks ≡ y ∷ b → w ≡ after e x n v → HasLines e w (y ∷ b)
  still x y b same top is = become x y b (y ∷ b) top is same

  -- a claim
  pub claimed : (r k : ℕ) (c : Claim) (y : Line) (b : List Line) → flat v.stacks ≡ y ∷ b → c ≡ claim_of k n → w ≡ after e (claim r k) n v → HasLines e w (claimed_lines k c (y ∷ b))
  claimed r k c y b top told is = become (claim r k) y b (claimed_lines k c (y ∷ b)) top is (ap (λ z. claimed_lines k z (y ∷ b)) (sym told))

  -- a look at a row that holds a key, and one where no port is to be entered again
  pub looked_full : (r : ℕ) (y : Line) (b : List Line) → flat v.stacks ≡ y ∷ b → n ≢ 0 → w ≡ after e (look r) n v → HasLines e w (y ∷ b)
  looked_full r y b top ne is = become (look r) y b (y ∷ b) top is (rw (ne_eqb n 0 ne))

  pub looked_still : (r : ℕ) (y : Line) (b : List Line) → flat v.stacks ≡ y ∷ b → change_first (skipped_items e.graph e.shape.rows r v.known) (y ∷ b) ≡ y ∷ b → w ≡ after e (look r) n v → HasLines e w (y ∷ b)
  looked_still r y b top same is = become (look r) y b (y ∷ b) top is (by (eqb n 0))
    where
      by : (c : Bool) → cond c (change_first (skipped_items e.graph e.shape.rows r v.known) (y ∷ b)) (y ∷ b) ≡ y ∷ b
      by true = same
      by false = refl

  -- at the end of the path of a successor that has no row, its port is skipped
  pub looked_absent : (r k l q : ℕ) (qs : List ℕ) (b : List Line) → flat v.stacks ≡ of (item.Reenter k l (q ∷ qs)) ∷ b → n ≡ 0 → others_before e.shape.rows (e.graph.succ k q).task v.known (distance e.shape.rows (e.graph.succ k q).task r) ≡ true → w ≡ after e (look r) n v → HasLines e w (of (item.Reenter k l qs) ∷ b)
  looked_absent r k l q qs b top z others is = become (look r) (of (item.Reenter k l (q ∷ qs))) b (of (item.Reenter k l qs) ∷ b) top is (rw (eq-eqb n 0 z, others))

  -- the load before computing, and that before a successor is entered again; a further load leaves the lines
  pub loaded_ready : (k l i : ℕ) (made struck same : Bool) (b : List Line) → flat v.stacks ≡ of (item.Compute k l false i made) ∷ b → strike_next e.graph e.plan v ≡ none → struck ≡ eqb (mark_of n) 1 → same ≡ eqb (life_of n) l → w ≡ after e (load_descriptor 0 k) n v
      → HasLines e w (ready_lines struck same k (life_of n) (item.Compute k l true i made) b)
  loaded_ready k l i made struck same b top no_strike s t is = become (load_descriptor 0 k) (of (item.Compute k l false i made)) b (ready_lines struck same k (life_of n) (item.Compute k l true i made) b) top is
      (rw (eq-eqb k k refl, none_is_left e.graph e.plan point.Ready k l v.strikes (sym (first_strike e.graph e.plan v (item.Compute k l false i made) b top) ∙ no_strike), s, t) (by (eqb (mark_of n) 1) (eqb (life_of n) l)))
    where
      by : (a c : Bool) → onto (cond a (item.Suspect k (life_of n) cause.Descriptor false ∷ []) (cond c (item.Compute k l true i made ∷ []) [])) b ≡ ready_lines a c k (life_of n) (item.Compute k l true i made) b
      by true c = refl
      by false true = refl
      by false false = refl

  pub loaded_successor : (p l q : ℕ) (qs : List ℕ) (struck spent : Bool) (b : List Line) → flat v.stacks ≡ of (item.Reenter p l (q ∷ qs)) ∷ b → struck ≡ eqb (mark_of n) 1 → spent ≡ eqb (bit_at n (e.graph.succ p q).place) 1 → w ≡ after e (load_descriptor 0 (e.graph.succ p q).task) n v
      → HasLines e w (entered_lines struck spent (e.graph.succ p q).task (life_of n) (item.Reenter p l (q ∷ qs)) (item.Reenter p l qs) b)
  loaded_successor p l q qs struck spent b top s t is = let k : ℕ = (e.graph.succ p q).task in become (load_descriptor 0 k) (of (item.Reenter p l (q ∷ qs))) b (entered_lines struck spent k (life_of n) (item.Reenter p l (q ∷ qs)) (item.Reenter p l qs) b) top is
      (rw (eq-eqb k k refl, s, t) (by (eqb (mark_of n) 1) (eqb (bit_at n (e.graph.succ p q).place) 1)))
    where
      by : (a c : Bool) → onto (cond a (item.Suspect (e.graph.succ p q).task (life_of n) cause.Descriptor false ∷ item.Reenter p l qs ∷ []) (cond c (item.Reenter p l qs ∷ []) (item.Reenter p l (q ∷ qs) ∷ []))) b ≡ entered_lines a c (e.graph.succ p q).task (life_of n) (item.Reenter p l (q ∷ qs)) (item.Reenter p l qs) b
      by true c = refl
      by false true = refl
      by false false = refl

  -- the look at the writer of a bad block
  pub loaded_writer : (k m d l a c : ℕ) (f : Rattle.graph_model.specs.declared.record.Found.Found) (waits struck shut : Bool) (b : List Line) → flat v.stacks ≡ of (item.Suspect d l (cause.Block a c f) waits) ∷ b → k ≡ e.graph.writer a c → k ≢ d → struck ≡ eqb (mark_of n) 1 → shut ≡ eqb (closed_bit n) 1 → w ≡ after e (load_notify 0 k m) n v
      → HasLines e w (blamed_lines struck shut k (life_of n) (cause.Block a c f) (item.Suspect d l (cause.Block a c f) waits) b)
  loaded_writer k m d l a c f waits struck shut b top writes ne s t is = become (load_notify 0 k m) (of (item.Suspect d l (cause.Block a c f) waits)) b (blamed_lines struck shut k (life_of n) (cause.Block a c f) (item.Suspect d l (cause.Block a c f) waits) b) top is
      (rw (eq-eqb k (e.graph.writer a c) writes, ne_eqb k d ne, s, t) (by (eqb (mark_of n) 1) (eqb (closed_bit n) 1)))
    where
      by : (g h : Bool) → onto (cond g (item.Suspect k (life_of n) cause.Notify false ∷ item.Suspect d l (cause.Block a c f) waits ∷ []) (cond h (item.Suspect k (life_of n) (cause.Block a c f) true ∷ item.Suspect d l (cause.Block a c f) waits ∷ []) (item.Suspect d l (cause.Block a c f) waits ∷ []))) b ≡ blamed_lines g h k (life_of n) (cause.Block a c f) (item.Suspect d l (cause.Block a c f) waits) b
      by true h = refl
      by false true = refl
      by false false = refl

  -- a suspect whose life has ended goes
  pub loaded_recovery : (k l : ℕ) (c : Cause) (waits later : Bool) (b : List Line) → flat v.stacks ≡ of (item.Suspect k l c waits) ∷ b → later ≡ nat_lt l (standing_life n) → w ≡ after e (load_recovery 0 k) n v → HasLines e w (cond later b (of (item.Suspect k l c waits) ∷ b))
  loaded_recovery k l c waits later b top s is = become (load_recovery 0 k) (of (item.Suspect k l c waits)) b (cond later b (of (item.Suspect k l c waits) ∷ b)) top is (rw (eq-eqb k k refl, s) (by (nat_lt l (standing_life n))))
    where
      by : (a : Bool) → onto (cond a [] (item.Suspect k l c waits ∷ [])) b ≡ cond a b (of (item.Suspect k l c waits) ∷ b)
      by true = refl
      by false = refl

  -- registering a port
  pub explored_registers : (p q k l j : ℕ) (a : Registered) (b : List Line) → j < e.graph.places k → flat v.stacks ≡ of (item.Explore k l j) ∷ b → a ≡ registered_of n → w ≡ after e (register 0 p q) n v
      → HasLines e w (registered_lines p a (of (item.Explore k l (j + 1)) ∷ b) (of (item.Explore k l j) ∷ b))
  explored_registers p q k l j a b low top told is = become (register 0 p q) (of (item.Explore k l j)) b (registered_lines p a (of (item.Explore k l (j + 1)) ∷ b) (of (item.Explore k l j) ∷ b)) top is
      (ap (λ ls. registered_lines p (registered_of n) ls (of (item.Explore k l j) ∷ b)) (explore_moves e.graph k l j b low) ∙ ap (λ z. registered_lines p z (of (item.Explore k l (j + 1)) ∷ b) (of (item.Explore k l j) ∷ b)) (sym told))

  pub reentered_registers : (p l q : ℕ) (qs : List ℕ) (a : Registered) (b : List Line) → flat v.stacks ≡ of (item.Reenter p l (q ∷ qs)) ∷ b → a ≡ registered_of n → w ≡ after e (register 0 p q) n v
      → HasLines e w (registered_lines p a (of (item.Reenter p l qs) ∷ b) (of (item.Reenter p l (q ∷ qs)) ∷ b))
  reentered_registers p l q qs a b top told is = become (register 0 p q) (of (item.Reenter p l (q ∷ qs))) b (registered_lines p a (of (item.Reenter p l qs) ∷ b) (of (item.Reenter p l (q ∷ qs)) ∷ b)) top is
      (ap (λ z. registered_lines p z (of (item.Reenter p l qs) ∷ b) (of (item.Reenter p l (q ∷ qs)) ∷ b)) (sym told))

  -- spending a place, by the item that tells it
  spent : (k j : ℕ) (t : Told) (x : Item) (b ls : List Line) → flat v.stacks ≡ of x ∷ b → change_first (moved_items e.graph) (of x ∷ b) ≡ ls → t ≡ told_of (e.graph.places k) j n → w ≡ after e (spend 0 k j) n v → HasLines e w (told_lines k t ls)
  spent k j t x b ls top moves told is = become (spend 0 k j) (of x) b (told_lines k t ls) top is (ap (told_lines k (told_of (e.graph.places k) j n)) moves ∙ ap (λ z. told_lines k z ls) (sym told))

  pub explored_spends : (k l j : ℕ) (t : Told) (b : List Line) → j < e.graph.places k → flat v.stacks ≡ of (item.Explore k l j) ∷ b → t ≡ told_of (e.graph.places k) j n → w ≡ after e (spend 0 k j) n v → HasLines e w (told_lines k t (of (item.Explore k l (j + 1)) ∷ b))
  explored_spends k l j t b low top told is = spent k j t (item.Explore k l j) b (of (item.Explore k l (j + 1)) ∷ b) top (explore_moves e.graph k l j b low) told is

  pub itself_spends : (k l j : ℕ) (t : Told) (b : List Line) → e.graph.places k ≤ j → flat v.stacks ≡ of (item.Explore k l j) ∷ b → t ≡ told_of (e.graph.places k) 40 n → w ≡ after e (spend 0 k 40) n v → HasLines e w (told_lines k t b)
  itself_spends k l j t b high top told is = spent k 40 t (item.Explore k l j) b b top (explore_ends e.graph k l j b high) told is

  pub notified_spends : (k j p l y q : ℕ) (qs : List ℕ) (t : Told) (b : List Line) → flat v.stacks ≡ of (item.Notify p l y (q ∷ qs)) ∷ b → t ≡ told_of (e.graph.places k) j n → w ≡ after e (spend 0 k j) n v → HasLines e w (told_lines k t (of (item.Notify p l y qs) ∷ b))
  notified_spends k j p l y q qs t b top told is = spent k j t (item.Notify p l y (q ∷ qs)) b (of (item.Notify p l y qs) ∷ b) top refl told is

  pub reentered_spends : (k j p l q : ℕ) (qs : List ℕ) (t : Told) (b : List Line) → flat v.stacks ≡ of (item.Reenter p l (q ∷ qs)) ∷ b → t ≡ told_of (e.graph.places k) j n → w ≡ after e (spend 0 k j) n v → HasLines e w (told_lines k t (of (item.Reenter p l qs) ∷ b))
  reentered_spends k j p l q qs t b top told is = spent k j t (item.Reenter p l (q ∷ qs)) b (of (item.Reenter p l qs) ∷ b) top refl told is

  -- closing a word, and an election
  pub closes : (k l y seen : ℕ) (c : Closing) (b : List Line) → flat v.stacks ≡ of (item.Close k l y) ∷ b → c ≡ closing_of l seen n → w ≡ after e (close 0 k l y seen) n v → HasLines e w (closed_lines k l y n c (of (item.Close k l y) ∷ b))
  closes k l y seen c b top told is = become (close 0 k l y seen) (of (item.Close k l y)) b (closed_lines k l y n c (of (item.Close k l y) ∷ b)) top is (ap (λ z. closed_lines k l y n z (of (item.Close k l y) ∷ b)) (sym told))

  pub elects : (k l : ℕ) (c : Cause) (waits : Bool) (a : Elected) (b : List Line) → flat v.stacks ≡ of (item.Suspect k l c waits) ∷ b → a ≡ elected_of l n → w ≡ after e (elect 0 k l c waits) n v → HasLines e w (elected_lines k l waits a (of (item.Suspect k l c waits) ∷ b))
  elects k l c waits a b top told is = become (elect 0 k l c waits) (of (item.Suspect k l c waits)) b (elected_lines k l waits a (of (item.Suspect k l c waits) ∷ b)) top is (ap (λ z. elected_lines k l waits z (of (item.Suspect k l c waits) ∷ b)) (sym told))

  -- renewing, and the end of it
  pub renews_notify : (k l y : ℕ) (b : List Line) → flat v.stacks ≡ of (item.Renew k l y) ∷ b → w ≡ after e (renew_notify 0 k l y) n v → HasLines e w (of (item.Renew k l (y + 1)) ∷ b)
  renews_notify k l y b top is = lines_after (renew_notify 0 k l y) (of (item.Renew k l y)) b top is

  pub renews_descriptor : (k l y : ℕ) (b : List Line) → flat v.stacks ≡ of (item.Renew k l y) ∷ b → w ≡ after e (renew_descriptor 0 k l) n v → HasLines e w (of (item.Renew k l (e.graph.notify_words k + 1)) ∷ b)
  renews_descriptor k l y b top is = lines_after (renew_descriptor 0 k l) (of (item.Renew k l y)) b top is

  pub finishes : (k l y : ℕ) (b : List Line) → flat v.stacks ≡ of (item.Renew k l y) ∷ b → w ≡ after e (finish 0 k l) n v → HasLines e w (of (item.Owe k job.Explore (l + 1)) ∷ of (item.Reenter k (l + 1) (all_ports 0 (e.graph.ports k))) ∷ b)
  finishes k l y b top is = lines_after (finish 0 k l) (of (item.Renew k l y)) b top is

  -- posting brings what stood there, and so does taking
  pub posts : (i : Job) (k l : ℕ) (b : List Line) → flat v.stacks ≡ of (item.Owe k i l) ∷ b → w ≡ after e (post 0 i k l) n v → HasLines e w (came_lines i k n b)
  posts i k l b top is = lines_after (post 0 i k l) (of (item.Owe k i l)) b top is

  pub takes : (i : Job) (k : ℕ) → w ≡ after e (take 0 i k) n v → HasLines e w (came_lines i k n (flat v.stacks))
  takes i k is = stepped e (take 0 i k) n v w (λ z. absurd cc) is

  -- the credit of a stack without items goes with its line
  pub drops : (b : List Line) → flat v.stacks ≡ credit ∷ b → w ≡ after e drop_credit n v → HasLines e w b
  drops b top is = lines_after drop_credit credit b top is

  -- an input is read, or is bad
  pub reads : (k l i a : ℕ) (was : BlockCells) (made good : Bool) (b : List Line) → i < e.graph.inputs k → a ≡ e.graph.block (e.graph.pred k i).task → flat v.stacks ≡ of (item.Compute k l true i made) ∷ b → good ≡ is_good (e.graph.version (e.graph.pred k i).task) was → w ≡ after e (give_read a was) n v
      → HasLines e w (of (cond good (item.Compute k l true (i + 1) made) (item.Suspect k l (cause.Block a (e.graph.version (e.graph.pred k i).task) (found_in (e.graph.version (e.graph.pred k i).task) was)) false)) ∷ b)
  reads k l i a was made good b low here top g is = let u : ℕ = e.graph.version (e.graph.pred k i).task in
      become (give_read a was) (of (item.Compute k l true i made)) b (of (cond good (item.Compute k l true (i + 1) made) (item.Suspect k l (cause.Block a u (found_in u was)) false)) ∷ b) top is
      (rw (lt-ltb i (e.graph.inputs k) low, eq-eqb a (e.graph.block (e.graph.pred k i).task) here, g) (by (is_good u was)))
    where
      by : (c : Bool) → onto (cond c (item.Compute k l true (i + 1) made ∷ []) (item.Suspect k l (cause.Block a (e.graph.version (e.graph.pred k i).task) (found_in (e.graph.version (e.graph.pred k i).task) was)) false ∷ [])) b ≡ of (cond c (item.Compute k l true (i + 1) made) (item.Suspect k l (cause.Block a (e.graph.version (e.graph.pred k i).task) (found_in (e.graph.version (e.graph.pred k i).task) was)) false)) ∷ b
      by true = refl
      by false = refl

  -- the result is written, and closing begins
  pub writes : (k l i a : ℕ) (was now : BlockCells) (loaded made : Bool) (b : List Line) → flat v.stacks ≡ of (item.Compute k l loaded i made) ∷ b → w ≡ after e (give_written k l a was now) n v → HasLines e w (of (item.Close k l 0) ∷ b)
  writes k l i a was now loaded made b top is = lines_after (give_written k l a was now) (of (item.Compute k l loaded i made)) b top is

  -- a credit that is bought
  pub buys : (y : Line) (b : List Line) → flat v.stacks ≡ y ∷ b → w ≡ after e buy n v → HasLines e w (y ∷ b)
  buys y b top is = still buy y b refl top is

  -- other events that leave the lines
  pub loads_pending : (y : Line) (b : List Line) → flat v.stacks ≡ y ∷ b → w ≡ after e load_pending n v → HasLines e w (y ∷ b)
  loads_pending y b top is = still load_pending y b refl top is

  pub loads_stop : (y : Line) (b : List Line) → flat v.stacks ≡ y ∷ b → w ≡ after e load_stop n v → HasLines e w (y ∷ b)
  loads_stop y b top is = still load_stop y b refl top is

  pub stops : (y : Line) (b : List Line) → flat v.stacks ≡ y ∷ b → w ≡ after e halt n v → HasLines e w (y ∷ b)
  stops y b top is = still halt y b refl top is

  pub takes_turn : (a : ℕ) (was : BlockCells) (y : Line) (b : List Line) → flat v.stacks ≡ y ∷ b → w ≡ after e (take_turn a was) n v → HasLines e w (y ∷ b)
  takes_turn a was y b top is = still (take_turn a was) y b refl top is

  -- a strike leaves the lines too, but for a closing that has ended with it
  pub strikes_descriptor : (k l : ℕ) (y : Line) (b : List Line) → flat v.stacks ≡ y ∷ b → w ≡ after e (strike_descriptor 0 k l) n v → HasLines e w (y ∷ b)
  strikes_descriptor k l y b top is = still (strike_descriptor 0 k l) y b refl top is

  pub strikes_notify : (k l m : ℕ) (y : Line) (b : List Line) → flat v.stacks ≡ y ∷ b → w ≡ after e (strike_notify 0 k l m) n v → HasLines e w (y ∷ b)
  strikes_notify k l m y b top is = still (strike_notify 0 k l m) y b refl top is

  pub strikes_block : (k l a : ℕ) (was now : BlockCells) (y : Line) (b : List Line) → flat v.stacks ≡ y ∷ b → w ≡ after e (give_struck k l a was now) n v → HasLines e w (y ∷ b)
  strikes_block k l a was now y b top is = still (give_struck k l a was now) y b refl top is

  -- so does a strike on a block that missed: exploring, computing that has not begun, and closing read no input
  pub misses_block : (a : ℕ) (was : BlockCells) (x : Item) (b : List Line) → read_items e.graph a was (x ∷ []) ≡ x ∷ [] → flat v.stacks ≡ of x ∷ b → w ≡ after e (give_read a was) n v → HasLines e w (of x ∷ b)
  misses_block a was x b same top is = still (give_read a was) (of x) b (ap (λ xs. onto xs b) same) top is

  -- the result of computing was made
  pub computes : (k l d m i : ℕ) (loaded made : Bool) (b : List Line) → flat v.stacks ≡ of (item.Compute d m loaded i made) ∷ b → w ≡ after_computed k l v → HasLines e w (of (item.Compute d m loaded i true) ∷ b)
  computes k l d m i loaded made b top is = record { lines_are = ap (λ (u : View). flat u.stacks) is ∙ computed_lines v k l d m i loaded made b top }
