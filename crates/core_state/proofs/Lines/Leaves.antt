-- What each event leaves of the lines of the view that steps.
use Rattle.std.proofs.Common.{◌≡◌, ℕ, zero, suc, ne_eqb, arith, ◌+◌, ◌-◌, Bool, true, false, cond, eqb, ◌&&◌, List, [], ◌∷◌, refl, ap, sym, ◌∙◌, subst}
use mathlib.Core.Option.{Option, some, none}
use Rattle.core_state.specs.Graph.{Setting, Graph}
use Rattle.core_state.specs.Views.{on_top, strike_next, strike_done, without_first, arrived, fresh, change_top}
use Rattle.core_state.specs.Effects.{has_idle, moved_items, skipped_items, claim_of, after_claim, after_look, registered_of, after_register, told_of, after_spend, closing_of, after_close, elected_of, after_elect, after_post, after_take, after_drop_credit, after_take_turn, hitting_of, after_strike_descriptor, after_strike_notify, without_idle, made_items, after_computed, missed_by, ports_from, all_ports}
use Rattle.core_state.specs.Events.{Event, raw, after}
use Rattle.core_state.specs.Events.Event.{claim, look, load_descriptor, load_notify, load_recovery, load_pending, load_stop, register, spend, close, elect, renew_notify, renew_descriptor, finish, strike_descriptor, strike_notify, post, take, buy, drop_credit, take_turn, give_read, give_written, give_struck, halt}
use Rattle.core_state.specs.Lines.{HasLines, stands, settled, Line, of, flat, change_first, swap_first, drop_first, came_lines, claimed_lines, registered_lines, told_lines, closed_lines, elected_lines}
use Rattle.core_state.specs.Outcome.{lines_left}
use Rattle.graph_model.specs.declared.record.Cause.{Cause}
use Rattle.graph_model.specs.declared.record.Cause.TheVariants as cause
use Rattle.core_state.specs.declared.job.Job.{Job}
use Rattle.core_state.specs.declared.job.Job.TheVariants as job
use Rattle.core_state.specs.declared.answers.Claim.{Claim}
use Rattle.core_state.specs.declared.answers.Claim.TheVariants as claimed
use Rattle.core_state.specs.declared.answers.Registered.{Registered}
use Rattle.core_state.specs.declared.answers.Registered.TheVariants as registered
use Rattle.core_state.specs.declared.answers.Told.{Told}
use Rattle.core_state.specs.declared.answers.Told.TheVariants as told
use Rattle.core_state.specs.declared.answers.Closing.{Closing}
use Rattle.core_state.specs.declared.answers.Closing.TheVariants as closing
use Rattle.core_state.specs.declared.answers.Elected.{Elected}
use Rattle.core_state.specs.declared.answers.Elected.TheVariants as elected
use Rattle.core_state.specs.declared.answers.Hitting.{Hitting}
use Rattle.core_state.specs.declared.answers.Hitting.TheVariants as hitting
use Rattle.core_state.specs.declared.views.Item.{Item}
use Rattle.core_state.specs.declared.views.Item.TheVariants as item
use Rattle.core_state.specs.declared.views.Known.{Known}
use Rattle.core_state.specs.declared.views.Stack.{Stack}
use Rattle.core_state.specs.declared.views.View.{View}
use Rattle.core_state.proofs.Lines.Top.{flat_changed, flat_pushed, flat_above, flat_dropped, flat_settled, stands_settled}
use Rattle.core_state.proofs.Lines.Local.{moved_local, skipped_local, loaded_local, blamed_local, cleared_local, read_local, onto_local}

-- an event that may bring an item above the others, and so needs a stack
abbrev pub pushes : Event → Bool
pushes (claim r k) = true
pushes (register r p q) = true
pushes (spend r k j) = true
pushes (close r k l w m) = true
pushes _ = false

-- there is a line
pub record HasLine (v : View) : Type 0 where
  pub first : Line
  pub rest : List Line
  pub lines_are : flat v.stacks ≡ first ∷ rest

swapped : (x : Item) (ss : List Stack) → flat (on_top (λ xs. x ∷ without_first xs) ss) ≡ swap_first x (flat ss)
swapped x ss = flat_changed (λ xs. x ∷ without_first xs) (onto_local (x ∷ [])) ss

gone : (ss : List Stack) → flat (on_top without_first ss) ≡ drop_first (flat ss)
gone ss = flat_changed without_first (onto_local []) ss

came : (i : Job) (k n : ℕ) (ss : List Stack) → flat (arrived i k n ss) ≡ came_lines i k n (flat ss)
came i k zero ss = refl
came job.Explore k (suc n) ss = ap (λ (b : Bool). flat (cond b ss (fresh job.Explore k (suc n) ∷ ss))) (ne_eqb (suc n) 0 (λ z. omega (arith, z)))
came job.Compute k (suc n) ss = ap (λ (b : Bool). flat (cond b ss (fresh job.Compute k (suc n) ∷ ss))) (ne_eqb (suc n) 0 (λ z. omega (arith, z)))

module _ (v : View) (h : HasLine v) where
  claimed_raw : (r k : ℕ) (c : Claim) → flat (after_claim r k c v).stacks ≡ claimed_lines k c (flat v.stacks)
  claimed_raw r k claimed.Made = flat_above (item.Owe k job.Explore 1) v.stacks h.first h.rest h.lines_are
  claimed_raw r k claimed.Found = refl
  claimed_raw r k (claimed.Other key) = refl

  registered_raw : (g : Graph) (p q n : ℕ) (x : Registered) → flat (after_register g p q n x v).stacks ≡ registered_lines p x (change_first (moved_items g) (flat v.stacks)) (flat v.stacks)
  registered_raw g p q n (registered.Waiting m) = flat_changed (moved_items g) (moved_local g) v.stacks
  registered_raw g p q n (registered.Closed m) = refl
  registered_raw g p q n (registered.Struck m) = flat_above (item.Suspect p m cause.Notify false) v.stacks h.first h.rest h.lines_are

  told_raw : (g : Graph) (k j n : ℕ) (t : Told) → flat (after_spend g k j n t v).stacks ≡ told_lines k t (change_first (moved_items g) (flat v.stacks))
  told_raw g k j n (told.Spent l) = flat_changed (moved_items g) (moved_local g) v.stacks
  told_raw g k j n (told.Last l) = flat_pushed (item.Owe k job.Compute l) (moved_items g) (moved_local g) v.stacks h.first h.rest h.lines_are
  told_raw g k j n (told.Already l) = flat_changed (moved_items g) (moved_local g) v.stacks
  told_raw g k j n (told.Struck l) = flat_pushed (item.Suspect k l cause.Descriptor false) (moved_items g) (moved_local g) v.stacks h.first h.rest h.lines_are

  closed_raw : (k l w n : ℕ) (c : Closing) → flat (after_close k l w n c v).stacks ≡ closed_lines k l w n c (flat v.stacks)
  closed_raw k l w n (closing.Edges ports) = edges v.stacks h.first h.rest h.lines_are
    where
      edges : (ss : List Stack) (y : Line) (b : List Line) → flat ss ≡ y ∷ b → flat (on_top (λ xs. item.Notify k l w (ports_from w n 0 40) ∷ item.Close k l (w + 1) ∷ without_first xs) ss) ≡ of (item.Notify k l w (ports_from w n 0 40)) ∷ swap_first (item.Close k l (w + 1)) (flat ss)
      edges [] y b is = absurd cc
      edges (s ∷ ss) y b is = ap (λ z. of (item.Notify k l w (ports_from w n 0 40)) ∷ z) (swapped (item.Close k l (w + 1)) (s ∷ ss))
  closed_raw k l w n (closing.Stale m) = gone v.stacks
  closed_raw k l w n (closing.Struck m) = flat_pushed (item.Suspect k m cause.Notify false) without_first (onto_local []) v.stacks h.first h.rest h.lines_are
  closed_raw k l w n (closing.Moved m) = refl

same_top : (ss : List Stack) → flat (on_top (λ xs. xs) ss) ≡ flat ss
same_top [] = refl
same_top (s ∷ ss) = refl

elected_raw : (v : View) (k l : ℕ) (c : Cause) (waits : Bool) (n : ℕ) (x : Elected) → flat (after_elect k l c waits n x v).stacks ≡ elected_lines k l waits x (flat v.stacks)
elected_raw v k l c waits n elected.Yes = swapped (item.Renew k l 0) v.stacks
elected_raw v k l c waits n (elected.Replaced m) = gone v.stacks
elected_raw v k l c waits n (elected.Renewing m) = by (eqb m l) waits
  where
    by : (a w : Bool) → flat (on_top (λ xs. cond (a && cond w false true) (without_first xs) xs) v.stacks) ≡ cond a (cond w (flat v.stacks) (drop_first (flat v.stacks))) (flat v.stacks)
    by true true = same_top v.stacks
    by true false = gone v.stacks
    by false w = same_top v.stacks

hit_raw : (o : Option ℕ) (v : View) → (strike_done o v).stacks ≡ v.stacks
hit_raw none v = refl
hit_raw (some n) v = refl

module _ (e : Setting) where
  -- the lines, before what is finished goes
  pub raw_lines : (x : Event) (n : ℕ) (v : View) → (pushes x ≡ true → HasLine v) → flat (raw e x n v).stacks ≡ lines_left e x n v (flat v.stacks)
  raw_lines (claim r k) n v h = claimed_raw v (h refl) r k (claim_of k n)
  raw_lines (look r) n v h = by (eqb n 0)
    where
      by : (b : Bool) → flat (cond b (change_top (skipped_items e.graph e.shape.rows r v.known) v) (Rattle.core_state.specs.Views.learn (Rattle.core_state.specs.declared.views.Known.TheVariants.Row r (n - 1)) v)).stacks ≡ cond b (change_first (skipped_items e.graph e.shape.rows r v.known) (flat v.stacks)) (flat v.stacks)
      by true = flat_changed (skipped_items e.graph e.shape.rows r v.known) (skipped_local e.graph e.shape.rows r v.known) v.stacks
      by false = refl
  raw_lines (load_descriptor r k) n v h = flat_changed (Rattle.core_state.specs.Effects.loaded_items e.graph e.plan v.strikes k n) (loaded_local e.graph e.plan v.strikes k n) v.stacks
  raw_lines (load_notify r k w) n v h = flat_changed (Rattle.core_state.specs.Effects.blamed_items e.graph k n) (blamed_local e.graph k n) v.stacks
  raw_lines (load_recovery r k) n v h = flat_changed (Rattle.core_state.specs.Effects.cleared_items k n) (cleared_local k n) v.stacks
  raw_lines load_pending n v h = refl
  raw_lines load_stop n v h = refl
  raw_lines (register r p q) n v h = registered_raw v (h refl) e.graph p q n (registered_of n)
  raw_lines (spend r k j) n v h = told_raw v (h refl) e.graph k j n (told_of (e.graph.places k) j n)
  raw_lines (close r k l w m) n v h = closed_raw v (h refl) k l w n (closing_of l m n)
  raw_lines (elect r k l c waits) n v h = elected_raw v k l c waits n (elected_of l n)
  raw_lines (renew_notify r k l w) n v h = swapped (item.Renew k l (w + 1)) v.stacks
  raw_lines (renew_descriptor r k l) n v h = swapped (item.Renew k l (e.graph.notify_words k + 1)) v.stacks
  raw_lines (finish r k l) n v h = flat_changed (λ xs. item.Owe k job.Explore (l + 1) ∷ item.Reenter k (l + 1) (all_ports 0 (e.graph.ports k)) ∷ without_first xs) (onto_local (item.Owe k job.Explore (l + 1) ∷ item.Reenter k (l + 1) (all_ports 0 (e.graph.ports k)) ∷ [])) v.stacks
  raw_lines (strike_descriptor r k l) n v h = by (hitting_of n)
    where
      by : (x : Hitting) → flat (after_strike_descriptor e.graph e.plan k n x v).stacks ≡ flat v.stacks
      by (hitting.Landed m) = ap flat (hit_raw (strike_next e.graph e.plan v) v)
      by (hitting.Missed m) = ap flat (hit_raw (strike_next e.graph e.plan v) v)
  raw_lines (strike_notify r k l w) n v h = by (hitting_of n)
    where
      by : (x : Hitting) → flat (after_strike_notify e.graph e.plan k w n x v).stacks ≡ flat v.stacks
      by (hitting.Landed m) = ap flat (hit_raw (strike_next e.graph e.plan v) v)
      by (hitting.Missed m) = ap flat (hit_raw (strike_next e.graph e.plan v) v)
  raw_lines (post r i k l) n v h = came i k n (on_top without_first v.stacks) ∙ ap (came_lines i k n) (gone v.stacks)
  raw_lines (take r i k) n v h = came i k n v.stacks
  raw_lines buy n v h = refl
  raw_lines drop_credit n v h = by (has_idle v.stacks) ∙ flat_dropped v.stacks
    where
      by : (b : Bool) → flat (cond b (record v { stacks = without_idle v.stacks }) (record v { spare = v.spare - 1 })).stacks ≡ flat (cond b (without_idle v.stacks) v.stacks)
      by true = refl
      by false = refl
  raw_lines (take_turn b was) n v h = by (eqb n 0)
    where
      by : (c : Bool) → flat (cond c (record v { hands = record { block = b; held = was } ∷ v.hands }) v).stacks ≡ flat v.stacks
      by true = refl
      by false = refl
  raw_lines (give_read b was) n v h = flat_changed (Rattle.core_state.specs.Effects.read_items e.graph b was) (read_local e.graph b was) v.stacks
  raw_lines (give_written k l b was now) n v h = swapped (item.Close k l 0) v.stacks
  raw_lines (give_struck k l b was now) n v h = ap flat (hit_raw (strike_next e.graph e.plan v) v)
  raw_lines halt n v h = refl

  -- so it is, but for finished items on top
  pub stepped : (x : Event) (n : ℕ) (v w : View) → (pushes x ≡ true → HasLine v) → w ≡ after e x n v → HasLines e w (lines_left e x n v (flat v.stacks))
  stepped x n v w h is = subst (λ u. HasLines e u (lines_left e x n v (flat v.stacks))) (sym is)
      (record { lines_are = flat_settled e.graph e.plan (raw e x n v).strikes (raw e x n v).stacks ∙ ap (settled e.graph e.plan (raw e x n v).strikes) (raw_lines x n v h) })

  -- nothing finished stands on top after an event
  pub stands_after : (x : Event) (n : ℕ) (v w : View) → w ≡ after e x n v → stands e.graph e.plan w.strikes (flat w.stacks) ≡ true
  stands_after x n v w is = subst (λ (u : View). stands e.graph e.plan u.strikes (flat u.stacks) ≡ true) (sym is)
      (ap (stands e.graph e.plan (raw e x n v).strikes) (flat_settled e.graph e.plan (raw e x n v).strikes (raw e x n v).stacks) ∙ stands_settled e.graph e.plan (raw e x n v).strikes (flat (raw e x n v).stacks))
