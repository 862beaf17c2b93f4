-- Behind the first line stay neither renewals nor suspects for a mark.
use Rattle.std.proofs.Common.{◌≡◌, ℕ, zero, suc, ◌+◌, Bool, true, false, cond, ◌&&◌, eqb, nat_lt, List, [], ◌∷◌, refl, sym, subst}
use Rattle.graph_model.specs.declared.record.Cause.{Cause}
use Rattle.graph_model.specs.declared.record.Cause.TheVariants as cause
use Rattle.graph_model.specs.declared.plan.Point.TheVariants as point
use Rattle.core_state.specs.Effects.{blamed_items, claim_of, is_good, loaded_items, moved_items, others_before, read_items, registered_of, skipped_items, told_of}
use Rattle.core_state.specs.Events.{Event, after}
use Rattle.core_state.specs.Events.Event.{claim, look, load_descriptor, load_notify, load_recovery, register, spend, close, elect, renew_notify, renew_descriptor, finish, post, take, drop_credit, give_read, give_written}
use Rattle.core_state.specs.Graph.{Graph, Plan, Setting}
use Rattle.core_state.specs.Lines.{Line, came_lines, change_first, claimed_lines, closed_lines, credit, dropped, elected_lines, flat, looked_lines, of, onto, registered_lines, settled, swap_first, told_lines}
use Rattle.core_state.specs.Outcome.{lines_left}
use Rattle.core_state.specs.Views.{is_finished, none_left}
use Rattle.core_state.specs.Words.{closed_bit, life_of, mark_of}
use Rattle.core_state.specs.declared.answers.Claim.{Claim}
use Rattle.core_state.specs.declared.answers.Claim.TheVariants as claimed
use Rattle.core_state.specs.declared.answers.Closing.{Closing}
use Rattle.core_state.specs.declared.answers.Closing.TheVariants as closing
use Rattle.core_state.specs.declared.answers.Elected.{Elected}
use Rattle.core_state.specs.declared.answers.Elected.TheVariants as elected
use Rattle.core_state.specs.declared.answers.Registered.{Registered}
use Rattle.core_state.specs.declared.answers.Registered.TheVariants as registered
use Rattle.core_state.specs.declared.answers.Told.{Told}
use Rattle.core_state.specs.declared.answers.Told.TheVariants as told
use Rattle.core_state.specs.declared.block.BlockCells.{BlockCells}
use Rattle.core_state.specs.declared.job.Job.{Job}
use Rattle.core_state.specs.declared.views.Item.{Item as Piece}
use Rattle.core_state.specs.declared.views.Item.TheVariants as line
use Rattle.core_state.specs.declared.views.Known.{Known}
use Rattle.core_state.specs.declared.views.View.{View}
use Rattle.core_state.proofs.Lines.Leaves.{HasLine, pushes, stepped}
use Rattle.run_bounds.specs.Shared.{ArePlain, BehindPlain, IsPlain, IsTopped, is_plain}
use Rattle.run_bounds.specs.Struck.{by_mark}
use Rattle.run_bounds.proofs.Storm.Sorts.{Plain}

-- what is plain throughout is so behind the first line
behind : (ls : List Line) → ArePlain ls → BehindPlain ls
behind [] all = tt
behind (y ∷ b) all = all.1

-- and where the first line is plain it is so throughout
pub all_plain : (v : View) → IsPlain v → IsTopped v → ArePlain (flat v.stacks)
all_plain v plain topped = subst ArePlain (sym plain.top) (plain.plain, subst BehindPlain plain.top topped)

-- finished lines go
settled_behind : (g : Graph) (p : Plan) (made : List ℕ) (ls : List Line) → BehindPlain ls → BehindPlain (settled g p made ls)
settled_behind g p made [] all = tt
settled_behind g p made (credit ∷ b) all = all
settled_behind g p made (of x ∷ b) all = by (settled_behind g p made b (behind b all)) (is_finished g p made x)
  where
    by : BehindPlain (settled g p made b) → (f : Bool) → BehindPlain (cond f (settled g p made b) (of x ∷ b))
    by below true = below
    by below false = all

pub settled_plain : (g : Graph) (p : Plan) (made : List ℕ) (ls : List Line) → ArePlain ls → ArePlain (settled g p made ls)
settled_plain g p made [] plain = tt
settled_plain g p made (credit ∷ b) plain = plain
settled_plain g p made (of x ∷ b) plain = by (settled_plain g p made b plain.1) (is_finished g p made x)
  where
    by : ArePlain (settled g p made b) → (c : Bool) → ArePlain (cond c (settled g p made b) (of x ∷ b))
    by rest true = rest
    by rest false = plain

-- a suspect for a mark is not plain
pub marked_first : (k l : ℕ) (c : Cause) (waits : Bool) → by_mark c ≡ true → is_plain (of (line.Suspect k l c waits)) ≡ true → ⊥
marked_first k l cause.Descriptor waits marked plain = cc
marked_first k l cause.Notify waits marked plain = cc
marked_first k l (cause.Block b u f) waits marked plain = cc

-- after an event
pub topped_after : (e : Setting) (x : Event) (n : ℕ) (u w : View) → (pushes x ≡ true → HasLine u) → w ≡ after e x n u → BehindPlain (lines_left e x n u (flat u.stacks)) → IsTopped w
topped_after e x n u w line is all = subst BehindPlain (sym (stepped e x n u w line is).lines_are) (settled_behind e.graph e.plan w.strikes (lines_left e x n u (flat u.stacks)) all)

-- a job that came
pub came_behind : (i : Job) (k n : ℕ) (b : List Line) → ArePlain b → BehindPlain (came_lines i k n b)
came_behind i k zero b all = behind b all
came_behind i k (suc n) b all = (refl, all)

-- what becomes of a plain first item leaves what is behind it plain
abbrev StaysBehind : (List Piece → List Piece) → Type 0
StaysBehind f = (x : Piece) (b : List Line) → is_plain (of x) ≡ true → ArePlain b → BehindPlain (onto (f (x ∷ [])) b)

first_behind : (f : List Piece → List Piece) → f [] ≡ [] → StaysBehind f → (ls : List Line) → ArePlain ls → BehindPlain (change_first f ls)
first_behind f none stays [] all = tt
first_behind f none stays (credit ∷ b) all = subst (λ xs. BehindPlain (onto xs (credit ∷ b))) (sym none) all.1
first_behind f none stays (of x ∷ b) all = stays x b all.0 all.1

-- an item that moves on is plain
moved_plain : (g : Graph) (x : Piece) (b : List Line) → is_plain (of x) ≡ true → ArePlain b → ArePlain (onto (moved_items g (x ∷ [])) b)
moved_plain g (line.Explore k l j) b plain all = by (nat_lt j (g.places k))
  where
    by : (c : Bool) → ArePlain (onto (cond c (line.Explore k l (j + 1) ∷ []) []) b)
    by true = (refl, all)
    by false = all
moved_plain g (line.Compute k l loaded read made) b plain all = (refl, all)
moved_plain g (line.Close k l w) b plain all = (refl, all)
moved_plain g (line.Notify k l w []) b plain all = (refl, all)
moved_plain g (line.Notify k l w (q ∷ qs)) b plain all = (refl, all)
moved_plain g (line.Suspect k l c waits) b plain all = (plain, all)
moved_plain g (line.Renew k l d) b plain all = (plain, all)
moved_plain g (line.Reenter k l []) b plain all = (refl, all)
moved_plain g (line.Reenter k l (q ∷ qs)) b plain all = (refl, all)
moved_plain g (line.Owe k i l) b plain all = (refl, all)

moved_all : (g : Graph) (ls : List Line) → ArePlain ls → ArePlain (change_first (moved_items g) ls)
moved_all g [] all = tt
moved_all g (credit ∷ b) all = all
moved_all g (of x ∷ b) all = moved_plain g x b all.0 all.1

skipped_behind : (g : Graph) (rows r : ℕ) (known : List Known) → StaysBehind (skipped_items g rows r known)
skipped_behind g rows r known (line.Reenter k l (q ∷ qs)) b plain all = by (others_before rows (g.succ k q).task known (Rattle.core_state.specs.Effects.distance rows (g.succ k q).task r))
  where
    by : (c : Bool) → BehindPlain (onto (cond c (line.Reenter k l qs ∷ []) (line.Reenter k l (q ∷ qs) ∷ [])) b)
    by true = all
    by false = all
skipped_behind g rows r known x b plain all = all

loaded_behind : (g : Graph) (p : Plan) (made : List ℕ) (k n : ℕ) → StaysBehind (loaded_items g p made k n)
loaded_behind g p made k n (line.Compute a l false read m) b plain all = by (eqb k a && none_left g p point.Ready a l made) (eqb (mark_of n) 1) (eqb (life_of n) l)
  where
    by : (c d f : Bool) → BehindPlain (onto (cond c (cond d (line.Suspect a (life_of n) cause.Descriptor false ∷ []) (cond f (line.Compute a l true read m ∷ []) [])) (line.Compute a l false read m ∷ [])) b)
    by true true f = all
    by true false true = all
    by true false false = behind b all
    by false d f = all
loaded_behind g p made k n (line.Reenter a l (q ∷ qs)) b plain all = by (eqb k (g.succ a q).task) (eqb (mark_of n) 1) (eqb (Rattle.std.specs.Int.bit_at n (g.succ a q).place) 1)
  where
    by : (c d f : Bool) → BehindPlain (onto (cond c (cond d (line.Suspect k (life_of n) cause.Descriptor false ∷ line.Reenter a l qs ∷ []) (cond f (line.Reenter a l qs ∷ []) (line.Reenter a l (q ∷ qs) ∷ []))) (line.Reenter a l (q ∷ qs) ∷ [])) b)
    by true true f = (refl, all)
    by true false true = all
    by true false false = all
    by false d f = all
loaded_behind g p made k n x b plain all = all

blamed_behind : (g : Graph) (k n : ℕ) → StaysBehind (blamed_items g k n)
blamed_behind g k n (line.Suspect a l (cause.Block z u f) waits) b plain all = by (eqb k (g.writer z u) && cond (eqb k a) false true) (eqb (mark_of n) 1) (eqb (closed_bit n) 1)
  where
    by : (c d h : Bool) → BehindPlain (onto (cond c (cond d (line.Suspect k (life_of n) cause.Notify false ∷ line.Suspect a l (cause.Block z u f) waits ∷ []) (cond h (line.Suspect k (life_of n) (cause.Block z u f) true ∷ line.Suspect a l (cause.Block z u f) waits ∷ []) (line.Suspect a l (cause.Block z u f) waits ∷ []))) (line.Suspect a l (cause.Block z u f) waits ∷ [])) b)
    by true true h = (refl, all)
    by true false true = (refl, all)
    by true false false = all
    by false d h = all
blamed_behind g k n x b plain all = all

read_behind : (g : Graph) (z : ℕ) (was : BlockCells) → StaysBehind (read_items g z was)
read_behind g z was (line.Compute a l true read m) b plain all = by (nat_lt read (g.inputs a) && eqb z (g.block (g.pred a read).task)) (is_good (g.version (g.pred a read).task) was)
  where
    by : (c d : Bool) → BehindPlain (onto (cond c (cond d (line.Compute a l true (read + 1) m ∷ []) (line.Suspect a l (cause.Block z (g.version (g.pred a read).task) (Rattle.core_state.specs.Effects.found_in (g.version (g.pred a read).task) was)) false ∷ [])) (line.Compute a l true read m ∷ [])) b)
    by true true = all
    by true false = all
    by false d = all
read_behind g z was x b plain all = all

-- a credit goes
dropped_plain : (starts : Bool) (ls : List Line) → ArePlain ls → ArePlain (dropped starts ls)
dropped_plain starts [] all = tt
dropped_plain true (credit ∷ b) all = all.1
dropped_plain false (credit ∷ b) all = (refl, dropped_plain true b all.1)
dropped_plain starts (of x ∷ b) all = (all.0, dropped_plain false b all.1)

claimed_behind : (k : ℕ) (c : Claim) (ls : List Line) → ArePlain ls → BehindPlain (claimed_lines k c ls)
claimed_behind k claimed.Made ls all = all
claimed_behind k claimed.Found ls all = behind ls all
claimed_behind k (claimed.Other key) ls all = behind ls all

looked_behind : (g : Graph) (rows r n : ℕ) (known : List Known) (ls : List Line) → ArePlain ls → BehindPlain (looked_lines g rows r n known ls)
looked_behind g rows r n known ls all = by (eqb n 0)
  where
    by : (c : Bool) → BehindPlain (cond c (change_first (skipped_items g rows r known) ls) ls)
    by true = first_behind (skipped_items g rows r known) refl (skipped_behind g rows r known) ls all
    by false = behind ls all

registered_behind : (g : Graph) (p : ℕ) (x : Registered) (ls : List Line) → ArePlain ls → BehindPlain (registered_lines p x (change_first (moved_items g) ls) ls)
registered_behind g p (registered.Waiting m) ls all = behind (change_first (moved_items g) ls) (moved_all g ls all)
registered_behind g p (registered.Closed m) ls all = behind ls all
registered_behind g p (registered.Struck m) ls all = all

told_behind : (g : Graph) (k : ℕ) (t : Told) (ls : List Line) → ArePlain ls → BehindPlain (told_lines k t (change_first (moved_items g) ls))
told_behind g k (told.Spent l) ls all = behind (change_first (moved_items g) ls) (moved_all g ls all)
told_behind g k (told.Last l) ls all = moved_all g ls all
told_behind g k (told.Already l) ls all = behind (change_first (moved_items g) ls) (moved_all g ls all)
told_behind g k (told.Struck l) ls all = moved_all g ls all

-- a step that serves
pub plain_behind : (e : Setting) (v u w : View) (n : ℕ) (falls : Type 0) (x : Event) → Plain e v u w n falls x → ArePlain (flat u.stacks) → BehindPlain (lines_left e x n u (flat u.stacks))
plain_behind e v u w n falls (claim r k) is all = claimed_behind k (claim_of k n) (flat u.stacks) all
plain_behind e v u w n falls (look r) is all = looked_behind e.graph e.shape.rows r n u.known (flat u.stacks) all
plain_behind e v u w n falls (load_descriptor r k) is all = first_behind (loaded_items e.graph e.plan u.strikes k n) refl (loaded_behind e.graph e.plan u.strikes k n) (flat u.stacks) all
plain_behind e v u w n falls (load_notify r k m) is all = first_behind (blamed_items e.graph k n) refl (blamed_behind e.graph k n) (flat u.stacks) all
plain_behind e v u w n falls (load_recovery r k) is all = absurd is
plain_behind e v u w n falls (register r k q) is all = registered_behind e.graph k (registered_of n) (flat u.stacks) all
plain_behind e v u w n falls (spend r k j) is all = told_behind e.graph k (told_of (e.graph.places k) j n) (flat u.stacks) all
plain_behind e v u w n falls (close r k l m seen) is all = absurd is
plain_behind e v u w n falls (elect r k l c waits) is all = absurd is
plain_behind e v u w n falls (renew_notify r k l d) is all = absurd is
plain_behind e v u w n falls (renew_descriptor r k l) is all = absurd is
plain_behind e v u w n falls (finish r k l) is all = absurd is
plain_behind e v u w n falls (post r i k l) is all = absurd is
plain_behind e v u w n falls (take r i k) is all = absurd is
plain_behind e v u w n falls drop_credit is all = behind (dropped true (flat u.stacks)) (dropped_plain true (flat u.stacks) all)
plain_behind e v u w n falls (give_read b was) is all = first_behind (read_items e.graph b was) refl (read_behind e.graph b was) (flat u.stacks) all
plain_behind e v u w n falls (give_written k l b was now) is all = let top : flat u.stacks ≡ of (line.Compute k l is.0 is.1 is.2) ∷ is.3 = is.4 in
    subst (λ ls. BehindPlain (swap_first (line.Close k l 0) ls)) (sym top) (subst ArePlain top all).1
plain_behind e v u w n falls x is all = behind (flat u.stacks) all

-- a closing
pub closed_behind : (k l w n : ℕ) (c : Closing) (b : List Line) → ArePlain b → BehindPlain (closed_lines k l w n c (of (line.Close k l w) ∷ b))
closed_behind k l w n (closing.Edges ports) b all = (refl, all)
closed_behind k l w n (closing.Stale m) b all = behind b all
closed_behind k l w n (closing.Struck m) b all = all
closed_behind k l w n (closing.Moved x) b all = all

-- an election
pub elected_behind : (k l : ℕ) (c : Cause) (waits : Bool) (x : Elected) (b : List Line) → ArePlain b → BehindPlain (elected_lines k l waits x (of (line.Suspect k l c waits) ∷ b))
elected_behind k l c waits elected.Yes b all = all
elected_behind k l c waits (elected.Replaced m) b all = behind b all
elected_behind k l c waits (elected.Renewing m) b all = by (eqb m l) waits
  where
    by : (f g : Bool) → BehindPlain (cond f (cond g (of (line.Suspect k l c waits) ∷ b) b) (of (line.Suspect k l c waits) ∷ b))
    by true true = all
    by true false = behind b all
    by false g = all
