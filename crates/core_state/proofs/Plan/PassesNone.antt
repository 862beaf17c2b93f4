-- The kinds of step that pass no point, so that the strikes of passed points stay made.
use Rattle.std.proofs.Common.{◌≡◌, ℕ, ◌+◌, ◌-◌, ◌≤◌, Bool, true, false, cond, ◌&&◌, nat_lt, eqb, List, [], ◌∷◌, arith, ap, refl}
use mathlib.Core.Option.{Option, some, none}
use Rattle.core_state.specs.Graph.{Setting, Graph}
use Rattle.core_state.specs.Counts.{hit, count, items, in_stacks, struck_by}
use Rattle.core_state.specs.Tests.{is_loaded, is_close, is_spent, is_computed, is_closed}
use Rattle.core_state.specs.Guards.{AtWork}
use Rattle.core_state.specs.Effects.{after_claim, after_look, after_load_notify, after_load_recovery, after_load_pending, after_load_stop, after_register, after_elect, after_renew, after_finish, after_strike_descriptor, after_strike_notify, after_buy, after_drop_credit, after_take_turn, after_give_read, after_give_written, after_give_struck, after_stop, saw, skipped_items, read_items, found_in, is_good, missed, missed_by, has_idle, without_idle, all_ports}
use Rattle.core_state.specs.Views.{learn, change_top, strike_next, strike_done, on_top, without_first}
use Rattle.core_state.specs.declared.answers.Claim.{Claim}
use Rattle.core_state.specs.declared.answers.Claim.TheVariants as claim
use Rattle.core_state.specs.declared.answers.Registered.{Registered}
use Rattle.core_state.specs.declared.answers.Registered.TheVariants as registered
use Rattle.core_state.specs.declared.answers.Elected.{Elected}
use Rattle.core_state.specs.declared.answers.Elected.TheVariants as elected
use Rattle.core_state.specs.declared.answers.Hitting.{Hitting}
use Rattle.core_state.specs.declared.answers.Hitting.TheVariants as hitting
use Rattle.graph_model.specs.declared.record.Cause.{Cause}
use Rattle.graph_model.specs.declared.record.Cause.TheVariants as cause
use Rattle.core_state.specs.declared.block.BlockCells.{BlockCells}
use Rattle.core_state.specs.declared.job.Job.TheVariants as job
use Rattle.core_state.specs.declared.views.Item.{Item}
use Rattle.core_state.specs.declared.views.Item.TheVariants as item
use Rattle.core_state.specs.declared.views.Known.TheVariants as known
use Rattle.core_state.specs.declared.views.Stack.{Stack}
use Rattle.core_state.specs.declared.views.Word.TheVariants as word
use Rattle.core_state.specs.declared.views.View.{View}
use Rattle.core_state.proofs.Load.NotifyItems.{blamed_view, none_comes}
use Rattle.core_state.proofs.Credit.Keeps.{idle_items}
use Rattle.core_state.proofs.Base.Counting.{bump_is}
use Rattle.core_state.proofs.Load.Recovery.{on_same}
use Rattle.core_state.proofs.Base.Tops.{push_none}
use Rattle.core_state.proofs.Base.ItemMoves.{moved_still, swapped}
use Rattle.core_state.proofs.Plan.Passes.{PassesNone}
use Rattle.core_state.proofs.Row.Look.{tops_same}

-- strikes and records of these kinds stay, and so do the items that matter
pub plain : (v w : View) → w.strikes ≡ v.strikes → w.records ≡ v.records → ((k l : ℕ) → items (is_loaded k l) w ≡ items (is_loaded k l) v) → ((k l : ℕ) → items (is_close k l) w ≡ items (is_close k l) v) → PassesNone v w
plain v w strikes records loads closes = record {
  struck = λ n. let a = ap (count (eqb n)) strikes in omega (arith, a);
  spent = λ k. ap (count (is_spent k 1 40)) records;
  computed = λ k l. ap (count (is_computed k l)) records;
  closed = λ k l i. ap (count (is_closed k l i)) records;
  loads = λ k l. let a = loads k l in omega (arith, a);
  closes = λ k l. let a = closes k l in omega (arith, a);
}

pub claim_passes : (r k : ℕ) (v : View) (x : Claim) → PassesNone v (after_claim r k x v)
claim_passes r k v claim.Made = record {
  struck = λ n. omega arith;
  spent = λ a. refl;
  computed = λ a l. refl;
  closed = λ a l i. refl;
  loads = λ a l. let q = push_none (is_loaded a l) (item.Owe k job.Explore 1) v.stacks refl in omega (arith, q);
  closes = λ a l. let q = push_none (is_close a l) (item.Owe k job.Explore 1) v.stacks refl in omega (arith, q);
}
claim_passes r k v claim.Found = plain v (after_claim r k claim.Found v) refl refl (λ a l. refl) (λ a l. refl)
claim_passes r k v (claim.Other key) = plain v (after_claim r k (claim.Other key) v) refl refl (λ a l. refl) (λ a l. refl)

pub look_passes : (e : Setting) (r n : ℕ) (v : View) → PassesNone v (after_look e.graph e.shape.rows r n v)
look_passes e r n v = by (eqb n 0)
  where
    by : (b : Bool) → PassesNone v (cond b (change_top (skipped_items e.graph e.shape.rows r v.known) v) (learn (known.Row r (n - 1)) v))
    by true = plain v (change_top (skipped_items e.graph e.shape.rows r v.known) v) refl refl (λ k l. tops_same e.graph e.shape.rows r v.known (is_loaded k l) (λ a b y ys. refl) v.stacks) (λ k l. tops_same e.graph e.shape.rows r v.known (is_close k l) (λ a b y ys. refl) v.stacks)
    by false = plain v (learn (known.Row r (n - 1)) v) refl refl (λ k l. refl) (λ k l. refl)

pub load_notify_passes : (e : Setting) (k w n : ℕ) (v : View) → PassesNone v (after_load_notify e.graph k w n v)
load_notify_passes e k w n v = let u = blamed_view e.graph k n w v in plain v (after_load_notify e.graph k w n v) refl refl
    (λ a l. let b = u.items_are (is_loaded a l) in let d = none_comes e.graph k n (is_loaded a l) (λ f g. refl) u.kind in omega (arith, b, d)) (λ a l. let b = u.items_are (is_close a l) in let d = none_comes e.graph k n (is_close a l) (λ f g. refl) u.kind in omega (arith, b, d))

pub load_recovery_passes : (k n : ℕ) (v : View) → PassesNone v (after_load_recovery k n v)
load_recovery_passes k n v = plain v (after_load_recovery k n v) refl refl (λ a l. on_same k n (is_loaded a l) (λ b d f g. refl) v.stacks) (λ a l. on_same k n (is_close a l) (λ b d f g. refl) v.stacks)

pub load_pending_passes : (n : ℕ) (v : View) → PassesNone v (after_load_pending n v)
load_pending_passes n v = plain v (after_load_pending n v) refl refl (λ k l. refl) (λ k l. refl)

pub load_stop_passes : (n : ℕ) (v : View) → PassesNone v (after_load_stop n v)
load_stop_passes n v = plain v (after_load_stop n v) refl refl (λ k l. refl) (λ k l. refl)

pub stop_passes : (v : View) → PassesNone v (after_stop v)
stop_passes v = plain v (after_stop v) refl refl (λ k l. refl) (λ k l. refl)

pub register_passes : (e : Setting) (p q n : ℕ) (v : View) (x : Registered) → PassesNone v (after_register e.graph p q n x v)
register_passes e p q n v (registered.Waiting m) = plain v (after_register e.graph p q n (registered.Waiting m) v) refl refl
    (λ k l. moved_still (is_loaded k l) record { explore = λ a b i. refl; notify = λ a b w y ys. refl; reenter = λ a b y ys. refl } e.graph v) (λ k l. moved_still (is_close k l) record { explore = λ a b i. refl; notify = λ a b w y ys. refl; reenter = λ a b y ys. refl } e.graph v)
register_passes e p q n v (registered.Closed m) = plain v (after_register e.graph p q n (registered.Closed m) v) refl refl (λ k l. refl) (λ k l. refl)
register_passes e p q n v (registered.Struck m) = plain v (after_register e.graph p q n (registered.Struck m) v) refl refl (λ k l. push_none (is_loaded k l) (item.Suspect p m cause.Notify false) v.stacks refl) (λ k l. push_none (is_close k l) (item.Suspect p m cause.Notify false) v.stacks refl)

-- the topmost item becomes others, and none of them passes the test
swap_same : (p : Item → Bool) (f : List Item → List Item) (v : View) (x : Item) (at : AtWork v x) (ys : List Item) → f (x ∷ at.below) ≡ ys → hit (p x) + count p at.below ≡ count p ys → in_stacks p (on_top f v.stacks) ≡ in_stacks p v.stacks
swap_same p f v x at ys gives same = let a = swapped p f v.stacks at.others at.stack x at.below ys at.stacks_are at.items_are gives in omega (arith, a, same)

pub elect_passes : (k l : ℕ) (c : Cause) (waits : Bool) (n : ℕ) (v : View) → AtWork v (item.Suspect k l c waits) → (x : Elected) → PassesNone v (after_elect k l c waits n x v)
elect_passes k l c waits n v at elected.Yes = record {
  struck = λ m. omega arith;
  spent = λ a. refl;
  computed = λ a b. refl;
  closed = λ a b i. refl;
  loads = λ a b. let q = swap_same (is_loaded a b) (λ xs. item.Renew k l 0 ∷ without_first xs) v (item.Suspect k l c waits) at (item.Renew k l 0 ∷ at.below) refl (omega arith) in omega (arith, q);
  closes = λ a b. let q = swap_same (is_close a b) (λ xs. item.Renew k l 0 ∷ without_first xs) v (item.Suspect k l c waits) at (item.Renew k l 0 ∷ at.below) refl (omega arith) in omega (arith, q);
}
elect_passes k l c waits n v at (elected.Replaced m) = plain v (after_elect k l c waits n (elected.Replaced m) v) refl refl (λ a b. swap_same (is_loaded a b) without_first v (item.Suspect k l c waits) at at.below refl (omega arith)) (λ a b. swap_same (is_close a b) without_first v (item.Suspect k l c waits) at at.below refl (omega arith))
elect_passes k l c waits n v at (elected.Renewing m) = by (eqb m l && cond waits false true)
  where
    by : (o : Bool) → PassesNone v (saw k word.Recovery n (change_top (λ xs. cond o (without_first xs) xs) v))
    by true = plain v (saw k word.Recovery n (change_top without_first v)) refl refl (λ a b. swap_same (is_loaded a b) without_first v (item.Suspect k l c waits) at at.below refl (omega arith)) (λ a b. swap_same (is_close a b) without_first v (item.Suspect k l c waits) at at.below refl (omega arith))
    by false = plain v (saw k word.Recovery n (change_top (λ xs. xs) v)) refl refl (λ a b. swap_same (is_loaded a b) (λ xs. xs) v (item.Suspect k l c waits) at (item.Suspect k l c waits ∷ at.below) refl (omega arith))
        (λ a b. swap_same (is_close a b) (λ xs. xs) v (item.Suspect k l c waits) at (item.Suspect k l c waits ∷ at.below) refl (omega arith))

pub renew_passes : (k l done : ℕ) (v : View) → AtWork v (item.Renew k l done) → PassesNone v (after_renew k l done v)
renew_passes k l done v at = plain v (after_renew k l done v) refl refl (λ a b. swap_same (is_loaded a b) (λ xs. item.Renew k l (done + 1) ∷ without_first xs) v (item.Renew k l done) at (item.Renew k l (done + 1) ∷ at.below) refl (omega arith))
    (λ a b. swap_same (is_close a b) (λ xs. item.Renew k l (done + 1) ∷ without_first xs) v (item.Renew k l done) at (item.Renew k l (done + 1) ∷ at.below) refl (omega arith))

-- the next life is to be explored, and the successors are to be entered again
abbrev finishing : Setting → ℕ → ℕ → List Item → List Item
finishing e k l xs = item.Owe k job.Explore (l + 1) ∷ item.Reenter k (l + 1) (all_ports 0 (e.graph.ports k)) ∷ without_first xs

pub finish_passes : (e : Setting) (k l done : ℕ) (v : View) → AtWork v (item.Renew k l done) → PassesNone v (after_finish e.graph k l v)
finish_passes e k l done v at = plain v (after_finish e.graph k l v) refl refl (λ a b. swap_same (is_loaded a b) (finishing e k l) v (item.Renew k l done) at (finishing e k l (item.Renew k l done ∷ at.below)) refl (omega arith)) (λ a b. swap_same (is_close a b) (finishing e k l) v (item.Renew k l done) at (finishing e k l (item.Renew k l done ∷ at.below)) refl (omega arith))

-- one more strike was made, if there was one to make, and perhaps it is recorded
struck_more : (o : Option ℕ) (n : ℕ) (v : View) → struck_by n v ≤ struck_by n (strike_done o v)
struck_more none n v = omega arith
struck_more (some m) n v = let a = bump_is (eqb n m) (count (eqb n) v.strikes) in omega (arith, a)

done_plain : (o : Option ℕ) (v : View) → PassesNone v (strike_done o v)
done_plain none v = plain v v refl refl (λ k l. refl) (λ k l. refl)
done_plain (some m) v = record { struck = λ n. struck_more (some m) n v; spent = λ k. refl; computed = λ k l. refl; closed = λ k l i. refl; loads = λ k l. omega arith; closes = λ k l. omega arith }

pub strike_descriptor_passes : (e : Setting) (k n : ℕ) (v : View) (x : Hitting) → PassesNone v (after_strike_descriptor e.graph e.plan k n x v)
strike_descriptor_passes e k n v (hitting.Landed l) = let u = done_plain (strike_next e.graph e.plan v) v in record { struck = u.struck; spent = u.spent; computed = u.computed; closed = u.closed; loads = u.loads; closes = u.closes }
strike_descriptor_passes e k n v (hitting.Missed l) = let u = done_plain (strike_next e.graph e.plan v) v in record { struck = u.struck; spent = u.spent; computed = u.computed; closed = u.closed; loads = u.loads; closes = u.closes }

pub strike_notify_passes : (e : Setting) (k w n : ℕ) (v : View) (x : Hitting) → PassesNone v (after_strike_notify e.graph e.plan k w n x v)
strike_notify_passes e k w n v (hitting.Landed l) = let u = done_plain (strike_next e.graph e.plan v) v in record { struck = u.struck; spent = u.spent; computed = u.computed; closed = u.closed; loads = u.loads; closes = u.closes }
strike_notify_passes e k w n v (hitting.Missed l) = let u = done_plain (strike_next e.graph e.plan v) v in record { struck = u.struck; spent = u.spent; computed = u.computed; closed = u.closed; loads = u.loads; closes = u.closes }

pub give_struck_passes : (e : Setting) (k l b ver : ℕ) (v : View) → PassesNone v (after_give_struck e.graph e.plan k l b ver v)
give_struck_passes e k l b ver v = let o = strike_next e.graph e.plan v in record {
  struck = λ n. struck_more (strike_next e.graph e.plan v) n v;
  spent = λ a. refl;
  computed = λ a m. refl;
  closed = λ a m i. refl;
  loads = (done_plain (strike_next e.graph e.plan v) v).loads;
  closes = (done_plain (strike_next e.graph e.plan v) v).closes;
}

pub buy_passes : (v : View) → PassesNone v (after_buy v)
buy_passes v = plain v (after_buy v) refl refl (λ k l. refl) (λ k l. refl)

pub drop_credit_passes : (v : View) → PassesNone v (after_drop_credit v)
drop_credit_passes v = by (has_idle v.stacks)
  where
    by : (b : Bool) → PassesNone v (cond b (record v { stacks = without_idle v.stacks }) (record v { spare = v.spare - 1 }))
    by true = plain v (record v { stacks = without_idle v.stacks }) refl refl (λ k l. idle_items (is_loaded k l) v.stacks) (λ k l. idle_items (is_close k l) v.stacks)
    by false = plain v (record v { spare = v.spare - 1 }) refl refl (λ k l. refl) (λ k l. refl)

pub take_turn_passes : (b : ℕ) (was : BlockCells) (n : ℕ) (v : View) → PassesNone v (after_take_turn b was n v)
take_turn_passes b was n v = by (eqb n 0)
  where
    by : (o : Bool) → PassesNone v (cond o (record v { hands = record { block = b; held = was } ∷ v.hands }) v)
    by true = plain v (record v { hands = record { block = b; held = was } ∷ v.hands }) refl refl (λ k l. refl) (λ k l. refl)
    by false = plain v v refl refl (λ k l. refl) (λ k l. refl)

-- a computing that reads on stays loaded, and one that meets a bad input leaves
read_loads : (g : Graph) (b : ℕ) (was : BlockCells) (k l : ℕ) (xs : List Item) → count (is_loaded k l) (read_items g b was xs) ≤ count (is_loaded k l) xs
read_loads g b was k l (item.Compute a m true read made ∷ xs) = by (nat_lt read (g.inputs a) && eqb b (g.block (g.pred a read).task)) (is_good (g.version (g.pred a read).task) was)
  where
    by : (f h : Bool) → count (is_loaded k l) (cond f (cond h (item.Compute a m true (read + 1) made ∷ xs) (item.Suspect a m (cause.Block b (g.version (g.pred a read).task) (found_in (g.version (g.pred a read).task) was)) false ∷ xs)) (item.Compute a m true read made ∷ xs)) ≤ count (is_loaded k l) (item.Compute a m true read made ∷ xs)
    by true true = omega arith
    by true false = let q = bump_is (is_loaded k l (item.Compute a m true read made)) (count (is_loaded k l) xs) in omega (arith, q)
    by false h = omega arith
read_loads g b was k l (item.Compute a m false read made ∷ xs) = omega arith
read_loads g b was k l [] = omega arith
read_loads g b was k l (item.Explore a m j ∷ xs) = omega arith
read_loads g b was k l (item.Close a m w ∷ xs) = omega arith
read_loads g b was k l (item.Notify a m w ps ∷ xs) = omega arith
read_loads g b was k l (item.Suspect a m d f ∷ xs) = omega arith
read_loads g b was k l (item.Renew a m d ∷ xs) = omega arith
read_loads g b was k l (item.Reenter a m ps ∷ xs) = omega arith
read_loads g b was k l (item.Owe a j m ∷ xs) = omega arith

read_closes : (g : Graph) (b : ℕ) (was : BlockCells) (k l : ℕ) (xs : List Item) → count (is_close k l) (read_items g b was xs) ≡ count (is_close k l) xs
read_closes g b was k l (item.Compute a m true read made ∷ xs) = by (nat_lt read (g.inputs a) && eqb b (g.block (g.pred a read).task)) (is_good (g.version (g.pred a read).task) was)
  where
    by : (f h : Bool) → count (is_close k l) (cond f (cond h (item.Compute a m true (read + 1) made ∷ xs) (item.Suspect a m (cause.Block b (g.version (g.pred a read).task) (found_in (g.version (g.pred a read).task) was)) false ∷ xs)) (item.Compute a m true read made ∷ xs)) ≡ count (is_close k l) (item.Compute a m true read made ∷ xs)
    by true true = refl
    by true false = refl
    by false h = refl
read_closes g b was k l (item.Compute a m false read made ∷ xs) = refl
read_closes g b was k l [] = refl
read_closes g b was k l (item.Explore a m j ∷ xs) = refl
read_closes g b was k l (item.Close a m w ∷ xs) = refl
read_closes g b was k l (item.Notify a m w ps ∷ xs) = refl
read_closes g b was k l (item.Suspect a m d f ∷ xs) = refl
read_closes g b was k l (item.Renew a m d ∷ xs) = refl
read_closes g b was k l (item.Reenter a m ps ∷ xs) = refl
read_closes g b was k l (item.Owe a j m ∷ xs) = refl

missed_more : (e : Setting) (b : ℕ) (was : BlockCells) (o : Option ℕ) (made : List ℕ) (n : ℕ) → count (eqb n) made ≤ count (eqb n) (missed_by e.graph e.plan b was o made)
missed_more e b was none made n = omega arith
missed_more e b was (some m) made n = by (missed e.graph b was (e.plan.strike m))
  where
    by : (o : Bool) → count (eqb n) made ≤ count (eqb n) (cond o (m ∷ made) made)
    by true = let a = bump_is (eqb n m) (count (eqb n) made) in omega (arith, a)
    by false = omega arith

pub give_read_passes : (e : Setting) (b : ℕ) (was : BlockCells) (v : View) → PassesNone v (after_give_read e.graph e.plan b was v)
give_read_passes e b was v = record {
  struck = λ n. missed_more e b was (strike_next e.graph e.plan v) v.strikes n;
  spent = λ k. refl;
  computed = λ k l. refl;
  closed = λ k l i. refl;
  loads = λ k l. loads k l v.stacks;
  closes = λ k l. let a = closes k l v.stacks in omega (arith, a);
}
  where
    loads : (k l : ℕ) (ss : List Stack) → in_stacks (is_loaded k l) (on_top (read_items e.graph b was) ss) ≤ in_stacks (is_loaded k l) ss
    loads k l [] = omega arith
    loads k l (u ∷ ss) = let a = read_loads e.graph b was k l u.items in omega (arith, a)

    closes : (k l : ℕ) (ss : List Stack) → in_stacks (is_close k l) (on_top (read_items e.graph b was) ss) ≡ in_stacks (is_close k l) ss
    closes k l [] = refl
    closes k l (u ∷ ss) = ap (λ o. o + in_stacks (is_close k l) ss) (read_closes e.graph b was k l u.items)

-- a computing becomes a closing
pub give_written_passes : (k l b ver read : ℕ) (v : View) → AtWork v (item.Compute k l true read true) → PassesNone v (after_give_written k l b ver v)
give_written_passes k l b ver read v at = record {
  struck = λ n. omega arith;
  spent = λ a. refl;
  computed = λ a m. refl;
  closed = λ a m i. refl;
  loads = λ a m. let q = swapped (is_loaded a m) (λ xs. item.Close k l 0 ∷ without_first xs) v.stacks at.others at.stack (item.Compute k l true read true) at.below (item.Close k l 0 ∷ at.below) at.stacks_are at.items_are refl in omega (arith, q);
  closes = λ a m. let q = swapped (is_close a m) (λ xs. item.Close k l 0 ∷ without_first xs) v.stacks at.others at.stack (item.Compute k l true read true) at.below (item.Close k l 0 ∷ at.below) at.stacks_are at.items_are refl in let f = bump_is (is_close a m (item.Close k l 0)) (count (is_close a m) at.below) in omega (arith, q, f);
}
