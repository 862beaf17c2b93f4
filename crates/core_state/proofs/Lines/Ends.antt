-- Which jobs each event ends: that of its first item by what becomes of it, and then computings whose closing has come past its last word, as what is finished goes.
use Rattle.std.proofs.Common.{◌≡◌, ◌⊎◌, ℕ, ◌-◌, ◌<◌, ◌≤◌, Bool, true, false, cond, nat_lt, eqb, ◌&&◌, List, [], ◌∷◌, ⊎_elim, inl, inr, arith, refl, ap, sym, ◌∙◌, subst}
use mathlib.Core.Option.{Option, some, none}
use Rattle.core_state.specs.Graph.{Graph, Plan, Setting}
use Rattle.core_state.specs.Words.{mark_of, life_of}
use Rattle.core_state.specs.Counts.{hit, count, ended}
use Rattle.core_state.specs.Tests.{carries, is_ended, is_close_from}
use Rattle.core_state.specs.Views.{is_finished, ends_with, ends_finished, none_left, top_items, strike_next, strike_done, learn, change_top}
use Rattle.core_state.specs.Effects.{has_idle, without_idle, skipped_items, moved_ended, ends_top, loaded_ended, read_ended, is_good, claim_of, after_claim, registered_of, after_register, told_of, after_spend, closing_of, after_close, elected_of, after_elect, hitting_of, after_strike_descriptor, after_strike_notify}
use Rattle.core_state.specs.Events.{Event, raw, after}
use Rattle.core_state.specs.Events.Event.{claim, look, load_descriptor, load_notify, load_recovery, load_pending, load_stop, register, spend, close, elect, renew_notify, renew_descriptor, finish, strike_descriptor, strike_notify, post, take, buy, drop_credit, take_turn, give_read, give_written, give_struck, halt}
use Rattle.core_state.specs.Lines.{Line, of, credit, onto, flat, counted, settled_ended, first_ended}
use Rattle.core_state.specs.Outcome.{lines_left, ended_left, registered_ended, closed_ended}
use Rattle.graph_model.specs.declared.plan.Point.TheVariants as point
use Rattle.core_state.specs.declared.block.BlockCells.{BlockCells}
use Rattle.core_state.specs.declared.answers.Claim.{Claim}
use Rattle.core_state.specs.declared.answers.Claim.TheVariants as claimed
use Rattle.core_state.specs.declared.answers.Registered.{Registered}
use Rattle.core_state.specs.declared.answers.Registered.TheVariants as registered
use Rattle.core_state.specs.declared.answers.Told.{Told}
use Rattle.core_state.specs.declared.answers.Told.TheVariants as told
use Rattle.core_state.specs.declared.answers.Closing.{Closing}
use Rattle.core_state.specs.declared.answers.Closing.TheVariants as closing
use Rattle.core_state.specs.declared.answers.Elected.{Elected}
use Rattle.core_state.specs.declared.answers.Elected.TheVariants as elected
use Rattle.core_state.specs.declared.answers.Hitting.{Hitting}
use Rattle.core_state.specs.declared.answers.Hitting.TheVariants as hitting
use Rattle.core_state.specs.declared.job.Job.{Job}
use Rattle.core_state.specs.declared.job.Job.TheVariants as job
use Rattle.core_state.specs.declared.views.Ended.{Ended}
use Rattle.core_state.specs.declared.views.Item.{Item}
use Rattle.core_state.specs.declared.views.Item.TheVariants as item
use Rattle.core_state.specs.declared.views.Known.TheVariants as known
use Rattle.core_state.specs.declared.views.Stack.{Stack}
use Rattle.core_state.specs.declared.views.View.{View}
use Rattle.core_state.proofs.Base.Counting.{bump_is, two_tells}
use Rattle.core_state.proofs.Lines.Leaves.{HasLine, pushes, raw_lines}
use Rattle.core_state.proofs.Settle.View.{ends_carry, one_leaves}

-- a change of the jobs that have ended which reads the first item alone, and ends its job or none
record FromFirst (f : List Item → List Ended → List Ended) : Type 0 where
  first : (x : Item) (xs : List Item) (es : List Ended) → f (x ∷ xs) es ≡ f (x ∷ []) es
  nothing : (es : List Ended) → f [] es ≡ es
  its_job : (x : Item) (es : List Ended) → (f (x ∷ []) es ≡ es) ⊎ (f (x ∷ []) es ≡ ends_with x es)

moved_first : (g : Graph) → FromFirst (moved_ended g)
moved_first g = record { first = first; nothing = λ es. refl; its_job = its_job }
  where
    first : (x : Item) (xs : List Item) (es : List Ended) → moved_ended g (x ∷ xs) es ≡ moved_ended g (x ∷ []) es
    first (item.Explore k l j) xs es = refl
    first (item.Compute k l a b d) xs es = refl
    first (item.Close k l w) xs es = refl
    first (item.Notify k l w qs) xs es = refl
    first (item.Suspect k l c w) xs es = refl
    first (item.Renew k l d) xs es = refl
    first (item.Reenter k l qs) xs es = refl
    first (item.Owe k j l) xs es = refl

    its_job : (x : Item) (es : List Ended) → (moved_ended g (x ∷ []) es ≡ es) ⊎ (moved_ended g (x ∷ []) es ≡ ends_with x es)
    its_job (item.Explore k l j) es = by (nat_lt j (g.places k))
      where
        by : (b : Bool) → (cond b es (record { job = job.Explore; key = k; life = l } ∷ es) ≡ es) ⊎ (cond b es (record { job = job.Explore; key = k; life = l } ∷ es) ≡ record { job = job.Explore; key = k; life = l } ∷ es)
        by true = inl refl
        by false = inr refl
    its_job (item.Compute k l a b d) es = inl refl
    its_job (item.Close k l w) es = inl refl
    its_job (item.Notify k l w qs) es = inl refl
    its_job (item.Suspect k l c w) es = inl refl
    its_job (item.Renew k l d) es = inl refl
    its_job (item.Reenter k l qs) es = inl refl
    its_job (item.Owe k j l) es = inl refl

top_first : FromFirst ends_top
top_first = record { first = λ x xs es. refl; nothing = λ es. refl; its_job = λ x es. inr refl }

loaded_first : (g : Graph) (p : Plan) (made : List ℕ) (k n : ℕ) → FromFirst (loaded_ended g p made k n)
loaded_first g p made k n = record { first = first; nothing = λ es. refl; its_job = its_job }
  where
    first : (x : Item) (xs : List Item) (es : List Ended) → loaded_ended g p made k n (x ∷ xs) es ≡ loaded_ended g p made k n (x ∷ []) es
    first (item.Explore m l j) xs es = refl
    first (item.Compute m l false b d) xs es = refl
    first (item.Compute m l true b d) xs es = refl
    first (item.Close m l w) xs es = refl
    first (item.Notify m l w qs) xs es = refl
    first (item.Suspect m l c w) xs es = refl
    first (item.Renew m l d) xs es = refl
    first (item.Reenter m l qs) xs es = refl
    first (item.Owe m j l) xs es = refl

    its_job : (x : Item) (es : List Ended) → (loaded_ended g p made k n (x ∷ []) es ≡ es) ⊎ (loaded_ended g p made k n (x ∷ []) es ≡ ends_with x es)
    its_job (item.Compute m l false b d) es = by (eqb k m && none_left g p point.Ready m l made) (eqb (mark_of n) 0 && eqb (life_of n) l)
      where
        by : (a c : Bool) → (cond a (cond c es (record { job = job.Compute; key = m; life = l } ∷ es)) es ≡ es) ⊎ (cond a (cond c es (record { job = job.Compute; key = m; life = l } ∷ es)) es ≡ record { job = job.Compute; key = m; life = l } ∷ es)
        by true true = inl refl
        by true false = inr refl
        by false c = inl refl
    its_job (item.Compute m l true b d) es = inl refl
    its_job (item.Explore m l j) es = inl refl
    its_job (item.Close m l w) es = inl refl
    its_job (item.Notify m l w qs) es = inl refl
    its_job (item.Suspect m l c w) es = inl refl
    its_job (item.Renew m l d) es = inl refl
    its_job (item.Reenter m l qs) es = inl refl
    its_job (item.Owe m j l) es = inl refl

read_first : (g : Graph) (b : ℕ) (x : BlockCells) → FromFirst (read_ended g b x)
read_first g b held = record { first = first; nothing = λ es. refl; its_job = its_job }
  where
    first : (x : Item) (xs : List Item) (es : List Ended) → read_ended g b held (x ∷ xs) es ≡ read_ended g b held (x ∷ []) es
    first (item.Explore m l j) xs es = refl
    first (item.Compute m l true c d) xs es = refl
    first (item.Compute m l false c d) xs es = refl
    first (item.Close m l w) xs es = refl
    first (item.Notify m l w qs) xs es = refl
    first (item.Suspect m l c w) xs es = refl
    first (item.Renew m l d) xs es = refl
    first (item.Reenter m l qs) xs es = refl
    first (item.Owe m j l) xs es = refl

    its_job : (x : Item) (es : List Ended) → (read_ended g b held (x ∷ []) es ≡ es) ⊎ (read_ended g b held (x ∷ []) es ≡ ends_with x es)
    its_job (item.Compute m l true read d) es = by (nat_lt read (g.inputs m) && eqb b (g.block (g.pred m read).task)) (is_good (g.version (g.pred m read).task) held)
      where
        by : (a c : Bool) → (cond a (cond c es (record { job = job.Compute; key = m; life = l } ∷ es)) es ≡ es) ⊎ (cond a (cond c es (record { job = job.Compute; key = m; life = l } ∷ es)) es ≡ record { job = job.Compute; key = m; life = l } ∷ es)
        by true true = inl refl
        by true false = inr refl
        by false c = inl refl
    its_job (item.Compute m l false read d) es = inl refl
    its_job (item.Explore m l j) es = inl refl
    its_job (item.Close m l w) es = inl refl
    its_job (item.Notify m l w qs) es = inl refl
    its_job (item.Suspect m l c w) es = inl refl
    its_job (item.Renew m l d) es = inl refl
    its_job (item.Reenter m l qs) es = inl refl
    its_job (item.Owe m j l) es = inl refl

module _ (f : List Item → List Ended → List Ended) (one : FromFirst f) where
  -- the topmost item is the first line
  by_lines : (ss : List Stack) (es : List Ended) → f (top_items ss) es ≡ first_ended f (flat ss) es
  by_lines [] es = refl
  by_lines (s ∷ ss) es = by s.items
    where
      by : (xs : List Item) → f xs es ≡ first_ended f (onto xs (credit ∷ flat ss)) es
      by [] = refl
      by (x ∷ xs) = one.first x xs es

-- no job has ended by what becomes of the first line, or that of its item
abbrev pub FirstEnds : List Line → List Ended → List Ended → Type 0
FirstEnds ls es new = (new ≡ es) ⊎ ((x : Item) × (b : List Line) × (ls ≡ of x ∷ b) × (new ≡ ends_with x es))

ends_one : (f : List Item → List Ended → List Ended) → FromFirst f → (ls : List Line) (es : List Ended) → FirstEnds ls es (first_ended f ls es)
ends_one f one [] es = inl (one.nothing es)
ends_one f one (credit ∷ b) es = inl (one.nothing es)
ends_one f one (of x ∷ b) es = ⊎_elim (λ q. inl q) (λ q. inr (x, b, refl, q)) (one.its_job x es)

hit_ended : (o : Option ℕ) (v : View) → (strike_done o v).ended ≡ v.ended
hit_ended none v = refl
hit_ended (some n) v = refl

-- the finished items of the last stack are the first lines
ends_on : (g : Graph) (p : Plan) (made : List ℕ) (b : List Line) (xs : List Item) (es : List Ended) → ends_finished g p made xs es ≡ settled_ended g p made (onto xs (credit ∷ b)) es
ends_on g p made b [] es = refl
ends_on g p made b (x ∷ xs) es = ap (λ z. cond (is_finished g p made x) z es) (ends_on g p made b xs (ends_with x es))

ends_flat : (g : Graph) (p : Plan) (made : List ℕ) (ss : List Stack) (es : List Ended) → ends_finished g p made (top_items ss) es ≡ settled_ended g p made (flat ss) es
ends_flat g p made [] es = refl
ends_flat g p made (s ∷ ss) es = ends_on g p made (flat ss) s.items es

module _ (e : Setting) where
  raw_ended : (x : Event) (n : ℕ) (v : View) → (raw e x n v).ended ≡ ended_left e x n v
  raw_ended (claim r k) n v = by (claim_of k n)
    where
      by : (c : Claim) → (after_claim r k c v).ended ≡ v.ended
      by claimed.Made = refl
      by claimed.Found = refl
      by (claimed.Other key) = refl
  raw_ended (look r) n v = by (eqb n 0)
    where
      by : (b : Bool) → (cond b (change_top (skipped_items e.graph e.shape.rows r v.known) v) (learn (known.Row r (n - 1)) v)).ended ≡ v.ended
      by true = refl
      by false = refl
  raw_ended (load_descriptor r k) n v = by_lines (loaded_ended e.graph e.plan v.strikes k n) (loaded_first e.graph e.plan v.strikes k n) v.stacks v.ended
  raw_ended (load_notify r k w) n v = refl
  raw_ended (load_recovery r k) n v = refl
  raw_ended load_pending n v = refl
  raw_ended load_stop n v = refl
  raw_ended (register r p q) n v = by (registered_of n)
    where
      by : (x : Registered) → (after_register e.graph p q n x v).ended ≡ registered_ended x (first_ended (moved_ended e.graph) (flat v.stacks) v.ended) v.ended
      by (registered.Waiting m) = by_lines (moved_ended e.graph) (moved_first e.graph) v.stacks v.ended
      by (registered.Closed m) = refl
      by (registered.Struck m) = refl
  raw_ended (spend r k j) n v = by (told_of (e.graph.places k) j n)
    where
      by : (t : Told) → (after_spend e.graph k j n t v).ended ≡ first_ended (moved_ended e.graph) (flat v.stacks) v.ended
      by (told.Spent l) = by_lines (moved_ended e.graph) (moved_first e.graph) v.stacks v.ended
      by (told.Last l) = by_lines (moved_ended e.graph) (moved_first e.graph) v.stacks v.ended
      by (told.Already l) = by_lines (moved_ended e.graph) (moved_first e.graph) v.stacks v.ended
      by (told.Struck l) = by_lines (moved_ended e.graph) (moved_first e.graph) v.stacks v.ended
  raw_ended (close r k l w m) n v = by (closing_of l m n)
    where
      by : (c : Closing) → (after_close k l w n c v).ended ≡ closed_ended c (first_ended ends_top (flat v.stacks) v.ended) v.ended
      by (closing.Edges ports) = refl
      by (closing.Stale y) = by_lines ends_top top_first v.stacks v.ended
      by (closing.Struck y) = by_lines ends_top top_first v.stacks v.ended
      by (closing.Moved y) = refl
  raw_ended (elect r k l c waits) n v = by (elected_of l n)
    where
      by : (x : Elected) → (after_elect k l c waits n x v).ended ≡ v.ended
      by elected.Yes = refl
      by (elected.Replaced m) = refl
      by (elected.Renewing m) = refl
  raw_ended (renew_notify r k l w) n v = refl
  raw_ended (renew_descriptor r k l) n v = refl
  raw_ended (finish r k l) n v = refl
  raw_ended (strike_descriptor r k l) n v = by (hitting_of n)
    where
      by : (x : Hitting) → (after_strike_descriptor e.graph e.plan k n x v).ended ≡ v.ended
      by (hitting.Landed m) = hit_ended (strike_next e.graph e.plan v) v
      by (hitting.Missed m) = hit_ended (strike_next e.graph e.plan v) v
  raw_ended (strike_notify r k l w) n v = by (hitting_of n)
    where
      by : (x : Hitting) → (after_strike_notify e.graph e.plan k w n x v).ended ≡ v.ended
      by (hitting.Landed m) = hit_ended (strike_next e.graph e.plan v) v
      by (hitting.Missed m) = hit_ended (strike_next e.graph e.plan v) v
  raw_ended (post r i k l) n v = refl
  raw_ended (take r i k) n v = refl
  raw_ended buy n v = refl
  raw_ended drop_credit n v = by (has_idle v.stacks)
    where
      by : (b : Bool) → (cond b (record v { stacks = without_idle v.stacks }) (record v { spare = v.spare - 1 })).ended ≡ v.ended
      by true = refl
      by false = refl
  raw_ended (take_turn b was) n v = by (eqb n 0)
    where
      by : (c : Bool) → (cond c (record v { hands = record { block = b; held = was } ∷ v.hands }) v).ended ≡ v.ended
      by true = refl
      by false = refl
  raw_ended (give_read b was) n v = by_lines (read_ended e.graph b was) (read_first e.graph b was) v.stacks v.ended
  raw_ended (give_written k l b was now) n v = refl
  raw_ended (give_struck k l b was now) n v = hit_ended (strike_next e.graph e.plan v) v
  raw_ended halt n v = refl

  -- the jobs that have ended, once what is finished has gone
  pub ended_settled : (x : Event) (n : ℕ) (v w : View) → (pushes x ≡ true → HasLine v) → w ≡ after e x n v → w.ended ≡ settled_ended e.graph e.plan w.strikes (lines_left e x n v (flat v.stacks)) (ended_left e x n v)
  ended_settled x n v w h is = subst (λ (u : View). u.ended ≡ settled_ended e.graph e.plan u.strikes (lines_left e x n v (flat v.stacks)) (ended_left e x n v)) (sym is)
      (ends_flat e.graph e.plan (raw e x n v).strikes (raw e x n v).stacks (raw e x n v).ended
      ∙ ap (λ z. settled_ended e.graph e.plan (raw e x n v).strikes z (raw e x n v).ended) (raw_lines e x n v h)
      ∙ ap (settled_ended e.graph e.plan (raw e x n v).strikes (lines_left e x n v (flat v.stacks))) (raw_ended x n v))

  -- before that, an event ends no job or that of its first item
  pub ended_first : (x : Event) (n : ℕ) (v : View) → FirstEnds (flat v.stacks) v.ended (ended_left e x n v)
  ended_first (claim r k) n v = inl refl
  ended_first (look r) n v = inl refl
  ended_first (load_descriptor r k) n v = ends_one (loaded_ended e.graph e.plan v.strikes k n) (loaded_first e.graph e.plan v.strikes k n) (flat v.stacks) v.ended
  ended_first (load_notify r k w) n v = inl refl
  ended_first (load_recovery r k) n v = inl refl
  ended_first load_pending n v = inl refl
  ended_first load_stop n v = inl refl
  ended_first (register r p q) n v = by (registered_of n)
    where
      by : (x : Registered) → FirstEnds (flat v.stacks) v.ended (registered_ended x (first_ended (moved_ended e.graph) (flat v.stacks) v.ended) v.ended)
      by (registered.Waiting m) = ends_one (moved_ended e.graph) (moved_first e.graph) (flat v.stacks) v.ended
      by (registered.Closed m) = inl refl
      by (registered.Struck m) = inl refl
  ended_first (spend r k j) n v = ends_one (moved_ended e.graph) (moved_first e.graph) (flat v.stacks) v.ended
  ended_first (close r k l w m) n v = by (closing_of l m n)
    where
      by : (c : Closing) → FirstEnds (flat v.stacks) v.ended (closed_ended c (first_ended ends_top (flat v.stacks) v.ended) v.ended)
      by (closing.Edges ports) = inl refl
      by (closing.Stale y) = ends_one ends_top top_first (flat v.stacks) v.ended
      by (closing.Struck y) = ends_one ends_top top_first (flat v.stacks) v.ended
      by (closing.Moved y) = inl refl
  ended_first (elect r k l c waits) n v = inl refl
  ended_first (renew_notify r k l w) n v = inl refl
  ended_first (renew_descriptor r k l) n v = inl refl
  ended_first (finish r k l) n v = inl refl
  ended_first (strike_descriptor r k l) n v = inl refl
  ended_first (strike_notify r k l w) n v = inl refl
  ended_first (post r i k l) n v = inl refl
  ended_first (take r i k) n v = inl refl
  ended_first buy n v = inl refl
  ended_first drop_credit n v = inl refl
  ended_first (take_turn b was) n v = inl refl
  ended_first (give_read b was) n v = ends_one (read_ended e.graph b was) (read_first e.graph b was) (flat v.stacks) v.ended
  ended_first (give_written k l b was now) n v = inl refl
  ended_first (give_struck k l b was now) n v = inl refl
  ended_first halt n v = inl refl

-- What goes as finished ends computings alone.
module _ (g : Graph) (p : Plan) (made : List ℕ) where
  -- the job is a computing, and among the lines its closing has come past its last word with no strike left
  pub record ClosedAll (i : Job) (k l : ℕ) (ls : List Line) : Type 0 where
    pub computing : i ≡ job.Compute
    pub word : ℕ
    pub past : g.notify_words k ≤ word
    pub among : 0 < counted (is_close_from k l word) ls
    pub none_is_left : none_left g p point.Notified k l made ≡ true

  -- a finished item that carries the job
  record Carried (i : Job) (k l : ℕ) (x : Item) : Type 0 where
    computing : i ≡ job.Compute
    word : ℕ
    past : g.notify_words k ≤ word
    is_it : is_close_from k l word x ≡ true
    none_is_left : none_left g p point.Notified k l made ≡ true

  -- what is finished of a closing has no strike left
  none_still : (a b : Bool) → cond a false b ≡ true → b ≡ true
  none_still true b is = absurd cc
  none_still false b is = is

  carried : (i : Job) (k l : ℕ) (x : Item) → is_finished g p made x ≡ true → (carries i k l x ≡ false) ⊎ Carried i k l x
  carried job.Explore k l (item.Explore a b d) is = absurd cc
  carried job.Explore k l (item.Compute a b d f h) is = inl refl
  carried job.Explore k l (item.Close a b w) is = inl refl
  carried job.Explore k l (item.Notify a b w qs) is = inl refl
  carried job.Explore k l (item.Suspect a b d f) is = inl refl
  carried job.Explore k l (item.Renew a b d) is = inl refl
  carried job.Explore k l (item.Reenter a b qs) is = inl refl
  carried job.Explore k l (item.Owe a b d) is = inl refl
  carried job.Compute k l (item.Close a b w) is = ⊎_elim (λ q. inl q)
      (λ q. ⊎_elim (λ z. inl z) (λ z. inr (record {
        computing = refl;
        word = q.0;
        past = q.1;
        is_it = q.2;
        none_is_left = subst (λ o. none_left g p point.Notified o l made ≡ true) (sym z.1) (subst (λ o. none_left g p point.Notified a o made ≡ true) (sym z.2) (none_still (nat_lt w (g.notify_words a)) (none_left g p point.Notified a b made) is));
      })) (two_tells k l a b))
      (one_leaves g p made k l (item.Close a b w) is)
  carried job.Compute k l (item.Explore a b d) is = inl refl
  carried job.Compute k l (item.Compute a b d f h) is = absurd cc
  carried job.Compute k l (item.Notify a b w qs) is = inl refl
  carried job.Compute k l (item.Suspect a b d f) is = inl refl
  carried job.Compute k l (item.Renew a b d) is = inl refl
  carried job.Compute k l (item.Reenter a b qs) is = inl refl
  carried job.Compute k l (item.Owe a b d) is = inl refl

  -- each job has ended as often as before, or it is a computing that has closed all its words
  pub settled_ends : (i : Job) (k l : ℕ) (ls : List Line) (es : List Ended) → (count (is_ended i k l) (settled_ended g p made ls es) ≡ count (is_ended i k l) es) ⊎ ClosedAll i k l ls
  settled_ends i k l [] es = inl refl
  settled_ends i k l (credit ∷ b) es = inl refl
  settled_ends i k l (of x ∷ b) es = by (settled_ends i k l b (ends_with x es)) (is_finished g p made x) refl
    where
      lifted : ClosedAll i k l b → ClosedAll i k l (of x ∷ b)
      lifted c = record { computing = c.computing; word = c.word; past = c.past; among = let a = bump_is (is_close_from k l c.word x) (counted (is_close_from k l c.word) b) in let d = c.among in omega (arith, a, d); none_is_left = c.none_is_left }

      here : Carried i k l x → ClosedAll i k l (of x ∷ b)
      here c = record { computing = c.computing; word = c.word; past = c.past; among = let a = bump_is (is_close_from k l c.word x) (counted (is_close_from k l c.word) b) in let d = ap hit c.is_it in omega (arith, a, d); none_is_left = c.none_is_left }

      by : (count (is_ended i k l) (settled_ended g p made b (ends_with x es)) ≡ count (is_ended i k l) (ends_with x es)) ⊎ ClosedAll i k l b → (f : Bool) → is_finished g p made x ≡ f → (count (is_ended i k l) (cond f (settled_ended g p made b (ends_with x es)) es) ≡ count (is_ended i k l) es) ⊎ ClosedAll i k l (of x ∷ b)
      by below false is = inl refl
      by below true is = ⊎_elim (λ q. ⊎_elim (λ z. inl (let a = ends_carry g p made i k l x es in let d = ap hit q in omega (arith, a, d, z))) (λ z. inr (lifted z)) below) (λ q. inr (here q)) (carried i k l x is)

  -- no job that had ended is lost
  pub settled_keeps : (i : Job) (k l : ℕ) (ls : List Line) (es : List Ended) → count (is_ended i k l) es ≤ count (is_ended i k l) (settled_ended g p made ls es)
  settled_keeps i k l [] es = omega arith
  settled_keeps i k l (credit ∷ b) es = omega arith
  settled_keeps i k l (of x ∷ b) es = by (settled_keeps i k l b (ends_with x es)) (is_finished g p made x)
    where
      by : count (is_ended i k l) (ends_with x es) ≤ count (is_ended i k l) (settled_ended g p made b (ends_with x es)) → (f : Bool) → count (is_ended i k l) es ≤ count (is_ended i k l) (cond f (settled_ended g p made b (ends_with x es)) es)
      by below false = omega arith
      by below true = let a = ends_carry g p made i k l x es in omega (arith, a, below)

module _ (e : Setting) (x : Event) (n : ℕ) (v w : View) (line : pushes x ≡ true → HasLine v) (is : w ≡ after e x n v) where
  -- an event that by itself ends no job ends no job but computings that have closed all their words
  pub ended_kept : ended_left e x n v ≡ v.ended → (i : Job) (k l : ℕ) → (ended i k l w ≡ ended i k l v) ⊎ ClosedAll e.graph e.plan w.strikes i k l (lines_left e x n v (flat v.stacks))
  ended_kept by_itself i k l = ⊎_elim (λ q. inl (ap (count (is_ended i k l)) (ended_settled e x n v w line is) ∙ q ∙ ap (count (is_ended i k l)) by_itself)) (λ q. inr q)
      (settled_ends e.graph e.plan w.strikes i k l (lines_left e x n v (flat v.stacks)) (ended_left e x n v))

  -- no job that had ended is lost
  pub ended_grows : (i : Job) (k l : ℕ) → ended i k l v ≤ ended i k l w
  ended_grows i k l = let a = ap (count (is_ended i k l)) (ended_settled e x n v w line is) in let b = settled_keeps e.graph e.plan w.strikes i k l (lines_left e x n v (flat v.stacks)) (ended_left e x n v) in
      ⊎_elim (λ q. let d = ap (count (is_ended i k l)) q in omega (arith, a, b, d)) (λ q. let d = ap (count (is_ended i k l)) q.3 in let f = ends_carry e.graph e.plan w.strikes i k l q.0 v.ended in omega (arith, a, b, d, f)) (ended_first e x n v)
