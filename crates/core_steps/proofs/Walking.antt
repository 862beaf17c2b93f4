-- What a walk of claims along a key's path leaves of the view of its seat: only the last claim can have made the row.
use Rattle.std.proofs.Common.{◌≡◌, ◌≢◌, ℕ, zero, suc, ◌+◌, ◌-◌, ◌<◌, ◌≤◌, Bool, true, false, cond, eqb, ne_eqb, List, [], ◌∷◌, arith, sym, ap, refl, ◌∙◌, subst, Option, Some, None}
use Rattle.core_state.specs.Graph.{Setting}
use Rattle.core_state.specs.Counts.{word_in}
use Rattle.core_state.specs.Guards.{AtWork}
use Rattle.core_state.specs.Effects.{after_claim}
use Rattle.core_state.specs.Events.{after}
use Rattle.core_state.specs.Events.Event.{claim}
use Rattle.core_state.specs.Views.{settle, is_finished, unfinished, ends_finished, ends_with, on_top, top_items, push, note, learn, key_of}
use Rattle.core_state.specs.declared.answers.Claim.TheVariants as claimed_as
use Rattle.core_state.specs.declared.job.Job.TheVariants.{Explore}
use Rattle.core_state.specs.declared.views.Item.{Item}
use Rattle.core_state.specs.declared.views.Item.TheVariants as item
use Rattle.core_state.specs.declared.views.Known.{Known}
use Rattle.core_state.specs.declared.views.Known.TheVariants as known_as
use Rattle.core_state.specs.declared.views.Stack.{Stack}
use Rattle.core_state.specs.declared.views.View.{View}
use Rattle.core_state.proofs.Base.Counting.{eqb_here}
use Rattle.graph_model.specs.declared.record.Record.TheVariants as record_of
use Rattle.key_table.specs.Path.{path_row}
use Rattle.key_table.specs.Rules.{HasRules}
use Rattle.key_table.specs.Walk.{Walked, IsWalk}
use Rattle.key_table.proofs.Paths.{path_row-injective}
use Rattle.core_steps.specs.Seat.{known_of, key_in, key_event}
use Rattle.core_steps.specs.Table.{Sitting, IsSeatStep, view_at}
use Rattle.core_steps.proofs.Telling.{key_in-suc}

-- the view with other facts
abbrev pub knowing : List Known → View → View
knowing ks v = record v { known = ks }

-- the view that has made the row of a key, and owes its exploring
abbrev pub made_row : ℕ → View → View
made_row k v = push (item.Owe k Explore 1) (note (record_of.Created (key_of k)) v)

-- nothing is finished on top
abbrev pub IsSettled : Setting → View → Type 0
IsSettled e v = settle e.graph e.plan v ≡ v

-- a view is settled where the item at work is not finished
pub settled_at : (e : Setting) (v : View) (x : Item) → is_finished e.graph e.plan v.strikes x ≡ false → AtWork v x → IsSettled e v
settled_at e v x left work = ap (λ ss. record v { stacks = ss; ended = ends_finished e.graph e.plan v.strikes (top_items v.stacks) v.ended }) stacks ∙ ap (λ es. record v { ended = es }) ended
  where
    stays : unfinished e.graph e.plan v.strikes work.stack.items ≡ work.stack.items
    stays = ap (unfinished e.graph e.plan v.strikes) work.items_are ∙ ap (λ (b : Bool). cond b (unfinished e.graph e.plan v.strikes work.below) (x ∷ work.below)) left ∙ sym work.items_are

    stacks : on_top (unfinished e.graph e.plan v.strikes) v.stacks ≡ v.stacks
    stacks = ap (on_top (unfinished e.graph e.plan v.strikes)) work.stacks_are ∙ ap (λ xs. record work.stack { items = xs } ∷ work.others) stays ∙ sym work.stacks_are

    ended : ends_finished e.graph e.plan v.strikes (top_items v.stacks) v.ended ≡ v.ended
    ended = ap (λ ss. ends_finished e.graph e.plan v.strikes (top_items ss) v.ended) work.stacks_are ∙ ap (λ xs. ends_finished e.graph e.plan v.strikes xs v.ended) work.items_are
        ∙ ap (λ (b : Bool). cond b (ends_finished e.graph e.plan v.strikes work.below (ends_with x v.ended)) v.ended) left

-- the view that made a row has to post its exploring
pub owes : (k : ℕ) (ks : List Known) (v w : View) (x : Item) → w ≡ made_row k (knowing ks v) → AtWork v x → AtWork w (item.Owe k Explore 1)
owes k ks v w x is work = record {
  stack = record work.stack { items = item.Owe k Explore 1 ∷ work.stack.items };
  others = work.others;
  below = work.stack.items;
  stacks_are = ap (λ (u : View). u.stacks) is ∙ ap (on_top (λ xs. item.Owe k Explore 1 ∷ xs)) work.stacks_are;
  items_are = refl;
}

-- other facts change nothing at work
pub still_at_work : (ks : List Known) (v w : View) (x : Item) → w ≡ knowing ks v → AtWork v x → AtWork w x
still_at_work ks v w x is work = record { stack = work.stack; others = work.others; below = work.below; stacks_are = ap (λ (u : View). u.stacks) is ∙ work.stacks_are; items_are = work.items_are }

-- the key of a row after a claim that found the number n
key_met : ℕ → ℕ → ℕ
key_met k n = cond (eqb n 0) k (cond (eqb n (k + 1)) k (n - 1))

claim_known : (e : Setting) (row k n : ℕ) (v : View) → (after e (claim row k) n v).known ≡ known_as.Row row (key_met k n) ∷ v.known
unfolding key_met
claim_known e row k n v = by (eqb n 0) (eqb n (k + 1))
  where
    by : (b c : Bool) → (settle e.graph e.plan (after_claim row k (cond b claimed_as.Made (cond c claimed_as.Found (claimed_as.Other (key_of (n - 1))))) v)).known ≡ known_as.Row row (cond b k (cond c k (n - 1))) ∷ v.known
    by true c = refl
    by false true = refl
    by false false = refl

-- a claim that met a key leaves nothing else
met_leaves : (e : Setting) (row k n : ℕ) (v : View) → IsSettled e v → n ≢ 0 → after e (claim row k) n v ≡ knowing (after e (claim row k) n v).known v
met_leaves e row k n v settled full = by (eqb n 0) (eqb n (k + 1)) (ne_eqb n 0 full)
  where
    told : (b c : Bool) → View
    told b c = settle e.graph e.plan (after_claim row k (cond b claimed_as.Made (cond c claimed_as.Found (claimed_as.Other (key_of (n - 1))))) v)

    by : (b c : Bool) → b ≡ false → told b c ≡ knowing (told b c).known v
    by true c z = absurd cc
    by false true z = ap (learn (known_as.Row row k)) settled
    by false false z = ap (learn (known_as.Row row (n - 1))) settled

-- a claim that made the row
made_leaves : (e : Setting) (row k : ℕ) (v : View) → after e (claim row k) 0 v ≡ made_row k (knowing (after e (claim row k) 0 v).known v)
made_leaves e row k v = by v.stacks
  where
    by : (ss : List Stack) → after e (claim row k) 0 (record v { stacks = ss }) ≡ made_row k (knowing (known_as.Row row k ∷ v.known) (record v { stacks = ss }))
    by [] = refl
    by (s ∷ ss) = refl

-- what is known of the row of a claim, and of other rows
known_else : (e : Setting) (row k n x : ℕ) (v : View) → x ≢ row → known_of (after e (claim row k) n v) x ≡ known_of v x
known_else e row k n x v ne = ap (λ ks. key_in (word_in x ks)) (claim_known e row k n v) ∙ ap (λ (b : Bool). key_in (cond b (key_met k n + 1) (word_in x v.known))) (ne_eqb x row ne)

known_made : (e : Setting) (row k : ℕ) (v : View) → known_of (after e (claim row k) 0 v) row ≡ Some k
unfolding key_met
known_made e row k v = ap (λ ks. key_in (word_in row ks)) (claim_known e row k 0 v) ∙ key_in-suc (cond (eqb row row) (k + 1) (word_in row v.known)) k (ap (λ (b : Bool). cond b (k + 1) (word_in row v.known)) (eqb_here row))

-- what a walk leaves as it was: what is fixed for the table of a seat, what the seat borrows, what the other seats know and hold
pub record StaysPut {S : Type 0} (setting : S → Setting) (lender : S → List ℕ) (others : S → List View) (s t : S) : Type 0 where
  pub same_setting : setting t ≡ setting s
  pub same_lender : lender t ≡ lender s
  pub same_others : others t ≡ others s

module _ {S : Type 0} (did : S → ℕ → Option ℕ → S → Type 0) (setting : S → Setting) (lender : S → List ℕ) (others : S → List View) (stays : (s t : S) (row : ℕ) (claimed : Option ℕ) → did s row claimed t → StaysPut setting lender others s t) (k rows : ℕ) (claimed : Option ℕ) where
  same_upto : (n : ℕ) (s t : S) → Walked did k rows claimed n s t → StaysPut setting lender others s t
  same_upto zero s t same = record { same_setting = ap setting (sym same); same_lender = ap lender (sym same); same_others = ap others (sym same) }
  same_upto (suc n) s t w = let a = same_upto n s w.0 w.1 in let b = stays w.0 t (path_row k rows n) claimed w.2 in
      record { same_setting = b.same_setting ∙ a.same_setting; same_lender = b.same_lender ∙ a.same_lender; same_others = b.same_others ∙ a.same_others }

  -- a walk changes nothing of the table that no step changes
  pub walk_table : (made : S → ℕ) (s t : S) → IsWalk did made k rows claimed s t → StaysPut setting lender others s t
  walk_table made s t w = same_upto w.count s t w.steps

-- what a claim or a look of a seat tells of its view and of what it notes
pub seat_key : (e : Setting) (row : ℕ) (claimed : Option ℕ) (s t : Sitting) → IsSeatStep e (key_event row claimed) s t
    → (view_at t.table t.worker ≡ after e (key_event row claimed) t.steps.last.1 (view_at s.table s.worker)) × (t.steps.last.0 ≡ row)
seat_key e row None s t step = (step.view_is ∙ ap (λ (o : ℕ × ℕ). after e (key_event row None) o.1 (view_at s.table s.worker)) (sym step.last_is), ap (λ (o : ℕ × ℕ). o.0) step.last_is)
seat_key e row (Some k) s t step = (step.view_is ∙ ap (λ (o : ℕ × ℕ). after e (key_event row (Some k)) o.1 (view_at s.table s.worker)) (sym step.last_is), ap (λ (o : ℕ × ℕ). o.0) step.last_is)

module _ {S : Type 0} (did : S → ℕ → Option ℕ → S → Type 0) (setting : S → Setting) (view : S → View) (last : S → ℕ × ℕ) (lender : S → List ℕ) (others : S → List View)
    (key_step : (s t : S) (row : ℕ) (claimed : Option ℕ) → did s row claimed t → (view t ≡ after (setting s) (key_event row claimed) (last t).1 (view s)) × ((last t).0 ≡ row))
    (stays : (s t : S) (row : ℕ) (claimed : Option ℕ) → did s row claimed t → StaysPut setting lender others s t) where
  module _ (k rows : ℕ) (some : 0 < rows) where
    -- the last claim of a walk, as an event on the view
    step_is : (s m t : S) (n : ℕ) → Walked did k rows (Some k) n s m → did m (path_row k rows n) (Some k) t → view t ≡ after (setting s) (claim (path_row k rows n) k) (last t).1 (view m)
    step_is s m t n w d = subst (λ e. view t ≡ after e (claim (path_row k rows n) k) (last t).1 (view m)) (same_upto did setting lender others stays k rows (Some k) n s m w).same_setting (key_step m t (path_row k rows n) (Some k) d).0

    apart : (i n : ℕ) → i < n → n < rows → path_row k rows i ≢ path_row k rows n
    apart i n less low e = let a = path_row-injective k rows i n some (omega (arith, less, low)) low e in omega (arith, a, less)

    -- one claim more that met a key
    met_more : (s m t : S) (n : ℕ) → IsSettled (setting s) (view s) → Walked did k rows (Some k) n s m → did m (path_row k rows n) (Some k) t → (last t).1 ≢ 0 → view m ≡ knowing (view m).known (view s) → view t ≡ knowing (view t).known (view s)
    met_more s m t n settled w d full before = let st = step_is s m t n w d in let row : ℕ = path_row k rows n in
        let same : IsSettled (setting s) (view m) = subst (IsSettled (setting s)) (sym before) (ap (knowing (view m).known) settled) in
        st ∙ met_leaves (setting s) row k (last t).1 (view m) same full ∙ ap (knowing (after (setting s) (claim row k) (last t).1 (view m)).known) before ∙ ap (λ (x : View). knowing x.known (view s)) (sym st)

    -- what was known of the path's rows before the last
    known_before : (s m t : S) (n i : ℕ) → i < n → n < rows → Walked did k rows (Some k) n s m → did m (path_row k rows n) (Some k) t → known_of (view t) (path_row k rows i) ≡ known_of (view m) (path_row k rows i)
    known_before s m t n i less low w d = ap (λ x. known_of x (path_row k rows i)) (step_is s m t n w d) ∙ known_else (setting s) (path_row k rows n) k (last t).1 (path_row k rows i) (view m) (apart i n less low)

    -- where no row of the path is known to be the key's, each claim met a key
    all_met : (n : ℕ) (s t : S) → n ≤ rows → IsSettled (setting s) (view s) → Walked did k rows (Some k) n s t → ((i : ℕ) → i < n → known_of (view t) (path_row k rows i) ≢ Some k) → view t ≡ knowing (view t).known (view s)
    all_met zero s t low settled same none = ap view (sym same) ∙ ap (λ x. knowing (view x).known (view s)) same
    all_met (suc n) s t low settled w none = let m = w.0 in let row : ℕ = path_row k rows n in
        met_more s m t n settled w.1 w.2
        (λ z. none n (omega arith) (ap (λ x. known_of x row) (step_is s m t n w.1 w.2) ∙ ap (λ y. known_of (after (setting s) (claim row k) y (view m)) row) z ∙ known_made (setting s) row k (view m)))
        (all_met n s m (omega (arith, low)) settled w.1 (λ i less e. none i (omega (arith, less)) (known_before s m t n i less (omega (arith, low)) w.1 w.2 ∙ e)))

    module _ (s t : S) (settled : IsSettled (setting s) (view s)) (one_row : (r o : ℕ) → known_of (view t) r ≡ Some k → known_of (view t) o ≡ Some k → r ≡ o) (here : known_of (view t) (last t).0 ≡ Some k) where
      before_last : (m : S) (n : ℕ) → n < rows → Walked did k rows (Some k) n s m → did m (path_row k rows n) (Some k) t → view m ≡ knowing (view m).known (view s)
      before_last m n low w d = all_met n s m (omega (arith, low)) settled w (λ i less e. apart i n less low (one_row (path_row k rows i) (path_row k rows n) (known_before s m t n i less low w d ∙ e) (subst (λ r. known_of (view t) r ≡ Some k) (key_step m t (path_row k rows n) (Some k) d).1 here)))

      found_upto : (n : ℕ) → n ≤ rows → Walked did k rows (Some k) n s t → (last t).1 ≢ 0 → view t ≡ knowing (view t).known (view s)
      found_upto zero low same full = ap view (sym same) ∙ ap (λ x. knowing (view x).known (view s)) same
      found_upto (suc n) low w full = met_more s w.0 t n settled w.1 w.2 full (before_last w.0 n (omega (arith, low)) w.1 w.2)

      made_upto : (n : ℕ) → n ≤ rows → Walked did k rows (Some k) n s t → (last t).1 ≡ 0 → known_of (view s) (last t).0 ≢ Some k → view t ≡ made_row k (knowing (view t).known (view s))
      made_upto zero low same empty first = absurd (first (ap (λ x. known_of (view x) (last t).0) same ∙ here))
      made_upto (suc n) low w empty first = let m = w.0 in let row : ℕ = path_row k rows n in
          let st : view t ≡ after (setting s) (claim row k) 0 (view m) = step_is s m t n w.1 w.2 ∙ ap (λ y. after (setting s) (claim row k) y (view m)) empty in
          st ∙ made_leaves (setting s) row k (view m) ∙ ap (λ x. made_row k (knowing (after (setting s) (claim row k) 0 (view m)).known x)) (before_last m n (omega (arith, low)) w.1 w.2) ∙ ap (λ (x : View). made_row k (knowing x.known (view s))) (sym st)

  -- What `find_or_make` leaves of the view, by its answer and its clauses.
  module _ (known : S → ℕ → Option ℕ) (known_is : (s : S) (row : ℕ) → known s row ≡ known_of (view s) row) (made : S → ℕ) (k rows : ℕ) (some : 0 < rows) (keys : List ℕ) (may stands : ℕ → Type 0) (s t : S) (settled : IsSettled (setting s) (view s))
      (rules : HasRules rows keys may stands (known t)) (row : ℕ) (here : known t row ≡ Some k) (last_is : (last t).0 ≡ row) (walk : IsWalk did made k rows (Some k) s t) where
    one : (r o : ℕ) → known_of (view t) r ≡ Some k → known_of (view t) o ≡ Some k → r ≡ o
    one r o a b = rules.one_row r o k (known_is t r ∙ a) (known_is t o ∙ b)

    at_last : known_of (view t) (last t).0 ≡ Some k
    at_last = sym (known_is t (last t).0) ∙ ap (known t) last_is ∙ here

    pub claims_found : (last t).1 ≡ k + 1 → view t ≡ knowing (view t).known (view s)
    claims_found full = found_upto k rows some s t settled one at_last walk.count walk.within walk.steps (λ z. omega (arith, full, z))

    pub claims_made : (last t).1 ≡ 0 → known s row ≢ Some k → view t ≡ made_row k (knowing (view t).known (view s))
    claims_made empty first = made_upto k rows some s t settled one at_last walk.count walk.within walk.steps empty (λ e. first (known_is s row ∙ ap (known_of (view s)) (sym last_is) ∙ e))
