-- Where something is pending some worker moves soon.
use Rattle.std.proofs.Common.{◌≡◌, ◌≢◌, ◌⊎◌, ℕ, zero, suc, ◌-◌, ◌<◌, ◌≤◌, Bool, true, eqb, List, [], ◌∷◌, length, Some, slice_get, ⊎_elim, inl, inr, arith, refl, sym, ap, ◌∙◌}
use mathlib.Core.Logic.{dite}
use native.Mathlib.Decide.{ℕ_discrete}
use Rattle.std.specs.List.{sum_by}
use Rattle.graph_model.specs.declared.plan.Strike.{Strike}
use Rattle.graph_model.specs.declared.record.Cause.{Cause}
use Rattle.graph_model.specs.declared.record.Cause.TheVariants as cause
use Rattle.core_state.specs.Change.{Core}
use Rattle.core_state.specs.Counts.{bump, count, in_hand, in_stacks, items, noted, spare, stack_count}
use Rattle.core_state.specs.Graph.{Setting}
use Rattle.core_state.specs.Lines.{Line, counted, credit, flat, of}
use Rattle.core_state.specs.Rows.{HasKey, HasRow}
use Rattle.core_state.specs.Tests.{is_any_struck, is_any_suspect, is_at, is_hand, is_renew}
use Rattle.core_state.specs.Words.{key, pending, posted, recovery, replacing, standing_life, turn}
use Rattle.core_state.specs.declared.job.Job.{Job}
use Rattle.core_state.specs.declared.job.Job.TheVariants as job
use Rattle.core_state.specs.declared.views.Hand.{Hand}
use Rattle.core_state.specs.declared.views.Item.{Item}
use Rattle.core_state.specs.declared.views.Item.TheVariants as line
use Rattle.core_state.specs.declared.views.View.{View}
use Rattle.core_state.proofs.Base.Counting.{bump_is, eqb_here, not_here}
use Rattle.core_state.proofs.Lines.Counts.{items_counted, top_passes}
use Rattle.compute_notify.specs.declared.task.Task.{Task}
use Rattle.run_bounds.specs.Doing.{Doing, asked_hints, fresh_hints}
use Rattle.run_bounds.specs.Doing.Doing.{asks, idle, works}
use Rattle.run_bounds.specs.Shared.{Actor, AreHeld, ArePlain, BehindPlain, IsMarked, IsQuiet, Moves, Shares, Vain, asked_of, fresh_of, hints_of, is_plain}
use Rattle.run_bounds.specs.Shared.Moves.{looks, serves, works_on}
use Rattle.run_bounds.specs.Shared.Vain.{holds, loses, plain, renews, wins}
use Rattle.run_bounds.specs.Struck.{by_mark}
use Rattle.run_bounds.proofs.Hinting.{hints_as, none_posted, unhinted}
use Rattle.run_bounds.proofs.Shared.Parts.{suspected_struck}
use Rattle.run_bounds.proofs.Lists.{member_low, none_sum, some_member}
use Rattle.run_bounds.proofs.Counting.{none_counted}
use Rattle.run_bounds.proofs.Shared.Ledger.{part_at}

-- a number below a bound of which the value isn't 0, or none
some_below : (f : ℕ → ℕ) (n : ℕ) → ((r : ℕ) × (r < n) × (0 < f r)) ⊎ ((r : ℕ) → r < n → f r ≡ 0)
some_below f zero = inr (λ r low. absurd (omega (arith, low)))
some_below f (suc n) = ⊎_elim
    (λ some. let low = some.1 in inl (some.0, omega (arith, low), some.2))
    (λ none. dite (ℕ_discrete (f n) 0) (λ z. inr (λ r low. dite (ℕ_discrete r n) (λ same. ap f same ∙ z) (λ ne. none r (omega (arith, low, ne))))) (λ ne. inl (n, omega arith, omega (arith, ne))))
    (some_below f n)

first_member : {X : Type 0} (xs : List X) → 0 < length xs → (x : X) × (slice_get xs 0 ≡ Some x)
first_member [] some = absurd (omega (arith, some))
first_member (x ∷ xs) some = (x, refl)

-- among plain lines nothing is renewed
plain_renews : (k : ℕ) (ls : List Line) → ArePlain ls → counted (is_renew k) ls ≡ 0
plain_renews k [] all = refl
plain_renews k (credit ∷ b) all = plain_renews k b all.1
plain_renews k (of x ∷ b) all = by x all.0 (plain_renews k b all.1)
  where
    by : (x : Item) → is_plain (of x) ≡ true → counted (is_renew k) b ≡ 0 → bump (is_renew k x) (counted (is_renew k) b) ≡ 0
    by (line.Renew a l d) other rest = absurd cc
    by x other rest = rest

-- a renewal stands first where all lines behind the first are plain
renewed_first : (k : ℕ) (ls : List Line) → BehindPlain ls → 0 < counted (is_renew k) ls → (l : ℕ) × (d : ℕ) × (b : List Line) × (ls ≡ of (line.Renew k l d) ∷ b)
renewed_first k [] top some = absurd (omega (arith, some))
renewed_first k (credit ∷ b) top some = absurd (let z = plain_renews k b top in omega (arith, some, z))
renewed_first k (of x ∷ b) top some = by x (plain_renews k b top) some
  where
    by : (x : Item) → counted (is_renew k) b ≡ 0 → 0 < bump (is_renew k x) (counted (is_renew k) b) → (l : ℕ) × (d : ℕ) × (c : List Line) × (of x ∷ b ≡ of (line.Renew k l d) ∷ c)
    by (line.Renew a l d) z some = dite (ℕ_discrete k a)
        (λ same. (l, d, b, ap (λ (n : ℕ). of (line.Renew n l d) ∷ b) (sym same)))
        (λ ne. absurd (let q = not_here k a ne in let c = bump_is (eqb k a) (counted (is_renew k) b) in omega (arith, z, q, c, some)))
    by x z some = absurd (omega (arith, z, some))

some_hand : (b : ℕ) (hs : List Hand) → 0 < count (is_hand b) hs → hs ≢ []
some_hand b [] some none = omega (arith, some)
some_hand b (x ∷ xs) some none = cc

-- who has a task, and who asks
abbrev working : Doing → ℕ
working (works task) = 1
working _ = 0

abbrev asking : Doing → ℕ
asking (asks row k i) = 1
asking _ = 0

working_is : (d : Doing) → 0 < working d → (task : Task) × (d ≡ works task)
working_is (works task) some = (task, refl)
working_is idle some = absurd (omega (arith, some))
working_is (asks row k i) some = absurd (omega (arith, some))

asking_is : (d : Doing) → 0 < asking d → (row : ℕ) × (k : ℕ) × (i : Job) × (d ≡ asks row k i)
asking_is (asks row k i) some = (row, k, i, refl)
asking_is idle some = absurd (omega (arith, some))
asking_is (works task) some = absurd (omega (arith, some))

idle_is : (d : Doing) → working d ≡ 0 → asking d ≡ 0 → d ≡ idle
idle_is idle a b = refl
idle_is (works task) a b = absurd (omega (arith, a))
idle_is (asks row k i) a b = absurd (omega (arith, b))

busy : {d : Doing} (task : Task) → d ≡ works task → d ≢ idle
busy task is none = cc

asking_busy : {d : Doing} (row k : ℕ) (i : Job) → d ≡ asks row k i → d ≢ idle
asking_busy row k i is none = cc

-- some worker that is to move soon: the first one, or one that has something to do
pub record IsMover (e : Setting) (p : List Strike) (s : Core) (crew : List Actor) : Type 0 where
  pub worker : ℕ
  pub actor : Actor
  pub at : slice_get crew worker ≡ Some actor
  pub vain : ℕ
  pub few : vain ≤ 2
  pub mover : Moves e p s (sum_by hints_of crew) actor vain
  pub first_or_busy : (worker ≡ 0) ⊎ (actor.doing ≢ idle)
  pub calm : s.total (noted is_any_struck) ≡ 0 → vain ≤ 1

-- who moves soon with a task
record IsSoon (e : Setting) (p : List Strike) (s : Core) (a : Actor) : Type 0 where
  pub vain : ℕ
  pub few : vain ≤ 2
  pub is_vain : Vain e p s a vain
  pub calm : s.total (noted is_any_struck) ≡ 0 → vain ≤ 1

module _ {e : Setting} {p : List Strike} {most : ℕ} {s : Core} {crew : List Actor} {moves : ℕ} (shares : Shares e p most s crew moves) where
  -- some view has what all together have
  some_view : (f : View → ℕ) → 0 < s.total f → (i : ℕ) × (a : Actor) × (slice_get crew i ≡ Some a) × (0 < f a.view)
  some_view f some = some_member (λ (a : Actor). f a.view) crew (let x = shares.all f in omega (arith, some, x))

  none_total : (f : View → ℕ) → ((i : ℕ) (a : Actor) → slice_get crew i ≡ Some a → f a.view ≡ 0) → s.total f ≡ 0
  none_total f none = shares.all f ∙ none_sum (λ (a : Actor). f a.view) crew none

  -- the key of an item of a view has a row
  item_row : (i : ℕ) (a : Actor) → slice_get crew i ≡ Some a → (k : ℕ) → 0 < items (is_at k) a.view → HasRow e s k
  item_row i a at k some = shares.holds.keys.of_item k (let x = (part_at shares i a at).within (items (is_at k)) in omega (arith, x, some))

  -- a worker with a first line moves soon where no life is being replaced and no block is taken
  module _ (quiet : IsQuiet e s) (i : ℕ) (a : Actor) (at : slice_get crew i ≡ Some a) where
    suspect_soon : (k l : ℕ) (c : Cause) (waits : Bool) (b : List Line) → by_mark c ≡ true → flat a.view.stacks ≡ of (line.Suspect k l c waits) ∷ b → IsSoon e p s a
    suspect_soon k l c waits b marked top = dite (ℕ_discrete (standing_life (s.word (recovery row.0))) l)
        (λ stands. record { vain = 0; few = omega arith; is_vain = wins quiet (record { row = row.0; life = l; suspect = suspect; stands = stands }); calm = λ none. omega arith })
        (λ replaced. record { vain = 2; few = omega arith; is_vain = loses quiet (record { row = row.0; life = l; suspect = suspect; replaced = replaced }); calm = λ none. absurd (let x = suspected_struck (part_at shares i a at) (top_passes is_any_suspect a.view (line.Suspect k l c waits) b top refl) in omega (arith, x, none)) })
      where
        row : HasRow e s k
        row = item_row i a at k (top_passes (is_at k) a.view (line.Suspect k l c waits) b top (eqb_here k))

        suspect : IsMarked e s a.view row.0 l
        suspect = record { key = k; has_key = row.1; cause = c; waits = waits; below = b; marked = marked; top = top }

    plain_soon : (y : Line) (b : List Line) → is_plain y ≡ true → flat a.view.stacks ≡ y ∷ b → IsSoon e p s a
    plain_soon y b is top = record { vain = 1; few = omega arith; is_vain = plain quiet (record { first = y; below = b; top = top; plain = is }); calm = λ none. omega arith }

    none_renews : (k l d : ℕ) (b : List Line) → flat a.view.stacks ≡ of (line.Renew k l d) ∷ b → ⊥
    none_renews k l d b top = let some = top_passes (is_renew k) a.view (line.Renew k l d) b top (eqb_here k) in
        let row = item_row i a at k (top_passes (is_at k) a.view (line.Renew k l d) b top (eqb_here k)) in
        let is = (shares.holds.lives.each row.0 k row.1).renewing in let none = quiet.none_replaced row.0 (row.1).0 in let low = (part_at shares i a at).within (items (is_renew k)) in omega (arith, some, is, none, low)

    line_soon : (y : Line) (b : List Line) → flat a.view.stacks ≡ y ∷ b → IsSoon e p s a
    line_soon (of (line.Renew k l d)) b top = absurd (none_renews k l d b top)
    line_soon (of (line.Suspect k l cause.Descriptor waits)) b top = suspect_soon k l cause.Descriptor waits b refl top
    line_soon (of (line.Suspect k l cause.Notify waits)) b top = suspect_soon k l cause.Notify waits b refl top
    line_soon y b top = plain_soon y b refl top

  module _ (held : AreHeld crew) where
    -- whoever has a task and moves soon with it
    task_moves : (i : ℕ) (a : Actor) → slice_get crew i ≡ Some a → (task : Task) → a.doing ≡ works task → IsSoon e p s a → IsMover e p s crew
    task_moves i a at task is soon = record { worker = i; actor = a; at = at; vain = soon.vain; few = soon.few; mover = works_on task soon.vain is soon.is_vain; first_or_busy = inr (busy task is); calm = soon.calm }

    now : (a : Actor) → Vain e p s a 0 → IsSoon e p s a
    now a it = record { vain = 0; few = omega arith; is_vain = it; calm = λ none. omega arith }

    -- who renews, where a life is being replaced
    renewer : (r : ℕ) → r < e.shape.rows → 0 < replacing (s.word (recovery r)) → IsMover e p s crew
    renewer r low some = dite (ℕ_discrete (s.word (key r)) 0)
        (λ z. absurd (let none = shares.holds.empty.no_recovery r z in omega (arith, some, none)))
        (λ ne. of_key (s.word (key r) - 1) (low, omega (arith, ne)))
      where
        of_key : (k : ℕ) → HasKey e s r k → IsMover e p s crew
        of_key k has = let is = (shares.holds.lives.each r k has).renewing in let it = some_view (items (is_renew k)) (omega (arith, some, is)) in by it.0 it.1 it.2 it.3
          where
            by : (i : ℕ) (a : Actor) → slice_get crew i ≡ Some a → 0 < items (is_renew k) a.view → IsMover e p s crew
            by i a at has_it = ⊎_elim
                (λ work. task_moves i a at work.0 work.1 (now a (renews k (let is = items_counted (is_renew k) a.view in let first = renewed_first k (flat a.view.stacks) (shares.topped i a at) (omega (arith, is, has_it)) in record { life = first.0; done = first.1; below = first.2; top = first.3 }))))
                (λ rest. absurd (let none = ap (in_stacks (is_renew k)) rest.1 in omega (arith, none, has_it)))
                (held i a at)

    -- who holds a block
    holder : (b : ℕ) → b < e.shape.blocks → 0 < s.word (turn b) → IsMover e p s crew
    holder b low some = let is = (shares.holds.blocks.each b low).taken in let it = some_view (in_hand b) (omega (arith, some, is)) in by it.0 it.1 it.2 it.3
      where
        by : (i : ℕ) (a : Actor) → slice_get crew i ≡ Some a → 0 < in_hand b a.view → IsMover e p s crew
        by i a at has_it = ⊎_elim
            (λ work. task_moves i a at work.0 work.1 (now a (holds (some_hand b a.view.hands has_it))))
            (λ rest. absurd (let none = ap (count (is_hand b)) rest.3 in omega (arith, none, has_it)))
            (held i a at)

    -- who has a task, where no life is being replaced and no block is taken
    worker_moves : IsQuiet e s → (i : ℕ) (a : Actor) → slice_get crew i ≡ Some a → 0 < working a.doing → IsMover e p s crew
    worker_moves quiet i a at some = ⊎_elim
        (λ work. task_moves i a at work.0 work.1 (line_soon quiet i a at work.2 work.3 work.4))
        (λ rest. absurd (let it = working_is a.doing some in rest.0 it.0 it.1))
        (held i a at)

    -- where nobody has a task nor asks, a hint is left
    hint_left : s.word pending ≢ 0 → ((i : ℕ) (a : Actor) → slice_get crew i ≡ Some a → working a.doing ≡ 0) → ((i : ℕ) (a : Actor) → slice_get crew i ≡ Some a → a.doing ≡ idle) → sum_by hints_of crew ≢ 0
    hint_left some none_works none_asks none_hints = some (
        let sum = shares.holds.work.credits.sum in let a = none_total stack_count (λ i c at. let z = (resting i c at).0 in ap length z) in let b = none_total spare (λ i c at. (resting i c at).1) in
        let d = none_posted s.word e.shape.rows (λ r low. unhinted (s.word (posted job.Explore r)) (s.word (posted job.Compute r)) (hints_as 0 0 (sym (none_fresh r)) (sym (none_asked r)) (shares.hinted r low))) in omega (arith, sum, a, b, d))
      where
        resting : (i : ℕ) (c : Actor) → slice_get crew i ≡ Some c → (c.view.stacks ≡ []) × (c.view.spare ≡ 0)
        resting i c at = ⊎_elim
            (λ work. absurd (let z = none_works i c at in let is = ap working work.1 in omega (arith, z, is)))
            (λ rest. (rest.1, rest.2))
            (held i c at)

        none_fresh : (r : ℕ) → sum_by (fresh_of r) crew ≡ 0
        none_fresh r = none_sum (fresh_of r) crew (λ i c at. let few = member_low hints_of crew i c at in let is = ap (λ d. fresh_hints r d c.hints) (none_asks i c at) in let z = none_counted (eqb r) c.hints (omega (arith, few, none_hints)) in omega (arith, is, z))

        none_asked : (r : ℕ) → sum_by (asked_of r) crew ≡ 0
        none_asked r = none_sum (asked_of r) crew (λ i c at. ap (asked_hints r) (none_asks i c at))

    nobody_works : 0 < length crew → s.word pending ≢ 0 → sum_by (λ (a : Actor). working a.doing) crew ≡ 0 → IsMover e p s crew
    nobody_works some pends none = dite (ℕ_discrete (sum_by (λ (a : Actor). asking a.doing) crew) 0)
        (λ z. let it = first_member crew some in let rests : (i : ℕ) (a : Actor) → slice_get crew i ≡ Some a → a.doing ≡ idle = (λ i a at. idle_is a.doing (none_works i a at) (let x = member_low (λ (a : Actor). asking a.doing) crew i a at in omega (arith, x, z))) in
        record { worker = 0; actor = it.0; at = it.1; vain = 0; few = omega arith; mover = looks (rests 0 it.0 it.1) (let left = hint_left pends none_works rests in omega (arith, left)); first_or_busy = inl refl; calm = λ none. omega arith })
        (λ ne. let it = some_member (λ (a : Actor). asking a.doing) crew (omega (arith, ne)) in let is = asking_is (it.1).doing it.3 in
        record { worker = it.0; actor = it.1; at = it.2; vain = 0; few = omega arith; mover = serves is.0 is.1 is.2 is.3; first_or_busy = inr (asking_busy is.0 is.1 is.2 is.3); calm = λ none. omega arith })
      where
        none_works : (i : ℕ) (a : Actor) → slice_get crew i ≡ Some a → working a.doing ≡ 0
        none_works i a at = let x = member_low (λ (a : Actor). working a.doing) crew i a at in omega (arith, x, none)

    pub mover_found : 0 < length crew → s.word pending ≢ 0 → IsMover e p s crew
    mover_found some pends = ⊎_elim
        (λ it. renewer it.0 it.1 it.2)
        (λ none_replaced. ⊎_elim (λ it. holder it.0 it.1 it.2) (λ none_taken. by (record { none_replaced = none_replaced; none_taken = none_taken })) (some_below (λ b. s.word (turn b)) e.shape.blocks))
        (some_below (λ r. replacing (s.word (recovery r))) e.shape.rows)
      where
        by : IsQuiet e s → IsMover e p s crew
        by quiet = dite (ℕ_discrete (sum_by (λ (a : Actor). working a.doing) crew) 0)
            (λ z. nobody_works some pends z)
            (λ ne. let it = some_member (λ (a : Actor). working a.doing) crew (omega (arith, ne)) in worker_moves quiet it.0 it.1 it.2 it.3)
