-- What is left and what comes finds nothing of its own in the scratch, and ends no run.
use Rattle.std.proofs.Common.{◌≡◌, ℕ, Bool, true, false, ◌&&◌, Option, Some, None, refl, ap, ◌∙◌}
use Rattle.graph_model.specs.Graph.{Graph as TaskGraph}
use Rattle.graph_model.specs.declared.key.Key.{Key}
use Rattle.core_state.specs.Graph.{Setting}
use Rattle.core_state.specs.declared.answers.Told.{Told}
use Rattle.core_state.specs.declared.answers.Told.TheVariants as told
use Rattle.core_state.specs.declared.job.Job.{Job}
use Rattle.core_state.specs.declared.job.Job.TheVariants as job
use Rattle.recovery.specs.declared.turn.Turn.{Turn}
use Rattle.recovery.specs.declared.turn.Turn.TheVariants as turn
use Rattle.compute_notify.specs.Items.{is_spent, job_item, told_came, turn_came}
use Rattle.compute_notify.specs.Rooms.{AfterScratch, FitsScratch, HasRoom, HoldsValues, bare_came, bare_item, bare_left, bare_phase, came_scratch, is_bare, is_plain, left_scratch, plain_came}
use Rattle.compute_notify.specs.declared.compute.Phase.{Phase}
use Rattle.compute_notify.specs.declared.compute.Phase.TheVariants as phase
use Rattle.compute_notify.specs.declared.duty.Duty.{Duty}
use Rattle.compute_notify.specs.declared.item.After.{After}
use Rattle.compute_notify.specs.declared.item.Came.{Came}
use Rattle.compute_notify.specs.declared.item.Came.TheVariants as came
use Rattle.compute_notify.specs.declared.item.Item.{Item}
use Rattle.compute_notify.specs.declared.item.Item.TheVariants as item
use Rattle.compute_notify.specs.declared.scratch.Scratch.{Scratch}

pub told_plain : (t : Told) (row : ℕ) (k : Key) (lives : ℕ) → plain_came (told_came t row k lives) ≡ true
told_plain (told.Spent l) row k lives = refl
told_plain (told.Already l) row k lives = refl
told_plain (told.Last l) row k lives = refl
told_plain (told.Struck l) row k lives = refl

pub job_bare : (d : Duty) (i : Job) → bare_item (job_item d i) ≡ true
job_bare d job.Explore = refl
job_bare d job.Compute = refl

pub turn_bare : (t : Turn) (lives : ℕ) → bare_came (turn_came t lives) ≡ true
turn_bare turn.Going lives = refl
turn_bare turn.Done lives = refl
turn_bare (turn.Met row k l c) lives = refl
turn_bare (turn.Given row k i l) lives = job_bare (record { row = row; key = k; life = l }) i
turn_bare (turn.LivesSpent k l c) lives = refl

-- an item that stays, and what came above it
pub plain_over : (x : Item) (c : Came) (a : After) → a ≡ record { left = Some x; came = c } → bare_item x ≡ true → plain_came c ≡ true → is_plain a ≡ true
plain_over x c a is bare plain = ap is_plain is ∙ ap (λ (b : Bool). b && plain_came c) bare ∙ plain

pub plain_gone : (c : Came) (a : After) → a ≡ record { left = None; came = c } → plain_came c ≡ true → is_plain a ≡ true
plain_gone c a is plain = ap is_plain is ∙ plain

pub bare_over : (x : Item) (c : Came) (a : After) → a ≡ record { left = Some x; came = c } → bare_item x ≡ true → bare_came c ≡ true → is_bare a ≡ true
bare_over x c a is bare plain = ap is_bare is ∙ ap (λ (b : Bool). b && bare_came c) bare ∙ plain

pub unspent_as : (a b : After) → a ≡ b → is_spent b.came ≡ false → is_spent a.came ≡ false
unspent_as a b is unspent = ap (λ (x : After). is_spent x.came) is ∙ unspent

first_true : (a b : Bool) → a && b ≡ true → a ≡ true
first_true true b both = refl
first_true false b both = absurd cc

second_true : (a b : Bool) → a && b ≡ true → b ≡ true
second_true true b both = both
second_true false b both = absurd cc

both_true : (a b : Bool) → a ≡ true → b ≡ true → a && b ≡ true
both_true true b first second = second
both_true false b first second = absurd cc

came_plain : (c : Came) → plain_came c ≡ true → bare_came c ≡ true
came_plain came.Nothing plain = refl
came_plain (came.Above x) plain = plain
came_plain (came.Stack x) plain = plain
came_plain (came.Spent k l c) plain = absurd cc

came_unspent : (c : Came) → plain_came c ≡ true → is_spent c ≡ false
came_unspent came.Nothing plain = refl
came_unspent (came.Above x) plain = refl
came_unspent (came.Stack x) plain = refl
came_unspent (came.Spent k l c) plain = absurd cc

pub plain_bare : (a : After) → is_plain a ≡ true → is_bare a ≡ true
plain_bare a plain = both_true (bare_left a.left) (bare_came a.came) (first_true (bare_left a.left) (plain_came a.came) plain) (came_plain a.came (second_true (bare_left a.left) (plain_came a.came) plain))

pub plain_unspent : (a : After) → is_plain a ≡ true → is_spent a.came ≡ false
plain_unspent a plain = came_unspent a.came (second_true (bare_left a.left) (plain_came a.came) plain)

module _ (e : Setting) (g : TaskGraph) (s : Scratch) (room : HasRoom g s) where
  phase_scratch : (k : ℕ) (p : Phase) → bare_phase p ≡ true → HasRoom g s × HoldsValues e.graph k p s
  phase_scratch k (phase.Ready made) bare = (room, tt)
  phase_scratch k (phase.Reading input) bare = absurd cc
  phase_scratch k phase.Writing bare = absurd cc

  item_scratch : (x : Item) → bare_item x ≡ true → FitsScratch e g s x
  item_scratch item.Credit bare = room
  item_scratch (item.Explore x) bare = room
  item_scratch (item.Compute c) bare = phase_scratch c.duty.key.0 c.phase bare
  item_scratch (item.Close c) bare = room
  item_scratch (item.Notify n) bare = room
  item_scratch (item.Look x) bare = room
  item_scratch (item.Owe o) bare = room
  item_scratch (item.Recover r) bare = room

  some_scratch : (o : Option Item) → bare_left o ≡ true → left_scratch e g s o
  some_scratch None bare = room
  some_scratch (Some x) bare = item_scratch x bare

  new_scratch : (c : Came) (o : Option Item) → bare_came c ≡ true → bare_left o ≡ true → came_scratch e g s c o
  new_scratch came.Nothing o bare left = some_scratch o left
  new_scratch (came.Above x) o bare left = item_scratch x bare
  new_scratch (came.Stack x) o bare left = item_scratch x bare
  new_scratch (came.Spent k l c) o bare left = some_scratch o left

  -- after a turn that leaves and brings only items that find nothing of their own there
  pub bare_scratch : (a : After) → is_bare a ≡ true → AfterScratch e g s a
  bare_scratch a bare = new_scratch a.came a.left (second_true (bare_left a.left) (bare_came a.came) bare) (first_true (bare_left a.left) (bare_came a.came) bare)
