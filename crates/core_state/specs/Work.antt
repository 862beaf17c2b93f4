-- The parts of the invariant that speak of work: credits, the jobs of a life, and the steps of one computing.
use Rattle.std.specs.Prelude.{◌≡◌, ℕ, ◌+◌, ◌<◌, ◌≤◌, suc, zero, min, eqb, nat_lt, cond, Bool, true, false, ◌&&◌}
use Rattle.core_state.specs.Graph.{Graph, Setting}
use Rattle.core_state.specs.Words.{Spot, pending, descriptor, recovery, posted, life_of, standing_life}
use Rattle.core_state.specs.Counts.{hit, items, owed, held, ended, begun, came, stack_count, spare, too_many, in_hand, in_wrong_hand}
use Rattle.core_state.specs.Tests.{is_compute, is_made, is_unmade, is_close, is_close_from, is_notify, is_suspect, is_spent, is_computed, is_written, is_closed, is_replaced}
use Rattle.core_state.specs.Change.{Core, many}
use Rattle.core_state.specs.Laws.{IsPlace}
use Rattle.core_state.specs.Rows.{HasKey}
use Rattle.core_state.specs.declared.job.Job.{Job}
use Rattle.core_state.specs.declared.job.Job.TheVariants.{Explore, Compute}
use Rattle.core_state.specs.declared.views.Item.{Item}
use Rattle.core_state.specs.declared.views.Item.TheVariants as item

-- how many job words of the first n rows are not 0
abbrev pub posted_count : (Spot → ℕ) → ℕ → ℕ
posted_count word zero = 0
posted_count word (suc n) = posted_count word n + min 1 (word (posted Explore n)) + min 1 (word (posted Compute n))

-- a result that was made before all inputs were read
abbrev pub is_made_early : Graph → Item → Bool
is_made_early g (item.Compute k l loaded read made) = made && cond (eqb read (g.inputs k)) false true
is_made_early g _ = false

module _ (e : Setting) (s : Core) where
  -- the pending word counts stacks, spare credits and posted jobs
  pub record Credits : Type 0 where
    pub sum : s.word pending ≡ s.total stack_count + s.total spare + posted_count s.word e.shape.rows
    -- no view has more spare credits than jobs that it owes
    pub few_spare : s.total too_many ≡ 0

  -- how often a job of a life exists: owed, held, ended, or posted in the row
  abbrev pub job_count : Job → ℕ → ℕ → ℕ → ℕ
  job_count i r k l = s.total (owed i k l) + s.total (held i k l) + s.total (ended i k l) + hit (eqb l (s.word (posted i r)))

  -- each job of a life exists as often as it may, and only where the life has come so far
  pub record Jobs : Type 0 where
    -- exploring of each life up to the one that stands exists once, and of no later one; computing exists at most once, and of no later life than the descriptor's
    pub explored : (r k l : ℕ) → HasKey e s r k → 0 < l → l ≤ standing_life (s.word (recovery r)) → job_count Explore r k l ≡ 1
    pub not_explored : (r k l : ℕ) → HasKey e s r k → standing_life (s.word (recovery r)) < l → job_count Explore r k l ≡ 0
    pub computed : (r k l : ℕ) → HasKey e s r k → 0 < l → job_count Compute r k l ≤ 1
    pub not_computed : (r k l : ℕ) → HasKey e s r k → life_of (s.word (descriptor r)) < l → job_count Compute r k l ≡ 0
    -- a life is at least 1
    pub some_life : (i : Job) (k : ℕ) → s.total (owed i k 0) + s.total (held i k 0) + s.total (ended i k 0) ≡ 0
    -- computing of a life exists only where each place of the life was spent
    pub ready : (r k l j : ℕ) → HasKey e s r k → 0 < l → 0 < job_count Compute r k l → IsPlace e.graph k j → 0 < many s (is_spent k l j)
    -- each stack came with a job that is held or has ended, and no other came with it
    pub came : (i : Job) (k l : ℕ) → s.total (came i k l) ≤ s.total (begun i k l)

  -- what the records of one computing say of its job
  pub record Computing (r k l : ℕ) : Type 0 where
    pub unmade : 0 < s.total (owed Compute k l) + hit (eqb l (s.word (posted Compute r))) + s.total (items (is_unmade k l)) → many s (is_computed k l) ≡ 0
    pub made : 0 < s.total (items (is_made k l)) → 0 < many s (is_computed k l)
    pub unwritten : 0 < s.total (owed Compute k l) + hit (eqb l (s.word (posted Compute r))) + s.total (items (is_compute k l)) → many s (is_written k l) ≡ 0
    pub written : 0 < s.total (items (is_close k l)) → 0 < many s (is_written k l)
    pub closing : (w i : ℕ) → 0 < s.total (items (is_close_from k l w)) → many s (is_closed k l i) ≡ hit (nat_lt i w)
    pub close_word : (w : ℕ) → 0 < s.total (items (is_close_from k l w)) → w ≤ e.graph.notify_words k
    pub notifying : (w : ℕ) → 0 < s.total (items (is_notify k l w)) → 0 < many s (is_closed k l w)
    pub begun : 0 < many s (is_computed k l) → 0 < s.total (begun Compute k l)

  -- so it is for each life of each key
  pub record Computings : Type 0 where
    pub each : (r k l : ℕ) → HasKey e s r k → 0 < l → Computing r k l
    pub none_early : s.total (items (is_made_early e.graph)) ≡ 0

  -- the root writes once, after its result was made; before that its computing may end
  pub record RootWork : Type 0 where
    pub right_hand : s.total (in_wrong_hand (e.graph.block e.graph.root) e.graph.root) ≡ 0
    pub unwritten : 0 < s.total (in_hand (e.graph.block e.graph.root)) → (s.block (e.graph.block e.graph.root)).tag ≡ 0
    pub given_up : (l : ℕ) → 0 < s.total (items (is_suspect e.graph.root l)) + many s (is_replaced e.graph.root l) → (0 < s.total (ended Compute e.graph.root l)) × (many s (is_computed e.graph.root l) ≡ 0)

  -- all that is said of work
  pub record Work : Type 0 where
    pub credits : Credits
    pub jobs : Jobs
    pub computings : Computings
    pub root : RootWork
