-- Cover, activity, and what holds while no strike has landed.
use Rattle.std.specs.Prelude.{◌≡◌, ◌≢◌, ◌⊎◌, ℕ, ◌+◌, ◌*◌, ◌/◌, ◌%◌, ◌<◌, ◌≤◌, eqb}
use Rattle.core_state.specs.Graph.{Setting, Reads}
use Rattle.graph_model.specs.declared.plan.Strike.{Strike}
use Rattle.core_state.specs.Words.{descriptor, notify, recovery, posted, life_of, replacing, standing_life}
use Rattle.core_state.specs.Counts.{hit, items, owed, held, waits, struck_by}
use Rattle.core_state.specs.Tests.{explores, is_owed, notifies, reenters, is_renew, is_renew_of, is_suspect, is_any_suspect, is_close, is_loaded, is_spent, is_computed, is_closed, is_version, is_writing, is_any_struck}
use Rattle.core_state.specs.Change.{Core, many}
use Rattle.core_state.specs.Laws.{IsPlace, AllClosed}
use Rattle.core_state.specs.Rows.{HasKey}
use Rattle.core_state.specs.Views.{has_word}
use Rattle.core_state.specs.declared.job.Job.TheVariants.{Explore, Compute}
use Rattle.graph_model.specs.declared.plan.Point.TheVariants as point
use Rattle.core_state.specs.declared.views.View.{View}

-- the items of a view that will come to place j of life l of k, or replace the life
abbrev pub covers_self : ℕ → ℕ → ℕ → View → ℕ
covers_self k l j v = items (explores k l j) v + items (is_owed Explore k l) v + items (is_suspect k l) v

-- those that will tell the place, whose predecessor is p at the port q
abbrev pub covers_edge : ℕ → ℕ → View → ℕ
covers_edge p q v = items (notifies p q) v + items (is_renew p) v + items (reenters p q) v

-- the work on a life that is ready or will be replaced
abbrev pub works : ℕ → ℕ → View → ℕ
works k l v = owed Compute k l v + held Compute k l v + items (is_suspect k l) v + items (is_renew_of k l) v

-- the work that makes a life active
abbrev pub works_at_all : ℕ → ℕ → View → ℕ
works_at_all k l v = owed Explore k l v + held Explore k l v + works k l v

module _ (e : Setting) (s : Core) where
  -- the place is not spent in the life that stands and is shown
  pub record Needs (r k l j : ℕ) : Type 0 where
    pub has_key : HasKey e s r k
    pub stands : replacing (s.word (recovery r)) ≡ 0
    pub life_stands : standing_life (s.word (recovery r)) ≡ l
    pub life_shown : life_of (s.word (descriptor r)) ≡ l
    pub unspent : many s (is_spent k l j) ≡ 0

  -- the port waits at a word of the predecessor that is open in the life that it shows
  pub record Waiting (p q : ℕ) : Type 0 where
    pub row : ℕ
    pub has_key : HasKey e s row p
    pub waits_there : 0 < s.total (waits p (life_of (s.word (notify row (q / 40)))) q)
    pub open_word : many s (is_closed p (life_of (s.word (notify row (q / 40)))) (q / 40)) ≡ 0

  -- exploring of the life is on its way to the self place, or the life is suspected
  abbrev pub CoveredSelf : ℕ → ℕ → ℕ → ℕ → Type 0
  CoveredSelf r k l j = 0 < s.total (covers_self k l j) + hit (eqb l (s.word (posted Explore r)))

  -- somebody will come to the place: by exploring, by telling it, by replacing, or since its port waits at an open word
  abbrev pub Covered : ℕ → ℕ → ℕ → ℕ → Type 0
  Covered r k l j = let x = e.graph.pred k j in (0 < s.total (covers_self k l j) + hit (eqb l (s.word (posted Explore r))) + s.total (covers_edge x.task x.port)) ⊎ Waiting x.task x.port

  -- each place that needs cover is covered
  pub record Cover : Type 0 where
    pub places : (r k l j : ℕ) → Needs r k l j → j < e.graph.places k → Covered r k l j
    pub self_place : (r k l : ℕ) → Needs r k l 40 → CoveredSelf r k l 40

  -- a life whose places are all spent is being computed, closed, suspected or renewed, or has closed all its words
  pub record Activity : Type 0 where
    pub each : (r k : ℕ) → HasKey e s r k → ((j : ℕ) → IsPlace e.graph k j → 0 < many s (is_spent k (life_of (s.word (descriptor r))) j))
        → (0 < s.total (works k (life_of (s.word (descriptor r)))) + hit (eqb (life_of (s.word (descriptor r))) (s.word (posted Compute r)))) ⊎ AllClosed e.graph e.plan (many s) k (life_of (s.word (descriptor r)))

  -- a key is active where it has work left or waits for a place
  pub data Active (r k l : ℕ) : Type 0 where
    at_work : 0 < s.total (works_at_all k l) + hit (eqb l (s.word (posted Explore r))) + hit (eqb l (s.word (posted Compute r))) → Active r k l
    needs_place : (j : ℕ) → IsPlace e.graph k j → Needs r k l j → Active r k l

  -- it is active, or the life that stands has closed all its words: so it is for each key, by the parts on lives, cover and activity
  abbrev pub ActiveOrClosed : ℕ → ℕ → Type 0
  ActiveOrClosed r k = Active r k (standing_life (s.word (recovery r))) ⊎ AllClosed e.graph e.plan (many s) k (standing_life (s.word (recovery r)))

  -- while no strike has landed
  pub record Faultless : Type 0 where
    pub first_life : (r k : ℕ) → HasKey e s r k → s.word (recovery r) ≡ 0
    pub none_suspected : s.total (items is_any_suspect) ≡ 0
    -- a block holds the greatest version that was written
    pub newest : (b u : ℕ) → b < e.shape.blocks → 0 < many s (is_version b u) → u ≤ (s.block b).tag
    -- before a version is overwritten all its other readers have written
    pub readers_first : (b u k : ℕ) → 0 < u → 0 < many s (is_version b (u + 1)) → Reads e.graph k b u → k ≢ e.graph.root → k ≢ e.graph.writer b (u + 1) → 0 < many s (is_writing k)

  -- all this holds while no strike has landed
  pub record NoFault : Type 0 where
    pub faultless : many s is_any_struck ≡ 0 → Faultless

  -- Where the strikes of a point are made before a seat goes on: a strike whose point was passed was made.
  pub record PassedStrike (n : ℕ) (x : Strike) : Type 0 where
    pub explored : x.point ≡ point.Explored → x.life ≡ 1 → 0 < many s (is_spent x.key.0 1 40) → 0 < s.total (struck_by n)
    pub ready : x.point ≡ point.Ready → 0 < many s (is_computed x.key.0 x.life) + s.total (items (is_loaded x.key.0 x.life)) → 0 < s.total (struck_by n)
    pub computed : x.point ≡ point.Computed → 0 < many s (is_closed x.key.0 x.life 0) → 0 < s.total (struck_by n)
    pub notified : x.point ≡ point.Notified → AllClosed e.graph e.plan (many s) x.key.0 x.life → (0 < s.total (items (is_close x.key.0 x.life))) ⊎ (0 < s.total (struck_by n))

  -- so it is for each strike of the plan on a word that the task has
  pub record Passed : Type 0 where
    pub each : (n : ℕ) → n < e.plan.count → has_word e.graph (e.plan.strike n).key.0 (e.plan.strike n).target ≡ Rattle.std.specs.Prelude.true → PassedStrike n (e.plan.strike n)
