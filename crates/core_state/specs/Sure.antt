-- What holds of a view between any two steps, and what a step lets its seat know beside what its word showed.
use Rattle.std.specs.Prelude.{◌≡◌, ◌⊎◌, ℕ, ◌+◌, ◌*◌, ◌/◌, ◌%◌, ◌<◌, ◌≤◌, false}
use Rattle.std.specs.Int.{bit_at}
use Rattle.core_state.specs.Graph.{Setting, Reached, greatest_life}
use Rattle.core_state.specs.Words.{Spot, descriptor, notify, spot_of, life_of, mark_of, life_shown, mark_shown, replacing}
use Rattle.core_state.specs.Counts.{items, noted, facts, owed, begun, knows_row, waits, struck_by, struck_idly}
use Rattle.core_state.specs.Tests.{notifies, is_suspect, is_spent, is_computed, is_seen_life, is_seen_mark, job_of}
use Rattle.core_state.specs.declared.answers.Closing.{Closing}
use Rattle.core_state.specs.declared.answers.Closing.TheVariants as closing
use Rattle.core_state.specs.declared.answers.Elected.{Elected}
use Rattle.core_state.specs.declared.answers.Elected.TheVariants as elected
use Rattle.core_state.specs.declared.job.Job.{Job}
use Rattle.core_state.specs.declared.views.View.{View}
use Rattle.core_state.specs.declared.views.Word.{Word}
use Rattle.core_state.specs.declared.words.NotifyWord.{NotifyWord}

module _ (e : Setting) (v : View) where
  -- what the invariant knows of one view, whatever the others hold
  pub record IsSure : Type 0 where
    -- a job of a life is owed, held or ended at most once
    pub once : (i : Job) (k l : ℕ) → owed i k l v + begun i k l v ≤ 1
    -- each strike was made by who holds the job of its point or has ended it
    pub by_its_job : (n : ℕ) → n < e.plan.count → struck_idly (e.plan.strike n) n v ≡ 0
    -- a life that is suspected is at most the greatest
    pub lives : (k l : ℕ) → 0 < items (is_suspect k l) v → (0 < l) × (l ≤ greatest_life e k)
    -- a port that is to be told is one of its task
    pub ports : (p q : ℕ) → 0 < items (notifies p q) v → q < e.graph.ports p
    -- the root depends on a task whose result was made
    pub computed : (k l : ℕ) → 0 < noted (is_computed k l) v → Reached e.graph k

  -- the number n of this word shows what the view knows of it: no earlier life than was seen, a mark that was seen or a later life, and each place and port of its own, or the mark, or a later life
  pub record IsFound (a : Spot) (n : ℕ) : Type 0 where
    pub life : (r k l : ℕ) (w : Word) → a ≡ spot_of r w → 0 < knows_row r k v → 0 < facts (is_seen_life k w l) v → l ≤ life_shown w n
    pub mark : (r k l : ℕ) (w : Word) → a ≡ spot_of r w → 0 < knows_row r k v → 0 < facts (is_seen_mark k w l) v → (l < life_shown w n) ⊎ ((l ≡ life_shown w n) × (mark_shown w n ≡ 1))
    pub place : (r k l j : ℕ) → a ≡ descriptor r → 0 < knows_row r k v → 0 < noted (is_spent k l j) v → (l < life_of n) ⊎ ((l ≡ life_of n) × ((mark_of n ≡ 1) ⊎ (bit_at n j ≡ 1)))
    pub port : (r p l q : ℕ) → a ≡ notify r (q / 40) → 0 < knows_row r p v → 0 < waits p l q v → (l < life_of n) ⊎ ((l ≡ life_of n) × ((mark_of n ≡ 1) ⊎ (bit_at n (q % 40) ≡ 1)))

  -- the view has made no strike at a point of the job of this life
  abbrev pub IsFresh : Job → ℕ → ℕ → Type 0
  IsFresh i k l = (n : ℕ) → n < e.plan.count → (e.plan.strike n).key.0 ≡ k → (e.plan.strike n).life ≡ l → job_of (e.plan.strike n).point ≡ i → struck_by n v ≡ 0

-- the word is of this life, open and without the mark
pub record IsOpen (l : ℕ) (x : NotifyWord) : Type 0 where
  pub life_is : x.life ≡ l
  pub unstruck : x.struck ≡ false
  pub open_still : x.closed ≡ false

-- a word that has moved may be closed as it is now
abbrev pub MovedTells : ℕ → Closing → Type 0
MovedTells l (closing.Moved x) = IsOpen l x
MovedTells l (closing.Edges ports) = Unit {0}
MovedTells l (closing.Stale m) = Unit {0}
MovedTells l (closing.Struck m) = Unit {0}

-- the ports that a closing of word w answers are ports of the task, which has so many
abbrev pub PortsTell : ℕ → ℕ → Closing → Type 0
PortsTell many w (closing.Edges ports) = (b : ℕ) → b < 40 → bit_at ports b ≡ 1 → 40 * w + b < many
PortsTell many w (closing.Stale m) = Unit {0}
PortsTell many w (closing.Struck m) = Unit {0}
PortsTell many w (closing.Moved x) = Unit {0}

-- a life that is told as being replaced is so by the recovery word n
abbrev pub IsReplacing : Elected → ℕ → Type 0
IsReplacing (elected.Renewing m) n = replacing n ≡ 1
IsReplacing elected.Yes n = Unit {0}
IsReplacing (elected.Replaced m) n = Unit {0}
