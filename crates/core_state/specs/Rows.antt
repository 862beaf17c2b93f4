-- The parts of the invariant that speak of one row: keys, lives, and what its words show.
use Rattle.std.specs.Prelude.{◌≡◌, ◌⊎◌, ℕ, ◌+◌, ◌*◌, ◌%◌, ◌^◌, ◌<◌, ◌≤◌, suc, min}
use Rattle.std.specs.Int.{bit_at}
use Rattle.core_state.specs.Graph.{Setting, Reached, greatest_life}
use Rattle.core_state.specs.Words.{Shape, Spot, key, descriptor, notify, recovery, posted, spot_of, life_of, mark_of, closed_bit, life_shown, mark_shown, standing_life, replacing}
use Rattle.core_state.specs.Counts.{items, ended, facts, knows_row, waits}
use Rattle.core_state.specs.Tests.{is_at, notifies, suspects_block, is_suspect, is_renew, is_renew_at, is_created, is_spent, is_closed, is_struck, is_idle, is_stopped, is_stops, is_seen_life, is_seen_mark, is_seen_closed}
use Rattle.core_state.specs.Change.{Core, many}
use Rattle.graph_model.specs.declared.record.Hit.TheVariants as hit_of
use Rattle.core_state.specs.declared.job.Job.{Job}
use Rattle.core_state.specs.declared.views.Word.{Word}

module _ (e : Setting) (s : Core) where
  -- the row is that of the key
  abbrev pub HasKey : ℕ → ℕ → Type 0
  HasKey r k = (r < e.shape.rows) × (s.word (key r) ≡ suc k)

  -- some row is that of the key
  abbrev pub HasRow : ℕ → Type 0
  HasRow k = (r : ℕ) × HasKey r k

  -- a key stands in one row, on its path, and whatever names a key that must stand has its row.
  pub record Keys : Type 0 where
    pub known : (r k : ℕ) → 0 < s.total (knows_row r k) → HasKey r k
    pub one_row : (r t k : ℕ) → HasKey r k → HasKey t k → r ≡ t
    -- no row of the key's path before its own is empty
    pub path : (r k d i : ℕ) → HasKey r k → d < e.shape.rows → r ≡ (k + d) % e.shape.rows → i < d → 0 < s.word (key ((k + i) % e.shape.rows))
    pub of_item : (k : ℕ) → 0 < s.total (items (is_at k)) → HasRow k
    pub of_ended : (i : Job) (k l : ℕ) → 0 < s.total (ended i k l) → HasRow k
    -- a port that is registered or to be told is one of its task
    pub of_waiting : (p l q : ℕ) → 0 < s.total (waits p l q) → (q < e.graph.ports p) × HasRow p × HasRow (e.graph.succ p q).task
    pub of_notify : (p q : ℕ) → 0 < s.total (items (notifies p q)) → (q < e.graph.ports p) × HasRow (e.graph.succ p q).task
    pub of_cause : (b v : ℕ) → 0 < s.total (items (suspects_block b v)) → HasRow (e.graph.writer b v)
    pub of_root : HasRow e.graph.root
    -- each row was made once, for a key on which the root depends
    pub created : (r k : ℕ) → HasKey r k → many s (is_created k) ≡ 1
    pub of_created : (k : ℕ) → 0 < many s (is_created k) → HasRow k
    pub reached : (r k : ℕ) → HasKey r k → Reached e.graph k

  -- the words of a row without a key, and words beyond those of the key, are as at the beginning
  pub record Empty : Type 0 where
    pub no_descriptor : (r : ℕ) → s.word (key r) ≡ 0 → s.word (descriptor r) ≡ 0
    pub no_notify : (r w : ℕ) → s.word (key r) ≡ 0 → s.word (notify r w) ≡ 0
    pub no_recovery : (r : ℕ) → s.word (key r) ≡ 0 → s.word (recovery r) ≡ 0
    pub no_job : (i : Job) (r : ℕ) → s.word (key r) ≡ 0 → s.word (posted i r) ≡ 0
    pub beyond : (r k w : ℕ) → HasKey r k → e.graph.notify_words k ≤ w → s.word (notify r w) ≡ 0

  -- all words show the life
  pub record Standing (r k l : ℕ) : Type 0 where
    pub descriptor_life : life_of (s.word (descriptor r)) ≡ l
    pub notify_life : (w : ℕ) → w < e.graph.notify_words k → life_of (s.word (notify r w)) ≡ l

  -- one view renews the words of the life, of which so many show the next life
  pub record Replacing (r k l : ℕ) : Type 0 where
    pub done : ℕ
    pub one_view : s.total (items (is_renew_at k l done)) ≡ 1
    pub at_most : done ≤ e.graph.notify_words k + 1
    pub done_words : (w : ℕ) → w < e.graph.notify_words k → w < done → life_of (s.word (notify r w)) ≡ l + 1
    pub other_words : (w : ℕ) → w < e.graph.notify_words k → done ≤ w → life_of (s.word (notify r w)) ≡ l
    pub descriptor_before : done ≤ e.graph.notify_words k → life_of (s.word (descriptor r)) ≡ l
    pub descriptor_after : done ≡ e.graph.notify_words k + 1 → life_of (s.word (descriptor r)) ≡ l + 1

  -- the recovery word n of the key
  pub record LifeOf (r k n : ℕ) : Type 0 where
    -- a view renews exactly where the life is being replaced
    pub renewing : s.total (items (is_renew k)) ≡ replacing n
    pub standing : replacing n ≡ 0 → Standing r k (standing_life n)
    pub being_replaced : replacing n ≡ 1 → Replacing r k (standing_life n)
    pub at_most : standing_life n + replacing n ≤ greatest_life e k
    -- a life that is suspected is shown by some word
    pub suspected : (l : ℕ) → 0 < s.total (items (is_suspect k l)) → (0 < l) × (l ≤ standing_life n + replacing n)

  -- so it is for the recovery word of each key
  pub record Lives : Type 0 where
    pub each : (r k : ℕ) → HasKey r k → LifeOf r k (s.word (recovery r))

  -- what the descriptor's number n says of the key k
  pub record Shows (k n : ℕ) : Type 0 where
    -- the bits between the mark and the life are 0
    pub other_bits : n % 2 ^ 48 < 2 ^ 42
    -- unstruck, it shows exactly the spent places of its life
    pub spent : mark_of n ≡ 0 → (j : ℕ) → j ≤ 40 → bit_at n j ≡ many s (is_spent k (life_of n) j)
    -- a struck word has its record; no word of the root is struck
    pub struck : mark_of n ≡ 1 → 0 < many s (is_struck k (life_of n) hit_of.Descriptor)
    pub root : k ≡ e.graph.root → mark_of n ≡ 0
    -- no record is of a later life than the word
    pub spent_later : (l j : ℕ) → life_of n < l → many s (is_spent k l j) ≡ 0
    pub struck_later : (l : ℕ) → life_of n < l → many s (is_struck k l hit_of.Descriptor) ≡ 0

  -- what the number n of notify word w says of the key p
  pub record Lists (p w n : ℕ) : Type 0 where
    -- the bits between the mark and the life are 0
    pub other_bits : n % 2 ^ 48 < 2 ^ 42
    -- unstruck, it shows its closing and, while it is open, exactly the ports that wait
    pub closing : mark_of n ≡ 0 → closed_bit n ≡ many s (is_closed p (life_of n) w)
    pub waiting : mark_of n ≡ 0 → closed_bit n ≡ 0 → (b : ℕ) → b < 40 → bit_at n b ≡ min 1 (s.total (waits p (life_of n) (40 * w + b)))
    -- a port that was registered in the life stays, also where the word is closed
    pub registered : mark_of n ≡ 0 → (b : ℕ) → b < 40 → 0 < s.total (waits p (life_of n) (40 * w + b)) → bit_at n b ≡ 1
    pub struck : mark_of n ≡ 1 → 0 < many s (is_struck p (life_of n) (hit_of.Notify w))
    pub root : p ≡ e.graph.root → mark_of n ≡ 0
    -- no record and no registered port is of a later life than the word
    pub closed_later : (l : ℕ) → life_of n < l → many s (is_closed p l w) ≡ 0
    pub waiting_later : (l b : ℕ) → life_of n < l → b < 40 → s.total (waits p l (40 * w + b)) ≡ 0
    pub struck_later : (l : ℕ) → life_of n < l → many s (is_struck p l (hit_of.Notify w)) ≡ 0

  -- so it is for each descriptor and each notify word of each key
  pub record Content : Type 0 where
    pub descriptors : (r k : ℕ) → HasKey r k → Shows k (s.word (descriptor r))
    pub notify_words : (r k w : ℕ) → HasKey r k → w < e.graph.notify_words k → Lists k w (s.word (notify r w))

  -- What views know is true, and stays so.
  pub record Facts : Type 0 where
    pub idle : 0 < s.total (facts is_idle) → s.word Rattle.core_state.specs.Words.pending ≡ 0
    pub stopped : 0 < s.total (facts is_stopped) → s.word Rattle.core_state.specs.Words.stop ≡ 1
    -- stop is 1 exactly where a view has set it
    pub stops : s.word Rattle.core_state.specs.Words.stop ≡ min 1 (s.total (facts is_stops))
    pub closed : (k l w : ℕ) → 0 < s.total (facts (is_seen_closed k l w)) → 0 < many s (is_closed k l w)
    pub row_of_life : (k l : ℕ) (w : Word) → 0 < s.total (facts (is_seen_life k w l)) → HasRow k
    pub row_of_mark : (k l : ℕ) (w : Word) → 0 < s.total (facts (is_seen_mark k w l)) → HasRow k
    -- a word shows no earlier life than was seen, and the mark that was seen or a later life
    pub life : (r k l : ℕ) (w : Word) → HasKey r k → 0 < s.total (facts (is_seen_life k w l)) → l ≤ life_shown w (s.word (spot_of r w))
    pub mark : (r k l : ℕ) (w : Word) → HasKey r k → 0 < s.total (facts (is_seen_mark k w l)) → (l < life_shown w (s.word (spot_of r w))) ⊎ ((l ≡ life_shown w (s.word (spot_of r w))) × (mark_shown w (s.word (spot_of r w)) ≡ 1))
