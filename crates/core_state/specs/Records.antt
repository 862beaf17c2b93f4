-- The parts of the invariant that speak of records: their laws, and what the strikes that were made have left.
use Rattle.std.specs.Prelude.{◌≡◌, ◌≢◌, ◌⊎◌, ℕ, ◌+◌, ◌<◌, ◌≤◌, nat_lt, ◌&&◌}
use Rattle.core_state.specs.Graph.{Setting}
use Rattle.graph_model.specs.declared.plan.Strike.{Strike}
use Rattle.core_state.specs.Words.{descriptor, notify, recovery, life_of, mark_of, standing_life, replacing}
use Rattle.core_state.specs.Counts.{hit, items, struck_by, struck_idly, struck_upto}
use Rattle.core_state.specs.Tests.{is_suspect_for, is_replaced, is_of, is_struck_from, is_struck_upto, is_misstruck}
use Rattle.core_state.specs.Change.{Core, many}
use Rattle.core_state.specs.Laws.{SpentOnce, ComputedOnce, LivesNamed, SpentByEdge, CausesShown, Shown, Grounded, BlockStruck}
use Rattle.core_state.specs.Rows.{HasKey}
use Rattle.core_state.specs.Views.{has_word}
use Rattle.graph_model.specs.declared.record.Hit.{Hit}
use Rattle.graph_model.specs.declared.record.Hit.TheVariants as hit_of
use Rattle.graph_model.specs.declared.record.Cause.{Cause}
use Rattle.graph_model.specs.declared.plan.Point.TheVariants as point
use Rattle.graph_model.specs.declared.plan.Target.TheVariants as target

module _ (e : Setting) (s : Core) where
  -- the laws hold of all views' records together. A life was replaced exactly where the key's recovery word says so; with this no life is replaced twice.
  pub record Records : Type 0 where
    pub spent : SpentOnce e.graph (many s)
    pub computed : ComputedOnce e.graph (many s)
    pub lives : LivesNamed e.graph (many s)
    pub edges : SpentByEdge e.graph (many s)
    pub some_life : (k : ℕ) → many s (is_of k 0) ≡ 0
    pub replaced : (r k l : ℕ) → HasKey e s r k → many s (is_replaced k l) ≡ hit (nat_lt 0 l && nat_lt l (standing_life (s.word (recovery r)) + replacing (s.word (recovery r))))
    pub names_own : many s (is_misstruck e.graph) ≡ 0

  -- the cause of each replacement and of each suspect is shown
  pub record Causes : Type 0 where
    pub replaced : CausesShown e.graph (many s) (Grounded e.graph (many s))
    pub suspected : (k l : ℕ) (c : Cause) → 0 < s.total (items (is_suspect_for k l c)) → Shown e.graph (many s) (Grounded e.graph (many s)) k l c

  -- what a strike that was made on a word leaves: it landed then or before, and its mark stands or a later life is shown
  pub record Landed (k l n : ℕ) (h : Hit) : Type 0 where
    pub recorded : 0 < many s (is_struck_from k l h)
    pub stands : (l < life_of n) ⊎ ((l ≤ life_of n) × (mark_of n ≡ 1))

  -- the strike at the place n of the plan
  pub record StrikeOk (n : ℕ) (x : Strike) : Type 0 where
    pub once : s.total (struck_by n) ≤ 1
    pub by_its_job : s.total (struck_idly x n) ≡ 0
    pub has_word : 0 < s.total (struck_by n) → has_word e.graph x.key.0 x.target ≡ Rattle.std.specs.Prelude.true
    pub on_descriptor : (r : ℕ) → HasKey e s r x.key.0 → 0 < s.total (struck_by n) → x.target ≡ target.Descriptor → Landed x.key.0 x.life (s.word (descriptor r)) hit_of.Descriptor
    pub on_notify : (r w : ℕ) → HasKey e s r x.key.0 → 0 < s.total (struck_by n) → x.target ≡ target.Notify w → Landed x.key.0 x.life (s.word (notify r w)) (hit_of.Notify w)
    pub on_block : 0 < s.total (struck_by n) → x.target ≡ target.Block → (x.point ≡ point.Computed) ⊎ (x.point ≡ point.Notified) → BlockStruck e.graph e.plan (many s) x.key.0

  -- so it is for each strike of the plan, and the records name no other
  pub record Strikes : Type 0 where
    pub each : (n : ℕ) → n < e.plan.count → StrikeOk n (e.plan.strike n)
    pub planned : (n : ℕ) → e.plan.count ≤ n → s.total (struck_by n) ≡ 0
    -- the strikes that landed on a target up to a life are at most those made on it up to this life
    pub few : (k l : ℕ) (h : Hit) → many s (is_struck_upto k l h) ≤ s.total (struck_upto e.plan k l h)
