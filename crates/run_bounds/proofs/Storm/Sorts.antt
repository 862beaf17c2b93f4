-- What a step of an item is, whatever was struck: it closes a word, posts a job, elects, renews, or is one of the others.
use Rattle.std.proofs.Common.{◌≡◌, ◌⊎◌, ℕ, ◌+◌, ◌/◌, ◌<◌, Bool, false, List, [], ◌∷◌, None, length, refl}
use Rattle.graph_model.specs.declared.plan.Strike.{Strike}
use Rattle.graph_model.specs.declared.record.Cause.{Cause}
use Rattle.core_state.specs.Counts.{ended, held, items}
use Rattle.core_state.specs.Events.{Event}
use Rattle.core_state.specs.Events.Event.{load_descriptor, load_recovery, register, spend, close, elect, renew_notify, renew_descriptor, finish, post, take, take_turn, give_read, give_written}
use Rattle.core_state.specs.Graph.{Setting}
use Rattle.core_state.specs.Guards.{KnowsRow}
use Rattle.core_state.specs.Lines.{Line, flat, of}
use Rattle.core_state.specs.Tests.{is_any_suspect}
use Rattle.core_state.specs.Words.{life_of, mark_of}
use Rattle.core_state.specs.declared.job.Job.{Job}
use Rattle.core_state.specs.declared.job.Job.TheVariants as job
use Rattle.core_state.specs.declared.views.Item.TheVariants as line
use Rattle.core_state.specs.declared.views.View.{View}
use Rattle.compute_notify.specs.Striking.{strike_left}
use Rattle.compute_notify.specs.declared.close.Close.{Close}
use Rattle.compute_notify.specs.declared.item.Item.{Item}
use Rattle.compute_notify.specs.declared.item.Item.TheVariants as item
use Rattle.run_bounds.specs.Shared.{IsPlain}
use Rattle.run_bounds.specs.Struck.{IsBlamed}
use Rattle.run_bounds.proofs.JobEvents.{Serves}
use Rattle.run_bounds.proofs.Storm.Words.{on_job}

-- a computing read a bad block, and has ended
pub record ReadBad (v w : View) : Type 0 where
  pub key : ℕ
  pub life : ℕ
  pub held_before : 0 < held job.Compute key life v
  pub ended_now : 0 < ended job.Compute key life w
  pub suspects_now : 0 < items is_any_suspect w

-- A block that goes home as it was was read and let the rest fall, or was bad, or a strike missed it.
abbrev pub GoesHome : View → View → Type 0 → Type 0
GoesHome v w falls = falls ⊎ (ReadBad v w ⊎ (length w.strikes ≡ length v.strikes + 1))

-- What one of the other steps rests on. The number is the one that it found; a mark makes suspect.
abbrev pub Plain : Setting → View → View → View → ℕ → Type 0 → Event → Type 0
Plain e v u w n falls (load_descriptor r k) = KnowsRow e v r k × (mark_of n ≡ 1 → IsBlamed w k (life_of n))
Plain e v u w n falls (register r k q) = KnowsRow e v r k × (q / 40 < e.shape.notify_words)
Plain e v u w n falls (spend r k j) = KnowsRow e v r k
Plain e v u w n falls (take_turn b was) = (u.hands ≡ []) × (b < e.shape.blocks)
Plain e v u w n falls (give_read b was) = GoesHome v w falls
Plain e v u w n falls (give_written k l b was now) = (loaded : Bool) × (read : ℕ) × (made : Bool) × (rest : List Line) × (flat u.stacks ≡ of (line.Compute k l loaded read made) ∷ rest)
Plain e v u w n falls (close r k l m seen) = ⊥
Plain e v u w n falls (post r i k l) = ⊥
Plain e v u w n falls (take r i k) = ⊥
Plain e v u w n falls (load_recovery r k) = ⊥
Plain e v u w n falls (elect r k l c waits) = ⊥
Plain e v u w n falls (renew_notify r k l d) = ⊥
Plain e v u w n falls (renew_descriptor r k l) = ⊥
Plain e v u w n falls (finish r k l) = ⊥
Plain e v u w n falls _ = Unit {0}

-- a step of a renewal
abbrev pub Renews : Event → ℕ → ℕ → ℕ → ℕ → Type 0
Renews x r k l d = (x ≡ renew_notify r k l d) ⊎ ((x ≡ renew_descriptor r k l) ⊎ (x ≡ finish r k l))

pub data Sort (e : Setting) (p : List Strike) (v u w : View) (n : ℕ) (falls : Type 0) (y : Item) (x : Event) (rows : List ℕ) : Type 0 where
  closes : (c : Close) → y ≡ item.Close c → strike_left e.graph p (item.Close c) ≡ None → Sort e p v u w n falls y x rows
  posts : (r : ℕ) (i : Job) (k l : ℕ) (b : List Line) → x ≡ post r i k l → rows ≡ r ∷ [] → u ≡ v → KnowsRow e v r k → flat v.stacks ≡ of (line.Owe k i l) ∷ b → Sort e p v u w n falls y x rows
  elects : (r k l : ℕ) (c : Cause) (waits : Bool) (b : List Line) → x ≡ elect r k l c waits → rows ≡ [] → u ≡ v → KnowsRow e v r k → flat v.stacks ≡ of (line.Suspect k l c waits) ∷ b → Sort e p v u w n falls y x rows
  renews : (r k l d : ℕ) (b : List Line) → Renews x r k l d → rows ≡ [] → u ≡ v → KnowsRow e v r k → flat v.stacks ≡ of (line.Renew k l d) ∷ b → Sort e p v u w n falls y x rows
  serves : Plain e v u w n falls x → IsPlain v → rows ≡ [] → Sort e p v u w n falls y x rows

module _ (e : Setting) (v u w : View) (n : ℕ) (falls : Type 0) where
  pub plain_serves : (x : Event) → Plain e v u w n falls x → Serves x (flat u.stacks)
  plain_serves (load_recovery r k) is = absurd is
  plain_serves (close r k l m seen) is = absurd is
  plain_serves (elect r k l c waits) is = absurd is
  plain_serves (renew_notify r k l d) is = absurd is
  plain_serves (renew_descriptor r k l) is = absurd is
  plain_serves (finish r k l) is = absurd is
  plain_serves (post r i k l) is = absurd is
  plain_serves (give_written k l b was now) is = is
  plain_serves x is = tt

  -- it steps on no job word
  pub plain_apart : (x : Event) → Plain e v u w n falls x → on_job x ≡ false
  plain_apart (post r i k l) is = absurd is
  plain_apart (take r i k) is = absurd is
  plain_apart x is = refl
