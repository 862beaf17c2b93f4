-- The strikes of the plan at a point: which of them are made, which one is next, and what a step of it does.
use Rattle.std.specs.Prelude.{◌≡◌, ℕ, zero, suc, ◌+◌, ◌<◌, ◌≤◌, Bool, true, false, ◌&&◌, cond, nat_lt, eqb, List, [], ◌∷◌, Option, Some, None, drop}
use mathlib.Core.Option.{some}
use Rattle.graph_model.specs.Plans.{hits}
use Rattle.graph_model.specs.declared.plan.Point.{Point}
use Rattle.graph_model.specs.declared.plan.Point.TheVariants as point
use Rattle.graph_model.specs.declared.plan.Strike.{Strike}
use Rattle.graph_model.specs.declared.plan.Target.{Target}
use Rattle.graph_model.specs.declared.plan.Target.TheVariants as target
use Rattle.core_state.specs.Guards.{MakesStrike}
use Rattle.core_state.specs.Counts.{bump, known_key}
use Rattle.core_state.specs.Tests.{is_in, same_point, two}
use Rattle.core_state.specs.Graph.{Graph, Plan, Setting}
use Rattle.core_state.specs.Events.{Event}
use Rattle.core_state.specs.Events.Event.{strike_descriptor, strike_notify, take_turn}
use Rattle.core_state.specs.Views.{has_word, strike_next}
use Rattle.core_state.specs.declared.block.BlockCells.{BlockCells}
use Rattle.core_state.specs.declared.views.View.{View}
use Rattle.core_state.specs.declared.words.NotifyWord.{NotifyWord}
use Rattle.core_steps.specs.Seat.{TurnTells, cells_in}
use Rattle.block_store.specs.Turned.{IsTaken, blow_of, struck_home}
use Rattle.compute_notify.specs.declared.close.Close.{Close}
use Rattle.compute_notify.specs.declared.compute.Phase.{Phase}
use Rattle.compute_notify.specs.declared.compute.Phase.TheVariants as phase
use Rattle.compute_notify.specs.declared.duty.Duty.{Duty}
use Rattle.compute_notify.specs.declared.explore.Explore.{Explore}
use Rattle.compute_notify.specs.declared.item.Item.{Item}
use Rattle.compute_notify.specs.declared.item.Item.TheVariants as item
use Rattle.compute_notify.specs.declared.strikes.Next.{Next}

-- the task, which has so many notify words, has what the strike names
abbrev pub has_target : ℕ → Target → Bool
has_target words (target.Notify w) = nat_lt w words
has_target words target.Descriptor = true
has_target words target.Block = true

-- the first of these targets that the task has, and how many have come up to it, counted from n
abbrev pub next_hit : ℕ → ℕ → List Target → Option Next
next_hit words n [] = None
next_hit words n (t ∷ ts) = cond (has_target words t) (Some (record { target = t; made = n + 1 })) (next_hit words (n + 1) ts)

-- the strike names this point of this life of the key
abbrev pub names : Point → ℕ → ℕ → Strike → Bool
names at k l s = same_point at s.point && two k l s.key.0 s.life

-- how many of the first n strikes of the plan name this point of this life
abbrev pub rank : Plan → Point → ℕ → ℕ → ℕ → ℕ
rank p at k l zero = 0
rank p at k l (suc n) = bump (names at k l (p.strike n)) (rank p at k l n)

-- of the strikes at a point of a life, on words that the task has, the view has made exactly those of which fewer than `made` stand before them
pub record FitsStrikes (e : Setting) (v : View) (at : Point) (k l made : ℕ) : Type 0 where
  pub made_are : (n : ℕ) → n < e.plan.count → names at k l (e.plan.strike n) ≡ true → has_word e.graph k (e.plan.strike n).target ≡ true → is_in n v.strikes ≡ nat_lt (rank e.plan at k l n) made
  pub few : made ≤ 4096

-- the strike of the list that is next at a point of a duty
abbrev pub next_at : Graph → List Strike → Point → Duty → ℕ → Option Next
next_at g strikes at duty made = next_hit (g.notify_words duty.key.0) made (drop made (hits at duty.key duty.life strikes))

-- the next strike of a closing, before its first word or behind its last
abbrev pub close_left : Graph → List Strike → Close → Option Next
close_left g strikes c = cond (eqb c.word 0) (next_at g strikes point.Computed c.duty c.made) (cond (nat_lt c.word (g.notify_words c.duty.key.0)) None (next_at g strikes point.Notified c.duty c.made))

-- the next strike of an exploring, behind its last place
abbrev pub explore_left : Graph → List Strike → Explore → Option Next
explore_left g strikes x = cond (nat_lt x.place (g.places x.duty.key.0)) None (next_at g strikes point.Explored x.duty x.made)

-- the next strike of a computing, before its look at the descriptor
abbrev pub compute_left : Graph → List Strike → Duty → Phase → Option Next
compute_left g strikes duty (phase.Ready made) = next_at g strikes point.Ready duty made
compute_left g strikes duty (phase.Reading input) = None
compute_left g strikes duty phase.Writing = None

-- the next strike of an item, if it is at a point
abbrev pub strike_left : Graph → List Strike → Item → Option Next
strike_left g strikes (item.Explore x) = explore_left g strikes x
strike_left g strikes (item.Compute c) = compute_left g strikes c.duty c.phase
strike_left g strikes (item.Close c) = close_left g strikes c
strike_left g strikes _ = None

-- A block that was taken for a strike on it is in hand alone, and the strike is next.
abbrev pub FitsHand : Setting → View → ℕ → ℕ → Option BlockCells → Type 0
FitsHand e v k l None = v.hands ≡ []
FitsHand e v k l (Some x) = IsTaken e v (e.graph.block k) x × (v.hands ≡ record { block = e.graph.block k; held = x } ∷ []) × MakesStrike e v k l target.Block

-- the next strike was made, and nothing is in hand
pub record IsStruck (e : Setting) (v w : View) (now : Option BlockCells) : Type 0 where
  pub hands_free : w.hands ≡ []
  pub none_now : now ≡ None
  pub strikes_are : (n : ℕ) → strike_next e.graph e.plan v ≡ some n → w.strikes ≡ n ∷ v.strikes

-- the block was asked for, of which nothing was in hand: it is in hand where its turn word was 0, and no strike was made
pub record IsAsked (e : Setting) (v w : View) (k l : ℕ) (on : Target) (before now : Option BlockCells) (n : ℕ) : Type 0 where
  pub on_block : on ≡ target.Block
  pub none_before : before ≡ None
  pub turn : TurnTells now n
  pub hand : FitsHand e w k l now
  pub same_strikes : w.strikes ≡ v.strikes

-- what a strike's step tells: whether the strike was made, and else that its block was asked for
abbrev pub StrikeTells : Setting → View → View → ℕ → ℕ → Target → Option BlockCells → Option BlockCells → ℕ → Bool → Type 0
StrikeTells e v w k l on before now n true = IsStruck e v w now
StrikeTells e v w k l on before now n false = IsAsked e v w k l on before now n

-- how a block goes home that was taken for a strike of the key
abbrev pub block_event : Setting → Duty → Option BlockCells → Option BlockCells → Event
block_event e duty None now = take_turn (e.graph.block duty.key.0) (cells_in now)
block_event e duty (Some x) now = struck_home duty.key.0 duty.life (e.graph.block duty.key.0) (blow_of (e.graph.version duty.key.0) x) x

-- the event of a strike's step, by its target and by the block in hand before and after
abbrev pub strike_event : Setting → View → Duty → Target → Option BlockCells → Option BlockCells → Event
strike_event e v duty target.Descriptor h now = strike_descriptor duty.row (known_key duty.row v) duty.life
strike_event e v duty (target.Notify w) h now = strike_notify duty.row (known_key duty.row v) duty.life w
strike_event e v duty target.Block h now = block_event e duty h now

-- how a word is taken to be that was seen last as this, or not at all: empty, of the life
abbrev pub seen_word : ℕ → Option NotifyWord → NotifyWord
seen_word l None = record { life = l; struck = false; closed = false; ports = 0 }
seen_word l (Some x) = x
