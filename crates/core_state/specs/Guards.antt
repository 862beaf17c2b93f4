-- What each call asks of the view of the seat that steps. The item that it serves is the topmost of the stack that came last.
use Rattle.std.specs.Prelude.{◌≡◌, ℕ, ℤ, pos, negsuc, map, ◌+◌, ◌/◌, ◌^◌, ◌<◌, Bool, true, false, List, [], ◌∷◌}
use mathlib.Core.Option.{some, none}
use Rattle.core_state.specs.Graph.{Setting, greatest_life}
use Rattle.core_state.specs.Words.{empty_word}
use Rattle.core_state.specs.Counts.{items, knows_row, facts}
use Rattle.core_state.specs.Tests.{is_owe, is_exploring, is_seen_closed}
use Rattle.core_state.specs.Views.{strike_next}
use Rattle.core_state.specs.Effects.{others_before, distance, has_idle}
use Rattle.core_state.specs.declared.job.Job.{Job}
use Rattle.graph_model.specs.declared.plan.Target.{Target}
use Rattle.graph_model.specs.declared.plan.Target.TheVariants as target
use Rattle.graph_model.specs.declared.record.Cause.{Cause}
use Rattle.core_state.specs.declared.views.Item.{Item}
use Rattle.core_state.specs.declared.views.Item.TheVariants as item
use Rattle.core_state.specs.declared.views.Stack.{Stack}
use Rattle.core_state.specs.declared.block.BlockCells.{BlockCells}
use Rattle.core_state.specs.declared.views.Hand.{Hand}
use Rattle.core_state.specs.declared.views.View.{View}

-- a cell with each bit complemented
abbrev pub flipped : ℤ → ℤ
flipped (pos n) = negsuc n
flipped (negsuc n) = pos n

-- the item is served next
pub record AtWork (v : View) (x : Item) : Type 0 where
  pub stack : Stack
  pub others : List Stack
  pub below : List Item
  pub stacks_are : v.stacks ≡ stack ∷ others
  pub items_are : stack.items ≡ x ∷ below

-- the block was taken last, and held this
pub record InHand (v : View) (b : ℕ) (x : BlockCells) : Type 0 where
  pub others : List Hand
  pub hands_are : v.hands ≡ record { block = b; held = x } ∷ others

module _ (e : Setting) (v : View) where
  -- the row is one of the table, and the view knows that it is that of the key
  pub record KnowsRow (r k : ℕ) : Type 0 where
    pub low : r < e.shape.rows
    pub row_known : 0 < knows_row r k v

  -- the notify word at which the port is registered was seen closed, or closed by this view, in some life
  pub record KnowsClosed (p q : ℕ) : Type 0 where
    pub life : ℕ
    pub closed_known : 0 < facts (is_seen_closed p life (q / 40)) v

  -- some exploring has come to a place that names the key, and each row on the key's path before this one is known to hold another key
  pub record CanClaim (r k : ℕ) : Type 0 where
    pub explorer : ℕ
    pub life : ℕ
    pub place : ℕ
    pub low : r < e.shape.rows
    pub exploring : 0 < items (is_exploring explorer life place) v
    pub is_place : place < e.graph.places explorer
    pub names : (e.graph.pred explorer place).task ≡ k
    pub path : others_before e.shape.rows k v.known (distance e.shape.rows k r) ≡ true

  -- any row of the table may be looked at
  pub record CanLook (r : ℕ) : Type 0 where
    pub low : r < e.shape.rows

  -- the word is one of the key, whose row the view knows
  pub record CanLoadNotify (r k w : ℕ) : Type 0 where
    pub row : KnowsRow r k
    pub word_in : w < e.graph.notify_words k

  -- the edge at whose port a successor is registered
  pub data Registers (p q : ℕ) : Type 0 where
    exploring : (k l j : ℕ) → AtWork v (item.Explore k l j) → j < e.graph.places k → (e.graph.pred k j).task ≡ p → (e.graph.pred k j).port ≡ q → Registers p q
    reentering : (l r : ℕ) (qs : List ℕ) → AtWork v (item.Reenter p l (q ∷ qs)) → q < e.graph.ports p → 0 < knows_row r (e.graph.succ p q).task v → Registers p q

  -- the view knows the row of p, and the item at work has an edge at this port
  pub record CanRegister (r p q : ℕ) : Type 0 where
    pub row : KnowsRow r p
    pub edge : Registers p q

  -- the edge that spends place j of k, or exploring that has passed its last place
  pub data Spends (k j : ℕ) : Type 0 where
    exploring : (l : ℕ) → AtWork v (item.Explore k l j) → j < e.graph.places k → KnowsClosed (e.graph.pred k j).task (e.graph.pred k j).port → Spends k j
    notifying : (p l w q : ℕ) (qs : List ℕ) → AtWork v (item.Notify p l w (q ∷ qs)) → q < e.graph.ports p → (e.graph.succ p q).task ≡ k → (e.graph.succ p q).place ≡ j → KnowsClosed p q → Spends k j
    reentering : (p l q : ℕ) (qs : List ℕ) → AtWork v (item.Reenter p l (q ∷ qs)) → q < e.graph.ports p → (e.graph.succ p q).task ≡ k → (e.graph.succ p q).place ≡ j → KnowsClosed p q → Spends k j
    itself : (l : ℕ) → AtWork v (item.Explore k l (e.graph.places k)) → j ≡ 40 → Spends k j

  -- no strike is left at the point that the item at work has come to: the strikes of a point are made before the seat goes on
  pub record InOrder : Type 0 where
    pub no_strike : strike_next e.graph e.plan v ≡ none

  -- the view knows the row of k, and the item at work, which has come in order, spends this place
  pub record CanSpend (r k j : ℕ) : Type 0 where
    pub row : KnowsRow r k
    pub edge : Spends k j
    pub order : InOrder

  -- what is taken to be seen is a word of that life that is neither closed nor struck, and the closing has come in order
  pub record CanClose (r k l w seen : ℕ) : Type 0 where
    pub row : KnowsRow r k
    pub word_in : w < e.graph.notify_words k
    pub at_work : AtWork v (item.Close k l w)
    pub ports : ℕ
    pub small : ports < 2 ^ 40
    pub seen_is : seen ≡ empty_word l + ports
    pub order : InOrder

  -- the view suspects this life with this cause, and a further life is allowed
  pub record CanElect (r k l : ℕ) (c : Cause) (waits : Bool) : Type 0 where
    pub row : KnowsRow r k
    pub at_work : AtWork v (item.Suspect k l c waits)
    pub not_last : l < greatest_life e k

  -- the view renews this life, and this notify word comes next
  pub record CanRenewNotify (r k l w : ℕ) : Type 0 where
    pub row : KnowsRow r k
    pub word_in : w < e.graph.notify_words k
    pub at_work : AtWork v (item.Renew k l w)

  -- the view renews this life and has renewed all notify words
  pub record CanRenewDescriptor (r k l : ℕ) : Type 0 where
    pub row : KnowsRow r k
    pub at_work : AtWork v (item.Renew k l (e.graph.notify_words k))

  -- the view has renewed all words of this life
  pub record CanFinish (r k l : ℕ) : Type 0 where
    pub row : KnowsRow r k
    pub at_work : AtWork v (item.Renew k l (e.graph.notify_words k + 1))

  -- the next strike of the plan at the point that the item at work has come to
  pub record MakesStrike (k l : ℕ) (on : Target) : Type 0 where
    pub strike : ℕ
    pub is_next : strike_next e.graph e.plan v ≡ some strike
    pub of_key : (e.plan.strike strike).key.0 ≡ k
    pub of_life : (e.plan.strike strike).life ≡ l
    pub on_target : (e.plan.strike strike).target ≡ on

  -- the next strike is on the descriptor of the key, whose row the view knows
  pub record CanStrikeDescriptor (r k l : ℕ) : Type 0 where
    pub row : KnowsRow r k
    pub strikes : MakesStrike k l target.Descriptor

  -- the next strike is on this notify word, and the key has it
  pub record CanStrikeNotify (r k l w : ℕ) : Type 0 where
    pub row : KnowsRow r k
    pub word_in : w < e.graph.notify_words k
    pub strikes : MakesStrike k l (target.Notify w)

  -- the view owes this job and has a credit for it
  pub record CanPost (r : ℕ) (i : Job) (k l : ℕ) : Type 0 where
    pub row : KnowsRow r k
    pub at_work : AtWork v (item.Owe k i l)
    pub credit : 0 < v.spare

  -- fewer spare credits than jobs that are owed
  pub record CanBuy : Type 0 where
    pub needed : v.spare < items is_owe v

  -- the view has a stack without items, or a spare credit
  pub data CanDropCredit : Type 0 where
    idle_stack : has_idle v.stacks ≡ true → CanDropCredit
    spare_credit : 0 < v.spare → CanDropCredit

  -- no other block is in hand; the root's is taken only to write the root's result
  pub record CanTakeTurn (b : ℕ) : Type 0 where
    pub low : b < e.shape.blocks
    pub free : v.hands ≡ []
    pub of_root : b ≡ e.graph.block e.graph.root → (l read : ℕ) × AtWork v (item.Compute e.graph.root l true read true)

  -- the result of the key was made, and the block in hand now holds it: the serial value, the version, no mark
  pub record CanGiveWritten (k l b : ℕ) (was now : BlockCells) : Type 0 where
    pub hand : InHand v b was
    pub read : ℕ
    pub at_work : AtWork v (item.Compute k l true read true)
    pub block_is : b ≡ e.graph.block k
    pub tag_is : now.tag ≡ e.graph.version k
    pub unstruck : now.struck ≡ false
    pub cells_are : now.cells ≡ e.graph.value k

  -- the next strike is on the block of the key, which held the version of the key unstruck, and is now marked, with each cell complemented
  pub record CanGiveStruck (k l b : ℕ) (was now : BlockCells) : Type 0 where
    pub hand : InHand v b was
    pub strikes : MakesStrike k l target.Block
    pub block_is : b ≡ e.graph.block k
    pub tag_was : was.tag ≡ e.graph.version k
    pub unstruck : was.struck ≡ false
    pub tag_is : now.tag ≡ was.tag
    pub struck : now.struck ≡ true
    pub cells_are : now.cells ≡ map flipped was.cells

  -- all inputs were read, and the result was not made yet
  pub record CanCompute (k l : ℕ) : Type 0 where
    pub at_work : AtWork v (item.Compute k l true (e.graph.inputs k) false)
