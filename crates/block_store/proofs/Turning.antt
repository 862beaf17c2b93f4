-- What the turn of a block leaves of the view's work.
use Rattle.std.proofs.Common.{◌≡◌, ◌∙◌, ℕ, ◌+◌, Bool, true, false, cond, eqb, eq-eqb, nat_lt, ◌&&◌, List, [], ◌∷◌, ap, sym, subst, refl}
use Rattle.std.proofs.lemmas.Bool.{lt-ltb}
use Rattle.core_state.specs.Guards.{AtWork}
use Rattle.core_state.specs.Effects.{is_good, found_in, read_items, missed_by}
use Rattle.core_state.specs.Graph.{Setting}
use Rattle.core_state.specs.Events.{after, Event as event}
use Rattle.core_state.specs.Views.{on_top, settle, strike_next, unfinished}
use Rattle.core_state.specs.declared.block.BlockCells.{BlockCells}
use Rattle.core_state.specs.declared.views.Item.{Item}
use Rattle.core_state.specs.declared.views.Item.TheVariants as item
use Rattle.core_state.specs.declared.views.Stack.{Stack}
use Rattle.core_state.specs.declared.views.View.{View}
use Rattle.graph_model.specs.declared.record.Cause.TheVariants as cause
use Rattle.block_store.specs.Turned.{ReadsNext, read_item, read_of}
use Rattle.block_store.specs.declared.answers.Read.{Read}
use Rattle.block_store.specs.declared.answers.Read.TheVariants as read

-- one item is at work
same_work : (v : View) (x y : Item) → AtWork v x → AtWork v y → x ≡ y
same_work v x y a b =
    let s = a.stacks_are in
    let t = b.stacks_are in
    let i = a.items_are in
    let j = b.items_are in
    let tops : a.stack ≡ b.stack = cc in
    let whole : (x ∷ a.below) ≡ (y ∷ b.below) = sym i ∙ ap (λ (u : Stack). u.items) tops ∙ j in
    cc

-- the items of the last stack are changed, and this one then stands above the others
turned_work : (f : List Item → List Item) (v w : View) (x y : Item) (a : AtWork v x) → w.stacks ≡ on_top f v.stacks → f (x ∷ a.below) ≡ y ∷ a.below → AtWork w y
turned_work f v w x y a s h = record {
  stack = record a.stack { items = f a.stack.items };
  others = a.others;
  below = a.below;
  stacks_are = s ∙ ap (on_top f) a.stacks_are;
  items_are = ap f a.items_are ∙ h;
}

module _ (e : Setting) (v w : View) (b : ℕ) where
  -- taking a block leaves a computing at work
  takes_work : (x : BlockCells) (n k l read : ℕ) (made : Bool) → w ≡ after e (event.take_turn b x) n v → AtWork v (item.Compute k l true read made) → AtWork w (item.Compute k l true read made)
  takes_work x n k l read made h a = turned_work (unfinished e.graph e.plan v.strikes) v w _ _ a (ap (λ (u : View). u.stacks) h ∙ by (eqb n 0)) refl
    where
      by : (q : Bool) → (settle e.graph e.plan (cond q (record v { hands = record { block = b; held = x } ∷ v.hands }) v)).stacks ≡ on_top (unfinished e.graph e.plan v.strikes) v.stacks
      by true = refl
      by false = refl

  -- the next input is the same one
  pub takes_next : (f : Setting) (version : ℕ) (x : BlockCells) (n : ℕ) → f ≡ e → w ≡ after e (event.take_turn b x) n v → ReadsNext e v b version → ReadsNext f w b version
  takes_next f version x n same h r = let P : Setting → Type 0 = λ g. ReadsNext g w b version in subst P (sym same) (record {
    key = r.key;
    life = r.life;
    read = r.read;
    made = r.made;
    at_work = takes_work x n r.key r.life r.read r.made h r.at_work;
    is_input = r.is_input;
    block_is = r.block_is;
    version_is = r.version_is;
  })

  -- the item that reading the next input leaves
  read_left : (made_strikes : List ℕ) (version : ℕ) (x : BlockCells) (r : ReadsNext e v b version) (below : List Item) → unfinished e.graph e.plan made_strikes (read_items e.graph b x (item.Compute r.key r.life true r.read r.made ∷ below)) ≡ read_item b version (read_of version x) (item.Compute r.key r.life true r.read r.made) ∷ below
  read_left made_strikes version x r below =
      let p = (e.graph.pred r.key r.read).task in
      let f : Bool → List Item = λ q. unfinished e.graph e.plan made_strikes (cond q (chosen (e.graph.version p)) (item.Compute r.key r.life true r.read r.made ∷ below)) in
      let low = lt-ltb r.read (e.graph.inputs r.key) r.is_input in
      let here = eq-eqb b (e.graph.block p) r.block_is in
      let met : (nat_lt r.read (e.graph.inputs r.key) && eqb b (e.graph.block p)) ≡ true = ap (λ (q : Bool). q && eqb b (e.graph.block p)) low ∙ here in
      ap f met ∙ ap (λ (n : ℕ). unfinished e.graph e.plan made_strikes (chosen n)) (sym r.version_is) ∙ by (is_good version x)
    where
      chosen : ℕ → List Item
      chosen n = cond (is_good n x) (item.Compute r.key r.life true (r.read + 1) r.made ∷ below) (item.Suspect r.key r.life (cause.Block b n (found_in n x)) false ∷ below)

      by : (q : Bool) → unfinished e.graph e.plan made_strikes (cond q (item.Compute r.key r.life true (r.read + 1) r.made ∷ below) (item.Suspect r.key r.life (cause.Block b version (found_in version x)) false ∷ below)) ≡ read_item b version (cond q read.Good (read.Bad (found_in version x))) (item.Compute r.key r.life true r.read r.made) ∷ below
      by true = refl
      by false = refl

  -- what is at work after a reading
  pub reads_work : (version : ℕ) (x : BlockCells) (n : ℕ) (answer : Read) → answer ≡ read_of version x → w ≡ after e (event.give_read b x) n v → ReadsNext e v b version → (y : Item) → AtWork v y → AtWork w (read_item b version answer y)
  reads_work version x n answer told h r y a =
      let strikes = missed_by e.graph e.plan b x (strike_next e.graph e.plan v) v.strikes in
      let f : List Item → List Item = λ xs. unfinished e.graph e.plan strikes (read_items e.graph b x xs) in
      let stacks : w.stacks ≡ on_top f v.stacks = ap (λ (u : View). u.stacks) h ∙ twice (unfinished e.graph e.plan strikes) (read_items e.graph b x) v.stacks in
      let of_answer : Read → Item → Type 0 = λ z i. AtWork w (read_item b version z i) in
      let left = turned_work f v w _ _ r.at_work stacks (read_left strikes version x r r.at_work.below) in
      subst (of_answer answer) (same_work v _ _ r.at_work a) (subst (λ z. of_answer z (item.Compute r.key r.life true r.read r.made)) (sym told) left)
    where
      twice : (f g : List Item → List Item) (ss : List Stack) → on_top f (on_top g ss) ≡ on_top (λ xs. f (g xs)) ss
      twice f g [] = refl
      twice f g (s ∷ ss) = refl
