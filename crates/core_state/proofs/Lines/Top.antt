-- The first line of a view's stacks says which item is at work, and finished items leave the first lines.
use Rattle.std.proofs.Common.{◌≡◌, ℕ, Bool, true, false, cond, List, [], ◌∷◌, ◌++◌, refl, ap, sym, ◌∙◌}
use mathlib.Core.Option.{none}
use Rattle.core_state.specs.Graph.{Setting, Graph, Plan}
use Rattle.core_state.specs.Views.{is_finished, unfinished, on_top, top_items, strike_next, strike_at, strike_of, passing}
use Rattle.core_state.specs.Effects.{has_idle, is_idle_stack, without_idle}
use Rattle.core_state.specs.Guards.{AtWork, CanDropCredit}
use Rattle.core_state.specs.Guards.CanDropCredit.{idle_stack}
use Rattle.core_state.specs.Lines.{Line, of, credit, onto, flat, settled, stands, change_first, dropped}
use Rattle.core_state.specs.declared.views.Item.{Item}
use Rattle.core_state.specs.declared.views.Stack.{Stack}
use Rattle.core_state.specs.declared.views.View.{View}

-- the first line is this one, and what stands below it
pub record Topped (ss : List Stack) (x : Item) (b : List Line) : Type 0 where
  pub stack : Stack
  pub others : List Stack
  pub below : List Item
  pub stacks_are : ss ≡ stack ∷ others
  pub items_are : stack.items ≡ x ∷ below
  pub rest_are : onto below (credit ∷ flat others) ≡ b

pub topped : (ss : List Stack) (x : Item) (b : List Line) → flat ss ≡ of x ∷ b → Topped ss x b
topped [] x b is = absurd cc
topped (s ∷ ss) x b is = by s.items refl is
  where
    by : (xs : List Item) → s.items ≡ xs → onto xs (credit ∷ flat ss) ≡ of x ∷ b → Topped (s ∷ ss) x b
    by [] its eq = absurd cc
    by (y ∷ ys) its eq = record { stack = s; others = ss; below = ys; stacks_are = refl; items_are = let a : y ≡ x = cc in its ∙ ap (λ z. z ∷ ys) a; rest_are = cc }

-- the item of the first line is served next
pub at_work : (v : View) (x : Item) (b : List Line) → flat v.stacks ≡ of x ∷ b → AtWork v x
at_work v x b is = let t = topped v.stacks x b is in record { stack = t.stack; others = t.others; below = t.below; stacks_are = t.stacks_are; items_are = t.items_are }

-- no line, a credit or an item comes first
pub lines_empty : (ss : List Stack) → flat ss ≡ [] → ss ≡ []
lines_empty [] is = refl
lines_empty (s ∷ ss) is = by s.items is
  where
    by : (xs : List Item) → onto xs (credit ∷ flat ss) ≡ [] → s ∷ ss ≡ []
    by [] eq = absurd cc
    by (y ∷ ys) eq = absurd cc

-- a credit on top is that of a stack without items
pub credit_idle : (ss : List Stack) (b : List Line) → flat ss ≡ credit ∷ b → has_idle ss ≡ true
credit_idle [] b is = absurd cc
credit_idle (s ∷ ss) b is = by s.items is
  where
    by : (xs : List Item) → onto xs (credit ∷ flat ss) ≡ credit ∷ b → cond (is_idle_stack xs) true (has_idle ss) ≡ true
    by [] eq = refl
    by (y ∷ ys) eq = absurd cc

pub can_drop : (e : Setting) (v : View) (b : List Line) → flat v.stacks ≡ credit ∷ b → CanDropCredit e v
can_drop e v b is = idle_stack (credit_idle v.stacks b is)

-- the strike that is made next is that of the first line
pub first_strike : (g : Graph) (p : Plan) (v : View) (x : Item) (b : List Line) → flat v.stacks ≡ of x ∷ b → strike_next g p v ≡ strike_at g p v.strikes (passing g x)
first_strike g p v x b is = let t = topped v.stacks x b is in ap (λ ss. strike_of g p v.strikes (top_items ss)) t.stacks_are ∙ ap (strike_of g p v.strikes) t.items_are

-- none is next where a credit stands on top
pub no_strike_above : (g : Graph) (p : Plan) (v : View) (b : List Line) → flat v.stacks ≡ credit ∷ b → strike_next g p v ≡ none
no_strike_above g p v b is = by v.stacks is
  where
    by : (ss : List Stack) → flat ss ≡ credit ∷ b → strike_of g p v.strikes (top_items ss) ≡ none
    by [] eq = absurd cc
    by (s ∷ ss) eq = of_items s.items eq
      where
        of_items : (xs : List Item) → onto xs (credit ∷ flat ss) ≡ credit ∷ b → strike_of g p v.strikes xs ≡ none
        of_items [] q = refl
        of_items (y ∷ ys) q = absurd cc

-- a change of the topmost item alone
pub record Local (f : List Item → List Item) : Type 0 where
  pub one : (x : Item) (xs : List Item) → f (x ∷ xs) ≡ f (x ∷ []) ++ xs

pub onto_more : (xs ys : List Item) (b : List Line) → onto (xs ++ ys) b ≡ onto xs (onto ys b)
onto_more [] ys b = refl
onto_more (x ∷ xs) ys b = ap (λ z. of x ∷ z) (onto_more xs ys b)

pub flat_changed : (f : List Item → List Item) → Local f → (ss : List Stack) → flat (on_top f ss) ≡ change_first f (flat ss)
flat_changed f local [] = refl
flat_changed f local (s ∷ ss) = by s.items
  where
    by : (xs : List Item) → onto (f xs) (credit ∷ flat ss) ≡ change_first f (onto xs (credit ∷ flat ss))
    by [] = refl
    by (x ∷ xs) = ap (λ z. onto z (credit ∷ flat ss)) (local.one x xs) ∙ onto_more (f (x ∷ [])) xs (credit ∷ flat ss)

-- an item above the others, where there is a stack
pub flat_pushed : (x : Item) (f : List Item → List Item) → Local f → (ss : List Stack) (y : Line) (b : List Line) → flat ss ≡ y ∷ b → flat (on_top (λ xs. x ∷ xs) (on_top f ss)) ≡ of x ∷ change_first f (flat ss)
flat_pushed x f local [] y b is = absurd cc
flat_pushed x f local (s ∷ ss) y b is = ap (λ z. of x ∷ z) (flat_changed f local (s ∷ ss))

pub flat_above : (x : Item) (ss : List Stack) (y : Line) (b : List Line) → flat ss ≡ y ∷ b → flat (on_top (λ xs. x ∷ xs) ss) ≡ of x ∷ flat ss
flat_above x [] y b is = absurd cc
flat_above x (s ∷ ss) y b is = refl

-- the credit of a stack without items goes, and where there is none, nothing
pub flat_dropped : (ss : List Stack) → flat (cond (has_idle ss) (without_idle ss) ss) ≡ dropped true (flat ss)
flat_dropped [] = refl
flat_dropped (s ∷ ss) = by s s.items refl (has_idle ss) (flat_dropped ss)
  where
    starts : (xs : List Item) → dropped false (onto xs (credit ∷ flat ss)) ≡ onto xs (credit ∷ dropped true (flat ss))
    starts [] = refl
    starts (x ∷ xs) = ap (λ z. of x ∷ z) (starts xs)

    by : (t : Stack) (xs : List Item) → t.items ≡ xs → (b : Bool) → flat (cond b (without_idle ss) ss) ≡ dropped true (flat ss)
        → flat (cond (cond (is_idle_stack xs) true b) (cond (is_idle_stack xs) ss (t ∷ without_idle ss)) (t ∷ ss)) ≡ dropped true (onto xs (credit ∷ flat ss))
    by t [] is b h = refl
    by t (x ∷ xs) is true h = ap (λ z. onto z (credit ∷ flat (without_idle ss))) is ∙ ap (λ z. of x ∷ onto xs (credit ∷ z)) h ∙ sym (ap (λ z. of x ∷ z) (starts xs))
    by t (x ∷ xs) is false h = ap (λ z. onto z (credit ∷ flat ss)) is ∙ ap (λ z. of x ∷ onto xs (credit ∷ z)) h ∙ sym (ap (λ z. of x ∷ z) (starts xs))

module _ (g : Graph) (p : Plan) (made : List ℕ) where
  settled_onto : (xs : List Item) (b : List Line) → onto (unfinished g p made xs) (credit ∷ b) ≡ settled g p made (onto xs (credit ∷ b))
  settled_onto [] b = refl
  settled_onto (x ∷ xs) b = by (settled_onto xs b) (is_finished g p made x)
    where
      by : onto (unfinished g p made xs) (credit ∷ b) ≡ settled g p made (onto xs (credit ∷ b)) → (c : Bool) → onto (cond c (unfinished g p made xs) (x ∷ xs)) (credit ∷ b) ≡ cond c (settled g p made (onto xs (credit ∷ b))) (of x ∷ onto xs (credit ∷ b))
      by h true = h
      by h false = refl

  pub flat_settled : (ss : List Stack) → flat (on_top (unfinished g p made) ss) ≡ settled g p made (flat ss)
  flat_settled [] = refl
  flat_settled (s ∷ ss) = settled_onto s.items (flat ss)

  -- where nothing finished stands on top, nothing goes
  pub settled_stands : (b : List Line) → stands g p made b ≡ true → settled g p made b ≡ b
  settled_stands [] is = refl
  settled_stands (credit ∷ b) is = refl
  settled_stands (of x ∷ b) is = by (is_finished g p made x) is
    where
      by : (c : Bool) → cond c false true ≡ true → cond c (settled g p made b) (of x ∷ b) ≡ of x ∷ b
      by true q = absurd cc
      by false q = refl

  -- what is left has nothing finished on top
  pub stands_settled : (b : List Line) → stands g p made (settled g p made b) ≡ true
  stands_settled [] = refl
  stands_settled (credit ∷ b) = refl
  stands_settled (of x ∷ b) = by (stands_settled b) (is_finished g p made x) refl
    where
      by : stands g p made (settled g p made b) ≡ true → (c : Bool) → is_finished g p made x ≡ c → stands g p made (cond c (settled g p made b) (of x ∷ b)) ≡ true
      by h true q = h
      by h false q = ap (λ (c : Bool). cond c false true) q

  pub settled_twice : (b : List Line) → settled g p made (settled g p made b) ≡ settled g p made b
  settled_twice b = settled_stands (settled g p made b) (stands_settled b)

  -- a finished item on top goes
  pub settled_finished : (x : Item) (b : List Line) → is_finished g p made x ≡ true → settled g p made (of x ∷ b) ≡ settled g p made b
  settled_finished x b is = ap (λ (c : Bool). cond c (settled g p made b) (of x ∷ b)) is

  -- one that isn't stays
  pub settled_unfinished : (x : Item) (b : List Line) → is_finished g p made x ≡ false → settled g p made (of x ∷ b) ≡ of x ∷ b
  settled_unfinished x b is = ap (λ (c : Bool). cond c (settled g p made b) (of x ∷ b)) is
