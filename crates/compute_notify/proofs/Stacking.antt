-- The items of a task as a list, the topmost last: what holds of it holds of its parts.
use Rattle.std.proofs.Common.{◌≡◌, ℕ, ◌+◌, false, true, List, [], ◌∷◌, ◌++◌, Option, Some, None, refl, ap, sym, ◌∙◌, subst, arith}
use Rattle.graph_model.specs.Graph.{Graph as TaskGraph}
use Rattle.graph_model.specs.declared.plan.Strike.{Strike}
use Rattle.core_state.specs.Graph.{Graph, Setting}
use Rattle.core_state.specs.Lines.{Line}
use Rattle.core_state.specs.declared.block.BlockCells.{BlockCells}
use Rattle.core_state.specs.declared.views.View.{View}
use Rattle.compute_notify.specs.Items.{IsBelow, is_over, item_lines}
use Rattle.compute_notify.specs.Resting.{item_rest}
use Rattle.compute_notify.specs.Tasks.{AllBelow, AllOver, FitsAll, FromCredit, items_rest, last_of, stacked}
use Rattle.compute_notify.specs.declared.item.Item.{Item}
use Rattle.compute_notify.proofs.Keeping.{AllLow}

pub stacked_on : (g : Graph) (xs ys : List Item) (b : List Line) → stacked g (xs ++ ys) b ≡ stacked g ys (stacked g xs b)
stacked_on g [] ys b = refl
stacked_on g (x ∷ xs) ys b = stacked_on g xs ys (item_lines g x b)

module _ (g : TaskGraph) (e : Setting) (v : View) where
  pub fits_first : (xs ys : List Item) → FitsAll g e v (xs ++ ys) → FitsAll g e v xs
  fits_first [] ys fits = tt
  fits_first (x ∷ xs) ys fits = (fits.0, fits_first xs ys fits.1)

  pub fits_second : (xs ys : List Item) → FitsAll g e v (xs ++ ys) → FitsAll g e v ys
  fits_second [] ys fits = fits
  fits_second (x ∷ xs) ys fits = fits_second xs ys fits.1

  pub fits_both : (xs ys : List Item) → FitsAll g e v xs → FitsAll g e v ys → FitsAll g e v (xs ++ ys)
  fits_both [] ys first second = second
  fits_both (x ∷ xs) ys first second = (first.0, fits_both xs ys first.1 second)

-- all before an item stand below it
pub low_first : (xs : List Item) (x : Item) (ys : List Item) → AllBelow (xs ++ x ∷ ys) → AllLow xs
low_first [] x ys below = tt
low_first (y ∷ []) x ys below = (below.0, tt)
low_first (y ∷ z ∷ zs) x ys below = (below.0, low_first (z ∷ zs) x ys below.1)

-- so does an item with others behind it
pub low_next : (xs : List Item) (x y : Item) (ys : List Item) → AllBelow (xs ++ x ∷ y ∷ ys) → IsBelow x
low_next [] x y ys below = below.0
low_next (z ∷ []) x y ys below = low_next [] x y ys below.1
low_next (z ∷ w ∷ zs) x y ys below = low_next (w ∷ zs) x y ys below.1

pub below_both : (xs ys : List Item) → AllLow xs → AllBelow ys → AllBelow (xs ++ ys)
below_both [] ys low below = below
below_both (x ∷ []) [] low below = tt
below_both (x ∷ []) (y ∷ ys) low below = (low.0, below)
below_both (x ∷ y ∷ xs) ys low below = (low.0, below_both (y ∷ xs) ys low.1 below)

pub last_behind : (xs : List Item) (y : Item) (ys : List Item) → last_of (xs ++ y ∷ ys) ≡ last_of (y ∷ ys)
last_behind [] y ys = refl
last_behind (x ∷ []) y ys = refl
last_behind (x ∷ z ∷ xs) y ys = last_behind (z ∷ xs) y ys

pub none_behind : {X : Type 0} (xs : List X) → xs ++ [] ≡ xs
none_behind [] = refl
none_behind (x ∷ xs) = ap (λ ys. x ∷ ys) (none_behind xs)

pub on_three : {X : Type 0} (xs ys zs : List X) → (xs ++ ys) ++ zs ≡ xs ++ (ys ++ zs)
on_three [] ys zs = refl
on_three (x ∷ xs) ys zs = ap (λ ws. x ∷ ws) (on_three xs ys zs)

-- the last item of those that stand below is below, and there is none where there are none
pub last_low : (xs : List Item) (x : Item) → AllLow xs → last_of xs ≡ Some x → IsBelow x
last_low [] x low is = absurd cc
last_low (y ∷ []) x low is = let same : y ≡ x = cc in subst IsBelow same low.0
last_low (y ∷ z ∷ xs) x low is = last_low (z ∷ xs) x low.1 is

-- the rest of items that stand below others
abbrev pub low_rest : Setting → List Strike → List Item → ℕ
low_rest e p [] = 0
low_rest e p (x ∷ xs) = item_rest e p None x + low_rest e p xs

module _ (e : Setting) (p : List Strike) where
  pub rest_behind : (h : Option BlockCells) (xs : List Item) (y : Item) (ys : List Item) → items_rest e p h (xs ++ y ∷ ys) ≡ low_rest e p xs + items_rest e p h (y ∷ ys)
  rest_behind h [] y ys = omega arith
  rest_behind h (x ∷ []) y ys = omega arith
  rest_behind h (x ∷ z ∷ xs) y ys = let a = rest_behind h (z ∷ xs) y ys in omega (arith, a)

  pub rest_low : (xs : List Item) → items_rest e p None xs ≡ low_rest e p xs
  rest_low [] = refl
  rest_low (x ∷ []) = omega arith
  rest_low (x ∷ y ∷ xs) = let a = rest_low (y ∷ xs) in omega (arith, a)

-- an item that is not over is none of those that are
not_among : (g : Graph) (p : List Strike) (x : Item) (gone zs over : List Item) → is_over g p x ≡ false → AllOver g p over → over ≡ zs ++ x ∷ gone → ⊥
not_among g p x gone [] [] stays all is = cc
not_among g p x gone [] (w ∷ ws) stays all is = let a : w ≡ x = cc in let b = all.0 in let d : true ≡ false = sym b ∙ ap (is_over g p) a ∙ stays in cc
not_among g p x gone (z ∷ zs) [] stays all is = cc
not_among g p x gone (z ∷ zs) (w ∷ ws) stays all is = not_among g p x gone zs ws stays all.1 cc

-- the last item that is not over is one alone, and so are those before it
pub next_alone : (g : Graph) (p : List Strike) (left others : List Item) (x y : Item) (gone more : List Item) → is_over g p x ≡ false → is_over g p y ≡ false → AllOver g p gone → AllOver g p more → left ++ x ∷ gone ≡ others ++ y ∷ more → (left ≡ others) × (x ≡ y)
next_alone g p [] [] x y gone more ends stays over all same = (refl, cc)
next_alone g p [] (z ∷ zs) x y gone more ends stays over all same = absurd (not_among g p y more zs gone stays over (let a : gone ≡ zs ++ y ∷ more = cc in a))
next_alone g p (z ∷ zs) [] x y gone more ends stays over all same = absurd (not_among g p x gone zs more ends all (let a : zs ++ x ∷ gone ≡ more = cc in sym a))
next_alone g p (z ∷ zs) (w ∷ ws) x y gone more ends stays over all same = let a : z ≡ w = cc in let b = next_alone g p zs ws x y gone more ends stays over all cc in (ap (λ u. u ∷ zs) a ∙ ap (λ us. w ∷ us) b.0, b.1)

pub next_once : (g : Graph) (p : List Strike) (left others : List Item) (x y : Item) (gone more : List Item) → is_over g p x ≡ false → is_over g p y ≡ false → AllOver g p gone → AllOver g p more → left ++ x ∷ gone ≡ others ++ y ∷ more → x ≡ y
next_once g p left others x y gone more ends stays over all same = (next_alone g p left others x y gone more ends stays over all same).1

-- the first item of a job's stack stays, whatever comes behind
pub credit_stays : (xs ys zs : List Item) → FromCredit (xs ++ ys) → (xs ≡ [] → FromCredit zs) → FromCredit (xs ++ zs)
credit_stays [] ys zs from none = none refl
credit_stays (x ∷ xs) ys zs from none = from
