-- The last item of a task, and the others.
use Rattle.std.proofs.Common.{◌≡◌, ◌≢◌, ℕ, suc, ◌-◌, ◌<◌, ◌≤◌, ◌==◌, Bool, true, false, Some, List, [], ◌∷◌, ◌++◌, length, take, slice_index_or, slice_set, refl, ap, sym, subst, ◌∙◌, arith}
use Rattle.graph_model.specs.declared.plan.Strike.{Strike}
use Rattle.core_state.specs.Graph.{Graph}
use Rattle.compute_notify.specs.Tasks.{FindsNext, after_items, but_last, last_item}
use Rattle.compute_notify.specs.declared.item.After.{After}
use Rattle.compute_notify.specs.declared.item.Came.TheVariants as came
use Rattle.compute_notify.specs.declared.item.Item.{Item}

-- the last item stands behind the others
pub last_behind_rest : (xs : List Item) → xs ≢ [] → xs ≡ but_last xs ++ last_item xs ∷ []
last_behind_rest [] some = absurd (some refl)
last_behind_rest (x ∷ []) some = refl
last_behind_rest (x ∷ y ∷ ys) some = ap (λ zs. x ∷ zs) (last_behind_rest (y ∷ ys) (λ none. cc))

one_more : (x y : Item) (ys : List Item) → suc (length (y ∷ ys) - 1) ≡ length (x ∷ y ∷ ys) - 1
one_more x y ys = omega arith

-- they are what is left without it
pub take_rest : (n : ℕ) (xs : List Item) → n ≡ length xs → take (n - 1) xs ≡ but_last xs
take_rest n xs long = subst (λ m. take (m - 1) xs ≡ but_last xs) (sym long) (here xs) where
  here : (xs : List Item) → take (length xs - 1) xs ≡ but_last xs
  here [] = refl
  here (x ∷ []) = refl
  here (x ∷ y ∷ ys) = subst (λ m. take m (x ∷ y ∷ ys) ≡ x ∷ but_last (y ∷ ys)) (one_more x y ys) (ap (λ zs. x ∷ zs) (here (y ∷ ys)))

pub rest_shorter : (xs : List Item) → xs ≢ [] → length (but_last xs) < length xs
rest_shorter [] some = absurd (some refl)
rest_shorter (x ∷ []) some = omega arith
rest_shorter (x ∷ y ∷ ys) some = let a = rest_shorter (y ∷ ys) (λ none. cc) in omega (arith, a)

-- it stands where the list ends
pub last_at : (n : ℕ) (xs : List Item) (d : Item) → n ≡ length xs → xs ≢ [] → slice_index_or xs (n - 1) d ≡ last_item xs
last_at n xs d long some = subst (λ m. slice_index_or xs (m - 1) d ≡ last_item xs) (sym long) (here xs some) where
  here : (xs : List Item) → xs ≢ [] → slice_index_or xs (length xs - 1) d ≡ last_item xs
  here [] some = absurd (some refl)
  here (x ∷ []) some = refl
  here (x ∷ y ∷ ys) some = subst (λ m. slice_index_or (x ∷ y ∷ ys) m d ≡ last_item (y ∷ ys)) (one_more x y ys) (here (y ∷ ys) (λ none. cc))

-- another is put there
pub set_last : (n : ℕ) (xs : List Item) (z : Item) → n ≡ length xs → xs ≢ [] → slice_set xs (n - 1) z ≡ but_last xs ++ z ∷ []
set_last n xs z long some = subst (λ m. slice_set xs (m - 1) z ≡ but_last xs ++ z ∷ []) (sym long) (here xs some) where
  here : (xs : List Item) → xs ≢ [] → slice_set xs (length xs - 1) z ≡ but_last xs ++ z ∷ []
  here [] some = absurd (some refl)
  here (x ∷ []) some = refl
  here (x ∷ y ∷ ys) some = subst (λ m. slice_set (x ∷ y ∷ ys) m z ≡ x ∷ (but_last (y ∷ ys) ++ z ∷ [])) (one_more x y ys) (ap (λ zs. x ∷ zs) (here (y ∷ ys) (λ none. cc)))

-- what is left of a turn is put there, where nothing came
pub kept_last : (n : ℕ) (xs : List Item) (a : After) (z : Item) → n ≡ length xs → xs ≢ [] → a ≡ record { left = Some z; came = came.Nothing } → slice_set xs (n - 1) z ≡ but_last xs ++ after_items a
kept_last n xs a z long some is = set_last n xs z long some ∙ ap (λ b. but_last xs ++ after_items b) (sym is)

-- a list that is not empty has items
pub some_items : (n : ℕ) (xs : List Item) (empty : Bool) → n ≡ length xs → empty ≡ (n == 0) → empty ≡ false → xs ≢ []
some_items n xs empty long is not_empty none = absurd (let a = sym not_empty ∙ is ∙ ap (λ m. m == 0) (long ∙ ap length none) in cc)

fewer : (ys : List Item) (x : Item) (gone : List Item) → length (ys ++ x ∷ []) ≤ length (ys ++ x ∷ gone)
fewer [] x gone = omega arith
fewer (y ∷ ys) x gone = let a = fewer ys x gone in omega (arith, a)

-- the items that are left are no more than there were
pub next_fits : (g : Graph) (p : List Strike) (xs now : List Item) → FindsNext g p xs now true → length now ≤ length xs
next_fits g p xs now found = let next = found.1 in
    let a = ap length (last_behind_rest now found.0) in let b = ap length next.1 in let c = fewer (but_last now) (last_item now) next.0 in omega (arith, a, b, c)
