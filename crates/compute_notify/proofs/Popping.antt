-- Items that are over leave the top one by one.
use Rattle.std.proofs.Common.{◌≡◌, ◌≢◌, true, false, List, [], ◌∷◌, ◌++◌, ap, sym, ◌∙◌, subst}
use Rattle.graph_model.specs.Graph.{Graph as TaskGraph}
use Rattle.graph_model.specs.declared.plan.Strike.{Strike}
use Rattle.core_state.specs.Asked.{InEachGraphOf}
use Rattle.compute_notify.specs.Items.{is_over}
use Rattle.compute_notify.specs.Tasks.{AllMayBeOver, AllOver, FindsNext, MayBeOver, but_last, last_item}
use Rattle.compute_notify.specs.declared.item.Item.{Item}
use Rattle.compute_notify.proofs.LastItems.{last_behind_rest}
use Rattle.compute_notify.proofs.Stacking.{none_behind, on_three}

-- those that went were over
pub record IsPopped (g : TaskGraph) (p : List Strike) (before now : List Item) : Type 0 where
  pub gone : List Item
  pub were : before ≡ now ++ gone
  pub over : InEachGraphOf g (λ r. AllOver r p gone)

module _ (g : TaskGraph) (p : List Strike) where
  pub none_popped : (xs : List Item) → IsPopped g p xs xs
  none_popped xs = record { gone = []; were = sym (none_behind xs); over = λ outcome r is. tt }

  module _ (before now : List Item) (popped : IsPopped g p before now) (some : now ≢ []) where
    here : before ≡ but_last now ++ last_item now ∷ popped.gone
    here = popped.were ∙ ap (λ xs. xs ++ popped.gone) (last_behind_rest now some) ∙ on_three (but_last now) (last_item now ∷ []) popped.gone

    -- one more that is over
    pub one_popped : (left : List Item) → left ≡ but_last now → InEachGraphOf g (λ r. true ≡ is_over r p (last_item now)) → IsPopped g p before left
    one_popped left is over = subst (IsPopped g p before) (sym is) (record { gone = last_item now ∷ popped.gone; were = here; over = λ outcome r are. (sym (over outcome r are), popped.over outcome r are) })

    -- the next one that is not
    pub found_next : InEachGraphOf g (λ r. false ≡ is_over r p (last_item now)) → InEachGraphOf g (λ r. FindsNext r p before now true)
    found_next over outcome r is = (some, (popped.gone, here, sym (over outcome r is), popped.over outcome r is))

  -- there is none
  pub none_next : (before now : List Item) → IsPopped g p before now → now ≡ [] → InEachGraphOf g (λ r. FindsNext r p before now false)
  none_next before now popped empty outcome r is = (subst (AllOver r p) (sym (popped.were ∙ ap (λ xs. xs ++ popped.gone) empty)) (popped.over outcome r is), empty)

  may_first : (xs : List Item) (x : Item) → AllMayBeOver g (xs ++ x ∷ []) → AllMayBeOver g xs
  may_first [] x may = tt
  may_first (y ∷ xs) x may = (may.0, may_first xs x may.1)

  may_second : (xs : List Item) (x : Item) → AllMayBeOver g (xs ++ x ∷ []) → MayBeOver g x
  may_second [] x may = may.0
  may_second (y ∷ xs) x may = may_second xs x may.1

  pub may_rest : (xs left : List Item) → xs ≢ [] → left ≡ but_last xs → AllMayBeOver g xs → AllMayBeOver g left
  may_rest xs left some is may = subst (AllMayBeOver g) (sym is) (may_first (but_last xs) (last_item xs) (subst (AllMayBeOver g) (last_behind_rest xs some) may))

  pub may_last : (xs : List Item) → xs ≢ [] → AllMayBeOver g xs → MayBeOver g (last_item xs)
  may_last xs some may = may_second (but_last xs) (last_item xs) (subst (AllMayBeOver g) (last_behind_rest xs some) may)
