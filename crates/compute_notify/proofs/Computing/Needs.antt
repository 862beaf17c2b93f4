-- The need of a task, counted place by place.
use Rattle.std.proofs.Common.{◌≡◌, ℕ, zero, suc, ◌+◌, ◌<◌, ◌≤◌, ⊎_elim, inr, List, [], ◌∷◌, length, max, slice_get, slice_index_or, Some, arith, ap, sym, ◌∙◌, subst}
use mathlib.Core.Logic.{dite}
use native.Mathlib.Decide.{ℕ_discrete}
use Rattle.graph_model.specs.Graph.{Graph as TaskGraph, IsLawful}
use Rattle.core_state.specs.Asked.{InEachGraphOf, IsCoreKey, IsGraphOf}
use Rattle.core_state.specs.Graph.{Graph}
use Rattle.core_state.specs.Rooted.{root_key}
use Rattle.core_state.proofs.Start.Asked.{in_some}
use Rattle.compute_notify.specs.Rooms.{IsEnough, cells_before}
use Rattle.compute_notify.specs.declared.scratch.Need.{Need}
use Rattle.compute_notify.proofs.Computing.Values.{before_more}

-- enough for the inputs among the first places
pub record IsUpTo (r : Graph) (k place : ℕ) (need : Need) : Type 0 where
  pub lists : (n : ℕ) → n ≤ place → n ≤ r.inputs k → n ≤ need.lists
  pub read : (n : ℕ) → n ≤ place → n ≤ r.inputs k → cells_before r k n ≤ need.read
  pub own : r.cells (r.block k) ≤ need.longest
  pub each : (j : ℕ) → j < place → j < r.inputs k → r.cells (r.block (r.pred k j).task) ≤ need.longest

-- a need for no place
pub up_to_none : (r : Graph) (k : ℕ) (need : Need) → need ≡ record { lists = 0; read = 0; longest = r.cells (r.block k) } → IsUpTo r k 0 need
up_to_none r k need is = subst (IsUpTo r k 0) (sym is) (record {
  lists = λ n low few. low;
  read = λ n low few. let z : n ≡ 0 = omega (arith, low) in let a : cells_before r k n ≡ 0 = ap (cells_before r k) z in omega (arith, a);
  own = omega arith;
  each = λ j low few. absurd (omega (arith, low));
})

-- one place more that is an input
pub up_to_input : (r : Graph) (k place len : ℕ) (need now : Need) → IsUpTo r k place need → place < r.inputs k → len ≡ r.cells (r.block (r.pred k place).task) → now ≡ record { lists = need.lists + 1; read = need.read + len; longest = max need.longest len } → IsUpTo r k (place + 1) now
up_to_input r k place len need now is input long now_is = subst (IsUpTo r k (place + 1)) (sym now_is) (record {
  lists = λ n low few. dite (ℕ_discrete n (place + 1))
      (λ last. let a = is.lists place (omega arith) (omega (arith, input)) in omega (arith, a, last))
      (λ other. let a = is.lists n (omega (arith, low, other)) few in omega (arith, a));
  read = λ n low few. dite (ℕ_discrete n (place + 1))
      (λ last. let a = is.read place (omega arith) (omega (arith, input)) in let b = before_more r k place in let c = ap (cells_before r k) last in omega (arith, a, b, c, long))
      (λ other. let a = is.read n (omega (arith, low, other)) few in omega (arith, a));
  own = let a = is.own in omega (arith, a);
  each = λ j low few. dite (ℕ_discrete j place)
      (λ last. let a = ap (λ i. r.cells (r.block (r.pred k i).task)) last in omega (arith, a, long))
      (λ other. let a = is.each j (omega (arith, low, other)) few in omega (arith, a));
})

-- one that is none
pub up_to_other : (r : Graph) (k place : ℕ) (need : Need) → IsUpTo r k place need → r.inputs k ≤ place → IsUpTo r k (place + 1) need
up_to_other r k place need is past = record {
  lists = λ n low few. is.lists n (omega (arith, few, past)) few;
  read = λ n low few. is.read n (omega (arith, few, past)) few;
  own = is.own;
  each = λ j low few. is.each j (omega (arith, few, past)) few;
}

-- the root has one input, and a task no more inputs than places
inputs_few : (g : TaskGraph) (outcome : Rattle.graph_model.specs.Serial.Outcome) (r : Graph) (k : ℕ) → IsLawful g → IsGraphOf g outcome r → IsCoreKey g k → r.inputs k ≤ r.places k
inputs_few g outcome r k laws is key = ⊎_elim
    (λ root. let same : k ≡ r.root = root ∙ sym is.root in let a : r.inputs k ≡ 1 = ap r.inputs same ∙ is.at_root.inputs in let b : r.places k ≡ 1 = ap r.places same ∙ is.at_root.places in omega (arith, a, b))
    (λ task. let a = (is.at_task k task).inputs in let b = (is.at_task k task).places in let c = laws.data_first k task in omega (arith, a, b, c))
    key

-- all places
pub up_to_all : (g : TaskGraph) (k places : ℕ) (need : Need) → IsLawful g → IsCoreKey g k → InEachGraphOf g (λ r. places ≡ r.places k) → InEachGraphOf g (λ r. IsUpTo r k places need) → InEachGraphOf g (λ r. IsEnough r k need)
up_to_all g k places need laws key count each outcome r is =
    let upto = each outcome r is in
    let few = inputs_few g outcome r k laws is key in
    let all = count outcome r is in
    record {
      lists = upto.lists (r.inputs k) (omega (arith, few, all)) (omega arith);
      read = upto.read (r.inputs k) (omega (arith, few, all)) (omega arith);
      own = upto.own;
      each = λ j low. upto.each j (omega (arith, few, all, low)) low;
    }

-- the number of places is at most 40
pub few_places : (g : TaskGraph) (k places : ℕ) → IsLawful g → IsCoreKey g k → InEachGraphOf g (λ r. places ≡ r.places k) → places ≤ 40
few_places g k places laws key count =
    let some = in_some g (λ r. places ≡ r.places k) laws count in
    let r = some.1 in let is = some.2 in let all : places ≡ r.places k = some.3 in
    ⊎_elim
    (λ root. let same : k ≡ r.root = root ∙ sym is.root in let b : r.places k ≡ 1 = ap r.places same ∙ is.at_root.places in omega (arith, b, all))
    (λ task. let b = (is.at_task k task).places in let c = laws.few_places k task in omega (arith, b, c, all))
    key

-- a wider need serves too
pub wider : (r : Graph) (k : ℕ) (need now : Need) → IsEnough r k need → need.lists ≤ now.lists → need.read ≤ now.read → need.longest ≤ now.longest → IsEnough r k now
wider r k need now is lists read longest = record {
  lists = let a = is.lists in omega (arith, a, lists);
  read = let a = is.read in omega (arith, a, read);
  own = let a = is.own in omega (arith, a, longest);
  each = λ j low. let a = is.each j low in omega (arith, a, longest);
}

found : (xs : List ℕ) (j k : ℕ) → j < length xs → slice_index_or xs j k ≡ k → slice_get xs j ≡ Some k
found [] j k low is = absurd (omega (arith, low))
found (x ∷ xs) zero k low is = ap Some is
found (x ∷ xs) (suc j) k low is = found xs j k (omega (arith, low)) is

there : (xs : List ℕ) (j k : ℕ) → slice_get xs j ≡ Some k → slice_index_or xs j k ≡ k
there [] j k is = absurd cc
there (x ∷ xs) zero k is = cc
there (x ∷ xs) (suc j) k is = there xs j k is

-- the key at a place of the list is a task
pub key_at : (g : TaskGraph) (j k : ℕ) → j < length g.keys → slice_get g.keys j ≡ Some k → IsCoreKey g k
key_at g j k low is = inr (j, low, there g.keys j k is)

-- enough for the root and for the first tasks
pub record IsWide (g : TaskGraph) (r : Graph) (n : ℕ) (need : Need) : Type 0 where
  pub root : IsEnough r root_key need
  pub tasks : (j k : ℕ) → j < n → slice_get g.keys j ≡ Some k → IsEnough r k need

pub wide_more : (g : TaskGraph) (r : Graph) (n k : ℕ) (need of_task now : Need) → IsWide g r n need → slice_get g.keys n ≡ Some k → IsEnough r k of_task → now ≡ record { lists = max need.lists of_task.lists; read = max need.read of_task.read; longest = max need.longest of_task.longest } → IsWide g r (n + 1) now
wide_more g r n k need of_task now wide here enough now_is = subst (IsWide g r (n + 1)) (sym now_is) (record {
  root = wider r root_key need (record { lists = max need.lists of_task.lists; read = max need.read of_task.read; longest = max need.longest of_task.longest }) wide.root (omega arith) (omega arith) (omega arith);
  tasks = λ j key low at. dite (ℕ_discrete j n)
      (λ last. let same : key ≡ k = let a : Some key ≡ Some k = sym at ∙ ap (slice_get g.keys) last ∙ here in cc in
      subst (λ m. IsEnough r m (record { lists = max need.lists of_task.lists; read = max need.read of_task.read; longest = max need.longest of_task.longest })) (sym same)
      (wider r k of_task (record { lists = max need.lists of_task.lists; read = max need.read of_task.read; longest = max need.longest of_task.longest }) enough (omega arith) (omega arith) (omega arith)))
      (λ other. wider r key need (record { lists = max need.lists of_task.lists; read = max need.read of_task.read; longest = max need.longest of_task.longest }) (wide.tasks j key (omega (arith, low, other)) at) (omega arith) (omega arith) (omega arith));
})

pub wide_all : (g : TaskGraph) (r : Graph) (n : ℕ) (need : Need) → IsWide g r n need → n ≡ length g.keys → (k : ℕ) → IsCoreKey g k → IsEnough r k need
wide_all g r n need wide all k key = ⊎_elim
    (λ root. subst (λ m. IsEnough r m need) (sym root) wide.root)
    (λ task. wide.tasks task.0 k (let low = task.1 in omega (arith, low, all)) (found g.keys task.0 k task.1 task.2))
    key
