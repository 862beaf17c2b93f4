-- What a computing's turns ask of the scratch, and what they leave there.
use Rattle.std.proofs.Common.{◌≡◌, ℕ, ℤ, ◌+◌, ◌<◌, ◌≤◌, ⊎_elim, List, [], ◌∷◌, ◌++◌, length, take, inr, arith, ap, sym, ◌∙◌, subst}
use Rattle.graph_model.specs.Gathered.{cells_in}
use Rattle.graph_model.specs.Graph.{Graph as TaskGraph, IsLawful, IsTask}
use Rattle.graph_model.specs.Serial.{Outcome}
use Rattle.graph_model.specs.declared.plan.Strike.{Strike}
use Rattle.core_state.specs.Asked.{InEachGraphOf, IsCoreKey, IsGraphOf}
use Rattle.graph_model.specs.declared.record.Cause.{Cause}
use Rattle.graph_model.proofs.Members.{is_member, pred_there}
use Rattle.core_state.specs.Graph.{Edge, Graph, Setting}
use Rattle.core_state.specs.Rooted.{root_key}
use Rattle.compute_notify.specs.Rooms.{AfterScratch, FitsScratch, HasRoom, HoldsValues, IsEnough, input_values, room_of}
use Rattle.compute_notify.specs.Running.{Makes, Runs}
use Rattle.compute_notify.specs.declared.compute.Compute.{Compute}
use Rattle.compute_notify.specs.declared.compute.Phase.TheVariants as phase
use Rattle.compute_notify.specs.declared.item.After.{After}
use Rattle.compute_notify.specs.declared.item.Item.TheVariants as item
use Rattle.compute_notify.specs.declared.scratch.Need.{Need}
use Rattle.compute_notify.specs.declared.scratch.Scratch.{Scratch}
use Rattle.compute_notify.proofs.Computing.Reads.{at_input, looks_at}
use Rattle.compute_notify.proofs.Computing.Values.{before_more, before_within, found_at, value_made, values_cells, values_count, values_more, values_serial}

need_same : (a b : Need) → a.lists ≡ b.lists → a.read ≡ b.read → a.longest ≡ b.longest → a ≡ b
need_same a b lists read longest =
    ap (λ x. record { lists = x; read = a.read; longest = a.longest }) lists
    ∙ ap (λ x. record { lists = b.lists; read = x; longest = a.longest }) read
    ∙ ap (λ x. record { lists = b.lists; read = b.read; longest = x }) longest

-- the room stays
pub room_kept : (g : TaskGraph) (s t : Scratch) → t.inputs.most_lists ≡ s.inputs.most_lists → t.inputs.most_cells ≡ s.inputs.most_cells → length t.cells.items ≡ length s.cells.items → HasRoom g s → HasRoom g t
room_kept g s t lists cells long room = record { enough = subst (λ q. InEachGraphOf g (λ r. (k : ℕ) → IsCoreKey g k → IsEnough r k q)) (sym (need_same (room_of t) (room_of s) lists cells long)) room.enough }

module _ (g : TaskGraph) (e : Setting) (strikes : List Strike) (lives : ℕ) (runs : Runs g strikes lives e) where
  pub enough : (s : Scratch) → HasRoom g s → (k : ℕ) → IsCoreKey g k → IsEnough e.graph k (room_of s)
  enough s room k key = room.enough runs.serves.outcome e.graph runs.serves.graph k key

  -- The reading of an input.
  module _ (k input : ℕ) (key : IsCoreKey g k) (low : input < e.graph.inputs k) where
    abbrev p : ℕ
    p = (e.graph.pred k input).task

    pub input_inside : (s : Scratch) → HasRoom g s → (len : ℕ) → len ≡ e.graph.cells (e.graph.block p) → len ≤ length s.cells.items
    input_inside s room len is = let a = (enough s room k key).each input low in omega (arith, a, is)

    -- each predecessor is a task
    before_key : ((j : ℕ) → j < e.graph.places k → IsCoreKey g (e.graph.pred k j).task) → (j : ℕ) → j < input → length (e.graph.value (e.graph.pred k j).task) ≡ e.graph.cells (e.graph.block (e.graph.pred k j).task)
    before_key keys j under = runs.value_fits (e.graph.pred k j).task (keys j (let few = runs.serves.lawful.few_inputs k in omega (arith, few, low, under)))

    pub list_room : (s : Scratch) → HasRoom g s → s.inputs.lists ≡ input_values e.graph k input → length s.inputs.lists < s.inputs.most_lists
    list_room s room holds = let a = ap length holds in let b = values_count e.graph k input in let c = (enough s room k key).lists in omega (arith, a, b, c, low)

    pub cells_room : ((j : ℕ) → j < e.graph.places k → IsCoreKey g (e.graph.pred k j).task) → (s : Scratch) → HasRoom g s → s.inputs.lists ≡ input_values e.graph k input → (len : ℕ) → len ≡ e.graph.cells (e.graph.block p) → cells_in s.inputs.lists + len ≤ s.inputs.most_cells
    cells_room keys s room holds len is =
        let a = ap cells_in holds in
        let b = values_cells e.graph k input (before_key keys) in
        let c = before_more e.graph k input in
        let d = before_within e.graph k (input + 1) (e.graph.inputs k) (omega (arith, low)) in
        let f = (enough s room k key).read in
        omega (arith, a, b, c, d, f, is)

    -- one value more
    pub kept_values : (s t : Scratch) (len : ℕ) → s.inputs.lists ≡ input_values e.graph k input → t.inputs.lists ≡ s.inputs.lists ++ take len s.cells.items ∷ [] → take len s.cells.items ≡ e.graph.value p → t.inputs.lists ≡ input_values e.graph k (input + 1)
    kept_values s t len holds more value = more ∙ ap (λ xs. xs ++ take len s.cells.items ∷ []) holds ∙ ap (λ x. input_values e.graph k input ++ x ∷ []) value ∙ sym (values_more e.graph k input)

  -- what the block of a version holds is the value of the task that writes it
  pub value_of : (b version k : ℕ) → b ≡ e.graph.block k → version ≡ e.graph.version k → IsCoreKey g k → e.graph.value (e.graph.writer b version) ≡ e.graph.value k
  value_of b version k here of_version key = ap e.graph.value (ap (λ z. e.graph.writer z version) here ∙ ap (e.graph.writer (e.graph.block k)) of_version ∙ runs.written_by k key)

  pub some_version : (version k : ℕ) → version ≡ e.graph.version k → IsCoreKey g k → 0 < version
  some_version version k is key = let a = runs.from_one k key in omega (arith, a, is)

  -- What is left in the scratch, by what is left of the computing.
  module _ (c : Compute) (s : Scratch) (a : After) where
    pub reading_scratch : (input : ℕ) → a ≡ at_input c input → HasRoom g s → s.inputs.lists ≡ input_values e.graph c.duty.key.0 input → AfterScratch e g s a
    reading_scratch input is room holds = subst (AfterScratch e g s) (sym is) (room, holds)

  -- The making of the result.
  module _ (outcome : Outcome) (fits : ℕ → List (List ℤ) → Type 0) (makes : Makes g outcome fits e) (k : ℕ) (s : Scratch) (holds : s.inputs.lists ≡ input_values e.graph k (e.graph.inputs k)) where
    -- a task's, by the kernel
    module _ (task : IsTask g k) where
      pub kernel_can : fits k s.inputs.lists
      kernel_can = subst (fits k) (values_serial g outcome e.graph runs.laws makes.graph_is k task ∙ sym holds) (makes.can k task)

      pub kernel_makes : outcome k s.inputs.lists ≡ e.graph.value k
      kernel_makes = ap (outcome k) holds ∙ sym (value_made g outcome e.graph runs.laws makes.graph_is k task)

      pub kernel_cells : (len b : ℕ) → b ≡ e.graph.block k → len ≡ e.graph.cells b → len ≡ length (outcome k s.inputs.lists)
      kernel_cells len b here is = is ∙ ap e.graph.cells here ∙ sym (runs.value_fits k (inr task)) ∙ sym (ap length kernel_makes)

      pub task_output : (len b : ℕ) (cells : List ℤ) → b ≡ e.graph.block k → len ≡ e.graph.cells b → take len cells ≡ outcome k s.inputs.lists → take (e.graph.cells (e.graph.block k)) cells ≡ e.graph.value k
      task_output len b cells here is made = ap (λ n. take n cells) (sym (is ∙ ap e.graph.cells here)) ∙ made ∙ kernel_makes

      pub kernel_inside : HasRoom g s → (len b : ℕ) → b ≡ e.graph.block k → len ≡ e.graph.cells b → len ≤ length s.cells.items
      kernel_inside room len b here is = let a = (enough s room k (inr task)).own in let c = ap e.graph.cells here in omega (arith, a, c, is)

    -- the root's is its one input
    module _ (root : k ≡ root_key) where
      at_root : k ≡ e.graph.root
      at_root = root ∙ sym runs.serves.graph.root

      root_input : s.inputs.lists ≡ e.graph.value k ∷ []
      root_input =
          let one : e.graph.inputs k ≡ 1 = ap e.graph.inputs at_root ∙ runs.serves.lawful.root_places.1 in
          let value : e.graph.value (e.graph.pred k 0).task ≡ e.graph.value k = ap (λ m. e.graph.value (e.graph.pred m 0).task) at_root ∙ ap e.graph.value runs.serves.lawful.root_places.2 ∙ sym runs.serves.lawful.root_value ∙ ap e.graph.value (sym at_root) in
          holds ∙ ap (input_values e.graph k) one ∙ ap (λ x. x ∷ []) value

      pub passes_one : HasRoom g s → IsCoreKey g k → (input : List ℤ) × (s.inputs.lists ≡ input ∷ []) × (length input ≤ length s.cells.items)
      passes_one room key = (e.graph.value k, root_input, (let a = (enough s room k key).own in let b = runs.value_fits k key in omega (arith, a, b)))

      pub root_output : (cells : List ℤ) → IsCoreKey g k → ((input : List ℤ) → s.inputs.lists ≡ input ∷ [] → take (length input) cells ≡ input) → take (e.graph.cells (e.graph.block k)) cells ≡ e.graph.value k
      root_output cells key passed = ap (λ n. take n cells) (sym (runs.value_fits k key)) ∙ passed (e.graph.value k) root_input

-- all values of a computing that has read its inputs
pub holds_all : (g : TaskGraph) (e : Setting) (c : Compute) (s : Scratch) → c.phase ≡ phase.Reading (e.graph.inputs c.duty.key.0) → FitsScratch e g s (item.Compute c) → s.inputs.lists ≡ input_values e.graph c.duty.key.0 (e.graph.inputs c.duty.key.0)
holds_all g e c s is fits = subst (λ p. HoldsValues e.graph c.duty.key.0 p s) is fits.1

pub holds_in : (g : TaskGraph) (e : Setting) (c : Compute) (s : Scratch) (input : ℕ) → c.phase ≡ phase.Reading input → FitsScratch e g s (item.Compute c) → s.inputs.lists ≡ input_values e.graph c.duty.key.0 input
holds_in g e c s input is fits = subst (λ p. HoldsValues e.graph c.duty.key.0 p s) is fits.1

-- the same output, by another name of the scratch
pub output_as : (g : TaskGraph) (e : Setting) (k : ℕ) (s t : Scratch) → s ≡ t → HasRoom g t → take (e.graph.cells (e.graph.block k)) t.cells.items ≡ e.graph.value k → HasRoom g s × (take (e.graph.cells (e.graph.block k)) s.cells.items ≡ e.graph.value k)
output_as g e k s t same room value = subst (λ u. HasRoom g u × (take (e.graph.cells (e.graph.block k)) u.cells.items ≡ e.graph.value k)) (sym same) (room, value)

-- a look needs no value in the scratch
pub look_scratch : (g : TaskGraph) (e : Setting) (c : Compute) (s : Scratch) (a : After) (input : ℕ) (why : Cause) → a ≡ looks_at c input why → HasRoom g s → AfterScratch e g s a
look_scratch g e c s a input why is room = subst (AfterScratch e g s) (sym is) room

-- each predecessor is the root or a task
pub pred_key : (g : TaskGraph) (outcome : Outcome) (r : Graph) → IsLawful g → IsGraphOf g outcome r → (k : ℕ) → IsCoreKey g k → (j : ℕ) → j < r.places k → IsCoreKey g (r.pred k j).task
pred_key g outcome r laws is k key j low = ⊎_elim
    (λ root. let same : k ≡ r.root = root ∙ sym is.root in let one : r.places k ≡ 1 = ap r.places same ∙ is.at_root.places in let first : j ≡ 0 = omega (arith, one, low) in
    inr (subst (IsTask g) (sym (ap (λ n. (r.pred n j).task) same ∙ ap (λ n. (r.pred r.root n).task) first ∙ ap (λ (x : Edge). x.task) is.at_root.pred)) (is_member g.keys g.sink laws.sink)))
    (λ task. let s = found_at (g.preds k) j (let a = (is.at_task k task).places in omega (arith, a, low)) in
    inr (subst (IsTask g) (sym (ap (λ (x : Edge). x.task) ((is.at_task k task).pred j s.0.0 s.0.1 s.1))) (pred_there g laws k j s.0.0 s.0.1 task s.1)))
    key
