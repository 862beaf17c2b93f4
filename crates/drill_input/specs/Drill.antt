-- The graph and the strikes that a number stands for.
use Rattle.std.specs.Prelude.{ℕ, zero, suc, ◌+◌, ◌-◌, ◌*◌, ◌%◌, ◌==◌, if◌then◌else◌, pos, List, [], ◌∷◌, ◌++◌, map, Some, None}
use Rattle.std.specs.List.{range_with_len}
use Rattle.formula_text.specs.declared.node.Op.TheVariants.{Plus, Less}
use Rattle.formula_text.specs.Trees.{Tree, Number, Input, Two}
use Rattle.graph_model.specs.declared.plan.Point.{Point}
use Rattle.graph_model.specs.declared.plan.Point.TheVariants.{Explored, Ready, Computed, Notified}
use Rattle.graph_model.specs.declared.plan.Target.{Target}
use Rattle.graph_model.specs.declared.plan.Target.TheVariants.{Descriptor, Notify, Block}
use Rattle.graph_model.specs.declared.plan.Strike.{Strike}
use Rattle.raw_graph.specs.Graph.{Task, Graph}
use Rattle.drill_input.specs.Draws.{draw}

-- what f makes of n numbers, from a on
unfoldable pub each : {X : Type 0} → (ℕ → X) → ℕ → ℕ → List X
each f a n = map f (range_with_len a n)

-- ---- the tasks

-- the second task and the later ones wait for the one before
abbrev pub one_before : ℕ → List ℕ
one_before k = if k == 1 then [] else (k - 1) ∷ []

-- tasks 1 to 64 are numbers: the one that was asked for and the key
abbrev pub first_task : ℕ → ℕ → Task
first_task number k = record { key = k; tree = Number (pos (number + k)); inputs = []; after = one_before k; block = None }

-- how far back the second input of a later task stands: each of these tasks has two draws, and this is its first
abbrev pub second_back : ℕ → ℕ → ℕ
second_back number k = 1 + draw number (2 * (k - 65)) % 64

-- how far back the third one stands: by its second draw
abbrev pub third_back : ℕ → ℕ → ℕ
third_back number k = 1 + draw number (2 * (k - 65) + 1) % 64

-- the formula `$0+$1-$2+1+d-e`
abbrev pub later_tree : ℕ → ℕ → Tree
later_tree d e = Two Less (Two Plus (Two Plus (Two Less (Two Plus (Input 0) (Input 1)) (Input 2)) (Number (pos 1))) (Number (pos d))) (Number (pos e))

-- tasks 65 to 8192 are worth the number and the key as well, whatever is drawn
abbrev pub later_task : ℕ → ℕ → Task
later_task number k = record {
  key = k;
  tree = later_tree (second_back number k) (third_back number k);
  inputs = (k - 1) ∷ (k - second_back number k) ∷ (k - third_back number k) ∷ [];
  after = [];
  block = None;
}

-- task 10001 writes the first version of block 0: `1`
abbrev pub first_version : Task
first_version = record { key = 10001; tree = Number (pos 1); inputs = []; after = []; block = Some (0, 1) }

-- the formula `$0+1`
abbrev pub next_tree : Tree
next_tree = Two Plus (Input 0) (Number (pos 1))

-- tasks 10002 to 10064 write the next versions
abbrev pub next_version : ℕ → Task
next_version i = record { key = 10000 + i; tree = next_tree; inputs = (9999 + i) ∷ []; after = []; block = Some (0, i) }

-- the formula `$0+$1`
abbrev pub last_tree : Tree
last_tree = Two Plus (Input 0) (Input 1)

-- the sink reads the last task of either kind
abbrev pub last_task : Task
last_task = record { key = 20000; tree = last_tree; inputs = 8192 ∷ 10064 ∷ []; after = []; block = None }

-- all tasks, in the order of their keys
abbrev pub drill_tasks : ℕ → List Task
drill_tasks number = each (first_task number) 1 64 ++ (each (later_task number) 65 8128 ++ (first_version ∷ (each next_version 2 63 ++ last_task ∷ [])))

-- the graph of a number
abbrev pub drill_graph : ℕ → Graph
drill_graph number = record { sink = 20000; tasks = drill_tasks number }

-- ---- the strikes

-- the points in the order that a worker passes them
abbrev pub point_of : ℕ → Point
point_of zero = Explored
point_of (suc zero) = Ready
point_of (suc (suc zero)) = Computed
point_of (suc (suc (suc n))) = Notified

-- the three targets; the notify word is the first one
abbrev pub target_of : ℕ → Target
target_of zero = Descriptor
target_of (suc zero) = Notify 0
target_of (suc (suc n)) = Block

-- three draws a strike, behind the two draws of each of the 8128 later tasks: the task, the point and the target
abbrev pub drawn_strike : ℕ → ℕ → Strike
drawn_strike number i = record {
  key = record { 0 = 1 + draw number (16256 + 3 * i) % 8192 };
  life = 1;
  point = point_of (draw number (16257 + 3 * i) % 4);
  target = target_of (draw number (16258 + 3 * i) % 3);
}

-- the writer of the last version is struck as well
abbrev pub last_strike : Strike
last_strike = record { key = record { 0 = 10064 }; life = 1; point = Computed; target = Block }

-- 1024 strikes are drawn, and one is added
abbrev pub drill_strikes : ℕ → List Strike
drill_strikes number = each (drawn_strike number) 0 1024 ++ last_strike ∷ []
