-- The graph of one task, which has the key 1, no predecessor and one block; the root's one input is this task.
use Rattle.std.specs.Prelude.{◌≡◌, ℕ, ◌^◌, cond, eqb, nat_lt, [], ◌∷◌, length, pos, Some}
use Rattle.core_state.specs.Guards.{AtWork}
use Rattle.core_state.specs.Graph.{Graph, Setting}
use Rattle.core_state.specs.Views.{opener}
use Rattle.core_state.specs.declared.job.Job.TheVariants.{Explore}
use Rattle.core_state.specs.declared.views.Item.TheVariants as item
use Rattle.core_steps.specs.Seat.{known_of}
use Rattle.core_steps.specs.Table.{Plain, view_at}
use Rattle.graph_model.specs.declared.plan.Point.TheVariants as point
use Rattle.graph_model.specs.declared.plan.Target.TheVariants as target

-- the key of the root
abbrev pub root : ℕ
root = 2 ^ 63

-- 1 for the root, and else 0
abbrev pub at_root : ℕ → ℕ
at_root k = cond (eqb k root) 1 0

-- 1 for the task, and else 0
abbrev pub at_task : ℕ → ℕ
at_task k = cond (eqb k 1) 1 0

-- the tasks with the root: block 0 is the task's, and block 1 the root's
abbrev pub one_task_graph : Graph
one_task_graph = record {
  root = root;
  sink = 1;
  places = at_root;
  inputs = at_root;
  pred = λ _ _. record { task = 1; port = 0 };
  ports = at_task;
  succ = λ _ _. record { task = root; place = 0 };
  notify_words = λ _. 1;
  block = at_root;
  version = λ _. 1;
  writer = λ b _. cond (eqb b 0) 1 root;
  versions = λ b. cond (nat_lt b 2) 1 0;
  cells = λ _. 1;
  value = λ _. pos 5 ∷ [];
  rank = at_root;
}

-- the graph with a table of two rows, no strikes, and the greatest life 1
abbrev pub one_task : Setting
one_task = record {
  graph = one_task_graph;
  shape = record { rows = 2; notify_words = 1; blocks = 2 };
  plan = record { count = 0; strike = λ _. record { key = record { 0 = 1 }; life = 1; point = point.Explored; target = target.Descriptor } };
  lives = 1;
  keys = 1 ∷ root ∷ [];
}

-- two workers, of whom the first is to explore the root
pub record Begins (p : Plain) : Type 0 where
  pub workers : length p.views ≡ 2
  pub first : view_at p 0 ≡ opener 63 root 0

-- two workers, of whom the first has made the task's row and owes its exploring, without a spare credit
pub record Owes (p : Plain) : Type 0 where
  pub workers : length p.views ≡ 2
  pub at_work : AtWork (view_at p 0) (item.Owe 1 Explore 1)
  pub no_credit : (view_at p 0).spare ≡ 0
  pub row : known_of (view_at p 0) 1 ≡ Some 1

-- two workers, of whom the second knows the task's row
pub record Knows (p : Plain) : Type 0 where
  pub workers : length p.views ≡ 2
  pub row : known_of (view_at p 1) 1 ≡ Some 1
