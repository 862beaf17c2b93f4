-- The core's graph of a task graph is one of those that the calls tell of, and the keys that they answer are tasks or the root.
use Rattle.std.proofs.Common.{◌≡◌, ◌∙◌, ℕ, ◌<◌, Bool, false, eqb, [], ⊎_elim, inl, inr, sym, ap, subst, refl, arith}
use Rattle.std.proofs.lemmas.Bool.{eq-eqb}
use mathlib.Core.Bool.{true≢false}
use Rattle.graph_model.specs.Graph.{Graph as TaskGraph, IsTask, IsPred, IsSucc, IsLawful}
use Rattle.graph_model.specs.Serial.{Outcome}
use Rattle.graph_model.proofs.Index.{some_at}
use Rattle.core_state.specs.Graph.{Graph, Edge, Reached}
use Rattle.core_state.specs.Graph.Reached.{itself, through}
use Rattle.core_state.specs.Rooted.{root_key, graph_of}
use Rattle.core_state.specs.Asked.{IsCoreKey, IsGraphOf, InEachGraphOf, InSomeGraphOf}
use Rattle.graph_model.proofs.Members.{is_member}
use Rattle.core_state.proofs.Start.Widest.{sink_task}
use Rattle.core_state.proofs.Start.Root.{writer_task, cells_root, cells_task}
use Rattle.core_state.proofs.Start.Setting.{task_matches, root_matches}

pub graph_matches : (g : TaskGraph) (outcome : Outcome) → IsLawful g → IsGraphOf g outcome (graph_of g outcome)
graph_matches g outcome laws = record {
  root = refl;
  sink = refl;
  at_task = task_matches g outcome laws;
  at_root = root_matches g outcome laws;
  writer = λ b v low. writer_task root_key g outcome b v low;
  cells = λ b low. cells_task root_key g outcome b (λ is. omega (arith, low, is));
  root_cells = cells_root root_key g outcome g.block_count refl;
}

-- what holds in each core's graph of lawful tasks holds in some
pub in_some : (g : TaskGraph) (holds : Graph → Type 0) → IsLawful g → InEachGraphOf g holds → InSomeGraphOf g holds
in_some g holds laws each = let r = graph_of g empty in let is = graph_matches g empty laws in (empty, r, is, each empty r is)
  where
    empty : Outcome
    empty k inputs = []

-- a key that the test for the root refuses is a task
pub task_of : (g : TaskGraph) (k : ℕ) (test : Bool) → IsCoreKey g k → test ≡ eqb k root_key → test ≡ false → IsTask g k
task_of g k test key told refused = ⊎_elim (λ is. absurd (true≢false (sym (eq-eqb k root_key is) ∙ sym told ∙ refused))) (λ has. has) key

-- a key with a port is a task, and what its port serves is a task or the root
pub task_with_port : (g : TaskGraph) (k q : ℕ) → IsCoreKey g k → InSomeGraphOf g (λ r. q < r.ports k) → IsTask g k
task_with_port g k q key some = ⊎_elim (λ is. absurd (none is)) (λ has. has) key
  where
    none : k ≡ root_key → ⊥
    none is = let r = some.1 in let e : r.ports root_key ≡ 0 = subst (λ x. r.ports x ≡ 0) some.2.root some.2.at_root.ports in let low : q < r.ports root_key = subst (λ x. q < r.ports x) is some.3 in omega (arith, e, low)

pub pred_is_task : (g : TaskGraph) (k j p q : ℕ) → IsLawful g → IsTask g k → IsPred g k j p q → IsTask g p
pred_is_task g k j p q laws has at = is_member g.keys p (laws.pred_task k j p q has at)

pub succ_is_key : (g : TaskGraph) (p q k j : ℕ) → IsLawful g → IsTask g p → IsSucc g p q k j → IsCoreKey g k
succ_is_key g p q k j laws has at = inr (is_member g.keys k (laws.succ_task p q k j has at))

-- what a core can reach is the root or a task
pub reached_is_key : (g : TaskGraph) (outcome : Outcome) (r : Graph) (k : ℕ) → IsLawful g → IsGraphOf g outcome r → Reached r k → IsCoreKey g k
reached_is_key g outcome r k laws is (itself) = inl is.root
reached_is_key g outcome r k laws is (through i j above low) = ⊎_elim
    (λ root. inr (sink_task g (r.pred i j).task (at_root root) laws))
    (λ has. inr (let s = some_at (g.preds i) j (let e = (is.at_task i has).places in omega (arith, e, low)) in
    subst (IsTask g) (sym (ap (λ (e : Edge). e.task) ((is.at_task i has).pred j s.0.0 s.0.1 s.1))) (pred_is_task g i j s.0.0 s.0.1 laws has s.1)))
    (reached_is_key g outcome r i laws is above)
  where
    at_root : i ≡ root_key → (r.pred i j).task ≡ g.sink
    at_root root = let same : i ≡ r.root = root ∙ sym is.root in let one : r.places i ≡ 1 = ap r.places same ∙ is.at_root.places in let first : j ≡ 0 = omega (arith, one, low) in
        ap (λ n. (r.pred n j).task) same ∙ ap (λ n. (r.pred r.root n).task) first ∙ ap (λ (e : Edge). e.task) is.at_root.pred
