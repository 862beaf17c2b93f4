-- A rooted graph is lawful where the task graph is.
use Rattle.std.proofs.Common.{◌≡◌, ◌≢◌, ◌⊎◌, ◌∙◌, ℕ, ◌+◌, ◌/◌, ◌<◌, ◌≤◌, Bool, cond, List, length, Some, slice_get, IsTrue, ◌==◌, ⊎_elim, inl, inr, sym, ap, subst, refl, arith}
use Rattle.std.proofs.lemmas.Bool.Decides.{eqb_tells}
use Rattle.std.proofs.lemmas.Bool.{eqb-true}
use Rattle.std.proofs.lemmas.List.Folds.{Any-from_list_any}
use Rattle.std.proofs.lemmas.Option.{slice_get_within, slice_get_read}
use Rattle.std.specs.List.{list_any}
use mathlib.Core.Logic.{dite}
use native.Mathlib.Decide.{ℕ_discrete}
use Rattle.graph_model.specs.Graph.{Graph as TaskGraph, IsTask, IsPred, IsSucc, IsNamed, IsLawful}
use Rattle.graph_model.specs.Reaching.{IsReachable, at_sink, above}
use Rattle.graph_model.specs.Serial.{Outcome}
use Rattle.core_state.specs.Graph.{Graph, Edge, Successor, Reached, Reads, Lawful}
use Rattle.core_state.specs.Graph.Reached.{itself, through}
use Rattle.core_state.specs.Shapes.{edges_of, words_of}
use Rattle.core_state.specs.Rooted.{rooted}
use Rattle.graph_model.proofs.Index.{some_at}
use Rattle.core_state.proofs.Base.Counting.{eqb_here}
use Rattle.graph_model.proofs.Members.{is_member}
use Rattle.core_state.proofs.Start.Widest.{sink_task}
use Rattle.core_state.proofs.Start.Root.{which, by_root, by_task, by_none, below_by, place_of_key, port_of_key, pred_root, pred_task, succ_root, succ_task, rank_root, rank_task, version_of_block, versions_root, versions_task, writer_root, writer_task, value_root, value_task}

-- some place that names the task
named_at : (es : List (ℕ × ℕ)) (p : ℕ) → IsTrue (list_any (λ e. e.0 == p) es) → (j : ℕ) × (q : ℕ) × (slice_get es j ≡ Some (p, q))
named_at es p named = let x = Any-from_list_any (λ e. e.0 == p) es named in (x.0, x.1.1, slice_get_read es (length es) x.0 x.1 refl x.2 (sym x.3) ∙ ap (λ y. Some (y, x.1.1)) (eqb-true x.1.0 p x.4))

module _ (root : ℕ) (g : TaskGraph) (outcome : Outcome) (laws : IsLawful g) (apart : (k : ℕ) → IsTask g k → k ≢ root) where
  abbrev R : Graph
  R = rooted root g outcome

  sink_there : IsTask g g.sink
  sink_there = sink_task g g.sink refl laws

  pred_there : (k j p q : ℕ) → IsTask g k → IsPred g k j p q → IsTask g p
  pred_there k j p q has at = is_member g.keys p (laws.pred_task k j p q has at)

  succ_there : (p q k j : ℕ) → IsTask g p → IsSucc g p q k j → IsTask g k
  succ_there p q k j has at = is_member g.keys k (laws.succ_task p q k j has at)

  few_places : (k : ℕ) → R.places k ≤ 40
  few_places k = ⊎_elim (λ is. let e = by_root root g k 1 (length (g.preds k)) 0 is in omega (arith, e))
      (⊎_elim (λ t. let e = by_task root g k 1 (length (g.preds k)) 0 t.0 t.1 in let f = laws.few_places k t.1 in omega (arith, e, f)) (λ n. let e = by_none root g k 1 (length (g.preds k)) 0 n.0 n.1 in omega (arith, e)))
      (which root g k)

  few_inputs : (k : ℕ) → R.inputs k ≤ R.places k
  few_inputs k = ⊎_elim (λ is. let e = by_root root g k 1 (length (g.preds k)) 0 is in let i = by_root root g k 1 (g.inputs k) 0 is in omega (arith, e, i))
      (⊎_elim (λ t. let e = by_task root g k 1 (length (g.preds k)) 0 t.0 t.1 in let i = by_task root g k 1 (g.inputs k) 0 t.0 t.1 in let f = laws.data_first k t.1 in omega (arith, e, i, f))
      (λ n. let e = by_none root g k 1 (length (g.preds k)) 0 n.0 n.1 in let i = by_none root g k 1 (g.inputs k) 0 n.0 n.1 in omega (arith, e, i)))
      (which root g k)

  falls : (k j : ℕ) → j < R.places k → R.rank (R.pred k j).task < R.rank k
  falls k j low = ⊎_elim
      (λ z. let e = ap (λ (x : Edge). R.rank x.task) (pred_root root g outcome k j z.0) in let a = rank_task root g outcome g.sink (apart g.sink sink_there) in let b = rank_root root g outcome k z.0 in omega (arith, e, a, b))
      (λ z. let s = some_at (g.preds k) j z.1 in let p = s.0.0 in
      let e = ap (λ (x : Edge). R.rank x.task) (pred_task root g outcome k j p s.0.1 z.0.0 s.1) in
      let a = rank_task root g outcome p (apart p (pred_there k j p s.0.1 z.0.1 s.1)) in
      let b = rank_task root g outcome k z.0.0 in
      let f = laws.falls k j p s.0.1 z.0.1 s.1 in
      omega (arith, e, a, b, f))
      (place_of_key root g outcome k j low)

  own_ports : (p : ℕ) → length (g.succs p) ≤ edges_of g p
  own_ports p = ⊎_elim (λ e. let w : edges_of g p ≡ length (g.succs p) + 1 = ap (λ (t : Bool). cond t (length (g.succs p) + 1) (length (g.succs p))) e.0 in omega (arith, w))
      (λ e. let w : edges_of g p ≡ length (g.succs p) = ap (λ (t : Bool). cond t (length (g.succs p) + 1) (length (g.succs p))) e.0 in omega (arith, w))
      (eqb_tells p g.sink)

  pub sink_ports : edges_of g g.sink ≡ length (g.succs g.sink) + 1
  sink_ports = ap (λ (t : Bool). cond t (length (g.succs g.sink) + 1) (length (g.succs g.sink))) (eqb_here g.sink)

  pub ports_of : (p : ℕ) → IsTask g p → R.ports p ≡ edges_of g p
  ports_of p has = by_task root g p 0 (edges_of g p) 0 (apart p has) has

  pub places_of : (k : ℕ) → IsTask g k → R.places k ≡ length (g.preds k)
  places_of k has = by_task root g k 1 (length (g.preds k)) 0 (apart k has) has

  -- an edge leads back to its place, and from there to its port
  abbrev Back : ℕ → ℕ → Edge → Type 0
  Back k j x = (x.port < R.ports x.task) × ((R.succ x.task x.port).task ≡ k) × ((R.succ x.task x.port).place ≡ j)

  abbrev Forth : ℕ → ℕ → Successor → Type 0
  Forth p q x = (x.place < R.places x.task) × ((R.pred x.task x.place).task ≡ p) × ((R.pred x.task x.place).port ≡ q)

  back_at : (k j p q : ℕ) → IsTask g p → IsSucc g p q k j → Back k j (record { task = p; port = q })
  back_at k j p q has at = let e = succ_task root g outcome p q k j at in
      (let a = ports_of p has in let b = own_ports p in let c = slice_get_within (g.succs p) q (k, j) at in omega (arith, a, b, c), ap (λ (x : Successor). x.task) e, ap (λ (x : Successor). x.place) e)

  forth_at : (p q k j : ℕ) → IsTask g k → IsPred g k j p q → Forth p q (record { task = k; place = j })
  forth_at p q k j has at = let e = pred_task root g outcome k j p q (apart k has) at in
      (let a = places_of k has in let c = slice_get_within (g.preds k) j (p, q) at in omega (arith, a, c), ap (λ (x : Edge). x.task) e, ap (λ (x : Edge). x.port) e)

  back : (k j : ℕ) → j < R.places k → Back k j (R.pred k j)
  back k j low = ⊎_elim
      (λ z. subst (Back k j) (sym (pred_root root g outcome k j z.0)) (at_root z.0 z.1))
      (λ z. let s = some_at (g.preds k) j z.1 in let p = s.0.0 in let q = s.0.1 in
      subst (Back k j) (sym (pred_task root g outcome k j p q z.0.0 s.1)) (back_at k j p q (pred_there k j p q z.0.1 s.1) (laws.forth k j p q z.0.1 s.1)))
      (place_of_key root g outcome k j low)
    where
      at_root : k ≡ root → j ≡ 0 → Back k j (record { task = g.sink; port = length (g.succs g.sink) })
      at_root is first = let e = succ_root root g outcome g.sink (length (g.succs g.sink)) refl in
          (let a = ports_of g.sink sink_there in let b = sink_ports in omega (arith, a, b), ap (λ (x : Successor). x.task) e ∙ sym is, ap (λ (x : Successor). x.place) e ∙ sym first)

  forth : (p q : ℕ) → q < R.ports p → Forth p q (R.succ p q)
  forth p q low = ⊎_elim
      (λ z. subst (Forth p q) (sym (succ_root root g outcome p q z.1)) (at_root z.0 z.1))
      (λ z. let s = some_at (g.succs p) q z in let k = s.0.0 in let j = s.0.1 in
      subst (Forth p q) (sym (succ_task root g outcome p q k j s.1)) (forth_at p q k j (succ_there p q k j here.0.1 s.1) (laws.back p q k j here.0.1 s.1)))
      here.1
    where
      here : ((p ≢ root) × IsTask g p) × (((p ≡ g.sink) × (q ≡ length (g.succs p))) ⊎ (q < length (g.succs p)))
      here = port_of_key root g outcome p q low

      at_root : p ≡ g.sink → q ≡ length (g.succs p) → Forth p q (record { task = root; place = 0 })
      at_root is last = let e = pred_root root g outcome root 0 refl in
          (let a = by_root root g root 1 (length (g.preds root)) 0 refl in omega (arith, a), ap (λ (x : Edge). x.task) e ∙ sym is, ap (λ (x : Edge). x.port) e ∙ ap (λ x. length (g.succs x)) (sym is) ∙ sym last)

  enough_words : (p q : ℕ) → q < R.ports p → q / 40 < R.notify_words p
  enough_words p q low = let z = (port_of_key root g outcome p q low).0 in let a = ports_of p z.1 in let b : R.notify_words p ≡ words_of g p = by_task root g p 1 (words_of g p) 1 z.0 z.1 in
      let c : q / 40 < (edges_of g p + 39) / 40 = omega (arith, a, low) in omega (arith, b, c)

  some_word : (p : ℕ) → 0 < R.notify_words p
  some_word p = ⊎_elim (λ is. let e = by_root root g p 1 (words_of g p) 1 is in omega (arith, e))
      (⊎_elim (λ t. let e = by_task root g p 1 (words_of g p) 1 t.0 t.1 in omega (arith, e)) (λ n. let e = by_none root g p 1 (words_of g p) 1 n.0 n.1 in omega (arith, e)))
      (which root g p)

  -- a key on which the root depends is the root, or a task that the sink needs
  pub reached_cases : (k : ℕ) → Reached R k → (k ≡ root) ⊎ (IsTask g k × IsReachable g k)
  reached_cases k itself = inl refl
  reached_cases k (through m j r low) = ⊎_elim
      (λ is. inr (subst Needed (sym (ap (λ (x : Edge). x.task) (pred_root root g outcome m j is))) (sink_there, at_sink)))
      (λ t. ⊎_elim (λ z. absurd (apart m t.0 z.0))
      (λ z. let s = some_at (g.preds m) j z.1 in let p = s.0.0 in let q = s.0.1 in
      inr (subst Needed (sym (ap (λ (x : Edge). x.task) (pred_task root g outcome m j p q z.0.0 s.1))) (pred_there m j p q t.0 s.1, above m j p q t.1 s.1)))
      (place_of_key root g outcome m j low))
      (reached_cases m r)
    where
      Needed : ℕ → Type 0
      Needed x = IsTask g x × IsReachable g x

  -- a task that the sink needs is one on which the root depends
  pub reached_from : (k : ℕ) → IsReachable g k → Reached R k × IsTask g k
  reached_from k at_sink = (
    subst (Reached R) (ap (λ (x : Edge). x.task) (pred_root root g outcome root 0 refl)) (through root 0 itself (let a = by_root root g root 1 (length (g.preds root)) 0 refl in omega (arith, a))),
    sink_there,
  )
  reached_from k (above m j p q needed at) = let below = reached_from m needed in (
    subst (Reached R) (ap (λ (x : Edge). x.task) (pred_task root g outcome m j p q (apart m below.1) at)) (through m j below.0 (let a = places_of m below.1 in let c = slice_get_within (g.preds m) j (p, q) at in omega (arith, a, c))),
    pred_there m j p q below.1 at,
  )

  -- what a task writes, and what the root writes
  pub block_of : (k : ℕ) → IsTask g k → R.block k ≡ g.block k
  block_of k has = by_task root g k g.block_count (g.block k) (g.block_count + 1) (apart k has) has

  pub version_of : (k : ℕ) → IsTask g k → R.version k ≡ g.version k
  version_of k has = by_task root g k 1 (g.version k) 0 (apart k has) has

  pub root_block_is : (k : ℕ) → k ≡ root → R.block k ≡ g.block_count
  root_block_is k is = by_root root g k g.block_count (g.block k) (g.block_count + 1) is

  pub root_version : (k : ℕ) → k ≡ root → R.version k ≡ 1
  root_version k is = by_root root g k 1 (g.version k) 0 is

  versions_of : (k : ℕ) → IsTask g k → R.versions (R.block k) ≡ g.versions (g.block k)
  versions_of k has = ap R.versions (block_of k has) ∙ versions_task root g outcome (g.block k) (laws.block_inside k has)

  root_versions : (k : ℕ) → k ≡ root → R.versions (R.block k) ≡ 1
  root_versions k is = versions_root root g outcome (R.block k) (root_block_is k is)

  from_one : (k : ℕ) → Reached R k → (0 < R.version k) × (R.version k ≤ R.versions (R.block k))
  from_one k r = ⊎_elim
      (λ is. let a = root_version k is in let b = root_versions k is in (omega (arith, a), omega (arith, a, b)))
      (λ t. let a = version_of k t.0 in let b = versions_of k t.0 in let c = laws.version_inside k t.0 in (omega (arith, a, c.0), omega (arith, a, b, c.1)))
      (reached_cases k r)

  writer_of : (b v : ℕ) → b < g.block_count → 0 < v → v ≤ g.versions b → (R.writer b v ≡ g.writer b v) × IsTask g (g.writer b v)
  writer_of b v low some last = (writer_task root g outcome b v low, is_member g.keys (g.writer b v) (laws.writer_task b v low some last))

  own_writer : (k : ℕ) → IsTask g k → R.writer (R.block k) (R.version k) ≡ k
  own_writer k has = ap (λ b. R.writer b (R.version k)) (block_of k has) ∙ ap (λ v. R.writer (g.block k) v) (version_of k has) ∙ writer_task root g outcome (g.block k) (g.version k) (laws.block_inside k has) ∙ laws.one_writer k has

  written_by : (k : ℕ) → Reached R k → R.writer (R.block k) (R.version k) ≡ k
  written_by k r = ⊎_elim (λ is. writer_root root g outcome (R.block k) (R.version k) (root_block_is k is) ∙ sym is) (λ t. own_writer k t.0) (reached_cases k r)

  writes : (b v : ℕ) → 0 < v → v ≤ R.versions b → (R.block (R.writer b v) ≡ b) × (R.version (R.writer b v) ≡ v)
  writes b v some low = ⊎_elim
      (λ z. let w = writer_root root g outcome b v z.0 in (root_block_is (R.writer b v) w ∙ sym z.0, root_version (R.writer b v) w ∙ sym z.1))
      (λ z. let w = writer_of b v z.0 some z.1 in let is = laws.writes b v z.0 some z.1 in
      (ap R.block w.0 ∙ block_of (g.writer b v) w.1 ∙ is.0, ap R.version w.0 ∙ version_of (g.writer b v) w.1 ∙ is.1))
      (version_of_block root g outcome b v some low)

  -- a task that names another has a place for it
  named_place : (k p : ℕ) → IsTask g k → IsNamed g k p → (j : ℕ) × (j < R.places k) × ((R.pred k j).task ≡ p)
  named_place k p has named = let at = named_at (g.preds k) p named in
      (at.0, (let a = places_of k has in let c = slice_get_within (g.preds k) at.0 (p, at.1) at.2 in omega (arith, a, c)), ap (λ (x : Edge). x.task) (pred_task root g outcome k at.0 p at.1 (apart k has) at.2))

  abbrev HasPlace : ℕ → ℕ → Type 0
  HasPlace k p = (j : ℕ) × (j < R.places k) × ((R.pred k j).task ≡ p)

  -- a block with two versions is one of the graph's
  graph_block : (b v : ℕ) → 0 < v → v < R.versions b → (b < g.block_count) × (v < g.versions b)
  graph_block b v some low = ⊎_elim (λ z. absurd (let a = versions_root root g outcome b z.0 in omega (arith, a, some, low))) (λ z. (z.0, (let a = versions_task root g outcome b z.0 in omega (arith, a, low))))
      (version_of_block root g outcome b v some (omega (arith, low)))

  after_writer : (b v : ℕ) → 0 < v → v < R.versions b → HasPlace (R.writer b (v + 1)) (R.writer b v)
  after_writer b v some low =
      let in_graph = graph_block b v some low in
      let this = writer_of b v in_graph.0 some (omega (arith, in_graph.1)) in
      let next = writer_of b (v + 1) in_graph.0 (omega (arith)) (omega (arith, in_graph.1)) in
      subst (λ k. HasPlace k (R.writer b v)) (sym next.0) (subst (HasPlace (g.writer b (v + 1))) (sym this.0) (named_place (g.writer b (v + 1)) (g.writer b v) next.1 (laws.ordered b v in_graph.0 some in_graph.1)))

  -- a task that reads a version has an edge from its writer at a data place
  reads_from : (b v k : ℕ) → b < g.block_count → k ≢ R.root → Reads R k b v → IsTask g k × ((j : ℕ) × (q : ℕ) × (j < g.inputs k) × IsSucc g (g.writer b v) q k j)
  reads_from b v k low other reads = ⊎_elim
      (λ z. absurd (other z.0))
      (λ z. let s = some_at (g.preds k) reads.input (let a = laws.data_first k z.0.1 in let c = z.1 in omega (arith, a, c)) in let p = s.0.0 in let q = s.0.1 in
      let has = pred_there k reads.input p q z.0.1 s.1 in
      let e : (R.pred k reads.input).task ≡ p = ap (λ (x : Edge). x.task) (pred_task root g outcome k reads.input p q z.0.0 s.1) in
      let block : g.block p ≡ b = sym (block_of p has) ∙ ap R.block (sym e) ∙ reads.of_block in
      let version : g.version p ≡ v = sym (version_of p has) ∙ ap R.version (sym e) ∙ reads.of_version in
      let writer : p ≡ g.writer b v = sym (laws.one_writer p has) ∙ ap (λ x. g.writer x (g.version p)) block ∙ ap (λ x. g.writer b x) version in
      (z.0.1, (reads.input, q, z.1, subst (λ x. IsSucc g x q k reads.input) writer (laws.forth k reads.input p q z.0.1 s.1))))
      (below_by root g k reads.input 1 (g.inputs k) reads.is_input)

  after_readers : (b v k : ℕ) → 0 < v → v < R.versions b → k ≢ R.root → Reads R k b v → (k ≡ R.writer b (v + 1)) ⊎ HasPlace (R.writer b (v + 1)) k
  after_readers b v k some low other reads =
      let in_graph = graph_block b v some low in
      let next = writer_of b (v + 1) in_graph.0 (omega (arith)) (omega (arith, in_graph.1)) in
      let from = reads_from b v k in_graph.0 other reads in
      dite (ℕ_discrete k (g.writer b (v + 1)))
      (λ is. inl (is ∙ sym next.0))
      (λ ne. inr (subst (λ x. HasPlace x k) (sym next.0) (named_place (g.writer b (v + 1)) k next.1 (laws.read_before b v from.1.1 k from.1.0 in_graph.0 some in_graph.1 from.1.3 from.1.2 ne))))

  root_alone : (k j : ℕ) → j < R.places k → (R.pred k j).task ≢ R.root
  root_alone k j low = ⊎_elim
      (λ z. λ e. apart g.sink sink_there (sym (ap (λ (x : Edge). x.task) (pred_root root g outcome k j z.0)) ∙ e))
      (λ z. λ e. let s = some_at (g.preds k) j z.1 in let p = s.0.0 in let q = s.0.1 in
      apart p (pred_there k j p q z.0.1 s.1) (sym (ap (λ (x : Edge). x.task) (pred_task root g outcome k j p q z.0.0 s.1)) ∙ e))
      (place_of_key root g outcome k j low)

  root_block : (k : ℕ) → R.block k ≡ R.block R.root → k ≡ R.root
  root_block k same = let at = root_block_is root refl in ⊎_elim (λ is. is)
      (⊎_elim (λ t. absurd (let a = block_of k t.1 in let b = laws.block_inside k t.1 in omega (arith, a, b, same, at)))
      (λ n. absurd (let a = by_none root g k g.block_count (g.block k) (g.block_count + 1) n.0 n.1 in omega (arith, a, same, at))))
      (which root g k)

  pub lawful : Lawful R
  lawful = record {
    few_places = few_places;
    few_inputs = few_inputs;
    falls = falls;
    back = back;
    forth = forth;
    enough_words = enough_words;
    some_word = some_word;
    from_one = from_one;
    written_by = written_by;
    writes = writes;
    after_writer = after_writer;
    after_readers = after_readers;
    root_places = (by_root root g root 1 (length (g.preds root)) 0 refl, by_root root g root 1 (g.inputs root) 0 refl, ap (λ (x : Edge). x.task) (pred_root root g outcome root 0 refl));
    root_ports = by_root root g root 0 (edges_of g root) 0 refl;
    root_alone = root_alone;
    root_block = ((root_versions root refl, root_version root refl), root_block);
    root_value = value_root root g outcome root refl ∙ sym (value_task root g outcome g.sink (apart g.sink sink_there));
  }
