-- A bad input that a computing meets has a cause that records show; and while no strike has landed no cause is shown.
use Rattle.std.proofs.Common.{◌≡◌, ◌≢◌, ◌⊎◌, ℕ, ◌+◌, ◌-◌, ◌/◌, ◌<◌, ◌≤◌, Bool, true, false, cond, ◌&&◌, nat_lt, ne_eqb, ⊎_elim, inl, inr, arith, sym, ap, refl, ◌∙◌, subst}
use mathlib.Core.Logic.{dite}
use native.Mathlib.Decide.{ℕ_discrete, dec_lt}
use Rattle.std.proofs.lemmas.Bool.{eq-eqb, le-ltb}
use Rattle.core_state.specs.Graph.{Graph, Lawful, Setting, Sound, Reached, Reads}
use Rattle.core_state.specs.Graph.Reached.{itself, through}
use Rattle.core_state.specs.Words.{recovery, standing_life, replacing}
use Rattle.core_state.specs.Counts.{hit, noted}
use Rattle.core_state.specs.Tests.{is_of, is_closed, is_closing, is_version, is_any_struck, is_struck_version, is_replaced, is_replaced_for}
use Rattle.core_state.specs.Change.{Core, Sums, many}
use Rattle.core_state.specs.Laws.{Shown, Grounded}
use Rattle.core_state.specs.Laws.Concerns.{input}
use Rattle.core_state.specs.Laws.Grounded.{newer, older}
use Rattle.core_state.specs.Laws.Shown.{descriptor as by_descriptor, notify as by_notify, struck as by_struck, other as by_other}
use Rattle.core_state.specs.Rows.{HasRow}
use Rattle.core_state.specs.Blocks.{Holds}
use Rattle.core_state.specs.Cover.{Faultless}
use Rattle.core_state.specs.Invariant.{Invariant}
use Rattle.core_state.specs.Guards.{AtWork}
use Rattle.core_state.specs.Effects.{is_good, found_in}
use Rattle.graph_model.specs.declared.record.Cause.{Cause}
use Rattle.graph_model.specs.declared.record.Cause.TheVariants as cause
use Rattle.graph_model.specs.declared.record.Found.TheVariants as found
use Rattle.graph_model.specs.declared.record.Hit.TheVariants as hit_of
use Rattle.graph_model.specs.declared.record.Record.{Record}
use Rattle.graph_model.specs.declared.record.Record.TheVariants as record_of
use Rattle.core_state.specs.declared.block.BlockCells.{BlockCells}
use Rattle.core_state.specs.declared.views.Item.TheVariants as item
use Rattle.core_state.specs.declared.views.View.{View}
use Rattle.core_state.proofs.Blocks.Blame.{replaced_grounded, found_above}
use Rattle.core_state.proofs.Base.Counting.{two_tells}
use Rattle.core_state.proofs.Blocks.Versions.{many_some, reached_writing, version_written, version_below, writes_version, written_twice}
use Rattle.core_state.proofs.Row.View.{fewer}
use Rattle.core_state.proofs.Credit.JobView.{and_false}
use Rattle.core_state.proofs.Strike.Missed.{not_good}
use Rattle.core_state.proofs.Replace.Suspects.{none_struck}
use Rattle.core_state.proofs.Blocks.AtWork.{key_row, key_reached, computing_here, life_some, all_spent}

-- of the keys on which the root depends the sink ranks highest
under_sink : (g : Graph) → Lawful g → (k : ℕ) → Reached g k → (k ≡ g.root) ⊎ (g.rank k ≤ g.rank g.sink)
under_sink g law k itself = inl refl
under_sink g law k (through m j r low) = inr (⊎_elim
    (λ is. let first : j ≡ 0 = (let a = ap g.places is in let b = law.root_places.0 in omega (arith, a, b, low)) in let p : (g.pred m j).task ≡ g.sink = ap (λ o. (g.pred o j).task) is ∙ ap (λ o. (g.pred g.root o).task) first ∙ law.root_places.2 in let a = ap g.rank p in omega (arith, a))
    (λ up. let a = law.falls m j low in omega (arith, a, up)) (under_sink g law m r))

module _ (e : Setting) (fit : Sound e) (s : Core) (sums : Sums s) (inv : Invariant e s) where
  -- a key of which a word was closed has its row
  pub closing_row : (p q : ℕ) → 0 < many s (is_closing p q) → (l : ℕ) × (0 < many s (is_closed p l q)) × HasRow e s p
  closing_row p q z = let r = many_some e fit s sums inv.records (is_closing p q) z in of r.0 r.1 r.2
    where
      of : (x : Record) → is_closing p q x ≡ true → ((f : Record → Bool) → f x ≡ true → 0 < many s f) → (l : ℕ) × (0 < many s (is_closed p l q)) × HasRow e s p
      of (record_of.Closed a m u) t tests = ⊎_elim (λ f. absurd cc)
          (λ f. let here : 0 < many s (is_closed p m q) = tests (is_closed p m q) (rw (eq-eqb p a.0 f.1, eq-eqb m m refl, eq-eqb q u f.2)) in
          let named : 0 < many s (is_of p m) = tests (is_of p m) (rw (eq-eqb p a.0 f.1, eq-eqb m m refl)) in
          (m, here, inv.keys.of_created p (let o = inv.records.lives.created_once p m named in omega (arith, o)))) (two_tells p q a.0 u)
      of x t tests = absurd cc

  -- the sink's version is the last one of its block that is written
  sink_last : Reached e.graph e.graph.sink → 0 < many s (is_version (e.graph.block e.graph.sink) (e.graph.version e.graph.sink + 1)) → ⊥
  sink_last at_sink z = let g : Graph = e.graph in let b : ℕ = g.block g.sink in let v : ℕ = g.version g.sink in let w = version_written e fit s sums inv.records b (v + 1) z in let k : ℕ = g.writer b (v + 1) in
      let reached = reached_writing e fit s sums inv.records k w.0 w.1 in let some = (fit.lawful.from_one g.sink at_sink).0 in
      ⊎_elim (λ is. let same : g.sink ≡ g.root = fit.lawful.root_block.1 g.sink (sym w.2 ∙ ap g.block is) in fit.lawful.root_alone g.root 0 (let a = fit.lawful.root_places.0 in omega (arith, a)) (fit.lawful.root_places.2 ∙ same))
      (λ under. let up = (fit.lawful.from_one k reached).1 in let low : v < g.versions b = (let a = ap g.versions w.2 in let d = w.3 in omega (arith, up, a, d)) in
      let j = fit.lawful.after_writer b v some low in let falls = fit.lawful.falls k j.0 j.1 in let a = ap g.rank (j.2 ∙ fit.lawful.written_by g.sink at_sink) in omega (arith, under, falls, a)) (under_sink g fit.lawful k reached)

  -- while no strike has landed no life was replaced
  none_replaced : Faultless e s → (k l : ℕ) (c : Cause) → 0 < many s (is_replaced_for k l c) → ⊥
  none_replaced old k l c z = let r = many_some e fit s sums inv.records (is_replaced_for k l c) z in let both_of = of r.0 r.1 r.2 in
      let row : HasRow e s k = inv.keys.of_created k (let o = inv.records.lives.created_once k l both_of.1 in omega (arith, o)) in
      let told = inv.records.replaced row.0 k l row.1 in let first = old.first_life row.0 k row.1 in let n : ℕ = s.word (recovery row.0) in
      let here = both_of.0 in let none = nothing l (standing_life n + replacing n) (omega (arith, first)) in omega (arith, told, none, here)
    where
      of : (x : Record) → is_replaced_for k l c x ≡ true → ((f : Record → Bool) → f x ≡ true → 0 < many s f) → (0 < many s (is_replaced k l)) × (0 < many s (is_of k l))
      of (record_of.Replaced a m d) t tests = ⊎_elim (λ f. absurd (let o : false ≡ true = sym (ap (λ (o : Bool). o && Rattle.core_state.specs.Tests.same_cause c d) f) ∙ t in cc)) (λ f. (tests (is_replaced k l) f.0, tests (is_of k l) f.0)) (two_tells k l a.0 m)
      of x t tests = absurd cc

      nothing : (l n : ℕ) → n ≡ 1 → hit (nat_lt 0 l && nat_lt l n) ≡ 0
      nothing l n one = dite (ℕ_discrete l 0) (λ q. ap (λ (o : Bool). hit (o && nat_lt l n)) (le-ltb 0 l (omega (arith, q))))
          (λ ne. ap (λ (o : Bool). hit (nat_lt 0 l && o)) (le-ltb l n (omega (arith, one, ne))) ∙ ap hit (and_false (nat_lt 0 l)))

  none_grounded : Faultless e s → (b v u : ℕ) → Grounded e.graph (many s) (cause.Block b v (found.Other u)) → ⊥
  none_grounded old b v u (newer x y z k l c less not_root reads here by) = none_replaced old k l c here
  none_grounded old b v u (older x y z l c less here by) = none_replaced old (e.graph.writer x z) l c here

  -- nor is a cause shown
  pub none_shown : many s is_any_struck ≡ 0 → Faultless e s → (k l : ℕ) (c : Cause) → Shown e.graph (many s) (Grounded e.graph (many s)) k l c → ⊥
  none_shown unstruck old k l c (by_descriptor z) = let a = none_struck s sums unstruck k l hit_of.Descriptor in omega (arith, a, z)
  none_shown unstruck old k l c (by_notify w z) = let a = none_struck s sums unstruck k l (hit_of.Notify w) in omega (arith, a, z)
  none_shown unstruck old k l c (by_struck b v of z) = let a = sums.none (noted is_any_struck) (noted (is_struck_version b v)) (λ o f. fewer is_any_struck (is_struck_version b v) (any b v) o.records f) unstruck in omega (arith, a, z)
    where
      any : (b v : ℕ) (x : Record) → is_struck_version b v x ≡ true → is_any_struck x ≡ true
      any b v (record_of.Struck a m i) t = refl
      any b v x t = absurd cc
  none_shown unstruck old k l c (by_other b v u of ne z grounded) = none_grounded old b v u grounded

-- the predecessor at an input that a computing has still to read
module _ (e : Setting) (fit : Sound e) (s : Core) (sums : Sums s) (inv : Invariant e s) (k l read : ℕ) (made : Bool) (v : View) (at : AtWork v (item.Compute k l true read made)) (within : (f : View → ℕ) → f v ≤ s.total f) (low : read < e.graph.inputs k) where
  abbrev pub before : ℕ
  before = (e.graph.pred k read).task

  place : read < e.graph.places k
  place = let a = fit.lawful.few_inputs k in omega (arith, a, low)

  closing : (m : ℕ) × (0 < many s (is_closed (e.graph.pred k read).task m ((e.graph.pred k read).port / 40))) × HasRow e s (e.graph.pred k read).task
  closing = closing_row e fit s sums inv (e.graph.pred k read).task ((e.graph.pred k read).port / 40) (inv.records.edges.closed k l read place (all_spent e s sums k l read made v at within inv read (inl place)))

  before_reached : Reached e.graph (e.graph.pred k read).task
  before_reached = through k read (key_reached e s sums k l read made v at within inv) place

  -- it has written its version
  before_wrote : 0 < many s (is_version (e.graph.block (e.graph.pred k read).task) (e.graph.version (e.graph.pred k read).task))
  before_wrote = writes_version e fit s sums inv.records (e.graph.pred k read).task closing.0 (inv.records.computed.closed_written (e.graph.pred k read).task closing.0 ((e.graph.pred k read).port / 40) closing.1)

  -- the writer of the version has its row
  pub writer_row : HasRow e s (e.graph.writer (e.graph.block (e.graph.pred k read).task) (e.graph.version (e.graph.pred k read).task))
  writer_row = subst (HasRow e s) (sym (fit.lawful.written_by (e.graph.pred k read).task before_reached)) closing.2

  module _ (was : BlockCells) (is_was : s.block (e.graph.block (e.graph.pred k read).task) ≡ was) (bad : is_good (e.graph.version (e.graph.pred k read).task) was ≡ false) where
    abbrev b : ℕ
    b = e.graph.block (e.graph.pred k read).task

    abbrev wanted : ℕ
    wanted = e.graph.version (e.graph.pred k read).task

    holds : Holds e s b was
    holds = subst (Holds e s b) is_was (inv.blocks.each b (fit.blocks_fit (e.graph.pred k read).task before_reached)).holds

    reads : Reads e.graph k b wanted
    reads = record { input = read; is_input = low; of_block = refl; of_version = refl }

    some : 0 < wanted
    some = (fit.lawful.from_one (e.graph.pred k read).task before_reached).0

    -- the root reads the last version
    not_root : 0 < many s (is_version b (wanted + 1)) → k ≢ e.graph.root
    not_root next is = let first : read ≡ 0 = (let a = ap e.graph.inputs is in let d = fit.lawful.root_places.1 in omega (arith, a, d, low)) in
        let same : (e.graph.pred k read).task ≡ e.graph.sink = ap (λ o. (e.graph.pred o read).task) is ∙ ap (λ o. (e.graph.pred e.graph.root o).task) first ∙ fit.lawful.root_places.2 in
        sink_last e fit s sums inv (subst (Reached e.graph) same before_reached) (subst (λ o. 0 < many s (is_version (e.graph.block o) (e.graph.version o + 1))) same next)

    grounded : was.tag ≢ wanted → (0 < many s (is_version b was.tag)) × Grounded e.graph (many s) (cause.Block b wanted (found.Other was.tag))
    grounded ne = dite (dec_lt was.tag wanted)
        (λ below. let twice = holds.twice wanted below before_wrote in let w = written_twice e fit s sums inv.records b was.tag twice in let g = replaced_grounded e fit s sums inv (e.graph.writer b was.tag) w.0 w.1 in
        (omega (arith, twice), older b wanted was.tag w.0 g.0 below g.1 g.2))
        (λ high. let above : wanted < was.tag = omega (arith, high, ne) in let wrote = holds.written (omega (arith, above)) in
        let next : 0 < many s (is_version b (wanted + 1)) = version_below e fit s sums inv.records b (wanted + 1) (was.tag - (wanted + 1)) (omega arith) (subst (λ x. 0 < many s (is_version b x)) (let q : was.tag ≡ wanted + 1 + (was.tag - (wanted + 1)) = omega (arith, above) in q) wrote) in
        let row = key_row e s sums k l read made v at within inv in
        (wrote, found_above e fit s sums inv row.0 k l b wanted was.tag row.1 (computing_here e s sums k l read made v at within inv) (life_some e s sums k l read made v at within inv) (not_root next) reads some above wrote))

    -- the cause is shown
    pub bad_shown : Shown e.graph (many s) (Grounded e.graph (many s)) k l (cause.Block (e.graph.block (e.graph.pred k read).task) (e.graph.version (e.graph.pred k read).task) (found_in (e.graph.version (e.graph.pred k read).task) was))
    bad_shown = ⊎_elim
        (λ ne. let g = grounded ne in subst (λ (o : Bool). Shown e.graph (many s) (Grounded e.graph (many s)) k l (cause.Block b wanted (cond o (found.Struck wanted) (found.Other was.tag)))) (sym (ne_eqb was.tag wanted ne)) (by_other b wanted was.tag (input reads) ne g.0 g.1))
        (λ q. subst (λ (o : Bool). Shown e.graph (many s) (Grounded e.graph (many s)) k l (cause.Block b wanted (cond o (found.Struck wanted) (found.Other was.tag)))) (sym (eq-eqb was.tag wanted q.0)) (by_struck b wanted (input reads) (subst (λ o. 0 < many s (is_struck_version b o)) q.0 (holds.struck q.1).1))) (not_good wanted was bad)
