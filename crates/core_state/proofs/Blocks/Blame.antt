-- A reader that finds a later version blames it rightly: it has itself been replaced before.
use Rattle.std.proofs.Common.{◌≡◌, ◌≢◌, ℕ, ◌+◌, ◌-◌, ◌<◌, ◌≤◌, Bool, true, nat_lt, ◌&&◌, arith, ap, refl, ◌∙◌, subst}
use mathlib.Core.Logic.{dite}
use native.Mathlib.Decide.{ℕ_discrete, dec_lt}
use Rattle.std.proofs.lemmas.Bool.{lt-ltb}
use Rattle.core_state.specs.Graph.{Setting, Sound, Reads}
use Rattle.core_state.specs.Words.{descriptor, recovery, life_of, standing_life, replacing}
use Rattle.core_state.specs.Counts.{hit, items, held}
use Rattle.core_state.specs.Tests.{is_compute, is_of, is_written, is_version, is_replaced, is_replaced_for, same_cause, same_found, two}
use Rattle.core_state.specs.Change.{Core, Sums, many}
use Rattle.core_state.specs.Laws.{Grounded}
use Rattle.core_state.specs.Laws.Grounded.{newer}
use Rattle.core_state.specs.Rows.{HasKey}
use Rattle.core_state.specs.Invariant.{Invariant}
use Rattle.core_state.specs.declared.job.Job.TheVariants.{Compute}
use Rattle.graph_model.specs.declared.record.Found.{Found}
use Rattle.graph_model.specs.declared.record.Found.TheVariants as found
use Rattle.graph_model.specs.declared.record.Cause.{Cause}
use Rattle.graph_model.specs.declared.record.Cause.TheVariants as cause
use Rattle.graph_model.specs.declared.record.Record.{Record}
use Rattle.graph_model.specs.declared.record.Record.TheVariants as record_of
use Rattle.core_state.proofs.Base.Counting.{two_here, eqb_here}
use Rattle.core_state.proofs.Row.View.{items_below}
use Rattle.core_state.proofs.Base.MoreRecords.{shown_grounded}
use Rattle.core_state.proofs.Blocks.Versions.{many_some, version_below, reader_wrote}

found_here : (f : Found) → same_found f f ≡ true
found_here (found.Struck v) = eqb_here v
found_here (found.Other v) = eqb_here v

pub cause_here : (c : Cause) → same_cause c c ≡ true
cause_here cause.Descriptor = refl
cause_here cause.Notify = refl
cause_here (cause.Block b v f) = rw (two_here b v, found_here f)

module _ (e : Setting) (fit : Sound e) (s : Core) (sums : Sums s) (i : Invariant e s) where
  -- a replacement stands with a cause that is grounded
  pub replaced_grounded : (k l : ℕ) → 0 < many s (is_replaced k l) → (c : Cause) × (0 < many s (is_replaced_for k l c)) × Grounded e.graph (many s) c
  replaced_grounded k l z = let r = many_some e fit s sums i.records (is_replaced k l) z in of r.0 r.1 r.2
    where
      of : (x : Record) → is_replaced k l x ≡ true → ((q : Record → Bool) → q x ≡ true → 0 < many s q) → (c : Cause) × (0 < many s (is_replaced_for k l c)) × Grounded e.graph (many s) c
      of (record_of.Replaced a m c) t tests = let here : 0 < many s (is_replaced_for k l c) = tests (is_replaced_for k l c) (rw (t, cause_here c)) in (c, here, shown_grounded e.graph (many s) (many s) (λ p. omega arith) k l c (i.causes.replaced.shown k l c here))
      of x t tests = absurd cc

  pub written_life : (k l : ℕ) → 0 < many s (is_written k l) → 0 < many s (is_of k l)
  written_life k l z = let r = many_some e fit s sums i.records (is_written k l) z in r.2 (is_of k l) (of r.0 r.1)
    where
      of : (x : Record) → is_written k l x ≡ true → is_of k l x ≡ true
      of (record_of.Written a m b u) t = t
      of x t = absurd cc

  -- a life below one that is being computed was replaced
  pub life_replaced : (r k l m : ℕ) → HasKey e s r k → 0 < s.total (items (is_compute k l)) → 0 < m → m < l → 0 < many s (is_replaced k m)
  life_replaced r k l m has at some low =
      let n : ℕ = s.word (recovery r) in let d : ℕ = life_of (s.word (descriptor r)) in
      let current : l ≤ d = dite (dec_lt d l) (λ less. absurd (let z = i.work.jobs.not_computed r k l has less in let w : s.total (items (is_compute k l)) ≤ s.total (held Compute k l) = sums.below (items (is_compute k l)) (held Compute k l) (λ v. computes_held k l v) in omega (arith, z, w, at))) (λ h. omega (arith, h)) in
      let top : d ≤ standing_life n + replacing n = dite (ℕ_discrete (replacing n) 0)
      (λ z. let a = ((i.lives.each r k has).standing z).descriptor_life in omega (arith, a))
      (λ z. let one : replacing n ≡ 1 = omega (arith, z) in let st = (i.lives.each r k has).being_replaced one in dite (dec_lt (e.graph.notify_words k) st.done) (λ q. let a = st.descriptor_after (let b = st.at_most in omega (arith, b, q)) in omega (arith, a, one)) (λ q. let a = st.descriptor_before (omega (arith, q)) in omega (arith, a))) in
      let a = i.records.replaced r k m has in let t : hit (nat_lt 0 m && nat_lt m (standing_life n + replacing n)) ≡ 1 = rw (lt-ltb 0 m some, lt-ltb m (standing_life n + replacing n) (omega (arith, low, current, top))) in omega (arith, a, t)
    where
      computes_held : (k l : ℕ) (v : Rattle.core_state.specs.declared.views.View.View) → items (is_compute k l) v ≤ held Compute k l v
      computes_held k l v = items_below (is_compute k l) (Rattle.core_state.specs.Tests.carries Compute k l) (λ x e. of x e) v.stacks
        where
          of : (x : Rattle.core_state.specs.declared.views.Item.Item) → is_compute k l x ≡ true → Rattle.core_state.specs.Tests.carries Compute k l x ≡ true
          of (Rattle.core_state.specs.declared.views.Item.TheVariants.Compute a b c d f) e = e
          of x e = absurd cc

  -- the cause with which a reader blames a later version is grounded
  pub found_above : (r k l b v u : ℕ) → HasKey e s r k → 0 < s.total (items (is_compute k l)) → 0 < l → k ≢ e.graph.root → Reads e.graph k b v → 0 < v → v < u → 0 < many s (is_version b u) → Grounded e.graph (many s) (cause.Block b v (found.Other u))
  found_above r k l b v u has at some not_root reads low less z =
      let next : 0 < many s (is_version b (v + 1)) = version_below e fit s sums i.records b (v + 1) (u - (v + 1)) (omega arith) (subst (λ x. 0 < many s (is_version b x)) (let q : u ≡ v + 1 + (u - (v + 1)) = omega (arith, less) in q) z) in
      let w = reader_wrote e fit s sums i.records b v k low next not_root reads in let m : ℕ = w.0 in
      let not_now : m ≢ l = λ q. let a = (i.work.computings.each r k l has some).unwritten (omega (arith, at)) in let d = w.1 in let f : many s (is_written k m) ≡ 0 = ap (λ x. many s (is_written k x)) q ∙ a in omega (arith, d, f) in
      let life = written_life k m w.1 in let not_zero : m ≢ 0 = λ q. let a = i.records.some_life k in let f : many s (is_of k m) ≡ 0 = ap (λ x. many s (is_of k x)) q ∙ a in omega (arith, life, f) in
      dite (dec_lt m l)
      (λ q. let g = replaced_grounded k m (life_replaced r k l m has at (omega (arith, not_zero)) q) in newer b v u k m g.0 less not_root reads g.1 g.2)
      (λ q. let g = replaced_grounded k (m - 1) (i.records.lives.replaced_before k m (let a : l ≤ m = omega (arith, q) in let d = not_now in omega (arith, a, d, some)) life) in newer b v u k (m - 1) g.0 less not_root reads g.1 g.2)
