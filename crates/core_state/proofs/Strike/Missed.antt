-- A strike on a block that can't land, as the block holds another version or the mark: the records show why, so the strike counts as made.
use Rattle.std.proofs.Common.{◌≡◌, ◌⊎◌, ℕ, ◌+◌, ◌<◌, ◌≤◌, Bool, true, false, cond, ◌&&◌, eqb, ⊎_elim, inl, inr, arith, sym, ap, refl, ◌∙◌, subst}
use mathlib.Core.Logic.{dite}
use native.Mathlib.Decide.{ℕ_discrete, dec_lt}
use Rattle.std.proofs.lemmas.Bool.{eq-eqb, eqb-true, lt-ltb}
use Rattle.core_state.specs.Graph.{Setting, Sound, Graph}
use Rattle.core_state.specs.Counts.{hit, items}
use Rattle.core_state.specs.Tests.{is_close, is_version, is_later_version, is_struck_version, is_replaced, is_replaced_below}
use Rattle.core_state.specs.Change.{Core, Sums, many}
use Rattle.core_state.specs.Laws.{BlockStruck}
use Rattle.core_state.specs.Blocks.{Holds}
use Rattle.core_state.specs.Invariant.{Invariant}
use Rattle.core_state.specs.Effects.{is_good, missed}
use Rattle.graph_model.specs.declared.key.Key.{Key}
use Rattle.graph_model.specs.declared.plan.Strike.{Strike}
use Rattle.graph_model.specs.declared.plan.Point.{Point}
use Rattle.graph_model.specs.declared.plan.Point.TheVariants as point
use Rattle.graph_model.specs.declared.plan.Target.{Target}
use Rattle.graph_model.specs.declared.plan.Target.TheVariants as target
use Rattle.graph_model.specs.declared.record.Record.{Record}
use Rattle.graph_model.specs.declared.record.Record.TheVariants as record_of
use Rattle.core_state.specs.declared.block.BlockCells.{BlockCells}
use Rattle.core_state.specs.declared.views.View.{View}
use Rattle.core_state.proofs.Base.Counting.{two_tells, both}
use Rattle.core_state.proofs.Blocks.Versions.{many_some, writes_version, written_twice}
use Rattle.core_state.proofs.Strike.Next.{NextStrike, strike_row, strike_life}
use Rattle.core_state.proofs.Blocks.AtWork.{at_work}

-- what it means that a block doesn't hold a version unstruck
pub not_good : (v : ℕ) (x : BlockCells) → is_good v x ≡ false → (x.tag ≡ v → ⊥) ⊎ ((x.tag ≡ v) × (x.struck ≡ true))
not_good v x z = dite (ℕ_discrete x.tag v) (λ q. inr (q, by x.struck (sym (ap (λ (o : Bool). o && cond x.struck false true) (eq-eqb x.tag v q)) ∙ z))) (λ ne. inl ne)
  where
    by : (b : Bool) → cond b false true ≡ false → b ≡ true
    by true f = refl
    by false f = absurd cc

not_false : (b : Bool) → cond b false true ≡ true → b ≡ false
not_false true z = absurd cc
not_false false z = refl

missed_parts : (g : Graph) (b : ℕ) (x : BlockCells) (k : Key) (l : ℕ) (p : Point) (y : Target) → missed g b x (record { key = k; life = l; point = p; target = y }) ≡ true → (y ≡ target.Block) × (b ≡ g.block k.0) × (is_good (g.version k.0) x ≡ false)
missed_parts g b x k l p target.Block z = let a = both (eqb b (g.block k.0)) (cond (is_good (g.version k.0) x) false true) z in (refl, eqb-true b (g.block k.0) a.0, not_false (is_good (g.version k.0) x) a.1)
missed_parts g b x k l p target.Descriptor z = absurd cc
missed_parts g b x k l p (target.Notify w) z = absurd cc

pub missed_is : (g : Graph) (b : ℕ) (x : BlockCells) (y : Strike) → missed g b x y ≡ true → (y.target ≡ target.Block) × (b ≡ g.block y.key.0) × (is_good (g.version y.key.0) x ≡ false)
missed_is g b x y z = missed_parts g b x y.key y.life y.point y.target z

-- a version above is a later one
version_later : (b v u : ℕ) → v < u → (x : Record) → is_version b u x ≡ true → is_later_version b v x ≡ true
version_later b v u less (record_of.Written a m c d) z = ⊎_elim (λ q. absurd cc) (λ q. rw (eq-eqb b c q.1, lt-ltb v d (let f = q.2 in omega (arith, f, less)))) (two_tells b u c d)
version_later b v u less x z = absurd cc

replaced_below : (g : Graph) (b v k l : ℕ) → g.block k ≡ b → g.version k < v → (x : Record) → is_replaced k l x ≡ true → is_replaced_below g b v x ≡ true
replaced_below g b v k l of_block less (record_of.Replaced a m c) z = ⊎_elim (λ q. absurd cc) (λ q. rw (eq-eqb b (g.block a.0) (sym of_block ∙ ap g.block q.1), lt-ltb (g.version a.0) v (let f = ap g.version q.1 in omega (arith, f, less)))) (two_tells k l a.0 m)
replaced_below g b v k l of_block less x z = absurd cc

module _ (e : Setting) (fit : Sound e) (s : Core) (sums : Sums s) (v : View) (n : ℕ) (within : (f : View → ℕ) → f v ≤ s.total f) (inv : Invariant e s) (next : NextStrike e v n) where
  abbrev key : ℕ
  key = (e.plan.strike n).key.0

  -- a strike after computing comes after the result was written
  wrote : ((e.plan.strike n).point ≡ point.Computed) ⊎ ((e.plan.strike n).point ≡ point.Notified) → 0 < many s (is_version (e.graph.block key) (e.graph.version key))
  wrote at = let row = strike_row e s sums v n within inv next in let some = strike_life e s sums v n within inv next in
      let a = at_work (is_close key (e.plan.strike n).life) v next.at next.work in let d = ap hit (next.closing at) in let f = within (items (is_close key (e.plan.strike n).life)) in
      writes_version e fit s sums inv.records key (e.plan.strike n).life ((inv.work.computings.each row.0 key (e.plan.strike n).life row.1 some).written (omega (arith, a, d, f)))

  pub missed_struck : (b : ℕ) (was : BlockCells) → s.block b ≡ was → b ≡ e.graph.block key → is_good (e.graph.version key) was ≡ false
      → ((e.plan.strike n).point ≡ point.Computed) ⊎ ((e.plan.strike n).point ≡ point.Notified) → BlockStruck e.graph e.plan (many s) key
  missed_struck b was is of_block bad at = subst (λ o. 0 < many s (is_struck_version o (e.graph.version key)) + many s (is_later_version o (e.graph.version key)) + many s (is_replaced_below e.graph o (e.graph.version key))) of_block (⊎_elim
      (λ ne. dite (dec_lt (e.graph.version key) was.tag) (λ above. let a = later_one above in omega (arith, a)) (λ low. let a = lower_one (omega (arith, ne, low)) in omega (arith, a)))
      (λ q. let a = struck_one q.0 q.1 in omega (arith, a)) (not_good (e.graph.version key) was bad))
    where
      inside : b < e.shape.blocks
      inside = let row = strike_row e s sums v n within inv next in subst (λ o. o < e.shape.blocks) (sym of_block) (fit.blocks_fit key (inv.keys.reached row.0 key row.1))

      holds : Holds e s b was
      holds = subst (Holds e s b) is (inv.blocks.each b inside).holds

      struck_one : was.tag ≡ e.graph.version key → was.struck ≡ true → 0 < many s (is_struck_version b (e.graph.version key))
      struck_one same marked = subst (λ o. 0 < many s (is_struck_version b o)) same (holds.struck marked).1

      later_one : e.graph.version key < was.tag → 0 < many s (is_later_version b (e.graph.version key))
      later_one above = let r = many_some e fit s sums inv.records (is_version b was.tag) (holds.written (omega (arith, above))) in r.2 (is_later_version b (e.graph.version key)) (version_later b (e.graph.version key) was.tag above r.0 r.1)

      lower_one : was.tag < e.graph.version key → 0 < many s (is_replaced_below e.graph b (e.graph.version key))
      lower_one below = let both_of = holds.twice (e.graph.version key) below (subst (λ o. 0 < many s (is_version o (e.graph.version key))) (sym of_block) (wrote at)) in let w = written_twice e fit s sums inv.records b was.tag both_of in
          let r = many_some e fit s sums inv.records (is_replaced (e.graph.writer b was.tag) w.0) w.1 in
          r.2 (is_replaced_below e.graph b (e.graph.version key)) (replaced_below e.graph b (e.graph.version key) (e.graph.writer b was.tag) w.0 w.2 (let a = w.3 in omega (arith, a, below)) r.0 r.1)
