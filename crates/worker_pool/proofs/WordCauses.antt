-- Where the plan strikes words alone and each key writes the first version, the causes that records show are strikes that landed on words.
use Rattle.std.proofs.Common.{◌≡◌, ◌≢◌, ◌∙◌, ℕ, zero, suc, ◌<◌, Bool, true, false, cond, eqb, ◌&&◌, nat_le, nat_lt, List, ⊎_elim, ap, sym, refl, arith}
use Rattle.std.proofs.lemmas.Bool.{and_from, eqb-true, le-leb, ltb-true}
use Rattle.graph_model.specs.declared.plan.Target.{Target}
use Rattle.graph_model.specs.declared.plan.Target.TheVariants as target
use Rattle.graph_model.specs.declared.record.Cause.{Cause}
use Rattle.graph_model.specs.declared.record.Hit.TheVariants as hit_of
use Rattle.graph_model.specs.declared.record.Record.{Record}
use Rattle.graph_model.specs.declared.record.Record.TheVariants as record_of
use Rattle.core_state.specs.Counts.{count, hit}
use Rattle.core_state.specs.Graph.{Graph, Lawful, Plan, Reached}
use Rattle.core_state.specs.Graph.Reached.{through}
use Rattle.core_state.specs.Laws.{Concerns, IsGrounded, Planned, Shown, SixLaws, planned}
use Rattle.core_state.specs.Laws.Concerns.{input, own}
use Rattle.core_state.specs.Laws.Shown.{descriptor as s_descriptor, notify as s_notify, struck as s_struck, other}
use Rattle.core_state.specs.Tests.{is_miswritten, is_of, is_replaced, is_replaced_for, is_struck_upto, is_struck_version, is_version, names_hit, same_cause, same_hit, strikes_upto, two}
use Rattle.core_state.proofs.Base.Counting.{eqb_here, two_here, two_tells, both}
use Rattle.core_state.proofs.Blocks.Blame.{cause_here}
use Rattle.core_state.proofs.Blocks.Versions.{count_some}
use Rattle.worker_pool.proofs.Landing.{Landing, same_hit_is}

-- a target that names a block is one
names_block : (t : Target) (b v : ℕ) → names_hit t (hit_of.Block b v) ≡ true → t ≡ target.Block
names_block target.Block b v z = refl
names_block t b v z = absurd cc

module _ (g : Graph) (p : Plan) (lawful : Lawful g) (words : (n : ℕ) → n < p.count → (p.strike n).target ≢ target.Block) (first : (k : ℕ) → Reached g k → g.version k ≡ 1) (xs : List Record) (six : SixLaws g xs) (plays : Planned g p (λ q. count q xs)) where
  none_planned : (k l b v n : ℕ) → planned g p (λ q. count q xs) k l (hit_of.Block b v) n ≡ 0
  none_planned k l b v zero = refl
  none_planned k l b v (suc n) = let a = none_planned k l b v n in let c = by (strikes_upto p k l (hit_of.Block b v) n) refl in omega (arith, a, c)
    where
      by : (t : Bool) → strikes_upto p k l (hit_of.Block b v) n ≡ t → hit (strikes_upto p k l (hit_of.Block b v) n) ≡ 0
      by false z = ap hit z
      by true z = let s = p.strike n in let c = both (nat_lt n p.count) (eqb k s.key.0 && (nat_le s.life l && names_hit s.target (hit_of.Block b v))) z in
          let d = both (eqb k s.key.0) (nat_le s.life l && names_hit s.target (hit_of.Block b v)) c.1 in let e = both (nat_le s.life l) (names_hit s.target (hit_of.Block b v)) d.1 in
          absurd (words n (ltb-true n p.count c.0) (names_block s.target b v e.1))

  -- no block was struck
  no_block_struck : (b v : ℕ) → 0 < count (is_struck_version b v) xs → ⊥
  no_block_struck b v some = let r = count_some (is_struck_version b v) xs some in of r.0 r.1 r.2
    where
      of : (x : Record) → is_struck_version b v x ≡ true → ((q : Record → Bool) → q x ≡ true → 0 < count q xs) → ⊥
      of (record_of.Struck key life on) z tests = let is = same_hit_is (hit_of.Block b v) on z in
          let here = tests (is_struck_upto key.0 life (hit_of.Block b v)) (and_from (eqb key.0 key.0) (nat_le life life && same_hit (hit_of.Block b v) on) (eqb_here key.0) (and_from (nat_le life life) (same_hit (hit_of.Block b v) on) (le-leb life life (omega arith)) z)) in
          let few = plays.few key.0 life (hit_of.Block b v) in let none = none_planned key.0 life b v p.count in omega (arith, here, few, none)
      of x z tests = absurd cc

  -- what was written is the first version
  first_written : (b u : ℕ) → 0 < count (is_version b u) xs → u ≡ 1
  first_written b u some = let r = count_some (is_version b u) xs some in of r.0 r.1 r.2
    where
      of : (x : Record) → is_version b u x ≡ true → ((q : Record → Bool) → q x ≡ true → 0 < count q xs) → u ≡ 1
      of (record_of.Written key life c w) z tests = ⊎_elim
          (λ n. absurd (let a = tests (is_miswritten g) (ap (λ (t : Bool). cond t false true) n) in let none = six.computed.written_place in omega (arith, a, none)))
          (λ n. eqb-true u w (both (eqb b c) (eqb u w) z).1 ∙ sym n.2 ∙ first key.0 (six.lives.reached key.0 life (tests (is_of key.0 life) (two_here key.0 life)))) (two_tells (g.block key.0) (g.version key.0) c w)
      of x z tests = absurd cc

  -- and so is what a key writes or reads
  first_wanted : (k b v : ℕ) → Reached g k → Concerns g k b v → v ≡ 1
  first_wanted k b v reached (own at is) = sym is ∙ first k reached
  first_wanted k b v reached (input r) = sym r.of_version ∙ first (g.pred k r.input).task (through k r.input reached (let a = r.is_input in let c = lawful.few_inputs k in omega (arith, a, c)))

  -- the strike that a cause shows
  pub landing : (k l : ℕ) (c : Cause) → Reached g k → Shown g (λ q. count q xs) (IsGrounded g xs) k l c → (d : Landing xs) × (d.key ≡ k) × (d.life ≡ l)
  landing k l c reached (s_descriptor some) = (record { key = k; life = l; on = hit_of.Descriptor; is_word = tt; landed = some }, refl, refl)
  landing k l c reached (s_notify w some) = (record { key = k; life = l; on = hit_of.Notify w; is_word = tt; landed = some }, refl, refl)
  landing k l c reached (s_struck b v of some) = absurd (no_block_struck b v some)
  landing k l c reached (other b v u of ne some grounded) = absurd (ne (first_written b u some ∙ sym (first_wanted k b v reached of)))

  -- the strike by which a life was replaced
  pub replaced_landing : (k l : ℕ) → 0 < count (is_replaced k l) xs → (d : Landing xs) × (d.key ≡ k) × (d.life ≡ l)
  replaced_landing k l some = let r = count_some (is_replaced k l) xs some in of r.0 r.1 r.2
    where
      of : (x : Record) → is_replaced k l x ≡ true → ((q : Record → Bool) → q x ≡ true → 0 < count q xs) → (d : Landing xs) × (d.key ≡ k) × (d.life ≡ l)
      of (record_of.Replaced key life c) z tests = let o = both (eqb k key.0) (eqb l life) z in
          let d = landing key.0 life c (six.lives.reached key.0 life (tests (is_of key.0 life) (two_here key.0 life))) (six.causes.shown key.0 life c (tests (is_replaced_for key.0 life c) (and_from (two key.0 life key.0 life) (same_cause c c) (two_here key.0 life) (cause_here c)))) in
          (d.0, d.1 ∙ sym (eqb-true k key.0 o.0), d.2 ∙ sym (eqb-true l life o.1))
      of x z tests = absurd cc
