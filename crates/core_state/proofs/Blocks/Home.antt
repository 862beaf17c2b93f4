-- A block goes home: the hand that took it last is empty, and its turn word is 0.
use Rattle.std.proofs.Common.{◌≡◌, ◌≢◌, ℕ, ◌+◌, ◌<◌, ◌≤◌, Bool, true, false, cond, eqb, arith, sym, ap, ◌∙◌, subst}
use mathlib.Core.Logic.{dite}
use native.Mathlib.Decide.{ℕ_discrete}
use Rattle.core_state.specs.Graph.{Setting}
use Rattle.core_state.specs.Words.{turn}
use Rattle.core_state.specs.Counts.{hit, count, items, in_hand, in_wrong_hand}
use Rattle.core_state.specs.Tests.{is_made_any, is_hand}
use Rattle.core_state.specs.Change.{Core, Change}
use Rattle.core_state.specs.Blocks.{Holds, Blocks}
use Rattle.core_state.specs.Guards.{InHand}
use Rattle.core_state.specs.Views.{without_first}
use Rattle.core_state.specs.declared.block.BlockCells.{BlockCells}
use Rattle.core_state.specs.declared.views.View.{View}
use Rattle.core_state.proofs.Base.Counting.{bump_is, not_here, eqb_here}

pub hand_left : (d b : ℕ) (was : BlockCells) (v : View) → InHand v b was → count (is_hand d) (without_first v.hands) + hit (eqb d b) ≡ in_hand d v
hand_left d b was v h = rw (h.hands_are) (let a = bump_is (eqb d b) (count (is_hand d) h.others) in omega (arith, a))

cond_low : (q : Bool) (m n : ℕ) → m ≤ n → cond q m 0 ≤ cond q n 0
cond_low true m n low = low
cond_low false m n low = omega arith

-- a block that leaves a hand is no more in a wrong one
pub wrong_falls : (b k : ℕ) (v w : View) → items (is_made_any k) w ≡ items (is_made_any k) v → in_hand b w ≤ in_hand b v → in_wrong_hand b k w ≤ in_wrong_hand b k v
wrong_falls b k v w same low = subst (λ o. cond (eqb o 0) (in_hand b w) 0 ≤ in_wrong_hand b k v) (sym same) (cond_low (eqb (items (is_made_any k) v) 0) (in_hand b w) (in_hand b v) low)

module _ (e : Setting) (s t : Core) (b n : ℕ) (v w : View) (c : Change s t (turn b) n 0 v w) (left : (d : ℕ) → in_hand d w + hit (eqb d b) ≡ in_hand d v) (i : Blocks e s) where
  -- nobody has the block then
  pub none_has : b < e.shape.blocks → t.total (in_hand b) ≡ 0
  none_has low = let o = i.each b low in let a = o.once in let d = c.sums (in_hand b) in let f = c.within (in_hand b) in let g = left b in let h = ap hit (eqb_here b) in omega (arith, a, d, f, g, h)

  pub other_hand : (d : ℕ) → d ≢ b → t.total (in_hand d) ≡ s.total (in_hand d)
  other_hand d ne = let a = c.sums (in_hand d) in let f = left d in let g = not_here d b ne in omega (arith, a, f, g)

  pub given_blocks : (b < e.shape.blocks → Holds e t b (t.block b)) → ((d : ℕ) → d ≢ b → Holds e s d (s.block d) → Holds e t d (s.block d)) → Blocks e t
  given_blocks here there = record {
    each = λ d low. let o = i.each d low in dite (ℕ_discrete d b)
        (λ q. let inside : b < e.shape.blocks = subst (λ x. x < e.shape.blocks) q low in let a = none_has inside in let f : t.total (in_hand d) ≡ 0 = ap (λ x. t.total (in_hand x)) q ∙ a in record {
          taken = ap (λ x. t.word (turn x)) q ∙ c.left_is ∙ sym f;
          once = omega (arith, f);
          holds = subst (λ x. Holds e t x (t.block x)) (sym q) (here inside);
        })
        (λ ne. let a = other_hand d ne in let f = c.others (turn d) (λ q. ne (let y : d ≡ b = cc in y)) in let g = o.once in record {
          taken = f ∙ o.taken ∙ sym a;
          once = omega (arith, a, g);
          holds = subst (Holds e t d) (sym (c.blocks d (λ q. ne (let y : d ≡ b = cc in y)))) (there d ne o.holds);
        });
  }
