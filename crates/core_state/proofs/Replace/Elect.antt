-- Electing a view to replace a life keeps every part, whatever it told.
use Rattle.std.proofs.Common.{◌≡◌, ◌≢◌, ◌⊎◌, ℕ, ◌+◌, ◌-◌, ◌*◌, ◌<◌, Bool, true, false, cond, ◌&&◌, nat_eq, nat_lt, eqb, List, [], ◌∷◌, inl, inr, arith, ap, refl, ◌∙◌, subst}
use Rattle.std.proofs.lemmas.Bool.{eqb-true, ltb-true}
use Rattle.core_state.specs.Graph.{Setting}
use Rattle.core_state.specs.Words.{recovery, standing_life, replacing}
use Rattle.core_state.specs.Counts.{hit, items, knows_row}
use Rattle.core_state.specs.Tests.{is_suspect}
use Rattle.core_state.specs.Change.{Core, Change, Sums}
use Rattle.core_state.specs.Rows.{HasKey}
use Rattle.core_state.specs.Invariant.{Invariant}
use Rattle.core_state.specs.Guards.{CanElect}
use Rattle.core_state.specs.Effects.{saw, after_elect, elected_of, elect_left}
use Rattle.core_state.specs.Views.{on_top, without_first}
use Rattle.core_state.specs.declared.answers.Elected.TheVariants as elected
use Rattle.graph_model.specs.declared.record.Cause.{Cause}
use Rattle.core_state.specs.declared.views.Stack.{Stack}
use Rattle.core_state.specs.declared.views.Word.TheVariants as word
use Rattle.core_state.specs.declared.views.View.{View}
use Rattle.core_state.proofs.Base.Counting.{eqb_here, two_here, both}
use Rattle.core_state.proofs.Replace.Won.{elect_view}
use Rattle.core_state.proofs.Load.Recovery.{keeps_saw}
use Rattle.core_state.proofs.Replace.Lost.{taken, gone_keeps}
use Rattle.core_state.proofs.Replace.WonRest.{won_keeps}

-- items that are not changed
unchanged : (ss : List Stack) → on_top (λ xs. xs) ss ≡ ss
unchanged [] = refl
unchanged (x ∷ ss) = refl

module _ (e : Setting) (s t : Core) (sums : Sums s) (r k l n : ℕ) (cause : Cause) (waits : Bool) (v : View) (can : CanElect e v r k l cause waits) (c : Change s t (recovery r) n (elect_left l n) v (after_elect k l cause waits n (elected_of l n) v)) (inv : Invariant e s) where
  row_is : HasKey e s r k
  row_is = inv.keys.known r k (let a = c.within (knows_row r k) in let b = can.row.row_known in omega (arith, a, b))

  -- a life that is suspected is at least 1
  some_life : 0 < l
  some_life = ((inv.lives.each r k row_is).suspected l (let a = c.within (items (is_suspect k l)) in let b = taken k l cause waits v can.at_work (is_suspect k l) in let d = ap hit (two_here k l) in omega (arith, a, b, d))).0

  -- a later life stands, or another view replaces this one: the suspect goes
  goes : (l < standing_life n) ⊎ ((standing_life n ≡ l) × (replacing n ≡ 1)) → Change s t (recovery r) n n v (after_elect k l cause waits n (elected.Replaced (standing_life n)) v) → Invariant e t
  goes over c' = gone_keeps e s t sums r k l n cause waits v can.at_work c' row_is over inv

  by : (a b : Bool) → nat_eq n (2 * (l - 1)) ≡ a → nat_lt l (standing_life n) ≡ b
      → Change s t (recovery r) n (cond a (n + 1) n) v (after_elect k l cause waits n (cond a elected.Yes (cond b (elected.Replaced (standing_life n)) (elected.Renewing (standing_life n)))) v) → Invariant e t
  by true b f g c' = won_keeps record {
    sums = sums;
    change = c';
    has = row_is;
    stood = eqb-true n (2 * (l - 1)) f;
    some = some_life;
    not_last = can.not_last;
    view = elect_view k l n cause waits v can.at_work;
    inv = inv;
  }
  by false true f g c' = goes (inl (ltb-true l (standing_life n) g)) c'
  by false false f g c' = stays_or_goes (eqb (standing_life n) l && cond waits false true) refl c'
    where
      not_stood : n ≢ 2 * (l - 1)
      not_stood q = absurd (let a = ap (λ x. nat_eq x (2 * (l - 1))) q ∙ eqb_here (2 * (l - 1)) in cc)

      stays_or_goes : (b : Bool) → (eqb (standing_life n) l && cond waits false true) ≡ b → Change s t (recovery r) n n v (saw k word.Recovery n (record v { stacks = on_top (λ xs. cond b (without_first xs) xs) v.stacks })) → Invariant e t
      stays_or_goes true z d = goes (inr (let is = eqb-true (standing_life n) l (both (eqb (standing_life n) l) (cond waits false true) z).0 in (is, let a = not_stood in omega (arith, a, is)))) d
      stays_or_goes false z d = keeps_saw e s t r k n word.Recovery v can.row inv (subst (λ ss. Change s t (recovery r) n n v (saw k word.Recovery n (record v { stacks = ss }))) (unchanged v.stacks) d)

  pub keeps_elect : Invariant e t
  keeps_elect = by (nat_eq n (2 * (l - 1))) (nat_lt l (standing_life n)) refl refl c
