-- A claim keeps every part, whatever it found.
use Rattle.std.proofs.Common.{◌≡◌, ℕ, suc, ◌+◌, ◌-◌, Bool, cond, eqb, ne_eqb, ◌∷◌, arith, ap, ◌∙◌, subst}
use mathlib.Core.Logic.{dite}
use native.Mathlib.Decide.{ℕ_discrete}
use Rattle.std.proofs.lemmas.Bool.{eq-eqb}
use Rattle.core_state.specs.Graph.{Setting, Sound}
use Rattle.core_state.specs.Words.{key}
use Rattle.core_state.specs.Change.{Core, Change, Sums}
use Rattle.core_state.specs.Guards.{CanClaim}
use Rattle.core_state.specs.Effects.{claim_of, claim_left, after_claim}
use Rattle.core_state.specs.Invariant.{Invariant}
use Rattle.core_state.specs.Views.{key_of}
use Rattle.core_state.specs.declared.answers.Claim.TheVariants as claim
use Rattle.core_state.specs.declared.views.Known.TheVariants as known
use Rattle.core_state.specs.declared.views.View.{View}
use Rattle.core_state.proofs.Credit.Keeps.{keeps_told}
use Rattle.core_state.proofs.Row.MadeRest.{keeps_made}

module _ (e : Setting) (fit : Sound e) (s t : Core) (sums : Sums s) (r k n : ℕ) (v : View) (can : CanClaim e v r k) (i : Invariant e s) where
  told : (m : ℕ) → n ≡ suc m → Change s t (key r) n n v (record v { known = known.Row r m ∷ v.known }) → Invariant e t
  told m q c = keeps_told e s t r m v can.low (subst (λ x. Change s t (key r) x x v (record v { known = known.Row r m ∷ v.known })) q c) i

  pub keeps_claim : Change s t (key r) n (claim_left k n) v (after_claim r k (claim_of k n) v) → Invariant e t
  keeps_claim c = dite (ℕ_discrete n 0)
      (λ z. keeps_made e fit s t sums r k v can (subst (λ x. Change s t (key r) x (claim_left k x) v (after_claim r k (claim_of k x) v)) z c) i)
      (λ z. let left : claim_left k n ≡ n = ap (λ (b : Bool). cond b (k + 1) n) (ne_eqb n 0 z) in dite (ℕ_discrete n (k + 1))
      (λ y. let of : claim_of k n ≡ claim.Found = ap (λ (b : Bool). cond b claim.Made (cond (eqb n (k + 1)) claim.Found (claim.Other (key_of (n - 1))))) (ne_eqb n 0 z) ∙ ap (λ (b : Bool). cond b claim.Found (claim.Other (key_of (n - 1)))) (eq-eqb n (k + 1) y) in
      told k (omega (arith, y)) (subst (λ x. Change s t (key r) n x v (after_claim r k claim.Found v)) left (subst (λ x. Change s t (key r) n (claim_left k n) v (after_claim r k x v)) of c)))
      (λ y. let of : claim_of k n ≡ claim.Other (key_of (n - 1)) = ap (λ (b : Bool). cond b claim.Made (cond (eqb n (k + 1)) claim.Found (claim.Other (key_of (n - 1))))) (ne_eqb n 0 z) ∙ ap (λ (b : Bool). cond b claim.Found (claim.Other (key_of (n - 1)))) (ne_eqb n (k + 1) y) in
      told (n - 1) (omega (arith, z)) (subst (λ x. Change s t (key r) n x v (after_claim r k (claim.Other (key_of (n - 1))) v)) left (subst (λ x. Change s t (key r) n (claim_left k n) v (after_claim r k x v)) of c))))
