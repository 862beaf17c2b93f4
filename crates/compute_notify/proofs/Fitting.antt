-- Which strikes of a point a view has made, from one of its steps to the next, and which is its next one.
use Rattle.std.proofs.Common.{◌≡◌, ◌∙◌, ⊎_elim, ℕ, ◌≤◌, Bool, true, false, cond, ◌&&◌, eqb, List, [], ◌∷◌, length, Option, Some, None, ap, sym, subst, refl, arith}
use Rattle.std.proofs.lemmas.Bool.{and_parts, false_from_ne_true, le-ltb, ne_eqb}
use mathlib.Core.Option.{some, none}
use mathlib.Core.Option as core
use Rattle.graph_model.specs.declared.plan.Point.{Point}
use Rattle.graph_model.specs.declared.plan.Point.TheVariants as point
use Rattle.graph_model.specs.declared.plan.Strike.{Strike}
use Rattle.core_state.specs.Guards.{AtWork, MakesStrike}
use Rattle.core_state.specs.Counts.{bump, count}
use Rattle.core_state.specs.Tests.{is_in, job_of, same_point, two}
use Rattle.core_state.specs.Graph.{Setting}
use Rattle.core_state.specs.Rooted.{plan_of}
use Rattle.core_state.specs.Sure.{IsFresh}
use Rattle.core_state.specs.Views.{next_strike, passing, strike_at, strike_next, strike_of, top_items}
use Rattle.core_state.specs.declared.job.Job.{Job}
use Rattle.core_state.specs.declared.views.Item.{Item}
use Rattle.core_state.specs.declared.views.View.{View}
use Rattle.core_state.proofs.Base.Counting.{two_tells}
use Rattle.compute_notify.specs.Striking.{FitsStrikes, names, next_at, rank}
use Rattle.compute_notify.specs.declared.duty.Duty.{Duty}
use Rattle.compute_notify.specs.declared.strikes.Next.{Next}
use Rattle.compute_notify.proofs.Striking.Ranking.{Agree, IsHit, agreed, made_more, rank_few}

-- What a strike names.
point_is : (a b : Point) → same_point a b ≡ true → a ≡ b
point_is point.Explored point.Explored z = refl
point_is point.Ready point.Ready z = refl
point_is point.Computed point.Computed z = refl
point_is point.Notified point.Notified z = refl
point_is a b z = absurd cc

pub record Named (at : Point) (k l : ℕ) (s : Strike) : Type 0 where
  pub of_point : at ≡ s.point
  pub of_key : s.key.0 ≡ k
  pub of_life : s.life ≡ l

pub named_is : (at : Point) (k l : ℕ) (s : Strike) → names at k l s ≡ true → Named at k l s
named_is at k l s is = let parts = and_parts (same_point at s.point) (two k l s.key.0 s.life) is in
    let same : (k ≡ s.key.0) × (l ≡ s.life) = ⊎_elim (λ z. absurd (let f : true ≡ false = sym parts.1 ∙ z in cc)) (λ z. (z.1, z.2)) (two_tells k l s.key.0 s.life) in
    record { of_point = point_is at s.point parts.0; of_key = sym same.0; of_life = sym same.1 }

-- a strike at one point of a life is at no other point, and of no other life
pub names_apart : (at o : Point) (k l m n : ℕ) (s : Strike) → names at k l s ≡ true → (same_point o at && two m n k l) ≡ false → names o m n s ≡ false
names_apart at o k l m n s is apart = let same = named_is at k l s is in
    ap (λ q. same_point o q && two m n s.key.0 s.life) (sym same.of_point) ∙ ap (λ q. same_point o at && two m n q s.life) same.of_key ∙ ap (λ q. same_point o at && two m n k q) same.of_life ∙ apart

-- so it is apart from points of another job, key or life
pub apart_job : (at o : Point) (i j k l : ℕ) → (job_of o ≡ job_of at → i ≡ k → j ≡ l → ⊥) → (same_point o at && two i j k l) ≡ false
apart_job at o i j k l other = false_from_ne_true (same_point o at && two i j k l) (λ same. let parts = and_parts (same_point o at) (two i j k l) same in
    ⊎_elim (λ z. let f : true ≡ false = sym parts.1 ∙ z in cc) (λ z. other (ap job_of (point_is o at parts.0)) z.1 z.2) (two_tells i j k l))

-- a strike that was never made is not in the list
not_in : (n : ℕ) (xs : List ℕ) → count (eqb n) xs ≡ 0 → is_in n xs ≡ false
not_in n [] unmade = refl
not_in n (x ∷ xs) unmade = by (not_in n xs) (eqb n x) unmade
  where
    by : (count (eqb n) xs ≡ 0 → is_in n xs ≡ false) → (b : Bool) → bump b (count (eqb n) xs) ≡ 0 → cond b true (is_in n xs) ≡ false
    by later true z = absurd (omega (arith, z))
    by later false z = later z

module _ (e : Setting) (v : View) (at : Point) (k l : ℕ) where
  -- where no strike of a job was made, none of its points has any
  pub fits_fresh : (i : Job) → job_of at ≡ i → IsFresh e v i k l → FitsStrikes e v at k l 0
  fits_fresh i of fresh = record {
    made_are = λ n low named there. let is = named_is at k l (e.plan.strike n) named in
        not_in n v.strikes (fresh n low is.of_key is.of_life (ap job_of (sym is.of_point) ∙ of)) ∙ sym (le-ltb (rank e.plan at k l n) 0 (omega arith));
    few = omega arith;
  }

  module _ (w : View) (m : ℕ) where
    -- a step that makes no strike, and one that makes a strike of another point or life
    pub fits_same : w.strikes ≡ v.strikes → FitsStrikes e v at k l m → FitsStrikes e w at k l m
    fits_same same fits = record { made_are = λ n low named there. ap (is_in n) same ∙ fits.made_are n low named there; few = fits.few }

    pub fits_apart : (n : ℕ) → w.strikes ≡ n ∷ v.strikes → names at k l (e.plan.strike n) ≡ false → FitsStrikes e v at k l m → FitsStrikes e w at k l m
    fits_apart n made apart fits = record {
      made_are = λ j low named there. ap (is_in j) made ∙ ap (λ (b : Bool). cond b true (is_in j v.strikes)) (ne_eqb j n (λ same. absurd (let f : true ≡ false = sym named ∙ ap (λ i. names at k l (e.plan.strike i)) same ∙ apart in cc))) ∙ fits.made_are j low named there;
      few = fits.few;
    }

module _ (e : Setting) (v : View) (at : Point) (k l : ℕ) where
  -- the strike that is next at the point, and that it is among those of the least ranks once it was made
  pub record HasNext (next : Next) : Type 0 where
    pub strike : ℕ
    pub is_next : next_strike e.graph e.plan at k l v.strikes ≡ some strike
    pub named : names at k l (e.plan.strike strike) ≡ true
    pub on_target : (e.plan.strike strike).target ≡ next.target
    pub fits_after : (w : View) → w.strikes ≡ strike ∷ v.strikes → FitsStrikes e w at k l next.made

  module _ (x : Item) (work : AtWork v x) (here : passing e.graph x ≡ some (record { at = at; key = k; life = l })) where
    -- what is next at the point of the item at work is next for the view
    view_next : strike_next e.graph e.plan v ≡ next_strike e.graph e.plan at k l v.strikes
    view_next = ap (strike_of e.graph e.plan v.strikes) (ap top_items work.stacks_are ∙ work.items_are) ∙ ap (strike_at e.graph e.plan v.strikes) here

    pub makes_next : (next : Next) → HasNext next → MakesStrike e v k l next.target
    makes_next next h = let is = named_is at k l (e.plan.strike h.strike) h.named in record { strike = h.strike; is_next = view_next ∙ h.is_next; of_key = is.of_key; of_life = is.of_life; on_target = h.on_target }

    pub makes_none : next_strike e.graph e.plan at k l v.strikes ≡ none → strike_next e.graph e.plan v ≡ none
    makes_none past = view_next ∙ past

    -- a step that makes what is next for the view makes what is next at the point
    pub fits_made : (w : View) (next : Next) → HasNext next → ((n : ℕ) → strike_next e.graph e.plan v ≡ some n → w.strikes ≡ n ∷ v.strikes) → FitsStrikes e w at k l next.made
    fits_made w next h makes = h.fits_after w (makes h.strike (view_next ∙ h.is_next))

    -- and leaves the strikes of other points and lives as they are
    pub fits_else : (w : View) (next : Next) → HasNext next → ((n : ℕ) → strike_next e.graph e.plan v ≡ some n → w.strikes ≡ n ∷ v.strikes) → (o : Point) (i j m : ℕ) → (same_point o at && two i j k l) ≡ false → FitsStrikes e v o i j m → FitsStrikes e w o i j m
    fits_else w next h makes o i j m apart = fits_apart e v o i j w m h.strike (makes h.strike (view_next ∙ h.is_next)) (names_apart at o k l i j (e.plan.strike h.strike) h.named apart)

-- the list of the strikes and the view tell the same next strike at a point of a duty
module _ (e : Setting) (v : View) (strikes : List Strike) (at : Point) (duty : Duty) (made : ℕ) (plan_is : e.plan ≡ plan_of strikes) (fits : FitsStrikes e v at duty.key.0 duty.life made) where
  list_agrees : Agree e.graph e.plan at duty.key duty.life made v.strikes (next_at e.graph strikes at duty made) (next_strike e.graph e.plan at duty.key.0 duty.life v.strikes)
  list_agrees = agreed e.graph e.plan at duty.key duty.life made v.strikes fits.made_are strikes (ap (λ p. p.count) (sym plan_is)) (λ j. ap (λ p. p.strike j) plan_is)

  pub has_none : next_at e.graph strikes at duty made ≡ None → next_strike e.graph e.plan at duty.key.0 duty.life v.strikes ≡ none
  has_none = nothing (next_at e.graph strikes at duty made) (next_strike e.graph e.plan at duty.key.0 duty.life v.strikes) list_agrees
    where
      nothing : (o : Option Next) (c : core.Option ℕ) → Agree e.graph e.plan at duty.key duty.life made v.strikes o c → o ≡ None → c ≡ none
      nothing None none a z = refl
      nothing None (some n) a z = absurd a
      nothing (Some x) c a z = absurd cc

  pub has_next : (next : Next) → length strikes ≤ 4096 → next_at e.graph strikes at duty made ≡ Some next → HasNext e v at duty.key.0 duty.life next
  has_next next few = found (next_at e.graph strikes at duty made) (next_strike e.graph e.plan at duty.key.0 duty.life v.strikes) refl list_agrees
    where
      built : (n : ℕ) → next_strike e.graph e.plan at duty.key.0 duty.life v.strikes ≡ some n → IsHit e.graph e.plan at duty.key duty.life made v.strikes n next → HasNext e v at duty.key.0 duty.life next
      built n is hit = record {
        strike = n;
        is_next = is;
        named = hit.named;
        on_target = sym hit.target_is;
        fits_after = λ w more. record {
          made_are = λ j low named there. ap (is_in j) more ∙ made_more e.graph e.plan at duty.key duty.life made v.strikes fits.made_are n next hit j low named there;
          few = let a = hit.made_is in let b = rank_few e.plan at duty.key.0 duty.life n in let c = hit.low in let d : e.plan.count ≡ length strikes = ap (λ p. p.count) plan_is in omega (arith, a, b, c, d, few);
        };
      }

      found : (o : Option Next) (c : core.Option ℕ) → next_strike e.graph e.plan at duty.key.0 duty.life v.strikes ≡ c → Agree e.graph e.plan at duty.key duty.life made v.strikes o c → o ≡ Some next → HasNext e v at duty.key.0 duty.life next
      found None c is a z = absurd cc
      found (Some x) none is a z = absurd a
      found (Some x) (some n) is a z = built n is (let same : x ≡ next = cc in subst (IsHit e.graph e.plan at duty.key duty.life made v.strikes n) same a)
