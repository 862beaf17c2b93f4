-- Every kind of step of a seat, with what is finished gone, keeps the invariant: in one statement.
use Rattle.std.proofs.Common.{◌≡◌, ℕ, suc, ◌+◌, ◌-◌, ◌≤◌, Bool, cond, ne_eqb, ◌∷◌, arith, refl, subst}
use mathlib.Core.Logic.{dite}
use native.Mathlib.Decide.{ℕ_discrete}
use Rattle.core_state.specs.Graph.{Setting, Sound}
use Rattle.core_state.specs.Words.{key}
use Rattle.core_state.specs.Change.{Core, Change, Sums}
use Rattle.core_state.specs.Cover.{Passed}
use Rattle.core_state.specs.Prevented.{Prevented}
use Rattle.core_state.specs.Invariant.{Invariant}
use Rattle.core_state.specs.Guards.{CanLook}
use Rattle.core_state.specs.Effects.{after_look, skipped_items}
use Rattle.core_state.specs.Views.{change_top}
use Rattle.core_state.specs.Events.{Event, at, left, raw, after, Can, Happens}
use Rattle.core_state.specs.Events.Event.{claim, look, load_descriptor, load_notify, load_recovery, load_pending, load_stop, register, spend, close, elect, renew_notify, renew_descriptor, finish, strike_descriptor, strike_notify, post, take, buy, drop_credit, take_turn, give_read, give_written, give_struck, halt}
use Rattle.core_state.specs.declared.views.Known.TheVariants as known
use Rattle.core_state.specs.declared.views.View.{View}
use Rattle.core_state.proofs.Credit.Keeps.{keeps_buy, keeps_stop, keeps_drop_credit, keeps_load_pending, keeps_load_stop, keeps_told}
use Rattle.core_state.proofs.Row.Keeps.{keeps_claim}
use Rattle.core_state.proofs.Close.Keeps.{keeps_close}
use Rattle.core_state.proofs.Replace.Elect.{keeps_elect}
use Rattle.core_state.proofs.Replace.Finish.{keeps_finish}
use Rattle.core_state.proofs.Blocks.Read.{keeps_give_read}
use Rattle.core_state.proofs.Load.Descriptor.{keeps_load_descriptor}
use Rattle.core_state.proofs.Load.Notify.{keeps_load_notify}
use Rattle.core_state.proofs.Load.Recovery.{keeps_load_recovery}
use Rattle.core_state.proofs.Plan.Passed.{passed_step}
use Rattle.core_state.proofs.Credit.Jobs.{keeps_post, keeps_take}
use Rattle.core_state.proofs.Plan.Prevented.{prevented_step}
use Rattle.core_state.proofs.Register.Keeps.{keeps_register}
use Rattle.core_state.proofs.Replace.Renew.{keeps_renew_notify, keeps_renew_descriptor}
use Rattle.core_state.proofs.Settle.Keeps.{keeps_settled}
use Rattle.core_state.proofs.Row.Look.{keeps_look_empty}
use Rattle.core_state.proofs.Spend.Keeps.{keeps_spend}
use Rattle.core_state.proofs.Base.Tables.{first_half, second_half}
use Rattle.core_state.proofs.Strike.Descriptor.{keeps_strike_descriptor}
use Rattle.core_state.proofs.Strike.Notify.{keeps_strike_notify}
use Rattle.core_state.proofs.Strike.Block.{keeps_give_struck}
use Rattle.core_state.proofs.Blocks.Take.{keeps_take_turn}
use Rattle.core_state.proofs.Blocks.Write.{keeps_give_written}

module _ (e : Setting) (fit : Sound e) (s t : Core) (sums : Sums s) (n : ℕ) (v : View) (inv : Invariant e s) where
  -- a look, at an empty row or at one that has a key
  look_keeps_it : (r : ℕ) → CanLook e v r → Change s t (key r) n n v (after_look e.graph e.shape.rows r n v) → Invariant e t
  look_keeps_it r can c = dite (ℕ_discrete n 0)
      (λ z. keeps_look_empty e fit s t r v can (subst (λ m. Change s t (key r) m m v (after_look e.graph e.shape.rows r m v)) z c) inv)
      (λ ne. let one : n ≡ suc (n - 1) = omega (arith, ne) in
      keeps_told e s t r (n - 1) v can.low (subst (λ m. Change s t (key r) m m v (record v { known = known.Row r (n - 1) ∷ v.known })) one
      (subst (λ (b : Bool). Change s t (key r) n n v (cond b (change_top (skipped_items e.graph e.shape.rows r v.known) v) (record v { known = known.Row r (n - 1) ∷ v.known }))) (ne_eqb n 0 ne) c)) inv)

  -- an event, before what is finished goes
  pub event_keeps : (x : Event) → Can e v x → Happens e x s t n v (raw e x n v) → Invariant e t
  event_keeps (claim r k) can h = keeps_claim e fit s t sums r k n v can inv h.change
  event_keeps (look r) can h = look_keeps_it r can h.change
  event_keeps (load_descriptor r k) can h = keeps_load_descriptor e fit s t sums r k n v can h.change inv
  event_keeps (load_notify r k w) can h = keeps_load_notify e fit s t r k w n v can h.change inv
  event_keeps (load_recovery r k) can h = keeps_load_recovery e s t r k n v can h.change inv
  event_keeps load_pending can h = keeps_load_pending e s t n v h.change inv
  event_keeps load_stop can h = keeps_load_stop e s t n v h.change inv
  event_keeps (register r p q) can h = keeps_register e fit s t sums r p q n v can h.change inv
  event_keeps (spend r k j) can h = keeps_spend e fit s t sums r k j n v can h.change inv
  event_keeps (close r k l w seen) can h = keeps_close e s t sums r k l w n seen v can h.change inv
  event_keeps (elect r k l f waits) can h = keeps_elect e s t sums r k l n f waits v can h.change inv
  event_keeps (renew_notify r k l w) can h = keeps_renew_notify e s t r k l w n v can h.change inv
  event_keeps (renew_descriptor r k l) can h = keeps_renew_descriptor e s t r k l n v can h.change inv
  event_keeps (finish r k l) can h = keeps_finish e fit s t r k l n v can h.change inv
  event_keeps (strike_descriptor r k l) can h = keeps_strike_descriptor e fit s t sums r k l n v can h.change inv
  event_keeps (strike_notify r k l w) can h = keeps_strike_notify e fit s t sums r k l w n v can h.change inv
  event_keeps (post r i k l) can h = keeps_post e s t r i k n v l can h.change inv
  event_keeps (take r i k) can h = keeps_take e s t r i k n v can h.change inv
  event_keeps buy can h = keeps_buy e s t n v can h.change inv
  event_keeps drop_credit can h = keeps_drop_credit e s t n v can h.change inv
  event_keeps (take_turn b was) can h = keeps_take_turn e fit s t sums b n was v can (h.left_block b refl) inv h.change
  event_keeps (give_read b was) can h = keeps_give_read e fit s t sums b n was v can (h.found_block b refl) (h.left_block b refl) h.change inv
  event_keeps (give_written k l b was now) can h = keeps_give_written e fit s t sums k l b n was now v can (h.left_block b refl) h.change inv
  event_keeps (give_struck k l b was now) can h = keeps_give_struck e fit s t sums k l b n was now v can (h.found_block b refl) (h.left_block b refl) h.change inv
  event_keeps halt can h = keeps_stop e s t n v h.change inv

-- what settling takes of the sums between a step and what it leaves: that they add up, and that what is 0 leaves 0
module _ (s t : Core) (sums : Sums s) (v u : View) (within : (f : View → ℕ) → f v ≤ s.total f) (alone : (f g : View → ℕ) → ((x : View) → g x ≡ 0 → f x ≡ 0) → s.total g ≤ g v → s.total f ≡ f v) where
  none_between : (f g : View → ℕ) → ((x : View) → f x ≡ 0 → g x ≡ 0) → s.total f - f v + f u ≡ 0 → s.total g - g v + g u ≡ 0
  none_between f g h z = let a = alone g f h (omega (arith, z)) in let b = h u (omega (arith, z)) in omega (arith, a, b)

  add_between : (f g : View → ℕ) → s.total (λ x. f x + g x) - (f v + g v) + (f u + g u) ≡ s.total f - f v + f u + (s.total g - g v + g u)
  add_between f g = let a = sums.add f g in let b = within f in let c = within g in omega (arith, a, b, c)

module _ (e : Setting) (fit : Sound e) (s t : Core) (sums : Sums s) (x : Event) (n : ℕ) (v : View) where
  -- every kind of step keeps the invariant
  pub keeps_event : Can e v x → Happens e x s t n v (after e x n v) → Invariant e s → Invariant e t
  keeps_event can h inv = let u : View = raw e x n v in let c = h.change in
      keeps_settled e (record { word = t.word; total = λ f. s.total f - f v + f u; block = t.block }) t u (second_half s t (at x) n (left e x n) v (after e x n v) u c)
      (event_keeps e fit s (record { word = t.word; total = λ f. s.total f - f v + f u; block = t.block }) sums n v inv x can
      record { change = first_half s t (at x) n (left e x n) v (after e x n v) u c; found_block = h.found_block; left_block = h.left_block })
      (none_between s t sums v u c.within c.alone) (add_between s t sums v u c.within c.alone)

  -- and that the strikes of passed points were made, and what they prevent
  pub kept_event : Can e v x → Happens e x s t n v (after e x n v) → Invariant e s × Passed e s × Prevented e s → Invariant e t × Passed e t × Prevented e t
  kept_event can h all = (keeps_event can h all.0, passed_step e fit s t sums n v all.0 all.1 x can h.change, prevented_step e fit s t sums n v all.0 all.1 all.2 x can h.change)
