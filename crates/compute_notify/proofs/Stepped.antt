-- One step of a seat that nothing was prepared for.
use Rattle.std.proofs.Common.{◌≡◌, ℕ, ◌+◌, ◌≤◌, List, arith, refl, subst}
use Rattle.core_state.specs.Graph.{Setting}
use Rattle.core_state.specs.Events.{Event}
use Rattle.core_state.specs.declared.views.View.{View}
use Rattle.core_steps.specs.Seat.{IsStep}
use Rattle.compute_notify.specs.Stepping.{HasStepped}

module _ {S : Type 0} {setting : S → Setting} {view : S → View} {made : S → ℕ} {last shown : S → ℕ × ℕ} {happened : S → Event → ℕ → S → Type 0} {lender : S → List ℕ} {others : S → List View} {s t : S} (spare : S → ℕ) where
  -- its event by another name
  pub steps_once : {x : Event} → IsStep setting view made last shown happened lender others x s t → spare s ≤ spare t + 1 → (y : Event) → x ≡ y → HasStepped setting view made spare last shown happened lender others (λ v. v) y s t
  steps_once {x} step room y same = record {
    ready = s;
    prepared_is = refl;
    same_setting = refl;
    same_made = refl;
    same_last = refl;
    same_lender = refl;
    same_others = refl;
    step = subst (λ z. IsStep setting view made last shown happened lender others z s t) same step;
    room = omega (arith, room);
  }

  pub stepped_as : {x : Event} → HasStepped setting view made spare last shown happened lender others (λ v. v) x s t → (y : Event) → x ≡ y → HasStepped setting view made spare last shown happened lender others (λ v. v) y s t
  stepped_as {x} step y same = subst (λ z. HasStepped setting view made spare last shown happened lender others (λ v. v) z s t) same step
