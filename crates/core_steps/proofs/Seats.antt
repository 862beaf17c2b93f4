-- What a seat's caller learns of a step.
use Rattle.std.proofs.Common.{◌≡◌, ℕ, ◌+◌, ◌<◌, ◌≤◌, List, length, get_or, set, arith, sym, ap, ◌∙◌, subst}
use Rattle.std.proofs.lemmas.List.{set-set}
use Rattle.core_state.specs.Graph.{Setting}
use Rattle.core_state.specs.Words.{Shape, place_of}
use Rattle.core_state.specs.Events.{Event, at, after, Can}
use Rattle.core_state.specs.Sure.{IsSure, IsFound}
use Rattle.core_state.specs.declared.views.View.{View}
use Rattle.core_state.proofs.Own.Found.{found_of}
use Rattle.core_state.proofs.Own.Sure.{sure_of}
use Rattle.core_state.proofs.Base.Words.{read_at}
use Rattle.core_state.specs.Views.{blank}
use Rattle.core_steps.specs.Seat.{IsStep, last_after}
use Rattle.core_steps.specs.Table.{Plain, IsSound, IsTableStep, core_by, view_at}
use Rattle.core_steps.specs.declared.kinds.Touched.{Touched}
use Rattle.core_state.specs.Counts.{total_of}
use Rattle.core_state.proofs.Base.Sums.{total_within}
use Rattle.core_steps.proofs.Changing.{elem_at}
use Rattle.core_steps.proofs.Inside.{spot_inside}

-- the core's word on which a worker steps is that of the list
pub core_word : (e : Setting) (p : Plain) (i : ℕ) → i < length p.views → IsSound e p → (x : Event) → Can e (view_at p i) x → (core_by p.shape p.words p.blocks p.views).word (at x) ≡ get_or p.words (place_of e.shape (at x)) 0
core_word e p i low s x can = read_at p.shape p.words (at x) (spot_inside e p i low s x can) ∙ ap (λ (h : Shape). get_or p.words (place_of h (at x)) 0) s.shape_is

-- a worker's view is one of the table's
pub seat_within : (p : Plain) (i : ℕ) → i < length p.views → (f : View → ℕ) → f (view_at p i) ≤ total_of p.views f
seat_within p i low f = total_within p.views i (view_at p i) f (elem_at p.views i blank low)

-- the core's word held the number that a worker found
pub found_word : (e : Setting) (i : ℕ) (x : Event) (t : Touched) (p q : Plain) → IsTableStep e i x t p q → (core_by p.shape p.words p.blocks p.views).word (at x) ≡ t.found
found_word e i x t p q h = core_word e p i h.low h.before x h.can ∙ sym h.words.found_is

-- a step of a seat, of which the table tells the word and the view
pub step_of : {S : Type 0} (setting : S → Setting) (view : S → View) (made : S → ℕ) (last shown : S → ℕ × ℕ) (happened : S → Event → ℕ → S → Type 0) (lender : S → List ℕ) (others : S → List View) (x : Event) (s t : S) (word : Touched)
    → word.at ≡ place_of (setting s).shape (at x) → view t ≡ after (setting s) x word.found (view s) → setting t ≡ setting s → lender t ≡ lender s → others t ≡ others s → shown t ≡ (word.at, word.found) → made t ≡ made s + 1 → last t ≡ last_after x word.found (last s) → happened s x word.found t
    → IsFound (setting s) (view s) (at x) word.found → IsSure (setting s) (view t) → IsStep setting view made last shown happened lender others x s t
step_of setting view made last shown happened lender others x s t word place now same_setting same_lender same_others shows one_more last_is stepped found sure = record {
  word = ap (λ (o : ℕ × ℕ). o.0) shows ∙ place;
  view_is = now ∙ (λ j. after (setting s) x (sym shows j).1 (view s));
  one_made = one_more;
  last_is = last_is ∙ ap (λ (o : ℕ × ℕ). last_after x o.1 (last s)) (sym shows);
  stepped = subst (λ (o : ℕ × ℕ). happened s x o.1 t) (sym shows) stepped;
  found = subst (λ (o : ℕ × ℕ). IsFound (setting s) (view s) (at x) o.1) (sym shows) found;
  table = record { same_setting = same_setting; same_lender = same_lender; same_others = same_others; sure = subst (λ (o : Setting). IsSure o (view t)) (sym same_setting) sure };
}

-- a step of a worker is one of its seat
pub seat_step : {S : Type 0} (setting : S → Setting) (view : S → View) (made : S → ℕ) (last shown : S → ℕ × ℕ) (happened : S → Event → ℕ → S → Type 0) (lender : S → List ℕ) (others : S → List View) (x : Event) (s t : S) (i : ℕ) (word : Touched) (p q : Plain)
    → IsTableStep (setting s) i x word p q → setting t ≡ setting s → lender t ≡ lender s → view s ≡ view_at p i → view t ≡ view_at q i → others s ≡ set p.views i blank → others t ≡ set q.views i blank
    → shown t ≡ (word.at, word.found) → made t ≡ made s + 1 → last t ≡ last_after x word.found (last s) → happened s x word.found t → IsStep setting view made last shown happened lender others x s t
seat_step setting view made last shown happened lender others x s t i word p q h same_setting same_lender was now others_was others_now shows one_more last_is stepped =
    step_of setting view made last shown happened lender others x s t word h.at_is (now ∙ h.view_is ∙ ap (after (setting s) x word.found) (sym was)) same_setting same_lender (others_now ∙ h.others_are ∙ sym others_was) shows one_more last_is stepped
    (subst (λ (u : View). IsFound (setting s) u (at x) word.found) (sym was)
    (subst (IsFound (setting s) (view_at p i) (at x)) (found_word (setting s) i x word p q h) (found_of (setting s) h.before.setting (core_by p.shape p.words p.blocks p.views) h.before.holds (view_at p i) (seat_within p i h.low) (at x))))
    (subst (λ (u : View). IsSure (setting s) u) (sym now) (sure_of (setting s) (core_by q.shape q.words q.blocks q.views) h.afterwards.holds (view_at q i) (seat_within q i (let a = h.workers_are in let b = h.low in omega (arith, a, b)))))

-- a worker's view is overwritten
pub set_twice : {A : Type 0} (l : List A) (i : ℕ) (a b : A) → set (set l i a) i b ≡ set l i b
set_twice = set-set
