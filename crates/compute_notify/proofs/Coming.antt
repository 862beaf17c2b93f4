-- What a spent place of a task brings: its lines, its facts, its credits and its rest.
use Rattle.std.proofs.Common.{◌≡◌, ℕ, ◌+◌, ◌≤◌, nat_eq, nat_lt, Bool, true, false, cond, List, ◌∷◌, Option, Some, None, inl, inr, arith, ap, sym, refl, ◌∙◌, subst}
use Rattle.std.proofs.lemmas.Bool.{eqb-true}
use Rattle.graph_model.specs.Graph.{Graph as TaskGraph}
use Rattle.graph_model.specs.declared.key.Key.{Key}
use Rattle.graph_model.specs.declared.plan.Strike.{Strike}
use Rattle.core_state.specs.Counts.{known_key}
use Rattle.core_state.specs.Effects.{is_full, told_of}
use Rattle.core_state.specs.Graph.{Graph, Setting, greatest_life}
use Rattle.core_state.specs.Events.{Event}
use Rattle.core_state.specs.Events.Event.{spend}
use Rattle.core_state.specs.Lines.{Line, told_lines}
use Rattle.core_state.specs.Words.{life_of, mark_of}
use Rattle.core_state.specs.declared.answers.Told.{Told}
use Rattle.core_state.specs.declared.answers.Told.TheVariants as told
use Rattle.core_state.specs.declared.views.View.{View}
use Rattle.recovery.specs.Reentering.{IsTold}
use Rattle.compute_notify.specs.Items.{FitsCame, LiesBelow, came_above, came_credits, left_credits, told_came}
use Rattle.compute_notify.specs.Resting.{LetsFall, came_rest, left_rest, suspect_rest}
use Rattle.compute_notify.specs.Resting.Excuses.{marked_place}
use Rattle.compute_notify.specs.Running.{life_limit}
use Rattle.compute_notify.specs.declared.item.Item.{Item}

pub told_above : (g : Graph) (t : Told) (row : ℕ) (key : Key) (lives : ℕ) (b : List Line) → came_above g (told_came t row key lives) b ≡ told_lines key.0 t b
told_above g (told.Spent l) row key lives b = refl
told_above g (told.Last l) row key lives b = refl
told_above g (told.Already l) row key lives b = refl
told_above g (told.Struck l) row key lives b = refl

pub told_credits : (t : Told) (row : ℕ) (key : Key) (lives : ℕ) (left : Option Item) → left_credits left ≡ 0 → came_credits (told_came t row key lives) left ≡ 0
told_credits (told.Spent l) row key lives left none = none
told_credits (told.Last l) row key lives left none = refl
told_credits (told.Already l) row key lives left none = none
told_credits (told.Struck l) row key lives left none = refl

pub told_fits : (g : TaskGraph) (e : Setting) (w : View) (t : Told) (row : ℕ) (key : Key) (lives : ℕ) (left : Option Item) → LiesBelow left → IsTold g e w row key.0 → life_limit key.0 lives ≡ greatest_life e key.0 → FitsCame g e w (told_came t row key lives) left
told_fits g e w (told.Spent l) row key lives left lies is limit = tt
told_fits g e w (told.Last l) row key lives left lies is limit = (is, lies)
told_fits g e w (told.Already l) row key lives left lies is limit = tt
told_fits g e w (told.Struck l) row key lives left lies is limit = (record { is_key = is.is_key; known = is.known; lives_are = limit; in_phase = tt }, lies)

-- the same fall, its event by another name
pub falls_as : (e : Setting) (p : List Strike) (n before now : ℕ) {x y : Event} → x ≡ y → LetsFall e p x n before now → LetsFall e p y n before now
falls_as e p n before now same falls = subst (λ z. LetsFall e p z n before now) same falls

-- a mark was seen
struck_marked : (places j n l : ℕ) → told.Struck l ≡ told_of places j n → mark_of n ≡ 1
struck_marked places j n l is = by (nat_eq (mark_of n) 1) (nat_eq (Rattle.std.specs.Int.bit_at n j) 1) (is_full places (Rattle.std.proofs.Common.bit_or n (Rattle.std.proofs.Common.◌^◌ 2 j))) refl is
  where
    by : (a b c : Bool) → nat_eq (mark_of n) 1 ≡ a → told.Struck l ≡ cond a (told.Struck (life_of n)) (cond b (told.Already (life_of n)) (cond c (told.Last (life_of n)) (told.Spent (life_of n)))) → mark_of n ≡ 1
    by true b c marked told = eqb-true (mark_of n) 1 marked
    by false true c marked told = absurd cc
    by false false true marked told = absurd cc
    by false false false marked told = absurd cc

-- the rest falls by what is left, or the mark lets a life be replaced
pub told_falls : (e : Setting) (p : List Strike) (v : View) (places j n : ℕ) (t : Told) (row : ℕ) (key : Key) (lives : ℕ) (left : Option Item) (before : ℕ) → t ≡ told_of places j n → known_key row v ≡ key.0 → left_rest e p None left + 7 ≤ before → LetsFall e p (spend row (known_key row v) j) n before (came_rest e p None (told_came t row key lives) left)
told_falls e p v places j n (told.Spent l) row key lives left before is known low = inl (omega (arith, low))
told_falls e p v places j n (told.Last l) row key lives left before is known low = inl (omega (arith, low))
told_falls e p v places j n (told.Already l) row key lives left before is known low = inl (omega (arith, low))
told_falls e p v places j n (told.Struck l) row key lives left before is known low = inr (suspect_rest e (known_key row v), marked_place row (known_key row v) j n (struck_marked places j n l is), (let a = ap (suspect_rest e) known in omega (arith, a, low)))
