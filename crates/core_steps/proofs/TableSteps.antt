-- The words of a plain table by name, and the step on one.
use Rattle.std.proofs.Common.{◌≡◌, ℕ, ◌<◌, length, set, get_or, length-set, get_or-set_same, ap, sym, subst, ◌∙◌, true, arith}
use Rattle.std.proofs.lemmas.List.{set-set}
use Rattle.core_state.specs.Graph.{Setting}
use Rattle.core_state.specs.Words.{Shape, Spot, place_of, inside}
use Rattle.core_state.specs.Events.{Event, after, at, left, Can}
use Rattle.core_state.specs.Views.{blank}
use Rattle.core_steps.specs.declared.kinds.Touched.{Touched}
use Rattle.core_steps.specs.Table.{Plain, IsSound, IsWordAt, IsTableStep, view_at}
use Rattle.core_steps.proofs.Changing.{low_place}
use Rattle.core_steps.proofs.Inside.{spot_inside}

-- a word with a name is one of the table's
pub place_within : (e : Setting) (p : Plain) (a : Spot) (h : Shape) (n : ℕ) → IsSound e p → inside p.shape a ≡ true → h ≡ p.shape → n ≡ place_of h a → n < length p.words
place_within e p a h n s here same is = let x = low_place p.shape a here in let f = s.fits in let g : n ≡ place_of p.shape a = is ∙ ap (λ (k : Shape). place_of k a) same in omega (arith, x, f, g)

pub word_at : (p : Plain) (a : Spot) (t : Touched) (h : Shape) (n : ℕ) → n < length p.words → h ≡ p.shape → n ≡ place_of h a → t.at ≡ n → t.found ≡ get_or p.words n 0 → IsWordAt p a t
word_at p a t h n low same is at found = record { at_is = at ∙ is ∙ ap (λ (k : Shape). place_of k a) same; found_is = found ∙ ap (λ m. get_or p.words m 0) (sym at); within = subst (λ m. m < length p.words) (sym at) low }

-- the step that a worker made on a word, where words and views are those after it
pub table_step : (e : Setting) (i : ℕ) (x : Event) (t : Touched) (p q : Plain) → i < length p.views → Can e (view_at p i) x → IsWordAt p (at x) t → IsSound e p → IsSound e q
    → q.words ≡ set p.words t.at (left e x t.found) → q.views ≡ set p.views i (after e x t.found (view_at p i)) → IsTableStep e i x t p q
table_step e i x t p q low can word sound now words views = let place : place_of p.shape (at x) ≡ place_of e.shape (at x) = ap (λ (h : Shape). place_of h (at x)) sound.shape_is in let here : t.at ≡ place_of e.shape (at x) = word.at_is ∙ place in record {
  can = can;
  at_is = here;
  words = record { within = ap (λ (h : Shape). inside h (at x)) (sym sound.shape_is) ∙ spot_inside e p i low sound x can; found_is = word.found_is ∙ ap (λ n. get_or p.words n 0) here; words_are = words ∙ ap (λ n. set p.words n (left e x t.found)) here };
  view_is = ap (λ vs. get_or vs i blank) views ∙ get_or-set_same p.views i (after e x t.found (view_at p i)) blank low;
  others_are = ap (λ vs. set vs i blank) views ∙ set-set p.views i (after e x t.found (view_at p i)) blank;
  workers_are = ap length views ∙ length-set p.views i (after e x t.found (view_at p i));
  low = low;
  before = sound;
  afterwards = now;
}
