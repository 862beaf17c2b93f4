-- Tasks and strikes that are put behind others.
use Rattle.std.proofs.Common.{◌≡◌, ◌∙◌, ℕ, ◌+◌, ◌<◌, ◌^◌, List, [], ◌∷◌, ◌++◌, map, length, subst, ap, sym, arith, append_assoc}
use Rattle.std.proofs.lemmas.List.{map-append, append-nil}
use Rattle.std.proofs.lemmas.List.Elements.{All-nil, All-cons, All-append}
use Rattle.graph_model.specs.Plans.{HasTaskKeys}
use Rattle.graph_model.specs.declared.plan.Strike.{Strike}
use Rattle.drill_input.specs.Draws.{state}
use Rattle.drill_input.specs.Drill.{each, drawn_strike}
use Rattle.drill_input.proofs.Listed.{each_none, each_more}

pub begun : {X Y : Type 0} (g : X → Y) (f : ℕ → Y) (a : ℕ) (xs : List X) → map g xs ≡ map g xs ++ each f a 0
begun g f a xs = sym (ap (λ ys. map g xs ++ ys) (each_none f a) ∙ append-nil (map g xs))

-- the next one follows
pub one_more : {X Y : Type 0} (g : X → Y) (f : ℕ → Y) (a n j m : ℕ) (olds xs ys : List X) (x : X) → map g xs ≡ map g olds ++ each f a n → ys ≡ xs ++ x ∷ [] → g x ≡ f j → a + n ≡ j → m ≡ n + 1
    → map g ys ≡ map g olds ++ each f a m
one_more {X} {Y} g f a n j m olds xs ys x before pushed is at next =
    ap (map g) pushed ∙ (map-append g xs (x ∷ []) ∙ (ap (λ (l : List Y). l ++ g x ∷ []) before ∙ (append_assoc (map g olds) (each f a n) (g x ∷ [])
    ∙ ap (λ (l : List Y). map g olds ++ l) (ap (λ (y : Y). each f a n ++ y ∷ []) is ∙ (sym (each_more f a n j at) ∙ ap (λ (k : ℕ). each f a k) (sym next))))))

pub no_strikes : (s : ℕ) (xs : List Strike) → xs ≡ []
    → (length xs ≡ 0) × HasTaskKeys xs × ((number : ℕ) → s ≡ state number 16256 → (xs ≡ each (drawn_strike number) 0 0) × (s ≡ state number 16256))
no_strikes s xs none = (
  ap length none,
  subst HasTaskKeys (sym none) (All-nil (λ (strike : Strike). strike.key.0 < 2 ^ 63)),
  λ number begins. (none ∙ sym (each_none (drawn_strike number) 0), begins),
)

pub more_keys : (xs ys : List Strike) (x : Strike) → HasTaskKeys xs → ys ≡ xs ++ x ∷ [] → x.key.0 < 2 ^ 63 → HasTaskKeys ys
more_keys xs ys x small pushed key =
    subst HasTaskKeys (sym pushed) (All-append (λ (strike : Strike). strike.key.0 < 2 ^ 63) xs (x ∷ []) small (All-cons (λ (strike : Strike). strike.key.0 < 2 ^ 63) x [] key (All-nil (λ (strike : Strike). strike.key.0 < 2 ^ 63))))

pub more_strikes : (number n : ℕ) (xs ys : List Strike) (x : Strike) → xs ≡ each (drawn_strike number) 0 n → ys ≡ xs ++ x ∷ [] → x ≡ drawn_strike number n → ys ≡ each (drawn_strike number) 0 (n + 1)
more_strikes number n xs ys x before pushed is =
    pushed ∙ (ap (λ (l : List Strike). l ++ x ∷ []) before ∙ (ap (λ (s : Strike). each (drawn_strike number) 0 n ++ s ∷ []) is ∙ sym (each_more (drawn_strike number) 0 n n (omega arith))))
