-- Lists that a function makes, and the states of the draws.
use Rattle.std.proofs.Common.{◌≡◌, ℕ, ◌+◌, ◌*◌, ◌%◌, ◌^◌, ◌<◌, [], ◌∷◌, ◌++◌, length, get_or, refl, arith, add-one}
use Rattle.std.proofs.lemmas.List.FromFn.{length-map-range_with_len, get_or-map-range_with_len, map-range_with_len_more}
use Rattle.drill_input.specs.Draws.{state, moved}
use Rattle.drill_input.specs.Drill.{each}

pub each_none : {X : Type 0} (f : ℕ → X) (a : ℕ) → each f a 0 ≡ []
unfolding each
each_none f a = refl

pub each_more : {X : Type 0} (f : ℕ → X) (a n j : ℕ) → a + n ≡ j → each f a (n + 1) ≡ each f a n ++ f j ∷ []
unfolding each
each_more f a n j e = map-range_with_len_more f a n j e

pub length-each : {X : Type 0} (f : ℕ → X) (a n : ℕ) → length (each f a n) ≡ n
unfolding each
length-each f a n = length-map-range_with_len f a n

pub get_or-each : {X : Type 0} (f : ℕ → X) (a n i j : ℕ) (d : X) → i < n → a + i ≡ j → get_or (each f a n) i d ≡ f j
unfolding each
get_or-each f a n i j d inside e = get_or-map-range_with_len f a n i j d inside e

pub state_more : (number n : ℕ) → state number (n + 1) ≡ moved (state number n)
unfolding state
state_more number n = rw add-one refl

pub moves : (x : ℕ) → (x * 6364136223846793005 % 2 ^ 64 + 1442695040888963407) % 2 ^ 64 ≡ moved x
moves x = omega arith
