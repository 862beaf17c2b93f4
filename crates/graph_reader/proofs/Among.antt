-- Whether a number is among others.
use Rattle.std.proofs.Common.{◌≡◌, ℕ, zero, suc, ◌+◌, ◌<◌, ◌≤◌, ◌==◌, ◌||◌, List, [], ◌∷◌, ◌++◌, length, get_or, take, map, Bool, true, false, Result, Ok, Err, is_ok, MatchResult, Contains, refl, sym, arith}
use Rattle.std.proofs.lemmas.Bool.Decides.{nat_tests}
use Rattle.std.proofs.lemmas.List.{take_more, map-append}
use Rattle.std.proofs.lemmas.List.Sorted.{list_any-IsPermutation}
use Rattle.std.specs.List.Sorted.{IsPermutation}
use Rattle.graph_reader.specs.Format.{is_among}
use Rattle.raw_graph.specs.Graph.{task_of, keys_of}
use Rattle.raw_graph.specs.declared.raw.RawTask.{RawTask}

same_number : (x y : ℕ) → x ≡ y → (x == y) ≡ true
same_number x y e = grind (arith, nat_tests)

other_number : (x y : ℕ) → (x ≡ y → ⊥) → (x == y) ≡ false
other_number x y e = grind (arith, nat_tests)

or_here : (a b : Bool) → a ≡ true → (a || b) ≡ true
or_here a b e = rw e refl

or_there : (a b : Bool) → b ≡ true → (a || b) ≡ true
or_there true b e = refl
or_there false b e = e

or_none : (a b : Bool) → a ≡ false → b ≡ false → (a || b) ≡ false
or_none a b e f = rw (e, f) refl

among_at : (xs : List ℕ) (x d i : ℕ) → i < length xs → get_or xs i d ≡ x → is_among xs x ≡ true
among_at [] x d i inside is = absurd (omega arith)
among_at (y ∷ ys) x d zero inside is = or_here (y == x) (is_among ys x) (same_number y x is)
among_at (y ∷ ys) x d (suc i) inside is = or_there (y == x) (is_among ys x) (among_at ys x d i (omega arith) is)

among_none : (xs : List ℕ) (x : ℕ) → ((k : ℕ) → k < length xs → get_or xs k 0 ≡ x → ⊥) → is_among xs x ≡ false
among_none [] x none = refl
among_none (y ∷ ys) x none =
    or_none (y == x) (is_among ys x) (other_number y x (none 0 (omega arith))) (among_none ys x (λ k inside. none (suc k) (omega arith)))

pub listed : (xs : List ℕ) (x : ℕ) (r : Result ℕ ℕ)
    → MatchResult r (λ i. (i < length xs) × (get_or xs i 0 ≡ x)) (λ i. (i ≤ length xs) × ((k : ℕ) → k < i → get_or xs k 0 < x) × ((k : ℕ) → i ≤ k → k < length xs → x < get_or xs k 0))
    → is_ok r ≡ is_among xs x
listed xs x (Ok i) found = sym (among_at xs x 0 i found.0 found.1)
listed xs x (Err i) apart = sym (among_none xs x (λ k inside is. apart_at xs x i k inside is apart))
  where
    apart_at : (xs : List ℕ) (x i k : ℕ) → k < length xs → get_or xs k 0 ≡ x
        → (i ≤ length xs) × ((k : ℕ) → k < i → get_or xs k 0 < x) × ((k : ℕ) → i ≤ k → k < length xs → x < get_or xs k 0) → ⊥
    apart_at xs x i k inside is apart = grind (arith, apart.1 k, apart.2 k)

pub among-contained : (xs : List ℕ) (x : ℕ) → Contains xs x → is_among xs x ≡ true
among-contained xs x here = among_at xs x x here.0 here.1 here.2

found_here : (y x : ℕ) (ys : List ℕ) → y ≡ x → Contains (y ∷ ys) x
found_here y x ys is = (0, omega arith, is)

found_later : (y x : ℕ) (ys : List ℕ) → Contains ys x → Contains (y ∷ ys) x
found_later y x ys there = let i = there.0 in let inside : i < length ys = there.1 in (suc i, omega arith, there.2)

found_cases : (y x : ℕ) (ys : List ℕ) (b : Bool) → (y == x) ≡ b → (b || is_among ys x) ≡ true → (is_among ys x ≡ true → Contains ys x) → Contains (y ∷ ys) x
found_cases y x ys true is found later = found_here y x ys (grind (arith, nat_tests))
found_cases y x ys false is found later = found_later y x ys (later found)

pub contained-among : (xs : List ℕ) (x : ℕ) → is_among xs x ≡ true → Contains xs x
contained-among [] x found = absurd (cc)
contained-among (y ∷ ys) x found = found_cases y x ys (y == x) refl found (contained-among ys x)

pub among_permuted : (xs ys : List ℕ) → IsPermutation xs ys → is_among ys ≡ is_among xs
among_permuted xs ys moved = λ i. λ key. (sym (list_any-IsPermutation (λ k. k == key) xs ys moved)) i

pub keys_more : (ts : List RawTask) (i : ℕ) (t : RawTask) (ks : List ℕ) → i < length ts → t ≡ get_or ts i t → ks ≡ keys_of (map task_of (take i ts))
    → ks ++ t.key.0 ∷ [] ≡ keys_of (map task_of (take (i + 1) ts))
keys_more ts i t ks inside is before =
    rw (take_more ts i t inside, ← is, map-append, map-append, ← before) refl
