-- Places in the order of the numbers of what stands there: how one more is put in, and how what has one number is found.
use Rattle.std.proofs.Common.{◌≡◌, ℕ, zero, suc, ◌+◌, ◌*◌, ◌<◌, ◌≤◌, ◌==◌, ◌&&◌, ◌^◌, List, [], ◌∷◌, ◌++◌, take, drop, length, filter, map, slice_get, slice_index_or, get_or, cond, Bool, true, false, Option, None, Some, refl, sym, ap, arith, append-nil, option_map, add-one, zero-add, if◌then◌else◌}
use Rattle.std.proofs.lemmas.Bool.Decides.{nat_tests}
use Rattle.std.proofs.lemmas.List.Elements.{recursion_from_All, All-push, filter-append}
use Rattle.std.proofs.lemmas.List.{take_all, map-append}
use Rattle.std.proofs.lemmas.List.Sorted.{IsNonDecreasingBy-insert}
use Rattle.std.specs.List.{AllByRecursion, AllWithin, All, insert}
use Rattle.std.specs.List.Sorted.{IsNonDecreasingBy, IsPartitionPoint}
use Rattle.std.specs.Option.{option_and_then}
use Rattle.graph_model.specs.declared.plan.Strike.{Strike}
use Rattle.graph_model.specs.declared.key.Key.{Key}
use Rattle.graph_model.specs.declared.plan.Point.{Point}
use Rattle.graph_model.specs.declared.plan.Point.TheVariants.{Explored, Ready, Computed, Notified}
use Rattle.graph_model.specs.Plans.{IsIndex, code, code_in, hits, point_number, strike_code, waits_for}
use Rattle.graph_model.proofs.Hits.{IsUp, only, none_above, other_number, hits_from}

front_all : {X : Type 0} (P : X → Type 0) (xs : List X) (i : ℕ) → AllWithin P xs 0 i → i ≤ length xs → AllByRecursion P (take i xs)
front_all P xs zero all inside = tt
front_all P [] (suc i) all inside = tt
front_all P (x ∷ xs) (suc i) all inside =
    (all 0 x (omega arith) (omega arith), front_all P xs i (λ k d low high. all (suc k) d (omega arith) (omega arith)) (omega arith))

back_all : {X : Type 0} (P : X → Type 0) (xs : List X) (i : ℕ) → AllWithin P xs i (length xs) → AllByRecursion P (drop i xs)
back_all P [] zero all = tt
back_all P [] (suc i) all = tt
back_all P (x ∷ xs) zero all = (all 0 x (omega arith) (omega arith), back_all P xs zero (λ k d low high. all (suc k) d (omega arith) (omega arith)))
back_all P (x ∷ xs) (suc i) all = back_all P xs i (λ k d low high. all (suc k) d (omega arith) (omega arith))

up_from : {X : Type 0} (n : X → ℕ) (xs : List X) → IsNonDecreasingBy n xs → IsUp n xs
up_from n [] up = tt
up_from n (x ∷ xs) up = (
  recursion_from_All (λ z. n x ≤ n z) xs (λ k d inside. up 0 (suc k) d (omega arith) (omega arith)),
  up_from n xs (λ i j d low inside. up (suc i) (suc j) d (omega arith) (omega arith)),
)

suc_plus : (a b : ℕ) → suc a + b ≡ suc (a + b)
suc_plus a b = omega arith

-- what has a number stands in a row behind what has lesser ones
hits_past : {X : Type 0} (n : X → ℕ) (c : ℕ) (xs : List X) (front i : ℕ) → IsUp n xs → AllByRecursion (λ z. n z < c) (take front xs)
    → AllByRecursion (λ z. c ≤ n z) (drop front xs) → slice_get (filter (λ z. n z == c) xs) i ≡ only n c (slice_get xs (front + i))
hits_past n c [] front i up below above = refl
hits_past n c (x ∷ xs) zero i up below above = rw (zero-add i) (hits_from n c (x ∷ xs) i up above)
hits_past n c (x ∷ xs) (suc front) i up below above =
    let later = hits_past n c xs front i up.1 below.1 above in
    rw (suc_plus front i, other_number (n x) c (λ e. omega (arith, below.0))) later

after : {X : Type 0} (n : X → ℕ) (c : ℕ) (x : X) (xs : List X) (b : Bool) → (n x == c) ≡ b → AllByRecursion (λ z. n x < n z) xs
    → filter (λ z. n z == c) (x ∷ xs) ≡ filter (λ z. n z == c) xs ++ filter (λ z. n z == c) (x ∷ [])
after n c x xs true e all =
    let here : n x ≡ c = grind (arith, nat_tests) in
    rw (e, none_above n c xs (rw here at all)) refl
after n c x xs false e all = rw (e, append-nil) refl

keep : {X : Type 0} (b : Bool) (x : X) (xs ys zs : List X) → xs ≡ ys ++ zs → cond b (x ∷ xs) xs ≡ cond b (x ∷ ys) ys ++ zs
keep true x xs ys zs e = ap (λ l. x ∷ l) e
keep false x xs ys zs e = e

-- what is put in before greater numbers comes last of its number
filter_insert : {X : Type 0} (n : X → ℕ) (c : ℕ) (x : X) (xs : List X) (at : ℕ) → AllByRecursion (λ z. n x < n z) (drop at xs)
    → filter (λ z. n z == c) (insert xs at x) ≡ filter (λ z. n z == c) xs ++ filter (λ z. n z == c) (x ∷ [])
filter_insert n c x [] zero all = after n c x [] (n x == c) refl tt
filter_insert n c x [] (suc at) all = after n c x [] (n x == c) refl tt
filter_insert n c x (y ∷ ys) zero all = after n c x (y ∷ ys) (n x == c) refl all
filter_insert n c x (y ∷ ys) (suc at) all = keep (n y == c) y _ _ _ (filter_insert n c x ys at all)

-- one place more in the index
number_here : (plan : List Strike) (n : ℕ) (strike : Strike) → slice_get plan n ≡ Some strike → code_in plan n ≡ strike_code strike
number_here plan n strike here = rw here refl

taken_suc : {X : Type 0} (xs : List X) (n : ℕ) (x : X) → slice_get xs n ≡ Some x → take (suc n) xs ≡ take n xs ++ x ∷ []
taken_suc [] n x here = cc
taken_suc (y ∷ ys) zero x here = cc
taken_suc (y ∷ ys) (suc n) x here = ap (λ l. y ∷ l) (taken_suc ys n x here)

taken : {X : Type 0} (xs : List X) (n : ℕ) (x : X) → slice_get xs n ≡ Some x → take (n + 1) xs ≡ take n xs ++ x ∷ []
taken xs n x here = rw add-one (taken_suc xs n x here)

same_one : {X Y : Type 0} (g : Y → Option X) (y : Y) (x : X) (b : Bool) → g y ≡ Some x → map g (cond b (y ∷ []) []) ≡ map Some (cond b (x ∷ []) [])
same_one g y x true here = rw here refl
same_one g y x false here = refl

pub index_more : (plan : List Strike) (n : ℕ) (places : List ℕ) (at : ℕ) (strike : Strike) → IsIndex plan n places → slice_get plan n ≡ Some strike
    → IsPartitionPoint (λ place. code_in plan place < code_in plan n + 1) (λ place. code_in plan n + 1 ≤ code_in plan place) places at → at ≤ length places
    → strike.life < 2 ^ 32 → IsIndex plan (n + 1) (insert places at n)
index_more plan n places at strike index here point inside life = record {
  ascends = IsNonDecreasingBy-insert (code_in plan) places at n index.ascends inside
      (λ k d below. omega (arith, point.0 k d (omega arith) below)) (λ k d above within. omega (arith, point.1 k d above within));
  same = λ c.
      rw (
        filter_insert (code_in plan) c n places at (back_all (λ place. code_in plan n < code_in plan place) places at (λ k d above within. omega (arith, point.1 k d above within))),
        map-append (slice_get plan) (filter (λ place. code_in plan place == c) places) (filter (λ place. code_in plan place == c) (n ∷ [])),
        index.same c,
        taken plan n strike here,
        filter-append (λ strike. strike_code strike == c) (take n plan) (strike ∷ []),
        map-append (λ (s : Strike). Some s) (filter (λ strike. strike_code strike == c) (take n plan)) (filter (λ strike. strike_code strike == c) (strike ∷ [])),
        number_here plan n strike here,
      )
      (ap (λ l. map Some (filter (λ strike. strike_code strike == c) (take n plan)) ++ l) (same_one (slice_get plan) n strike (strike_code strike == c) here));
  lives = rw (taken plan n strike here) (All-push (λ strike. strike.life < 2 ^ 32) (take n plan) strike index.lives life);
}

targets_of : (plan : List Strike) (xs : List Strike) (places : List ℕ) (i : ℕ) → map Some xs ≡ map (slice_get plan) places
    → slice_get (map (λ strike. strike.target) xs) i ≡ option_and_then (λ place. option_map (λ strike. strike.target) (slice_get plan place)) (slice_get places i)
targets_of plan [] [] i e = refl
targets_of plan [] (p ∷ places) i e = cc
targets_of plan (x ∷ xs) [] i e = cc
targets_of plan (x ∷ xs) (p ∷ places) zero e = let here : Some x ≡ slice_get plan p = cc in rw (← here) refl
targets_of plan (x ∷ xs) (p ∷ places) (suc i) e = let rest : map Some xs ≡ map (slice_get plan) places = cc in targets_of plan xs places i rest

pub target_found : (plan : List Strike) (places : List ℕ) (c front i : ℕ) → IsIndex plan (length plan) places
    → IsPartitionPoint (λ place. code_in plan place < c) (λ place. c ≤ code_in plan place) places front → front ≤ length places
    → slice_get (map (λ strike. strike.target) (filter (λ strike. strike_code strike == c) plan)) i
    ≡ option_and_then (λ place. option_map (λ strike. strike.target) (slice_get plan place)) (only (code_in plan) c (slice_get places (front + i)))
target_found plan places c front i index point inside =
    let whole : take (length plan) plan ≡ plan = take_all (length plan) plan (omega arith) in
    let same : map Some (filter (λ strike. strike_code strike == c) plan) ≡ map (slice_get plan) (filter (λ place. code_in plan place == c) places) =
    sym (rw whole at index.same c) in
    let hits = hits_past (code_in plan) c places front i (up_from (code_in plan) places index.ascends)
    (front_all (λ place. code_in plan place < c) places front point.0 inside) (back_all (λ place. c ≤ code_in plan place) places front point.1) in
    rw (targets_of plan _ _ i same, hits) refl

pub some_at : {X : Type 0} (xs : List X) (n : ℕ) → n < length xs → (x : X) × (slice_get xs n ≡ Some x)
some_at [] n inside = absurd (omega arith)
some_at (x ∷ xs) zero inside = (x, refl)
some_at (x ∷ xs) (suc n) inside = some_at xs n (omega arith)

filter_same : {X : Type 0} (p q : X → Bool) (xs : List X) → AllByRecursion (λ x. p x ≡ q x) xs → filter p xs ≡ filter q xs
filter_same p q [] all = refl
filter_same p q (x ∷ xs) all = rw (all.0, filter_same p q xs all.1) refl

number_below : (p : Point) → point_number p < 4
number_below Explored = omega arith
number_below Ready = omega arith
number_below Computed = omega arith
number_below Notified = omega arith

same_code : (a b c d e f : ℕ) → c < 2 ^ 32 → d < 2 ^ 32 → e < 4 → f < 4
    → ((a == b) && (c == d) && (e == f)) ≡ ((a * 4294967296 + c) * 4 + e == (b * 4294967296 + d) * 4 + f)
same_code a b c d e f c_fits d_fits e_fits f_fits = grind (arith, nat_tests)

waits : (point : Point) (key : Key) (life : ℕ) (strike : Strike) → life < 2 ^ 32 → strike.life < 2 ^ 32 → waits_for point key life strike ≡ (strike_code strike == code key life point)
waits point key life strike fits strike_fits =
    same_code strike.key.0 key.0 strike.life life (point_number strike.point) (point_number point) strike_fits fits (number_below strike.point) (number_below point)

-- the strikes for a point of a life of a task are those with their number
pub hits_by_code : (point : Point) (key : Key) (life : ℕ) (plan : List Strike) → life < 2 ^ 32 → All (λ strike. strike.life < 2 ^ 32) plan
    → hits point key life plan ≡ map (λ strike. strike.target) (filter (λ strike. strike_code strike == code key life point) plan)
hits_by_code point key life plan fits lives =
    ap (λ strikes. map (λ strike. strike.target) strikes)
    (filter_same (waits_for point key life) (λ strike. strike_code strike == code key life point) plan
    (recursion_from_All _ plan (λ k d inside. waits point key life (slice_index_or plan k d) fits (lives k d inside))))

pub index_none : (plan : List Strike) (places : List ℕ) → IsIndex plan 0 (take 0 places)
index_none plan places = record { ascends = λ i j d low inside. absurd (omega (arith, inside)); same = λ c. refl; lives = λ k d inside. absurd (omega (arith, inside)) }

pub none_past : {X : Type 0} (xs : List X) (n : ℕ) → length xs ≤ n → slice_get xs n ≡ None
none_past [] n past = refl
none_past (x ∷ xs) zero past = absurd (omega arith)
none_past (x ∷ xs) (suc n) past = none_past xs n (omega arith)

pub some_read : {X : Type 0} (xs : List X) (n : ℕ) (x : X) → n < length xs → x ≡ get_or xs n x → slice_get xs n ≡ Some x
some_read [] n x inside read = absurd (omega arith)
some_read (y ∷ ys) zero x inside read = ap Some (sym read)
some_read (y ∷ ys) (suc n) x inside read = some_read ys n x (omega arith) read

pub chosen : {X Y : Type 0} (f : X → Option Y) (x : X) (b : Bool) → (if b then f x else None) ≡ option_and_then f (cond b (Some x) None)
chosen f x true = refl
chosen f x false = refl
