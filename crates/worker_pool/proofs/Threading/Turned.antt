-- Lists that are built from the last element on.
use Rattle.std.proofs.Common.{◌≡◌, ◌∙◌, ℕ, zero, suc, ◌+◌, ◌-◌, ◌<◌, All, List, [], ◌∷◌, ◌++◌, length, slice_index_or, ap, subst, sym, refl, arith}
use mathlib.Core.Logic.{dite}
use native.Mathlib.Decide.{dec_lt}
use Rattle.std.proofs.lemmas.List.{get_or-append_right, get_or_append_left, length-append}
use Rattle.std.proofs.lemmas.List.Elements.{All-append}
use Rattle.worker_pool.specs.Threads.{turned}

append_one : {B : Type 0} (xs : List B) (b : B) (ys : List B) → (xs ++ b ∷ []) ++ ys ≡ xs ++ b ∷ ys
append_one [] b ys = refl
append_one (x ∷ xs) b ys = ap (λ zs. x ∷ zs) (append_one xs b ys)

module _ {A B : Type 0} (f : A → B) where
  -- one element more at the end comes first
  pub turned_more : (xs : List A) (x : A) → turned f (xs ++ x ∷ []) ≡ f x ∷ turned f xs
  turned_more [] x = refl
  turned_more (y ∷ ys) x = ap (λ zs. zs ++ f y ∷ []) (turned_more ys x)

  pub turned_length : (xs : List A) → length (turned f xs) ≡ length xs
  turned_length [] = refl
  turned_length (x ∷ xs) = let a = length-append (turned f xs) (f x ∷ []) in let b = turned_length xs in omega (arith, a, b)

  -- what stands at a place is of the element so far from the end
  pub turned_at : (xs : List A) (i : ℕ) (x : A) (d : B) → i < length xs → slice_index_or (turned f xs) i d ≡ f (slice_index_or xs (length xs - suc i) x)
  turned_at [] i x d low = absurd (omega (arith, low))
  turned_at (y ∷ ys) i x d low = dite (dec_lt i (length ys))
      (λ less. get_or_append_left (turned f ys) (f y ∷ []) d i (let a = turned_length ys in omega (arith, a, less)) ∙ turned_at ys i x d less
      ∙ ap (λ n. f (slice_index_or (y ∷ ys) n x)) {x = suc (length ys - suc i)} {y = length (y ∷ ys) - suc i} (omega (arith, less)))
      (λ more. get_or-append_right (turned f ys) (f y ∷ []) (length ys) i d (turned_length ys) (omega (arith, more))
      ∙ ap (λ n. slice_index_or (f y ∷ []) n d) {x = i - length ys} {y = 0} (omega (arith, low, more))
      ∙ ap (λ n. f (slice_index_or (y ∷ ys) n x)) {x = 0} {y = length (y ∷ ys) - suc i} (omega (arith, low, more)))

  -- one element, taken from the end, goes on to the other list
  pub turned_on : (done all : List B) (xs : List A) (x : A) → done ++ turned f (xs ++ x ∷ []) ≡ all → (done ++ f x ∷ []) ++ turned f xs ≡ all
  turned_on done all xs x is = append_one done (f x) (turned f xs) ∙ ap (λ ys. done ++ ys) (sym (turned_more xs x)) ∙ is

  -- and one that came from the end of the other list is put behind
  pub turned_back : (left all : List B) (xs : List A) (x : A) → (left ++ f x ∷ []) ++ turned f xs ≡ all → left ++ turned f (xs ++ x ∷ []) ≡ all
  turned_back left all xs x is = ap (λ ys. left ++ ys) (turned_more xs x) ∙ sym (append_one left (f x) (turned f xs)) ∙ is

  -- the last of what was left was put behind what there is
  pub turned_put : (left rest all : List B) (xs ys : List A) (x : A) → left ≡ rest ++ f x ∷ [] → ys ≡ xs ++ x ∷ [] → left ++ turned f xs ≡ all → rest ++ turned f ys ≡ all
  turned_put left rest all xs ys x taken put is = ap (λ zs. rest ++ turned f zs) put ∙ turned_back rest all xs x (ap (λ ls. ls ++ turned f xs) (sym taken) ∙ is)

  -- and taken again
  pub turned_taken : (done more all : List B) (xs rest : List A) (x : A) → xs ≡ rest ++ x ∷ [] → more ≡ done ++ f x ∷ [] → done ++ turned f xs ≡ all → more ++ turned f rest ≡ all
  turned_taken done more all xs rest x taken put is = ap (λ ls. ls ++ turned f rest) put ∙ turned_on done all rest x (ap (λ zs. done ++ turned f zs) (sym taken) ∙ is)

-- What holds of all, where the last was taken or put.
module _ {A : Type 0} (P : A → Type 0) where
  pub all_taken : (xs rest : List A) (x : A) → xs ≡ rest ++ x ∷ [] → All P xs → All P rest × P x
  all_taken xs rest x is all = (
    (λ i d low. subst P (get_or_append_left rest (x ∷ []) d i low) (whole i d (omega (arith, many, low)))),
    subst P (get_or-append_right rest (x ∷ []) (length rest) (length rest) x refl (omega arith) ∙ ap (λ n. slice_index_or (x ∷ []) n x) {x = length rest - length rest} {y = 0} (omega arith)) (whole (length rest) x (omega (arith, many))),
  )
    where
      many : length (rest ++ x ∷ []) ≡ length rest + 1
      many = length-append rest (x ∷ [])

      whole : All P (rest ++ x ∷ [])
      whole = subst (All P) is all

  pub all_put : (xs more : List A) (x : A) → more ≡ xs ++ x ∷ [] → All P xs → P x → All P more
  all_put xs more x is all here = subst (All P) (sym is) (All-append P xs (x ∷ []) all one)
    where
      one : All P (x ∷ [])
      one zero d low = here
      one (suc i) d low = absurd (omega (arith, low))
