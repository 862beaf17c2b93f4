-- Numbers joined by commas, from the first one on.
use Rattle.std.proofs.Common.{◌≡◌, ◌≢◌, ◌∙◌, ℕ, ◌<◌, zero, suc, List, [], ◌∷◌, ◌++◌, length, get_or, Some, refl, sym, ap, subst, arith}
use Rattle.std.specs.Borrow.{Bor}
use Rattle.std.specs.Char.{digit_value}
use Rattle.std.specs.Str.Parse.{AllDigits}
use Rattle.std.proofs.lemmas.Str.Pattern.{IsSplitOnceResult, split_after}
use Rattle.command_words.specs.Options.{Text}
use Rattle.command_words.specs.Numbers.{IsNumber, IsList, last, more}

-- digits hold no comma
no_comma : (text : Text) → AllDigits 10 text → (i : ℕ) → i < length text → get_or text i 0 ≢ 44
no_comma [] h i lt e = absurd (omega arith)
no_comma (b ∷ bs) h zero lt e = let bad : digit_value 44 < 10 = subst (λ c. digit_value c < 10) e h.0 in absurd (omega arith)
no_comma (b ∷ bs) h (suc i) lt e = no_comma bs h.1 i (omega arith) e

digits_in_front : (xs ys : Text) (c : ℕ) → AllDigits 10 (xs ++ c ∷ ys) → digit_value c < 10
digits_in_front [] ys c h = h.0
digits_in_front (x ∷ xs) ys c h = digits_in_front xs ys c h.1

not_alone : (most n : ℕ) (text first rest : Text) → IsNumber 0 most text n → text ≡ first ++ 44 ∷ rest → ⊥
not_alone most n text first rest h e =
    let bad : digit_value 44 < 10 = digits_in_front first rest 44 (subst (AllDigits 10) e h.digits.1) in omega arith

-- a list with a comma is a first number and a list
pub cut_list : (most : ℕ) (text first rest : Text) (ns : List ℕ) → text ≡ first ++ 44 ∷ rest
    → ((f r : Text) → text ≡ f ++ 44 ∷ r → ((i : ℕ) → i < length f → get_or f i 0 ≢ 44) → (first ≡ f) × (rest ≡ r))
    → IsList most text ns → (n : ℕ) × (tail : List ℕ) × (ns ≡ n ∷ tail) × IsNumber 0 most first n × IsList most rest tail
cut_list most text first rest ns e only (last t n h) = absurd (not_alone most n text first rest h e)
cut_list most text first rest ns e only (more t f r n tail h l g) =
    let same = only f r g (no_comma f h.digits.1) in
    (n, tail, refl, subst (λ x. IsNumber 0 most x n) (sym same.0) h, subst (λ x. IsList most x tail) (sym same.1) l)

-- a list without a comma is a number
pub lone_list : (most : ℕ) (text : Text) (ns : List ℕ) → ((i : ℕ) → i < length text → get_or text i 0 ≢ 44)
    → IsList most text ns → (n : ℕ) × (ns ≡ n ∷ []) × IsNumber 0 most text n
lone_list most text ns none (last t n h) = (n, refl, h)
lone_list most text ns none (more t f r n tail h l g) = absurd (comma f r text g none)
  where
    comma : (f r text : Text) → text ≡ f ++ 44 ∷ r → ((i : ℕ) → i < length text → get_or text i 0 ≢ 44) → ⊥
    comma f r text e none = at f r (subst (λ t. (i : ℕ) → i < length t → get_or t i 0 ≢ 44) e none)
      where
        at : (f r : Text) → ((i : ℕ) → i < length (f ++ 44 ∷ r) → get_or (f ++ 44 ∷ r) i 0 ≢ 44) → ⊥
        at [] r none = none 0 (omega arith) refl
        at (x ∷ f) r none = at f r (λ i lt. none (suc i) (omega arith))

-- the split tells all splits
pub only_split : (bs : Text) (x y : Bor Text) → IsSplitOnceResult 44 bs (Some (x, y)) → (f r : Text) → bs ≡ f ++ 44 ∷ r
    → ((i : ℕ) → i < length f → get_or f i 0 ≢ 44) → (x.now ≡ f) × (y.now ≡ r)
only_split bs x y s f r e none = split_after 44 bs f r (Some (x, y)) s (omega arith) e none

-- a text writes one number
pub one_number : (least most : ℕ) (text : Text) (n m : ℕ) → IsNumber least most text n → IsNumber least most text m → n ≡ m
one_number least most text n m h k = h.value ∙ sym k.value

-- a text without a comma in front of a comma is the same in each way to cut
same_cut : (f g r s : Text) → f ++ 44 ∷ r ≡ g ++ 44 ∷ s → ((i : ℕ) → i < length f → get_or f i 0 ≢ 44) → ((i : ℕ) → i < length g → get_or g i 0 ≢ 44) → (f ≡ g) × (r ≡ s)
same_cut [] [] r s e n m = (refl, cc)
same_cut [] (y ∷ g) r s e n m = let bad : y ≡ 44 = cc in absurd (m 0 (omega arith) bad)
same_cut (x ∷ f) [] r s e n m = let bad : x ≡ 44 = cc in absurd (n 0 (omega arith) bad)
same_cut (x ∷ f) (y ∷ g) r s e n m =
    let head : x ≡ y = cc in
    let rest : f ++ 44 ∷ r ≡ g ++ 44 ∷ s = cc in
    let same = same_cut f g r s rest (λ i lt. n (suc i) (omega arith)) (λ i lt. m (suc i) (omega arith)) in
    (ap (λ z. z ∷ f) head ∙ ap (λ t. y ∷ t) same.0, same.1)

-- a text writes one list
pub one_list : (most : ℕ) (text : Text) (ns ms : List ℕ) → IsList most text ns → IsList most text ms → ns ≡ ms
one_list most text ns ms (last t n h) (last u m k) = ap (λ x. x ∷ []) (one_number 0 most t n m h k)
one_list most text ns ms (last t n h) (more u f r m tail k l e) = absurd (not_alone most n t f r h e)
one_list most text ns ms (more t f r n tail h l e) (last u m k) = absurd (not_alone most m t f r k e)
one_list most text ns ms (more t f r n tail h l e) (more u g s m others k p d) =
    let same = same_cut f g r s (sym e ∙ d) (no_comma f h.digits.1) (no_comma g k.digits.1) in
    let head : n ≡ m = one_number 0 most f n m h (subst (λ x. IsNumber 0 most x m) (sym same.0) k) in
    let rest : tail ≡ others = one_list most r tail others l (subst (λ x. IsList most x others) (sym same.1) p) in
    ap (λ x. x ∷ tail) head ∙ ap (λ x. m ∷ x) rest
