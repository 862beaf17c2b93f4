-- Reading a number digit by digit, with a cap.
use Rattle.std.proofs.Common.{◌≡◌, ◌⊎◌, ℕ, ◌+◌, ◌-◌, ◌*◌, ◌<◌, ◌≤◌, List, [], ◌∷◌, length, get_or, drop, Some, None, true, false, refl, ap, sym, ◌∙◌, arith, drop-cons, add-one, inl, inr}
use Rattle.std.specs.Prelude.{min}
use Rattle.std.specs.Option.{option_map}
use Rattle.std.proofs.lemmas.Bool.{le-leb, lt-leb}
use Rattle.apsp_graph.specs.Numbers.{is_digit, number_after, number_of, capped}

-- what is known after the first i bytes
pub record IsReadTo (word : List ℕ) (i found : ℕ) : Type 0 where
  pub number : ℕ
  pub value : found ≡ capped number
  pub rest : number_after 0 word ≡ number_after number (drop i word)

digit_yes : (b : ℕ) → 48 ≤ b → b ≤ 57 → is_digit b ≡ true
digit_yes b low high = rw (le-leb 48 b low, le-leb b 57 high) refl

digit_no : (b : ℕ) → (b < 48) ⊎ (57 < b) → is_digit b ≡ false
digit_no b (inl low) = rw (lt-leb 48 b low) refl
digit_no b (inr high) = let low : 48 ≤ b = omega arith in rw (le-leb 48 b low, lt-leb b 57 high) refl

digit_read : (n b : ℕ) (bs : List ℕ) → is_digit b ≡ true → number_after n (b ∷ bs) ≡ number_after (n * 10 + (b - 48)) bs
unfolding number_after
digit_read n b bs h = rw h refl

no_digit : (n b : ℕ) (bs : List ℕ) → is_digit b ≡ false → number_after n (b ∷ bs) ≡ None
unfolding number_after
no_digit n b bs h = rw h refl

all_read : (n : ℕ) → number_after n [] ≡ Some n
unfolding number_after
all_read n = refl

some_of : (word : List ℕ) → 0 < length word → number_of word ≡ number_after 0 word
unfolding number_of
some_of [] h = absurd (omega arith)
some_of (b ∷ bs) h = refl

pub none_of : (word : List ℕ) → length word ≡ 0 → number_of word ≡ None
unfolding number_of
none_of [] h = refl
none_of (b ∷ bs) h = absurd (omega arith)

pub begins : (word : List ℕ) → IsReadTo word 0 0
begins word = record { number = 0; value = refl; rest = refl }

pub goes_on : (word : List ℕ) (i value b next : ℕ) → i < length word → b ≡ get_or word i 0 → 48 ≤ b → b ≤ 57 → next ≡ min (value * 10 + (b - 48)) 4294967296 → IsReadTo word i value → IsReadTo word (i + 1) next
goes_on word i value b next lt e low high is so_far =
    let n = so_far.number in
    let v = so_far.value in
    let cut : drop i word ≡ get_or word i 0 ∷ drop (i + 1) word = rw (add-one) (drop-cons word i 0 lt) in
    record {
      number = n * 10 + (b - 48);
      value = omega (arith, is, v);
      rest = so_far.rest ∙ ap (number_after n) (cut ∙ ap (λ x. x ∷ drop (i + 1) word) (sym e)) ∙ digit_read n b (drop (i + 1) word) (digit_yes b low high);
    }

pub stops : (word : List ℕ) (i value b : ℕ) → i < length word → b ≡ get_or word i 0 → (b < 48) ⊎ (57 < b) → IsReadTo word i value → number_of word ≡ None
stops word i value b lt e out so_far =
    let n = so_far.number in
    let cut : drop i word ≡ get_or word i 0 ∷ drop (i + 1) word = rw (add-one) (drop-cons word i 0 lt) in
    some_of word (omega arith) ∙ so_far.rest ∙ ap (number_after n) (cut ∙ ap (λ x. x ∷ drop (i + 1) word) (sym e)) ∙ no_digit n b (drop (i + 1) word) (digit_no b out)

drop_all : (word : List ℕ) → drop (length word) word ≡ []
drop_all [] = refl
drop_all (b ∷ bs) = drop_all bs

pub is_number : (word : List ℕ) (value : ℕ) → 0 < length word → IsReadTo word (length word) value → option_map capped (number_of word) ≡ Some value
is_number word value some so_far =
    let n = so_far.number in
    ap (option_map capped) (some_of word some ∙ so_far.rest ∙ ap (number_after n) (drop_all word) ∙ all_read n) ∙ ap Some (sym so_far.value)
