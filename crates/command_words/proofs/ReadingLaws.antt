-- The words of a list, as the code holds them.
use Rattle.std.proofs.Common.{◌≡◌, ◌∙◌, ℕ, ◌<◌, ◌≤◌, ◌-◌, zero, suc, List, [], ◌∷◌, length, get_or, take, drop, map, refl, sym, ap, arith}
use Rattle.std.proofs.lemmas.List.{take_all}
use Rattle.command_words.specs.Options.{Text}

-- the words behind the first one
abbrev pub behind : {A : Type 0} → List A → List A
behind ws = take (length ws - 1) (drop 1 ws)

-- the first word and those behind it
pub cut_word : {A : Type 0} (f : A → Text) (ws : List A) (w : A) → 1 ≤ length ws → w ≡ get_or ws 0 w → map f ws ≡ f w ∷ map f (behind ws)
cut_word f [] w lt e = absurd (omega arith)
cut_word f (x ∷ xs) w lt e = ap (λ y. f y ∷ map f xs) (sym e) ∙ ap (λ r. f w ∷ map f r) (sym (take_all (length (x ∷ xs) - 1) xs (omega arith)))

-- a text of a list of words
pub map_at : {A : Type 0} (f : A → Text) (ws : List A) (i : ℕ) (d : A) (e : Text) → i < length ws → get_or (map f ws) i e ≡ f (get_or ws i d)
map_at f [] i d e lt = absurd (omega arith)
map_at f (w ∷ ws) zero d e lt = refl
map_at f (w ∷ ws) (suc i) d e lt = map_at f ws i d e (omega arith)

pub map_inside : {A : Type 0} (f : A → Text) (ws : List A) (i : ℕ) → i < length ws → i < length (map f ws)
map_inside f [] i lt = absurd (omega arith)
map_inside f (w ∷ ws) zero lt = omega arith
map_inside f (w ∷ ws) (suc i) lt = let below : i < length (map f ws) = map_inside f ws i (omega arith) in omega arith
