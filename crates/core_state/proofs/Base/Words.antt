-- A write of one named word leaves the others.
use Rattle.std.proofs.Common.{◌≡◌, ◌≢◌, ℕ, ◌+◌, ◌-◌, ◌*◌, ◌/◌, ◌%◌, ◌<◌, List, Bool, true, false, cond, nat_lt, eqb, ne_eqb, eq-eqb, set, length, get_or, get_or-set_same, get_or-set_other, sym, ap, refl, ◌∙◌, arith, ltb, ltb-true}
use Rattle.std.proofs.lemmas.Bool.{lt-ltb, le-ltb}
use Rattle.std.proofs.lemmas.Nat.{div-mul-add, mod-mul-add, mul-add-lt}
use Rattle.core_state.specs.Words.{Shape, Spot, pending, stop, key, descriptor, notify, recovery, posted, turn, width, place_of, inside, read}
use Rattle.core_state.specs.declared.job.Job.TheVariants.{Explore, Compute}
use Rattle.core_state.proofs.Base.Counting.{both}

abbrev pub in_row : Shape → ℕ → ℕ → Spot
in_row h r o = cond (eqb o 0) (key r) (cond (eqb o 1) (descriptor r) (cond (ltb o (h.notify_words + 2)) (notify r (o - 2))
    (cond (eqb o (h.notify_words + 2)) (recovery r) (cond (eqb o (h.notify_words + 3)) (posted Explore r) (posted Compute r)))))

abbrev pub beyond : Shape → ℕ → Spot
beyond h m = cond (ltb m (width h * h.rows)) (in_row h (m / width h) (m % width h)) (turn (m - width h * h.rows))

-- the name of the word at a place
abbrev pub name_of : Shape → ℕ → Spot
name_of h n = cond (eqb n 0) pending (cond (eqb n 1) stop (beyond h (n - 2)))

row_name : (h : Shape) (r o n : ℕ) → r < h.rows → o < width h → n ≡ r * width h + 2 + o → name_of h n ≡ in_row h r o
row_name h r o n low small e =
    let a : n - 2 ≡ r * width h + o = omega arith in
    rw (ne_eqb n 0 (λ z. omega arith), ne_eqb n 1 (λ z. omega arith), a, lt-ltb (r * width h + o) (width h * h.rows) (mul-add-lt r (width h) o h.rows low small), div-mul-add r (width h) o small, mod-mul-add r (width h) o small)

pub named : (h : Shape) (a : Spot) → inside h a ≡ true → name_of h (place_of h a) ≡ a
named h pending e = refl
named h stop e = refl
named h (key r) e = row_name h r 0 (place_of h (key r)) (ltb-true r h.rows e) (omega arith) (omega arith)
named h (descriptor r) e = row_name h r 1 (place_of h (descriptor r)) (ltb-true r h.rows e) (omega arith) (omega arith)
named h (notify r w) e = let q = both (nat_lt r h.rows) (nat_lt w h.notify_words) e in let l = ltb-true w h.notify_words q.1 in let d : 2 + w - 2 ≡ w = omega arith in
    row_name h r (2 + w) (place_of h (notify r w)) (ltb-true r h.rows q.0) (omega arith) (omega arith) ∙ rw (ne_eqb (2 + w) 0 (λ z. omega arith), ne_eqb (2 + w) 1 (λ z. omega arith), lt-ltb (2 + w) (h.notify_words + 2) (omega arith), d)
named h (recovery r) e = let o : ℕ = h.notify_words + 2 in
    row_name h r o (place_of h (recovery r)) (ltb-true r h.rows e) (omega arith) (omega arith)
    ∙ rw (ne_eqb o 0 (λ z. omega arith), ne_eqb o 1 (λ z. omega arith), le-ltb o (h.notify_words + 2) (omega arith), eq-eqb o (h.notify_words + 2) refl)
named h (posted Explore r) e = let o : ℕ = h.notify_words + 3 in
    row_name h r o (place_of h (posted Explore r)) (ltb-true r h.rows e) (omega arith) (omega arith)
    ∙ rw (ne_eqb o 0 (λ z. omega arith), ne_eqb o 1 (λ z. omega arith), le-ltb o (h.notify_words + 2) (omega arith), ne_eqb o (h.notify_words + 2) (λ z. omega arith), eq-eqb o (h.notify_words + 3) refl)
named h (posted Compute r) e = let o : ℕ = h.notify_words + 4 in
    row_name h r o (place_of h (posted Compute r)) (ltb-true r h.rows e) (omega arith) (omega arith)
    ∙ rw (ne_eqb o 0 (λ z. omega arith), ne_eqb o 1 (λ z. omega arith), le-ltb o (h.notify_words + 2) (omega arith), ne_eqb o (h.notify_words + 2) (λ z. omega arith), ne_eqb o (h.notify_words + 3) (λ z. omega arith))
named h (turn b) e = let n : ℕ = h.rows * width h + 2 + b in let a : n - 2 ≡ h.rows * width h + b = omega arith in let d : h.rows * width h + b - width h * h.rows ≡ b = omega arith in
    rw (ne_eqb n 0 (λ z. omega arith), ne_eqb n 1 (λ z. omega arith), a, le-ltb (h.rows * width h + b) (width h * h.rows) (omega arith), d)

pub apart : (h : Shape) (a b : Spot) → inside h a ≡ true → inside h b ≡ true → b ≢ a → place_of h b ≢ place_of h a
apart h a b x y ne e = ne (sym (named h b y) ∙ ap (name_of h) e ∙ named h a x)

pub read_here : (h : Shape) (ws : List ℕ) (a : Spot) (m : ℕ) → inside h a ≡ true → place_of h a < length ws → read h (set ws (place_of h a) m) a ≡ m
unfolding read
read_here h ws a m x low = rw x (get_or-set_same ws (place_of h a) m 0 low)

pub read_at : (h : Shape) (ws : List ℕ) (a : Spot) → inside h a ≡ true → read h ws a ≡ get_or ws (place_of h a) 0
unfolding read
read_at h ws a x = rw x

either_way : (h : Shape) (ws : List ℕ) (a b : Spot) (m : ℕ) → inside h a ≡ true → b ≢ a → (t : Bool) → inside h b ≡ t → cond t (get_or (set ws (place_of h a) m) (place_of h b) 0) 0 ≡ cond t (get_or ws (place_of h b) 0) 0
either_way h ws a b m x ne true e = get_or-set_other ws (place_of h a) (place_of h b) m 0 (apart h a b x e ne)
either_way h ws a b m x ne false e = refl

pub read_else : (h : Shape) (ws : List ℕ) (a b : Spot) (m : ℕ) → inside h a ≡ true → b ≢ a → read h (set ws (place_of h a) m) b ≡ read h ws b
unfolding read
read_else h ws a b m x ne = either_way h ws a b m x ne (inside h b) refl

descriptor_row : Spot → ℕ
descriptor_row (descriptor r) = r
descriptor_row _ = 0

pub same_row : (h : Shape) (r q : ℕ) → r < h.rows → q < h.rows → place_of h (descriptor r) ≡ place_of h (descriptor q) → r ≡ q
unfolding descriptor_row
same_row h r q a b e = ap descriptor_row (sym (named h (descriptor r) (lt-ltb r h.rows a)) ∙ ap (name_of h) e ∙ named h (descriptor q) (lt-ltb q h.rows b))
