-- Which strike of the plan is the next of a point, where those of the least ranks are made: the list of targets and the places in the plan tell the same.
use Rattle.std.proofs.Common.{◌≡◌, ◌∙◌, ⊎_elim, ℕ, zero, suc, ◌+◌, ◌-◌, ◌<◌, ◌≤◌, ◌==◌, Bool, true, false, cond, ◌&&◌, nat_lt, eqb, List, [], ◌∷◌, length, map, filter, drop, slice_index_or, Option, Some, None, ap, sym, subst, refl, arith, add-one}
use Rattle.std.proofs.lemmas.Bool.{eq-eqb, ne_eqb, lt-ltb, le-ltb, cases_lt, cases_eq}
use Rattle.std.proofs.lemmas.List.{drop_all}
use mathlib.Core.Option.{some, none}
use mathlib.Core.Option as core
use Rattle.graph_model.specs.Plans.{hits, point_number, waits_for}
use Rattle.graph_model.specs.declared.key.Key.{Key}
use Rattle.graph_model.specs.declared.plan.Point.{Point}
use Rattle.graph_model.specs.declared.plan.Point.TheVariants as point
use Rattle.graph_model.specs.declared.plan.Strike.{Strike}
use Rattle.graph_model.specs.declared.plan.Target.{Target}
use Rattle.graph_model.specs.declared.plan.Target.TheVariants as target
use Rattle.core_state.specs.Counts.{bump}
use Rattle.core_state.specs.Tests.{is_in, same_point, two}
use Rattle.core_state.specs.Graph.{Graph, Plan}
use Rattle.core_state.specs.Rooted.{no_strike}
use Rattle.core_state.specs.Views.{first_of, has_word, is_left, next_strike}
use Rattle.compute_notify.specs.Striking.{has_target, names, next_hit, rank}
use Rattle.compute_notify.specs.declared.strikes.Next.{Next}

-- Tests that say the same in other words.
number_same : (a b : ℕ) → (a == b) ≡ eqb b a
number_same a b = ⊎_elim (λ e. eq-eqb a b e ∙ sym (eq-eqb b a (sym e))) (λ n. ne_eqb a b n ∙ sym (ne_eqb b a (λ e. n (sym e)))) (cases_eq a b)

point_same : (a b : Point) → (point_number a == point_number b) ≡ same_point b a
point_same point.Explored point.Explored = refl
point_same point.Ready point.Ready = refl
point_same point.Computed point.Computed = refl
point_same point.Notified point.Notified = refl
point_same a b = refl

turn_round : (a b : Bool) → (a && b) ≡ (b && a)
turn_round true true = refl
turn_round true false = refl
turn_round false true = refl
turn_round false false = refl

pub waits_named : (at : Point) (key : Key) (l : ℕ) (s : Strike) → waits_for at key l s ≡ names at key.0 l s
waits_named at key l s =
    ap (λ (q : Bool). (q && (s.life == l)) && (point_number s.point == point_number at)) (number_same s.key.0 key.0)
    ∙ ap (λ (q : Bool). (eqb key.0 s.key.0 && q) && (point_number s.point == point_number at)) (number_same s.life l)
    ∙ ap (λ (q : Bool). (eqb key.0 s.key.0 && eqb l s.life) && q) (point_same s.point at)
    ∙ turn_round (eqb key.0 s.key.0 && eqb l s.life) (same_point at s.point)

pub target_there : (g : Graph) (k : ℕ) (t : Target) → has_target (g.notify_words k) t ≡ has_word g k t
target_there g k (target.Notify w) = refl
target_there g k target.Descriptor = refl
target_there g k target.Block = refl

-- the targets of a point in a list, by whether its first strike names the point
hits_step : (at : Point) (key : Key) (l : ℕ) (x : Strike) (xs : List Strike) (b : Bool) → names at key.0 l x ≡ b → hits at key l (x ∷ xs) ≡ cond b (x.target ∷ hits at key l xs) (hits at key l xs)
hits_step at key l x xs b is = ap (λ (q : Bool). map (λ (s : Strike). s.target) (cond q (x ∷ filter (waits_for at key l) xs) (filter (waits_for at key l) xs))) (waits_named at key l x ∙ is) ∙ by b
  where
    by : (q : Bool) → map (λ (s : Strike). s.target) (cond q (x ∷ filter (waits_for at key l) xs) (filter (waits_for at key l) xs)) ≡ cond q (x.target ∷ hits at key l xs) (hits at key l xs)
    by true = refl
    by false = refl

first_step : (p : ℕ → Bool) (i c : ℕ) (b : Bool) → p i ≡ b → first_of p i (suc c) ≡ cond b (some i) (first_of p (i + 1) c)
first_step p i c b is = ap (λ (q : Bool). cond q (some i) (first_of p (i + 1) c)) is

module _ (p : Plan) (at : Point) (k l : ℕ) where
  -- ranks of a point grow by one at each strike that names it
  pub rank_more : (n : ℕ) (b : Bool) → names at k l (p.strike n) ≡ b → rank p at k l (n + 1) ≡ bump b (rank p at k l n)
  rank_more n b is = ap (rank p at k l) (add-one n) ∙ ap (λ (q : Bool). bump q (rank p at k l n)) is

  rank_up : (n : ℕ) (b : Bool) → names at k l (p.strike n) ≡ b → rank p at k l n ≤ rank p at k l (n + 1)
  rank_up n true is = let a = rank_more n true is in omega (arith, a)
  rank_up n false is = let a = rank_more n false is in omega (arith, a)

  pub rank_grows : (m d : ℕ) → rank p at k l m ≤ rank p at k l (m + d)
  rank_grows m zero = let a : rank p at k l (m + zero) ≡ rank p at k l m = ap (rank p at k l) (omega arith) in omega (arith, a)
  rank_grows m (suc d) = let a : rank p at k l (m + suc d) ≡ rank p at k l (m + d + 1) = ap (rank p at k l) (omega arith) in
      let b = rank_up (m + d) (names at k l (p.strike (m + d))) refl in let c = rank_grows m d in omega (arith, a, b, c)

  -- a later strike has at least one more below it than one that names the point
  pub rank_behind : (n m : ℕ) → names at k l (p.strike n) ≡ true → n < m → rank p at k l n < rank p at k l m
  rank_behind n m is low =
      let a = rank_more n true is in
      let b = rank_grows (n + 1) (m - (n + 1)) in
      let c : rank p at k l (n + 1 + (m - (n + 1))) ≡ rank p at k l m = ap (rank p at k l) (omega (arith, low)) in
      omega (arith, a, b, c)

  pub rank_few : (n : ℕ) → rank p at k l n ≤ n
  rank_few zero = omega arith
  rank_few (suc n) = by (names at k l (p.strike n)) (rank_few n)
    where
      by : (b : Bool) → rank p at k l n ≤ n → bump b (rank p at k l n) ≤ suc n
      by true h = omega (arith, h)
      by false h = omega (arith, h)

module _ (g : Graph) (p : Plan) (at : Point) (key : Key) (l m : ℕ) (done : List ℕ) where
  abbrev Names : ℕ → Type 0
  Names n = names at key.0 l (p.strike n) ≡ true

  abbrev HasIt : ℕ → Type 0
  HasIt n = has_word g key.0 (p.strike n).target ≡ true

  regroup : (a b c d : Bool) → (a && (b && (c && cond d false true))) ≡ ((a && b) && (c && cond d false true))
  regroup true b c d = refl
  regroup false b c d = refl

  -- whether a strike is left, by the three tests
  left_when : (n : ℕ) (a b c : Bool) → names at key.0 l (p.strike n) ≡ a → has_word g key.0 (p.strike n).target ≡ b → is_in n done ≡ c → is_left g p at key.0 l done n ≡ (a && (b && cond c false true))
  left_when n a b c x y z =
      regroup (same_point at (p.strike n).point) (two key.0 l (p.strike n).key.0 (p.strike n).life) (has_word g key.0 (p.strike n).target) (is_in n done)
      ∙ ap (λ (q : Bool). q && (has_word g key.0 (p.strike n).target && cond (is_in n done) false true)) x
      ∙ ap (λ (q : Bool). a && (q && cond (is_in n done) false true)) y
      ∙ ap (λ (q : Bool). a && (b && cond q false true)) z

  left_unnamed : (n : ℕ) → names at key.0 l (p.strike n) ≡ false → is_left g p at key.0 l done n ≡ false
  left_unnamed n x = left_when n false (has_word g key.0 (p.strike n).target) (is_in n done) x refl refl

  left_no_word : (n : ℕ) → Names n → has_word g key.0 (p.strike n).target ≡ false → is_left g p at key.0 l done n ≡ false
  left_no_word n x y = left_when n true false (is_in n done) x y refl

  -- The strike is the next one of the point: the first that is named, is there and has no rank below m.
  pub record IsHit (n : ℕ) (next : Next) : Type 0 where
    pub low : n < p.count
    pub named : Names n
    pub there : HasIt n
    pub target_is : next.target ≡ (p.strike n).target
    pub made_is : next.made ≡ rank p at key.0 l n + 1
    pub unmade : m ≤ rank p at key.0 l n
    pub before : (j : ℕ) → j < n → Names j → HasIt j → rank p at key.0 l j < m

  -- the list of targets and the plan tell the same next strike
  abbrev pub Agree : Option Next → core.Option ℕ → Type 0
  Agree None none = Unit {0}
  Agree None (some n) = ⊥
  Agree (Some next) none = ⊥
  Agree (Some next) (some n) = IsHit n next

  same_by : (o x : Option Next) (c y : core.Option ℕ) → o ≡ x → c ≡ y → Agree x y → Agree o c
  same_by o x c y a b t = subst (λ z. Agree z c) (sym a) (subst (λ z. Agree x z) (sym b) t)

  abbrev words : ℕ
  words = g.notify_words key.0

  -- the next target behind so many that were ranked
  abbrev sought : ℕ → List Strike → Option Next
  sought r xs = next_hit words (r + (m - r)) (drop (m - r) (hits at key l xs))

  abbrev Early : ℕ → Type 0
  Early i = (j : ℕ) → j < i → Names j → HasIt j → rank p at key.0 l j < m

  abbrev Follows : ℕ → List Strike → Type 0
  Follows i xs = (j : ℕ) → j < length xs → p.strike (i + j) ≡ slice_index_or xs j no_strike

  module _ (made_are : (n : ℕ) → n < p.count → Names n → HasIt n → is_in n done ≡ nat_lt (rank p at key.0 l n) m) where
    -- below a place that is no hit, none is left either
    early_more : (i : ℕ) → Early i → (Names i → HasIt i → rank p at key.0 l i < m) → Early (i + 1)
    early_more i early here j low named there = ⊎_elim (λ e. subst (λ z. rank p at key.0 l z < m) (sym e) (here (subst Names e named) (subst HasIt e there))) (λ n. early j (omega (arith, low, n)) named there) (cases_eq j i)

    follows_more : (i : ℕ) (x : Strike) (xs : List Strike) → Follows i (x ∷ xs) → Follows (i + 1) xs
    follows_more i x xs follows j low = ap (λ z. p.strike z) (let a : i + 1 + j ≡ i + suc j = omega arith in a) ∙ follows (suc j) (omega (arith, low))

    -- the four cases of the first strike of a list
    pass_unnamed : (x : Strike) (xs : List Strike) (i : ℕ) → p.strike i ≡ x → names at key.0 l (p.strike i) ≡ false → Agree (sought (rank p at key.0 l (i + 1)) xs) (first_of (is_left g p at key.0 l done) (i + 1) (length xs)) → Agree (sought (rank p at key.0 l i) (x ∷ xs)) (first_of (is_left g p at key.0 l done) i (suc (length xs)))
    pass_unnamed x xs i is off later =
        let r = rank p at key.0 l i in
        same_by _ _ _ _
        (ap (λ ts. next_hit words (r + (m - r)) (drop (m - r) ts)) (hits_step at key l x xs false (ap (names at key.0 l) (sym is) ∙ off)) ∙ ap (λ z. sought z xs) (sym (rank_more p at key.0 l i false off)))
        (first_step (is_left g p at key.0 l done) i (length xs) false (left_unnamed i off)) later

    pass_made : (x : Strike) (xs : List Strike) (i : ℕ) → p.strike i ≡ x → Names i → rank p at key.0 l i < m → is_left g p at key.0 l done i ≡ false → Agree (sought (rank p at key.0 l (i + 1)) xs) (first_of (is_left g p at key.0 l done) (i + 1) (length xs)) → Agree (sought (rank p at key.0 l i) (x ∷ xs)) (first_of (is_left g p at key.0 l done) i (suc (length xs)))
    pass_made x xs i is named below gone later =
        let r = rank p at key.0 l i in
        let a : m - r ≡ suc (m - (r + 1)) = omega (arith, below) in
        let b : r + suc (m - (r + 1)) ≡ (r + 1) + (m - (r + 1)) = omega arith in
        same_by _ _ _ _
        (ap (λ ts. next_hit words (r + (m - r)) (drop (m - r) ts)) (hits_step at key l x xs true (ap (names at key.0 l) (sym is) ∙ named))
        ∙ ap (λ z. next_hit words (r + z) (drop z (x.target ∷ hits at key l xs))) a
        ∙ ap (λ z. next_hit words z (drop (m - (r + 1)) (hits at key l xs))) b
        ∙ ap (λ z. sought z xs) (sym (rank_more p at key.0 l i true named)))
        (first_step (is_left g p at key.0 l done) i (length xs) false gone) later

    -- the list's first target is at the place that is sought
    at_first : (x : Strike) (xs : List Strike) (i : ℕ) (b : Bool) → p.strike i ≡ x → Names i → m ≤ rank p at key.0 l i → has_word g key.0 (p.strike i).target ≡ b → sought (rank p at key.0 l i) (x ∷ xs) ≡ cond b (Some (record { target = x.target; made = rank p at key.0 l i + 1 })) (next_hit words (rank p at key.0 l i + 1) (hits at key l xs))
    at_first x xs i b is named above has =
        let r = rank p at key.0 l i in
        let a : m - r ≡ 0 = omega (arith, above) in
        let c : r + 0 ≡ r = omega arith in
        ap (λ ts. next_hit words (r + (m - r)) (drop (m - r) ts)) (hits_step at key l x xs true (ap (names at key.0 l) (sym is) ∙ named))
        ∙ ap (λ z. next_hit words (r + z) (drop z (x.target ∷ hits at key l xs))) a
        ∙ ap (λ z. next_hit words z (x.target ∷ hits at key l xs)) c
        ∙ ap (λ (q : Bool). cond q (Some (record { target = x.target; made = r + 1 })) (next_hit words (r + 1) (hits at key l xs))) (target_there g key.0 x.target ∙ ap (λ (s : Strike). has_word g key.0 s.target) (sym is) ∙ has)

    pass_absent : (x : Strike) (xs : List Strike) (i : ℕ) → p.strike i ≡ x → Names i → m ≤ rank p at key.0 l i → has_word g key.0 (p.strike i).target ≡ false → Agree (sought (rank p at key.0 l (i + 1)) xs) (first_of (is_left g p at key.0 l done) (i + 1) (length xs)) → Agree (sought (rank p at key.0 l i) (x ∷ xs)) (first_of (is_left g p at key.0 l done) i (suc (length xs)))
    pass_absent x xs i is named above lacks later =
        let r = rank p at key.0 l i in
        let a : m - (r + 1) ≡ 0 = omega (arith, above) in
        let b : r + 1 ≡ (r + 1) + 0 = omega arith in
        same_by _ _ _ _
        (at_first x xs i false is named above lacks
        ∙ ap (λ z. next_hit words z (hits at key l xs)) b
        ∙ ap (λ z. next_hit words ((r + 1) + z) (drop z (hits at key l xs))) (sym a)
        ∙ ap (λ z. sought z xs) (sym (rank_more p at key.0 l i true named)))
        (first_step (is_left g p at key.0 l done) i (length xs) false (left_no_word i named lacks)) later

    meet : (x : Strike) (xs : List Strike) (i : ℕ) → i < p.count → p.strike i ≡ x → Early i → Names i → m ≤ rank p at key.0 l i → HasIt i → Agree (sought (rank p at key.0 l i) (x ∷ xs)) (first_of (is_left g p at key.0 l done) i (suc (length xs)))
    meet x xs i low is early named above has =
        let out : is_in i done ≡ false = made_are i low named has ∙ le-ltb (rank p at key.0 l i) m above in
        same_by _ _ _ _ (at_first x xs i true is named above has) (first_step (is_left g p at key.0 l done) i (length xs) true (left_when i true true false named has out))
        (record { low = low; named = named; there = has; target_is = ap (λ (s : Strike). s.target) (sym is); made_is = refl; unmade = above; before = early })

    gone_below : (i : ℕ) → i < p.count → Names i → rank p at key.0 l i < m → (b : Bool) → has_word g key.0 (p.strike i).target ≡ b → is_left g p at key.0 l done i ≡ false
    gone_below i low named below true has = left_when i true true true named has (made_are i low named has ∙ lt-ltb (rank p at key.0 l i) m below)
    gone_below i low named below false has = left_no_word i named has

    scan : (xs : List Strike) (i : ℕ) → i + length xs ≡ p.count → Follows i xs → Early i → Agree (sought (rank p at key.0 l i) xs) (first_of (is_left g p at key.0 l done) i (length xs))
    scan [] i long follows early = same_by _ _ _ _ (ap (next_hit words (rank p at key.0 l i + (m - rank p at key.0 l i))) (drop_all (m - rank p at key.0 l i) (hits at key l []) (omega arith))) refl tt
    scan (x ∷ xs) i long follows early = by (λ next. scan xs (i + 1) (omega (arith, long)) (follows_more i x xs follows) next) (names at key.0 l (p.strike i)) refl (has_word g key.0 (p.strike i).target) refl
      where
        low : i < p.count
        low = omega (arith, long)

        is : p.strike i ≡ x
        is = ap (λ z. p.strike z) (let a : i ≡ i + 0 = omega arith in a) ∙ follows 0 (omega arith)

        by : (Early (i + 1) → Agree (sought (rank p at key.0 l (i + 1)) xs) (first_of (is_left g p at key.0 l done) (i + 1) (length xs))) → (a : Bool) → names at key.0 l (p.strike i) ≡ a → (b : Bool) → has_word g key.0 (p.strike i).target ≡ b → Agree (sought (rank p at key.0 l i) (x ∷ xs)) (first_of (is_left g p at key.0 l done) i (suc (length xs)))
        by scanned false off b has = pass_unnamed x xs i is off (scanned (early_more i early (λ named there. absurd (let z : true ≡ false = sym named ∙ off in cc))))
        by scanned true named true has = ⊎_elim (λ below. pass_made x xs i is named below (gone_below i low named below true has) (scanned (early_more i early (λ a b. below)))) (λ above. meet x xs i low is early named above has) (cases_lt (rank p at key.0 l i) m)
        by scanned true named false has = let rest = scanned (early_more i early (λ a there. absurd (let z : true ≡ false = sym there ∙ has in cc))) in ⊎_elim (λ below. pass_made x xs i is named below (gone_below i low named below false has) rest) (λ above. pass_absent x xs i is named above has rest) (cases_lt (rank p at key.0 l i) m)

    -- the strikes of the whole plan
    pub agreed : (strikes : List Strike) → length strikes ≡ p.count → ((j : ℕ) → p.strike j ≡ slice_index_or strikes j no_strike) → Agree (next_hit words m (drop m (hits at key l strikes))) (next_strike g p at key.0 l done)
    agreed strikes long are =
        let a : m ≡ 0 + (m - 0) = omega arith in
        let b : m ≡ m - 0 = omega arith in
        same_by _ _ _ _ (ap (λ z. next_hit words z (drop m (hits at key l strikes))) a ∙ ap (λ z. next_hit words (0 + (m - 0)) (drop z (hits at key l strikes))) b)
        (ap (first_of (is_left g p at key.0 l done) 0) (sym long))
        (scan strikes 0 (let c : 0 + length strikes ≡ p.count = omega (arith, long) in c) (λ j low. are (0 + j) ∙ ap (λ z. slice_index_or strikes z no_strike) (let c : 0 + j ≡ j = omega arith in c)) (λ j low named there. absurd (omega (arith, low))))

    -- once the next strike was made, one rank more is made
    pub made_more : (n : ℕ) (next : Next) → IsHit n next → (j : ℕ) → j < p.count → Names j → HasIt j → is_in j (n ∷ done) ≡ nat_lt (rank p at key.0 l j) next.made
    made_more n next hit j low named there = ⊎_elim itself other (cases_eq j n)
      where
        r : ℕ → ℕ
        r z = rank p at key.0 l z

        itself : j ≡ n → is_in j (n ∷ done) ≡ nat_lt (rank p at key.0 l j) next.made
        itself e =
            let a : rank p at key.0 l j ≡ rank p at key.0 l n = ap (rank p at key.0 l) e in
            let b = hit.made_is in
            ap (λ (q : Bool). cond q true (is_in j done)) (eq-eqb j n e) ∙ sym (lt-ltb (rank p at key.0 l j) next.made (omega (arith, a, b)))

        side : (b : Bool) → nat_lt (rank p at key.0 l j) m ≡ b → nat_lt (rank p at key.0 l j) next.made ≡ b → is_in j done ≡ nat_lt (rank p at key.0 l j) next.made
        side b x y = made_are j low named there ∙ x ∙ sym y

        off : (j ≡ n → ⊥) → is_in j done ≡ nat_lt (rank p at key.0 l j) next.made
        off ne = ⊎_elim
            (λ less. let a = hit.before j less named there in let b = hit.unmade in let c = hit.made_is in side true (lt-ltb (rank p at key.0 l j) m a) (lt-ltb (rank p at key.0 l j) next.made (omega (arith, a, b, c))))
            (λ more. let a = rank_behind p at key.0 l n j hit.named (omega (arith, more, ne)) in let b = hit.unmade in let c = hit.made_is in side false (le-ltb (rank p at key.0 l j) m (omega (arith, a, b))) (le-ltb (rank p at key.0 l j) next.made (omega (arith, a, c))))
            (cases_lt j n)

        other : (j ≡ n → ⊥) → is_in j (n ∷ done) ≡ nat_lt (rank p at key.0 l j) next.made
        other ne = ap (λ (q : Bool). cond q true (is_in j done)) (ne_eqb j n ne) ∙ off ne
