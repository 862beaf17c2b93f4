-- The first of the late readers.
use Rattle.std.proofs.Common.{◌≡◌, ◌∙◌, ℕ, ◌+◌, ◌<◌, ◌≤◌, min, List, length, ap, sym, subst, arith, Option, Some, None, slice_get, inl, inr, ◌⊎◌, MatchOption}
use Rattle.std.specs.Prelude.{nat_lt}
use Rattle.std.proofs.lemmas.Bool.{cases_lt, cases_Bool, ltb-true, ltb-false}
use Rattle.raw_graph.specs.declared.raw.RawTask.{RawTask}
use Rattle.audit_checks.specs.Faults.{IsLeast}
use Rattle.audit_blocks.specs.declared.readers.Late.{Late}
use Rattle.audit_blocks.specs.Readers.{next_of, IsLateAt, IsLateTo, IsLate, IsLeastOf, lesser_of, IsFirstLate, IsFirstOf, sooner_of}
use Rattle.audit_blocks.proofs.NextLemmas.{some_same, number_same}

least_step : (P Q R : ℕ → Type 0) (o c : Option ℕ) → IsLeastOf P o → IsLeastOf Q c → ((n : ℕ) → P n → R n) → ((n : ℕ) → Q n → R n) → ((n : ℕ) → R n → P n ⊎ Q n)
    → IsLeastOf R (lesser_of o c)
least_step P Q R None None p q f g split = λ n r. elim (split n r) [ inl a ↦ p n a | inr b ↦ q n b ]
least_step P Q R None (Some y) p q f g split = record {
  holds = g y q.holds;
  least = λ m low r. elim (split m r) [ inl a ↦ p m a | inr b ↦ q.least m low b ];
}
least_step P Q R (Some x) None p q f g split = record {
  holds = f x p.holds;
  least = λ m low r. elim (split m r) [ inl a ↦ p.least m low a | inr b ↦ q m b ];
}
least_step P Q R (Some x) (Some y) p q f g split = record {
  holds = elim (cases_lt x y) [
    | inl less ↦ let e : x ≡ min x y = omega arith in subst R e (f x p.holds)
    | inr more ↦ let e : y ≡ min x y = omega arith in subst R e (g y q.holds)
  ];
  least = λ m low r. elim (split m r) [ inl a ↦ p.least m (omega arith) a | inr b ↦ q.least m (omega arith) b ];
}

pub pair_same : (p q : ℕ × ℕ) → Some p ≡ Some q → p ≡ q
pair_same p q e = cc

one_late : (rows : List (List (ℕ × ℕ))) (nexts : List (Option ℕ)) (r j m n : ℕ) → IsLateAt rows nexts r j m → IsLateAt rows nexts r j n → m ≡ n
one_late rows nexts r j m n a b =
    let e : a.pred ≡ b.pred = pair_same a.pred b.pred (sym a.names ∙ b.names) in
    number_same m n (sym a.next ∙ (ap (λ (x : ℕ × ℕ). next_of nexts x.0) e ∙ b.next))

least_at : (rows : List (List (ℕ × ℕ))) (nexts : List (Option ℕ)) (r j : ℕ) (c : Option ℕ)
    → MatchOption c ((w : ℕ) → ¬ IsLateAt rows nexts r j w) (λ w. IsLateAt rows nexts r j w) → IsLeastOf (IsLateAt rows nexts r j) c
least_at rows nexts r j None is = is
least_at rows nexts r j (Some w) is = record { holds = is; least = λ m low late. omega (arith, one_late rows nexts r j m w late is) }

pub late_none : (rows : List (List (ℕ × ℕ))) (nexts : List (Option ℕ)) (r : ℕ) → IsLeastOf (IsLateTo rows nexts r 0) None
late_none rows nexts r = λ w late. omega (arith, late.early)

pub late_more : (rows : List (List (ℕ × ℕ))) (nexts : List (Option ℕ)) (r j : ℕ) (o c : Option ℕ) → IsLeastOf (IsLateTo rows nexts r j) o
    → MatchOption c ((w : ℕ) → ¬ IsLateAt rows nexts r j w) (λ w. IsLateAt rows nexts r j w) → IsLeastOf (IsLateTo rows nexts r (j + 1)) (lesser_of o c)
late_more rows nexts r j o c old new =
    least_step (IsLateTo rows nexts r j) (IsLateAt rows nexts r j) (IsLateTo rows nexts r (j + 1)) o c old (least_at rows nexts r j c new)
    (λ n l. record { place = l.place; early = omega (arith, l.early); late = l.late })
    (λ n l. record { place = j; early = omega arith; late = l })
    (λ n l. elim (cases_lt l.place j) [
      | inl early ↦ inl (record { place = l.place; early = early; late = l.late })
      | inr late ↦ let e : l.place ≡ j = omega (arith, l.early) in inr (subst (λ i. IsLateAt rows nexts r i n) e l.late)
    ])

at_reader : (ts : List RawTask) (rows : List (List (ℕ × ℕ))) (nexts : List (Option ℕ)) (r w : ℕ) (t : RawTask) → slice_get ts r ≡ Some t → IsLate ts rows nexts r w
    → IsLateTo rows nexts r (length t.inputs) w
at_reader ts rows nexts r w t here late =
    let e : late.reader ≡ t = some_same late.reader t (sym late.stands ∙ here) in subst (λ x. IsLateTo rows nexts r (length x.inputs) w) e late.late

-- a late reader among the first r + 1 is among the first r, or is reader r
reader_cases : (ts : List RawTask) (rows : List (List (ℕ × ℕ))) (nexts : List (Option ℕ)) (r : ℕ) (t : RawTask) → slice_get ts r ≡ Some t
    → (s w : ℕ) → s < r + 1 → IsLate ts rows nexts s w → (s < r) ⊎ ((s ≡ r) × IsLateTo rows nexts r (length t.inputs) w)
reader_cases ts rows nexts r t here s w early late = elim (cases_lt s r) [
  | inl less ↦ inl less
  | inr last ↦ let e : s ≡ r = omega arith in inr (e, at_reader ts rows nexts r w t here (subst (λ n. IsLate ts rows nexts n w) e late))
]

least_le : (P : ℕ → Type 0) (m n : ℕ) → IsLeast P m → P n → m ≤ n
least_le P m n is p = elim (cases_lt n m) [ inl less ↦ absurd (is.least n less p) | inr more ↦ more ]

le_cases : (m n : ℕ) → m ≤ n → (m < n) ⊎ (m ≡ n)
le_cases m n le = elim (cases_lt m n) [ inl less ↦ inl less | inr more ↦ inr (omega arith) ]

new_first : (ts : List RawTask) (rows : List (List (ℕ × ℕ))) (nexts : List (Option ℕ)) (r w : ℕ) (t : RawTask) → slice_get ts r ≡ Some t
    → IsLeast (IsLateTo rows nexts r (length t.inputs)) w → ((s u : ℕ) → s < r → IsLate ts rows nexts s u → w < u)
    → IsFirstLate ts rows nexts (r + 1) (record { writer = w; reader = r })
new_first ts rows nexts r w t here is before = record {
  early = omega arith;
  late = record { reader = t; stands = here; late = is.holds };
  least = λ s u early late. elim (reader_cases ts rows nexts r t here s u early late) [
    | inl less ↦ inl (before s u less late)
    | inr last ↦ elim (le_cases w u (least_le (IsLateTo rows nexts r (length t.inputs)) w u is last.1)) [
      | inl less ↦ inl less
      | inr same ↦ inr (same, omega (arith, last.0))
    ]
  ];
}

old_first : (ts : List RawTask) (rows : List (List (ℕ × ℕ))) (nexts : List (Option ℕ)) (r : ℕ) (t : RawTask) (l : Late) → slice_get ts r ≡ Some t
    → IsFirstLate ts rows nexts r l → ((u : ℕ) → IsLateTo rows nexts r (length t.inputs) u → l.writer ≤ u) → IsFirstLate ts rows nexts (r + 1) l
old_first ts rows nexts r t l here is after = record {
  early = omega (arith, is.early);
  late = is.late;
  least = λ s u early late. elim (reader_cases ts rows nexts r t here s u early late) [
    | inl less ↦ is.least s u less late
    | inr last ↦ elim (le_cases l.writer u (after u last.1)) [
      | inl less ↦ inl less
      | inr same ↦ inr (same, omega (arith, last.0, is.early))
    ]
  ];
}

pub first_none : (ts : List RawTask) (rows : List (List (ℕ × ℕ))) (nexts : List (Option ℕ)) → IsFirstOf ts rows nexts 0 None
first_none ts rows nexts = λ r w early late. omega arith

pub first_more : (ts : List RawTask) (rows : List (List (ℕ × ℕ))) (nexts : List (Option ℕ)) (r : ℕ) (t : RawTask) (l : Option Late) (c : Option ℕ) → slice_get ts r ≡ Some t
    → IsFirstOf ts rows nexts r l → IsLeastOf (IsLateTo rows nexts r (length t.inputs)) c → IsFirstOf ts rows nexts (r + 1) (sooner_of l c r)
first_more ts rows nexts r t None None here old new = λ s u early late. elim (reader_cases ts rows nexts r t here s u early late) [
  | inl less ↦ old s u less late
  | inr last ↦ new u last.1
]
first_more ts rows nexts r t (Some l) None here old new = old_first ts rows nexts r t l here old (λ u late. absurd (new u late))
first_more ts rows nexts r t None (Some w) here old new = new_first ts rows nexts r w t here new (λ s u less late. absurd (old s u less late))
first_more ts rows nexts r t (Some l) (Some w) here old new = elim (cases_Bool (nat_lt w l.writer)) [
  | inl e ↦
      let less : w < l.writer = ltb-true w l.writer e in
      rw e (new_first ts rows nexts r w t here new (λ s u early late. elim (old.least s u early late) [ inl a ↦ omega arith | inr a ↦ omega (arith, a.0) ]))
  | inr e ↦
      let more : l.writer ≤ w = ltb-false w l.writer e in
      rw e (old_first ts rows nexts r t l here old (λ u late. omega (arith, least_le (IsLateTo rows nexts r (length t.inputs)) w u new late)))
]
