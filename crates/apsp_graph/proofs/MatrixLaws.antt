-- What reading gives is the matrix that the text stands for, and the other way round.
use Rattle.std.proofs.Common.{◌≡◌, ◌⊎◌, ℕ, zero, suc, ◌+◌, ◌≤◌, List, [], ◌∷◌, ◌++◌, length, map, Option, Some, None, Result, Ok, Err, Bool, true, false, cond, eqb, refl, ap, sym, ◌∙◌, subst, arith, inl, inr}
use Rattle.std.specs.Prelude.{codes}
use Rattle.std.specs.Str.{bytes_eq}
use Rattle.std.specs.Result.{IfOk}
use Rattle.std.proofs.lemmas.Bool.{cases_lt}
use Rattle.std.proofs.lemmas.Slice.Eq.{bytes_eq-Decides}
use Rattle.graph_model.specs.declared.plan.Strike.{Strike}
use Rattle.apsp_graph.specs.declared.fault.MatrixFault.{MatrixFault}
use Rattle.apsp_graph.specs.declared.fault.MatrixFault.TheVariants as faults
use Rattle.apsp_graph.specs.Lines.{lines_of, words_of}
use Rattle.apsp_graph.specs.Numbers.{number_of, number_after}
use Rattle.apsp_graph.specs.Strikes.{strike_of}
use Rattle.apsp_graph.specs.Matrices.{Words, Matrix, is_size, top_of, IsWeight, IsRow, AreRows, AreStrikes, IsMatrix}
use Rattle.apsp_graph.specs.Matrices as matrices
use Rattle.apsp_graph.specs.Reading.{◌>>=◌, Gives, weight_of, row_from, rows_from, strikes_from, both, sizes_of, above, head_of, body_of, reading}
use Rattle.apsp_graph.proofs.ReadingLemmas.{weight_dash, weight_none, weight_heavy, weight_some, body_is, strikes_bad, strikes_step}

-- ---- cases
true_or_false : (b : Bool) → (b ≡ true) ⊎ (b ≡ false)
true_or_false true = inl refl
true_or_false false = inr refl

none_or_some : {A : Type 0} (o : Option A) → (o ≡ None) ⊎ ((v : A) × (o ≡ Some v))
none_or_some None = inl refl
none_or_some (Some v) = inr (v, refl)

bind_ok : {A B : Type 0} (read : Result A MatrixFault) (f : A → Result B MatrixFault) (y : B) → (read >>= f) ≡ Ok y → (x : A) × (read ≡ Ok x) × (f x ≡ Ok y)
bind_ok (Ok x) f y e = (x, refl, e)
bind_ok (Err fault) f y e = absurd (cc)

-- ---- items
weight_sound : (line : ℕ) (w : List ℕ) (x : Option ℕ) → weight_of line w ≡ Ok x → IsWeight w x
weight_sound line w x e = elim (true_or_false (bytes_eq w (codes "-"))) [
  | inl dash ↦
      let is : w ≡ 45 ∷ [] = (bytes_eq-Decides w (codes "-")).0 dash in
      let d = weight_dash line w dash in
      let none : x ≡ None = cc in
      subst (λ v. IsWeight v x) (sym is) (subst (IsWeight (45 ∷ [])) (sym none) matrices.none)
  | inr other ↦ elim (none_or_some (number_of w)) [
    | inl n ↦ let d = weight_none line w other n in absurd (cc)
    | inr found ↦ elim (cases_lt 2147483647 found.0) [
      | inl heavy ↦ let d = weight_heavy line found.0 w other found.1 heavy in absurd (cc)
      | inr light ↦
          let d = weight_some line found.0 w other found.1 light in
          let some : x ≡ Some found.0 = cc in
          subst (IsWeight w) (sym some) (matrices.some found.1 light)
    ]
  ]
]

dash_is_none : (v : ℕ) → number_of (45 ∷ []) ≡ Some v → ⊥
unfolding number_of number_after
dash_is_none v e = cc

no_dash : (w : List ℕ) (v : ℕ) → number_of w ≡ Some v → bytes_eq w (codes "-") ≡ false
unfolding number_of number_after
no_dash w v e = elim (true_or_false (bytes_eq w (codes "-"))) [
  | inl dash ↦
      let is : w ≡ 45 ∷ [] = (bytes_eq-Decides w (codes "-")).0 dash in
      let none : number_of (45 ∷ []) ≡ Some v = ap number_of (sym is) ∙ e in
      absurd (dash_is_none v none)
  | inr other ↦ other
]

weight_again : (line : ℕ) (w : List ℕ) (x : Option ℕ) → IsWeight w x → weight_of line w ≡ Ok x
weight_again line w x matrices.none = weight_dash line (45 ∷ []) refl
weight_again line w x (matrices.some {v = v} e le) = weight_some line v w (no_dash w v e) e le

-- ---- rows
row_sound : (line i j k : ℕ) (ws : Words) (xs : List (Option ℕ)) → row_from line i j k ws ≡ Ok xs → IsRow i j ws xs × (length ws ≡ k)
unfolding row_from
row_sound line i j zero [] xs e = let none : xs ≡ [] = cc in (subst (IsRow i j []) (sym none) matrices.IsRow.end, refl)
row_sound line i j zero (w ∷ ws) xs e = absurd (cc)
row_sound line i j (suc k) [] xs e = absurd (cc)
row_sound line i j (suc k) (w ∷ ws) xs e =
    let first = bind_ok (weight_of line w) _ xs e in
    let rest = bind_ok (row_from line i (j + 1) k ws) _ xs first.2 in
    let is = row_sound line i (j + 1) k ws rest.0 rest.1 in
    let whole : xs ≡ cond (eqb i j) (Some 0) first.0 ∷ rest.0 = let h = rest.2 in cc in
    let count = is.1 in
    (subst (IsRow i j (w ∷ ws)) (sym whole) (matrices.item (weight_sound line w first.0 first.1) is.0), omega (arith, count))

row_again : (line i j : ℕ) (ws : Words) (xs : List (Option ℕ)) → IsRow i j ws xs → row_from line i j (length ws) ws ≡ Ok xs
unfolding row_from
row_again line i j ws xs matrices.IsRow.end = refl
row_again line i j ws xs (matrices.item {w = w} {ws = ws'} {x = x} {xs = xs'} first rest) =
    let a = weight_again line w x first in
    let b = row_again line i (j + 1) ws' xs' rest in
    rw (a, b) refl

abbrev pub Parts : ℕ → ℕ → ℕ → List Words → List (Option ℕ) → List Words → Type 0
Parts n i k ls ws rest = (rows : List Words) × (ls ≡ rows ++ rest) × AreRows n i rows ws × (length rows ≡ k)

rows_sound : (n i k : ℕ) (ls : List Words) (ws : List (Option ℕ)) (rest : List Words) → rows_from n i k ls ≡ Ok (ws, rest) → Parts n i k ls ws rest
unfolding rows_from
rows_sound n i zero ls ws rest e =
    let same : (ws, rest) ≡ ([], ls) = cc in
    let none : ws ≡ [] = ap (λ (r : List (Option ℕ) × List Words). r.0) same in
    let all : rest ≡ ls = ap (λ (r : List (Option ℕ) × List Words). r.1) same in
    ([], sym all, subst (AreRows n i []) (sym none) matrices.AreRows.end, refl)
rows_sound n i (suc k) [] ws rest e = absurd (cc)
rows_sound n i (suc k) (l ∷ ls) ws rest e =
    let first = bind_ok (row_from (i + 2) i 0 n l) _ (ws, rest) e in
    let more = bind_ok (rows_from n (i + 1) k ls) _ (ws, rest) first.2 in
    let is = row_sound (i + 2) i 0 n l first.0 first.1 in
    let tail = rows_sound n (i + 1) k ls more.0.0 more.0.1 more.1 in
    let same : (first.0 ++ more.0.0, more.0.1) ≡ (ws, rest) = let h = more.2 in cc in
    let whole : first.0 ++ more.0.0 ≡ ws = ap (λ (r : List (Option ℕ) × List Words). r.0) same in
    let left : more.0.1 ≡ rest = ap (λ (r : List (Option ℕ) × List Words). r.1) same in
    (l ∷ tail.0, ap (λ v. l ∷ v) (tail.1 ∙ ap (λ v. tail.0 ++ v) left), subst (AreRows n i (l ∷ tail.0)) whole (matrices.row is.0 is.1 tail.2), ap suc tail.3)

rows_again : (n i : ℕ) (rows : List Words) (ws : List (Option ℕ)) (rest : List Words) → AreRows n i rows ws → rows_from n i (length rows) (rows ++ rest) ≡ Ok (ws, rest)
unfolding rows_from
rows_again n i rows ws rest matrices.AreRows.end = refl
rows_again n i rows ws rest (matrices.row {l = l} {ls = ls} {xs = xs} {ys = ys} first count more) =
    let a : row_from (i + 2) i 0 n l ≡ Ok xs = subst (λ v. row_from (i + 2) i 0 v l ≡ Ok xs) count (row_again (i + 2) i 0 l xs first) in
    let b = rows_again n (i + 1) ls ys rest more in
    rw (a, b) refl

-- ---- strikes
strikes_sound : (top line room : ℕ) (ls : List Words) (ss : List Strike) → strikes_from top line room ls ≡ Ok ss → AreStrikes top ls ss × (length ss ≤ room)
unfolding strikes_from
strikes_sound top line room [] ss e = let none : ss ≡ [] = cc in let count = ap length none in (subst (AreStrikes top []) (sym none) matrices.AreStrikes.end, omega (arith, count))
strikes_sound top line room ([] ∷ ls) ss e = let rest = strikes_sound top (line + 1) room ls ss e in (matrices.skip rest.0, rest.1)
strikes_sound top line zero ((w ∷ ws) ∷ ls) ss e = absurd (cc)
strikes_sound top line (suc room) ((w ∷ ws) ∷ ls) ss e = elim (none_or_some (strike_of top (w ∷ ws))) [
  | inl none ↦
      let bad = strikes_bad top line (suc room) w (w ∷ ws) ws ((w ∷ ws) ∷ ls) ls refl refl (sym none) in
      let h : Err (faults.Fault line) ≡ Ok ss = sym bad ∙ e in
      absurd (cc)
  | inr found ↦
      let step = strikes_step top line (suc room) room w (w ∷ ws) ws ((w ∷ ws) ∷ ls) ls found.0 refl refl refl (sym found.1) in
      let h = sym step ∙ e in
      let more = bind_ok (strikes_from top (line + 1) room ls) _ ss h in
      let rest = strikes_sound top (line + 1) room ls more.0 more.1 in
      let whole : found.0 ∷ more.0 ≡ ss = let k = more.2 in cc in
      let count = rest.1 in
      let size = ap length whole in
      (subst (AreStrikes top ((w ∷ ws) ∷ ls)) whole (matrices.strike found.1 rest.0), omega (arith, count, size))
]

no_words_no_strike : (top : ℕ) (s : Strike) → strike_of top [] ≡ Some s → ⊥
unfolding strike_of
no_words_no_strike top s e = cc

strike_again : (top line room : ℕ) (l : Words) (ls : List Words) (s : Strike) (ss : List Strike) → strike_of top l ≡ Some s → ((line' room' : ℕ) → length ss ≤ room' → strikes_from top line' room' ls ≡ Ok ss) → suc (length ss) ≤ room → strikes_from top line room (l ∷ ls) ≡ Ok (s ∷ ss)
unfolding strikes_from
strike_again top line room [] ls s ss e more le = absurd (no_words_no_strike top s e)
strike_again top line zero (w ∷ ws) ls s ss e more le = absurd (omega arith)
strike_again top line (suc room) (w ∷ ws) ls s ss e more le =
    strikes_step top line (suc room) room w (w ∷ ws) ws ((w ∷ ws) ∷ ls) ls s refl refl refl (sym e)
    ∙ ap (λ (r : Result (List Strike) MatrixFault). r >>= λ x. Ok (s ∷ x)) (more (line + 1) room (omega arith))

strikes_again : (top line room : ℕ) (ls : List Words) (ss : List Strike) → AreStrikes top ls ss → length ss ≤ room → strikes_from top line room ls ≡ Ok ss
unfolding strikes_from
strikes_again top line room ls ss matrices.AreStrikes.end le = refl
strikes_again top line room ls ss (matrices.skip {ls = rest} more) le = strikes_again top (line + 1) room rest ss more le
strikes_again top line room ls ss (matrices.strike {l = l} {ls = rest} {s = s} {ss = more'} e more) le = strike_again top line room l rest s more' e (λ line' room' h. strikes_again top line' room' rest more' more h) le

-- ---- the whole
sizes_at : (a b : List ℕ) (x y : Option ℕ) → number_of a ≡ x → number_of b ≡ y → sizes_of (a ∷ b ∷ []) ≡ both x y
unfolding sizes_of
sizes_at a b x y e f = ap (λ v. both v (number_of b)) e ∙ ap (both x) f

head_at : (l : Words) (rest : List Words) (s : Option (ℕ × ℕ)) → sizes_of l ≡ s → head_of (l ∷ rest) ≡ above rest s
unfolding head_of
head_at l rest s e = ap (above rest) e

head_sound : (ls : List Words) (n side : ℕ) (rest : List Words) → head_of ls ≡ Ok ((n, side), rest) → (first : Words) × (ls ≡ first ∷ rest) × ((a : List ℕ) × (b : List ℕ) × (first ≡ a ∷ b ∷ []) × (number_of a ≡ Some n) × (number_of b ≡ Some side))
unfolding head_of sizes_of
head_sound [] n side rest e = absurd (cc)
head_sound ([] ∷ ls) n side rest e = absurd (cc)
head_sound ((a ∷ []) ∷ ls) n side rest e = absurd (cc)
head_sound ((a ∷ b ∷ c ∷ more) ∷ ls) n side rest e = absurd (cc)
head_sound ((a ∷ b ∷ []) ∷ ls) n side rest e = elim (none_or_some (number_of a)) [
  | inl none ↦
      let h : Err faults.Head ≡ Ok ((n, side), rest) = sym (head_at (a ∷ b ∷ []) ls None (sizes_at a b None (number_of b) none refl)) ∙ e in
      absurd (cc)
  | inr x ↦ elim (none_or_some (number_of b)) [
    | inl none ↦
        let h : Err faults.Head ≡ Ok ((n, side), rest) = sym (head_at (a ∷ b ∷ []) ls None (sizes_at a b (Some x.0) None x.1 none)) ∙ e in
        absurd (cc)
    | inr y ↦
        let h : Ok ((x.0, y.0), ls) ≡ Ok ((n, side), rest) = sym (head_at (a ∷ b ∷ []) ls (Some (x.0, y.0)) (sizes_at a b (Some x.0) (Some y.0) x.1 y.1)) ∙ e in
        let same : ((x.0, y.0), ls) ≡ ((n, side), rest) = cc in (
          a ∷ b ∷ [],
          ap (λ (r : (ℕ × ℕ) × List Words). (a ∷ b ∷ []) ∷ r.1) same,
          (a, b, refl, x.1 ∙ ap (λ (r : (ℕ × ℕ) × List Words). Some r.0.0) same, y.1 ∙ ap (λ (r : (ℕ × ℕ) × List Words). Some r.0.1) same),
        )
  ]
]

head_again : (a b : List ℕ) (n side : ℕ) (rest : List Words) → number_of a ≡ Some n → number_of b ≡ Some side → head_of ((a ∷ b ∷ []) ∷ rest) ≡ Ok ((n, side), rest)
head_again a b n side rest e f = head_at (a ∷ b ∷ []) rest (Some (n, side)) (sizes_at a b (Some n) (Some side) e f)

abbrev pub IsBody : ℕ → ℕ → List Words → Matrix → Type 0
IsBody n side ls m = (rows : List Words) × (more : List Words) × (ls ≡ rows ++ more) × (m.n ≡ n) × (m.side ≡ side) × (is_size n side ≡ true) × AreRows n 0 rows m.weights × (length rows ≡ n) × AreStrikes (top_of n side) more m.strikes × (length m.strikes ≤ 4096)

body_sound : (n side : ℕ) (ls : List Words) (m : Matrix) → body_of n side ls ≡ Ok m → IsBody n side ls m
unfolding body_of
body_sound n side ls m e = elim (true_or_false (is_size n side)) [
  | inr wrong ↦ let h = rw wrong at e in absurd (cc)
  | inl right ↦
      let h = rw right at e in
      let r = bind_ok (rows_from n 0 n ls) _ m h in
      let s = bind_ok (strikes_from (top_of n side) (n + 2) 4096 r.0.1) _ m r.2 in
      let rows = rows_sound n 0 n ls r.0.0 r.0.1 r.1 in
      let strikes = strikes_sound (top_of n side) (n + 2) 4096 r.0.1 s.0 s.1 in
      let whole : record { n = n; side = side; weights = r.0.0; strikes = s.0 } ≡ m = let k = s.2 in cc in
      let weights : r.0.0 ≡ m.weights = ap (λ (x : Matrix). x.weights) whole in
      let list : s.0 ≡ m.strikes = ap (λ (x : Matrix). x.strikes) whole in
      (rows.0, r.0.1, rows.1, sym (ap (λ (x : Matrix). x.n) whole), sym (ap (λ (x : Matrix). x.side) whole), right, subst (AreRows n 0 rows.0) weights rows.2, rows.3, subst (AreStrikes (top_of n side) r.0.1) list strikes.0, subst (λ (x : List Strike). length x ≤ 4096) list strikes.1)
]

pub is_matrix : (text : List ℕ) (m : Matrix) → reading text ≡ Ok m → IsMatrix text m
unfolding reading
is_matrix text m e =
    let h = bind_ok (head_of (map words_of (lines_of text))) _ m e in
    let head = head_sound (map words_of (lines_of text)) h.0.0.0 h.0.0.1 h.0.1 h.1 in
    let body = body_sound h.0.0.0 h.0.0.1 h.0.1 m h.2 in
    let n = body.3 in
    let side = body.4 in
    record {
      first = head.0;
      rows = body.0;
      more = body.1;
      lines = head.1 ∙ ap (λ v. head.0 ∷ v) body.2;
      head = (head.2.0, head.2.1, head.2.2, head.2.3 ∙ ap Some (sym n), head.2.4 ∙ ap Some (sym side));
      size = ap (λ v. is_size v m.side) n ∙ ap (is_size h.0.0.0) side ∙ body.5;
      each = subst (λ v. AreRows v 0 body.0 m.weights) (sym n) body.6;
      count = body.7 ∙ sym n;
      strikes = subst (λ v. AreStrikes v body.1 m.strikes) (sym (ap (λ v. top_of v m.side) n ∙ ap (top_of h.0.0.0) side)) body.8;
      few = body.9;
    }

pub is_read : (text : List ℕ) (m : Matrix) → IsMatrix text m → reading text ≡ Ok m
unfolding reading
is_read text m is =
    let head = is.head in
    let lines : map words_of (lines_of text) ≡ (head.0 ∷ head.1 ∷ []) ∷ (is.rows ++ is.more) = is.lines ∙ ap (λ v. v ∷ (is.rows ++ is.more)) head.2 in
    let a = head_again head.0 head.1 m.n m.side (is.rows ++ is.more) head.3 head.4 in
    let rows : rows_from m.n 0 m.n (is.rows ++ is.more) ≡ Ok (m.weights, is.more) = subst (λ v. rows_from m.n 0 v (is.rows ++ is.more) ≡ Ok (m.weights, is.more)) is.count (rows_again m.n 0 is.rows m.weights is.more is.each) in
    let strikes = strikes_again (top_of m.n m.side) (m.n + 2) 4096 is.more m.strikes is.strikes is.few in
    let b = body_is m.n m.side (is.rows ++ is.more) m.weights is.more m.strikes is.size rows strikes in
    rw (lines, a) b

pub found : {X : Type 0} (view : X → Matrix) (text : List ℕ) (result : Result X MatrixFault) → Gives view result (reading text) → IfOk result (λ r. IsMatrix text (view r))
found view text (Ok r) h = is_matrix text (view r) h
found view text (Err e) h = tt
