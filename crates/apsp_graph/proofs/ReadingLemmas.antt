-- What a reader's answer means for reading, case by case.
use Rattle.std.proofs.Common.{◌≡◌, ◌≢◌, ℕ, zero, suc, ◌+◌, ◌-◌, ◌<◌, ◌≤◌, List, [], ◌∷◌, ◌++◌, map, Option, Some, None, Result, Ok, Err, true, false, cond, eqb, refl, ap, sym, ◌∙◌, subst, arith, append_assoc, inl, inr}
use Rattle.std.specs.Prelude.{codes}
use Rattle.std.specs.Str.{bytes_eq}
use Rattle.std.specs.Option.{option_map}
use Rattle.std.proofs.lemmas.Bool.{le-leb, lt-leb, eq-eqb, ne_eqb, cases_lt}
use Rattle.std.proofs.lemmas.List.{append-nil}
use Rattle.apsp_graph.specs.declared.fault.MatrixFault.{MatrixFault}
use Rattle.apsp_graph.specs.declared.fault.MatrixFault.TheVariants as faults
use Rattle.apsp_graph.specs.Lines.{lines_of, words_of}
use Rattle.apsp_graph.specs.Numbers.{number_of, capped}
use Rattle.graph_model.specs.declared.plan.Strike.{Strike}
use Rattle.path_tasks.specs.Keys.{task_total}
use Rattle.path_tasks.specs.Paths.{tiles_of}
use Rattle.apsp_graph.specs.Strikes.{strike_of}
use Rattle.apsp_graph.specs.Matrices.{Words, Matrix, is_size, top_of}
use Rattle.apsp_graph.specs.Reading.{◌>>=◌, Fails, weight_of, row_from, rows_from, strikes_from, head_of, body_of, reading}
use Rattle.apsp_graph.specs.Steps.{with_front, with_rows, capped_head}

-- ---- a number under the cap
pub record IsCapped (read : Option ℕ) (found : ℕ) : Type 0 where
  pub number : ℕ
  pub is : read ≡ Some number
  pub cap : found ≡ capped number

pub some_number : (read : Option ℕ) (found : ℕ) → Some found ≡ option_map capped read → IsCapped read found
some_number None found e = absurd (cc)
some_number (Some v) found e = record { number = v; is = refl; cap = cc }

pub no_number : (read : Option ℕ) → None ≡ option_map capped read → read ≡ None
no_number None e = refl
no_number (Some v) e = absurd (cc)

-- ---- an item
pub weight_dash : (line : ℕ) (w : List ℕ) → bytes_eq w (codes "-") ≡ true → weight_of line w ≡ Ok None
unfolding weight_of
weight_dash line w e = rw e refl

pub weight_none : (line : ℕ) (w : List ℕ) → bytes_eq w (codes "-") ≡ false → number_of w ≡ None → weight_of line w ≡ Err (faults.Line line)
unfolding weight_of
weight_none line w e n = rw (e, n) refl

pub weight_heavy : (line v : ℕ) (w : List ℕ) → bytes_eq w (codes "-") ≡ false → number_of w ≡ Some v → 2147483647 < v → weight_of line w ≡ Err (faults.Weight line)
unfolding weight_of
weight_heavy line v w e n lt = rw (e, n, lt-leb v 2147483647 lt) refl

pub weight_some : (line v : ℕ) (w : List ℕ) → bytes_eq w (codes "-") ≡ false → number_of w ≡ Some v → v ≤ 2147483647 → weight_of line w ≡ Ok (Some v)
unfolding weight_of
weight_some line v w e n le = rw (e, n, le-leb v 2147483647 le) refl

-- ---- a row, item by item
pub on_diagonal : (i j : ℕ) (x v : Option ℕ) → i ≡ j → v ≡ Some 0 → v ≡ cond (eqb i j) (Some 0) x
on_diagonal i j x v e h = rw (eq-eqb i j e) h

pub off_diagonal : (i j : ℕ) (x v : Option ℕ) → i ≢ j → v ≡ x → v ≡ cond (eqb i j) (Some 0) x
off_diagonal i j x v ne h = rw (ne_eqb i j ne) h

pub row_done : (line i j n : ℕ) (ws : Words) → n ≤ j → ws ≡ [] → row_from line i j (n - j) ws ≡ Ok []
unfolding row_from
row_done line i j n ws le e = let k : n - j ≡ 0 = omega arith in rw (k, e) refl

pub row_longer : (line i j n : ℕ) (w : List ℕ) (ws rest : Words) → n ≤ j → ws ≡ w ∷ rest → row_from line i j (n - j) ws ≡ Err (faults.Line line)
unfolding row_from
row_longer line i j n w ws rest le e = let k : n - j ≡ 0 = omega arith in rw (k, e) refl

pub row_shorter : (line i j n : ℕ) (ws : Words) → j < n → ws ≡ [] → row_from line i j (n - j) ws ≡ Err (faults.Line line)
unfolding row_from
row_shorter line i j n ws lt e = let k : n - j ≡ suc (n - (j + 1)) = omega arith in rw (k, e) refl

pub row_fault : (line i j n : ℕ) (w : List ℕ) (ws rest : Words) (fault : MatrixFault) → j < n → ws ≡ w ∷ rest → weight_of line w ≡ Err fault → row_from line i j (n - j) ws ≡ Err fault
unfolding row_from
row_fault line i j n w ws rest fault lt e h = let k : n - j ≡ suc (n - (j + 1)) = omega arith in rw (k, e, h) refl

pub row_step : (line i j n : ℕ) (w : List ℕ) (ws rest : Words) (x : Option ℕ) → j < n → ws ≡ w ∷ rest → weight_of line w ≡ Ok x
    → row_from line i j (n - j) ws ≡ (row_from line i (j + 1) (n - (j + 1)) rest >>= λ xs. Ok (cond (eqb i j) (Some 0) x ∷ xs))
unfolding row_from
row_step line i j n w ws rest x lt e h = let k : n - j ≡ suc (n - (j + 1)) = omega arith in rw (k, e, h) refl

regroup : {A : Type 0} (front : List A) (x : A) (read : Result (List A) MatrixFault) → with_front front (read >>= λ xs. Ok (x ∷ xs)) ≡ with_front (front ++ x ∷ []) read
regroup front x (Ok xs) = ap Ok (simp append_assoc)
regroup front x (Err e) = refl

-- what a loop over the items keeps: read so far, and still to be read
pub row_goes_on : (line i j n : ℕ) (w : List ℕ) (ws rest : Words) (x : Option ℕ) (front next : List (Option ℕ)) (total : Result (List (Option ℕ)) MatrixFault) → j < n → ws ≡ w ∷ rest → weight_of line w ≡ Ok x
    → next ≡ front ++ cond (eqb i j) (Some 0) x ∷ []
    → with_front front (row_from line i j (n - j) ws) ≡ total → with_front next (row_from line i (j + 1) (n - (j + 1)) rest) ≡ total
row_goes_on line i j n w ws rest x front next total lt e h is so_far =
    ap (λ l. with_front l (row_from line i (j + 1) (n - (j + 1)) rest)) is
    ∙ sym (regroup front (cond (eqb i j) (Some 0) x) (row_from line i (j + 1) (n - (j + 1)) rest))
    ∙ ap (with_front front) (sym (row_step line i j n w ws rest x lt e h))
    ∙ so_far

-- a fault ends it
pub stopped : {A : Type 0} (front : List A) (read total : Result (List A) MatrixFault) (fault : MatrixFault) → read ≡ Err fault → with_front front read ≡ total → total ≡ Err fault
stopped front read total fault e so_far = sym so_far ∙ ap (with_front front) e

pub finished : {A : Type 0} (front : List A) (read total : Result (List A) MatrixFault) → read ≡ Ok [] → with_front front read ≡ total → total ≡ Ok front
finished front read total e so_far = sym so_far ∙ ap (with_front front) e ∙ ap Ok (append-nil front)

-- a failed call's answer, passed on
pub passed : {Y Z : Type 0} (e : MatrixFault) (read : Result Y MatrixFault) (total : Result Z MatrixFault) → ((fault : MatrixFault) → read ≡ Err fault → total ≡ Err fault) → Fails e read → Fails e total
passed faults.OutOfMemory read total h f = tt
passed faults.Head read total h f = h faults.Head f
passed faults.Size read total h f = h faults.Size f
passed (faults.Line l) read total h f = h (faults.Line l) f
passed (faults.Weight l) read total h f = h (faults.Weight l) f
passed (faults.Fault l) read total h f = h (faults.Fault l) f

-- ---- the lines that are left
pub lines_next : (rest after : List (List ℕ)) (l : List ℕ) → rest ≡ l ∷ after → map words_of rest ≡ words_of l ∷ map words_of after
lines_next rest after l e = ap (map words_of) e

pub lines_end : (rest : List (List ℕ)) → rest ≡ [] → map words_of rest ≡ []
lines_end rest e = ap (map words_of) e

-- ---- rows
pub front_fault : {A : Type 0} (front : List A) (read : Result (List A) MatrixFault) (fault : MatrixFault) → with_front front read ≡ Err fault → read ≡ Err fault
front_fault front (Ok xs) fault e = absurd (cc)
front_fault front (Err e') fault e = cc

pub rows_step : (n i : ℕ) (l : Words) (ls rest : List Words) → i < n → ls ≡ l ∷ rest
    → rows_from n i (n - i) ls ≡ (row_from (i + 2) i 0 n l >>= λ xs. rows_from n (i + 1) (n - (i + 1)) rest >>= λ r. Ok (xs ++ r.0, r.1))
unfolding rows_from
rows_step n i l ls rest lt e = let k : n - i ≡ suc (n - (i + 1)) = omega arith in rw (k, e) refl

pub rows_missing : (n i : ℕ) (ls : List Words) → i < n → ls ≡ [] → rows_from n i (n - i) ls ≡ Err (faults.Line (i + 2))
unfolding rows_from
rows_missing n i ls lt e = let k : n - i ≡ suc (n - (i + 1)) = omega arith in rw (k, e) refl

rows_none : (n i : ℕ) (ls : List Words) → n ≤ i → rows_from n i (n - i) ls ≡ Ok ([], ls)
unfolding rows_from
rows_none n i ls le = let k : n - i ≡ 0 = omega arith in rw k refl

put_on : (front next xs : List (Option ℕ)) (read : Result (List (Option ℕ) × List Words) MatrixFault) → front ++ xs ≡ next
    → with_rows front (read >>= λ r. Ok (xs ++ r.0, r.1)) ≡ with_rows next read
put_on front next xs (Ok q) e = ap (λ (l : List (Option ℕ)). Ok (l, q.1)) (sym (append_assoc front xs q.0) ∙ ap (λ l. l ++ q.0) e)
put_on front next xs (Err f) e = refl

join_rows : (front next : List (Option ℕ)) (row : Result (List (Option ℕ)) MatrixFault) (read : Result (List (Option ℕ) × List Words) MatrixFault) → with_front front row ≡ Ok next
    → with_rows front (row >>= λ xs. read >>= λ r. Ok (xs ++ r.0, r.1)) ≡ with_rows next read
join_rows front next (Ok xs) read h = put_on front next xs read (cc)
join_rows front next (Err f) read h = absurd (cc)

pub rows_go_on : (n i line : ℕ) (l : Words) (ls rest : List Words) (front next : List (Option ℕ)) (total : Result (List (Option ℕ) × List Words) MatrixFault) → i < n → line ≡ i + 2 → ls ≡ l ∷ rest
    → with_front front (row_from line i 0 n l) ≡ Ok next
    → with_rows front (rows_from n i (n - i) ls) ≡ total → with_rows next (rows_from n (i + 1) (n - (i + 1)) rest) ≡ total
rows_go_on n i line l ls rest front next total lt at e h so_far =
    sym (join_rows front next (row_from (i + 2) i 0 n l) (rows_from n (i + 1) (n - (i + 1)) rest) (subst (λ v. with_front front (row_from v i 0 n l) ≡ Ok next) at h))
    ∙ ap (with_rows front) (sym (rows_step n i l ls rest lt e))
    ∙ so_far

pub rows_fault : (n i line : ℕ) (l : Words) (ls rest : List Words) (front : List (Option ℕ)) (fault : MatrixFault) (total : Result (List (Option ℕ) × List Words) MatrixFault) → i < n → line ≡ i + 2 → ls ≡ l ∷ rest
    → with_front front (row_from line i 0 n l) ≡ Err fault
    → with_rows front (rows_from n i (n - i) ls) ≡ total → total ≡ Err fault
rows_fault n i line l ls rest front fault total lt at e h so_far =
    let bad : row_from (i + 2) i 0 n l ≡ Err fault = front_fault front _ fault (subst (λ v. with_front front (row_from v i 0 n l) ≡ Err fault) at h) in
    let all : rows_from n i (n - i) ls ≡ Err fault = rows_step n i l ls rest lt e ∙ ap (λ (x : Result (List (Option ℕ)) MatrixFault). x >>= λ xs. rows_from n (i + 1) (n - (i + 1)) rest >>= λ r. Ok (xs ++ r.0, r.1)) bad in
    sym so_far ∙ ap (with_rows front) all

pub rows_end : (n i line : ℕ) (ls : List Words) (front : List (Option ℕ)) (total : Result (List (Option ℕ) × List Words) MatrixFault) → i < n → line ≡ i + 2 → ls ≡ []
    → with_rows front (rows_from n i (n - i) ls) ≡ total → total ≡ Err (faults.Line line)
rows_end n i line ls front total lt at e so_far = sym so_far ∙ ap (with_rows front) (rows_missing n i ls lt e) ∙ ap (λ v. Err (faults.Line v)) (sym at)

pub rows_done : (n i : ℕ) (ls : List Words) (front : List (Option ℕ)) (total : Result (List (Option ℕ) × List Words) MatrixFault) → n ≤ i
    → with_rows front (rows_from n i (n - i) ls) ≡ total → total ≡ Ok (front, ls)
rows_done n i ls front total le so_far = sym so_far ∙ ap (with_rows front) (rows_none n i ls le) ∙ ap (λ (l : List (Option ℕ)). Ok (l, ls)) (append-nil front)

-- ---- strikes
pub strikes_skip : (top line room : ℕ) (l : Words) (ls rest : List Words) → ls ≡ l ∷ rest → l ≡ [] → strikes_from top line room ls ≡ strikes_from top (line + 1) room rest
unfolding strikes_from
strikes_skip top line room l ls rest e h = rw (e, h) refl

pub strikes_none : (top line room : ℕ) (ls : List Words) → ls ≡ [] → strikes_from top line room ls ≡ Ok []
unfolding strikes_from
strikes_none top line room ls e = rw e refl

pub strikes_bad : (top line room : ℕ) (w : List ℕ) (l ws : Words) (ls rest : List Words) → ls ≡ l ∷ rest → l ≡ w ∷ ws → None ≡ strike_of top l → strikes_from top line room ls ≡ Err (faults.Fault line)
unfolding strikes_from
strikes_bad top line zero w l ws ls rest e h k = rw (e, h) refl
strikes_bad top line (suc room) w l ws ls rest e h k = let k' : strike_of top (w ∷ ws) ≡ None = ap (strike_of top) (sym h) ∙ sym k in rw (e, h, k') refl

pub strikes_full : (top line room : ℕ) (w : List ℕ) (l ws : Words) (ls rest : List Words) → ls ≡ l ∷ rest → l ≡ w ∷ ws → room ≡ 0 → strikes_from top line room ls ≡ Err (faults.Fault line)
unfolding strikes_from
strikes_full top line room w l ws ls rest e h k = rw (e, h, k) refl

pub strikes_step : (top line room less : ℕ) (w : List ℕ) (l ws : Words) (ls rest : List Words) (s : Strike) → ls ≡ l ∷ rest → l ≡ w ∷ ws → room ≡ suc less → Some s ≡ strike_of top l
    → strikes_from top line room ls ≡ (strikes_from top (line + 1) less rest >>= λ ss. Ok (s ∷ ss))
unfolding strikes_from
strikes_step top line room less w l ws ls rest s e h r k = let k' : strike_of top (w ∷ ws) ≡ Some s = ap (strike_of top) (sym h) ∙ sym k in rw (e, h, r, k') refl

pub strikes_go_on : (top line room less : ℕ) (w : List ℕ) (l ws : Words) (ls rest : List Words) (s : Strike) (front next : List Strike) (total : Result (List Strike) MatrixFault)
    → ls ≡ l ∷ rest → l ≡ w ∷ ws → room ≡ suc less → Some s ≡ strike_of top l → next ≡ front ++ s ∷ []
    → with_front front (strikes_from top line room ls) ≡ total → with_front next (strikes_from top (line + 1) less rest) ≡ total
strikes_go_on top line room less w l ws ls rest s front next total e h r k is so_far =
    ap (λ x. with_front x (strikes_from top (line + 1) less rest)) is
    ∙ sym (regroup front s (strikes_from top (line + 1) less rest))
    ∙ ap (with_front front) (sym (strikes_step top line room less w l ws ls rest s e h r k))
    ∙ so_far

-- ---- the whole
pub from_nothing : (read : Result (List (Option ℕ) × List Words) MatrixFault) → with_rows [] read ≡ read
from_nothing (Ok r) = refl
from_nothing (Err e) = refl

abbrev pub matrix : ℕ → ℕ → List (Option ℕ) → List Strike → Matrix
matrix n side w ss = record { n = n; side = side; weights = w; strikes = ss }

pub body_wrong : (n side : ℕ) (ls : List Words) → is_size n side ≡ false → body_of n side ls ≡ Err faults.Size
unfolding body_of
body_wrong n side ls h = rw h refl

pub body_rows : (n side : ℕ) (ls : List Words) (fault : MatrixFault) → is_size n side ≡ true → rows_from n 0 n ls ≡ Err fault → body_of n side ls ≡ Err fault
unfolding body_of
body_rows n side ls fault h r = rw (h, r) refl

pub body_strikes : (n side : ℕ) (ls : List Words) (rows : List (Option ℕ)) (rest : List Words) (fault : MatrixFault) → is_size n side ≡ true → rows_from n 0 n ls ≡ Ok (rows, rest)
    → strikes_from (top_of n side) (n + 2) 4096 rest ≡ Err fault → body_of n side ls ≡ Err fault
unfolding body_of
body_strikes n side ls rows rest fault h r s = rw (h, r, s) refl

pub body_is : (n side : ℕ) (ls : List Words) (rows : List (Option ℕ)) (rest : List Words) (ss : List Strike) → is_size n side ≡ true → rows_from n 0 n ls ≡ Ok (rows, rest)
    → strikes_from (top_of n side) (n + 2) 4096 rest ≡ Ok ss → body_of n side ls ≡ Ok (record { n = n; side = side; weights = rows; strikes = ss })
unfolding body_of
body_is n side ls rows rest ss h r s = rw (h, r, s) refl

too_many : (n side : ℕ) → 512 < n → is_size n side ≡ false
unfolding is_size
too_many n side h = rw (lt-leb n 512 h) refl

too_wide : (n side : ℕ) → n ≤ 512 → 32 < side → is_size n side ≡ false
unfolding is_size
too_wide n side h k = rw (le-leb n 512 h, lt-leb side 32 k) refl

pub body_capped : (n side : ℕ) (ls : List Words) → body_of (capped n) (capped side) ls ≡ body_of n side ls
body_capped n side ls = elim (cases_lt 512 n) [
  | inl many ↦ body_wrong (capped n) (capped side) ls (too_many (capped n) (capped side) (omega arith)) ∙ sym (body_wrong n side ls (too_many n side many))
  | inr few ↦
      let e : capped n ≡ n = omega arith in
      elim (cases_lt 32 side) [
        | inl wide ↦ body_wrong (capped n) (capped side) ls (too_wide (capped n) (capped side) (omega arith) (omega arith)) ∙ sym (body_wrong n side ls (too_wide n side few wide))
        | inr narrow ↦ let f : capped side ≡ side = omega arith in ap (λ v. body_of v (capped side) ls) e ∙ ap (λ v. body_of n v ls) f
      ]
]

abbrev on_body : ((ℕ × ℕ) × List Words) → Result Matrix MatrixFault
on_body h = body_of h.0.0 h.0.1 h.1

head_fault : (read : Result ((ℕ × ℕ) × List Words) MatrixFault) (fault : MatrixFault) → capped_head read ≡ Err fault → (read >>= on_body) ≡ Err fault
head_fault (Ok h) fault e = absurd (cc)
head_fault (Err f) fault e = cc

head_body : (read : Result ((ℕ × ℕ) × List Words) MatrixFault) (n side : ℕ) (ls : List Words) → capped_head read ≡ Ok ((n, side), ls) → (read >>= on_body) ≡ body_of n side ls
head_body (Ok h) n side ls e =
    let same : ((capped h.0.0, capped h.0.1), h.1) ≡ ((n, side), ls) = cc in
    sym (body_capped h.0.0 h.0.1 h.1) ∙ ap on_body same
head_body (Err f) n side ls e = absurd (cc)

pub reading_head : (text : List ℕ) (fault : MatrixFault) → capped_head (head_of (map words_of (lines_of text))) ≡ Err fault → reading text ≡ Err fault
unfolding reading
reading_head text fault h = head_fault (head_of (map words_of (lines_of text))) fault h

pub reading_body : (text : List ℕ) (n side : ℕ) (ls : List Words) → capped_head (head_of (map words_of (lines_of text))) ≡ Ok ((n, side), ls) → reading text ≡ body_of n side ls
unfolding reading
reading_body text n side ls h = head_body (head_of (map words_of (lines_of text))) n side ls h

pub rows_of_new : (n m : ℕ) (front : List (Option ℕ)) (ls : List Words) (x : Result (List (Option ℕ) × List Words) MatrixFault) → front ≡ [] → m ≡ n → with_rows front (rows_from m 0 m ls) ≡ x → rows_from n 0 n ls ≡ x
rows_of_new n m front ls x e f h =
    ap (λ v. rows_from v 0 v ls) (sym f) ∙ sym (from_nothing (rows_from m 0 m ls)) ∙ ap (λ l. with_rows l (rows_from m 0 m ls)) (sym e) ∙ h

pub strikes_at : (n side t top line total from : ℕ) (ls : List Words) (x : Result (List Strike) MatrixFault) → t ≡ tiles_of n side → total ≡ task_total t → top ≡ total - 1 → line ≡ from + 2 → from ≡ n
    → strikes_from top line 4096 ls ≡ x → strikes_from (top_of n side) (n + 2) 4096 ls ≡ x
strikes_at n side t top line total from ls x e f g h k r =
    let same : task_total t ≡ task_total (tiles_of n side) = ap task_total e in
    let a : top_of n side ≡ top = omega (arith, same, f, g) in
    let b : n + 2 ≡ line = omega (arith, h, k) in
    ap (λ v. strikes_from v (n + 2) 4096 ls) a ∙ ap (λ v. strikes_from top v 4096 ls) b ∙ r

pub same_matrix : (n side n' side' : ℕ) (w w' : List (Option ℕ)) (ss : List Strike) → n ≡ n' → side ≡ side' → w ≡ w' → matrix n side w ss ≡ matrix n' side' w' ss
same_matrix n side n' side' w w' ss a b c = ap (λ v. matrix v side w ss) a ∙ ap (λ v. matrix n' v w ss) b ∙ ap (λ v. matrix n' side' v ss) c
