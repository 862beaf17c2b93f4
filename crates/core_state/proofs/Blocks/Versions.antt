-- What the records say of the versions of a block: a version was written only after the one below it, and after its readers.
use Rattle.std.proofs.Common.{◌≡◌, ◌≢◌, ℕ, zero, suc, ◌+◌, ◌/◌, ◌-◌, ◌<◌, ◌≤◌, Bool, true, false, cond, eqb, List, [], ◌∷◌, ⊎_elim, inl, arith, sym, ap, refl, ◌∙◌, subst}
use mathlib.Core.Logic.{dite}
use native.Mathlib.Decide.{ℕ_discrete, dec_lt}
use Rattle.core_state.specs.Graph.{Setting, Sound, Reached, Reads}
use Rattle.core_state.specs.Counts.{hit, bump, count, noted}
use Rattle.core_state.specs.Tests.{two, is_of, is_computed, is_written, is_version, is_miswritten, is_closed, is_closing, is_replaced}
use Rattle.core_state.specs.Change.{Core, Sums, many}
use Rattle.core_state.specs.Records.{Records}
use Rattle.graph_model.specs.declared.record.Record.{Record}
use Rattle.graph_model.specs.declared.record.Record.TheVariants as record_of
use Rattle.core_state.proofs.Base.Counting.{bump_is, eqb_here, two_here, two_tells}
use Rattle.core_state.proofs.Row.Made.{written_of}

-- an entry that passes a test
pub count_some : {A : Type 0} (p : A → Bool) (xs : List A) → 0 < count p xs → (x : A) × (p x ≡ true) × ((q : A → Bool) → q x ≡ true → 0 < count q xs)
count_some p [] z = absurd (omega (arith, z))
count_some p (x ∷ xs) z = by (count_some p xs) (p x) refl z
  where
    by : (0 < count p xs → (y : _) × (p y ≡ true) × ((q : _ → Bool) → q y ≡ true → 0 < count q xs)) → (b : Bool) → p x ≡ b → 0 < bump b (count p xs) → (y : _) × (p y ≡ true) × ((q : _ → Bool) → q y ≡ true → 0 < count q (x ∷ xs))
    by r true e z = (x, e, λ q f. let a = bump_is (q x) (count q xs) in let b = ap hit f in omega (arith, a, b))
    by r false e z = let o = r z in (o.0, o.1, λ q f. let a = bump_is (q x) (count q xs) in let b = o.2 q f in omega (arith, a, b))

-- each entry that passes one test passes another, or passes it alone
count_split : {A : Type 0} (p q : A → Bool) (xs : List A) → count p xs ≤ count q xs + count (λ x. cond (q x) false (p x)) xs
count_split p q [] = omega arith
count_split p q (x ∷ xs) = let a = bump_is (p x) (count p xs) in let b = bump_is (q x) (count q xs) in let c = bump_is (cond (q x) false (p x)) (count (λ y. cond (q y) false (p y)) xs) in let d = count_split p q xs in let f = by (q x) (p x) in omega (arith, a, b, c, d, f)
  where
    by : (u z : Bool) → hit z ≤ hit u + hit (cond u false z)
    by true true = omega arith
    by true false = omega arith
    by false z = omega arith

module _ (e : Setting) (fit : Sound e) (s : Core) (sums : Sums s) (i : Records e s) where
  -- a record that passes a test, and every test that it passes
  pub many_some : (p : Record → Bool) → 0 < many s p → (x : Record) × (p x ≡ true) × ((q : Record → Bool) → q x ≡ true → 0 < many s q)
  many_some p z = let v = sums.some (noted p) z in let r = count_some p v.0.records v.1 in (r.0, r.1, λ q f. let a = r.2 q f in let b = v.2 (noted q) in omega (arith, a, b))

  WrittenBy : ℕ → ℕ → Type 0
  WrittenBy k l = 0 < many s (is_written k l)

  pub reached_writing : (k l : ℕ) → 0 < many s (is_written k l) → Reached e.graph k
  reached_writing k l z = let r = many_some (is_written k l) z in i.lives.reached k l (r.2 (is_of k l) (same r.0 r.1))
    where
      same : (x : Record) → is_written k l x ≡ true → is_of k l x ≡ true
      same (record_of.Written a m b u) z = z
      same x z = absurd cc

  no_misnamed : (x : Record) → ((q : Record → Bool) → q x ≡ true → 0 < many s q) → is_miswritten e.graph x ≡ true → ⊥
  no_misnamed x tests e' = let a = tests (is_miswritten e.graph) e' in let b = i.computed.written_place in omega (arith, a, b)

  -- who wrote a version is its writer
  pub version_written : (b v : ℕ) → 0 < many s (is_version b v) → (l : ℕ) × (0 < many s (is_written (e.graph.writer b v) l)) × (e.graph.block (e.graph.writer b v) ≡ b) × (e.graph.version (e.graph.writer b v) ≡ v)
  version_written b v z = let r = many_some (is_version b v) z in of r.0 r.1 r.2
    where
      of : (x : Record) → is_version b v x ≡ true → ((q : Record → Bool) → q x ≡ true → 0 < many s q) → (l : ℕ) × (0 < many s (is_written (e.graph.writer b v) l)) × (e.graph.block (e.graph.writer b v) ≡ b) × (e.graph.version (e.graph.writer b v) ≡ v)
      of (record_of.Written a m c u) t tests = ⊎_elim (λ z. absurd cc) (λ z. ⊎_elim
          (λ n. absurd (no_misnamed (record_of.Written a m c u) tests (ap (λ (y : Bool). cond y false true) n)))
          (λ n. let here : 0 < many s (is_written a.0 m) = tests (is_written a.0 m) (two_here a.0 m) in let is : e.graph.writer b v ≡ a.0 = ap (λ y. e.graph.writer y v) (z.1 ∙ sym n.1) ∙ ap (λ y. e.graph.writer (e.graph.block a.0) y) (z.2 ∙ sym n.2) ∙ fit.lawful.written_by a.0 (reached_writing a.0 m here) in
          (m, subst (λ y. 0 < many s (is_written y m)) (sym is) here, ap e.graph.block is ∙ n.1 ∙ sym z.1, ap e.graph.version is ∙ n.2 ∙ sym z.2)) (two_tells (e.graph.block a.0) (e.graph.version a.0) c u)) (two_tells b v c u)
      of x t tests = absurd cc

  -- what a key wrote is its version
  pub writes_version : (k l : ℕ) → 0 < many s (is_written k l) → 0 < many s (is_version (e.graph.block k) (e.graph.version k))
  writes_version k l z = let r = many_some (is_written k l) z in of r.0 r.1 r.2
    where
      of : (x : Record) → is_written k l x ≡ true → ((q : Record → Bool) → q x ≡ true → 0 < many s q) → 0 < many s (is_version (e.graph.block k) (e.graph.version k))
      of (record_of.Written a m c u) t tests = ⊎_elim (λ z. absurd cc) (λ z. ⊎_elim
          (λ n. absurd (no_misnamed (record_of.Written a m c u) tests (ap (λ (y : Bool). cond y false true) n)))
          (λ n. tests (is_version (e.graph.block k) (e.graph.version k)) (subst (λ y. two (e.graph.block y) (e.graph.version y) c u ≡ true) (sym z.1) n.0)) (two_tells (e.graph.block a.0) (e.graph.version a.0) c u)) (two_tells k l a.0 m)
      of x t tests = absurd cc

  -- a result was made only after each predecessor wrote
  pub made_after : (k l j : ℕ) → 0 < many s (is_computed k l) → j < e.graph.places k → (m : ℕ) × (0 < many s (is_written (e.graph.pred k j).task m))
  made_after k l j z low = let p : ℕ = (e.graph.pred k j).task in let q : ℕ = (e.graph.pred k j).port / 40 in
      let c = i.edges.closed k l j low (i.computed.computed_ready k l j z (inl low)) in let r = many_some (is_closing p q) c in of p q r.0 r.1 r.2
    where
      of : (p q : ℕ) (x : Record) → is_closing p q x ≡ true → ((q : Record → Bool) → q x ≡ true → 0 < many s q) → (m : ℕ) × (0 < many s (is_written p m))
      of p q (record_of.Closed a m u) t tests = ⊎_elim (λ z. absurd cc) (λ z. (m, i.computed.closed_written p m q (tests (is_closed p m q) (rw (ap (λ y. eqb p y) (sym z.1) ∙ eqb_here p, eqb_here m, ap (λ y. eqb q y) (sym z.2) ∙ eqb_here q))))) (two_tells p q a.0 u)
      of p q x t tests = absurd cc

  -- a key wrote only after each of its predecessors
  pub written_after : (k l j : ℕ) → 0 < many s (is_written k l) → j < e.graph.places k → (m : ℕ) × (0 < many s (is_written (e.graph.pred k j).task m))
  written_after k l j z low = made_after k l j (i.computed.written_computed k l z) low

  -- a version was written only after the one below it
  pub version_before : (b v : ℕ) → 0 < v → 0 < many s (is_version b (v + 1)) → 0 < many s (is_version b v)
  version_before b v some z = let w = version_written b (v + 1) z in let k : ℕ = e.graph.writer b (v + 1) in let up = (fit.lawful.from_one k (reached_writing k w.0 w.1)).1 in
      let low : v < e.graph.versions b = let a = ap e.graph.versions w.2 in let d = w.3 in omega (arith, up, a, d) in
      let j = fit.lawful.after_writer b v some low in let m = written_after k w.0 j.0 w.1 j.1 in let is = fit.lawful.writes b v some (omega (arith, low)) in
      subst (λ x. 0 < many s (is_version x v)) is.0 (subst (λ x. 0 < many s (is_version (e.graph.block (e.graph.writer b v)) x)) is.1 (writes_version (e.graph.writer b v) m.0 (subst (λ x. 0 < many s (is_written x m.0)) j.2 m.1)))

  pub version_below : (b v d : ℕ) → 0 < v → 0 < many s (is_version b (v + d)) → 0 < many s (is_version b v)
  version_below b v zero some z = subst (λ x. 0 < many s (is_version b x)) (let q : v + zero ≡ v = omega arith in q) z
  version_below b v (suc d) some z = version_below b v d some (version_before b (v + d) (omega (arith, some)) (subst (λ x. 0 < many s (is_version b x)) (let q : v + suc d ≡ v + d + 1 = omega arith in q) z))

  -- before a version is overwritten each other reader has written: with no premise on faults
  pub reader_wrote : (b v k : ℕ) → 0 < v → 0 < many s (is_version b (v + 1)) → k ≢ e.graph.root → Reads e.graph k b v → (l : ℕ) × (0 < many s (is_written k l))
  reader_wrote b v k some z not_root reads = let w = version_written b (v + 1) z in let x : ℕ = e.graph.writer b (v + 1) in let up = (fit.lawful.from_one x (reached_writing x w.0 w.1)).1 in
      let low : v < e.graph.versions b = let a = ap e.graph.versions w.2 in let d = w.3 in omega (arith, up, a, d) in
      ⊎_elim (λ q. (w.0, subst (λ y. 0 < many s (is_written y w.0)) (sym q) w.1)) (λ j. let m = written_after x w.0 j.0 w.1 j.1 in (m.0, subst (λ y. 0 < many s (is_written y m.0)) j.2 m.1)) (fit.lawful.after_readers b v k some low not_root reads)

  -- a version that was written twice was written by one key in two lives, of which one was not the first
  pub written_twice : (b v : ℕ) → 2 ≤ many s (is_version b v) → (l : ℕ) × (0 < many s (is_replaced (e.graph.writer b v) l)) × (e.graph.block (e.graph.writer b v) ≡ b) × (e.graph.version (e.graph.writer b v) ≡ v)
  written_twice b v two_of = let w = version_written b v (omega (arith, two_of)) in let again = written_again b v w.0 two_of in let k : ℕ = e.graph.writer b v in
      let m : ℕ = again.0 in let d = later k w.0 again.0 w.1 again.1 again.2 in (d.0, d.1, w.2, w.3)
    where
      named : (k l : ℕ) → 0 < many s (is_written k l) → (0 < l) × (0 < many s (is_of k l))
      named k l z = let r = many_some (is_written k l) z in let of = r.2 (is_of k l) (written_of k l r.0 r.1) in (dite (ℕ_discrete l 0) (λ q. absurd (let a = i.some_life k in let d = ap (λ y. many s (is_of k y)) q in omega (arith, a, d, of))) (λ ne. omega (arith, ne)), of)

      later : (k l m : ℕ) → 0 < many s (is_written k l) → 0 < many s (is_written k m) → m ≢ l → (d : ℕ) × (0 < many s (is_replaced k d))
      later k l m one other ne = let a = named k l one in let d = named k m other in let f = a.0 in let g = d.0 in dite (dec_lt 1 l)
          (λ z. (l - 1, i.lives.replaced_before k l z a.1)) (λ z. (m - 1, i.lives.replaced_before k m (omega (arith, f, g, z, ne)) d.1))

      written_again : (b v l : ℕ) → 2 ≤ many s (is_version b v) → (m : ℕ) × (0 < many s (is_written (e.graph.writer b v) m)) × (m ≢ l)
      written_again b v l both = let split = sums.below (noted (is_version b v)) (λ o. noted (is_written (e.graph.writer b v) l) o + noted (λ x. cond (is_written (e.graph.writer b v) l x) false (is_version b v x)) o) (λ o. count_split (is_version b v) (is_written (e.graph.writer b v) l) o.records) in
          let add = sums.add (noted (is_written (e.graph.writer b v) l)) (noted (λ x. cond (is_written (e.graph.writer b v) l x) false (is_version b v x))) in let once = i.computed.written_once (e.graph.writer b v) l in
          let r = many_some (λ x. cond (is_written (e.graph.writer b v) l x) false (is_version b v x)) (omega (arith, split, add, once, both)) in of r.0 r.1 r.2
        where
          of : (x : Record) → cond (is_written (e.graph.writer b v) l x) false (is_version b v x) ≡ true → ((q : Record → Bool) → q x ≡ true → 0 < many s q) → (m : ℕ) × (0 < many s (is_written (e.graph.writer b v) m)) × (m ≢ l)
          of (record_of.Written a m c u) t tests = ⊎_elim
              (λ z. let at : two b v c u ≡ true = sym (ap (λ (y : Bool). cond y false (two b v c u)) z) ∙ t in ⊎_elim (λ f. absurd cc) (λ f. ⊎_elim
              (λ h. absurd (no_misnamed (record_of.Written a m c u) tests (ap (λ (y : Bool). cond y false true) h)))
              (λ h. let here : 0 < many s (is_written a.0 m) = tests (is_written a.0 m) (two_here a.0 m) in let is : e.graph.writer b v ≡ a.0 = ap (λ y. e.graph.writer y v) (f.1 ∙ sym h.1) ∙ ap (λ y. e.graph.writer (e.graph.block a.0) y) (f.2 ∙ sym h.2) ∙ fit.lawful.written_by a.0 (reached_writing a.0 m here) in
              (m, subst (λ y. 0 < many s (is_written y m)) (sym is) here, λ q. let same : two (e.graph.writer b v) l a.0 m ≡ true = ap (λ y. two y l a.0 m) is ∙ ap (λ y. two a.0 y a.0 m) (sym q) ∙ two_here a.0 m in let f : true ≡ false = sym same ∙ z in absurd cc)) (two_tells (e.graph.block a.0) (e.graph.version a.0) c u)) (two_tells b v c u))
              (λ z. absurd (let f : cond (two (e.graph.writer b v) l a.0 m) false (two b v c u) ≡ false = ap (λ (y : Bool). cond y false (two b v c u)) z.0 in cc)) (two_tells (e.graph.writer b v) l a.0 m)
          of x t tests = absurd cc
