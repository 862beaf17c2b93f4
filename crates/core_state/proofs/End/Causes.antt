-- The causes of replacements are shown by a list that has the records of all tasks: nothing of the root shows a cause.
use Rattle.std.proofs.Common.{◌≡◌, ◌≢◌, ℕ, zero, suc, ◌+◌, ◌-◌, ◌<◌, ◌≤◌, Bool, true, false, cond, ◌&&◌, nat_lt, eqb, List, length, ⊎_elim, arith, sym, ap, refl, ◌∙◌, subst}
use mathlib.Core.Logic.{dite}
use native.Mathlib.Decide.{ℕ_discrete}
use Rattle.std.proofs.lemmas.Bool.{eqb-true, and_from, lt-ltb, le-ltb, ltb-true}
use Rattle.core_state.specs.Graph.{Graph, Setting, Sound, greatest_life}
use Rattle.core_state.specs.Words.{recovery, standing_life, replacing}
use Rattle.core_state.specs.Counts.{hit, count, items, noted}
use Rattle.core_state.specs.Tests.{two, is_at, is_suspect, is_suspect_for, key_named, same_cause, is_of, is_version, is_miswritten, is_any_struck, is_struck, is_struck_version, is_replaced, is_replaced_for, is_any_replaced}
use Rattle.core_state.specs.Change.{Core, Sums, many}
use Rattle.core_state.specs.Laws.{Concerns, Grounded, Shown, CausesShown, ReplacedOnce, IsGrounded, grounds, grounded_upto, reads_upto}
use Rattle.core_state.specs.Laws.Concerns.{own, input}
use Rattle.core_state.specs.Laws.Grounded.{descriptor as g_descriptor, notify as g_notify, struck as g_struck, newer, older}
use Rattle.core_state.specs.Laws.Shown.{descriptor as s_descriptor, notify as s_notify, struck as s_struck, other}
use Rattle.core_state.specs.Rows.{HasKey, HasRow}
use Rattle.core_state.specs.Invariant.{Invariant}
use Rattle.core_state.specs.declared.views.Item.{Item}
use Rattle.core_state.specs.declared.views.Item.TheVariants as item
use Rattle.graph_model.specs.declared.record.Cause.{Cause}
use Rattle.graph_model.specs.declared.record.Cause.TheVariants as cause
use Rattle.graph_model.specs.declared.record.Found.TheVariants as found
use Rattle.graph_model.specs.declared.record.Hit.{Hit}
use Rattle.graph_model.specs.declared.record.Hit.TheVariants as hit_of
use Rattle.graph_model.specs.declared.record.Record.{Record}
use Rattle.graph_model.specs.declared.record.Record.TheVariants as record_of
use Rattle.core_state.proofs.Base.Counting.{eqb_here, two_tells, both}
use Rattle.core_state.proofs.Blocks.Versions.{many_some, version_written}
use Rattle.core_state.proofs.Row.View.{fewer_items}
use Rattle.core_state.proofs.End.Grounded.{by_descriptor, by_notify, by_struck, by_other}
use Rattle.core_state.proofs.End.Lists.{is_other_than, named_key, struck_other, replaced_once, within, fewer, present, count_below}
use Rattle.core_state.proofs.Row.Made.{replaced_of, suspect_at}
use Rattle.core_state.proofs.Replace.Suspects.{cause_tells}

-- an input of a key is found among its first ones
reads_found : (g : Graph) (k b v j n : ℕ) → j < n → g.block (g.pred k j).task ≡ b → g.version (g.pred k j).task ≡ v → reads_upto g k b v n ≡ true
reads_found g k b v j zero low at is = absurd (omega (arith, low))
reads_found g k b v j (suc n) low at is = by (reads_found g k b v j n) (two b v (g.block (g.pred k n).task) (g.version (g.pred k n).task)) refl
  where
    by : (j < n → g.block (g.pred k j).task ≡ b → g.version (g.pred k j).task ≡ v → reads_upto g k b v n ≡ true) → (t : Bool) → two b v (g.block (g.pred k n).task) (g.version (g.pred k n).task) ≡ t → cond t true (reads_upto g k b v n) ≡ true
    by r true z = refl
    by r false z = r (dite (ℕ_discrete j n) (λ q. absurd (let here : two b v (g.block (g.pred k n).task) (g.version (g.pred k n).task) ≡ true = and_from _ _ (ap (eqb b) (sym (ap (λ y. g.block (g.pred k y).task) q) ∙ at) ∙ eqb_here b) (ap (eqb v) (sym (ap (λ y. g.version (g.pred k y).task) q) ∙ is) ∙ eqb_here v) in cc)) (λ ne. omega (arith, low, ne))) at is

struck_any : (k l : ℕ) (h : Hit) (x : Record) → is_struck k l h x ≡ true → is_any_struck x ≡ true
struck_any k l h (record_of.Struck a m d) z = refl
struck_any k l h x z = absurd cc

version_struck_any : (b v : ℕ) (x : Record) → is_struck_version b v x ≡ true → is_any_struck x ≡ true
version_struck_any b v (record_of.Struck a m d) z = refl
version_struck_any b v x z = absurd cc

replaced_any : (k l : ℕ) (x : Record) → is_replaced k l x ≡ true → is_any_replaced x ≡ true
replaced_any k l (record_of.Replaced a m d) z = refl
replaced_any k l x z = absurd cc

module _ (e : Setting) (fit : Sound e) (s : Core) (sums : Sums s) (i : Invariant e s) where
  -- what a cause owes that names another version: it was written, and its block is not the root's
  abbrev Owes : Cause → Type 0
  Owes (cause.Block b v (found.Other u)) = (0 < many s (is_version b u)) × (b ≢ e.graph.block e.graph.root)
  Owes c = Unit {0}

  -- the root reads no block of its own, and writes it in one version
  block_other : (k b v u : ℕ) → Concerns e.graph k b v → u ≢ v → 0 < many s (is_version b u) → b ≢ e.graph.block e.graph.root
  block_other k b v u (own at is) ne z q = let w = version_written e fit s sums i.records b u z in let one = fit.lawful.root_block.1 k (at ∙ q) in let two_of = fit.lawful.root_block.1 (e.graph.writer b u) (w.2 ∙ q) in
      ne (sym w.3 ∙ ap e.graph.version two_of ∙ sym (ap e.graph.version one) ∙ is)
  block_other k b v u (input r) ne z q = fit.lawful.root_alone k r.input (let a = r.is_input in let c = fit.lawful.few_inputs k in omega (arith, a, c)) (fit.lawful.root_block.1 (e.graph.pred k r.input).task (r.of_block ∙ q))

  owes : (k l : ℕ) (c : Cause) → Shown e.graph (many s) (Grounded e.graph (many s)) k l c → Owes c
  owes k l c (s_descriptor z) = tt
  owes k l c (s_notify w z) = tt
  owes k l c (s_struck b v of z) = tt
  owes k l c (other b v u of ne z by) = (z, block_other k b v u of ne z)

  -- a life that is suspected for some cause is suspected
  suspect_any : (k l : ℕ) (c : Cause) → 0 < s.total (items (is_suspect_for k l c)) → 0 < s.total (items (is_suspect k l))
  suspect_any k l c z = dite (ℕ_discrete (s.total (items (is_suspect k l))) 0)
      (λ q. absurd (let a = sums.none (items (is_suspect k l)) (items (is_suspect_for k l c)) (λ v f. fewer_items (is_suspect k l) (is_suspect_for k l c) (suspect_of k l c) v.stacks f) q in omega (arith, a, z)))
      (λ ne. omega (arith, ne))
    where
      suspect_of : (k l : ℕ) (c : Cause) (x : Item) → is_suspect_for k l c x ≡ true → is_suspect k l x ≡ true
      suspect_of k l c (item.Suspect a m d w) z = (both (two k l a m) (same_cause c d) z).0
      suspect_of k l c x z = absurd cc

  -- and its key has a row, whose recovery word bounds it
  suspect_low : (r k l : ℕ) (c : Cause) → HasKey e s r k → 0 < s.total (items (is_suspect_for k l c)) → (0 < l) × (l ≤ standing_life (s.word (recovery r)) + replacing (s.word (recovery r)))
  suspect_low r k l c has z = (i.lives.each r k has).suspected l (suspect_any k l c z)

  suspect_row : (k l : ℕ) (c : Cause) → 0 < s.total (items (is_suspect_for k l c)) → HasRow e s k
  suspect_row k l c z = i.keys.of_item k (dite (ℕ_discrete (s.total (items (is_at k))) 0)
      (λ q. absurd (let a = sums.none (items (is_at k)) (items (is_suspect k l)) (λ v f. fewer_items (is_at k) (is_suspect k l) (suspect_at k l) v.stacks f) q in let b = suspect_any k l c z in omega (arith, a, b)))
      (λ ne. omega (arith, ne)))

  module _ (xs : List Record) (kept : (p : Record → Bool) → count p xs ≡ many s (λ x. p x && is_other_than e.graph.root x)) where
    -- the list has the Replaced of a task, and with a grounded cause it grounds another
    grounds_by : (k l : ℕ) (c : Cause) (b v u : ℕ) → k ≢ e.graph.root → 0 < many s (is_replaced_for k l c) → cond (nat_lt v u) (reads_upto e.graph k b v (e.graph.inputs k)) (nat_lt u v && eqb k (e.graph.writer b u)) ≡ true
        → IsGrounded e.graph xs c → 0 < count (grounds e.graph b v u (grounded_upto e.graph xs (length xs + 1))) xs
    grounds_by k l c b v u ne z fits up = let r = many_some e fit s sums i.records (is_replaced_for k l c) z in of r.0 r.1 r.2
      where
        of : (x : Record) → is_replaced_for k l c x ≡ true → ((q : Record → Bool) → q x ≡ true → 0 < many s q) → 0 < count (grounds e.graph b v u (grounded_upto e.graph xs (length xs + 1))) xs
        of (record_of.Replaced a m d) t tests = let parts = both (two k l a.0 m) (same_cause c d) t in let is : k ≡ a.0 = eqb-true k a.0 (both (eqb k a.0) (eqb l m) parts.0).0 in
            present e fit s sums i xs kept (record_of.Replaced a m d) tests (λ q. ne (is ∙ q)) (grounds e.graph b v u (grounded_upto e.graph xs (length xs + 1)))
            (and_from _ (grounded_upto e.graph xs (length xs + 1) d) (subst (λ y. cond (nat_lt v u) (reads_upto e.graph y b v (e.graph.inputs y)) (nat_lt u v && eqb y (e.graph.writer b u)) ≡ true) is fits)
            (⊎_elim (λ f. absurd cc) (λ same. subst (IsGrounded e.graph xs) same up) (cause_tells c d)))
        of x t tests = absurd cc

    -- what all records ground, the list grounds
    grounded_here : (c : Cause) → Grounded e.graph (many s) c → Owes c → IsGrounded e.graph xs c
    grounded_here c g_descriptor o = by_descriptor e.graph xs
    grounded_here c g_notify o = by_notify e.graph xs
    grounded_here c (g_struck b v w) o = by_struck e.graph xs b v w
    grounded_here c (newer b v u k l d less not_root reads here by) o = by_other e.graph xs b v u (grounds_by k l d b v u not_root here
        (ap (λ (t : Bool). cond t (reads_upto e.graph k b v (e.graph.inputs k)) (nat_lt u v && eqb k (e.graph.writer b u))) (lt-ltb v u less) ∙ reads_found e.graph k b v reads.input (e.graph.inputs k) reads.is_input reads.of_block reads.of_version)
        (grounded_here d by (owes k l d (i.causes.replaced.shown k l d here))))
    grounded_here c (older b v u l d less here by) o = let k : ℕ = e.graph.writer b u in let w = version_written e fit s sums i.records b u o.0 in by_other e.graph xs b v u (grounds_by k l d b v u (λ q. o.1 (sym w.2 ∙ ap e.graph.block q)) here
        (ap (λ (t : Bool). cond t (reads_upto e.graph k b v (e.graph.inputs k)) (nat_lt u v && eqb k k)) (le-ltb v u (omega (arith, less))) ∙ and_from (nat_lt u v) (eqb k k) (lt-ltb u v less) (eqb_here k))
        (grounded_here d by (owes k l d (i.causes.replaced.shown k l d here))))

    version_here : (b u : ℕ) → b ≢ e.graph.block e.graph.root → 0 < many s (is_version b u) → 0 < count (is_version b u) xs
    version_here b u ne z = let r = many_some e fit s sums i.records (is_version b u) z in present e fit s sums i xs kept r.0 r.2 (of r.0 r.1 r.2) (is_version b u) r.1
      where
        of : (x : Record) → is_version b u x ≡ true → ((q : Record → Bool) → q x ≡ true → 0 < many s q) → key_named x ≢ e.graph.root
        of (record_of.Written a m c w) t tests is = ⊎_elim
            (λ f. let q = tests (is_miswritten e.graph) (ap (λ (y : Bool). cond y false true) f) in let none = i.records.computed.written_place in omega (arith, q, none))
            (λ f. ne (eqb-true b c (both (eqb b c) (eqb u w) t).0 ∙ sym f.1 ∙ ap e.graph.block is)) (two_tells (e.graph.block a.0) (e.graph.version a.0) c w)
        of x t tests is = absurd cc

    -- what all records show, the list shows
    pub shown_here : (k l : ℕ) (c : Cause) → Shown e.graph (many s) (Grounded e.graph (many s)) k l c → Shown e.graph (λ p. count p xs) (IsGrounded e.graph xs) k l c
    shown_here k l c (s_descriptor z) = let r = many_some e fit s sums i.records (is_struck k l hit_of.Descriptor) z in s_descriptor (present e fit s sums i xs kept r.0 r.2 (struck_other e fit s sums i r.0 (struck_any k l hit_of.Descriptor r.0 r.1) r.2) (is_struck k l hit_of.Descriptor) r.1)
    shown_here k l c (s_notify w z) = let r = many_some e fit s sums i.records (is_struck k l (hit_of.Notify w)) z in s_notify w (present e fit s sums i xs kept r.0 r.2 (struck_other e fit s sums i r.0 (struck_any k l (hit_of.Notify w) r.0 r.1) r.2) (is_struck k l (hit_of.Notify w)) r.1)
    shown_here k l c (s_struck b v of z) = let r = many_some e fit s sums i.records (is_struck_version b v) z in s_struck b v of (present e fit s sums i xs kept r.0 r.2 (struck_other e fit s sums i r.0 (version_struck_any b v r.0 r.1) r.2) (is_struck_version b v) r.1)
    shown_here k l c (other b v u of ne z by) = let apart = block_other k b v u of ne z in other b v u of ne (version_here b u apart z) (grounded_here (cause.Block b v (found.Other u)) by (z, apart))

    pub list_causes : CausesShown e.graph (λ p. count p xs) (IsGrounded e.graph xs)
    list_causes = record { shown = λ k l c z. shown_here k l c (i.causes.replaced.shown k l c (let a = fewer e fit s sums i xs kept (is_replaced_for k l c) in omega (arith, a, z))) }

    -- the cause for which any view suspects a life is shown by the list, and the life is one that its key may have
    pub list_suspected : (k l : ℕ) (c : Cause) → 0 < s.total (items (is_suspect_for k l c)) → Shown e.graph (λ p. count p xs) (IsGrounded e.graph xs) k l c × (0 < l) × (l ≤ greatest_life e k)
    list_suspected k l c z = let row = suspect_row k l c z in let a = suspect_low row.0 k l c row.1 z in let b = a.1 in let d = (i.lives.each row.0 k row.1).at_most in (shown_here k l c (i.causes.suspected k l c z), a.0, omega (arith, b, d))

    -- The list of the root's replacements.
    module _ (rs : List Record) (kept_root : (p : Record → Bool) → count p rs ≡ many s (λ x. p x && (eqb e.graph.root (key_named x) && is_any_replaced x))) where
      root_fewer : (p : Record → Bool) → count p rs ≤ many s p
      root_fewer p = within e fit s sums i (λ x. eqb e.graph.root (key_named x) && is_any_replaced x) rs kept_root p

      pub root_once : ReplacedOnce e.graph (λ p. count p rs)
      root_once = record { once = λ k l. let a = root_fewer (is_replaced k l) in let b = replaced_once e fit s sums i k l in omega (arith, a, b) }

      -- each life before one that was replaced was replaced too
      pub root_before : (l : ℕ) → 1 < l → 0 < count (is_replaced e.graph.root l) rs → 0 < count (is_replaced e.graph.root (l - 1)) rs
      root_before l later z = let k : ℕ = e.graph.root in let m : ℕ = l - 1 in let r = many_some e fit s sums i.records (is_replaced k l) (let a = root_fewer (is_replaced k l) in omega (arith, a, z)) in
          let y = many_some e fit s sums i.records (is_replaced k m) (i.records.lives.replaced_before k l later (r.2 (is_of k l) (replaced_of k l r.0 r.1))) in
          let a = kept_root (is_replaced k m) in let b = y.2 (λ x. is_replaced k m x && (eqb k (key_named x) && is_any_replaced x)) (and_from (is_replaced k m y.0) _ y.1
          (and_from (eqb k (key_named y.0)) (is_any_replaced y.0) (ap (eqb k) (named_key k m y.0 (replaced_of k m y.0 y.1)) ∙ eqb_here k) (replaced_any k m y.0 y.1))) in omega (arith, a, b)

      -- the cause of each is shown by the records of tasks
      pub root_shown : (l : ℕ) (c : Cause) → 0 < count (is_replaced_for e.graph.root l c) rs → Shown e.graph (λ p. count p xs) (IsGrounded e.graph xs) e.graph.root l c
      root_shown l c z = shown_here e.graph.root l c (i.causes.replaced.shown e.graph.root l c (let a = root_fewer (is_replaced_for e.graph.root l c) in omega (arith, a, z)))

      -- a life of the root that some record replaced is in the list
      root_more : (m : ℕ) → many s (is_replaced e.graph.root m) ≤ count (is_replaced e.graph.root m) rs
      root_more m = let k : ℕ = e.graph.root in let f : Record → Bool = (λ x. is_replaced k m x && (eqb k (key_named x) && is_any_replaced x)) in let a = kept_root (is_replaced k m) in
          let b = sums.below (noted (is_replaced k m)) (noted f) (λ v. count_below (is_replaced k m) f (λ x z. and_from (is_replaced k m x) (eqb k (key_named x) && is_any_replaced x) z
          (and_from (eqb k (key_named x)) (is_any_replaced x) (ap (eqb k) (named_key k m x (replaced_of k m x z)) ∙ eqb_here k) (replaced_any k m x z))) v.records) in omega (arith, a, b)

      -- it has each replaced life of the root once
      root_count : (m : ℕ) → let n : ℕ = s.word (recovery i.keys.of_root.0) in count (is_replaced e.graph.root m) rs ≡ hit (nat_lt 0 m && nat_lt m (standing_life n + replacing n))
      root_count m = let a = root_fewer (is_replaced e.graph.root m) in let b = root_more m in let c = i.records.replaced i.keys.of_root.0 e.graph.root m i.keys.of_root.1 in omega (arith, a, b, c)

      -- each of its lives is at least 1, and another is allowed after it
      pub root_lives : (m : ℕ) → 0 < count (is_replaced e.graph.root m) rs → (0 < m) × (m < greatest_life e e.graph.root)
      root_lives m z = let n : ℕ = s.word (recovery i.keys.of_root.0) in let a = root_count m in by (nat_lt 0 m) (nat_lt m (standing_life n + replacing n)) refl refl (omega (arith, a, z))
        where
          by : (a b : Bool) → nat_lt 0 m ≡ a → nat_lt m (standing_life (s.word (recovery i.keys.of_root.0)) + replacing (s.word (recovery i.keys.of_root.0))) ≡ b → 0 < hit (a && b) → (0 < m) × (m < greatest_life e e.graph.root)
          by true true f g some = let n : ℕ = s.word (recovery i.keys.of_root.0) in let most = (i.lives.each i.keys.of_root.0 e.graph.root i.keys.of_root.1).at_most in let a = ltb-true 0 m f in let b = ltb-true m (standing_life n + replacing n) g in (a, omega (arith, b, most))
          by true false f g some = absurd (omega (arith, some))
          by false b f g some = absurd (omega (arith, some))

      -- where any view suspects a life of the root, the list has one replacement of each life before it
      pub root_suspected : (l : ℕ) (c : Cause) → 0 < s.total (items (is_suspect_for e.graph.root l c)) → (m : ℕ) → 0 < m → m < l → count (is_replaced e.graph.root m) rs ≡ 1
      root_suspected l c z m some low = let n : ℕ = s.word (recovery i.keys.of_root.0) in let a = (suspect_low i.keys.of_root.0 e.graph.root l c i.keys.of_root.1 z).1 in
          root_count m ∙ (let b : hit (nat_lt 0 m && nat_lt m (standing_life n + replacing n)) ≡ 1 = rw (lt-ltb 0 m some, lt-ltb m (standing_life n + replacing n) (omega (arith, a, low))) refl in b)
