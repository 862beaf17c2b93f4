-- Taking a block keeps every part.
use Rattle.std.proofs.Common.{◌≡◌, ℕ, ◌+◌, ◌-◌, ◌<◌, Bool, true, false, cond, ◌&&◌, nat_lt, eqb, ne_eqb, min, List, ◌∷◌, arith, sym, ap, refl, ◌∙◌, subst}
use mathlib.Core.Logic.{dite}
use native.Mathlib.Decide.{ℕ_discrete, dec_lt}
use Rattle.std.proofs.lemmas.Bool.{eq-eqb, lt-ltb}
use Rattle.core_state.specs.Graph.{Setting, Sound}
use Rattle.core_state.specs.Words.{Spot, pending, stop, key, descriptor, notify, recovery, posted, turn, spot_of, standing_life, replacing}
use Rattle.core_state.specs.Counts.{hit, bump, count, items, in_stacks, held, ended, begun, came, noted, facts, knows_row, waits, in_hand, in_wrong_hand, struck_by, struck_idly, struck_upto, stack_count, spare, too_many}
use Rattle.core_state.specs.Tests.{is_made, is_made_any, is_compute, is_idle, is_stopped, is_stops, is_seen_life, is_seen_mark, is_seen_closed, is_hand, is_of, is_written, is_computed, is_replaced, is_version}
use Rattle.core_state.specs.Change.{Core, Change, Sums, many}
use Rattle.core_state.specs.Work.{RootWork}
use Rattle.core_state.specs.Blocks.{Holds, Blocks}
use Rattle.core_state.specs.Cover.{covers_self, covers_edge, works}
use Rattle.core_state.specs.Invariant.{Invariant}
use Rattle.core_state.specs.Guards.{CanTakeTurn}
use Rattle.core_state.specs.Effects.{after_take_turn, turn_left}
use Rattle.core_state.specs.declared.block.BlockCells.{BlockCells}
use Rattle.core_state.specs.declared.job.Job.TheVariants.{Compute}
use Rattle.core_state.specs.declared.views.Hand.{Hand}
use Rattle.core_state.specs.declared.views.Item.TheVariants as item
use Rattle.core_state.specs.declared.views.Word.{Word}
use Rattle.core_state.specs.declared.views.Word.TheVariants as word
use Rattle.core_state.specs.declared.views.View.{View}
use Rattle.core_state.proofs.Blocks.Blame.{written_life, life_replaced}
use Rattle.core_state.proofs.Base.Counting.{bump_is, eqb_here, two_here}
use Rattle.core_state.proofs.Blocks.Versions.{version_written}
use Rattle.core_state.proofs.Base.Frame.{frame_keys, frame_empty, frame_lives, frame_content, frame_facts, frame_jobs, frame_computings, frame_root, frame_blocks, same_holds, frame_records, frame_causes, frame_strikes, frame_cover, frame_activity, frame_no_fault, posted_same}

-- only what a view has in hand changes, and one turn word
module _ (e : Setting) (s t : Core) (b n m : ℕ) (v : View) (hs : List Hand) (c : Change s t (turn b) n m v (record v { hands = hs })) (inv : Invariant e s) where
  wd : (a : Spot) → (turn b ≡ a → ⊥) → t.word a ≡ s.word a
  wd a ne = c.others a (λ q. ne (sym q))

  eq : (f : View → ℕ) → f (record v { hands = hs }) ≡ f v → t.total f ≡ s.total f
  eq f q = let a = c.sums f in omega (arith, a, q)

  shown : (r : ℕ) (w : Word) → t.word (spot_of r w) ≡ s.word (spot_of r w)
  shown r word.Descriptor = wd (descriptor r) (λ q. cc)
  shown r (word.Notify w) = wd (notify r w) (λ q. cc)
  shown r word.Recovery = wd (recovery r) (λ q. cc)

  pub handed : ((d : ℕ) → t.block d ≡ s.block d) → RootWork e t → Blocks e t → Invariant e t
  handed same root blocks = record {
    keys = frame_keys e s t (λ r. wd (key r) (λ q. cc)) (λ r k. eq (knows_row r k) refl) (λ p. eq (items p) refl) (λ i k l. eq (ended i k l) refl) (λ k l q. eq (waits k l q) refl) (λ p. eq (noted p) refl) inv.keys;
    empty = frame_empty e s t (λ r. wd (key r) (λ q. cc)) (λ r. wd (descriptor r) (λ q. cc)) (λ r w. wd (notify r w) (λ q. cc)) (λ r. wd (recovery r) (λ q. cc)) (λ i r. wd (posted i r) (λ q. cc)) inv.empty;
    lives = frame_lives e s t (λ r. wd (key r) (λ q. cc)) (λ r. wd (descriptor r) (λ q. cc)) (λ r w. wd (notify r w) (λ q. cc)) (λ r. wd (recovery r) (λ q. cc)) (λ p. eq (items p) refl) inv.lives;
    content = frame_content e s t (λ r. wd (key r) (λ q. cc)) (λ r. wd (descriptor r) (λ q. cc)) (λ r w. wd (notify r w) (λ q. cc)) (λ p. eq (noted p) refl) (λ k l q. eq (waits k l q) refl) inv.content;
    facts = frame_facts e s t (λ r. wd (key r) (λ q. cc)) shown (λ p. eq (noted p) refl) (λ k l w. eq (facts (is_seen_life k w l)) refl) (λ k l w. eq (facts (is_seen_mark k w l)) refl) (λ k l w. eq (facts (is_seen_closed k l w)) refl)
        (λ z. wd pending (λ q. cc) ∙ inv.facts.idle (let a = eq (facts is_idle) refl in omega (arith, a, z))) (λ z. wd stop (λ q. cc) ∙ inv.facts.stopped (let a = eq (facts is_stopped) refl in omega (arith, a, z))) (wd stop (λ q. cc) ∙ inv.facts.stops ∙ ap (min 1) (sym (eq (facts is_stops) refl))) inv.facts;
    work = record {
      credits = record {
        sum = let a = posted_same s.word t.word e.shape.rows (λ i r. wd (posted i r) (λ q. cc)) in let d = eq stack_count refl in let f = eq spare refl in let g = wd pending (λ q. cc) in let h = inv.work.credits.sum in omega (arith, a, d, f, g, h);
        few_spare = eq too_many refl ∙ inv.work.credits.few_spare;
      };
      jobs = frame_jobs e s t (λ r. wd (key r) (λ q. cc)) (λ r. wd (descriptor r) (λ q. cc)) (λ r. wd (recovery r) (λ q. cc)) (λ i r. wd (posted i r) (λ q. cc)) (λ p. eq (items p) refl) (λ i k l. eq (ended i k l) refl) (λ i k l. eq (begun i k l) refl) (λ p. eq (noted p) refl) (λ i k l. let a = eq (came i k l) refl in omega (arith, a)) inv.work.jobs;
      computings = frame_computings e s t (λ r. wd (key r) (λ q. cc)) (λ i r. wd (posted i r) (λ q. cc)) (λ p. eq (items p) refl) (λ i k l. eq (begun i k l) refl) (λ p. eq (noted p) refl) inv.work.computings;
      root = root;
    };
    blocks = blocks;
    records = frame_records e s t (λ r. wd (key r) (λ q. cc)) (λ r. wd (recovery r) (λ q. cc)) (λ p. eq (noted p) refl) inv.records;
    causes = frame_causes e s t (λ p. eq (items p) refl) (λ p. eq (noted p) refl) inv.causes;
    strikes = frame_strikes e s t (λ r. wd (key r) (λ q. cc)) (λ r. wd (descriptor r) (λ q. cc)) (λ r w. wd (notify r w) (λ q. cc)) (λ p. eq (noted p) refl) (λ x. eq (struck_by x) refl) (λ x y. eq (struck_idly x y) refl) (λ k l h. eq (struck_upto e.plan k l h) refl) inv.strikes;
    cover = frame_cover e s t (λ r. wd (key r) (λ q. cc)) (λ r. wd (descriptor r) (λ q. cc)) (λ r w. wd (notify r w) (λ q. cc)) (λ r. wd (recovery r) (λ q. cc)) (λ i r. wd (posted i r) (λ q. cc)) (λ p. eq (noted p) refl) (λ k l q. eq (waits k l q) refl)
        (λ k l j. let a = eq (covers_self k l j) refl in omega (arith, a)) (λ p q. let a = eq (covers_edge p q) refl in omega (arith, a)) inv.cover;
    activity = frame_activity e s t (λ r. wd (key r) (λ q. cc)) (λ r. wd (descriptor r) (λ q. cc)) (λ i r. wd (posted i r) (λ q. cc)) (λ p. eq (noted p) refl) (λ k l. let a = eq (works k l) refl in omega (arith, a)) inv.activity;
    no_fault = frame_no_fault e s t (λ r. wd (key r) (λ q. cc)) (λ r. wd (recovery r) (λ q. cc)) (λ p. eq (items p) refl) (λ p. eq (noted p) refl) same inv.no_fault;
  }

-- where the root's result was made and is to be written, the root's block was never written
module _ (e : Setting) (fit : Sound e) (s : Core) (sums : Sums s) (inv : Invariant e s) (l : ℕ) where
  root : ℕ
  root = e.graph.root

  never_two : 0 < s.total (items (is_made e.graph.root l)) → 0 < s.total (items (is_compute e.graph.root l)) → 0 < l → (m : ℕ) → 0 < many s (is_written e.graph.root m) → ⊥
  never_two made computes some m wrote = let row = inv.keys.of_root in let of = inv.work.computings.each row.0 e.graph.root l row.1 some in let here = of.made made in let unwritten = of.unwritten (omega (arith, computes)) in
      let life = written_life e fit s sums inv e.graph.root m wrote in let done = inv.records.computed.written_computed e.graph.root m wrote in
      let m_some : 0 < m = dite (ℕ_discrete m 0) (λ q. absurd (let a = inv.records.some_life e.graph.root in let d = ap (λ x. many s (is_of e.graph.root x)) q in omega (arith, a, d, life))) (λ ne. omega (arith, ne)) in
      dite (ℕ_discrete m l) (λ q. let a = ap (λ x. many s (is_written e.graph.root x)) q in omega (arith, a, wrote, unwritten))
      (λ ne. dite (dec_lt m l)
      (λ less. let gone = life_replaced e fit s sums inv row.0 e.graph.root l m row.1 computes m_some less in let a = (inv.work.root.given_up m (omega (arith, gone))).1 in omega (arith, a, done))
      (λ low. let before = inv.records.lives.replaced_before e.graph.root m (omega (arith, ne, low, some)) life in let z : ℕ = s.word (recovery row.0) in let top : ℕ = standing_life z + replacing z in
      let told = inv.records.replaced row.0 e.graph.root (m - 1) row.1 in let under : m - 1 < top = by_hit (m - 1) top (nat_lt 0 (m - 1)) (omega (arith, told, before)) in
      let mine = inv.records.replaced row.0 e.graph.root l row.1 in let one : hit (nat_lt 0 l && nat_lt l top) ≡ 1 = rw (lt-ltb 0 l some, lt-ltb l top (omega (arith, under, ne, low))) in
      let a = (inv.work.root.given_up l (omega (arith, mine, one))).1 in omega (arith, a, here)))
    where
      by_hit : (x y : ℕ) (q : Bool) → 0 < hit (q && nat_lt x y) → x < y
      by_hit x y q z = dite (dec_lt x y) (λ low. low) (λ high. absurd (let a : nat_lt x y ≡ false = Rattle.std.proofs.lemmas.Bool.le-ltb x y (omega (arith, high)) in let d : hit (q && nat_lt x y) ≡ 0 = Rattle.core_state.proofs.Spend.View.and_fails q (nat_lt x y) a in omega (arith, d, z)))

  pub root_unwritten : 0 < s.total (items (is_made e.graph.root l)) → 0 < s.total (items (is_compute e.graph.root l)) → 0 < l → e.graph.block e.graph.root < e.shape.blocks → (s.block (e.graph.block e.graph.root)).tag ≡ 0
  root_unwritten made computes some low = dite (ℕ_discrete (s.block (e.graph.block e.graph.root)).tag 0) (λ q. q) (λ ne. absurd (let b : ℕ = e.graph.block e.graph.root in let y : BlockCells = s.block b in
      let by = version_written e fit s sums inv.records b y.tag ((inv.blocks.each b low).holds.written (omega (arith, ne))) in let is : e.graph.writer b y.tag ≡ e.graph.root = fit.lawful.root_block.1 (e.graph.writer b y.tag) by.2 in
      never_two made computes some by.0 (subst (λ o. 0 < many s (is_written o by.0)) is by.1)))

module _ (e : Setting) (fit : Sound e) (s t : Core) (sums : Sums s) (b n : ℕ) (was : BlockCells) (v : View) (can : CanTakeTurn e v b) (stays : t.block b ≡ s.block b) (inv : Invariant e s) where
  same_blocks : (m : ℕ) (hs : List Hand) → Change s t (turn b) n m v (record v { hands = hs }) → (d : ℕ) → t.block d ≡ s.block d
  same_blocks m hs c d = dite (ℕ_discrete d b) (λ q. ap t.block q ∙ stays ∙ sym (ap s.block q)) (λ ne. c.blocks d (λ q. ne (let z : d ≡ b = cc in z)))

  -- the root's result is at work in a view that takes the root's block
  at_root : b ≡ e.graph.block e.graph.root → (0 < items (is_made_any e.graph.root) v) × ((l : ℕ) × (0 < items (is_made e.graph.root l) v) × (0 < items (is_compute e.graph.root l) v) × (0 < held Compute e.graph.root l v))
  at_root q = let o = can.of_root q in let l : ℕ = o.0 in let at = o.2 in
      let x = item.Compute e.graph.root l true o.1 true in
      let top : (p : Rattle.core_state.specs.declared.views.Item.Item → Bool) → p (item.Compute e.graph.root o.0 true o.1 true) ≡ true → 0 < items p v = λ p f. let a = ap (in_stacks p) at.stacks_are in let d = ap (count p) at.items_are in let g = bump_is (p (item.Compute e.graph.root o.0 true o.1 true)) (count p at.below) in let h = ap hit f in omega (arith, a, d, g, h) in
      (top (is_made_any e.graph.root) (rw (eqb_here e.graph.root)), (o.0, top (is_made e.graph.root o.0) (rw (two_here e.graph.root o.0)), top (is_compute e.graph.root o.0) (two_here e.graph.root o.0), top (Rattle.core_state.specs.Tests.carries Compute e.graph.root o.0) (two_here e.graph.root o.0)))

  taken : n ≡ 0 → Change s t (turn b) n 1 v (record v { hands = record { block = b; held = was } ∷ v.hands }) → Invariant e t
  taken z c = let hs : List Hand = record { block = b; held = was } ∷ v.hands in let same = same_blocks 1 hs c in
      handed e s t b n 1 v hs c inv same root_work blocks
    where
      hand : (d : ℕ) → t.total (in_hand d) ≡ s.total (in_hand d) + hit (eqb d b)
      hand d = let a = c.sums (in_hand d) in let f = bump_is (eqb d b) (count (is_hand d) v.hands) in omega (arith, a, f)

      blocks : Blocks e t
      blocks = record {
        each = λ d low. let o = inv.blocks.each d low in let h = hand d in dite (ℕ_discrete d b)
            (λ q. let one : hit (eqb d b) ≡ 1 = ap hit (eq-eqb d b q) in let old : s.word (turn d) ≡ 0 = ap (λ x. s.word (turn x)) q ∙ c.found_is ∙ z in let new : t.word (turn d) ≡ 1 = ap (λ x. t.word (turn x)) q ∙ c.left_is in let a = o.taken in record {
              taken = omega (arith, h, one, old, new, a);
              once = omega (arith, h, one, old, a);
              holds = subst (Holds e t d) (sym (same_blocks 1 (record { block = b; held = was } ∷ v.hands) c d)) (same_holds e s t (λ p. let a = c.sums (noted p) in omega (arith, a)) d (s.block d) o.holds);
            })
            (λ ne. let none : hit (eqb d b) ≡ 0 = ap hit (ne_eqb d b ne) in let a = o.taken in let f = c.others (turn d) (λ q. ne (let y : d ≡ b = cc in y)) in let g = o.once in record {
              taken = omega (arith, h, none, a, f);
              once = omega (arith, h, none, g);
              holds = subst (Holds e t d) (sym (same_blocks 1 (record { block = b; held = was } ∷ v.hands) c d)) (same_holds e s t (λ p. let a = c.sums (noted p) in omega (arith, a)) d (s.block d) o.holds);
            });
      }

      root_work : RootWork e t
      root_work = let d : ℕ = e.graph.block e.graph.root in record {
        right_hand = dite (ℕ_discrete b (e.graph.block e.graph.root))
            (λ q. let a = c.sums (in_wrong_hand (e.graph.block e.graph.root) e.graph.root) in let some = (at_root q).0 in let f : in_wrong_hand (e.graph.block e.graph.root) e.graph.root (record v { hands = record { block = b; held = was } ∷ v.hands }) ≡ 0 = ap (λ (y : Bool). cond y (in_hand (e.graph.block e.graph.root) (record v { hands = record { block = b; held = was } ∷ v.hands })) 0) (ne_eqb (items (is_made_any e.graph.root) v) 0 (λ y. omega (arith, y, some))) in
            let g = inv.work.root.right_hand in omega (arith, a, f, g))
            (λ ne. let a = c.sums (in_wrong_hand (e.graph.block e.graph.root) e.graph.root) in let f : in_wrong_hand (e.graph.block e.graph.root) e.graph.root (record v { hands = record { block = b; held = was } ∷ v.hands }) ≡ in_wrong_hand (e.graph.block e.graph.root) e.graph.root v = ap (λ (y : Bool). cond (eqb (items (is_made_any e.graph.root) v) 0) (bump y (count (is_hand (e.graph.block e.graph.root)) v.hands)) 0) (ne_eqb (e.graph.block e.graph.root) b (λ y. ne (sym y))) in
            let g = inv.work.root.right_hand in omega (arith, a, f, g));
        unwritten = λ some. ap (λ o. o.tag) (same_blocks 1 (record { block = b; held = was } ∷ v.hands) c (e.graph.block e.graph.root)) ∙ dite (ℕ_discrete b (e.graph.block e.graph.root))
            (λ q. let o = at_root q in let l : ℕ = o.1.0 in let a = c.within (items (is_made e.graph.root o.1.0)) in let f = c.within (items (is_compute e.graph.root o.1.0)) in let g = o.1.1 in let h = o.1.2 in
            let life : 0 < o.1.0 = dite (ℕ_discrete o.1.0 0) (λ y. absurd (let j = inv.work.jobs.some_life Compute e.graph.root in let k = c.within (held Compute e.graph.root o.1.0) in let i = ap (λ x. s.total (held Compute e.graph.root x)) y in let held_here = o.1.3 in omega (arith, j, k, i, held_here))) (λ y. omega (arith, y)) in
            root_unwritten e fit s sums inv o.1.0 (omega (arith, a, g)) (omega (arith, f, h)) life (subst (λ x. x < e.shape.blocks) q can.low))
            (λ ne. inv.work.root.unwritten (let a = hand (e.graph.block e.graph.root) in let f : hit (eqb (e.graph.block e.graph.root) b) ≡ 0 = ap hit (ne_eqb (e.graph.block e.graph.root) b (λ y. ne (sym y))) in omega (arith, a, f, some)));
        given_up = λ l some. let a = c.sums (items (Rattle.core_state.specs.Tests.is_suspect e.graph.root l)) in let f = c.sums (noted (is_replaced e.graph.root l)) in let o = inv.work.root.given_up l (omega (arith, a, f, some)) in
            (let g = c.sums (ended Compute e.graph.root l) in let h = o.0 in omega (arith, g, h), (let g = c.sums (noted (is_computed e.graph.root l)) in let h = o.1 in omega (arith, g, h)));
      }

  -- another has the block
  refused : Change s t (turn b) n n v v → Invariant e t
  refused c = let eq : (f : View → ℕ) → t.total f ≡ s.total f = (λ f. let a = c.sums f in omega (arith, a)) in
      let turns : (d : ℕ) → t.word (turn d) ≡ s.word (turn d) = (λ d. dite (ℕ_discrete d b) (λ q. ap (λ x. t.word (turn x)) q ∙ c.left_is ∙ sym c.found_is ∙ ap (λ x. s.word (turn x)) (sym q)) (λ ne. c.others (turn d) (λ q. ne (let y : d ≡ b = cc in y)))) in
      handed e s t b n n v v.hands c inv (same_blocks n v.hands c)
      (frame_root e s t (λ p. eq (items p)) (λ i k l. eq (ended i k l)) (λ p. eq (noted p)) (λ d k. eq (in_wrong_hand d k)) (λ d. eq (in_hand d)) (same_blocks n v.hands c) inv.work.root)
      (frame_blocks e s t turns (λ d. eq (in_hand d)) (λ p. eq (noted p)) (same_blocks n v.hands c) inv.blocks)

  pub keeps_take_turn : Change s t (turn b) n (turn_left n) v (after_take_turn b was n v) → Invariant e t
  keeps_take_turn c = dite (ℕ_discrete n 0)
      (λ q. taken q (subst (λ (y : Bool). Change s t (turn b) n (cond y 1 n) v (cond y (record v { hands = record { block = b; held = was } ∷ v.hands }) v)) (eq-eqb n 0 q) c))
      (λ ne. refused (subst (λ (y : Bool). Change s t (turn b) n (cond y 1 n) v (cond y (record v { hands = record { block = b; held = was } ∷ v.hands }) v)) (ne_eqb n 0 ne) c))
