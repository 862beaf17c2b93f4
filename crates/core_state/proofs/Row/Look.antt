-- Looking at a row that is empty keeps every part: a port that leaves has a successor without a row.
use Rattle.std.proofs.Common.{◌≡◌, ◌⊎◌, ℕ, ◌+◌, Bool, true, false, cond, ◌&&◌, eqb, List, [], ◌∷◌, ⊎_elim, inl, inr, arith, sym, ap, refl, ◌∙◌, subst}
use mathlib.Core.Logic.{dite}
use native.Mathlib.Decide.{ℕ_discrete}
use Rattle.std.proofs.lemmas.Bool.Decides.{eqb_tells}
use Rattle.core_state.specs.Graph.{Setting, Sound, Graph}
use Rattle.core_state.specs.Words.{Spot, key, descriptor, life_of}
use Rattle.core_state.specs.Counts.{hit, bump, count, items, in_stacks}
use Rattle.core_state.specs.Tests.{is_in, notifies, reenters, is_renew}
use Rattle.core_state.specs.Change.{Core, Change}
use Rattle.core_state.specs.Rows.{HasKey, HasRow}
use Rattle.core_state.specs.Invariant.{Invariant}
use Rattle.core_state.specs.Guards.{CanLook}
use Rattle.core_state.specs.Effects.{others_before, distance, skipped_items}
use Rattle.core_state.specs.Views.{change_top, on_top}
use Rattle.core_state.specs.declared.job.Job.{Job}
use Rattle.core_state.specs.declared.job.Job.TheVariants.{Explore, Compute}
use Rattle.core_state.specs.declared.views.Item.{Item}
use Rattle.core_state.specs.declared.views.Item.TheVariants as item
use Rattle.core_state.specs.declared.views.Known.{Known}
use Rattle.core_state.specs.declared.views.Stack.{Stack}
use Rattle.core_state.specs.declared.views.Word.TheVariants as word
use Rattle.core_state.specs.declared.views.View.{View}
use Rattle.core_state.proofs.Row.View.{no_row}
use Rattle.core_state.proofs.Load.SameWord.{LookView, look_keeps}
use Rattle.core_state.proofs.Base.Tops.{push_came, push_length}

module _ (g : Graph) (rows r : ℕ) (xs : List Known) where
  -- a test that doesn't see how many ports are left to enter again
  skipped_same : (q : Item → Bool) → ((a l y : ℕ) (ys : List ℕ) → q (item.Reenter a l ys) ≡ q (item.Reenter a l (y ∷ ys))) → (zs : List Item) → count q (skipped_items g rows r xs zs) ≡ count q zs
  skipped_same q same [] = refl
  skipped_same q same (item.Reenter a l [] ∷ zs) = refl
  skipped_same q same (item.Reenter a l (y ∷ ys) ∷ zs) = by (others_before rows (g.succ a y).task xs (distance rows (g.succ a y).task r))
    where
      by : (b : Bool) → count q (cond b (item.Reenter a l ys ∷ zs) (item.Reenter a l (y ∷ ys) ∷ zs)) ≡ count q (item.Reenter a l (y ∷ ys) ∷ zs)
      by true = ap (λ (b : Bool). bump b (count q zs)) (same a l y ys)
      by false = refl
  skipped_same q same (item.Explore a l j ∷ zs) = refl
  skipped_same q same (item.Compute a l b d f ∷ zs) = refl
  skipped_same q same (item.Close a l w ∷ zs) = refl
  skipped_same q same (item.Notify a l w ps ∷ zs) = refl
  skipped_same q same (item.Suspect a l b d ∷ zs) = refl
  skipped_same q same (item.Renew a l d ∷ zs) = refl
  skipped_same q same (item.Owe a j l ∷ zs) = refl

  -- a port is lost only where its successor's path is known to end at the row
  skipped_ports : (p q : ℕ) (zs : List Item) → (count (reenters p q) (skipped_items g rows r xs zs) ≡ count (reenters p q) zs) ⊎ (others_before rows (g.succ p q).task xs (distance rows (g.succ p q).task r) ≡ true)
  skipped_ports p q [] = inl refl
  skipped_ports p q (item.Reenter a l [] ∷ zs) = inl refl
  skipped_ports p q (item.Reenter a l (y ∷ ys) ∷ zs) = by (others_before rows (g.succ a y).task xs (distance rows (g.succ a y).task r)) refl
    where
      by : (b : Bool) → others_before rows (g.succ a y).task xs (distance rows (g.succ a y).task r) ≡ b → (count (reenters p q) (cond b (item.Reenter a l ys ∷ zs) (item.Reenter a l (y ∷ ys) ∷ zs)) ≡ count (reenters p q) (item.Reenter a l (y ∷ ys) ∷ zs)) ⊎ (others_before rows (g.succ p q).task xs (distance rows (g.succ p q).task r) ≡ true)
      by false f = inl refl
      by true f = ⊎_elim
          (λ here. ⊎_elim
          (λ this. inr (ap (λ o. others_before rows (g.succ o q).task xs (distance rows (g.succ o q).task r)) here.1 ∙ ap (λ o. others_before rows (g.succ a o).task xs (distance rows (g.succ a o).task r)) this.1 ∙ f))
          (λ other. inl (ap (λ (b : Bool). bump (eqb p a && b) (count (reenters p q) zs)) (sym (ap (λ (b : Bool). cond b true (is_in q ys)) other.0)))) (eqb_tells q y))
          (λ other. inl (ap (λ (b : Bool). bump (b && is_in q ys) (count (reenters p q) zs)) other.0 ∙ sym (ap (λ (b : Bool). bump (b && is_in q (y ∷ ys)) (count (reenters p q) zs)) other.0))) (eqb_tells p a)
  skipped_ports p q (item.Explore a l j ∷ zs) = inl refl
  skipped_ports p q (item.Compute a l b d f ∷ zs) = inl refl
  skipped_ports p q (item.Close a l w ∷ zs) = inl refl
  skipped_ports p q (item.Notify a l w ps ∷ zs) = inl refl
  skipped_ports p q (item.Suspect a l b d ∷ zs) = inl refl
  skipped_ports p q (item.Renew a l d ∷ zs) = inl refl
  skipped_ports p q (item.Owe a j l ∷ zs) = inl refl

  pub tops_same : (q : Item → Bool) → ((a l y : ℕ) (ys : List ℕ) → q (item.Reenter a l ys) ≡ q (item.Reenter a l (y ∷ ys))) → (ss : List Stack) → in_stacks q (on_top (skipped_items g rows r xs) ss) ≡ in_stacks q ss
  tops_same q same [] = refl
  tops_same q same (u ∷ ss) = ap (λ o. o + in_stacks q ss) (skipped_same q same u.items)

  tops_ports : (p q : ℕ) (ss : List Stack) → (in_stacks (reenters p q) (on_top (skipped_items g rows r xs) ss) ≡ in_stacks (reenters p q) ss) ⊎ (others_before rows (g.succ p q).task xs (distance rows (g.succ p q).task r) ≡ true)
  tops_ports p q [] = inl refl
  tops_ports p q (u ∷ ss) = ⊎_elim (λ o. inl (ap (λ y. y + in_stacks (reenters p q) ss) o)) (λ o. inr o) (skipped_ports p q u.items)

reenter_carries : (i : Job) (m l a b y : ℕ) (ys : List ℕ) → Rattle.core_state.specs.Tests.carries i m l (item.Reenter a b ys) ≡ Rattle.core_state.specs.Tests.carries i m l (item.Reenter a b (y ∷ ys))
reenter_carries Explore m l a b y ys = refl
reenter_carries Compute m l a b y ys = refl

module _ (e : Setting) (fit : Sound e) (s t : Core) (r : ℕ) (v : View) (can : CanLook e v r) (c : Change s t (key r) 0 0 v (change_top (skipped_items e.graph e.shape.rows r v.known) v)) (inv : Invariant e s) where
  words : (a : Spot) → t.word a ≡ s.word a
  words (key z) = dite (ℕ_discrete z r) (λ q. ap (λ o. t.word (key o)) q ∙ c.left_is ∙ sym c.found_is ∙ sym (ap (λ o. s.word (key o)) q)) (λ ne. c.others (key z) (λ q. ne cc))
  words a = c.others a (λ q. cc)

  none : (q : Item → Bool) → ((a l y : ℕ) (ys : List ℕ) → q (item.Reenter a l ys) ≡ q (item.Reenter a l (y ∷ ys))) → items q (change_top (skipped_items e.graph e.shape.rows r v.known) v) ≡ items q v
  none q same = tops_same e.graph e.shape.rows r v.known q same v.stacks

  root : HasRow e s e.graph.root
  root = inv.keys.of_root

  -- the same step, seen as one on a descriptor
  recast : Change s t (descriptor root.0) (s.word (descriptor root.0)) (s.word (descriptor root.0)) v (change_top (skipped_items e.graph e.shape.rows r v.known) v)
  recast = record { found_is = refl; left_is = words (descriptor root.0); others = λ a ne. words a; sums = c.sums; within = c.within; alone = c.alone; blocks = λ b ne. c.blocks b (λ q. cc) }

  skip_view : LookView e s root.0 e.graph.root (s.word (descriptor root.0)) word.Descriptor v (change_top (skipped_items e.graph e.shape.rows r v.known) v)
  skip_view = record {
    records_are = refl;
    hands_are = refl;
    strikes_are = refl;
    stacks_as_many = push_length (skipped_items e.graph e.shape.rows r v.known) v.stacks;
    spare_same = refl;
    comes = λ i m l. push_came i m l (skipped_items e.graph e.shape.rows r v.known) v.stacks;
    life_known = λ m l z. inl refl;
    mark_known = λ m l z. inl refl;
    closed_known = λ m l d some. inl refl;
    row_known = λ m d. refl;
    waits_known = λ m l q. refl;
    idle_known = refl;
    stopped_known = refl;
    stops_known = refl;
    owes = λ i m l. none (Rattle.core_state.specs.Tests.is_owed i m l) (λ a b y ys. refl);
    begins = λ i m l. ap (λ x. x + Rattle.core_state.specs.Counts.ended i m l v) (none (Rattle.core_state.specs.Tests.carries i m l) (λ a b y ys. reenter_carries i m l a b y ys));
    ends = λ i m l. inl refl;
    ends_up = λ i m l. omega arith;
    few = let a = none Rattle.core_state.specs.Tests.is_owe (λ a b y ys. refl) in omega (arith, a);
    wrong = λ b. let a = ap (λ x. cond (eqb x 0) (Rattle.core_state.specs.Counts.in_hand b v) 0) (none (Rattle.core_state.specs.Tests.is_made_any e.graph.root) (λ a b y ys. refl)) in omega (arith, a);
    at = λ m. let a = none (Rattle.core_state.specs.Tests.is_at m) (λ a b y ys. refl) in omega (arith, a);
    renews = λ m. none (is_renew m) (λ a b y ys. refl);
    renew_ats = λ m l d. none (Rattle.core_state.specs.Tests.is_renew_at m l d) (λ a b y ys. refl);
    unmade = λ m l. let a = none (Rattle.core_state.specs.Tests.is_unmade m l) (λ a b y ys. refl) in omega (arith, a);
    computes = λ m l. let a = none (Rattle.core_state.specs.Tests.is_compute m l) (λ a b y ys. refl) in omega (arith, a);
    made = λ m l. let a = none (Rattle.core_state.specs.Tests.is_made m l) (λ a b y ys. refl) in omega (arith, a);
    early = none (Rattle.core_state.specs.Work.is_made_early e.graph) (λ a b y ys. refl);
    closes = λ m l. let a = none (Rattle.core_state.specs.Tests.is_close m l) (λ a b y ys. refl) in omega (arith, a);
    closes_from = λ m l d. let a = none (Rattle.core_state.specs.Tests.is_close_from m l d) (λ a b y ys. refl) in omega (arith, a);
    tells_word = λ m l d. let a = none (Rattle.core_state.specs.Tests.is_notify m l d) (λ a b y ys. refl) in omega (arith, a);
    tells = λ p q. let a = none (notifies p q) (λ a b y ys. refl) in omega (arith, a);
    blames = λ b d. inl (let a = none (Rattle.core_state.specs.Tests.suspects_block b d) (λ a b y ys. refl) in omega (arith, a));
    suspected = λ m l. inl (let a = none (Rattle.core_state.specs.Tests.is_suspect m l) (λ a b y ys. refl) in omega (arith, a));
    root_clear = λ l. let a = none (Rattle.core_state.specs.Tests.is_suspect e.graph.root l) (λ a b y ys. refl) in omega (arith, a);
    caused = λ m l d. inl (let a = none (Rattle.core_state.specs.Tests.is_suspect_for m l d) (λ a b y ys. refl) in omega (arith, a));
    no_suspect = λ z. let a = none Rattle.core_state.specs.Tests.is_any_suspect (λ a b y ys. refl) in omega (arith, a);
    selfs = λ z m l i needs at. let a = none (Rattle.core_state.specs.Tests.explores m l i) (λ a b y ys. refl) in let b = none (Rattle.core_state.specs.Tests.is_owed Explore m l) (λ a b y ys. refl) in let d = none (Rattle.core_state.specs.Tests.is_suspect m l) (λ a b y ys. refl) in omega (arith, a, b, d);
    edges = λ z m l i needs low. let p : ℕ = (e.graph.pred m i).task in let q : ℕ = (e.graph.pred m i).port in let a = none (notifies (e.graph.pred m i).task (e.graph.pred m i).port) (λ a b y ys. refl) in let b = none (is_renew (e.graph.pred m i).task) (λ a b y ys. refl) in
        ⊎_elim (λ f. inl (omega (arith, a, b, f)))
        (λ f. absurd (let back = fit.lawful.back m i low in let k : ℕ = (e.graph.succ (e.graph.pred m i).task (e.graph.pred m i).port).task in
        no_row e s r (e.graph.succ (e.graph.pred m i).task (e.graph.pred m i).port).task v inv.keys c.within can.low f c.found_is (z, subst (HasKey e s z) (sym back.1) needs.has_key)))
        (tops_ports e.graph e.shape.rows r v.known (e.graph.pred m i).task (e.graph.pred m i).port v.stacks);
    working = λ z m old. let l : ℕ = life_of (s.word (descriptor z)) in let a = none (Rattle.core_state.specs.Tests.is_owed Compute m l) (λ a b y ys. refl) in let b = none (Rattle.core_state.specs.Tests.carries Compute m l) (λ a b y ys. refl) in
        let d = none (Rattle.core_state.specs.Tests.is_suspect m l) (λ a b y ys. refl) in let f = none (Rattle.core_state.specs.Tests.is_renew_of m l) (λ a b y ys. refl) in omega (arith, a, b, d, f);
  }

  pub keeps_look_empty : Invariant e t
  keeps_look_empty = look_keeps e s t root.0 e.graph.root (s.word (descriptor root.0)) word.Descriptor v (change_top (skipped_items e.graph e.shape.rows r v.known) v) recast root.1
      (λ z m old q. inv.keys.one_row z root.0 e.graph.root (subst (HasKey e s z) q old) root.1) skip_view words (λ b. c.blocks b (λ q. cc)) inv
