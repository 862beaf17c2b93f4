-- A strike on a word of a row keeps every part, over what it leaves of the word's content.
use Rattle.std.proofs.Common.{◌≡◌, ◌⊎◌, ℕ, ◌+◌, ◌≤◌, ◌<◌, Bool, true, false, cond, ◌&&◌, eqb, min, ⊎_elim, inl, inr, arith, sym, ap, refl, ◌∙◌, subst}
use mathlib.Core.Logic.{dite}
use native.Mathlib.Decide.{ℕ_discrete}
use Rattle.std.proofs.lemmas.Bool.{eqb-true, le-leb}
use Rattle.core_state.specs.Graph.{Setting}
use Rattle.core_state.specs.Words.{Spot, pending, stop, key, descriptor, notify, recovery, posted, turn, spot_of, life_of, mark_of, life_shown, mark_shown, standing_life, replacing}
use Rattle.core_state.specs.Counts.{hit, count, items, ended, in_hand, in_wrong_hand, facts, noted}
use Rattle.core_state.specs.Tests.{two, same_hit, is_suspect, is_made_any, is_hand, is_idle, is_stopped, is_stops, is_seen_life, is_seen_mark, is_seen_closed, is_computed, is_closed, is_version, is_struck, is_struck_from, is_any_struck, is_misstruck, is_replaced}
use Rattle.core_state.specs.Change.{Core, Change, Sums, many}
use Rattle.core_state.specs.Rows.{HasKey, Empty, Content, Facts}
use Rattle.core_state.specs.Work.{RootWork}
use Rattle.core_state.specs.Blocks.{Blocks}
use Rattle.core_state.specs.Records.{Landed, Strikes}
use Rattle.core_state.specs.Invariant.{Invariant}
use Rattle.core_state.specs.Effects.{seen, saw}
use Rattle.core_state.specs.Views.{key_of, note, strike_made}
use Rattle.graph_model.specs.declared.record.Hit.{Hit}
use Rattle.graph_model.specs.declared.record.Record.{Record}
use Rattle.graph_model.specs.declared.record.Record.TheVariants as record_of
use Rattle.core_state.specs.declared.job.Job.TheVariants.{Compute}
use Rattle.core_state.specs.declared.views.Known.{Known}
use Rattle.core_state.specs.declared.views.View.{View}
use Rattle.core_state.specs.declared.views.Word.{Word}
use Rattle.core_state.specs.declared.views.Word.TheVariants as word
use Rattle.core_state.proofs.Base.Counting.{bump_is, eqb_here, two_here, both}
use Rattle.core_state.proofs.Row.View.{count_below}
use Rattle.core_state.proofs.Base.Frame.{had, has_row}
use Rattle.core_state.proofs.Load.Recovery.{life_any, mark_any, same_spot, no_turn}
use Rattle.core_state.proofs.Spend.View.{seen_other}
use Rattle.core_state.proofs.Strike.View.{StrikeView, StrikeStep, eq, its, same_items, same_ended, more, rec, one_more, fact, made_keys, made_lives, made_credits, made_jobs, made_computings, made_causes, made_cover, made_activity, made_records, made_no_fault}
use Rattle.core_state.proofs.Replace.Suspects.{none_struck}
use Rattle.core_state.proofs.Base.WeakFrame.{wide_root, wide_blocks}

-- the words that a strike can mark
abbrev pub shows_mark : Spot → Bool
shows_mark (descriptor r) = true
shows_mark (notify r d) = true
shows_mark _ = false

-- two names of one word name the same kind
same_kind : (z r : ℕ) (x y : Word) → spot_of z x ≡ spot_of r y → x ≡ y
same_kind z r word.Descriptor word.Descriptor q = refl
same_kind z r (word.Notify a) (word.Notify b) q = let same : a ≡ b = cc in ap word.Notify same
same_kind z r word.Recovery word.Recovery q = refl
same_kind z r x y q = absurd cc

-- one word has the mark now, and shows the life that it showed
module _ (e : Setting) (s t : Core) (r n left : ℕ) (y : Word) (v w : View) (is : shows_mark (spot_of r y) ≡ true) (life : life_shown y left ≡ life_shown y n) (marked : mark_shown y left ≡ 1) (c : Change s t (spot_of r y) n left v w) where
  plain : (a : Spot) → shows_mark a ≡ false → t.word a ≡ s.word a
  plain a other = c.others a (λ q. let x : shows_mark a ≡ shows_mark (spot_of r y) = ap shows_mark q in cc)

  pub word_step : StrikeStep e s t v w
  word_step = record {
    keys = λ z. plain (key z) refl;
    recoveries = λ z. plain (recovery z) refl;
    posts = λ i z. plain (posted i z) refl;
    pending_same = plain pending refl;
    stop_same = plain stop refl;
    lives = λ z x. ⊎_elim (λ q. subst (λ (o : Word). life_shown o (t.word (spot_of z x)) ≡ life_shown o (s.word (spot_of z x))) (sym (same_kind z r x y q))
        (ap (λ a. life_shown y (t.word a)) q ∙ ap (life_shown y) c.left_is ∙ life ∙ sym (ap (life_shown y) c.found_is) ∙ sym (ap (λ a. life_shown y (s.word a)) q))) (λ ne. ap (life_shown x) (c.others (spot_of z x) ne)) (same_spot r y (spot_of z x));
    marks = λ z x had. ⊎_elim (λ q. subst (λ (o : Word). mark_shown o (t.word (spot_of z x)) ≡ 1) (sym (same_kind z r x y q)) (ap (λ a. mark_shown y (t.word a)) q ∙ ap (mark_shown y) c.left_is ∙ marked)) (λ ne. ap (mark_shown x) (c.others (spot_of z x) ne) ∙ had) (same_spot r y (spot_of z x));
    sums = c.sums;
    within = c.within;
    alone = c.alone;
  }

-- what either answer leaves of the view
module _ (strike k n : ℕ) (y : Word) (h : Hit) (v : View) where
  pub landed_view : StrikeView strike k (life_of n) h true v (note (record_of.Struck (key_of k) (life_of n) h) (saw k y n (strike_made strike v)))
  landed_view = record {
    stacks_are = refl;
    ended_are = refl;
    spare_same = refl;
    strikes_are = refl;
    noted_more = λ p. let a = bump_is (p (record_of.Struck (key_of k) (life_of n) h)) (count p v.records) in omega (arith, a);
    known_same = λ f life mark. seen_other f k y n v.known (λ a. life y a) (λ a. mark y a);
  }

  pub missed_view : StrikeView strike k (life_of n) h false v (saw k y n (strike_made strike v))
  missed_view = record {
    stacks_are = refl;
    ended_are = refl;
    spare_same = refl;
    strikes_are = refl;
    noted_more = λ p. omega arith;
    known_same = λ f life mark. seen_other f k y n v.known (λ a. life y a) (λ a. mark y a);
  }

-- a strike of a life is one of that life or a later one
struck_from : (k l m : ℕ) (h : Hit) → l ≤ m → (x : Record) → is_struck k m h x ≡ true → is_struck_from k l h x ≡ true
struck_from k l m h low (record_of.Struck a d i) z = let f = both (two k m a.0 d) (same_hit h i) z in let g = both (eqb k a.0) (eqb m d) f.0 in let life = eqb-true m d g.1 in rw (g.0, le-leb l d (omega (arith, life, low)), f.1)
struck_from k l m h low x z = absurd cc

module _ (e : Setting) (s t : Core) (sums : Sums s) (strike r k l n left : ℕ) (y : Word) (h : Hit) (landed : Bool) (v w : View) (c : Change s t (spot_of r y) n left v w) (step : StrikeStep e s t v w) (u : StrikeView strike k (life_of n) h landed v w) (known_is : w.known ≡ seen k y n v.known) (hands_are : w.hands ≡ v.hands)
    (has : HasKey e s r k) (itself : same_hit h h ≡ true) (old : landed ≡ false → 0 < many s (is_struck k (life_of n) h)) (inv : Invariant e s) where
  either : (landed ≡ true) ⊎ (landed ≡ false)
  either = by landed
    where
      by : (b : Bool) → (b ≡ true) ⊎ (b ≡ false)
      by true = inl refl
      by false = inr refl

  -- a record of the strike, or of the mark that it met, stands
  recorded_by : (p : Record → Bool) → p (record_of.Struck (key_of k) (life_of n) h) ≡ true → (landed ≡ false → 0 < many s p) → 0 < many t p
  recorded_by p is before = ⊎_elim (λ z. let a = one_more e s t strike k (life_of n) h landed v w step u inv p in let b : hit (landed && p (record_of.Struck (key_of k) (life_of n) h)) ≡ 1 = ap (λ (o : Bool). hit (o && p (record_of.Struck (key_of k) (life_of n) h))) z ∙ ap hit is in omega (arith, a, b))
      (λ z. let a = before z in let b = more e s t strike k (life_of n) h landed v w step u inv p in omega (arith, a, b)) either

  pub struck_recorded : 0 < many t (is_struck k (life_of n) h)
  struck_recorded = recorded_by (is_struck k (life_of n) h) (rw (two_here k (life_of n), itself)) old

  any_recorded : 0 < many t is_any_struck
  any_recorded = recorded_by is_any_struck refl (λ z. dite (ℕ_discrete (many s is_any_struck) 0) (λ q. absurd (let a = none_struck s sums q k (life_of n) h in let b = old z in omega (arith, a, b))) (λ ne. omega (arith, ne)))

  -- the mark stands in this life, which is none before that of the strike
  pub struck_landed : l ≤ life_of n → life_of left ≡ life_of n → mark_of left ≡ 1 → Landed e t k l left h
  struck_landed low life marked = record {
    recorded = recorded_by (is_struck_from k l h) (rw (eqb_here k, le-leb l (life_of n) low, itself)) (λ z. let a = old z in let b = sums.below (noted (is_struck k (life_of n) h)) (noted (is_struck_from k l h)) (λ o. count_below (is_struck k (life_of n) h) (is_struck_from k l h) (struck_from k l (life_of n) h low) o.records) in omega (arith, a, b));
    stands = inr (omega (arith, low, life), marked);
  }

  at_row : (z a : ℕ) → HasKey e s z a → a ≡ k → z ≡ r
  at_row z a had' q = inv.keys.one_row z r k (subst (HasKey e s z) q had') has

  word_is : (z a : ℕ) → HasKey e s z a → a ≡ k → s.word (spot_of z y) ≡ n
  word_is z a had' q = ap (λ o. s.word (spot_of o y)) (at_row z a had' q) ∙ c.found_is

  struck_facts : Facts e t
  struck_facts = record {
    idle = λ z. step.pending_same ∙ inv.facts.idle (let a = fact e s t strike k (life_of n) h landed v w step u inv is_idle (λ q o. refl) (λ q o. refl) in omega (arith, a, z));
    stopped = λ z. step.stop_same ∙ inv.facts.stopped (let a = fact e s t strike k (life_of n) h landed v w step u inv is_stopped (λ q o. refl) (λ q o. refl) in omega (arith, a, z));
    stops = step.stop_same ∙ inv.facts.stops ∙ ap (min 1) (sym (fact e s t strike k (life_of n) h landed v w step u inv is_stops (λ q o. refl) (λ q o. refl)));
    closed = λ a b d z. let x = inv.facts.closed a b d (let f = fact e s t strike k (life_of n) h landed v w step u inv (is_seen_closed a b d) (λ q o. refl) (λ q o. refl) in omega (arith, f, z)) in let f = more e s t strike k (life_of n) h landed v w step u inv (is_closed a b d) in omega (arith, x, f);
    row_of_life = λ a b d z. has_row e s t step.keys a (⊎_elim (λ q. inv.facts.row_of_life a b d (let f = seen_same (is_seen_life a d b) q in omega (arith, f, z))) (λ q. (r, subst (HasKey e s r) (sym q.0) has)) (life_any y a b d k n v.known));
    row_of_mark = λ a b d z. has_row e s t step.keys a (⊎_elim (λ q. inv.facts.row_of_mark a b d (let f = seen_same (is_seen_mark a d b) q in omega (arith, f, z))) (λ q. (r, subst (HasKey e s r) (sym q.0) has)) (mark_any y a b d k n v.known));
    life = λ x a b d it z. let old_key = had e s t step.keys x a it in subst (λ o. b ≤ o) (sym (step.lives x d)) (⊎_elim (λ q. inv.facts.life x a b d old_key (let f = seen_same (is_seen_life a d b) q in omega (arith, f, z)))
        (λ q. subst (λ (o : Word). b ≤ life_shown o (s.word (spot_of x o))) (sym q.2) (let f = q.1 in let g = ap (life_shown y) (word_is x a old_key q.0) in omega (arith, f, g))) (life_any y a b d k n v.known));
    mark = λ x a b d it z. let old_key = had e s t step.keys x a it in ⊎_elim (λ q. inl (subst (λ o. b < o) (sym (step.lives x d)) q)) (λ q. inr (q.0 ∙ sym (step.lives x d), step.marks x d q.1)) (was_marked x a b d old_key z);
  }
    where
      seen_same : (f : Known → Bool) → count f (seen k y n v.known) ≡ count f v.known → t.total (facts f) ≡ s.total (facts f)
      seen_same f q = eq e s t strike k (life_of n) h landed v w step u inv (facts f) (ap (count f) known_is ∙ q)

      was_marked : (x a b : ℕ) (d : Word) → HasKey e s x a → 0 < t.total (facts (is_seen_mark a d b)) → (b < life_shown d (s.word (spot_of x d))) ⊎ ((b ≡ life_shown d (s.word (spot_of x d))) × (mark_shown d (s.word (spot_of x d)) ≡ 1))
      was_marked x a b d old_key z = ⊎_elim (λ q. inv.facts.mark x a b d old_key (let f = seen_same (is_seen_mark a d b) q in omega (arith, f, z)))
          (λ q. subst (λ (o : Word). (b < life_shown o (s.word (spot_of x o))) ⊎ ((b ≡ life_shown o (s.word (spot_of x o))) × (mark_shown o (s.word (spot_of x o)) ≡ 1))) (sym q.2)
          (inr (q.1 ∙ sym (ap (life_shown y) (word_is x a old_key q.0)), ap (mark_shown y) (word_is x a old_key q.0) ∙ q.3))) (mark_any y a b d k n v.known)

  hands_same : (b : ℕ) → in_hand b w ≡ in_hand b v
  hands_same b = ap (count (is_hand b)) hands_are

  struck_root : RootWork e t
  struck_root = wide_root e s t (λ a z. let b = its e s t strike k (life_of n) h landed v w step u inv (is_suspect e.graph.root a) in omega (arith, b, z)) (λ a. rec e s t strike k (life_of n) h landed v w step u inv (is_replaced e.graph.root a) refl)
      (λ a. let b = eq e s t strike k (life_of n) h landed v w step u inv (ended Compute e.graph.root a) (same_ended e s t strike k (life_of n) h landed v w step u inv Compute e.graph.root a) in omega (arith, b)) (λ a. rec e s t strike k (life_of n) h landed v w step u inv (is_computed e.graph.root a) refl)
      (λ b a. let d = eq e s t strike k (life_of n) h landed v w step u inv (in_wrong_hand b a) (ap (λ o. cond (eqb o 0) (in_hand b w) 0) (same_items e s t strike k (life_of n) h landed v w step u inv (is_made_any a)) ∙ ap (λ o. cond (eqb (items (is_made_any a) v) 0) o 0) (hands_same b)) in omega (arith, d))
      (λ b. eq e s t strike k (life_of n) h landed v w step u inv (in_hand b) (hands_same b)) (λ b. c.blocks b (no_turn r y b)) inv.work.root

  struck_blocks : Blocks e t
  struck_blocks = wide_blocks e s t (λ b. c.others (turn b) (no_turn r y b)) (λ b. eq e s t strike k (life_of n) h landed v w step u inv (in_hand b) (hands_same b)) (more e s t strike k (life_of n) h landed v w step u inv) (λ b a. rec e s t strike k (life_of n) h landed v w step u inv (is_version b a) refl) (λ b. c.blocks b (no_turn r y b)) inv.blocks

  pub struck_keeps : life_of n ≤ standing_life (s.word (recovery r)) + replacing (s.word (recovery r)) → is_misstruck e.graph (record_of.Struck (key_of k) (life_of n) h) ≡ false → Empty e t → Content e t → Strikes e t → Invariant e t
  struck_keeps top own empty content strikes = record {
    keys = made_keys e s t strike k (life_of n) h landed v w step u inv;
    empty = empty;
    lives = made_lives e s t strike k (life_of n) h landed v w step u inv;
    content = content;
    facts = struck_facts;
    work = record {
      credits = made_credits e s t strike k (life_of n) h landed v w step u inv;
      jobs = made_jobs e s t strike k (life_of n) h landed v w step u inv;
      computings = made_computings e s t strike k (life_of n) h landed v w step u inv;
      root = struck_root;
    };
    blocks = struck_blocks;
    records = made_records e s t strike k (life_of n) h landed v w step u inv r has (omega arith) top own;
    causes = made_causes e s t strike k (life_of n) h landed v w step u inv;
    strikes = strikes;
    cover = made_cover e s t strike k (life_of n) h landed v w step u inv;
    activity = made_activity e s t strike k (life_of n) h landed v w step u inv;
    no_fault = made_no_fault e s t strike k (life_of n) h landed v w step u inv any_recorded;
  }
