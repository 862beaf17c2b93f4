-- What was struck was planned; and with pending at 0 the records play the plan: what was planned and passed had its effect.
use Rattle.std.proofs.Common.{◌≡◌, ◌≢◌, ℕ, zero, suc, ◌+◌, ◌<◌, ◌≤◌, Bool, true, false, ◌&&◌, nat_le, nat_lt, eqb, List, [], ◌∷◌, cond, ⊎_elim, inl, inr, arith, sym, ap, refl, ◌∙◌}
use mathlib.Core.Logic.{dite}
use native.Mathlib.Decide.{dec_lt}
use Rattle.std.proofs.lemmas.Bool.{and_from, lt-ltb, le-ltb}
use Rattle.std.proofs.lemmas.Bool.Decides.{eqb_tells}
use Rattle.core_state.specs.Graph.{Setting, Sound}
use Rattle.core_state.specs.Counts.{hit, bump, count, struck_by, struck_upto}
use Rattle.core_state.specs.Tests.{is_of, is_close, is_closed, names_hit, strikes_upto}
use Rattle.core_state.specs.Change.{Core, Sums, many}
use Rattle.core_state.specs.Laws.{AllClosed, Planned, HasEffect, Played, planned}
use Rattle.core_state.specs.Rows.{HasRow}
use Rattle.core_state.specs.Cover.{Passed}
use Rattle.core_state.specs.Prevented.{Prevented}
use Rattle.core_state.specs.Invariant.{Invariant, IsQuiet}
use Rattle.core_state.specs.Views.{has_word}
use Rattle.graph_model.specs.declared.plan.Point.TheVariants as point
use Rattle.graph_model.specs.declared.record.Hit.{Hit}
use Rattle.core_state.specs.declared.views.View.{View}
use Rattle.core_state.proofs.Base.Counting.{bump_is, both}
use Rattle.core_state.proofs.Blocks.Versions.{many_some}
use Rattle.core_state.proofs.End.Lists.{count_below}
use Rattle.core_state.proofs.Row.Made.{closed_of}
use Rattle.core_state.proofs.Plan.Prevents.{none_above}
use Rattle.core_state.proofs.End.Quiet.{no_items, row_named}

-- the strike at a place below n that passes a test
abbrev below : (ℕ → Bool) → ℕ → ℕ → Bool
below p n m = nat_lt m n && p m

-- what passes the test at places below n + 1 does so below n, or is at n itself
one_below : (p : ℕ → Bool) (n m : ℕ) → hit (below p (suc n) m) ≤ hit (below p n m) + hit (p n && eqb n m)
one_below p n m = ⊎_elim (λ q. let a : hit (p n && eqb n m) ≡ hit (p m) = ap (λ (o : Bool). hit (p n && o)) q.0 ∙ here (p n) ∙ ap (λ o. hit (p o)) q.1 in let b = first (nat_lt m (suc n)) (p m) in omega (arith, a, b))
    (λ q. let a : hit (below p (suc n) m) ≡ hit (below p n m) = ap (λ (o : Bool). hit (o && p m)) (later q.1) in omega (arith, a)) (eqb_tells n m)
  where
    here : (b : Bool) → hit (b && true) ≡ hit b
    here true = refl
    here false = refl

    first : (a b : Bool) → hit (a && b) ≤ hit b
    first true b = omega arith
    first false b = omega arith

    later : n ≢ m → nat_lt m (suc n) ≡ nat_lt m n
    later ne = dite (dec_lt m n) (λ low. lt-ltb m (suc n) (omega (arith, low)) ∙ sym (lt-ltb m n low)) (λ high. le-ltb m (suc n) (omega (arith, high, ne)) ∙ sym (le-ltb m n (omega (arith, high))))

counts_below : (p : ℕ → Bool) (n : ℕ) (xs : List ℕ) → count (below p (suc n)) xs ≤ count (below p n) xs + count (λ m. p n && eqb n m) xs
counts_below p n [] = omega arith
counts_below p n (x ∷ xs) = let a = bump_is (below p (suc n) x) (count (below p (suc n)) xs) in let b = bump_is (below p n x) (count (below p n) xs) in let c = bump_is (p n && eqb n x) (count (λ m. p n && eqb n m) xs) in
    let d = one_below p n x in let f = counts_below p n xs in omega (arith, a, b, c, d, f)

-- strikes that pass a test at one place of the plan, where it passes at all
at_place : (b : Bool) (n : ℕ) (xs : List ℕ) → count (λ m. b && eqb n m) xs ≤ cond b (count (eqb n) xs) 0
at_place true n xs = omega arith
at_place false n [] = omega arith
at_place false n (x ∷ xs) = at_place false n xs

nowhere : (p : ℕ → Bool) (xs : List ℕ) → count (below p 0) xs ≡ 0
nowhere p [] = refl
nowhere p (x ∷ xs) = ap (λ (o : Bool). bump (o && p x) (count (below p 0) xs)) (le-ltb x 0 (omega arith)) ∙ nowhere p xs

module _ (e : Setting) (s : Core) (sums : Sums s) (i : Invariant e s) where
  all_zero : (f : View → ℕ) → ((v : View) → f v ≡ 0) → s.total f ≡ 0
  all_zero f h = none_above (s.total f) (λ z. let r = sums.some f z in let a = h r.0 in let b = r.1 in omega (arith, a, b))

  -- each place of the plan adds at most one to what was made
  made_below : (k l : ℕ) (h : Hit) (n : ℕ) → n ≤ e.plan.count → s.total (λ v. count (below (strikes_upto e.plan k l h) n) v.strikes) ≤ planned e.graph e.plan (many s) k l h n
  made_below k l h zero low = let a : s.total (λ v. count (below (strikes_upto e.plan k l h) 0) v.strikes) ≡ 0 = all_zero (λ v. count (below (strikes_upto e.plan k l h) 0) v.strikes) (λ v. nowhere (strikes_upto e.plan k l h) v.strikes) in omega (arith, a)
  made_below k l h (suc n) low = let p : ℕ → Bool = strikes_upto e.plan k l h in
      let a = sums.below (λ v. count (below (strikes_upto e.plan k l h) (suc n)) v.strikes) (λ v. count (below (strikes_upto e.plan k l h) n) v.strikes + cond (strikes_upto e.plan k l h n) (struck_by n v) 0) (λ v. let b = counts_below p n v.strikes in let c = at_place (p n) n v.strikes in omega (arith, b, c)) in
      let b = sums.add (λ v. count (below (strikes_upto e.plan k l h) n) v.strikes) (λ v. cond (strikes_upto e.plan k l h n) (struck_by n v) 0) in let c = made_below k l h n (omega (arith, low)) in let d : s.total (λ v. cond (strikes_upto e.plan k l h n) (struck_by n v) 0) ≤ hit (strikes_upto e.plan k l h n) = at_most (strikes_upto e.plan k l h n) in omega (arith, a, b, c, d)
    where
      at_most : (b : Bool) → s.total (λ v. cond b (struck_by n v) 0) ≤ hit b
      at_most true = (i.strikes.each n (omega (arith, low))).once
      at_most false = let a : s.total (λ v. 0) ≡ 0 = all_zero (λ v. 0) (λ v. refl) in omega (arith, a)

  made_planned : (k l : ℕ) (h : Hit) → s.total (struck_upto e.plan k l h) ≤ planned e.graph e.plan (many s) k l h e.plan.count
  made_planned k l h = let p : ℕ → Bool = strikes_upto e.plan k l h in let a = sums.below (struck_upto e.plan k l h) (λ v. count (below (strikes_upto e.plan k l h) e.plan.count) v.strikes)
      (λ v. count_below (strikes_upto e.plan k l h) (below (strikes_upto e.plan k l h) e.plan.count) (λ m z. and_from (nat_lt m e.plan.count) (strikes_upto e.plan k l h m) (both (nat_lt m e.plan.count) (eqb k (e.plan.strike m).key.0 && (nat_le (e.plan.strike m).life l && names_hit (e.plan.strike m).target h)) z).0 z) v.strikes) in
      let b = made_below k l h e.plan.count (omega arith) in omega (arith, a, b)

  -- no more strikes landed than were planned, and a strike on a block names what its key writes
  pub records_planned : Planned e.graph e.plan (many s)
  records_planned = record {
    few = λ k l h. let a = i.strikes.few k l h in let b = made_planned k l h in omega (arith, a, b);
    names_own = i.records.names_own;
  }

  module _ (fit : Sound e) (passed : Passed e s) (prevented : Prevented e s) where
    module _ (quiet : IsQuiet e s) (n : ℕ) (low : n < e.plan.count) where
      -- a life of which word 0 is closed has the strikes on its result made
      past_first : has_word e.graph (e.plan.strike n).key.0 (e.plan.strike n).target ≡ true → 0 < many s (is_closed (e.plan.strike n).key.0 (e.plan.strike n).life 0) → (e.plan.strike n).point ≡ point.Computed → 0 < s.total (struck_by n)
      past_first word z at = (passed.each n low word).computed at z

      -- a life whose words are all closed is closed no longer where pending is 0, so the strikes past its last word were made
      past_last : has_word e.graph (e.plan.strike n).key.0 (e.plan.strike n).target ≡ true → AllClosed e.graph e.plan (many s) (e.plan.strike n).key.0 (e.plan.strike n).life → (e.plan.strike n).point ≡ point.Notified → 0 < s.total (struck_by n)
      past_last word all at = ⊎_elim (λ z. absurd (let a = no_items e fit s sums i quiet (is_close (e.plan.strike n).key.0 (e.plan.strike n).life) in omega (arith, a, z))) (λ z. z) ((passed.each n low word).notified at all)

      -- its key has a row
      row_first : 0 < many s (is_closed (e.plan.strike n).key.0 (e.plan.strike n).life 0) → HasRow e s (e.plan.strike n).key.0
      row_first z = let k : ℕ = (e.plan.strike n).key.0 in let l : ℕ = (e.plan.strike n).life in let r = many_some e fit s sums i.records (is_closed k l 0) z in row_named e fit s sums i quiet k l (r.2 (is_of k l) (closed_of k l 0 r.0 r.1))

      row_all : AllClosed e.graph e.plan (many s) (e.plan.strike n).key.0 (e.plan.strike n).life → HasRow e s (e.plan.strike n).key.0
      row_all all = row_first (all 0 (fit.lawful.some_word (e.plan.strike n).key.0))

      effect : HasEffect e.graph e.plan (many s) (e.plan.strike n)
      effect = record {
        explored_descriptor = (prevented.each n low).explored_descriptor;
        explored_notify = (prevented.each n low).explored_notify;
        ready_descriptor = λ at on. let a = (prevented.each n low).ready_descriptor at on in omega (arith, a);
        ready_notify = (prevented.each n low).ready_notify;
        computed_notify = (prevented.each n low).computed_notify;
        computed_descriptor = λ at on z. let row = row_first z in ((i.strikes.each n low).on_descriptor row.0 row.1 (past_first (ap (has_word e.graph (e.plan.strike n).key.0) on) z at) on).recorded;
        computed_block = λ at on z. (i.strikes.each n low).on_block (past_first (ap (has_word e.graph (e.plan.strike n).key.0) on) z at) on (inl at);
        notified_descriptor = λ at on all. let row = row_all all in ((i.strikes.each n low).on_descriptor row.0 row.1 (past_last (ap (has_word e.graph (e.plan.strike n).key.0) on) all at) on).recorded;
        notified_notify = λ w at on inside all. let row = row_all all in ((i.strikes.each n low).on_notify row.0 w row.1 (past_last (ap (has_word e.graph (e.plan.strike n).key.0) on ∙ lt-ltb w (e.graph.notify_words (e.plan.strike n).key.0) inside) all at) on).recorded;
        notified_block = λ at on all. (i.strikes.each n low).on_block (past_last (ap (has_word e.graph (e.plan.strike n).key.0) on) all at) on (inr at);
      }

    -- with pending at 0 the records play the plan
    pub records_played : IsQuiet e s → Played e.graph e.plan (many s)
    records_played quiet = record { planned = records_planned; effects = λ n low. effect quiet n low }
