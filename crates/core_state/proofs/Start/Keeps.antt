-- The table at the beginning meets the other parts of the invariant.
use Rattle.std.proofs.Common.{◌≡◌, ℕ, zero, suc, ◌+◌, ◌%◌, ◌<◌, ◌≤◌, Bool, true, false, cond, eqb, ne_eqb, nat_lt, nat_le, ◌&&◌, [], inl, inr, arith, sym, ap, refl, ◌∙◌, subst}
use Rattle.std.proofs.lemmas.Bool.{lt-ltb, le-ltb, le-leb}
use Rattle.core_state.specs.Graph.{Setting, Sound, Reached}
use Rattle.core_state.specs.Graph.Reached.{itself}
use Rattle.core_state.specs.Words.{Spot, pending, descriptor, recovery, posted, turn, life_of, standing_life, replacing}
use Rattle.core_state.specs.Counts.{hit, bump, items, noted, owed, held, ended, begun, came, stack_count, spare, too_many, in_hand, in_wrong_hand, struck_by, struck_idly}
use Rattle.core_state.specs.Tests.{two, is_of, is_spent, is_computed, is_written, is_version, is_miswritten, is_closed, is_closing, is_any_struck, is_struck, is_struck_from, is_struck_upto, is_struck_version, is_misstruck, is_replaced, is_replaced_for, is_suspect, is_suspect_for, is_any_suspect, is_unmade, is_made, is_compute, is_close, is_close_from, is_notify, is_loaded}
use Rattle.core_state.specs.Change.{Core, many}
use Rattle.core_state.specs.Views.{bare, opener}
use Rattle.core_state.specs.Rows.{HasKey}
use Rattle.core_state.specs.Work.{posted_count, Jobs, job_count, Work, is_made_early}
use Rattle.core_state.specs.Blocks.{Blocks}
use Rattle.core_state.specs.Records.{Records, Causes, Strikes}
use Rattle.core_state.specs.Prevented.{Prevented}
use Rattle.core_state.specs.Cover.{Needs, Cover, Activity, NoFault, Passed, covers_self}
use Rattle.core_state.specs.Invariant.{Invariant, Opening}
use Rattle.core_state.specs.declared.job.Job.{Job}
use Rattle.core_state.specs.declared.job.Job.TheVariants.{Explore, Compute}
use Rattle.core_state.specs.declared.views.View.{View}
use Rattle.core_state.proofs.Base.Counting.{some_two, two_here, not_two}
use Rattle.core_state.proofs.Start.Rows.{no_key, root_key, opening_keys, opening_empty, opening_lives, opening_content, opening_facts}

none_posted : (w : Spot → ℕ) → ((i : Job) (r : ℕ) → w (posted i r) ≡ 0) → (n : ℕ) → posted_count w n ≡ 0
none_posted w z zero = refl
none_posted w z (suc n) = let a = none_posted w z n in let b = z Explore n in let c = z Compute n in omega (arith, a, b, c)

pub no_hit : (l n : ℕ) → n ≡ 0 → 0 < l → hit (eqb l n) ≡ 0
no_hit l n z some = ap hit (ne_eqb l n (λ q. omega (arith, q, z, some)))

both_zero : (b : Bool) → ◌≡◌ {A = ℕ} (cond b 0 0) 0
both_zero true = refl
both_zero false = refl

module _ (e : Setting) (s : Core) (fit : Sound e) (o : Opening e s) where
  first : View
  first = opener o.parts_of e.graph.root (e.graph.root % e.shape.rows)

  none : (f : View → ℕ) → ((p : ℕ) → f (bare p []) ≡ 0) → f (opener o.parts_of e.graph.root (e.graph.root % e.shape.rows)) ≡ 0 → s.total f ≡ 0
  none f a b = o.views f a ∙ b

  nothing : {A : Type 0} → (n : ℕ) → n ≡ 0 → 0 < n → A
  nothing n z some = absurd (omega (arith, z, some))

  job_word : (i : Job) (r : ℕ) → s.word (posted i r) ≡ 0
  job_word i r = o.words (posted i r)

  held_first : (k l : ℕ) → held Explore k l (opener o.parts_of e.graph.root (e.graph.root % e.shape.rows)) ≡ bump (two k l e.graph.root 1) 0
  held_first k l = omega arith

  count_compute : (r k l : ℕ) → 0 < l → job_count e s Compute r k l ≡ 0
  count_compute r k l some = let a = none (owed Compute k l) (λ p. refl) refl in let b = none (held Compute k l) (λ p. refl) refl in let c = none (ended Compute k l) (λ p. refl) refl in let d = no_hit l (s.word (posted Compute r)) (job_word Compute r) some in omega (arith, a, b, c, d)

  count_explore : (r k l : ℕ) → 0 < l → job_count e s Explore r k l ≡ bump (two k l e.graph.root 1) 0
  count_explore r k l some = let a = none (owed Explore k l) (λ p. refl) refl in let b = o.views (held Explore k l) (λ p. refl) ∙ held_first k l in let c = none (ended Explore k l) (λ p. refl) refl in let d = no_hit l (s.word (posted Explore r)) (job_word Explore r) some in omega (arith, a, b, c, d)

  opening_jobs : Jobs e s
  opening_jobs = record {
    explored = λ r k l has some low. let a = count_explore r k l some in let f = (no_key e s fit o r k has).1 in let w = o.words (recovery r) in
        let z : standing_life (s.word (recovery r)) ≡ 1 = ap standing_life w in let q : l ≡ 1 = omega (arith, z, some, low) in
        let t : bump (two k l e.graph.root 1) 0 ≡ 1 = ap (λ (t : Bool). bump t 0) (subst (λ x. two k x e.graph.root 1 ≡ true) (sym q) (subst (λ x. two x 1 e.graph.root 1 ≡ true) (sym f) (two_here e.graph.root 1))) in omega (arith, a, t);
    not_explored = λ r k l has later. let w = o.words (recovery r) in let z : standing_life (s.word (recovery r)) ≡ 1 = ap standing_life w in let a = count_explore r k l (omega (arith, z, later)) in
        let t : bump (two k l e.graph.root 1) 0 ≡ 0 = ap (λ (t : Bool). bump t 0) (not_two k l e.graph.root 1 (λ q. let x = q.1 in omega (arith, x, z, later))) in omega (arith, a, t);
    computed = λ r k l has some. let a = count_compute r k l some in omega (arith, a);
    not_computed = λ r k l has later. let w = o.words (descriptor r) in let z : life_of (s.word (descriptor r)) ≡ 1 = ap life_of w in count_compute r k l (omega (arith, z, later));
    some_life = λ i k. some_life_of i k;
    ready = λ r k l j has some c place. nothing (job_count e s Compute r k l) (count_compute r k l some) c;
    came = λ i k l. came_of i k l;
  }
    where
      some_life_of : (i : Job) (k : ℕ) → s.total (owed i k 0) + s.total (held i k 0) + s.total (ended i k 0) ≡ 0
      some_life_of Explore k = let a = none (owed Explore k 0) (λ p. refl) refl in let b = o.views (held Explore k 0) (λ p. refl) ∙ held_first k 0 in let c = none (ended Explore k 0) (λ p. refl) refl in
          let t : bump (two k 0 e.graph.root 1) 0 ≡ 0 = ap (λ (t : Bool). bump t 0) (not_two k 0 e.graph.root 1 (λ q. let x = q.1 in omega (arith, x))) in omega (arith, a, b, c, t)
      some_life_of Compute k = let a = none (owed Compute k 0) (λ p. refl) refl in let b = none (held Compute k 0) (λ p. refl) refl in let c = none (ended Compute k 0) (λ p. refl) refl in omega (arith, a, b, c)

      came_of : (i : Job) (k l : ℕ) → s.total (came i k l) ≤ s.total (begun i k l)
      came_of Explore k l = let a = o.views (came Explore k l) (λ p. refl) in let b = o.views (begun Explore k l) (λ p. refl) in omega (arith, a, b)
      came_of Compute k l = let a = none (came Compute k l) (λ p. refl) refl in omega (arith, a)

  opening_work : Work e s
  opening_work = record {
    credits = record {
      sum = let a = o.words pending in let b = o.views stack_count (λ p. refl) in let c = none spare (λ p. refl) refl in let d = none_posted s.word job_word e.shape.rows in omega (arith, a, b, c, d);
      few_spare = none too_many (λ p. refl) refl;
    };
    jobs = opening_jobs;
    computings = record {
      each = λ r k l has some. record {
        unmade = λ z. none (noted (is_computed k l)) (λ p. refl) refl;
        made = λ z. nothing (s.total (items (is_made k l))) (none (items (is_made k l)) (λ p. refl) refl) z;
        unwritten = λ z. none (noted (is_written k l)) (λ p. refl) refl;
        written = λ z. nothing (s.total (items (is_close k l))) (none (items (is_close k l)) (λ p. refl) refl) z;
        closing = λ w i z. nothing (s.total (items (is_close_from k l w))) (none (items (is_close_from k l w)) (λ p. refl) refl) z;
        close_word = λ w z. nothing (s.total (items (is_close_from k l w))) (none (items (is_close_from k l w)) (λ p. refl) refl) z;
        notifying = λ w z. nothing (s.total (items (is_notify k l w))) (none (items (is_notify k l w)) (λ p. refl) refl) z;
        begun = λ z. nothing (many s (is_computed k l)) (none (noted (is_computed k l)) (λ p. refl) refl) z;
      };
      none_early = none (items (is_made_early e.graph)) (λ p. refl) refl;
    };
    root = record {
      right_hand = none (in_wrong_hand (e.graph.block e.graph.root) e.graph.root) (λ p. refl) refl;
      unwritten = λ z. (o.never_written (e.graph.block e.graph.root)).0;
      given_up = λ l z. nothing (s.total (items (is_suspect e.graph.root l)) + many s (is_replaced e.graph.root l)) (let a = none (items (is_suspect e.graph.root l)) (λ p. refl) refl in let b = none (noted (is_replaced e.graph.root l)) (λ p. refl) refl in omega (arith, a, b)) z;
    };
  }

  opening_blocks : Blocks e s
  opening_blocks = record {
    each = λ b low. let a = o.never_written b in let tag = a.0 in let h = none (in_hand b) (λ p. refl) refl in record {
      taken = o.words (turn b) ∙ sym h;
      once = omega (arith, h);
      holds = record {
        good = λ u z. nothing (s.block b).tag tag z;
        written = λ z. nothing (s.block b).tag tag z;
        struck = λ z. let y = a.1 in absurd cc;
        twice = λ u less z. nothing (many s (is_version b u)) (none (noted (is_version b u)) (λ p. refl) refl) z;
        root = λ z. a.1;
      };
    };
  }

  -- the one record
  of_first : (k l : ℕ) → many s (is_of k l) ≡ bump (two k l e.graph.root 1) 0
  of_first k l = o.views (noted (is_of k l)) (λ p. refl)

  is_first : (k l : ℕ) → 0 < many s (is_of k l) → (k ≡ e.graph.root) × (l ≡ 1)
  is_first k l z = let a = of_first k l in some_two k l e.graph.root 1 (omega (arith, a, z))

  opening_records : Records e s
  opening_records = record {
    spent = record {
      once = λ k l j. let a = none (noted (is_spent k l j)) (λ p. refl) refl in omega (arith, a);
      is_place = λ k l j z. nothing (many s (is_spent k l j)) (none (noted (is_spent k l j)) (λ p. refl) refl) z;
    };
    computed = record {
      computed_once = λ k l. let a = none (noted (is_computed k l)) (λ p. refl) refl in omega (arith, a);
      computed_ready = λ k l j z place. nothing (many s (is_computed k l)) (none (noted (is_computed k l)) (λ p. refl) refl) z;
      written_once = λ k l. let a = none (noted (is_written k l)) (λ p. refl) refl in omega (arith, a);
      written_place = none (noted (is_miswritten e.graph)) (λ p. refl) refl;
      written_computed = λ k l z. nothing (many s (is_written k l)) (none (noted (is_written k l)) (λ p. refl) refl) z;
      closed_once = λ k l w. let a = none (noted (is_closed k l w)) (λ p. refl) refl in omega (arith, a);
      closed_word = λ k l w z. nothing (many s (is_closed k l w)) (none (noted (is_closed k l w)) (λ p. refl) refl) z;
      closed_written = λ k l w z. nothing (many s (is_closed k l w)) (none (noted (is_closed k l w)) (λ p. refl) refl) z;
    };
    lives = record {
      replaced_before = λ k l later z. let a = (is_first k l z).1 in absurd (omega (arith, a, later));
      created_once = λ k l z. (opening_keys e s fit o).created (e.graph.root % e.shape.rows) k (subst (HasKey e s (e.graph.root % e.shape.rows)) (sym (is_first k l z).0) (root_key e s fit o));
      reached = λ k l z. subst (Reached e.graph) (sym (is_first k l z).0) itself;
    };
    edges = record { closed = λ k l j low z. nothing (many s (is_spent k l j)) (none (noted (is_spent k l j)) (λ p. refl) refl) z };
    some_life = λ k. let a = of_first k 0 in a ∙ ap (λ (t : Bool). bump t 0) (not_two k 0 e.graph.root 1 (λ q. let x = q.1 in omega (arith, x)));
    replaced = λ r k l has. none (noted (is_replaced k l)) (λ p. refl) refl ∙ sym (subst (λ n. hit (nat_lt 0 l && nat_lt l (standing_life n + replacing n)) ≡ 0) (sym (o.words (recovery r))) (no_life l));
    names_own = none (noted (is_misstruck e.graph)) (λ p. refl) refl;
  }
    where
      no_life : (l : ℕ) → hit (nat_lt 0 l && nat_lt l 1) ≡ 0
      no_life zero = refl
      no_life (suc n) = rw (lt-ltb 0 (suc n) (omega arith), le-ltb (suc n) 1 (omega arith))

  opening_causes : Causes e s
  opening_causes = record {
    replaced = record { shown = λ k l c z. nothing (many s (is_replaced_for k l c)) (none (noted (is_replaced_for k l c)) (λ p. refl) refl) z };
    suspected = λ k l c z. nothing (s.total (items (is_suspect_for k l c))) (none (items (is_suspect_for k l c)) (λ p. refl) refl) z;
  }

  unmade : (n : ℕ) → s.total (struck_by n) ≡ 0
  unmade n = none (struck_by n) (λ p. refl) refl

  opening_strikes : Strikes e s
  opening_strikes = record {
    each = λ n low. record {
      once = let a = unmade n in omega (arith, a);
      by_its_job = none (struck_idly (e.plan.strike n) n) (λ p. refl) (both_zero (eqb (begun (Rattle.core_state.specs.Tests.job_of (e.plan.strike n).point) (e.plan.strike n).key.0 (e.plan.strike n).life (opener o.parts_of e.graph.root (e.graph.root % e.shape.rows))) 0));
      has_word = λ z. nothing (s.total (struck_by n)) (unmade n) z;
      on_descriptor = λ r has z. nothing (s.total (struck_by n)) (unmade n) z;
      on_notify = λ r w has z. nothing (s.total (struck_by n)) (unmade n) z;
      on_block = λ z. nothing (s.total (struck_by n)) (unmade n) z;
    };
    planned = λ n low. unmade n;
    few = λ k l h. let a = none (noted (is_struck_upto k l h)) (λ p. refl) refl in omega (arith, a);
  }

  covered : (r k l j : ℕ) → Needs e s r k l j → 0 < s.total (covers_self k l j) + hit (eqb l (s.word (posted Explore r)))
  covered r k l j needs = let a = o.views (covers_self k l j) (λ p. refl) in let f = (no_key e s fit o r k needs.has_key).1 in let w = o.words (descriptor r) in let x = needs.life_shown in
      let q : l ≡ 1 = sym x ∙ ap life_of w in
      let t : two k l e.graph.root 1 ≡ true = subst (λ x. two k x e.graph.root 1 ≡ true) (sym q) (subst (λ x. two x 1 e.graph.root 1 ≡ true) (sym f) (two_here e.graph.root 1)) in
      let u : bump (two k l e.graph.root 1 && nat_le 0 j) 0 ≡ 1 = rw (t, le-leb 0 j (omega arith)) in
      let y : covers_self k l j (opener o.parts_of e.graph.root (e.graph.root % e.shape.rows)) ≡ bump (two k l e.graph.root 1 && nat_le 0 j) 0 = omega arith in omega (arith, a, y, u)

  pub opening_cover : Cover e s
  opening_cover = record {
    places = λ r k l j needs low. inl (let a = covered r k l j needs in omega (arith, a));
    self_place = λ r k l needs. covered r k l 40 needs;
  }

  opening_activity : Activity e s
  opening_activity = record { each = λ r k has all. nothing (many s (is_spent k (life_of (s.word (descriptor r))) 40)) (none (noted (is_spent k (life_of (s.word (descriptor r))) 40)) (λ p. refl) refl) (all 40 (inr refl)) }

  opening_no_fault : NoFault e s
  opening_no_fault = record {
    faultless = λ z. record {
      first_life = λ r k has. o.words (recovery r);
      none_suspected = none (items is_any_suspect) (λ p. refl) refl;
      newest = λ b u low some. nothing (many s (is_version b u)) (none (noted (is_version b u)) (λ p. refl) refl) some;
      readers_first = λ b u k some written. nothing (many s (is_version b (u + 1))) (none (noted (is_version b (u + 1))) (λ p. refl) refl) written;
    };
  }

  -- the first state of a table
  pub opening : Invariant e s
  opening = record {
    keys = opening_keys e s fit o;
    empty = opening_empty e s fit o;
    lives = opening_lives e s fit o;
    content = opening_content e s fit o;
    facts = opening_facts e s fit o;
    work = opening_work;
    blocks = opening_blocks;
    records = opening_records;
    causes = opening_causes;
    strikes = opening_strikes;
    cover = opening_cover;
    activity = opening_activity;
    no_fault = opening_no_fault;
  }

  pub opening_passed : Passed e s
  opening_passed = record {
    each = λ n low word. record {
      explored = λ at one z. nothing (many s (is_spent (e.plan.strike n).key.0 1 40)) (none (noted (is_spent (e.plan.strike n).key.0 1 40)) (λ p. refl) refl) z;
      ready = λ at z. nothing (many s (is_computed (e.plan.strike n).key.0 (e.plan.strike n).life) + s.total (items (is_loaded (e.plan.strike n).key.0 (e.plan.strike n).life)))
          (let a = none (noted (is_computed (e.plan.strike n).key.0 (e.plan.strike n).life)) (λ p. refl) refl in let b = none (items (is_loaded (e.plan.strike n).key.0 (e.plan.strike n).life)) (λ p. refl) refl in omega (arith, a, b)) z;
      computed = λ at z. nothing (many s (is_closed (e.plan.strike n).key.0 (e.plan.strike n).life 0)) (none (noted (is_closed (e.plan.strike n).key.0 (e.plan.strike n).life 0)) (λ p. refl) refl) z;
      notified = λ at all. nothing (many s (is_closed (e.plan.strike n).key.0 (e.plan.strike n).life 0)) (none (noted (is_closed (e.plan.strike n).key.0 (e.plan.strike n).life 0)) (λ p. refl) refl) (all 0 (fit.lawful.some_word (e.plan.strike n).key.0));
    };
  }

  pub opening_prevented : Prevented e s
  opening_prevented = record {
    each = λ n low. record {
      explored_descriptor = λ at on one. none (noted (is_spent (e.plan.strike n).key.0 1 40)) (λ p. refl) refl;
      explored_notify = λ w at on one. none (noted (is_closed (e.plan.strike n).key.0 1 w)) (λ p. refl) refl;
      ready_descriptor = λ at on. let a = none (noted (is_computed (e.plan.strike n).key.0 (e.plan.strike n).life)) (λ p. refl) refl in let b = none (items (is_loaded (e.plan.strike n).key.0 (e.plan.strike n).life)) (λ p. refl) refl in omega (arith, a, b);
      ready_notify = λ w at on. none (noted (is_closed (e.plan.strike n).key.0 (e.plan.strike n).life w)) (λ p. refl) refl;
      computed_notify = λ w at on. none (noted (is_closed (e.plan.strike n).key.0 (e.plan.strike n).life w)) (λ p. refl) refl;
    };
  }
