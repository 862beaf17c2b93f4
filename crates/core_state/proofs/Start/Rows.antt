-- The table at the beginning meets the rows' parts of the invariant.
use Rattle.std.proofs.Common.{◌≡◌, ℕ, suc, ◌+◌, ◌*◌, ◌%◌, ◌<◌, ◌≤◌, Bool, true, cond, eqb, min, [], ⊎_elim, arith, sym, ap, refl, ◌∙◌, subst}
use Rattle.std.proofs.lemmas.Nat.Bits.{bit_at-zero}
use Rattle.std.proofs.lemmas.Nat.{mod_below}
use Rattle.std.proofs.lemmas.Bool.Decides.{eqb_tells}
use Rattle.core_state.specs.Graph.{Setting, Sound, Reached, greatest_life}
use Rattle.core_state.specs.Graph.Reached.{itself}
use Rattle.core_state.specs.Words.{stop, key, descriptor, notify, recovery, posted, life_of}
use Rattle.core_state.specs.Counts.{hit, bump, items, knows_row}
use Rattle.core_state.specs.Tests.{two, is_at, is_suspect, is_created}
use Rattle.core_state.specs.Change.{Core}
use Rattle.core_state.specs.Views.{bare, opener}
use Rattle.core_state.specs.Rows.{HasKey, Keys, Empty, LifeOf, Lives, Shows, Lists, Content, Facts}
use Rattle.core_state.specs.Invariant.{first_word, Opening}
use Rattle.core_state.specs.declared.views.View.{View}
use Rattle.core_state.proofs.Base.Paths.{comes_back}
use Rattle.core_state.proofs.Base.Counting.{eqb_here, some_two, some_one}

module _ (e : Setting) (s : Core) (fit : Sound e) (o : Opening e s) where
  row : ℕ
  row = e.graph.root % e.shape.rows

  pub no_key : (r k : ℕ) → HasKey e s r k → (r ≡ e.graph.root % e.shape.rows) × (k ≡ e.graph.root)
  no_key r k has = let w = o.words (key r) in let x = has.1 in ⊎_elim
      (λ z. (z.1, let y : first_word e s (key r) ≡ suc e.graph.root = ap (λ (t : Bool). cond t (suc e.graph.root) 0) z.0 in omega (arith, w, x, y)))
      (λ z. absurd (let y : first_word e s (key r) ≡ 0 = ap (λ (t : Bool). cond t (suc e.graph.root) 0) z.0 in omega (arith, w, x, y)))
      (eqb_tells r (e.graph.root % e.shape.rows))

  pub root_key : HasKey e s (e.graph.root % e.shape.rows) e.graph.root
  root_key = (mod_below e.graph.root e.shape.rows fit.some_row, o.words (key (e.graph.root % e.shape.rows)) ∙ ap (λ (t : Bool). cond t (suc e.graph.root) 0) (eqb_here (e.graph.root % e.shape.rows)))

  -- a count that nothing of the first seat meets
  none : (f : View → ℕ) → ((p : ℕ) → f (bare p []) ≡ 0) → f (opener o.parts_of e.graph.root (e.graph.root % e.shape.rows)) ≡ 0 → s.total f ≡ 0
  none f a b = o.views f a ∙ b

  no_more : (n : ℕ) → n ≡ 0 → 0 < n → ⊥
  no_more n z some = omega (arith, z, some)

  pub opening_keys : Keys e s
  opening_keys = record {
    known = λ r k some. let a = o.views (knows_row r k) (λ p. refl) in let b = some_two r k (e.graph.root % e.shape.rows) e.graph.root (omega (arith, a, some)) in
        subst (λ x. HasKey e s x k) (sym b.0) (subst (HasKey e s (e.graph.root % e.shape.rows)) (sym b.1) root_key);
    one_row = λ r t k a b. (no_key r k a).0 ∙ sym (no_key t k b).0;
    path = λ r k d i has low at less. let f = no_key r k has in let g : e.graph.root % e.shape.rows ≡ (e.graph.root + d) % e.shape.rows = sym f.0 ∙ at ∙ ap (λ x. (x + d) % e.shape.rows) f.1 in absurd (let z : d ≡ 0 = comes_back e.graph.root d e.shape.rows low g in omega (arith, z, less));
    of_item = λ k some. let a = o.views (items (is_at k)) (λ p. refl) in let b = some_one k e.graph.root (omega (arith, a, some)) in
        (e.graph.root % e.shape.rows, subst (HasKey e s (e.graph.root % e.shape.rows)) (sym b) root_key);
    of_ended = λ i k l some. absurd (no_more (s.total (Rattle.core_state.specs.Counts.ended i k l)) (none (Rattle.core_state.specs.Counts.ended i k l) (λ p. refl) refl) some);
    of_waiting = λ p l q some. absurd (no_more (s.total (Rattle.core_state.specs.Counts.waits p l q)) (none (Rattle.core_state.specs.Counts.waits p l q) (λ p. refl) refl) some);
    of_notify = λ p q some. absurd (no_more (s.total (items (Rattle.core_state.specs.Tests.notifies p q))) (none (items (Rattle.core_state.specs.Tests.notifies p q)) (λ p. refl) refl) some);
    of_cause = λ b v some. absurd (no_more (s.total (items (Rattle.core_state.specs.Tests.suspects_block b v))) (none (items (Rattle.core_state.specs.Tests.suspects_block b v)) (λ p. refl) refl) some);
    of_root = (e.graph.root % e.shape.rows, root_key);
    created = λ r k has. o.views (Rattle.core_state.specs.Counts.noted (is_created k)) (λ p. refl) ∙ ap (λ (t : Bool). bump t 0) (subst (λ x. eqb x e.graph.root ≡ true) (sym (no_key r k has).1) (eqb_here e.graph.root));
    of_created = λ k some. let a = o.views (Rattle.core_state.specs.Counts.noted (is_created k)) (λ p. refl) in let b = some_one k e.graph.root (omega (arith, a, some)) in
        (e.graph.root % e.shape.rows, subst (HasKey e s (e.graph.root % e.shape.rows)) (sym b) root_key);
    reached = λ r k has. subst (Reached e.graph) (sym (no_key r k has).1) itself;
  }

  pub opening_empty : Empty e s
  opening_empty = record {
    no_descriptor = λ r z. o.words (descriptor r);
    no_notify = λ r w z. o.words (notify r w);
    no_recovery = λ r z. o.words (recovery r);
    no_job = λ i r z. o.words (posted i r);
    beyond = λ r k w has low. o.words (notify r w);
  }

  pub opening_lives : Lives e s
  opening_lives = record {
    each = λ r k has. subst (LifeOf e s r k) (sym (o.words (recovery r))) record {
      renewing = none (items (Rattle.core_state.specs.Tests.is_renew k)) (λ p. refl) refl;
      standing = λ z. record { descriptor_life = ap life_of (o.words (descriptor r)); notify_life = λ w low. ap life_of (o.words (notify r w)) };
      being_replaced = λ z. absurd (omega (arith, z));
      at_most = subst (λ x. 1 ≤ greatest_life e x) (sym (no_key r k has).1) (subst (λ (t : Bool). 1 ≤ cond t 65535 e.lives) (sym (eqb_here e.graph.root)) (omega arith));
      suspected = λ l some. absurd (no_more (s.total (items (is_suspect k l))) (none (items (is_suspect k l)) (λ p. refl) refl) some);
    };
  }

  pub opening_content : Content e s
  opening_content = record {
    descriptors = λ r k has. subst (Shows e s k) (sym (o.words (descriptor r))) record {
      other_bits = omega arith;
      spent = λ z j low. bit_at-zero j ∙ sym (none (Rattle.core_state.specs.Counts.noted (Rattle.core_state.specs.Tests.is_spent k (life_of 0) j)) (λ p. refl) refl);
      struck = λ z. absurd (omega (arith, z));
      root = λ z. refl;
      spent_later = λ l j less. none (Rattle.core_state.specs.Counts.noted (Rattle.core_state.specs.Tests.is_spent k l j)) (λ p. refl) refl;
      struck_later = λ l less. none (Rattle.core_state.specs.Counts.noted (Rattle.core_state.specs.Tests.is_struck k l Rattle.graph_model.specs.declared.record.Hit.TheVariants.Descriptor)) (λ p. refl) refl;
    };
    notify_words = λ r k w has low. subst (Lists e s k w) (sym (o.words (notify r w))) record {
      other_bits = omega arith;
      closing = λ z. sym (none (Rattle.core_state.specs.Counts.noted (Rattle.core_state.specs.Tests.is_closed k (life_of 0) w)) (λ p. refl) refl);
      waiting = λ z c b low. bit_at-zero b ∙ ap (min 1) (sym (none (Rattle.core_state.specs.Counts.waits k (life_of 0) (40 * w + b)) (λ p. refl) refl));
      struck = λ z. absurd (omega (arith, z));
      root = λ z. refl;
      registered = λ z b low some. absurd (no_more (s.total (Rattle.core_state.specs.Counts.waits k (life_of 0) (40 * w + b))) (none (Rattle.core_state.specs.Counts.waits k (life_of 0) (40 * w + b)) (λ p. refl) refl) some);
      closed_later = λ l less. none (Rattle.core_state.specs.Counts.noted (Rattle.core_state.specs.Tests.is_closed k l w)) (λ p. refl) refl;
      waiting_later = λ l b less low. none (Rattle.core_state.specs.Counts.waits k l (40 * w + b)) (λ p. refl) refl;
      struck_later = λ l less. none (Rattle.core_state.specs.Counts.noted (Rattle.core_state.specs.Tests.is_struck k l (Rattle.graph_model.specs.declared.record.Hit.TheVariants.Notify w))) (λ p. refl) refl;
    };
  }

  pub opening_facts : Facts e s
  opening_facts = record {
    idle = λ some. absurd (no_more (s.total (Rattle.core_state.specs.Counts.facts Rattle.core_state.specs.Tests.is_idle)) (none (Rattle.core_state.specs.Counts.facts Rattle.core_state.specs.Tests.is_idle) (λ p. refl) refl) some);
    stopped = λ some. absurd (no_more (s.total (Rattle.core_state.specs.Counts.facts Rattle.core_state.specs.Tests.is_stopped)) (none (Rattle.core_state.specs.Counts.facts Rattle.core_state.specs.Tests.is_stopped) (λ p. refl) refl) some);
    stops = o.words stop ∙ ap (min 1) (sym (none (Rattle.core_state.specs.Counts.facts Rattle.core_state.specs.Tests.is_stops) (λ p. refl) refl));
    closed = λ k l w some. absurd (no_more (s.total (Rattle.core_state.specs.Counts.facts (Rattle.core_state.specs.Tests.is_seen_closed k l w))) (none (Rattle.core_state.specs.Counts.facts (Rattle.core_state.specs.Tests.is_seen_closed k l w)) (λ p. refl) refl) some);
    row_of_life = λ k l w some. absurd (no_more (s.total (Rattle.core_state.specs.Counts.facts (Rattle.core_state.specs.Tests.is_seen_life k w l))) (none (Rattle.core_state.specs.Counts.facts (Rattle.core_state.specs.Tests.is_seen_life k w l)) (λ p. refl) refl) some);
    row_of_mark = λ k l w some. absurd (no_more (s.total (Rattle.core_state.specs.Counts.facts (Rattle.core_state.specs.Tests.is_seen_mark k w l))) (none (Rattle.core_state.specs.Counts.facts (Rattle.core_state.specs.Tests.is_seen_mark k w l)) (λ p. refl) refl) some);
    life = λ r k l w has some. absurd (no_more (s.total (Rattle.core_state.specs.Counts.facts (Rattle.core_state.specs.Tests.is_seen_life k w l))) (none (Rattle.core_state.specs.Counts.facts (Rattle.core_state.specs.Tests.is_seen_life k w l)) (λ p. refl) refl) some);
    mark = λ r k l w has some. absurd (no_more (s.total (Rattle.core_state.specs.Counts.facts (Rattle.core_state.specs.Tests.is_seen_mark k w l))) (none (Rattle.core_state.specs.Counts.facts (Rattle.core_state.specs.Tests.is_seen_mark k w l)) (λ p. refl) refl) some);
  }
