-- Parts that read records, where a step adds records of few kinds: each premise names one test that the new records fail.
use Rattle.std.proofs.Common.{◌≡◌, ◌⊎◌, ℕ, ◌+◌, ◌-◌, ◌*◌, ◌/◌, ◌<◌, min, nat_lt, ◌&&◌, ⊎_elim, arith, sym, ap, ◌∙◌, subst}
use Rattle.core_state.specs.Graph.{Setting, Reached}
use Rattle.core_state.specs.Words.{descriptor, notify, recovery, life_of, standing_life, replacing}
use Rattle.core_state.specs.Counts.{hit, waits}
use Rattle.core_state.specs.Tests.{is_created, is_spent, is_computed, is_written, is_miswritten, is_closed, is_closing, is_struck, is_misstruck, is_replaced, is_of}
use Rattle.core_state.specs.Change.{Core, many}
use Rattle.core_state.specs.Rows.{HasKey, Shows, Lists, Content}
use Rattle.core_state.specs.Records.{Records}
use Rattle.graph_model.specs.declared.record.Hit.{Hit}
use Rattle.graph_model.specs.declared.record.Hit.TheVariants as hit_of
use Rattle.core_state.proofs.Base.Frame.{SameKeys, SameDescriptors, SameNotify, had}
use Rattle.core_state.proofs.Base.WeakFrame.{MoreRecords}

module _ (e : Setting) (s t : Core) where
  -- descriptors and notify words stay, and so do the records and facts that they show
  pub wide_content : SameKeys s t → SameDescriptors s t → SameNotify s t → ((k l j : ℕ) → many t (is_spent k l j) ≡ many s (is_spent k l j)) → ((k l w : ℕ) → many t (is_closed k l w) ≡ many s (is_closed k l w))
      → ((k l : ℕ) (h : Hit) → many t (is_struck k l h) ≡ many s (is_struck k l h)) → ((k l q : ℕ) → t.total (waits k l q) ≡ s.total (waits k l q)) → Content e s → Content e t
  wide_content kw dw nw spent closed struck ws i = record {
    descriptors = λ r k it. subst (Shows e t k) (sym (dw r)) (let o = i.descriptors r k (had e s t kw r k it) in let n : ℕ = s.word (descriptor r) in record {
      other_bits = o.other_bits;
      spent = λ z j low. o.spent z j low ∙ sym (spent k (life_of n) j);
      struck = λ z. let a = o.struck z in let b = struck k (life_of n) hit_of.Descriptor in omega (arith, a, b);
      root = o.root;
      spent_later = λ l j less. spent k l j ∙ o.spent_later l j less;
      struck_later = λ l less. struck k l hit_of.Descriptor ∙ o.struck_later l less;
    });
    notify_words = λ r k w it low. subst (Lists e t k w) (sym (nw r w)) (let o = i.notify_words r k w (had e s t kw r k it) low in let n : ℕ = s.word (notify r w) in record {
      other_bits = o.other_bits;
      closing = λ z. o.closing z ∙ sym (closed k (life_of n) w);
      waiting = λ z f b less. o.waiting z f b less ∙ ap (min 1) (sym (ws k (life_of n) (40 * w + b)));
      registered = λ z b less some. o.registered z b less (let a = ws k (life_of n) (40 * w + b) in omega (arith, a, some));
      struck = λ z. let a = o.struck z in let b = struck k (life_of n) (hit_of.Notify w) in omega (arith, a, b);
      root = o.root;
      closed_later = λ l less. closed k l w ∙ o.closed_later l less;
      waiting_later = λ l b less low'. ws k l (40 * w + b) ∙ o.waiting_later l b less low';
      struck_later = λ l less. struck k l (hit_of.Notify w) ∙ o.struck_later l less;
    });
  }

  -- what a record's life owes: each life below it was replaced, and its key is one of a row that was made
  abbrev pub MayName : ℕ → ℕ → Type 0
  MayName k l = (0 < l) × (1 < l → 0 < many s (is_replaced k (l - 1))) × (many s (is_created k) ≡ 1) × Reached e.graph k

  -- no record of a place, a result or a closed word comes
  pub wide_records : SameKeys s t → MoreRecords e s t → ((k : ℕ) → many t (is_created k) ≡ many s (is_created k)) → ((k l j : ℕ) → many t (is_spent k l j) ≡ many s (is_spent k l j)) → ((k l : ℕ) → many t (is_computed k l) ≡ many s (is_computed k l))
      → ((k l : ℕ) → many t (is_written k l) ≡ many s (is_written k l)) → many t (is_miswritten e.graph) ≡ many s (is_miswritten e.graph) → ((k l w : ℕ) → many t (is_closed k l w) ≡ many s (is_closed k l w))
      → ((k l : ℕ) → (many t (is_of k l) ≡ many s (is_of k l)) ⊎ MayName k l)
      → ((r k l : ℕ) → HasKey e s r k → many t (is_replaced k l) ≡ hit (nat_lt 0 l && nat_lt l (standing_life (t.word (recovery r)) + replacing (t.word (recovery r))))) → many t (is_misstruck e.graph) ≡ 0 → Records e s → Records e t
  wide_records kw more created spent computed written placed closed named replaced own i = record {
    spent = record { once = λ k l j. let a = spent k l j in let b = i.spent.once k l j in omega (arith, a, b); is_place = λ k l j z. i.spent.is_place k l j (let a = spent k l j in omega (arith, a, z)) };
    computed = record {
      computed_once = λ k l. let a = computed k l in let b = i.computed.computed_once k l in omega (arith, a, b);
      computed_ready = λ k l j z place. let a = i.computed.computed_ready k l j (let b = computed k l in omega (arith, b, z)) place in let d = more (is_spent k l j) in omega (arith, a, d);
      written_once = λ k l. let a = written k l in let b = i.computed.written_once k l in omega (arith, a, b);
      written_place = placed ∙ i.computed.written_place;
      written_computed = λ k l z. let a = i.computed.written_computed k l (let b = written k l in omega (arith, b, z)) in let d = more (is_computed k l) in omega (arith, a, d);
      closed_once = λ k l w. let a = closed k l w in let b = i.computed.closed_once k l w in omega (arith, a, b);
      closed_word = λ k l w z. i.computed.closed_word k l w (let a = closed k l w in omega (arith, a, z));
      closed_written = λ k l w z. let a = i.computed.closed_written k l w (let b = closed k l w in omega (arith, b, z)) in let d = more (is_written k l) in omega (arith, a, d);
    };
    lives = record {
      replaced_before = λ k l later z. let a : 0 < many s (is_replaced k (l - 1)) = ⊎_elim (λ q. i.lives.replaced_before k l later (omega (arith, q, z))) (λ q. q.1 later) (named k l) in let b = more (is_replaced k (l - 1)) in omega (arith, a, b);
      created_once = λ k l z. created k ∙ ⊎_elim (λ q. i.lives.created_once k l (omega (arith, q, z))) (λ q. q.2) (named k l);
      reached = λ k l z. ⊎_elim (λ q. i.lives.reached k l (omega (arith, q, z))) (λ q. q.3) (named k l);
    };
    edges = record { closed = λ k l j low z. let a = i.edges.closed k l j low (let b = spent k l j in omega (arith, b, z)) in let d = more (is_closing (e.graph.pred k j).task ((e.graph.pred k j).port / 40)) in omega (arith, a, d) };
    some_life = λ k. ⊎_elim (λ q. q ∙ i.some_life k) (λ q. absurd (let a = q.0 in omega (arith, a))) (named k 0);
    replaced = λ r k l it. replaced r k l (had e s t kw r k it);
    names_own = own;
  }
