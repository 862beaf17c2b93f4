-- The same work, dealt anew to the views, keeps every part: each count of items, records, jobs and strikes stays, and what some view knows some view knows.
use Rattle.std.proofs.Common.{◌≡◌, ℕ, ◌+◌, ◌*◌, ◌≤◌, ◌<◌, Bool, min, eqb, arith, sym, ap, ◌∙◌, subst}
use Rattle.core_state.specs.Graph.{Setting}
use Rattle.core_state.specs.Words.{Spot, pending, stop, key, descriptor, notify, recovery, posted, turn, spot_of, life_of, life_shown, mark_shown}
use Rattle.core_state.specs.Counts.{hit, came, facts, in_hand, in_wrong_hand, struck_by, struck_idly, struck_upto, stack_count, spare, too_many}
use Rattle.core_state.specs.Tests.{is_at, is_suspect, notifies, suspects_block, is_row, is_idle, is_stopped, is_stops, is_seen_life, is_seen_mark, is_seen_closed, waits_at, is_created, is_spent, is_computed, is_closed, is_struck, is_struck_upto, is_replaced}
use Rattle.core_state.specs.Change.{Core, many}
use Rattle.core_state.specs.Rows.{Keys, Shows, Lists, Content, Facts}
use Rattle.core_state.specs.Work.{Credits}
use Rattle.core_state.specs.Records.{Strikes}
use Rattle.core_state.specs.Cover.{covers_self, covers_edge, works, Cover}
use Rattle.core_state.specs.Invariant.{Invariant}
use Rattle.graph_model.specs.declared.plan.Strike.{Strike}
use Rattle.graph_model.specs.declared.record.Hit.{Hit}
use Rattle.graph_model.specs.declared.record.Hit.TheVariants as hit_of
use Rattle.graph_model.specs.declared.record.Record.{Record}
use Rattle.core_state.specs.declared.job.Job.{Job}
use Rattle.core_state.specs.declared.job.Job.TheVariants.{Explore, Compute}
use Rattle.core_state.specs.declared.views.Known.{Known}
use Rattle.core_state.specs.declared.views.Word.{Word}
use Rattle.core_state.proofs.Base.Frame.{SameItems, SameRecords, SameEnded, SameBegun, had, keys_stay, frame_empty, frame_lives, same_shows, frame_jobs, frame_computings, frame_blocks, frame_records, frame_causes, frame_activity, frame_no_fault, posted_same}
use Rattle.core_state.proofs.Base.WeakFrame.{wide_root_work, wide_strikes, wide_facts, wide_cover}

-- what such a move leaves: a fact may be known twice as often
pub record Dealt (e : Setting) (s t : Core) : Type 0 where
  pub words : (a : Spot) → t.word a ≡ s.word a
  pub blocks : (b : ℕ) → t.block b ≡ s.block b
  pub its : SameItems s t
  pub recs : SameRecords s t
  pub ends : SameEnded s t
  pub begins : SameBegun s t
  pub comes : (i : Job) (k l : ℕ) → t.total (came i k l) ≡ s.total (came i k l)
  pub stacks : t.total stack_count ≡ s.total stack_count
  pub spares : t.total spare ≡ s.total spare
  pub few : t.total too_many ≤ s.total too_many
  pub hands : (b : ℕ) → t.total (in_hand b) ≡ s.total (in_hand b)
  pub wrong : (b k : ℕ) → t.total (in_wrong_hand b k) ≤ s.total (in_wrong_hand b k)
  pub by : (n : ℕ) → t.total (struck_by n) ≡ s.total (struck_by n)
  pub idly : (x : Strike) (n : ℕ) → t.total (struck_idly x n) ≤ s.total (struck_idly x n)
  pub upto : (k l : ℕ) (h : Hit) → t.total (struck_upto e.plan k l h) ≡ s.total (struck_upto e.plan k l h)
  pub selfs : (k l j : ℕ) → t.total (covers_self k l j) ≡ s.total (covers_self k l j)
  pub edges : (p q : ℕ) → t.total (covers_edge p q) ≡ s.total (covers_edge p q)
  pub working : (k l : ℕ) → t.total (works k l) ≡ s.total (works k l)
  pub knows : (p : Known → Bool) → (s.total (facts p) ≤ t.total (facts p)) × (t.total (facts p) ≤ s.total (facts p) + s.total (facts p))

module _ (e : Setting) (s t : Core) (d : Dealt e s t) (inv : Invariant e s) where
  known : (p : Known → Bool) → 0 < t.total (facts p) → 0 < s.total (facts p)
  known p z = let a = (d.knows p).1 in omega (arith, a, z)

  still : (p : Known → Bool) → 0 < s.total (facts p) → 0 < t.total (facts p)
  still p z = let a = (d.knows p).0 in omega (arith, a, z)

  as_known : (p : Known → Bool) → min 1 (s.total (facts p)) ≡ min 1 (t.total (facts p))
  as_known p = let a = d.knows p in let f = a.0 in let g = a.1 in omega (arith, f, g)

  more : (p : Record → Bool) → many s p ≤ many t p
  more p = let a = d.recs p in omega (arith, a)

  shown : (r : ℕ) (z : Word) → (life_shown z (t.word (spot_of r z)) ≡ life_shown z (s.word (spot_of r z))) × (mark_shown z (t.word (spot_of r z)) ≡ mark_shown z (s.word (spot_of r z)))
  shown r z = (ap (life_shown z) (d.words (spot_of r z)), ap (mark_shown z) (d.words (spot_of r z)))

  dealt_keys : Keys e t
  dealt_keys = keys_stay e s t (λ r. d.words (key r)) (λ r k z. inv.keys.known r k (known (is_row r k) z)) (λ k z. inv.keys.of_item k (let a = d.its (is_at k) in omega (arith, a, z)))
      (λ i k l z. inv.keys.of_ended i k l (let a = d.ends i k l in omega (arith, a, z))) (λ p l q z. inv.keys.of_waiting p l q (known (waits_at p l q) z))
      (λ p q z. inv.keys.of_notify p q (let a = d.its (notifies p q) in omega (arith, a, z))) (λ b v z. inv.keys.of_cause b v (let a = d.its (suspects_block b v) in omega (arith, a, z))) (λ k. d.recs (is_created k)) inv.keys

  dealt_lists : (p w n : ℕ) → Lists e s p w n → Lists e t p w n
  dealt_lists p w n i = record {
    other_bits = i.other_bits;
    closing = λ z. i.closing z ∙ sym (d.recs (is_closed p (life_of n) w));
    waiting = λ z o b low. i.waiting z o b low ∙ as_known (waits_at p (life_of n) (40 * w + b));
    registered = λ z b low some. i.registered z b low (known (waits_at p (life_of n) (40 * w + b)) some);
    struck = λ z. let a = i.struck z in let f = more (is_struck p (life_of n) (hit_of.Notify w)) in omega (arith, a, f);
    root = i.root;
    closed_later = λ l less. d.recs (is_closed p l w) ∙ i.closed_later l less;
    waiting_later = λ l b less low. let a = i.waiting_later l b less low in let f = (d.knows (waits_at p l (40 * w + b))).1 in omega (arith, a, f);
    struck_later = λ l less. d.recs (is_struck p l (hit_of.Notify w)) ∙ i.struck_later l less;
  }

  dealt_content : Content e t
  dealt_content = record {
    descriptors = λ r k it. subst (Shows e t k) (sym (d.words (descriptor r))) (same_shows e s t d.recs k (s.word (descriptor r)) (inv.content.descriptors r k (had e s t (λ o. d.words (key o)) r k it)));
    notify_words = λ r k w it low. subst (Lists e t k w) (sym (d.words (notify r w))) (dealt_lists k w (s.word (notify r w)) (inv.content.notify_words r k w (had e s t (λ o. d.words (key o)) r k it) low));
  }

  dealt_facts : Facts e t
  dealt_facts = wide_facts e s t (λ r. d.words (key r)) shown more (λ r k l w it z. inv.facts.life r k l w it (known (is_seen_life k w l) z)) (λ r k l w it z. inv.facts.mark r k l w it (known (is_seen_mark k w l) z))
      (λ k l w z. inv.facts.row_of_life k l w (known (is_seen_life k w l) z)) (λ k l w z. inv.facts.row_of_mark k l w (known (is_seen_mark k w l) z)) (λ k l w z. inv.facts.closed k l w (known (is_seen_closed k l w) z))
      (λ z. d.words pending ∙ inv.facts.idle (known is_idle z)) (λ z. d.words stop ∙ inv.facts.stopped (known is_stopped z)) (d.words stop ∙ inv.facts.stops ∙ as_known is_stops)

  dealt_credits : Credits e t
  dealt_credits = record {
    sum = let a = posted_same s.word t.word e.shape.rows (λ i r. d.words (posted i r)) in let b = d.stacks in let f = d.spares in let g = d.words pending in let h = inv.work.credits.sum in omega (arith, a, b, f, g, h);
    few_spare = let a = d.few in let b = inv.work.credits.few_spare in omega (arith, a, b);
  }

  dealt_strikes : Strikes e t
  dealt_strikes = wide_strikes e s t (λ r. d.words (key r)) shown more d.by d.idly d.upto (λ k l h. d.recs (is_struck_upto k l h)) inv.strikes

  dealt_cover : Cover e t
  dealt_cover = wide_cover e s t (λ r. d.words (key r)) shown (λ r. d.words (recovery r)) (λ k l j z. sym (d.recs (is_spent k l j)) ∙ z) (λ k l w z. d.recs (is_closed k l w) ∙ z) (λ k l q z. still (waits_at k l q) z)
      (λ r k l j it some. let a = d.selfs k l j in let b = ap (λ o. hit (eqb l o)) (d.words (posted Explore r)) in omega (arith, a, b)) (λ p q. let a = d.edges p q in omega (arith, a)) inv.cover

  pub dealt_keeps : Invariant e t
  dealt_keeps = record {
    keys = dealt_keys;
    empty = frame_empty e s t (λ r. d.words (key r)) (λ r. d.words (descriptor r)) (λ r w. d.words (notify r w)) (λ r. d.words (recovery r)) (λ i r. d.words (posted i r)) inv.empty;
    lives = frame_lives e s t (λ r. d.words (key r)) (λ r. d.words (descriptor r)) (λ r w. d.words (notify r w)) (λ r. d.words (recovery r)) d.its inv.lives;
    content = dealt_content;
    facts = dealt_facts;
    work = record {
      credits = dealt_credits;
      jobs = frame_jobs e s t (λ r. d.words (key r)) (λ r. d.words (descriptor r)) (λ r. d.words (recovery r)) (λ i r. d.words (posted i r)) d.its d.ends d.begins d.recs (λ i k l. let a = d.comes i k l in omega (arith, a)) inv.work.jobs;
      computings = frame_computings e s t (λ r. d.words (key r)) (λ i r. d.words (posted i r)) d.its d.begins d.recs inv.work.computings;
      root = wide_root_work e s t (λ l z. let a = d.its (is_suspect e.graph.root l) in omega (arith, a, z)) (λ l. d.recs (is_replaced e.graph.root l)) (λ l. let a = d.ends Compute e.graph.root l in omega (arith, a)) (λ l. d.recs (is_computed e.graph.root l))
          (λ b. d.wrong b e.graph.root) d.hands d.blocks inv.work.root;
    };
    blocks = frame_blocks e s t (λ b. d.words (turn b)) d.hands d.recs d.blocks inv.blocks;
    records = frame_records e s t (λ r. d.words (key r)) (λ r. d.words (recovery r)) d.recs inv.records;
    causes = frame_causes e s t d.its d.recs inv.causes;
    strikes = dealt_strikes;
    cover = dealt_cover;
    activity = frame_activity e s t (λ r. d.words (key r)) (λ r. d.words (descriptor r)) (λ i r. d.words (posted i r)) d.recs (λ k l. let a = d.working k l in omega (arith, a)) inv.activity;
    no_fault = frame_no_fault e s t (λ r. d.words (key r)) (λ r. d.words (recovery r)) d.its d.recs d.blocks inv.no_fault;
  }
