-- An election that was won: the parts that speak of records, blocks and cover, and all parts together.
use Rattle.std.proofs.Common.{◌≡◌, ◌≢◌, ◌⊎◌, ℕ, ◌+◌, ◌≤◌, ◌<◌, Bool, cond, ◌&&◌, eqb, nat_lt, ⊎_elim, inl, inr, arith, sym, ap, refl, ◌∙◌, subst}
use mathlib.Core.Logic.{dite}
use native.Mathlib.Decide.{ℕ_discrete, dec_lt}
use Rattle.std.proofs.lemmas.Bool.{lt-ltb, le-ltb}
use Rattle.core_state.specs.Graph.{Setting, Edge}
use Rattle.core_state.specs.Words.{descriptor, recovery, turn, life_of, standing_life, replacing}
use Rattle.core_state.specs.Counts.{hit, count, items, begun, ended, in_hand, in_wrong_hand, struck_by, struck_idly, struck_upto}
use Rattle.core_state.specs.Tests.{two, same_cause, explores, is_owed, is_made_any, is_renew, is_renew_of, is_suspect, is_suspect_for, is_any_suspect, notifies, reenters, carries, waits_at, is_hand, strikes_upto, job_of, is_created, is_spent, is_computed, is_written, is_closed, is_any_struck, is_struck_upto, is_misstruck, is_miswritten, is_version, is_replaced, is_replaced_for, is_of}
use Rattle.core_state.specs.Change.{Core, many}
use Rattle.core_state.specs.Laws.{Shown, Grounded}
use Rattle.core_state.specs.Rows.{HasKey}
use Rattle.core_state.specs.Work.{RootWork}
use Rattle.core_state.specs.Blocks.{Blocks}
use Rattle.core_state.specs.Records.{Records, Causes, Strikes}
use Rattle.core_state.specs.Cover.{covers_self, covers_edge, works, Needs, Cover, Activity, NoFault}
use Rattle.core_state.specs.Invariant.{Invariant}
use Rattle.graph_model.specs.declared.record.Cause.{Cause}
use Rattle.core_state.specs.declared.job.Job.TheVariants.{Explore, Compute}
use Rattle.core_state.specs.declared.views.View.{View}
use Rattle.core_state.proofs.Blocks.Blame.{cause_here}
use Rattle.core_state.proofs.Base.Counting.{two_here, two_tells, not_two}
use Rattle.core_state.proofs.Replace.Won.{Won, wd, eq, keys_same, kept, low, more, rec, replaced_more, known_same, row_of, at_row, word_other, stood, replaced_now, shown, begun_view, ended_view, post_same, elect_keys, elect_empty, elect_lives, elect_content, elect_facts, elect_credits, elect_jobs, elect_computings}
use Rattle.core_state.proofs.Base.Frame.{had}
use Rattle.core_state.proofs.Base.MoreRecords.{shown_grows}
use Rattle.core_state.proofs.Credit.JobView.{and_false}
use Rattle.core_state.proofs.Base.RecordFrame.{MayName, wide_records}
use Rattle.core_state.proofs.Replace.Lives.{replaced_below}
use Rattle.core_state.proofs.Replace.Suspects.{cause_tells}
use Rattle.core_state.proofs.Base.WeakFrame.{wide_blocks, wide_strikes, wide_waiting, wide_activity}

-- lives below the next one were replaced: those below this one, and this one
upto_next : (k a l : ℕ) → 0 < l → hit (nat_lt 0 a && nat_lt a l) + hit (two k a k l) ≡ hit (nat_lt 0 a && nat_lt a (l + 1))
upto_next k a l some = dite (ℕ_discrete a l)
    (λ q. subst (λ x. hit (nat_lt 0 x && nat_lt x l) + hit (two k x k l) ≡ hit (nat_lt 0 x && nat_lt x (l + 1))) (sym q) (rw (lt-ltb 0 l some, le-ltb l l (omega arith), lt-ltb l (l + 1) (omega arith), two_here k l) refl))
    (λ ne. let f = ap hit (not_two k a k l (λ q. ne q.1)) in let g : hit (nat_lt 0 a && nat_lt a l) ≡ hit (nat_lt 0 a && nat_lt a (l + 1)) = ap (λ (b : Bool). hit (nat_lt 0 a && b)) (same ne) in omega (arith, f, g))
  where
    same : a ≢ l → nat_lt a l ≡ nat_lt a (l + 1)
    same ne = dite (dec_lt a l) (λ q. lt-ltb a l q ∙ sym (lt-ltb a (l + 1) (omega (arith, q)))) (λ not. le-ltb a l (omega (arith, not)) ∙ sym (le-ltb a (l + 1) (omega (arith, not, ne))))

module _ {e : Setting} {s t : Core} {r k l n : ℕ} {cause : Cause} {waits : Bool} {v u : View} (o : Won e s t r k l n cause waits v u) where
  blocks_same : (b : ℕ) → t.block b ≡ s.block b
  blocks_same b = o.change.blocks b (λ f. cc)

  hands_same : (b : ℕ) → in_hand b u ≡ in_hand b v
  hands_same b = ap (count (is_hand b)) o.view.hands_are

  wrong_same : (b m : ℕ) → in_wrong_hand b m u ≡ in_wrong_hand b m v
  wrong_same b m = ap (λ y. cond (eqb y 0) (in_hand b u) 0) (kept o (is_made_any m) refl) ∙ ap (λ y. cond (eqb (items (is_made_any m) v) 0) y 0) (hands_same b)

  -- the life of the root that is replaced was suspected
  won_root : RootWork e t
  won_root = let root : ℕ = e.graph.root in let b : ℕ = e.graph.block e.graph.root in let old = o.inv.work.root in record {
    right_hand = eq o (in_wrong_hand b root) (wrong_same b root) ∙ old.right_hand;
    unwritten = λ z. ap (λ x. x.tag) (blocks_same b) ∙ old.unwritten (let a = eq o (in_hand b) (hands_same b) in omega (arith, a, z));
    given_up = λ a z. let was = old.given_up a (let d = o.change.sums (items (is_suspect root a)) in let f = o.view.added (is_suspect root a) in let h = replaced_more o root a in omega (arith, d, f, h, z)) in
        (let d = eq o (ended Compute root a) (ended_view o Compute root a) in let f = was.0 in omega (arith, d, f), rec o (is_computed root a) refl ∙ was.1);
  }

  won_blocks : Blocks e t
  won_blocks = wide_blocks e s t (λ b. wd o (turn b) (λ f. cc)) (λ b. eq o (in_hand b) (hands_same b)) (more o) (λ b y. rec o (is_version b y) refl) blocks_same o.inv.blocks

  -- the suspect was there, for its cause
  suspect_here : 0 < s.total (items (is_suspect_for k l cause))
  suspect_here = let a = o.change.within (items (is_suspect_for k l cause)) in let b = o.view.added (is_suspect_for k l cause) in let d : hit (two k l k l && same_cause cause cause) ≡ 1 = rw (two_here k l, cause_here cause) refl in omega (arith, a, b, d)

  new_of : (m a : ℕ) → (many t (is_of m a) ≡ many s (is_of m a)) ⊎ ((m ≡ k) × (a ≡ l))
  new_of m a = ⊎_elim (λ z. inl (rec o (is_of m a) z)) (λ z. inr (z.1, z.2)) (two_tells m a k l)

  may_name : MayName e s t k l
  may_name = (o.some, λ later. replaced_below e s r k l o.inv.records o.has later (let h = stood o in omega (arith, h)), o.inv.keys.created r k o.has, o.inv.keys.reached r k o.has)

  replaced_at : (a : ℕ) → many t (is_replaced k a) ≡ hit (nat_lt 0 a && nat_lt a (standing_life (t.word (recovery r)) + replacing (t.word (recovery r))))
  replaced_at a = let was : standing_life (s.word (recovery r)) + replacing (s.word (recovery r)) ≡ l = (let b = stood o in let d = o.some in omega (arith, b, d)) in
      let now : standing_life (t.word (recovery r)) + replacing (t.word (recovery r)) ≡ l + 1 = (let b = replaced_now o in let d = o.some in omega (arith, b, d)) in
      replaced_more o k a ∙ ap (λ x. x + hit (two k a k l)) (o.inv.records.replaced r k a o.has ∙ ap (λ x. hit (nat_lt 0 a && nat_lt a x)) was) ∙ upto_next k a l o.some ∙ ap (λ x. hit (nat_lt 0 a && nat_lt a x)) (sym now)

  replaced_else : (y m a : ℕ) → HasKey e s y m → y ≢ r → many t (is_replaced m a) ≡ hit (nat_lt 0 a && nat_lt a (standing_life (t.word (recovery y)) + replacing (t.word (recovery y))))
  replaced_else y m a has ne = rec o (is_replaced m a) (not_two m a k l (λ q. ne (at_row o y m has q.0))) ∙ o.inv.records.replaced y m a has ∙ ap (λ z. hit (nat_lt 0 a && nat_lt a (standing_life z + replacing z))) (sym (word_other o y ne))

  pub won_records : Records e t
  won_records = wide_records e s t (keys_same o) (more o) (λ m. rec o (is_created m) refl) (λ m a i. rec o (is_spent m a i) refl) (λ m a. rec o (is_computed m a) refl) (λ m a. rec o (is_written m a) refl) (rec o (is_miswritten e.graph) refl) (λ m a w. rec o (is_closed m a w) refl)
      (λ m a. ⊎_elim (λ q. inl q) (λ q. inr (subst (λ x. MayName e s t x a) (sym q.0) (subst (λ x. MayName e s t k x) (sym q.1) may_name))) (new_of m a))
      (λ y m a has. dite (ℕ_discrete y r)
      (λ q. subst (λ x. many t (is_replaced m a) ≡ hit (nat_lt 0 a && nat_lt a (standing_life (t.word (recovery x)) + replacing (t.word (recovery x))))) (sym q) (ap (λ x. many t (is_replaced x a)) (row_of o y m has q) ∙ replaced_at a))
      (λ ne. replaced_else y m a has ne)) (rec o (is_misstruck e.graph) refl ∙ o.inv.records.names_own) o.inv.records

  abbrev IsShown : ℕ → ℕ → Cause → Type 0
  IsShown m a d = Shown e.graph (many s) (Grounded e.graph (many s)) m a d

  -- the new replacement has the cause of the suspect
  was_shown : (m a : ℕ) (d : Cause) → 0 < many t (is_replaced_for m a d) → IsShown m a d
  was_shown m a d z = ⊎_elim (λ q. before (rec o (is_replaced_for m a d) (ap (λ (b : Bool). b && same_cause d cause) q)))
      (λ q. ⊎_elim (λ f. before (rec o (is_replaced_for m a d) (ap (λ (b : Bool). two m a k l && b) f ∙ and_false (two m a k l))))
      (λ f. subst (λ x. IsShown x a d) (sym q.1) (subst (λ x. IsShown k x d) (sym q.2) (subst (λ x. IsShown k l x) (sym f) (o.inv.causes.suspected k l cause suspect_here)))) (cause_tells d cause)) (two_tells m a k l)
    where
      before : many t (is_replaced_for m a d) ≡ many s (is_replaced_for m a d) → IsShown m a d
      before q = o.inv.causes.replaced.shown m a d (omega (arith, q, z))

  pub won_causes : Causes e t
  won_causes = record {
    replaced = record { shown = λ m a d z. shown_grows e.graph (many s) (many t) (more o) m a d (was_shown m a d z) };
    suspected = λ m a d z. shown_grows e.graph (many s) (many t) (more o) m a d (o.inv.causes.suspected m a d (low o (is_suspect_for m a d) refl z));
  }

  pub won_strikes : Strikes e t
  won_strikes = wide_strikes e s t (keys_same o) (shown o) (more o) (λ y. eq o (struck_by y) (ap (count (eqb y)) o.view.strikes_are))
      (λ y z. let a = eq o (struck_idly y z) (ap (λ x. cond (eqb x 0) (struck_by z u) 0) (begun_view o (job_of y.point) y.key.0 y.life) ∙ ap (λ x. cond (eqb (begun (job_of y.point) y.key.0 y.life v) 0) (count (eqb z) x) 0) o.view.strikes_are) in omega (arith, a))
      (λ m a h. eq o (struck_upto e.plan m a h) (ap (count (strikes_upto e.plan m a h)) o.view.strikes_are)) (λ m a h. rec o (is_struck_upto m a h) refl) o.inv.strikes

  -- a place that needs cover is of another key
  needs_other : (y m a i : ℕ) → Needs e t y m a i → y ≢ r
  needs_other y m a i needs q = let b = needs.stands in let d = ap (λ x. replacing (t.word (recovery x))) q in let f = replaced_now o in omega (arith, b, d, f)

  old_needs : (y m a i : ℕ) → Needs e t y m a i → Needs e s y m a i
  old_needs y m a i needs = let same = sym (word_other o y (needs_other y m a i needs)) in record {
    has_key = had e s t (keys_same o) y m needs.has_key;
    stands = ap replacing same ∙ needs.stands;
    life_stands = ap standing_life same ∙ needs.life_stands;
    life_shown = sym (ap life_of (wd o (descriptor y) (λ z. cc))) ∙ needs.life_shown;
    unspent = sym (rec o (is_spent m a i) refl) ∙ needs.unspent;
  }

  selfs_same : (y m a i : ℕ) → Needs e t y m a i → t.total (covers_self m a i) ≡ s.total (covers_self m a i)
  selfs_same y m a i needs = let other = needs_other y m a i needs in eq o (covers_self m a i) (let b = kept o (explores m a i) refl in let d = kept o (is_owed Explore m a) refl in let f = o.view.added (is_suspect m a) in
      let g = ap hit (not_two m a k l (λ q. other (at_row o y m (had e s t (keys_same o) y m needs.has_key) q.0))) in omega (arith, b, d, f, g))

  edges_rise : (p q : ℕ) → s.total (covers_edge p q) ≤ t.total (covers_edge p q)
  edges_rise p q = let a = o.change.sums (covers_edge p q) in let b = kept o (notifies p q) refl in let d = o.view.added (is_renew p) in let f = kept o (reenters p q) refl in omega (arith, a, b, d, f)

  pub won_cover : Cover e t
  won_cover = record {
    places = λ y m a i needs less. let d = post_same o Explore y a in let x : Edge = e.graph.pred m i in let f = selfs_same y m a i needs in let h = edges_rise x.task x.port in ⊎_elim (λ z. inl (omega (arith, d, f, h, z)))
        (λ z. inr (wide_waiting e s t (keys_same o) (shown o) (λ b w q g. rec o (is_closed b w q) refl ∙ g) (λ b w q g. let y = known_same o (waits_at b w q) (λ l. refl) (λ l. refl) in omega (arith, y, g)) x.task x.port z)) (o.inv.cover.places y m a i (old_needs y m a i needs) less);
    self_place = λ y m a needs. let d = post_same o Explore y a in let f = selfs_same y m a 40 needs in let z = o.inv.cover.self_place y m a (old_needs y m a 40 needs) in omega (arith, d, f, z);
  }

  pub won_activity : Activity e t
  won_activity = wide_activity e s t (keys_same o) (shown o) (more o) (λ m a i z. let b = rec o (is_spent m a i) refl in omega (arith, b, z))
      (λ y m a has some. let b = eq o (works m a) (let d = kept o (is_owed Compute m a) refl in let f = kept o (carries Compute m a) refl in let g = o.view.added (is_suspect m a) in let h = o.view.added (is_renew_of m a) in omega (arith, d, f, g, h)) in let d = post_same o Compute y a in omega (arith, b, d)) o.inv.activity

  -- a strike has landed, since the life was suspected
  pub won_no_fault : NoFault e t
  won_no_fault = record { faultless = λ z. absurd (let a = (o.inv.no_fault.faultless (sym (rec o is_any_struck refl) ∙ z)).none_suspected in let b = o.change.within (items is_any_suspect) in let d = o.view.added is_any_suspect in omega (arith, a, b, d)) }

  pub won_keeps : Invariant e t
  won_keeps = record {
    keys = elect_keys o;
    empty = elect_empty o;
    lives = elect_lives o;
    content = elect_content o;
    facts = elect_facts o;
    work = record { credits = elect_credits o; jobs = elect_jobs o; computings = elect_computings o; root = won_root };
    blocks = won_blocks;
    records = won_records;
    causes = won_causes;
    strikes = won_strikes;
    cover = won_cover;
    activity = won_activity;
    no_fault = won_no_fault;
  }
