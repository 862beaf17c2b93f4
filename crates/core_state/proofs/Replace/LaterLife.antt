-- A step after which each word shows what it showed or a later life keeps what views know, and what strikes have left.
use Rattle.std.proofs.Common.{◌≡◌, ◌⊎◌, ℕ, ◌<◌, Bool, min, ⊎_elim, inl, inr, arith, sym, ap, ◌∙◌}
use Rattle.core_state.specs.Graph.{Setting}
use Rattle.core_state.specs.Words.{pending, stop, descriptor, notify, spot_of, life_of, mark_of, life_shown, mark_shown}
use Rattle.core_state.specs.Counts.{facts}
use Rattle.core_state.specs.Tests.{is_idle, is_stopped, is_stops, is_seen_life, is_seen_mark, is_seen_closed, is_closed, is_struck_from}
use Rattle.core_state.specs.Change.{Core}
use Rattle.core_state.specs.Rows.{Facts}
use Rattle.core_state.specs.Records.{Landed}
use Rattle.graph_model.specs.declared.record.Hit.{Hit}
use Rattle.graph_model.specs.declared.record.Hit.TheVariants as hit_of
use Rattle.core_state.specs.declared.views.Known.{Known}
use Rattle.core_state.specs.declared.views.Word.{Word}
use Rattle.core_state.specs.declared.views.Word.TheVariants as word
use Rattle.core_state.proofs.Base.Frame.{SameKeys, SameRecords, had, has_row}

-- the word shows the life and the mark that it showed, or a later life
abbrev pub IsLater : Word → ℕ → ℕ → Type 0
IsLater w n m = ((life_shown w m ≡ life_shown w n) × (mark_shown w m ≡ mark_shown w n)) ⊎ (life_shown w n < life_shown w m)

-- so does each word
abbrev pub LaterShown : Core → Core → Type 0
LaterShown s t = (r : ℕ) (w : Word) → IsLater w (s.word (spot_of r w)) (t.word (spot_of r w))

module _ (e : Setting) (s t : Core) (later : LaterShown s t) (recs : SameRecords s t) where
  pub later_facts : SameKeys s t → ((f : Known → Bool) → t.total (facts f) ≡ s.total (facts f)) → t.word pending ≡ s.word pending → t.word stop ≡ s.word stop → Facts e s → Facts e t
  later_facts kw knows waiting halted i = record {
    idle = λ z. waiting ∙ i.idle (let a = knows is_idle in omega (arith, a, z));
    stopped = λ z. halted ∙ i.stopped (let a = knows is_stopped in omega (arith, a, z));
    stops = halted ∙ i.stops ∙ ap (min 1) (sym (knows is_stops));
    closed = λ k l w z. let a = recs (is_closed k l w) in let b = i.closed k l w (let d = knows (is_seen_closed k l w) in omega (arith, d, z)) in omega (arith, a, b);
    row_of_life = λ k l w z. has_row e s t kw k (i.row_of_life k l w (let d = knows (is_seen_life k w l) in omega (arith, d, z)));
    row_of_mark = λ k l w z. has_row e s t kw k (i.row_of_mark k l w (let d = knows (is_seen_mark k w l) in omega (arith, d, z)));
    life = λ r k l w it z. let a = i.life r k l w (had e s t kw r k it) (let d = knows (is_seen_life k w l) in omega (arith, d, z)) in ⊎_elim (λ q. let b = q.0 in omega (arith, a, b)) (λ q. omega (arith, a, q)) (later r w);
    mark = λ r k l w it z. let a = i.mark r k l w (had e s t kw r k it) (let d = knows (is_seen_mark k w l) in omega (arith, d, z)) in ⊎_elim
        (λ q. ⊎_elim (λ y. inl (let b = q.0 in omega (arith, y, b))) (λ y. inr (y.0 ∙ sym q.0, q.1 ∙ y.1)) a) (λ q. inl (⊎_elim (λ y. omega (arith, y, q)) (λ y. let b = y.0 in omega (arith, b, q)) a)) (later r w);
  }

  -- what a strike has left at a word of which the two numbers are such
  landed : (k l n m : ℕ) (h : Hit) → ((life_of m ≡ life_of n) × (mark_of m ≡ mark_of n)) ⊎ (life_of n < life_of m) → Landed e s k l n h → Landed e t k l m h
  landed k l n m h shows i = record {
    recorded = let a = recs (is_struck_from k l h) in let b = i.recorded in omega (arith, a, b);
    stands = ⊎_elim (λ q. let a = q.0 in ⊎_elim (λ y. inl (omega (arith, a, y))) (λ y. inr (let b = y.0 in omega (arith, a, b), q.1 ∙ y.1)) i.stands) (λ q. inl (⊎_elim (λ y. omega (arith, y, q)) (λ y. let b = y.0 in omega (arith, b, q)) i.stands)) shows;
  }

  pub landed_descriptor : (r k l : ℕ) → Landed e s k l (s.word (descriptor r)) hit_of.Descriptor → Landed e t k l (t.word (descriptor r)) hit_of.Descriptor
  landed_descriptor r k l i = landed k l (s.word (descriptor r)) (t.word (descriptor r)) hit_of.Descriptor (later r word.Descriptor) i

  pub landed_notify : (r w k l : ℕ) → Landed e s k l (s.word (notify r w)) (hit_of.Notify w) → Landed e t k l (t.word (notify r w)) (hit_of.Notify w)
  landed_notify r w k l i = landed k l (s.word (notify r w)) (t.word (notify r w)) (hit_of.Notify w) (later r (word.Notify w)) i
