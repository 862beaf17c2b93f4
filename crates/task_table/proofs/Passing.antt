-- What a pass is after each step.
use Rattle.std.proofs.Common.{◌≡◌, ℕ, ◌+◌, ◌^◌, ◌≤◌, ◌&&◌, Bool, false, min, length, List, [], ◌∷◌, ◌++◌, arith, sym, ap, ◌∙◌, subst, Option}
use lib.ListN.{get_elem?}
use Rattle.atomic_table.specs.Seated.{TableId}
use Rattle.atomic_table.proofs.Lists.{set_here}
use Rattle.core_state.specs.Graph.{Setting}
use Rattle.core_state.specs.Counts.{count, noted, total_of}
use Rattle.core_state.specs.Words.{place_of}
use Rattle.core_state.specs.Events.{Event, after, at, Can}
use Rattle.core_state.specs.Outcome.{entries}
use Rattle.core_state.specs.declared.block.BlockCells.{BlockCells}
use Rattle.core_state.specs.declared.views.View.{View}
use Rattle.graph_model.specs.declared.record.Record.{Record}
use Rattle.core_state.proofs.Lines.Entries.{records_entered}
use Rattle.core_state.proofs.Lines.Outcomes.{leaves}
use Rattle.core_state.proofs.Seats.Shares.{parts_kept}
use Rattle.core_steps.specs.Kinds.{event_of, moves_block}
use Rattle.core_steps.specs.Table.{Keeps, Plain, Stored, as_list, is_kept, is_root_replaced, kept_list, kept_room, kept_store}
use Rattle.core_steps.proofs.AnyCore.{IsViewOf}
use Rattle.core_steps.proofs.AtPlain.{core_at}
use Rattle.core_steps.proofs.Noting.{list_more, noted_more, store_more}
use Rattle.core_steps.proofs.Sounding.{leaves_blocks}
use Rattle.task_table.specs.Kept.{plain_of}
use Rattle.task_table.specs.Moments.{Did, Glance, IsReady, IsWide, Mine, Moment, Seated, emptied}
use Rattle.core_steps.proofs.Recording.{entered_room, one_at_most}
use Rattle.core_steps.specs.declared.kinds.Kind.{Kind}
use Rattle.core_steps.specs.declared.kinds.Touched.{Touched}
use Rattle.task_table.specs.Passes.{Passing, IsPass, IsPassStep, room_of}
use Rattle.task_table.proofs.Standing.{low, viewed, word_here}

-- the seat after a step has its view
pub now_seated : (e : Setting) (x : Event) (n : ℕ) (v w : View) → Moment e x n v w → Seated e w
now_seated e x n v w m = record {
  board = m.now;
  kept = m.kept_now;
  seat = m.seat;
  here = ap (λ vs. get_elem? vs m.seat) m.views_are ∙ set_here m.before.views m.seat w (low m.kept_before m.seat v m.was);
}

-- a seat's view is one of a core that meets the invariant
pub seat_viewed : (e : Setting) (v : View) (s : Seated e v) → IsViewOf e (core_at (plain_of e s.board)) v
seat_viewed e v s = viewed s.kept s.seat v s.here

-- and so it is before a step, whose word held the number, and after it
pub view_before : (e : Setting) (x : Event) (n : ℕ) (v w : View) (m : Moment e x n v w) → IsViewOf e (core_at (plain_of e m.before)) v
view_before e x n v w m = viewed m.kept_before m.seat v m.was

pub found_before : (e : Setting) (x : Event) (n : ℕ) (v w : View) (m : Moment e x n v w) → Can e v x → (core_at (plain_of e m.before)).word (at x) ≡ n
found_before e x n v w m can = word_here m.kept_before m.seat v m.was x can ∙ sym m.words_are.found_is

pub view_after : (e : Setting) (x : Event) (n : ℕ) (v w : View) (m : Moment e x n v w) → IsViewOf e (core_at (plain_of e m.now)) w
unfolding now_seated
view_after e x n v w m = seat_viewed e w (now_seated e x n v w m)

-- what a seat sees of a word on which it may step
pub glance_found : (e : Setting) (x : Event) (v : View) (n : ℕ) (o : Glance e (place_of e.shape (at x)) v n) → Can e v x → (core_at (plain_of e o.seated.board)).word (at x) ≡ n
glance_found e x v n o can = word_here o.seated.kept o.seated.seat v o.seated.here x can ∙ sym o.found_is

-- the records of a view that has one more, or none
module _ (root : ℕ) (v w : View) (s : Stored) (rs : List Record) (y : Option Record) (recs : w.records ≡ as_list y ++ v.records) where
  noted_both : (t : Record → Bool) → noted t w ≡ count t (as_list y) + noted t v
  noted_both t = ap (count t) recs ∙ noted_more t y v.records

  pub keeps_more : Keeps root (v ∷ []) (s ∷ []) rs → Keeps root (w ∷ []) (kept_store root y s ∷ []) (kept_list root y rs)
  unfolding total_of
  keeps_more k = record {
    others = λ q. let a = k.others q in let b = store_more root q y s in let c = noted_both (λ x. q x && is_kept root x) in omega (arith, a, b, c);
    replaced = λ q. let a = k.replaced q in let b = list_more root q y rs in let c = noted_both (λ x. q x && is_root_replaced root x) in omega (arith, a, b, c);
  }

module _ (e : Setting) (p : Passing) (x : Event) (n : ℕ) (slots : List (ℕ × Option BlockCells)) (now : Mine) (did : Did e x slots p.view n now) (y : Option Record) (is : entries e x n ≡ as_list y) where
  pub pass_after : IsPass e p → (z : TableId) (id m : ℕ) → IsPass e (record { table = z; seat = id; view = now.0; store = kept_store (2 ^ 63) y p.store; root_replaced = kept_list (2 ^ 63) y p.root_replaced; replaced_room = m })
  pass_after i z id m = record {
    live = let a = ap (λ (u : View). u.parts) did.view_is ∙ parts_kept e x n p.view in let b = i.live in omega (arith, a, b);
    keeps = subst (λ root. Keeps e.graph.root (now.0 ∷ []) (kept_store root y p.store ∷ []) (kept_list root y p.root_replaced)) i.seated.kept.sound.root_is
        (keeps_more e.graph.root p.view now.0 p.store p.root_replaced y (records_entered e x n p.view now.0 did.view_is ∙ ap (λ rs. rs ++ p.view.records) is) i.keeps);
    seated = now_seated e x n p.view now.0 did.moment;
  }

  -- a step that moves no block
  pub noted_pass : (slots ≡ emptied p.view.hands) × IsPass e p → moves_block x n ≡ false → (z : TableId) (id m : ℕ)
      → (now.1 ≡ emptied now.0.hands) × IsPass e (record { table = z; seat = id; view = now.0; store = kept_store (2 ^ 63) y p.store; root_replaced = kept_list (2 ^ 63) y p.root_replaced; replaced_room = m })
  noted_pass i calm z id m = (did.slots_are ∙ i.0 ∙ sym (ap emptied ((leaves e x n p.view now.0 did.view_is).hands_are ∙ (leaves_blocks e x n calm).hands p.view)), pass_after i.1 z id m)

-- a step of a pass, whose fields are those of r
pub step_by : (e : Setting) (x : Event) (t : Touched) (r p q : Passing) → r ≡ p → Can e p.view x → t.at ≡ place_of e.shape (at x) → q.view ≡ after e x t.found r.view → Moment e x t.found r.view q.view → q.table ≡ r.table → q.seat ≡ r.seat → IsPassStep e x t p q
step_by e x t r p q same can place view moment table seat = subst (λ (o : Passing). Can e o.view x → IsPassStep e x t o q) same (λ c. record { can = c; at_is = place; view_is = view; moment = moment; same_table = table; same_seat = seat }) can

-- the room that is left once a record is kept
pub room_by : (r p : Passing) → r ≡ p → (y : Option Record) (s : Stored) (m : ℕ) → s ≡ kept_store (2 ^ 63) y r.store → m ≡ kept_room (2 ^ 63) y r.replaced_room → room_of p ≤ min s.room m + 1
room_by r p same y s m store list = subst (λ (o : Passing). room_of o ≤ min s.room m + 1) same
    (let alone : Plain = record { words = []; views = []; blocks = []; stores = r.store ∷ []; root_replaced = []; shape = record { rows = 0; notify_words = 0; blocks = 0 }; root_room = 0; replaced_room = r.replaced_room } in
    let a : min r.store.room r.replaced_room ≤ min (kept_store (2 ^ 63) y r.store).room (kept_room (2 ^ 63) y r.replaced_room) + length (as_list y) = entered_room (2 ^ 63) 0 y alone (omega arith) in let b = one_at_most y in
    let d : min s.room m ≡ min (kept_store (2 ^ 63) y r.store).room (kept_room (2 ^ 63) y r.replaced_room) = (λ j. min (store j).room (list j)) in omega (arith, a, b, d))

-- The same by the kind of a step of a pass, whose fields are those of r.
module _ (e : Setting) (r p : Passing) (same : r ≡ p) (kind : Kind) where
  -- it is ready to step
  pub ready_by : (z own : TableId) (word : ℕ) → z ≡ own → IsWide e own → IsPass e r → Can e p.view (event_of p.view kind) → word ≡ place_of e.shape (at (event_of p.view kind)) → IsReady e z r.view (event_of r.view kind) word
  ready_by z own word is wide i can place = record {
    wide = subst (IsWide e) (sym is) wide;
    seated = i.seated;
    live = i.live;
    can = subst (λ (o : Passing). Can e o.view (event_of o.view kind)) (sym same) can;
    word_is = subst (λ (o : Passing). word ≡ place_of e.shape (at (event_of o.view kind))) (sym same) place;
  }

  module _ (n : ℕ) (slots : List (ℕ × Option BlockCells)) (now : Mine) (did : Did e (event_of r.view kind) slots r.view n now) where
    -- what it is after the step, with what is kept of a record
    pub noted_by : (slots ≡ emptied r.view.hands) × IsPass e r → moves_block (event_of p.view kind) n ≡ false → (y : Option Record) → entries e (event_of p.view kind) n ≡ as_list y → (s : Stored) (rs : List Record) → s ≡ kept_store (2 ^ 63) y r.store → rs ≡ kept_list (2 ^ 63) y r.root_replaced → (z : TableId) (id m : ℕ)
        → (now.1 ≡ emptied now.0.hands) × IsPass e (record { table = z; seat = id; view = now.0; store = s; root_replaced = rs; replaced_room = m })
    noted_by i calm y is s rs store list z id m = subst (λ (o : Stored × List Record). (now.1 ≡ emptied now.0.hands) × IsPass e (record { table = z; seat = id; view = now.0; store = o.0; root_replaced = o.1; replaced_room = m })) (λ j. (sym store j, sym list j))
        (noted_pass e r (event_of r.view kind) n slots now did y (subst (λ (o : Passing). entries e (event_of o.view kind) n ≡ as_list y) (sym same) is) i (subst (λ (o : Passing). moves_block (event_of o.view kind) n ≡ false) (sym same) calm) z id m)

    pub did_by : (place : ℕ) (q : Passing) → Can e p.view (event_of p.view kind) → place ≡ place_of e.shape (at (event_of p.view kind)) → q.view ≡ now.0 → q.table ≡ r.table → q.seat ≡ r.seat → IsPassStep e (event_of p.view kind) (record { at = place; found = n }) p q
    did_by place q can is view table seat = subst (λ (o : Passing). Can e o.view (event_of o.view kind) → place ≡ place_of e.shape (at (event_of o.view kind)) → IsPassStep e (event_of o.view kind) (record { at = place; found = n }) o q) same
        (λ c a. record {
          can = c;
          at_is = a;
          view_is = view ∙ did.view_is;
          moment = subst (λ (u : View). Moment e (event_of r.view kind) n r.view u) (sym view) did.moment;
          same_table = table;
          same_seat = seat;
        }) can is

-- one event by another name
pub as_event : {e : Setting} {x y : Event} {t : Touched} {p q : Passing} → x ≡ y → IsPassStep e x t p q → IsPassStep e y t p q
as_event {e} {x} {y} {t} {p} {q} same step = subst (λ o. IsPassStep e o t p q) same step
