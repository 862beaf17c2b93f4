-- Cutting a pass in two and joining two keep the rule of a shared table.
use Rattle.std.proofs.Common.{◌≡◌, ℕ, ◌<◌, ◌&&◌, List, [], ◌∷◌, ◌++◌, length, set, length-set, arith, sym, ap, refl, ◌∙◌, subst, Option, None}
use Rattle.atomic_table.specs.Seated.{TableId}
use Rattle.atomic_table.specs.Table.{Joins, Splits}
use Rattle.atomic_table.proofs.Lists.{at_last, at_longer, set_here}
use Rattle.core_state.specs.Graph.{Setting}
use Rattle.core_state.specs.Change.{Join, Split, block_of}
use Rattle.core_state.specs.Counts.{count, in_hand, noted, total_of}
use Rattle.core_state.specs.Cover.{Passed}
use Rattle.core_state.specs.Invariant.{Invariant, Seats}
use Rattle.core_state.specs.Prevented.{Prevented}
use Rattle.core_state.specs.Views.{blank, joined, less_one, newcomer}
use Rattle.core_state.specs.declared.block.BlockCells.{BlockCells}
use Rattle.core_state.specs.declared.views.View.{View}
use Rattle.graph_model.specs.declared.record.Record.{Record}
use Rattle.core_state.proofs.Seats.Keeps.{join_passed, join_prevented, keeps_join, keeps_split, split_passed, split_prevented}
use Rattle.core_state.proofs.Seats.Lists.{join_change, join_seats, split_change, split_seats}
use Rattle.core_state.proofs.Seats.View.{count_both, joined_hands, joined_records}
use Rattle.core_steps.specs.Table.{Keeps, Stored, core_by, home_at, is_kept, is_root_replaced}
use Rattle.core_steps.proofs.Housing.{housed_same}
use Rattle.task_table.specs.Kept.{Board, Kept, blocks_in}
use Rattle.core_state.specs.declared.views.Hand.{Hand}
use Rattle.task_table.specs.Moments.{Looked, Mine, Seated, emptied}
use Rattle.task_table.specs.Passes.{Passing, IsPass}
use Rattle.task_table.proofs.Boards.{all_keep, low_of, stores_many}
use Rattle.task_table.proofs.Passing.{keeps_more}

-- the same work, dealt anew to the views
dealt_kept : (e : Setting) (s : Board) (us : List View) → Kept e s → Invariant e (core_by e.shape s.words (blocks_in s.homes) us) × Passed e (core_by e.shape s.words (blocks_in s.homes) us) × Prevented e (core_by e.shape s.words (blocks_in s.homes) us)
    → ((b : ℕ) → total_of us (in_hand b) ≡ total_of s.views (in_hand b)) → ((b : ℕ) → block_of (home_at (blocks_in s.homes)) us b ≡ block_of (home_at (blocks_in s.homes)) s.views b) → Seats us → Kept e (record { words = s.words; homes = s.homes; views = us })
dealt_kept e s us kept all hands blocks seats = record {
  sound = record {
    setting = kept.sound.setting;
    shape_is = refl;
    root_is = kept.sound.root_is;
    fits = kept.sound.fits;
    holds = all.0;
    passed = all.1;
    prevented = all.2;
    keeps = all_keep e.graph.root us;
    workers = stores_many e.graph.root us;
    at_home = λ b x home. hands b ∙ kept.sound.at_home b x home;
    housed = housed_same e e.shape (blocks_in s.homes) s.views us hands blocks kept.sound.housed;
    root_last = kept.sound.root_last;
    room_is = refl;
  };
  seats = seats;
  full = kept.full;
}

-- a pass that gives away one of several parts
pub split_allowed : (e : Setting) (id : ℕ) (v : View) → 1 < v.parts → Splits (Kept e) id v (less_one v) (newcomer v)
split_allowed e id v several s kept here =
    let us : List View = set s.views id (less_one v) ++ newcomer v ∷ [] in
    let c : Split (core_by e.shape s.words (blocks_in s.homes) s.views) (core_by e.shape s.words (blocks_in s.homes) (set s.views id (less_one v) ++ newcomer v ∷ [])) v (less_one v) (newcomer v) =
    split_change {S = BlockCells} e.shape (λ _. home_at (blocks_in s.homes)) (record { words = s.words; homes = []; views = s.views }) id v here in
    dealt_kept e s us kept (keeps_split e _ _ v c kept.sound.holds, split_passed e _ _ v c kept.sound.passed, split_prevented e _ _ v c kept.sound.prevented)
    (λ b. let a = c.sums (in_hand b) in omega (arith, a)) c.blocks (split_seats s.views kept.seats id v here several)

-- a pass that takes in another, which has no block in hand
pub join_allowed : (e : Setting) (id : ℕ) (v : View) (other : ℕ) (w : View) → w.hands ≡ [] → Joins (Kept e) id v other w (joined v w) blank
join_allowed e id v other w free s kept here apart there =
    let us : List View = set (set s.views id (joined v w)) other blank in
    let c : Join (core_by e.shape s.words (blocks_in s.homes) s.views) (core_by e.shape s.words (blocks_in s.homes) (set (set s.views id (joined v w)) other blank)) v w (joined v w) blank =
    join_change {S = BlockCells} e.shape (λ _. home_at (blocks_in s.homes)) (record { words = s.words; homes = []; views = s.views }) id other v w here apart there free in
    dealt_kept e s us kept (keeps_join e _ _ v w c kept.sound.holds, join_passed e _ _ v w c kept.sound.passed, join_prevented e _ _ v w c kept.sound.prevented)
    (λ b. let a = c.sums (in_hand b) in let f = joined_hands b v w in omega (arith, a, f)) c.blocks (join_seats s.views kept.seats id v here other w apart there)

module _ (e : Setting) (v : View) (several : 1 < v.parts) (s : Seated e v) where
  abbrev cut : Board
  cut = record { words = s.board.words; homes = s.board.homes; views = set s.board.views s.seat (less_one v) ++ newcomer v ∷ [] }

  low : s.seat < length s.board.views
  low = low_of s.board.views s.seat v s.here

  -- both passes have seats then
  pub less_seated : Seated e (less_one v)
  less_seated = record { board = cut; kept = split_allowed e s.seat v several s.board s.kept s.here; seat = s.seat; here = at_longer (set s.board.views s.seat (less_one v)) (newcomer v ∷ []) s.seat (less_one v) (set_here s.board.views s.seat (less_one v) low) }

  pub new_seated : Seated e (newcomer v)
  new_seated = record { board = cut; kept = split_allowed e s.seat v several s.board s.kept s.here; seat = length s.board.views; here = at_last (set s.board.views s.seat (less_one v)) (newcomer v) (length s.board.views) (length-set s.board.views s.seat (less_one v)) }

-- a pass without records
pub keeps_none : (root : ℕ) (v : View) (s : Stored) (rs : List Record) → v.records ≡ [] → s.records ≡ [] → rs ≡ [] → Keeps root (v ∷ []) (s ∷ []) rs
unfolding total_of
keeps_none root v s rs none stored replaced = record {
  others = λ q. let a : noted (λ x. q x && is_kept root x) v ≡ 0 = ap (count (λ x. q x && is_kept root x)) none in let b : count q s.records ≡ 0 = ap (count q) stored in omega (arith, a, b);
  replaced = λ q. let a : noted (λ x. q x && is_root_replaced root x) v ≡ 0 = ap (count (λ x. q x && is_root_replaced root x)) none in let b : count q rs ≡ 0 = ap (count q) replaced in omega (arith, a, b);
}

-- the records of two passes
pub keeps_both : (root : ℕ) (v w : View) (s t u : Stored) (rs ss us : List Record) → u.records ≡ s.records ++ t.records → us ≡ rs ++ ss → Keeps root (v ∷ []) (s ∷ []) rs → Keeps root (w ∷ []) (t ∷ []) ss → Keeps root (joined v w ∷ []) (u ∷ []) us
unfolding total_of
keeps_both root v w s t u rs ss us both list k m = record {
  others = λ q. let a = k.others q in let b = m.others q in let c = joined_records (λ x. q x && is_kept root x) v w in let d = count_both q s.records t.records in let f = ap (count q) both in omega (arith, a, b, c, d, f);
  replaced = λ q. let a = k.replaced q in let b = m.replaced q in let c = joined_records (λ x. q x && is_root_replaced root x) v w in let d = count_both q rs ss in let f = ap (count q) list in omega (arith, a, b, c, d, f);
}

-- What passes are when one was cut in two: the pass that gave away a part, and the new one.
module _ (e : Setting) (p : Passing) (slots : List (ℕ × Option BlockCells)) (i : (slots ≡ emptied p.view.hands) × IsPass e p) (several : 1 < p.view.parts) (me : Mine) (z : TableId) (id m : ℕ) where
  pub less_pass : me ≡ (less_one p.view, slots) → (me.1 ≡ emptied me.0.hands) × IsPass e (record { table = z; seat = id; view = me.0; store = p.store; root_replaced = p.root_replaced; replaced_room = m })
  less_pass is = subst (λ (o : Mine). (o.1 ≡ emptied o.0.hands) × IsPass e (record { table = z; seat = id; view = o.0; store = p.store; root_replaced = p.root_replaced; replaced_room = m })) (sym is)
      (i.0, record { live = omega (arith, several); keeps = keeps_more e.graph.root p.view (less_one p.view) p.store p.root_replaced None refl i.1.keeps; seated = less_seated e p.view several i.1.seated })

  pub new_pass : me ≡ (newcomer p.view, []) → (s : Stored) (rs : List Record) → s.records ≡ [] → rs ≡ [] → (me.1 ≡ emptied me.0.hands) × IsPass e (record { table = z; seat = id; view = me.0; store = s; root_replaced = rs; replaced_room = m })
  new_pass is s rs none empty = subst (λ (o : Mine). (o.1 ≡ emptied o.0.hands) × IsPass e (record { table = z; seat = id; view = o.0; store = s; root_replaced = rs; replaced_room = m })) (sym is)
      (refl, record { live = omega arith; keeps = keeps_none e.graph.root (newcomer p.view) s rs refl none empty; seated = new_seated e p.view several i.1.seated })

-- what a pass is when it has taken in another
pub joined_pass : (e : Setting) (p q : Passing) (slots : List (ℕ × Option BlockCells)) → (slots ≡ emptied p.view.hands) × IsPass e p → IsPass e q → q.view.hands ≡ [] → (me now : Mine) (n : ℕ) → me ≡ (joined p.view q.view, slots) → Looked e 0 me n now
    → (s : Stored) (rs : List Record) → s.records ≡ p.store.records ++ q.store.records → rs ≡ p.root_replaced ++ q.root_replaced → (z : TableId) (id m : ℕ)
    → (now.1 ≡ emptied now.0.hands) × IsPass e (record { table = z; seat = id; view = now.0; store = s; root_replaced = rs; replaced_room = m })
joined_pass e p q slots i j free me now n is looked s rs store list z id m = subst (λ (o : Mine). (o.1 ≡ emptied o.0.hands) × IsPass e (record { table = z; seat = id; view = o.0; store = s; root_replaced = rs; replaced_room = m })) (sym (looked.same ∙ is)) (
  i.0 ∙ sym (ap (λ (hs : List Hand). emptied (hs ++ p.view.hands)) free),
  record {
    live = let a = i.1.live in omega (arith, a);
    keeps = keeps_both e.graph.root p.view q.view p.store q.store s p.root_replaced q.root_replaced rs store list i.1.keeps j.keeps;
    seated = subst (λ (o : Mine). Seated e o.0) is looked.glance.seated;
  },
)
