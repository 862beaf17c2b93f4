-- Each step of a seat keeps the rule of a shared table.
use Rattle.std.proofs.Common.{◌≡◌, ℕ, ◌<◌, true, false, List, length, get_or, set, length-set, sym, ◌∙◌, subst}
use mathlib.Core.Option.{some}
use lib.ListN.{get_elem?}
use Rattle.core_state.specs.Graph.{Setting}
use Rattle.core_state.specs.Words.{place_of, inside}
use Rattle.core_state.specs.Events.{Event, after, at, left, Can}
use Rattle.core_state.specs.Views.{blank}
use Rattle.core_state.specs.declared.views.View.{View}
use Rattle.core_state.proofs.Base.Sums.{total_within}
use Rattle.core_state.proofs.Base.Words.{read_at}
use Rattle.core_state.proofs.Seats.Lists.{step_seats}
use Rattle.core_state.proofs.Seats.Shares.{parts_kept}
use Rattle.core_steps.specs.Kinds.{moves_block}
use Rattle.core_steps.specs.Table.{IsSound, view_at, word_count}
use Rattle.core_steps.proofs.AnyCore.{IsViewOf}
use Rattle.core_steps.proofs.AtPlain.{core_at}
use Rattle.core_steps.proofs.Changing.{low_place}
use Rattle.core_steps.proofs.Inside.{spot_inside}
use Rattle.core_steps.proofs.Sounding.{sound_with, stands, sums_of}
use Rattle.task_table.specs.Kept.{Board, Kept, plain_of, replaced_of, stores_of}
use Rattle.task_table.proofs.Boards.{all_keep, at_or, low_of, stores_many}

module _ {e : Setting} {s : Board} (kept : Kept e s) (id : ℕ) (v : View) (here : get_elem? s.views id ≡ some v) where
  pub low : id < length s.views
  low = low_of s.views id v here

  pub is_view : view_at (plain_of e s) id ≡ v
  is_view = at_or s.views id v blank here

  pub viewed : IsViewOf e (core_at (plain_of e s)) v
  viewed = record { fit = kept.sound.setting; sums = sums_of (plain_of e s); holds = kept.sound.holds; within = λ f. total_within s.views id v f here }

  -- the word on which the seat may step is one of the table's
  pub spot_here : (x : Event) → Can e v x → inside e.shape (at x) ≡ true
  spot_here x can = spot_inside e (plain_of e s) id low kept.sound x (subst (λ u. Can e u x) (sym is_view) can)

  pub place_low : (x : Event) → Can e v x → place_of e.shape (at x) < word_count e.shape
  place_low x can = low_place e.shape (at x) (spot_here x can)

  pub word_here : (x : Event) → Can e v x → (core_at (plain_of e s)).word (at x) ≡ get_or s.words (place_of e.shape (at x)) 0
  word_here x can = read_at e.shape s.words (at x) (spot_here x can)

  module _ (x : Event) where
    abbrev found : ℕ
    found = get_or s.words (place_of e.shape (at x)) 0

    -- the table after a step of the seat that moves no block
    abbrev calm_board : View → Board
    calm_board u = record { words = set s.words (place_of e.shape (at x)) (left e x (get_or s.words (place_of e.shape (at x)) 0)); homes = s.homes; views = set s.views id (after e x (get_or s.words (place_of e.shape (at x)) 0) u) }

    calm_sound : (can : Can e (view_at (plain_of e s) id) x) → moves_block x (get_or s.words (place_of e.shape (at x)) 0) ≡ false → IsSound e (plain_of e (calm_board (view_at (plain_of e s) id)))
    calm_sound can calm = let us : List View = set s.views id (after e x found (view_at (plain_of e s) id)) in
        sound_with e (plain_of e s) id (after e x found (view_at (plain_of e s) id)) (set s.words (place_of e.shape (at x)) (left e x found)) (plain_of e s).blocks kept.sound low (stands e (plain_of e s) id low kept.sound x can calm)
        (stores_of e.graph.root us) (replaced_of e.graph.root us) 0 (stores_many e.graph.root us ∙ length-set s.views id (after e x found (view_at (plain_of e s) id)) ∙ sym (stores_many e.graph.root s.views)) (all_keep e.graph.root us)

    pub calm_kept : Can e v x → 0 < v.parts → moves_block x (get_or s.words (place_of e.shape (at x)) 0) ≡ false
        → Kept e (record { words = set s.words (place_of e.shape (at x)) (left e x (get_or s.words (place_of e.shape (at x)) 0)); homes = s.homes; views = set s.views id (after e x (get_or s.words (place_of e.shape (at x)) 0) v) })
    calm_kept can live calm = record {
      sound = subst (λ u. Can e u x → IsSound e (plain_of e (calm_board u))) is_view (λ c. calm_sound c calm) can;
      seats = step_seats s.views kept.seats id v here (after e x found v) (parts_kept e x found v) live;
      full = kept.full;
    }
