-- How the weight of the suspects among the lines changes with a step, by its first line and its answer, and which lines are plain.
use Rattle.std.proofs.Common.{◌≡◌, ◌⊎◌, ℕ, ◌+◌, ◌-◌, ◌≤◌, Bool, true, false, cond, not, ◌&&◌, nat_lt, eqb, eq-eqb, List, [], ◌∷◌, ⊎_elim, inl, inr, arith, refl, ap, sym, ◌∙◌, subst}
use Rattle.std.proofs.lemmas.Bool.{eqb-true}
use Rattle.graph_model.specs.declared.plan.Point.TheVariants as point
use Rattle.graph_model.specs.declared.record.Cause.{Cause}
use Rattle.graph_model.specs.declared.record.Cause.TheVariants as cause
use Rattle.core_state.specs.Effects.{after_computed, elected_of, loaded_items, moved_items, registered_of, told_of}
use Rattle.core_state.specs.Events.{Event, after}
use Rattle.core_state.specs.Events.Event.{close, elect, finish, load_descriptor, post, register, renew_descriptor, renew_notify, spend}
use Rattle.core_state.specs.Graph.{Graph, Plan, Setting}
use Rattle.core_state.specs.Lines.{Line, HasLines, change_first, closed_lines, came_lines, credit, elected_lines, flat, of, onto, registered_lines, settled, told_lines}
use Rattle.core_state.specs.Views.{is_finished, none_left}
use Rattle.core_state.specs.Words.{life_of, mark_of}
use Rattle.core_state.specs.declared.answers.Closing.{Closing}
use Rattle.core_state.specs.declared.answers.Closing.TheVariants as closing
use Rattle.core_state.specs.declared.answers.Elected.{Elected}
use Rattle.core_state.specs.declared.answers.Elected.TheVariants as elected
use Rattle.core_state.specs.declared.answers.Registered.TheVariants as registered
use Rattle.core_state.specs.declared.answers.Told.TheVariants as told
use Rattle.core_state.specs.declared.job.Job.{Job}
use Rattle.core_state.specs.declared.job.Job.TheVariants as job
use Rattle.core_state.specs.declared.views.Item.{Item as Piece}
use Rattle.core_state.specs.declared.views.Item.TheVariants as line
use Rattle.core_state.specs.declared.views.Stack.{Stack}
use Rattle.core_state.specs.declared.views.View.{View}
use Rattle.core_state.proofs.Lines.After.{line_stands, lines_after}
use Rattle.core_state.proofs.Lines.Leaves.{HasLine, stepped}
use Rattle.core_state.proofs.Base.Counting.{both}
use Rattle.compute_notify.specs.Resting.{suspect_rest}
use Rattle.run_bounds.specs.Light.{lines_weight, suspect_light}
use Rattle.run_bounds.specs.Shared.{ArePlain, BehindPlain, IsPlain, IsTopped, is_plain}
use Rattle.run_bounds.specs.Struck.{IsBlamed}
use Rattle.run_bounds.proofs.Light.{light_low, lines_weigh}
use Rattle.run_bounds.proofs.Weights.{first_more, moved_keeps}
use Rattle.run_bounds.proofs.Shared.Topping.{marked_first, settled_plain}

-- a credit is among the lines
abbrev HasCredit : List Line → Type 0
HasCredit [] = ⊥
HasCredit (credit ∷ b) = Unit {0}
HasCredit (of x ∷ b) = HasCredit b

-- behind an item that stands first there is the credit of its stack
credit_behind : (ss : List Stack) (x : Piece) (b : List Line) → flat ss ≡ of x ∷ b → HasCredit b
credit_behind [] x b is = absurd cc
credit_behind (s ∷ ss) x b is = by s.items is
  where
    ends : (zs : List Piece) → HasCredit (onto zs (credit ∷ flat ss))
    ends [] = tt
    ends (z ∷ zs) = ends zs

    by : (xs : List Piece) → onto xs (credit ∷ flat ss) ≡ of x ∷ b → HasCredit b
    by [] at = absurd cc
    by (z ∷ zs) at = let same : onto zs (credit ∷ flat ss) ≡ b = cc in subst HasCredit same (ends zs)

-- so where they are plain a plain one stands first once it has gone
first_left : (g : Graph) (p : Plan) (made : List ℕ) (b : List Line) → ArePlain b → HasCredit b → (y : Line) × (ls : List Line) × (settled g p made b ≡ y ∷ ls) × (is_plain y ≡ true)
first_left g p made [] plain has = absurd has
first_left g p made (credit ∷ b) plain has = (credit, b, refl, refl)
first_left g p made (of x ∷ b) plain has = by (first_left g p made b plain.1 has) (is_finished g p made x)
  where
    by : (y : Line) × (ls : List Line) × (settled g p made b ≡ y ∷ ls) × (is_plain y ≡ true) → (c : Bool) → (y : Line) × (ls : List Line) × (cond c (settled g p made b) (of x ∷ b) ≡ y ∷ ls) × (is_plain y ≡ true)
    by rest true = rest
    by rest false = (of x, b, refl, plain.0)

pub behind_plain : (e : Setting) (v w : View) (x : Piece) (b : List Line) → flat v.stacks ≡ of x ∷ b → IsTopped v → HasLines e w b → IsPlain w
behind_plain e v w x b top topped lines = let it = first_left e.graph e.plan w.strikes b (subst BehindPlain top topped) (credit_behind v.stacks x b top) in record { first = it.0; below = it.1; top = lines.lines_are ∙ it.2; plain = it.3 }

-- a suspect for a mark is not among plain lines
blamed_among : (w : View) (k l : ℕ) → IsBlamed w k l → ArePlain (flat w.stacks) → ⊥
blamed_among w k l it plain = let all : ArePlain (of (line.Suspect k l it.cause it.waits) ∷ it.below) = subst ArePlain it.top plain in marked_first k l it.cause it.waits it.marked all.0

module _ (e : Setting) where
  -- a mark that a spending or a registering found makes its life suspect
  spent_lines : (n r k j : ℕ) (u w : View) → HasLine u → mark_of n ≡ 1 → w ≡ after e (spend r k j) n u → HasLines e w (of (line.Suspect k (life_of n) cause.Descriptor false) ∷ change_first (moved_items e.graph) (flat u.stacks))
  spent_lines n r k j u w has marked is =
      let told_is : told_of (e.graph.places k) j n ≡ told.Struck (life_of n) = rw (eq-eqb (mark_of n) 1 marked) in subst (λ z. HasLines e w (told_lines k z (change_first (moved_items e.graph) (flat u.stacks)))) told_is (stepped e (spend r k j) n u w (λ z. has) is)

  registered_lines_are : (n r k q : ℕ) (u w : View) → HasLine u → mark_of n ≡ 1 → w ≡ after e (register r k q) n u → HasLines e w (of (line.Suspect k (life_of n) cause.Notify false) ∷ flat u.stacks)
  registered_lines_are n r k q u w has marked is =
      let told_is : registered_of n ≡ registered.Struck (life_of n) = rw (eq-eqb (mark_of n) 1 marked) in subst (λ z. HasLines e w (registered_lines k z (change_first (moved_items e.graph) (flat u.stacks)) (flat u.stacks))) told_is (stepped e (register r k q) n u w (λ z. has) is)

  pub spent_blames : (n r k j : ℕ) (u w : View) → HasLine u → mark_of n ≡ 1 → w ≡ after e (spend r k j) n u → IsBlamed w k (life_of n)
  spent_blames n r k j u w has marked is = let rest : List Line = change_first (moved_items e.graph) (flat u.stacks) in
      record { cause = cause.Descriptor; waits = false; below = rest; marked = refl; top = line_stands e w (line.Suspect k (life_of n) cause.Descriptor false) rest refl (spent_lines n r k j u w has marked is) }

  pub registered_blames : (n r k q : ℕ) (u w : View) → HasLine u → mark_of n ≡ 1 → w ≡ after e (register r k q) n u → IsBlamed w k (life_of n)
  registered_blames n r k q u w has marked is = record { cause = cause.Notify; waits = false; below = flat u.stacks; marked = refl; top = line_stands e w (line.Suspect k (life_of n) cause.Notify false) (flat u.stacks) refl (registered_lines_are n r k q u w has marked is) }

  pub spent_weighs : (n r k j : ℕ) (u w : View) → HasLine u → mark_of n ≡ 1 → w ≡ after e (spend r k j) n u → lines_weight e (flat u.stacks) + suspect_rest e k ≤ lines_weight e (flat w.stacks)
  spent_weighs n r k j u w has marked is =
      let a = lines_weigh e w (of (line.Suspect k (life_of n) cause.Descriptor false) ∷ change_first (moved_items e.graph) (flat u.stacks)) (spent_lines n r k j u w has marked is) in let b = first_more e (moved_items e.graph) (moved_keeps e e.graph) (flat u.stacks) in omega (arith, a, b)

  pub registered_weighs : (n r k q : ℕ) (u w : View) → HasLine u → mark_of n ≡ 1 → w ≡ after e (register r k q) n u → lines_weight e (flat u.stacks) + suspect_rest e k ≤ lines_weight e (flat w.stacks)
  registered_weighs n r k q u w has marked is = let a = lines_weigh e w (of (line.Suspect k (life_of n) cause.Notify false) ∷ flat u.stacks) (registered_lines_are n r k q u w has marked is) in omega (arith, a)

  -- and that the load of a descriptor found, by the first line
  module _ (n r k : ℕ) (u w : View) (topped : IsTopped u) (marked : mark_of n ≡ 1) (blamed : IsBlamed w k (life_of n)) (is : w ≡ after e (load_descriptor r k) n u) where
    -- plain lines that stay leave no suspect first
    stays : (y : Line) (b : List Line) → is_plain y ≡ true → ArePlain b → HasLines e w (y ∷ b) → ⊥
    stays y b plain all lines = blamed_among w k (life_of n) blamed (subst ArePlain (sym lines.lines_are) (settled_plain e.graph e.plan w.strikes (y ∷ b) (plain, all)))

    abbrev Weighs : List Line → Type 0
    Weighs ls = lines_weight e ls + suspect_rest e k ≤ lines_weight e (flat w.stacks)

    suspected : (a : ℕ) (rest : List Line) → k ≡ a → HasLines e w (of (line.Suspect a (life_of n) cause.Descriptor false) ∷ rest) → Weighs rest
    suspected a rest same lines = let c = lines_weigh e w (of (line.Suspect a (life_of n) cause.Descriptor false) ∷ rest) lines in let d = ap (suspect_rest e) same in omega (arith, c, d)

    by_line : (y : Line) (b : List Line) → is_plain y ≡ true → ArePlain b → HasLines e w (change_first (loaded_items e.graph e.plan u.strikes k n) (y ∷ b)) → Weighs (y ∷ b)
    by_line credit b plain all lines = absurd (stays credit b plain all lines)
    by_line (of (line.Explore a l j)) b plain all lines = absurd (stays (of (line.Explore a l j)) b plain all lines)
    by_line (of (line.Close a l j)) b plain all lines = absurd (stays (of (line.Close a l j)) b plain all lines)
    by_line (of (line.Notify a l j qs)) b plain all lines = absurd (stays (of (line.Notify a l j qs)) b plain all lines)
    by_line (of (line.Suspect a l c waits)) b plain all lines = absurd (stays (of (line.Suspect a l c waits)) b plain all lines)
    by_line (of (line.Renew a l d)) b plain all lines = absurd (stays (of (line.Renew a l d)) b plain all lines)
    by_line (of (line.Owe a i l)) b plain all lines = absurd (stays (of (line.Owe a i l)) b plain all lines)
    by_line (of (line.Reenter a l [])) b plain all lines = absurd (stays (of (line.Reenter a l [])) b plain all lines)
    by_line (of (line.Compute a l true read made)) b plain all lines = absurd (stays (of (line.Compute a l true read made)) b plain all lines)
    by_line (of (line.Reenter a l (q ∷ qs))) b plain all lines = to (eqb k (e.graph.succ a q).task) lines
      where
        to : (f : Bool) → HasLines e w (onto (cond f (cond (eqb (mark_of n) 1) (line.Suspect k (life_of n) cause.Descriptor false ∷ line.Reenter a l qs ∷ []) (cond (eqb (Rattle.std.specs.Int.bit_at n (e.graph.succ a q).place) 1) (line.Reenter a l qs ∷ []) (line.Reenter a l (q ∷ qs) ∷ []))) (line.Reenter a l (q ∷ qs) ∷ [])) b) → Weighs (of (line.Reenter a l (q ∷ qs)) ∷ b)
        to false same = absurd (stays (of (line.Reenter a l (q ∷ qs))) b plain all same)
        to true same = let z = suspected k (of (line.Reenter a l qs) ∷ b) refl (subst (λ f. HasLines e w (onto (cond f (line.Suspect k (life_of n) cause.Descriptor false ∷ line.Reenter a l qs ∷ []) (cond (eqb (Rattle.std.specs.Int.bit_at n (e.graph.succ a q).place) 1) (line.Reenter a l qs ∷ []) (line.Reenter a l (q ∷ qs) ∷ []))) b)) (eq-eqb (mark_of n) 1 marked) same) in omega (arith, z)
    by_line (of (line.Compute a l false read made)) b plain all lines = to (eqb k a && none_left e.graph e.plan point.Ready a l u.strikes) refl lines
      where
        to : (f : Bool) → (eqb k a && none_left e.graph e.plan point.Ready a l u.strikes) ≡ f → HasLines e w (onto (cond f (cond (eqb (mark_of n) 1) (line.Suspect a (life_of n) cause.Descriptor false ∷ []) (cond (eqb (life_of n) l) (line.Compute a l true read made ∷ []) [])) (line.Compute a l false read made ∷ [])) b) → Weighs (of (line.Compute a l false read made) ∷ b)
        to false off same = absurd (stays (of (line.Compute a l false read made)) b plain all same)
        to true on same = let z = suspected a b (eqb-true k a (both (eqb k a) (none_left e.graph e.plan point.Ready a l u.strikes) on).0) (subst (λ f. HasLines e w (onto (cond f (line.Suspect a (life_of n) cause.Descriptor false ∷ []) (cond (eqb (life_of n) l) (line.Compute a l true read made ∷ []) [])) b)) (eq-eqb (mark_of n) 1 marked) same) in omega (arith, z)

    pub loaded_weighs : IsPlain u → lines_weight e (flat u.stacks) + suspect_rest e k ≤ lines_weight e (flat w.stacks)
    loaded_weighs plain = subst (λ ls. lines_weight e ls + suspect_rest e k ≤ lines_weight e (flat w.stacks)) (sym plain.top) (by_line plain.first plain.below plain.plain (subst BehindPlain plain.top topped) (lines_after e u w n (load_descriptor r k) plain.first plain.below plain.top is))

  -- the other steps, by their first line
  module _ (v w : View) (n : ℕ) where
    weighs_after : (x : Event) (y : Line) (b ls : List Line) → flat v.stacks ≡ y ∷ b → w ≡ after e x n v → Rattle.core_state.specs.Outcome.lines_left e x n v (y ∷ b) ≡ ls → lines_weight e (flat w.stacks) ≡ lines_weight e ls
    weighs_after x y b ls top is same = lines_weigh e w ls (subst (HasLines e w) same (lines_after e v w n x y b top is))

    -- a post
    pub posted_weighs : (r : ℕ) (i : Job) (k l : ℕ) (b : List Line) → flat v.stacks ≡ of (line.Owe k i l) ∷ b → w ≡ after e (post r i k l) n v → lines_weight e (flat w.stacks) ≡ lines_weight e (flat v.stacks)
    posted_weighs r i k l b top is = let a = weighs_after (post r i k l) (of (line.Owe k i l)) b (came_lines i k n b) top is refl in let c = came i n in let d = ap (lines_weight e) top in omega (arith, a, c, d)
      where
        came : (j : Job) (m : ℕ) → lines_weight e (came_lines j k m b) ≡ lines_weight e b
        came j Rattle.std.proofs.Common.zero = refl
        came job.Explore (Rattle.std.proofs.Common.suc m) = omega arith
        came job.Compute (Rattle.std.proofs.Common.suc m) = omega arith

    -- a step of a renewal
    module _ (r k l d : ℕ) (b : List Line) (top : flat v.stacks ≡ of (line.Renew k l d) ∷ b) where
      renewed_first : lines_weight e (flat v.stacks) ≡ lines_weight e b
      renewed_first = let a = ap (lines_weight e) top in omega (arith, a)

      pub word_weighs : (y : ℕ) → w ≡ after e (renew_notify r k l y) n v → lines_weight e (flat v.stacks) ≤ lines_weight e (flat w.stacks)
      word_weighs y is = let a = weighs_after (renew_notify r k l y) (of (line.Renew k l d)) b (of (line.Renew k l (y + 1)) ∷ b) top is refl in let c = renewed_first in omega (arith, a, c)

      pub descriptor_weighs : w ≡ after e (renew_descriptor r k l) n v → lines_weight e (flat v.stacks) ≤ lines_weight e (flat w.stacks)
      descriptor_weighs is = let a = weighs_after (renew_descriptor r k l) (of (line.Renew k l d)) b (of (line.Renew k l (e.graph.notify_words k + 1)) ∷ b) top is refl in let c = renewed_first in omega (arith, a, c)

      pub finish_weighs : w ≡ after e (finish r k l) n v → lines_weight e (flat v.stacks) ≤ lines_weight e (flat w.stacks)
      finish_weighs is = let a = weighs_after (finish r k l) (of (line.Renew k l d)) b (of (line.Owe k job.Explore (l + 1)) ∷ of (line.Reenter k (l + 1) (Rattle.core_state.specs.Effects.all_ports 0 (e.graph.ports k))) ∷ b) top is refl in let c = renewed_first in omega (arith, a, c)

    -- an election
    module _ (r k l : ℕ) (c : Cause) (waits : Bool) (b : List Line) (top : flat v.stacks ≡ of (line.Suspect k l c waits) ∷ b) (is : w ≡ after e (elect r k l c waits) n v) where
      pub elected_lines_are : (x : Elected) → elected_of l n ≡ x → HasLines e w (elected_lines k l waits x (of (line.Suspect k l c waits) ∷ b))
      elected_lines_are x told = subst (λ z. HasLines e w (elected_lines k l waits z (of (line.Suspect k l c waits) ∷ b))) told (lines_after e v w n (elect r k l c waits) (of (line.Suspect k l c waits)) b top is)

      pub suspect_weighs : lines_weight e (flat v.stacks) + suspect_light c ≡ lines_weight e b + suspect_rest e k
      suspect_weighs = let a = ap (lines_weight e) top in let d = light_low e k c in omega (arith, a, d)

      pub won_weighs : elected_of l n ≡ elected.Yes → lines_weight e (flat w.stacks) ≡ lines_weight e b
      won_weighs told = let a = lines_weigh e w (of (line.Renew k l 0) ∷ b) (elected_lines_are elected.Yes told) in omega (arith, a)

    -- a closing
    module _ (r k l i seen : ℕ) (b : List Line) (top : flat v.stacks ≡ of (line.Close k l i) ∷ b) (is : w ≡ after e (close r k l i seen) n v) where
      closed_are : (x : Closing) → Rattle.core_state.specs.Effects.closing_of l seen n ≡ x → lines_weight e (flat w.stacks) ≡ lines_weight e (closed_lines k l i n x (of (line.Close k l i) ∷ b))
      closed_are x told = weighs_after (close r k l i seen) (of (line.Close k l i)) b (closed_lines k l i n x (of (line.Close k l i) ∷ b)) top is (ap (λ z. closed_lines k l i n z (of (line.Close k l i) ∷ b)) told)

      pub closed_weighs : lines_weight e (flat v.stacks) ≤ lines_weight e (flat w.stacks)
      closed_weighs = let a = ap (lines_weight e) top in let c = closed_are (Rattle.core_state.specs.Effects.closing_of l seen n) refl in let d = by (Rattle.core_state.specs.Effects.closing_of l seen n) in omega (arith, a, c, d)
        where
          by : (x : Closing) → lines_weight e b ≤ lines_weight e (closed_lines k l i n x (of (line.Close k l i) ∷ b))
          by (closing.Edges ports) = omega arith
          by (closing.Stale m) = omega arith
          by (closing.Struck m) = omega arith
          by (closing.Moved m) = omega arith

      pub marked_weighs : (m : ℕ) → Rattle.core_state.specs.Effects.closing_of l seen n ≡ closing.Struck m → lines_weight e (flat v.stacks) + suspect_rest e k ≤ lines_weight e (flat w.stacks)
      marked_weighs m told = let a = ap (lines_weight e) top in let c = closed_are (closing.Struck m) told in omega (arith, a, c)
