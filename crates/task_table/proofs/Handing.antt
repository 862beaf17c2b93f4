-- What a pass is when it has taken a block, has given one back or has made a result.
use Rattle.std.proofs.Common.{◌≡◌, ℕ, ◌^◌, true, List, [], ◌∷◌, arith, sym, ap, refl, ◌∙◌, subst, Option, Some, None}
use Rattle.atomic_table.specs.Seated.{TableId}
use Rattle.atomic_table.specs.Table.{rest}
use Rattle.core_state.specs.Graph.{Setting}
use Rattle.core_state.specs.Words.{place_of, turn}
use Rattle.core_state.specs.Events.Event.{take_turn}
use Rattle.core_state.specs.Guards.{CanTakeTurn}
use Rattle.core_state.specs.Outcome.{entries, hands_left}
use Rattle.core_state.specs.Views.{key_of, without_first}
use Rattle.core_state.specs.declared.block.BlockCells.{BlockCells}
use Rattle.core_state.specs.declared.views.Hand.{Hand}
use Rattle.core_state.specs.declared.views.View.{View}
use Rattle.graph_model.specs.declared.record.Record.{Record}
use Rattle.graph_model.specs.declared.record.Record.TheVariants as record_of
use Rattle.core_state.proofs.Lines.Outcomes.{leaves}
use Rattle.core_steps.specs.Kinds.{block_event, gives}
use Rattle.core_steps.specs.Table.{Keeps, Stored, as_list, kept_list, kept_store}
use Rattle.core_steps.specs.declared.kinds.BlockKind.{BlockKind}
use Rattle.core_steps.specs.declared.kinds.BlockKind.TheVariants.{TakeTurn, GiveRead, GiveWritten, GiveStruck}
use Rattle.task_table.specs.Moments.{Did, Made, Mine, Moment, emptied, first_block}
use Rattle.task_table.specs.Passes.{Passing, IsPass, IsPassStep}
use Rattle.task_table.proofs.Passing.{keeps_more, pass_after}

-- the slot of a block that was taken holds it
pub lies_first : (slots more : List (ℕ × Option BlockCells)) (b : ℕ) (x : Option BlockCells) → slots ≡ (b, x) ∷ more → slots ≡ (b, x) ∷ rest slots
lies_first slots more b x is = is ∙ ap (λ (o : List (ℕ × Option BlockCells)). (b, x) ∷ rest o) (sym is)

module _ (e : Setting) (p : Passing) (slots : List (ℕ × Option BlockCells)) (i : (slots ≡ emptied p.view.hands) × IsPass e p) where
  -- a block was taken, and its slot emptied
  pub taken_pass : (b : ℕ) (x : BlockCells) (now left : Mine) → Did e (take_turn b x) ((b, Some x) ∷ slots) p.view 0 now → left ≡ (now.0, (b, None) ∷ rest now.1) → (z : TableId) (id m : ℕ)
      → (left.1 ≡ emptied left.0.hands) × IsPass e (record { table = z; seat = id; view = left.0; store = p.store; root_replaced = p.root_replaced; replaced_room = m })
  taken_pass b x now left did is z id m = subst (λ (o : Mine). (o.1 ≡ emptied o.0.hands) × IsPass e (record { table = z; seat = id; view = o.0; store = p.store; root_replaced = p.root_replaced; replaced_room = m })) (sym is) (
    ap (λ (o : List (ℕ × Option BlockCells)). (b, None) ∷ rest o) did.slots_are ∙ ap (λ (o : List (ℕ × Option BlockCells)). (b, None) ∷ o) i.0 ∙ sym (ap (λ (u : View). emptied u.hands) did.view_is),
    pass_after e p (take_turn b x) 0 ((b, Some x) ∷ slots) now did None refl i.1 z id m,
  )

  rest_emptied : (hs : List Hand) → rest (emptied hs) ≡ emptied (without_first hs)
  rest_emptied [] = refl
  rest_emptied (x ∷ xs) = refl

  -- the block in hand went home
  pub given_pass : (kind : BlockKind) (b : ℕ) (x : BlockCells) (mid : Mine) → gives kind ≡ true → mid ≡ (p.view, (b, Some x) ∷ rest slots) → (n : ℕ) (now : Mine) → Did e (block_event mid.0 kind b (first_block mid.1)) (rest mid.1) mid.0 n now
      → (y : Option Record) → entries e (block_event p.view kind b x) n ≡ as_list y → (s : Stored) (rs : List Record) → s ≡ kept_store (2 ^ 63) y p.store → rs ≡ kept_list (2 ^ 63) y p.root_replaced → (z : TableId) (id m : ℕ)
      → (now.1 ≡ emptied now.0.hands) × IsPass e (record { table = z; seat = id; view = now.0; store = s; root_replaced = rs; replaced_room = m })
  given_pass kind b x mid given is n now did y entry s rs store list z id m =
      subst (λ (o : Stored × List Record). (now.1 ≡ emptied now.0.hands) × IsPass e (record { table = z; seat = id; view = now.0; store = o.0; root_replaced = o.1; replaced_room = m })) (λ j. (sym store j, sym list j))
      (subst (λ (o : Mine). Did e (block_event o.0 kind b (first_block o.1)) (rest o.1) o.0 n now → (now.1 ≡ emptied now.0.hands) × IsPass e (record { table = z; seat = id; view = now.0; store = kept_store (2 ^ 63) y p.store; root_replaced = kept_list (2 ^ 63) y p.root_replaced; replaced_room = m })) (sym is)
      (λ d. (
        d.slots_are ∙ ap rest i.0 ∙ rest_emptied p.view.hands ∙ sym (ap emptied ((leaves e (block_event p.view kind b x) n p.view now.0 d.view_is).hands_are ∙ one_gone kind given)),
        pass_after e p (block_event p.view kind b x) n (rest slots) now d y entry i.1 z id m,
      )) did)
    where
      one_gone : (kind : BlockKind) → gives kind ≡ true → hands_left e (block_event p.view kind b x) n p.view ≡ without_first p.view.hands
      one_gone TakeTurn q = absurd cc
      one_gone GiveRead q = refl
      one_gone (GiveWritten k l) q = refl
      one_gone (GiveStruck k l) q = refl

  -- a result was made
  pub made_pass : (k l : ℕ) (now : Mine) → Made e k l (p.view, slots) now → (s : Stored) (rs : List Record) → s ≡ kept_store (2 ^ 63) (Some (record_of.Computed (key_of k) l)) p.store → rs ≡ kept_list (2 ^ 63) (Some (record_of.Computed (key_of k) l)) p.root_replaced → (z : TableId) (id m : ℕ)
      → (now.1 ≡ emptied now.0.hands) × IsPass e (record { table = z; seat = id; view = now.0; store = s; root_replaced = rs; replaced_room = m })
  made_pass k l now made s rs store list z id m = (
    made.slots_are ∙ i.0 ∙ sym (ap (λ (u : View). emptied u.hands) made.view_is),
    record {
      live = let a = ap (λ (u : View). u.parts) made.view_is in let b = i.1.live in omega (arith, a, b);
      keeps = subst (λ (o : Stored × List Record). Keeps e.graph.root (now.0 ∷ []) (o.0 ∷ []) o.1) (λ j. (sym store j, sym list j))
          (subst (λ root. Keeps e.graph.root (now.0 ∷ []) (kept_store root (Some (record_of.Computed (key_of k) l)) p.store ∷ []) (kept_list root (Some (record_of.Computed (key_of k) l)) p.root_replaced)) i.1.seated.kept.sound.root_is
          (keeps_more e.graph.root p.view now.0 p.store p.root_replaced (Some (record_of.Computed (key_of k) l)) (ap (λ (u : View). u.records) made.view_is) i.1.keeps));
      seated = made.seated;
    },
  )

-- the step with which a pass took a block
pub taken_step : (e : Setting) (r p : Passing) → r ≡ p → (b : ℕ) (x y : BlockCells) → y ≡ x → (slots : List (ℕ × Option BlockCells)) (now : Mine) → Did e (take_turn b x) slots r.view 0 now → (n place : ℕ) → n ≡ 0 → (q : Passing) → CanTakeTurn e p.view b → place ≡ place_of e.shape (turn b) → q.view ≡ now.0 → q.table ≡ r.table → q.seat ≡ r.seat
    → IsPassStep e (take_turn b y) (record { at = place; found = n }) p q
taken_step e r p same b x y cells slots now did n place zero q can is view table seat =
    subst (λ (o : ℕ × BlockCells). IsPassStep e (take_turn b o.1) (record { at = place; found = o.0 }) p q) (λ j. (sym zero j, sym cells j))
    (subst (λ (o : Passing). CanTakeTurn e o.view b → IsPassStep e (take_turn b x) (record { at = place; found = 0 }) o q) same
    (λ c. record { can = c; at_is = is; view_is = view ∙ did.view_is; moment = subst (λ (u : View). Moment e (take_turn b x) 0 r.view u) (sym view) did.moment; same_table = table; same_seat = seat }) can)
