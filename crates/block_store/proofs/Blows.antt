-- What the turn of a block leaves of a strike that the view makes next.
use Rattle.std.proofs.Common.{◌≡◌, ◌∙◌, ℕ, ◌<◌, ⊎_elim, Bool, true, false, cond, eqb, nat_lt, nat_eq, List, [], ◌∷◌, ap, sym, subst, refl, arith}
use mathlib.Core.Option.{some, none, some-ne-none}
use Rattle.std.proofs.lemmas.Bool.{eqb-true, lt-ltb}
use Rattle.core_state.proofs.Base.Counting.{two_tells}
use Rattle.core_state.proofs.Plan.Passes.{left_none}
use Rattle.core_state.proofs.Strike.Next.{next_strike_is}
use Rattle.core_state.specs.Tests.{carries, job_of}
use Rattle.core_state.specs.Effects.{is_good}
use Rattle.core_state.specs.Graph.{Graph, Plan, Setting}
use Rattle.core_state.specs.Events.{after, Event as event}
use Rattle.core_state.specs.Views.{is_finished, none_left, on_top, passing, settle, strike_at, strike_next, strike_of, top_items, unfinished}
use Rattle.core_state.specs.declared.block.BlockCells.{BlockCells}
use Rattle.core_state.specs.declared.job.Job.{Job}
use Rattle.core_state.specs.declared.job.Job.TheVariants as job
use Rattle.core_state.specs.declared.views.Item.{Item}
use Rattle.core_state.specs.declared.views.Item.TheVariants as item
use Rattle.core_state.specs.declared.views.Stack.{Stack}
use Rattle.core_state.specs.declared.views.View.{View}
use Rattle.graph_model.specs.declared.plan.Point.TheVariants as point
use Rattle.block_store.specs.Turned.{StrikesNext, blow_of, strikes_of}
use Rattle.block_store.specs.declared.answers.Blow.{Blow}
use Rattle.block_store.specs.declared.answers.Blow.TheVariants as blow

-- a closing that carries a job is of the job's task
carried_key : (j : Job) (m d k l w : ℕ) → carries j m d (item.Close k l w) ≡ true → m ≡ k
carried_key job.Explore m d k l w h = absurd (let f : false ≡ true = h in cc)
carried_key job.Compute m d k l w h = ⊎_elim (λ q. absurd (let f : true ≡ false = sym h ∙ q in cc)) (λ q. q.1) (two_tells m d k l)

-- an item at which a strike is next isn't finished, if the task of a closing has a notify word
not_finished : (g : Graph) (p : Plan) (made : List ℕ) (x : Item) (n : ℕ) → ((k l w : ℕ) → x ≡ item.Close k l w → 0 < g.notify_words k) → strike_at g p made (passing g x) ≡ some n → is_finished g p made x ≡ false
not_finished g p made (item.Close k l w) n some_word next = by (nat_lt w (g.notify_words k)) (nat_eq w 0) refl refl next
  where
    by : (q z : Bool) → nat_lt w (g.notify_words k) ≡ q → nat_eq w 0 ≡ z → strike_at g p made (cond z (some (record { at = point.Computed; key = k; life = l })) (cond q none (some (record { at = point.Notified; key = k; life = l })))) ≡ some n → cond q false (none_left g p point.Notified k l made) ≡ false
    by true z e f h = refl
    by false true e f h = absurd (let low : 0 < g.notify_words k = some_word k l w refl in let first : w ≡ 0 = eqb-true w 0 f in let more : nat_lt w (g.notify_words k) ≡ true = lt-ltb w (g.notify_words k) (omega (arith, low, first)) in let z : true ≡ false = sym more ∙ e in cc)
    by false false e f h = left (none_left g p point.Notified k l made) refl
      where
        left : (b : Bool) → none_left g p point.Notified k l made ≡ b → b ≡ false
        left true is = absurd (some-ne-none n (sym h ∙ left_none g p point.Notified k l made is))
        left false is = refl
not_finished g p made (item.Notify k l w []) n some_word next = absurd (some-ne-none n (sym next))
not_finished g p made (item.Reenter k l []) n some_word next = absurd (some-ne-none n (sym next))
not_finished g p made x n some_word next = refl

module _ (e : Setting) (v w : View) (b : ℕ) where
  top_of : (f : List Item → List Item) (ss : List Stack) → f [] ≡ [] → top_items (on_top f ss) ≡ f (top_items ss)
  top_of f [] h = sym h
  top_of f (s ∷ ss) h = refl

  -- taking a block leaves the view with the same strike next
  takes_strike : (x : BlockCells) (i n : ℕ) → w ≡ after e (event.take_turn b x) i v → strike_next e.graph e.plan v ≡ some n → 0 < e.graph.notify_words (e.plan.strike n).key.0 → strike_next e.graph e.plan w ≡ some n
  takes_strike x i n h next some_word =
      let s = next_strike_is e v n next in
      let a = s.work in
      let tops : top_items v.stacks ≡ s.at ∷ a.below = ap top_items a.stacks_are ∙ a.items_are in
      let at : strike_at e.graph e.plan v.strikes (passing e.graph s.at) ≡ some n = ap (strike_of e.graph e.plan v.strikes) (sym tops) ∙ next in
      let known : (k l c : ℕ) → s.at ≡ item.Close k l c → 0 < e.graph.notify_words k = λ k l c is.
      let carried : carries (job_of (e.plan.strike n).point) (e.plan.strike n).key.0 (e.plan.strike n).life (item.Close k l c) ≡ true = ap (carries (job_of (e.plan.strike n).point) (e.plan.strike n).key.0 (e.plan.strike n).life) (sym is) ∙ s.carried in
      let P : ℕ → Type 0 = λ y. 0 < e.graph.notify_words y in subst P (carried_key (job_of (e.plan.strike n).point) _ _ _ _ _ carried) some_word in
      let there = not_finished e.graph e.plan v.strikes s.at n known at in
      let stays : unfinished e.graph e.plan v.strikes (top_items v.stacks) ≡ top_items v.stacks = ap (unfinished e.graph e.plan v.strikes) tops ∙ ap (λ (q : Bool). cond q (unfinished e.graph e.plan v.strikes a.below) (s.at ∷ a.below)) there ∙ sym tops in
      ap (strike_next e.graph e.plan) h ∙ by (eqb i 0) ∙ ap (strike_of e.graph e.plan v.strikes) (top_of (unfinished e.graph e.plan v.strikes) v.stacks refl ∙ stays) ∙ next
    where
      by : (q : Bool) → strike_next e.graph e.plan (settle e.graph e.plan (cond q (record v { hands = record { block = b; held = x } ∷ v.hands }) v)) ≡ strike_of e.graph e.plan v.strikes (top_items (on_top (unfinished e.graph e.plan v.strikes) v.stacks))
      by true = refl
      by false = refl

  -- and no other strike made
  pub takes_strikes : (x : BlockCells) (i : ℕ) → w ≡ after e (event.take_turn b x) i v → w.strikes ≡ v.strikes
  takes_strikes x i h = ap (λ (u : View). u.strikes) h ∙ by (eqb i 0)
    where
      by : (q : Bool) → (settle e.graph e.plan (cond q (record v { hands = record { block = b; held = x } ∷ v.hands }) v)).strikes ≡ v.strikes
      by true = refl
      by false = refl

  pub takes_next_strike : (f : Setting) (x : BlockCells) (i k l version : ℕ) → f ≡ e → w ≡ after e (event.take_turn b x) i v → 0 < e.graph.notify_words k → StrikesNext e v b k l version → StrikesNext f w b k l version
  takes_next_strike f x i k l version same h some_word s =
      let m = s.strikes in
      let known : 0 < e.graph.notify_words (e.plan.strike m.strike).key.0 = let P : ℕ → Type 0 = λ y. 0 < e.graph.notify_words y in subst P (sym m.of_key) some_word in
      let P : Setting → Type 0 = λ g. StrikesNext g w b k l version in
      subst P (sym same) (record {
        strikes = record { strike = m.strike; is_next = takes_strike x i m.strike h m.is_next known; of_key = m.of_key; of_life = m.of_life; on_target = m.on_target };
        block_is = s.block_is;
        version_is = s.version_is;
      })

  -- the strike that was next is made by the second step
  pub takes_made : (f : Setting) (x y : BlockCells) (i k l version n : ℕ) (answer : Blow) (made : List ℕ) → f ≡ e → w ≡ after e (event.take_turn b x) i v → 0 < e.graph.notify_words k → StrikesNext e v b k l version → strike_next e.graph e.plan v ≡ some n → answer ≡ blow_of version y → ((m : ℕ) → strike_next f.graph f.plan w ≡ some m → made ≡ m ∷ w.strikes) → made ≡ strikes_of answer n v.strikes
  takes_made f x y i k l version n answer made same h some_word s next told makes =
      let m = s.strikes in
      let one : m.strike ≡ n = let q : some m.strike ≡ some n = sym m.is_next ∙ next in cc in
      let word_of : ℕ → Type 0 = λ z. 0 < e.graph.notify_words z in
      let known : 0 < e.graph.notify_words (e.plan.strike n).key.0 = let P : ℕ → Type 0 = λ j. 0 < e.graph.notify_words (e.plan.strike j).key.0 in subst P one (subst word_of (sym m.of_key) some_word) in
      let there : strike_next f.graph f.plan w ≡ some n = ap (λ (g : Setting). strike_next g.graph g.plan w) same ∙ takes_strike x i n h next known in
      makes n there ∙ ap (λ (ms : List ℕ). n ∷ ms) (takes_strikes x i h) ∙ sym (ap (λ (z : Blow). strikes_of z n v.strikes) told ∙ by (is_good version y))
    where
      by : (q : Bool) → strikes_of (cond q blow.Landed blow.Missed) n v.strikes ≡ n ∷ v.strikes
      by true = refl
      by false = refl
