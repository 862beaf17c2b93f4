-- A turn that makes a step of a strike at the point of an item: what it asks, and what it leaves for the next turn.
use Rattle.std.proofs.Common.{◌≡◌, ◌∙◌, ◌⊎◌, ⊎_elim, inl, inr, ℕ, ◌+◌, ◌-◌, ◌*◌, ◌<◌, ◌≤◌, Bool, true, false, cond, nat_lt, List, [], ◌∷◌, Option, Some, None, ap, sym, refl, arith}
use Rattle.std.proofs.lemmas.Bool.{cases_eq, eq-eqb, ltb-false, ne_eqb}
use Rattle.graph_model.specs.Graph.{Graph as TaskGraph}
use Rattle.graph_model.specs.declared.plan.Point.TheVariants as point
use Rattle.graph_model.specs.declared.plan.Strike.{Strike}
use Rattle.core_state.specs.Guards.{AtWork, MakesStrike}
use Rattle.core_state.specs.Graph.{Graph, Setting}
use Rattle.core_state.specs.Events.{after}
use Rattle.core_state.specs.Views.{is_finished, top_items}
use Rattle.core_state.specs.declared.block.BlockCells.{BlockCells}
use Rattle.core_state.specs.declared.views.Item.{Item as Work}
use Rattle.core_state.specs.declared.views.View.{View}
use Rattle.core_state.proofs.Lines.After.{close_goes_on, close_strikes as closing_strikes, line_stands}
use Rattle.core_state.proofs.Lines.Top.{at_work}
use Rattle.core_steps.specs.Serving.{first_life, work_life}
use Rattle.recovery.proofs.Knowing.{key_stays}
use Rattle.compute_notify.specs.Items.{FitsDuty, FitsReaching, Goes, Stands, item_lines}
use Rattle.compute_notify.specs.Resting.{LetsFall, after_rest, close_strikes, closing_rest, held, item_rest, places_rest, seen_rest, strikes_rest}
use Rattle.compute_notify.specs.Running.{Runs}
use Rattle.compute_notify.specs.Striking.{FitsStrikes, StrikeTells, close_left, explore_left, next_at, strike_event}
use Rattle.compute_notify.specs.Working.{AfterHand}
use Rattle.compute_notify.specs.declared.close.Close.{Close}
use Rattle.compute_notify.specs.declared.compute.Phase.TheVariants as phase
use Rattle.compute_notify.specs.declared.duty.Duty.{Duty}
use Rattle.compute_notify.specs.declared.explore.Explore.{Explore}
use Rattle.compute_notify.specs.declared.explore.Way.{Way as Reaching}
use Rattle.compute_notify.specs.declared.explore.Way.TheVariants as reaching
use Rattle.compute_notify.specs.declared.item.After.{After}
use Rattle.compute_notify.specs.declared.item.Came.TheVariants as came
use Rattle.compute_notify.specs.declared.item.Item.{Item}
use Rattle.compute_notify.specs.declared.item.Item.TheVariants as item
use Rattle.compute_notify.specs.declared.strikes.Next.{Next}
use Rattle.compute_notify.proofs.Falling.{struck_falls}
use Rattle.compute_notify.proofs.Fitting.{HasNext}
use Rattle.compute_notify.proofs.Striking.Landing.{struck_else, struck_fits, struck_hand}
use Rattle.compute_notify.proofs.Striking.Points.{at_computed, at_notified, close_makes, close_next, closing, explore_makes, explore_next, exploring, ready, ready_makes, ready_next}
use Rattle.compute_notify.proofs.Striking.Struck.{strike_lines, strike_remembers, strike_spare}

-- the item is put back
abbrev pub stays : Item → After
stays x = record { left = Some x; came = came.Nothing }

-- the life of the item at work
pub life_at_work : (v : View) (x : Work) → AtWork v x → work_life v ≡ first_life (x ∷ [])
life_at_work v x work = ap first_life (ap top_items work.stacks_are ∙ work.items_are) ∙ first x work.below
  where
    first : (y : Work) (ys : List Work) → first_life (y ∷ ys) ≡ first_life (y ∷ [])
    first y ys = refl

-- behind the last place of an exploring nothing is sought
past_reaching : (e : Setting) (v w : View) (k j : ℕ) (way : Reaching) → e.graph.places k ≤ j → FitsReaching e v k j way → FitsReaching e w k j way
past_reaching e v w k j reaching.Start past fits = tt
past_reaching e v w k j (reaching.Seek s) past fits = let low = fits.0 in absurd (omega (arith, low, past))
past_reaching e v w k j (reaching.Register r) past fits = let low = fits.0 in absurd (omega (arith, low, past))
past_reaching e v w k j reaching.Spend past fits = let low = fits.0 in absurd (omega (arith, low, past))

pub explore_past : (g : Graph) (strikes : List Strike) (x : Explore) (next : Next) → explore_left g strikes x ≡ Some next → (g.places x.duty.key.0 ≤ x.place) × (next_at g strikes point.Explored x.duty x.made ≡ Some next)
explore_past g strikes x next is = by (nat_lt x.place (g.places x.duty.key.0)) refl is
  where
    by : (b : Bool) → nat_lt x.place (g.places x.duty.key.0) ≡ b → cond b None (next_at g strikes point.Explored x.duty x.made) ≡ Some next → (g.places x.duty.key.0 ≤ x.place) × (next_at g strikes point.Explored x.duty x.made ≡ Some next)
    by true low z = absurd cc
    by false low z = (ltb-false x.place (g.places x.duty.key.0) low, z)

-- a closing comes to a point before its first word or behind its last
pub close_where : (g : Graph) (strikes : List Strike) (c : Close) (next : Next) → close_left g strikes c ≡ Some next → (c.word ≡ 0) ⊎ ((0 < c.word) × (g.notify_words c.duty.key.0 ≤ c.word))
close_where g strikes c next is = ⊎_elim (λ z. inl z) (λ later. inr (omega (arith, later), by (nat_lt c.word (g.notify_words c.duty.key.0)) refl (sym (ap (λ b. left b (nat_lt c.word (g.notify_words c.duty.key.0))) (ne_eqb c.word 0 later)) ∙ is))) (cases_eq c.word 0)
  where
    left : Bool → Bool → Option Next
    left first inside = cond first (next_at g strikes point.Computed c.duty c.made) (cond inside None (next_at g strikes point.Notified c.duty c.made))

    by : (b : Bool) → nat_lt c.word (g.notify_words c.duty.key.0) ≡ b → cond b None (next_at g strikes point.Notified c.duty c.made) ≡ Some next → g.notify_words c.duty.key.0 ≤ c.word
    by true low z = absurd cc
    by false low z = ltb-false c.word (g.notify_words c.duty.key.0) low

-- The rest of each item, as the strikes of its point and what else there is.
explore_form : (a s d : ℕ) → a + (s - d) + 7 ≡ a + ((s + 0) - d) + 7
explore_form a s d = omega arith

ready_form : (s d i r c : ℕ) → ((s - d) + 1 + 2 * i + 2 + (r + 2)) + c ≡ 0 + ((s + 0) - d) + (1 + 2 * i + 2 + (r + 2) + c)
ready_form s d i r c = omega arith

close_form : (a x s c d : ℕ) → x ≡ s + c → a + (x - d) ≡ a + ((s + c) - d) + 0
close_form a x s c d is = omega (arith, is)

none_else : (x s : ℕ) → x ≡ s → x ≡ s + 0
none_else x s is = omega (arith, is)

module _ (g : TaskGraph) (strikes : List Strike) (lives : ℕ) (e : Setting) (v : View) (runs : Runs g strikes lives e) (next : Next) where
  known_still : (w : View) (h now : Option BlockCells) (n : ℕ) (duty : Duty) → w ≡ after e (strike_event e v duty next.target h now) n v → FitsDuty g e v duty → FitsDuty g e w duty
  known_still w h now n duty is fits = record { is_key = fits.is_key; known = key_stays e v w duty.row duty.key.0 (strike_remembers e v duty w n next.target h now is) fits.known }

  module _ (x : Explore) (stands : Stands g e v (item.Explore x)) (is : explore_left e.graph strikes x ≡ Some next) where
    pub explore_works : AtWork v (exploring x)
    explore_works = at_work v (exploring x) stands.top.below (line_stands e v (exploring x) stands.top.below refl stands.top.lines_are)

    pub explore_asks : MakesStrike e v x.duty.key.0 x.duty.life next.target
    explore_asks = explore_makes g strikes lives e v runs x stands.fits.strikes next explore_works is

    abbrev pub explore_struck : Bool → Item
    explore_struck made = item.Explore (record x { made = cond made next.made x.made })

    module _ (w : View) (h now : Option BlockCells) (n : ℕ) (made : Bool) (told : StrikeTells e v w x.duty.key.0 x.duty.life next.target h now n made) where
      pub explore_goes : w ≡ after e (strike_event e v x.duty next.target h now) n v → Goes g e v w (item_lines e.graph (item.Explore x)) (stays (explore_struck made))
      explore_goes view_is =
          let at = explore_next g strikes lives e v runs x stands.fits.strikes next is in
          let past = (explore_past e.graph strikes x next is).0 in
          record {
            lines = λ b lines. strike_lines e v x.duty w n (exploring x) b (line_stands e v (exploring x) b refl lines) (λ a was. refl) next.target h now view_is;
            left = record {
              duty = known_still w h now n x.duty view_is stands.fits.duty;
              place = stands.fits.place;
              reaching = past_reaching e v w x.duty.key.0 x.place x.way past stands.fits.reaching;
              strikes = struck_fits e v w x.duty.key.0 x.duty.life next.target h now n point.Explored (exploring x) explore_works at.0 next at.1 made x.made told stands.fits.strikes;
              none_made = λ low. absurd (omega (arith, low, past));
            };
            came = tt;
            credits = strike_spare e v x.duty w n next.target h now view_is ∙ stands.credits;
          }

      pub explore_hand : AfterHand e w now (stays (explore_struck made))
      explore_hand = struck_hand e v w x.duty.key.0 x.duty.life next.target h now n made told

      pub explore_falls : LetsFall e strikes (strike_event e v x.duty next.target h now) n (item_rest e strikes h (item.Explore x)) (after_rest e strikes now (stays (explore_struck made)))
      explore_falls = struck_falls e v w strikes point.Explored x.duty x.made next h now n (explore_past e.graph strikes x next is).1 (places_rest e x) 7 0 _ _ made told
          (explore_form (places_rest e x) (strikes_rest strikes point.Explored x.duty x.made) (held h))
          (explore_form (places_rest e x) (strikes_rest strikes point.Explored x.duty (cond made next.made x.made)) (held now))

  module _ (duty : Duty) (m : ℕ) (stands : Stands g e v (item.Compute (record { duty = duty; phase = phase.Ready m }))) (is : next_at e.graph strikes point.Ready duty m ≡ Some next) where
    pub ready_works : AtWork v (ready duty)
    ready_works = at_work v (ready duty) stands.top.below (line_stands e v (ready duty) stands.top.below refl stands.top.lines_are)

    pub ready_asks : MakesStrike e v duty.key.0 duty.life next.target
    ready_asks = ready_makes g strikes lives e v runs duty m stands.fits.in_phase next ready_works is

    abbrev pub ready_struck : Bool → Item
    ready_struck made = item.Compute (record { duty = duty; phase = phase.Ready (cond made next.made m) })

    module _ (w : View) (h now : Option BlockCells) (n : ℕ) (made : Bool) (told : StrikeTells e v w duty.key.0 duty.life next.target h now n made) where
      pub ready_goes : w ≡ after e (strike_event e v duty next.target h now) n v → Goes g e v w (item_lines e.graph (item.Compute (record { duty = duty; phase = phase.Ready m }))) (stays (ready_struck made))
      ready_goes view_is =
          let has = ready_next g strikes lives e v runs duty m stands.fits.in_phase next is in
          record {
            lines = λ b lines. strike_lines e v duty w n (ready duty) b (line_stands e v (ready duty) b refl lines) (λ a was. refl) next.target h now view_is;
            left = record {
              duty = known_still w h now n duty view_is stands.fits.duty;
              in_phase = struck_fits e v w duty.key.0 duty.life next.target h now n point.Ready (ready duty) ready_works refl next has made m told stands.fits.in_phase;
              computed = struck_else e v w duty.key.0 duty.life next.target h now n point.Ready (ready duty) ready_works refl next has made told point.Computed duty.key.0 duty.life 0 refl stands.fits.computed;
              notified = struck_else e v w duty.key.0 duty.life next.target h now n point.Ready (ready duty) ready_works refl next has made told point.Notified duty.key.0 duty.life 0 refl stands.fits.notified;
            };
            came = tt;
            credits = strike_spare e v duty w n next.target h now view_is ∙ stands.credits;
          }

      pub ready_hand : AfterHand e w now (stays (ready_struck made))
      ready_hand = struck_hand e v w duty.key.0 duty.life next.target h now n made told

      pub ready_falls : LetsFall e strikes (strike_event e v duty next.target h now) n (item_rest e strikes h (item.Compute (record { duty = duty; phase = phase.Ready m }))) (after_rest e strikes now (stays (ready_struck made)))
      ready_falls = struck_falls e v w strikes point.Ready duty m next h now n is 0 (1 + 2 * e.graph.inputs duty.key.0 + 2 + (e.shape.rows + 2) + closing_rest e strikes duty) 0 _ _ made told
          (ready_form (strikes_rest strikes point.Ready duty m) (held h) (e.graph.inputs duty.key.0) e.shape.rows (closing_rest e strikes duty))
          (ready_form (strikes_rest strikes point.Ready duty (cond made next.made m)) (held now) (e.graph.inputs duty.key.0) e.shape.rows (closing_rest e strikes duty))

  module _ (c : Close) (stands : Stands g e v (item.Close c)) (is : close_left e.graph strikes c ≡ Some next) where
    -- the strikes made at the point that the closing has come to
    first_has : (first : c.word ≡ 0) → HasNext e v point.Computed c.duty.key.0 c.duty.life next
    first_has first = close_next g strikes lives e v runs c point.Computed (at_computed g strikes lives e v runs c first) (stands.fits.before first).0 next is

    last_has : (later : 0 < c.word) → e.graph.notify_words c.duty.key.0 ≤ c.word → HasNext e v point.Notified c.duty.key.0 c.duty.life next
    last_has later past = close_next g strikes lives e v runs c point.Notified (at_notified g strikes lives e v runs c later past) (stands.fits.behind later) next is

    unfinished : is_finished e.graph e.plan v.strikes (closing c) ≡ false
    unfinished = ⊎_elim
        (λ first. close_goes_on e.graph e.plan v.strikes c.duty.key.0 c.duty.life c.word (let low = runs.serves.lawful.some_word c.duty.key.0 in omega (arith, first, low)))
        (λ p. let has = last_has p.0 p.1 in closing_strikes e.graph e.plan v.strikes c.duty.key.0 c.duty.life c.word has.strike p.1 has.is_next)
        (close_where e.graph strikes c next is)

    pub close_works : AtWork v (closing c)
    close_works = at_work v (closing c) stands.top.below (line_stands e v (closing c) stands.top.below unfinished stands.top.lines_are)

    pub close_asks : MakesStrike e v c.duty.key.0 c.duty.life next.target
    close_asks = ⊎_elim
        (λ first. close_makes g strikes lives e v runs c point.Computed (at_computed g strikes lives e v runs c first) (stands.fits.before first).0 next close_works is)
        (λ p. close_makes g strikes lives e v runs c point.Notified (at_notified g strikes lives e v runs c p.0 p.1) (stands.fits.behind p.0) next close_works is)
        (close_where e.graph strikes c next is)

    abbrev pub close_struck : Bool → Item
    close_struck made = item.Close (record c { made = cond made next.made c.made })

    module _ (w : View) (h now : Option BlockCells) (n : ℕ) (made : Bool) (told : StrikeTells e v w c.duty.key.0 c.duty.life next.target h now n made) where
      first_fits : c.word ≡ 0 → FitsStrikes e w point.Computed c.duty.key.0 c.duty.life (cond made next.made c.made) × FitsStrikes e w point.Notified c.duty.key.0 c.duty.life 0
      first_fits first = let fits = stands.fits.before first in let at = at_computed g strikes lives e v runs c first in (
        struck_fits e v w c.duty.key.0 c.duty.life next.target h now n point.Computed (closing c) close_works at.here next (first_has first) made c.made told fits.0,
        struck_else e v w c.duty.key.0 c.duty.life next.target h now n point.Computed (closing c) close_works at.here next (first_has first) made told point.Notified c.duty.key.0 c.duty.life 0 refl fits.1,
      )

      last_fits : 0 < c.word → e.graph.notify_words c.duty.key.0 ≤ c.word → FitsStrikes e w point.Notified c.duty.key.0 c.duty.life (cond made next.made c.made)
      last_fits later past = let at = at_notified g strikes lives e v runs c later past in
          struck_fits e v w c.duty.key.0 c.duty.life next.target h now n point.Notified (closing c) close_works at.here next (last_has later past) made c.made told (stands.fits.behind later)

      pub close_goes : w ≡ after e (strike_event e v c.duty next.target h now) n v → Goes g e v w (item_lines e.graph (item.Close c)) (stays (close_struck made))
      close_goes view_is = record {
        lines = λ b lines. strike_lines e v c.duty w n (closing c) b (line_stands e v (closing c) b unfinished lines) (λ a was. refl) next.target h now view_is;
        left = record {
          duty = known_still w h now n c.duty view_is stands.fits.duty;
          word = stands.fits.word;
          seen = stands.fits.seen;
          before = first_fits;
          between = λ later low. ⊎_elim (λ z. absurd (omega (arith, later, z))) (λ p. let past = p.1 in absurd (omega (arith, low, past))) (close_where e.graph strikes c next is);
          behind = λ later. ⊎_elim (λ z. absurd (omega (arith, later, z))) (λ p. last_fits later p.1) (close_where e.graph strikes c next is);
        };
        came = tt;
        credits = strike_spare e v c.duty w n next.target h now view_is ∙ stands.credits;
      }

      pub close_hand : AfterHand e w now (stays (close_struck made))
      close_hand = struck_hand e v w c.duty.key.0 c.duty.life next.target h now n made told

      -- the words and ports that are left
      abbrev words_rest : ℕ
      words_rest = (2 * (e.graph.notify_words c.duty.key.0 - c.word) - seen_rest c.seen) + (e.graph.ports c.duty.key.0 - 40 * c.word) * (e.shape.rows + 7)

      first_strikes : c.word ≡ 0 → (m : ℕ) → close_strikes e strikes (record c { made = m }) ≡ strikes_rest strikes point.Computed c.duty m + strikes_rest strikes point.Notified c.duty 0
      first_strikes first m = ap (λ (b : Bool). cond b (strikes_rest strikes point.Computed c.duty m + strikes_rest strikes point.Notified c.duty 0) (strikes_rest strikes point.Notified c.duty m)) (eq-eqb c.word 0 first)

      last_strikes : 0 < c.word → (m : ℕ) → close_strikes e strikes (record c { made = m }) ≡ strikes_rest strikes point.Notified c.duty m
      last_strikes later m = ap (λ (b : Bool). cond b (strikes_rest strikes point.Computed c.duty m + strikes_rest strikes point.Notified c.duty 0) (strikes_rest strikes point.Notified c.duty m)) (ne_eqb c.word 0 (λ z. omega (arith, later, z)))

      pub close_falls : LetsFall e strikes (strike_event e v c.duty next.target h now) n (item_rest e strikes h (item.Close c)) (after_rest e strikes now (stays (close_struck made)))
      close_falls = ⊎_elim
          (λ first. let at = at_computed g strikes lives e v runs c first in let more = strikes_rest strikes point.Notified c.duty 0 in
          struck_falls e v w strikes point.Computed c.duty c.made next h now n (sym at.left_is ∙ is) words_rest 0 more _ _ made told
          (close_form words_rest (close_strikes e strikes c) (strikes_rest strikes point.Computed c.duty c.made) more (held h) (first_strikes first c.made))
          (close_form words_rest (close_strikes e strikes (record c { made = cond made next.made c.made })) (strikes_rest strikes point.Computed c.duty (cond made next.made c.made)) more (held now) (first_strikes first (cond made next.made c.made))))
          (λ p. let at = at_notified g strikes lives e v runs c p.0 p.1 in
          struck_falls e v w strikes point.Notified c.duty c.made next h now n (sym at.left_is ∙ is) words_rest 0 0 _ _ made told
          (close_form words_rest (close_strikes e strikes c) (strikes_rest strikes point.Notified c.duty c.made) 0 (held h) (none_else (close_strikes e strikes c) (strikes_rest strikes point.Notified c.duty c.made) (last_strikes p.0 c.made)))
          (close_form words_rest (close_strikes e strikes (record c { made = cond made next.made c.made })) (strikes_rest strikes point.Notified c.duty (cond made next.made c.made)) 0 (held now) (none_else (close_strikes e strikes (record c { made = cond made next.made c.made })) (strikes_rest strikes point.Notified c.duty (cond made next.made c.made)) (last_strikes p.0 (cond made next.made c.made)))))
          (close_where e.graph strikes c next is)
