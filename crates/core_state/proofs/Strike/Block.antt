-- That a block goes home struck keeps every part: each cell is complemented, the mark comes, and the strike was made.
use Rattle.std.proofs.Common.{◌≡◌, ◌≢◌, ℕ, ◌+◌, ◌≤◌, ◌<◌, Bool, true, false, cond, eqb, min, arith, sym, ap, refl, ◌∙◌, subst}
use Rattle.core_state.specs.Graph.{Setting, Sound, Reached}
use Rattle.core_state.specs.Words.{pending, stop, key, descriptor, notify, recovery, posted, turn, spot_of, life_shown, mark_shown, standing_life, replacing}
use Rattle.core_state.specs.Counts.{hit, count, items, ended, in_hand, in_wrong_hand, facts}
use Rattle.core_state.specs.Tests.{two, same_hit, names_hit, is_suspect, is_made_any, is_idle, is_stopped, is_stops, is_seen_life, is_seen_mark, is_seen_closed, is_computed, is_version, is_struck_version, is_any_struck, is_misstruck, is_replaced}
use Rattle.core_state.specs.Change.{Core, Change, Sums, many}
use Rattle.core_state.specs.Rows.{HasKey, Shows, Lists, Content, Facts}
use Rattle.core_state.specs.Work.{RootWork}
use Rattle.core_state.specs.Blocks.{Holds, Blocks}
use Rattle.core_state.specs.Records.{Strikes}
use Rattle.core_state.specs.Invariant.{Invariant}
use Rattle.core_state.specs.Guards.{CanGiveStruck}
use Rattle.core_state.specs.Effects.{after_give_struck}
use Rattle.core_state.specs.Views.{key_of, strike_done}
use Rattle.graph_model.specs.declared.plan.Target.TheVariants as target
use Rattle.graph_model.specs.declared.record.Hit.{Hit}
use Rattle.graph_model.specs.declared.record.Hit.TheVariants as hit_of
use Rattle.graph_model.specs.declared.record.Record.TheVariants as record_of
use Rattle.core_state.specs.declared.block.BlockCells.{BlockCells}
use Rattle.core_state.specs.declared.job.Job.TheVariants.{Compute}
use Rattle.core_state.specs.declared.views.Known.{Known}
use Rattle.core_state.specs.declared.views.View.{View}
use Rattle.core_state.specs.declared.views.Word.{Word}
use Rattle.core_state.specs.declared.views.Word.TheVariants as word
use Rattle.core_state.proofs.Base.Counting.{bump_is, not_here, two_here}
use Rattle.core_state.proofs.Base.Frame.{had, frame_empty}
use Rattle.core_state.proofs.Blocks.Home.{hand_left, other_hand, given_blocks}
use Rattle.core_state.proofs.Strike.View.{StrikeView, StrikeStep, eq, its, same_items, same_ended, more, rec, one_more, made_keys, made_lives, made_credits, made_jobs, made_computings, made_causes, made_cover, made_activity, made_records, made_no_fault}
use Rattle.core_state.proofs.Strike.Once.{made_strikes}
use Rattle.core_state.proofs.Strike.Next.{NextStrike, next_strike_is, strike_row, strike_life, strike_top}
use Rattle.core_state.proofs.Strike.WordContent.{else_shows, else_lists}
use Rattle.core_state.proofs.Base.WeakFrame.{wide_facts, wide_holds}

-- a hit on a block is what a strike on one names
names_block : (b v : ℕ) (i : Hit) → same_hit i (hit_of.Block b v) ≡ true → names_hit target.Block i ≡ true
names_block b v hit_of.Descriptor z = absurd cc
names_block b v (hit_of.Notify d) z = absurd cc
names_block b v (hit_of.Block a x) z = refl

module _ (e : Setting) (fit : Sound e) (s t : Core) (sums : Sums s) (k l b n : ℕ) (was now : BlockCells) (v w : View) (can : CanGiveStruck e v k l b was now) (found_block : s.block b ≡ was) (left_block : t.block b ≡ now) (c : Change s t (turn b) n 0 v w)
    (u : StrikeView can.strikes.strike k l (hit_of.Block b now.tag) true v w) (hand : (d : ℕ) → in_hand d w + hit (eqb d b) ≡ in_hand d v) (known_is : w.known ≡ v.known) (inv : Invariant e s) where
  next : NextStrike e v can.strikes.strike
  next = next_strike_is e v can.strikes.strike can.strikes.is_next

  row : ℕ
  row = (strike_row e s sums v can.strikes.strike c.within inv next).0

  has : HasKey e s row k
  unfolding row
  has = subst (HasKey e s (strike_row e s sums v can.strikes.strike c.within inv next).0) can.strikes.of_key (strike_row e s sums v can.strikes.strike c.within inv next).1

  some_life : 0 < l
  some_life = let a = strike_life e s sums v can.strikes.strike c.within inv next in let d = can.strikes.of_life in omega (arith, a, d)

  top : l ≤ standing_life (s.word (recovery row)) + replacing (s.word (recovery row))
  top = let a = strike_top e s sums v can.strikes.strike c.within inv next row (subst (HasKey e s row) (sym can.strikes.of_key) has) in let d = can.strikes.of_life in omega (arith, a, d)

  reached : Reached e.graph k
  reached = inv.keys.reached row k has

  not_root : k ≢ e.graph.root
  not_root q = fit.root_free can.strikes.strike next.low (can.strikes.of_key ∙ q)

  apart : e.graph.block e.graph.root ≢ b
  apart q = not_root (fit.lawful.root_block.1 k (sym (q ∙ can.block_is)))

  tag_is : now.tag ≡ e.graph.version k
  tag_is = can.tag_is ∙ can.tag_was

  word_same : (r : ℕ) (z : Word) → t.word (spot_of r z) ≡ s.word (spot_of r z)
  word_same r word.Descriptor = c.others (descriptor r) (λ q. cc)
  word_same r (word.Notify d) = c.others (notify r d) (λ q. cc)
  word_same r word.Recovery = c.others (recovery r) (λ q. cc)

  step : StrikeStep e s t v w
  step = record {
    keys = λ r. c.others (key r) (λ q. cc);
    recoveries = λ r. c.others (recovery r) (λ q. cc);
    posts = λ i r. c.others (posted i r) (λ q. cc);
    pending_same = c.others pending (λ q. cc);
    stop_same = c.others stop (λ q. cc);
    lives = λ r z. ap (life_shown z) (word_same r z);
    marks = λ r z had. ap (mark_shown z) (word_same r z) ∙ had;
    sums = c.sums;
    within = c.within;
    alone = c.alone;
  }

  abbrev h : Hit
  h = hit_of.Block b now.tag

  content : Content e t
  content = record {
    descriptors = λ r a it. subst (Shows e t a) (sym (word_same r word.Descriptor)) (else_shows e s t can.strikes.strike k l h true v w step u inv a (s.word (descriptor r)) (λ q. refl) (inv.content.descriptors r a (had e s t step.keys r a it)));
    notify_words = λ r a d it low. subst (Lists e t a d) (sym (word_same r (word.Notify d))) (else_lists e s t can.strikes.strike k l h true v w step u inv a d (s.word (notify r d)) (λ q. refl) (inv.content.notify_words r a d (had e s t step.keys r a it) low));
  }

  knows : (f : Known → Bool) → t.total (facts f) ≡ s.total (facts f)
  knows f = eq e s t can.strikes.strike k l h true v w step u inv (facts f) (ap (count f) known_is)

  facts_now : Facts e t
  facts_now = wide_facts e s t step.keys (λ r z. (ap (life_shown z) (word_same r z), ap (mark_shown z) (word_same r z))) (more e s t can.strikes.strike k l h true v w step u inv)
      (λ r a d z old some. inv.facts.life r a d z old (let x = knows (is_seen_life a z d) in omega (arith, x, some))) (λ r a d z old some. inv.facts.mark r a d z old (let x = knows (is_seen_mark a z d) in omega (arith, x, some)))
      (λ a d z some. inv.facts.row_of_life a d z (let x = knows (is_seen_life a z d) in omega (arith, x, some))) (λ a d z some. inv.facts.row_of_mark a d z (let x = knows (is_seen_mark a z d) in omega (arith, x, some)))
      (λ a d z some. inv.facts.closed a d z (let x = knows (is_seen_closed a d z) in omega (arith, x, some)))
      (λ z. step.pending_same ∙ inv.facts.idle (let x = knows is_idle in omega (arith, x, z))) (λ z. step.stop_same ∙ inv.facts.stopped (let x = knows is_stopped in omega (arith, x, z))) (step.stop_same ∙ inv.facts.stops ∙ ap (min 1) (sym (knows is_stops)))

  struck_now : 0 < many t (is_struck_version b now.tag)
  struck_now = let a = one_more e s t can.strikes.strike k l h true v w step u inv (is_struck_version b now.tag) in let d = ap hit (two_here b now.tag) in omega (arith, a, d)

  any_struck : 0 < many t is_any_struck
  any_struck = let a = one_more e s t can.strikes.strike k l h true v w step u inv is_any_struck in omega (arith, a)

  own : is_misstruck e.graph (record_of.Struck (key_of k) l (hit_of.Block b now.tag)) ≡ false
  own = ap (λ (o : Bool). cond o false true) (ap (λ o. two (e.graph.block k) (e.graph.version k) o now.tag) can.block_is ∙ ap (λ o. two (e.graph.block k) (e.graph.version k) (e.graph.block k) o) tag_is ∙ two_here (e.graph.block k) (e.graph.version k))

  -- the root's block is another one
  root_hand : t.total (in_hand (e.graph.block e.graph.root)) ≡ s.total (in_hand (e.graph.block e.graph.root))
  root_hand = other_hand e s t b n v w c hand inv.blocks (e.graph.block e.graph.root) apart

  root_work : RootWork e t
  root_work = record {
    right_hand = eq e s t can.strikes.strike k l h true v w step u inv (in_wrong_hand (e.graph.block e.graph.root) e.graph.root)
        (ap (λ o. cond (eqb o 0) (in_hand (e.graph.block e.graph.root) w) 0) (same_items e s t can.strikes.strike k l h true v w step u inv (is_made_any e.graph.root)) ∙ ap (λ o. cond (eqb (items (is_made_any e.graph.root) v) 0) o 0)
        (let a = hand (e.graph.block e.graph.root) in let d = not_here (e.graph.block e.graph.root) b apart in omega (arith, a, d))) ∙ inv.work.root.right_hand;
    unwritten = λ some. ap (λ o. o.tag) (c.blocks (e.graph.block e.graph.root) (λ q. apart (let y : e.graph.block e.graph.root ≡ b = cc in y))) ∙ inv.work.root.unwritten (let a = root_hand in omega (arith, a, some));
    given_up = λ d z. let old = inv.work.root.given_up d (let a = its e s t can.strikes.strike k l h true v w step u inv (is_suspect e.graph.root d) in let f = rec e s t can.strikes.strike k l h true v w step u inv (is_replaced e.graph.root d) refl in omega (arith, a, f, z)) in
        (let a = eq e s t can.strikes.strike k l h true v w step u inv (ended Compute e.graph.root d) (same_ended e s t can.strikes.strike k l h true v w step u inv Compute e.graph.root d) in let f = old.0 in omega (arith, a, f), rec e s t can.strikes.strike k l h true v w step u inv (is_computed e.graph.root d) refl ∙ old.1);
  }

  versions : (d x : ℕ) → many t (is_version d x) ≡ many s (is_version d x)
  versions d x = rec e s t can.strikes.strike k l h true v w step u inv (is_version d x) refl

  -- what was written before is what was struck now
  here : Holds e s b (s.block b) → Holds e t b now
  here old = let before = subst (Holds e s b) found_block old in let some : 0 < now.tag = (let a = (fit.lawful.from_one k reached).0 in let d = tag_is in omega (arith, a, d)) in record {
    good = λ z. absurd (let q = can.struck in cc);
    written = λ z. subst (λ o. 0 < many t (is_version b o)) (sym can.tag_is) (let a = before.written (subst (λ o. 0 < o) can.tag_is z) in let d = versions b was.tag in omega (arith, a, d));
    struck = λ z. (some, struck_now);
    twice = λ x less z. subst (λ o. 2 ≤ many t (is_version b o)) (sym can.tag_is) (let a = before.twice x (subst (λ o. o < x) can.tag_is less) (let d = versions b x in omega (arith, d, z)) in let d = versions b was.tag in omega (arith, a, d));
    root = λ q. absurd (apart (sym q));
  }

  blocks : Blocks e t
  blocks = given_blocks e s t b n v w c hand inv.blocks (λ low. subst (Holds e t b) (sym left_block) (here (inv.blocks.each b low).holds)) (λ d ne o. wide_holds e s t (more e s t can.strikes.strike k l h true v w step u inv) d (versions d) (s.block d) o)

  strikes : Strikes e t
  strikes = made_strikes e s t sums k l l target.Block h true v w can.strikes step u inv (omega arith) (names_block b now.tag) (λ r it q. absurd cc) (λ r d it q. absurd cc)
      (λ q. let a : many t (is_struck_version b now.tag) ≡ many t (is_struck_version (e.graph.block k) (e.graph.version k)) = ap (λ o. many t (is_struck_version o now.tag)) can.block_is ∙ ap (λ o. many t (is_struck_version (e.graph.block k) o)) tag_is in let d = struck_now in omega (arith, a, d))

  -- over any view that lacks the block and has the record
  given_struck : Invariant e t
  given_struck = record {
    keys = made_keys e s t can.strikes.strike k l h true v w step u inv;
    empty = frame_empty e s t step.keys (λ r. word_same r word.Descriptor) (λ r d. word_same r (word.Notify d)) step.recoveries step.posts inv.empty;
    lives = made_lives e s t can.strikes.strike k l h true v w step u inv;
    content = content;
    facts = facts_now;
    work = record {
      credits = made_credits e s t can.strikes.strike k l h true v w step u inv;
      jobs = made_jobs e s t can.strikes.strike k l h true v w step u inv;
      computings = made_computings e s t can.strikes.strike k l h true v w step u inv;
      root = root_work;
    };
    blocks = blocks;
    records = made_records e s t can.strikes.strike k l h true v w step u inv row has some_life top own;
    causes = made_causes e s t can.strikes.strike k l h true v w step u inv;
    strikes = strikes;
    cover = made_cover e s t can.strikes.strike k l h true v w step u inv;
    activity = made_activity e s t can.strikes.strike k l h true v w step u inv;
    no_fault = made_no_fault e s t can.strikes.strike k l h true v w step u inv any_struck;
  }

module _ (e : Setting) (fit : Sound e) (s t : Core) (sums : Sums s) (k l b n : ℕ) (was now : BlockCells) (v : View) (can : CanGiveStruck e v k l b was now) (found_block : s.block b ≡ was) (left_block : t.block b ≡ now) (c : Change s t (turn b) n 0 v (after_give_struck e.graph e.plan k l b now.tag v)) (inv : Invariant e s) where
  struck_view : StrikeView can.strikes.strike k l (hit_of.Block b now.tag) true v (after_give_struck e.graph e.plan k l b now.tag v)
  struck_view = record {
    stacks_are = ap (λ o. (strike_done o v).stacks) can.strikes.is_next;
    ended_are = ap (λ o. (strike_done o v).ended) can.strikes.is_next;
    spare_same = ap (λ o. (strike_done o v).spare) can.strikes.is_next;
    strikes_are = ap (λ o. (strike_done o v).strikes) can.strikes.is_next;
    noted_more = λ p. let a = bump_is (p (record_of.Struck (key_of k) l (hit_of.Block b now.tag))) (count p v.records) in omega (arith, a);
    known_same = λ f life mark. ap (λ o. count f (strike_done o v).known) can.strikes.is_next;
  }

  pub keeps_give_struck : Invariant e t
  keeps_give_struck = given_struck e fit s t sums k l b n was now v (after_give_struck e.graph e.plan k l b now.tag v) can found_block left_block c struck_view (λ d. hand_left d b was v can.hand) (ap (λ o. (strike_done o v).known) can.strikes.is_next) inv
