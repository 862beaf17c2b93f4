-- What holds with any views with which a closed core is as the invariant says.
use Rattle.std.proofs.Common.{◌≡◌, ℕ, zero, suc, ◌+◌, ◌<◌, ◌≤◌, Bool, true, false, cond, eqb, List, [], ◌∷◌, ℤ, get_or, ⊎_elim, inl, inr, arith, sym, ap, refl, ◌∙◌, subst, Option, Some, None}
use mathlib.Core.Logic.{dite}
use native.Mathlib.Decide.{ℕ_discrete, dec_lt}
use Rattle.std.proofs.Math.Logic.{∥∥₁_elim, ∥∥₁_map}
use Rattle.std.proofs.Math.Bridge.{le_prop}
use Rattle.std.proofs.Math.Nat.{ℕ_set}
use Rattle.std.specs.Coded.{Coded-set, coded_option, coded_list, coded_ℤ}
use Rattle.core_state.specs.Graph.{Setting, Reached, greatest_life}
use Rattle.core_state.specs.Words.{pending}
use Rattle.core_state.specs.Counts.{count, items, noted, total_of}
use Rattle.core_state.specs.Tests.{two, is_at, is_any_struck, is_any_replaced, is_of, is_replaced, is_suspect_for, same_cause}
use Rattle.core_state.specs.Change.{Core, Sums, block_of, cells_or}
use Rattle.core_state.specs.Laws.{SpentOnce, ComputedOnce, ReplacedOnce, CausesShown, LivesNamed, SpentByEdge, FaultFree, IsGrounded, SixLaws, LawfulRecords, Planned, Played}
use Rattle.core_state.specs.Invariant.{IsQuiet, Finished}
use Rattle.core_state.specs.declared.block.BlockCells.{BlockCells}
use Rattle.core_state.specs.declared.views.Item.{Item}
use Rattle.core_state.specs.declared.views.Item.TheVariants as item
use Rattle.core_state.specs.declared.views.View.{View}
use Rattle.core_state.proofs.End.Lists.{count_below, within, nothing_else, none_of_root, list_spent, list_computed, list_replaced, list_lives, list_edges}
use Rattle.core_state.proofs.End.Causes.{list_causes, list_suspected, root_suspected, root_lives, root_once, root_before, root_shown}
use Rattle.core_state.proofs.Row.Made.{replaced_of}
use Rattle.core_state.proofs.Row.View.{items_below}
use Rattle.core_state.proofs.Base.Counting.{eqb_here, both}
use Rattle.core_state.proofs.Plan.PlayedList.{list_planned, list_played}
use Rattle.core_state.proofs.End.Quiet.{finished, root_home}
use Rattle.core_state.proofs.Base.Words.{read_at}
use Rattle.core_state.proofs.Base.Tables.{state_sums}
use Rattle.core_state.proofs.End.NoFault.{fault_free, root_stays}
use Rattle.core_steps.specs.Seat.{cells_in}
use Rattle.core_steps.specs.Table.{IsClosing, ShowsCells, ShowsRoot, core_by, home_at, is_kept, is_root_replaced, view_in}
use Rattle.core_steps.proofs.Rooting.{none_held, root_value}
use Rattle.core_laws.specs.Lists.{AreOfTasks, RootReplaced, RootShown, SuspectShown}
use Rattle.graph_model.specs.declared.record.Cause.{Cause}
use Rattle.graph_model.specs.declared.record.Record.{Record}

absurd_alike : (x y : ⊥) → x ≡ y
absurd_alike x y = absurd x

-- what one view has is among what all have
seen_total : (p : Item → Bool) (vs : List View) (i : ℕ) → 0 < items p (view_in vs i) → 0 < total_of vs (items p)
unfolding total_of
seen_total p [] i z = absurd (omega (arith, z))
seen_total p (v ∷ vs) zero z = omega (arith, z)
seen_total p (v ∷ vs) (suc i) z = let a = seen_total p vs i z in omega (arith, a)

-- a suspect of a life names the key
suspect_named : (k l : ℕ) (c : Cause) (x : Item) → is_suspect_for k l c x ≡ true → is_at k x ≡ true
suspect_named k l c (item.Suspect a m d w) z = (both (eqb k a) (eqb l m) (both (two k l a m) (same_cause c d) z).0).0
suspect_named k l c x z = absurd cc

-- a value that is there, and the list that it is
abbrev is_there : {A : Type 0} → Option A → Bool
is_there None = false
is_there (Some x) = true

abbrev or_nothing : {A : Type 0} → Option (List A) → List A
or_nothing None = []
or_nothing (Some x) = x

-- what a block that was written shows
shows_full : (x : BlockCells) (v : List ℤ) (root : Option (List ℤ)) → 0 < x.tag → x.cells ≡ v → ShowsCells x root → root ≡ Some v
shows_full x v None full is z = absurd (omega (arith, full, z))
shows_full x v (Some cells) full is z = ap Some (sym z.1 ∙ is)

module _ (e : Setting) (ws : List ℕ) (bs : List (Option BlockCells)) (xs rs : List Record) where
  module _ (vs : List View) (z : IsClosing e vs ws bs xs rs) where
    sums : Sums (core_by e.shape ws bs vs)
    sums = state_sums {S = BlockCells} e.shape (λ _. home_at bs) (record { words = ws; homes = []; views = vs })

    is_quiet : get_or ws 0 0 ≡ 0 → IsQuiet e (core_by e.shape ws bs vs)
    is_quiet none = read_at e.shape ws pending refl ∙ none

    root_at_home : get_or ws 0 0 ≡ 0 → (core_by e.shape ws bs vs).block (e.graph.block e.graph.root) ≡ home_at bs (e.graph.block e.graph.root)
    unfolding block_of
    root_at_home none = ap (cells_or (home_at bs (e.graph.block e.graph.root))) (none_held (e.graph.block e.graph.root) vs (root_home e z.setting (core_by e.shape ws bs vs) sums z.holds (is_quiet none)))

    finished_value : (root : Option (List ℤ)) → get_or ws 0 0 ≡ 0 → ShowsRoot e bs root → root ≡ Some (e.graph.value e.graph.sink)
    finished_value root none shows = let o : Finished e (core_by e.shape ws bs vs) = finished e z.setting (core_by e.shape ws bs vs) sums z.holds (is_quiet none) in let home = root_at_home none in
        shows_full (home_at bs (e.graph.block e.graph.root)) (e.graph.value e.graph.sink) root (let a = o.root_tag in let b = ap (λ (x : BlockCells). x.tag) home in omega (arith, a, b)) (sym (ap (λ (x : BlockCells). x.cells) home) ∙ o.root_cells) shows

    -- what is written in the root's block at home is the sink's value
    written_value : (x : List ℤ) (root : Option (List ℤ)) → root ≡ Some x → ShowsRoot e bs root → x ≡ e.graph.value e.graph.sink
    written_value x None is shows = absurd (let a = ap (is_there {A = List ℤ}) is in cc)
    written_value x (Some y) is shows = by (get_or bs (e.graph.block e.graph.root) None) refl
      where
        by : (home : Option BlockCells) → get_or bs (e.graph.block e.graph.root) None ≡ home → x ≡ e.graph.value e.graph.sink
        by None at = absurd (let a = shows.0 in let b = ap (λ h. (cells_in h).tag) at in omega (arith, a, b))
        by (Some block) at = sym (ap (or_nothing {A = ℤ}) is) ∙ sym (sym (ap (λ h. (cells_in h).cells) at) ∙ shows.1) ∙ root_value e z.setting e.shape ws bs vs z.holds z.at_home block at (let a = shows.0 in let b = ap (λ h. (cells_in h).tag) at in omega (arith, a, b)) ∙ z.setting.lawful.root_value

    lives_from_one : (k : ℕ) → count (is_of k 0) xs ≡ 0
    lives_from_one k = let a = within e z.setting (core_by e.shape ws bs vs) sums z.holds (is_kept e.graph.root) xs z.others (is_of k 0) in let b = z.holds.records.some_life k in omega (arith, a, b)

    six : SixLaws e.graph xs
    six = let s : Core = core_by e.shape ws bs vs in record {
      spent = list_spent e z.setting s sums z.holds xs z.others;
      computed = list_computed e z.setting s sums z.holds xs z.others;
      replaced = list_replaced e z.setting s sums z.holds xs z.others;
      causes = list_causes e z.setting s sums z.holds xs z.others;
      lives = list_lives e z.setting s sums z.holds xs z.others;
      edges = list_edges e z.setting s sums z.holds xs z.others;
    }

    plan_played : get_or ws 0 0 ≡ 0 → Played e.graph e.plan (λ p. count p xs)
    plan_played none = list_played e z.setting (core_by e.shape ws bs vs) sums z.holds xs z.others z.passed z.prevented (is_quiet none)

    -- whatever a view suspects has a row, which was made for a key on which the root depends
    suspect_reached : (i k l : ℕ) (c : Cause) → 0 < items (is_suspect_for k l c) (view_in vs i) → Reached e.graph k
    suspect_reached i k l c some = let a = items_below (is_suspect_for k l c) (is_at k) (suspect_named k l c) (view_in vs i).stacks in let row = z.holds.keys.of_item k (seen_total (is_at k) vs i (omega (arith, a, some))) in z.holds.keys.reached row.0 k row.1

    pub suspect_shown : (i k l : ℕ) (c : Cause) → 0 < items (is_suspect_for k l c) (view_in vs i) → SuspectShown e xs rs k l c
    suspect_shown i k l c some = let s : Core = core_by e.shape ws bs vs in let there : 0 < s.total (items (is_suspect_for k l c)) = seen_total (is_suspect_for k l c) vs i some in let a = list_suspected e z.setting s sums z.holds xs z.others k l c there in
        record { reached = suspect_reached i k l c some; shown = a.0; some_life = a.1; most = a.2; root = λ is m from low. root_suspected e z.setting s sums z.holds xs z.others rs z.replaced l c (subst (λ y. 0 < s.total (items (is_suspect_for y l c))) is there) m from low }

    -- the greatest life of the root has none after it
    root_last : (l : ℕ) → 65535 ≤ l → count (is_replaced e.graph.root l) rs ≡ 0
    root_last l late = dite (ℕ_discrete (count (is_replaced e.graph.root l) rs) 0) (λ none. none)
        (λ some. absurd (let a = root_lives e z.setting (core_by e.shape ws bs vs) sums z.holds xs z.others rs z.replaced l (omega (arith, some)) in let b : greatest_life e e.graph.root ≡ 65535 = ap (λ (t : Bool). cond t 65535 e.lives) (eqb_here e.graph.root) in omega (arith, a.1, b, late)))

    root_only : RootReplaced e.graph rs
    root_only = record {
      only = nothing_else e z.setting (core_by e.shape ws bs vs) sums z.holds (is_root_replaced e.graph.root) rs z.replaced;
      once = root_once e z.setting (core_by e.shape ws bs vs) sums z.holds xs z.others rs z.replaced;
      some_life = let k : ℕ = e.graph.root in let a = within e z.setting (core_by e.shape ws bs vs) sums z.holds (is_root_replaced k) rs z.replaced (is_replaced k 0) in
          let b = sums.below (noted (is_replaced k 0)) (noted (is_of k 0)) (λ v. count_below (is_replaced k 0) (is_of k 0) (replaced_of k 0) v.records) in let c = z.holds.records.some_life k in omega (arith, a, b, c);
      last = root_last;
      before = root_before e z.setting (core_by e.shape ws bs vs) sums z.holds xs z.others rs z.replaced;
    }

  module _ (m : ∥ ((vs : List View) × IsClosing e vs ws bs xs rs) ∥₁) where
    pub value_shown : (root : Option (List ℤ)) → ∥ ShowsRoot e bs root ∥₁ → get_or ws 0 0 ≡ 0 → root ≡ Some (e.graph.value e.graph.sink)
    value_shown root shows none = ∥∥₁_elim m (Coded-set (coded_option (coded_list coded_ℤ)) _ _) (λ z. ∥∥₁_elim shows (Coded-set (coded_option (coded_list coded_ℤ)) _ _) (finished_value z.0 z.1 root none))

    pub value_written : (root : Option (List ℤ)) → ∥ ShowsRoot e bs root ∥₁ → (x : List ℤ) → root ≡ Some x → x ≡ e.graph.value e.graph.sink
    value_written root shows x is = ∥∥₁_elim m (Coded-set (coded_list coded_ℤ) _ _) (λ z. ∥∥₁_elim shows (Coded-set (coded_list coded_ℤ) _ _) (written_value z.0 z.1 x root is))

    pub from_one : (k : ℕ) → count (is_of k 0) xs ≡ 0
    from_one k = ∥∥₁_elim m (ℕ_set _ _) (λ z. lives_from_one z.0 z.1 k)

    pub of_tasks : AreOfTasks e.graph xs
    of_tasks = ∥∥₁_elim m (ℕ_set _ _) (λ z. none_of_root e z.1.setting (core_by e.shape ws bs z.0) (sums z.0 z.1) z.1.holds xs z.1.others)

    spent : (vs : List View) → IsClosing e vs ws bs xs rs → SpentOnce e.graph (λ p. count p xs)
    spent vs z = list_spent e z.setting (core_by e.shape ws bs vs) (sums vs z) z.holds xs z.others

    pub spent_once : SpentOnce e.graph (λ p. count p xs)
    spent_once = record {
      once = λ k l j. ∥∥₁_elim m le_prop (λ z. (spent z.0 z.1).once k l j);
      is_place = λ k l j some. dite (dec_lt j (e.graph.places k)) inl (λ high. dite (ℕ_discrete j 40) inr (λ ne. absurd (∥∥₁_elim m absurd_alike (λ z. ⊎_elim (λ low. high low) (λ q. ne q) ((spent z.0 z.1).is_place k l j some)))));
    }

    pub computed_once : ComputedOnce e.graph (λ p. count p xs)
    computed_once = ∥∥₁_elim m (hlevel (le_prop, ℕ_set)) (λ z. list_computed e z.1.setting (core_by e.shape ws bs z.0) (sums z.0 z.1) z.1.holds xs z.1.others)

    pub replaced_once : ReplacedOnce e.graph (λ p. count p xs)
    replaced_once = ∥∥₁_elim m (hlevel (le_prop, ℕ_set)) (λ z. list_replaced e z.1.setting (core_by e.shape ws bs z.0) (sums z.0 z.1) z.1.holds xs z.1.others)

    pub root_replaced : RootReplaced e.graph rs
    root_replaced = ∥∥₁_elim m (hlevel (le_prop, ℕ_set)) (λ z. root_only z.0 z.1)

    pub causes_shown : ∥ CausesShown e.graph (λ p. count p xs) (IsGrounded e.graph xs) ∥₁
    causes_shown = ∥∥₁_map m (λ z. list_causes e z.1.setting (core_by e.shape ws bs z.0) (sums z.0 z.1) z.1.holds xs z.1.others)

    pub lives_named : ∥ LivesNamed e.graph (λ p. count p xs) ∥₁
    lives_named = ∥∥₁_map m (λ z. list_lives e z.1.setting (core_by e.shape ws bs z.0) (sums z.0 z.1) z.1.holds xs z.1.others)

    pub spent_by_edge : SpentByEdge e.graph (λ p. count p xs)
    spent_by_edge = ∥∥₁_elim m (hlevel (le_prop, ℕ_set)) (λ z. list_edges e z.1.setting (core_by e.shape ws bs z.0) (sums z.0 z.1) z.1.holds xs z.1.others)

    pub root_causes : ∥ RootShown e.graph xs rs ∥₁
    root_causes = ∥∥₁_map m (λ z. record { shown = root_shown e z.1.setting (core_by e.shape ws bs z.0) (sums z.0 z.1) z.1.holds xs z.1.others rs z.1.replaced })

    pub without_fault : get_or ws 0 0 ≡ 0 → ∥ FaultFree e.graph (λ p. count p xs) ∥₁
    without_fault none = ∥∥₁_map m (λ z. fault_free e z.1.setting (core_by e.shape ws bs z.0) (sums z.0 z.1) z.1.holds xs z.1.others (is_quiet z.0 z.1 none))

    pub root_unreplaced : count is_any_struck xs ≡ 0 → count is_any_replaced rs ≡ 0
    root_unreplaced none = ∥∥₁_elim m (ℕ_set _ _) (λ z. root_stays e z.1.setting (core_by e.shape ws bs z.0) (sums z.0 z.1) z.1.holds xs z.1.others rs z.1.replaced none)

    pub six_laws : ∥ SixLaws e.graph xs ∥₁
    six_laws = ∥∥₁_map m (λ z. six z.0 z.1)

    pub all_laws : get_or ws 0 0 ≡ 0 → ∥ LawfulRecords e.graph xs ∥₁
    all_laws none = ∥∥₁_map m (λ z. record { six = six z.0 z.1; fault_free = fault_free e z.1.setting (core_by e.shape ws bs z.0) (sums z.0 z.1) z.1.holds xs z.1.others (is_quiet z.0 z.1 none) })

    pub landed_planned : Planned e.graph e.plan (λ p. count p xs)
    landed_planned = ∥∥₁_elim m (hlevel (le_prop, ℕ_set)) (λ z. list_planned e z.1.setting (core_by e.shape ws bs z.0) (sums z.0 z.1) z.1.holds xs z.1.others)

    pub played_plan : get_or ws 0 0 ≡ 0 → Played e.graph e.plan (λ p. count p xs)
    played_plan none = ∥∥₁_elim m (hlevel (le_prop, ℕ_set)) (λ z. plan_played z.0 z.1 none)
