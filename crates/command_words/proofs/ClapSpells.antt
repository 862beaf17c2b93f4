-- What clap reads in the words behind the first one is what they spell.
use Rattle.std.proofs.Common.{◌≡◌, ◌≢◌, ◌∙◌, ◌⊎◌, ℕ, cond, true, false, List, [], ◌∷◌, ◌++◌, Option, Some, None, refl, sym, ap, subst, inl, inr, is_some, arith}
use Rattle.clap.specs.Walk.{Row, Walk, idle, option, used, walked}
use Rattle.clap.specs.Faults.{settle_fault, turn_fault}
use Rattle.clap.specs.Kinds.{Kinds, or_else}
use Rattle.clap.specs.declared.error.kind.ErrorKind.TheVariants as kinds
use Rattle.command_words.specs.Options.{Text, dashed, takes, takes_value}
use Rattle.command_words.specs.Given.{Given, nothing, put, slot}
use Rattle.command_words.specs.Spelling.{Gives, IsPlain, Spells, done, one, two}
use Rattle.command_words.specs.Spelling as spelling
use Rattle.command_words.specs.ByClap.{TakesAll, found_in}
use Rattle.command_words.specs.Spelling.{IsLetThrough}
use Rattle.command_words.specs.declared.options.Kind.{Kind}
use Rattle.command_words.specs.declared.options.Name.{Name}
use Rattle.command_words.specs.declared.options.Name.TheVariants.{Workers, Lives, Records, Schedule, Turns, Number}
use Rattle.command_words.proofs.ClapTable.{alone_turn, alone_walk, at, entered, first_none, first_time, flag_turn, flag_walk, held, held_passes, id_of, joined_turn, joined_walk, long_turn, not_both_ways, not_repeated, number_turn, number_walk, pending, pending_fault, pending_rows, rule, rules, second_none, second_turn, shape, use_kinds, value_turn, value_walk, valueless, values, within}
use Rattle.command_words.proofs.ClapRows.{Fits, fits_found, fits_nothing, fits_put, row_given, row_missing}
use Rattle.command_words.proofs.ClapWords.{View, view, parts, plain, joined, alone, flag, refused, alone_passes, gift_passes, plain_passes}
use Rattle.command_words.proofs.ClapWalk.{AllPass, all_pass, both_none, behind_is, first_passes, from, from_end, from_word, left, not_number, not_records, parts_none, place, place_put, rest_passes, takes_all_put, takes_put, turn_none}

-- ---- what clap takes is spelled

-- the positional words: one at most
number_at : (p : ℕ) (given : Given) → p ≡ place given → (given.number ≡ None → p ≡ 1) × ((v : Text) → given.number ≡ Some v → p ≡ 2)
number_at p given e = (λ f. e ∙ ap (λ o. cond (is_some o) 2 1) f, λ v f. e ∙ ap (λ o. cond (is_some o) 2 1) f)

-- where no word is refused, neither is what was held before them
settles : (words : List Text) (given : Given) (r : List Row) (q : Option (Text × List Text)) (p : ℕ) → p ≡ place given → AllPass words → from (at r q p) words ≡ []
    → settle_fault rules false (held r q) ≡ []
settles [] given r q p pe pass e = first_none _ _ (sym (from_end (at r q p)) ∙ e)
settles (word ∷ rest) given r q p pe pass e =
    by (parts word (first_passes word rest pass)) (turn_none (at r q p) word rest e)
  where
    by : IsPlain word ⊎ ((x : ℕ) × (xs : Text) × (word ≡ 45 ∷ 45 ∷ x ∷ xs)) → turn_fault shape [] (at r q p) word ≡ [] → settle_fault rules false (held r q) ≡ []
    by (inr l) t =
        let turn : turn_fault shape [] (at r q p) (45 ∷ 45 ∷ l.0 ∷ l.1) ≡ [] = subst (λ w. turn_fault shape [] (at r q p) w ≡ []) l.2 t in
        held_passes (held r q) idle p l.0 l.1 turn
    by (inl h) t = go given.number refl
      where
        go : (o : Option Text) → given.number ≡ o → settle_fault rules false (held r q) ≡ []
        go None f = sym (number_turn r q word h) ∙ subst (λ x. turn_fault shape [] (at r q x) word ≡ []) ((number_at p given pe).0 f) t
        go (Some v) f =
            let turn : turn_fault shape [] (at r q 2) word ≡ [] = subst (λ x. turn_fault shape [] (at r q x) word ≡ []) ((number_at p given pe).1 v f) t in
            absurd (not_both_ways kinds.UnknownArgument _ (second_turn r q word h) turn)

-- an option that waits to be entered is not given yet
waits_first : (n : Name) (v : Text) (given next : Given) (r : List Row) (p : ℕ) (words : List Text) → n ≢ Records → p ≡ place next → Fits given r → AllPass words
    → from (at r (pending n v) p) words ≡ [] → slot n given ≡ None
waits_first n v given next r p words h pe f pass e =
    row_missing n given r f (not_repeated n r (sym (pending_fault n v r h) ∙ settles words next r (pending n v) p pe pass e))

fits_pending : (n : Name) (v : Text) (given : Given) (r : List Row) → n ≢ Records → Fits given r → slot n given ≡ None → Fits (put n v given) (entered r (pending n v))
fits_pending n v given r h f free = subst (Fits (put n v given)) (sym (pending_rows n v r h)) (fits_put n v given r (λ e. absurd (h e)) f free)

-- what is left to say of the words behind a state
abbrev Told : Kind → Given → List Text → List Row → Type 0
Told kind given words rows = TakesAll kind (found_in rows) → Spells kind given words (found_in rows)

abbrev Said : List Text → Type 0
Said words = (kind : Kind) (given : Given) (r : List Row) (q : Option (Text × List Text)) (p : ℕ) → p ≡ place given → Fits given (entered r q) → AllPass words
    → from (at r q p) words ≡ [] → Told kind given words (left (at r q p) words)

abbrev Valued : List Text → Type 0
Valued words = (kind : Kind) (n : Name) (given : Given) (r : List Row) (p : ℕ) → takes_value n ≡ true → p ≡ place given → Fits given r → AllPass words
    → from (within n r p) words ≡ [] → TakesAll kind (found_in (left (within n r p) words))
    → (value : Text) × (rest : List Text) × (words ≡ value ∷ rest) × IsPlain value × (slot n given ≡ None) × Spells kind (put n value given) rest (found_in (left (within n r p) words))

told_one : (kind : Kind) (n : Name) (v word : Text) (rest : List Text) (given : Given) (w next : Walk) → Gives word n v → slot n given ≡ None → walked rules [] w word ≡ next
    → Told kind (put n v given) rest (left next rest) → Told kind given (word ∷ rest) (left w (word ∷ rest))
told_one kind n v word rest given w next gift free walk told t =
    let same : found_in (left w (word ∷ rest)) ≡ found_in (left next rest) = ap (λ x. found_in (left x rest)) walk in
    let all : TakesAll kind (found_in (left next rest)) = subst (TakesAll kind) same t in
    let s = told all in
    subst (Spells kind given (word ∷ rest)) (sym same) (one given (found_in (left next rest)) word v n rest gift (takes_put kind n v given (found_in (left next rest)) rest all s) free s)

-- a use of an option that is not refused is its first
used_first : (n : Name) (given : Given) (r : List Row) (q : Option (Text × List Text)) → Fits given (entered r q) → use_kinds n r q ≡ [] → slot n given ≡ None
used_first n given r q f e =
    let inner = first_none (or_else (settle_fault rules false (held r q)) _) [] e in
    row_missing n given (entered r q) f (not_repeated n (entered r q) (second_none (settle_fault rules false (held r q)) _ inner))

said_word : (word : Text) (rest : List Text) → Said rest → Valued rest → View word → Said (word ∷ rest)
said_word word rest said valued (plain w h) kind given r q p pe f pass e = go given.number refl
  where
    go : (o : Option Text) → given.number ≡ o → Told kind given (w ∷ rest) (left (at r q p) (w ∷ rest))
    go None free =
        let one_at = (number_at p given pe).0 free in
        let turn : turn_fault shape [] (at r q p) w ≡ settle_fault rules false (held r q) = ap (λ x. turn_fault shape [] (at r q x) w) one_at ∙ number_turn r q w h in
        let walk : walked rules [] (at r q p) w ≡ at (entered r q) (pending Number w) 2 = ap (λ x. walked rules [] (at r q x) w) one_at ∙ number_walk r q w h in
        let none = (parts_none (at r q p) _ w rest _ turn walk e).1 in
        told_one kind Number w w rest given (at r q p) (at (entered r q) (pending Number w) 2) (spelling.plain w h) free walk
        (said kind (put Number w given) (entered r q) (pending Number w) 2 refl (fits_pending Number w given (entered r q) (λ x. absurd cc) f free) (rest_passes w rest pass) none)
    go (Some v) taken =
        let turn : turn_fault shape [] (at r q p) w ≡ kinds.UnknownArgument ∷ [] = ap (λ x. turn_fault shape [] (at r q x) w) ((number_at p given pe).1 v taken) ∙ second_turn r q w h in
        absurd (not_both_ways kinds.UnknownArgument _ turn (turn_none (at r q p) w rest e))
said_word word rest said valued (joined n v h) kind given r q p pe f pass e =
    let walk = joined_walk r q p n v h in
    let none = parts_none (at r q p) _ (dashed n ++ 61 ∷ v) rest _ (joined_turn r q p n v h) walk e in
    let free = used_first n given r q f none.0 in
    told_one kind n v (dashed n ++ 61 ∷ v) rest given (at r q p) _ (spelling.joined (dashed n ++ 61 ∷ v) v n h refl) free walk
    (said kind (put n v given) (used (rule n) (values n v) (entered r q)) None p (pe ∙ place_put n v given (not_number n h))
    (fits_put n v given (entered r q) (λ x. absurd (not_records n h x)) f free) (rest_passes _ rest pass) none.1)
said_word word rest said valued flag kind given r q p pe f pass e =
    let walk = flag_walk r q p in
    let none = parts_none (at r q p) _ (dashed Records) rest _ (flag_turn r q p) walk e in
    let free = used_first Records given r q f none.0 in
    told_one kind Records [] (dashed Records) rest given (at r q p) _ (spelling.flag (dashed Records) refl) free walk
    (said kind (put Records [] given) (used (rule Records) [] (entered r q)) None p (pe ∙ place_put Records [] given (λ x. absurd cc))
    (fits_put Records [] given (entered r q) (λ _. refl) f free) (rest_passes _ rest pass) none.1)
said_word word rest said valued (alone n h) kind given r q p pe f pass e = λ t.
    let walk = alone_walk r q p n h in
    let none = parts_none (at r q p) _ (dashed n) rest _ (alone_turn r q p n h) walk e in
    let same : found_in (left (at r q p) (dashed n ∷ rest)) ≡ found_in (left (within n (entered r q) p) rest) = ap (λ x. found_in (left x rest)) walk in
    let all : TakesAll kind (found_in (left (within n (entered r q) p) rest)) = subst (TakesAll kind) same t in
    let v = valued kind n given (entered r q) p h pe f (rest_passes _ rest pass) none.1 all in
    subst (λ ws. Spells kind given (dashed n ∷ ws) (found_in (left (at r q p) (dashed n ∷ rest)))) (sym v.2)
    (subst (Spells kind given (dashed n ∷ v.0 ∷ v.1)) (sym same)
    (two given _ (dashed n) v.0 n v.1 h refl v.3 (takes_put kind n v.0 given _ v.1 all v.5) v.4 v.5))
said_word word rest said valued (refused x xs bad) kind given r q p pe f pass e =
    absurd (bad (held r q) (long_turn (held r q) idle p x xs (turn_none (at r q p) (45 ∷ 45 ∷ x ∷ xs) rest e)))

valued_word : (word : Text) (rest : List Text) → Said rest → Valued (word ∷ rest)
valued_word word rest said kind n given r p h pe f pass e t = by (parts word (first_passes word rest pass))
  where
    by : IsPlain word ⊎ ((x : ℕ) × (xs : Text) × (word ≡ 45 ∷ 45 ∷ x ∷ xs))
        → (value : Text) × (ws : List Text) × (word ∷ rest ≡ value ∷ ws) × IsPlain value × (slot n given ≡ None)
        × Spells kind (put n value given) ws (found_in (left (within n r p) (word ∷ rest)))
    by (inl k) =
        let walk = value_walk n r p word h k in
        let none = (parts_none (within n r p) _ word rest [] (value_turn n r p word k) walk e).1 in
        let same : found_in (left (within n r p) (word ∷ rest)) ≡ found_in (left (at r (pending n word) p) rest) = ap (λ x. found_in (left x rest)) walk in
        let next = pe ∙ place_put n word given (not_number n h) in
        let free = waits_first n word given (put n word given) r p rest (not_records n h) next f (rest_passes word rest pass) none in
        let s = said kind (put n word given) r (pending n word) p next (fits_pending n word given r (not_records n h) f free) (rest_passes word rest pass) none (subst (TakesAll kind) same t) in
        (word, rest, refl, k, free, subst (Spells kind (put n word given) rest) (sym same) s)
    by (inr l) =
        let none = turn_none (within n r p) word rest e in
        let turn : turn_fault shape [] (within n r p) (45 ∷ 45 ∷ l.0 ∷ l.1) ≡ [] = subst (λ w. turn_fault shape [] (within n r p) w ≡ []) l.2 none in
        let settled = held_passes (within n r p).held (option (id_of n)) p l.0 l.1 turn in
        absurd (not_both_ways kinds.InvalidValue _ (valueless n r h) settled)

told : (words : List Text) → Said words × Valued words
told [] = (
  (λ kind given r q p pe f pass e t. subst (Spells kind given []) (sym (fits_found given (entered r q) f)) (done given)),
  (λ kind n given r p h pe f pass e t. absurd (not_both_ways kinds.InvalidValue _ (valueless n r h) (first_none _ _ (sym (from_end (within n r p)) ∙ e)))),
)
told (word ∷ rest) =
    let ih = told rest in (
      (λ kind given r q p pe f pass. said_word word rest ih.0 ih.1 (view word (first_passes word rest pass)) kind given r q p pe f pass),
      valued_word word rest ih.0,
    )

-- where no word is refused, the words spell what clap finds
pub spells_found : (kind : Kind) (words : List Text) → AllPass words → from (at [] None 1) words ≡ [] → TakesAll kind (found_in (left (at [] None 1) words))
    → Spells kind nothing words (found_in (left (at [] None 1) words))
spells_found kind words pass e t = (told words).0 kind nothing [] None 1 refl fits_nothing pass e t

-- ---- what is spelled clap takes

use_none : (n : Name) (given : Given) (r : List Row) (q : Option (Text × List Text)) → Fits given (entered r q) → slot n given ≡ None
    → settle_fault rules false (held r q) ≡ [] → use_kinds n r q ≡ []
use_none n given r q f free e =
    both_none _ [] (both_none (settle_fault rules false (held r q)) _ e (first_time n (entered r q) (row_given n given (entered r q) f ∙ ap is_some free))) refl

pending_none : (n : Name) (v : Text) (given : Given) (r : List Row) → n ≢ Records → Fits given r → slot n given ≡ None → settle_fault rules false (held r (pending n v)) ≡ []
pending_none n v given r h f free = pending_fault n v r h ∙ first_time n r (row_given n given r f ∙ ap is_some free)

-- clap refuses no word, and finds what is spelled
abbrev Reads : Given → List Text → Walk → Type 0
Reads after words w = (from w words ≡ []) × (found_in (left w words) ≡ after)

reads_next : (after : Given) (w next : Walk) (word other : Text) (rest : List Text) (k : Kinds) → word ≡ other → turn_fault shape [] w other ≡ k → k ≡ []
    → walked rules [] w other ≡ next
    → Reads after rest next → Reads after (word ∷ rest) w
reads_next after w next word other rest k same turn none walk h =
    subst (λ x. Reads after (x ∷ rest) w) (sym same)
    (from_word w next other rest k turn walk ∙ both_none k (from next rest) none h.0, ap (λ x. found_in (left x rest)) walk ∙ h.1)

reads : (kind : Kind) (before after : Given) (words : List Text) → Spells kind before words after → (r : List Row) (q : Option (Text × List Text)) (p : ℕ) → p ≡ place before
    → Fits before (entered r q) → settle_fault rules false (held r q) ≡ [] → Reads after words (at r q p)
reads kind before after words (done x) r q p pe f e = (from_end (at r q p) ∙ behind_is (held r q) e, fits_found x (entered r q) f)
reads kind before after words (one b a word v n rest (spelling.joined w u m t d) taken free s) r q p pe f e =
    reads_next a (at r q p) _ w (dashed m ++ 61 ∷ u) rest _ d (joined_turn r q p m u t) (use_none m b r q f free e) (joined_walk r q p m u t)
    (reads kind (put m u b) a rest s (used (rule m) (values m u) (entered r q)) None p (pe ∙ place_put m u b (not_number m t))
    (fits_put m u b (entered r q) (λ x. absurd (not_records m t x)) f free) refl)
reads kind before after words (one b a word v n rest (spelling.flag w d) taken free s) r q p pe f e =
    reads_next a (at r q p) _ w (dashed Records) rest _ d (flag_turn r q p) (use_none Records b r q f free e) (flag_walk r q p)
    (reads kind (put Records [] b) a rest s (used (rule Records) [] (entered r q)) None p (pe ∙ place_put Records [] b (λ x. absurd cc))
    (fits_put Records [] b (entered r q) (λ _. refl) f free) refl)
reads kind before after words (one b a word v n rest (spelling.plain w h) taken free s) r q p pe f e =
    let one_at = (number_at p b pe).0 free in
    let turn : turn_fault shape [] (at r q p) w ≡ settle_fault rules false (held r q) = ap (λ x. turn_fault shape [] (at r q x) w) one_at ∙ number_turn r q w h in
    let walk : walked rules [] (at r q p) w ≡ at (entered r q) (pending Number w) 2 = ap (λ x. walked rules [] (at r q x) w) one_at ∙ number_walk r q w h in
    reads_next a (at r q p) (at (entered r q) (pending Number w) 2) w w rest _ refl turn e walk
    (reads kind (put Number w b) a rest s (entered r q) (pending Number w) 2 refl (fits_pending Number w b (entered r q) (λ x. absurd cc) f free)
    (pending_none Number w b (entered r q) (λ x. absurd cc) f free))
reads kind before after words (two b a word v n rest t d h taken free s) r q p pe f e =
    reads_next a (at r q p) _ word (dashed n) (v ∷ rest) _ d (alone_turn r q p n t) (both_none _ [] e refl) (alone_walk r q p n t)
    (reads_next a (within n (entered r q) p) _ v v rest [] refl (value_turn n (entered r q) p v h) refl (value_walk n (entered r q) p v t h)
    (reads kind (put n v b) a rest s (entered r q) (pending n v) p (pe ∙ place_put n v b (not_number n t)) (fits_pending n v b (entered r q) (not_records n t) f free)
    (pending_none n v b (entered r q) (not_records n t) f free)))

pub found_spelled : (kind : Kind) (words : List Text) (given : Given) → Spells kind nothing words given
    → (from (at [] None 1) words ≡ []) × (found_in (left (at [] None 1) words) ≡ given)
found_spelled kind words given s = reads kind nothing given words s [] None 1 refl fits_nothing refl

pub all_spelled : (kind : Kind) (before after : Given) (words : List Text) → Spells kind before words after → AllPass words
all_spelled kind before after words (done x) = λ k d lt. absurd (omega arith)
all_spelled kind before after words (one b a word v n rest g taken free s) = all_pass word rest (gift_passes word n v g) (all_spelled kind (put n v b) a rest s)
all_spelled kind before after words (two b a word v n rest t d h taken free s) =
    all_pass word (v ∷ rest) (subst (λ x. ¬ IsLetThrough x) (sym d) (alone_passes n t)) (all_pass v rest (plain_passes v h) (all_spelled kind (put n v b) a rest s))

takes_given : (kind : Kind) (before after : Given) (words : List Text) → Spells kind before words after → TakesAll kind before → TakesAll kind after
takes_given kind before after words (done x) h = h
takes_given kind before after words (one b a word v n rest g taken free s) h = takes_given kind (put n v b) a rest s (takes_all_put kind n v b taken h)
takes_given kind before after words (two b a word v n rest t d p taken free s) h = takes_given kind (put n v b) a rest s (takes_all_put kind n v b taken h)

takes_nothing : (kind : Kind) → TakesAll kind nothing
takes_nothing kind n = by n
  where
    by : (n : Name) → is_some (slot n nothing) ≡ true → takes kind n ≡ true
    by Workers e = absurd cc
    by Lives e = absurd cc
    by Records e = absurd cc
    by Schedule e = absurd cc
    by Turns e = absurd cc
    by Number e = absurd cc

pub takes_spelled : (kind : Kind) (words : List Text) (given : Given) → Spells kind nothing words given → TakesAll kind given
takes_spelled kind words given s = takes_given kind nothing given words s (takes_nothing kind)
