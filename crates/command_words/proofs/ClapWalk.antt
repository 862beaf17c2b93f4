-- clap's walk over the words behind the first one, and what they spell.
use Rattle.std.proofs.Common.{◌≡◌, ◌≢◌, ◌∙◌, ℕ, Bool, cond, true, false, zero, suc, List, [], ◌∷◌, map, Some, None, refl, sym, ap, subst, arith, is_some}
use Rattle.std.specs.Prelude.{All, fold}
use Rattle.std.specs.Str.{bytes_eq}
use Rattle.std.proofs.lemmas.Slice.Eq.{bytes_eq-Decides}
use Rattle.clap.specs.Walk.{Held, Row, Walk, finished, settled, walked, with_default}
use Rattle.clap.specs.Faults.{check_fault, default_fault, defaults_fault, settle_fault, turn_fault, walk_fault}
use Rattle.clap.specs.Kinds.{Kinds, or_else}
use Rattle.command_words.specs.Options.{Text, takes, takes_value}
use Rattle.command_words.specs.Given.{Given, put, slot}
use Rattle.command_words.specs.Spelling.{Spells, done, one, two}
use Rattle.command_words.specs.ByClap.{TakesAll}
use Rattle.command_words.specs.Spelling.{IsLetThrough}
use Rattle.command_words.specs.declared.options.Kind.{Kind}
use Rattle.command_words.specs.declared.options.Name.{Name}
use Rattle.command_words.specs.declared.options.Name.TheVariants.{Workers, Lives, Records, Schedule, Turns, Number}
use Rattle.command_words.proofs.ClapTable.{default_none, first_none, id_of, rule, rules, second_none, shape}
use Rattle.command_words.proofs.ClapRows.{same_name, slot_put}

-- ---- the faults of the words from a state on, and the rows that they leave

abbrev pub behind : Held → Kinds
behind end = or_else (settle_fault rules false end) (or_else (defaults_fault (settled rules end).rows rules) (check_fault shape (finished rules end) false))

abbrev pub from : Walk → List Text → Kinds
from w words = or_else (walk_fault shape [] w words) (behind (fold (walked rules []) w words).held)

abbrev pub left : Walk → List Text → List Row
left w words = finished rules (fold (walked rules []) w words).held

or_assoc : (a b c : Kinds) → or_else (or_else a b) c ≡ or_else a (or_else b c)
or_assoc [] b c = refl
or_assoc (k ∷ ks) b c = refl

pub both_none : (a b : Kinds) → a ≡ [] → b ≡ [] → or_else a b ≡ []
both_none a b x y = ap (λ k. or_else k b) x ∙ y

from_next : (w : Walk) (word : Text) (rest : List Text) → from w (word ∷ rest) ≡ or_else (turn_fault shape [] w word) (from (walked rules [] w word) rest)
unfolding walk_fault
from_next w word rest = or_assoc (turn_fault shape [] w word) (walk_fault shape [] (walked rules [] w word) rest) (behind (fold (walked rules []) (walked rules [] w word) rest).held)

defaults_none : (names : List Name) (rows : List Row) → defaults_fault rows (map rule names) ≡ []
unfolding defaults_fault
defaults_none [] rows = refl
defaults_none (n ∷ ns) rows =
    both_none (default_fault rows (rule n)) (defaults_fault (with_default rows (rule n)) (map rule ns)) (default_none n rows) (defaults_none ns (with_default rows (rule n)))

pub behind_is : (h : Held) → settle_fault rules false h ≡ [] → behind h ≡ []
behind_is h e = both_none _ _ e (both_none _ _ (defaults_none (Workers ∷ Lives ∷ Records ∷ Schedule ∷ Turns ∷ Number ∷ []) (settled rules h).rows) refl)

pub from_end : (w : Walk) → from w [] ≡ behind w.held
unfolding walk_fault
from_end w = refl

-- a word whose turn and whose state are known
pub from_word : (w next : Walk) (word : Text) (rest : List Text) (k : Kinds) → turn_fault shape [] w word ≡ k → walked rules [] w word ≡ next
    → from w (word ∷ rest) ≡ or_else k (from next rest)
from_word w next word rest k turn walk = from_next w word rest ∙ ap (λ x. or_else x (from (walked rules [] w word) rest)) turn ∙ ap (λ x. or_else k (from x rest)) walk

-- where no word is refused, its turn brings no fault and neither do those behind it
pub parts_none : (w next : Walk) (word : Text) (rest : List Text) (k : Kinds) → turn_fault shape [] w word ≡ k → walked rules [] w word ≡ next → from w (word ∷ rest) ≡ []
    → (k ≡ []) × (from next rest ≡ [])
parts_none w next word rest k turn walk e =
    let both = sym (from_word w next word rest k turn walk) ∙ e in
    (first_none k (from next rest) both, second_none k (from next rest) both)

pub turn_none : (w : Walk) (word : Text) (rest : List Text) → from w (word ∷ rest) ≡ [] → turn_fault shape [] w word ≡ []
turn_none w word rest e = (parts_none w (walked rules [] w word) word rest (turn_fault shape [] w word) refl refl e).0

-- where clap stands among the positional words
abbrev pub place : Given → ℕ
place given = cond (is_some given.number) 2 1

pub place_put : (n : Name) (v : Text) (given : Given) → n ≢ Number → place given ≡ place (put n v given)
place_put Workers v given h = refl
place_put Lives v given h = refl
place_put Records v given h = refl
place_put Schedule v given h = refl
place_put Turns v given h = refl
place_put Number v given h = absurd (h refl)

pub not_number : (n : Name) → takes_value n ≡ true → n ≢ Number
not_number n t e = let bad : false ≡ true = subst (λ m. takes_value m ≡ true) e t in absurd cc

pub not_records : (n : Name) → takes_value n ≡ true → n ≢ Records
not_records n t e = let bad : false ≡ true = subst (λ m. takes_value m ≡ true) e t in absurd cc

-- ---- own checks

abbrev pub AllPass : List Text → Type 0
AllPass words = All (λ word. ¬ IsLetThrough word) words

pub first_passes : (word : Text) (rest : List Text) → AllPass (word ∷ rest) → ¬ IsLetThrough word
first_passes word rest h = h 0 word (omega arith)

pub rest_passes : (word : Text) (rest : List Text) → AllPass (word ∷ rest) → AllPass rest
rest_passes word rest h k d lt = h (suc k) d (omega arith)

pub all_pass : (word : Text) (rest : List Text) → ¬ IsLetThrough word → AllPass rest → AllPass (word ∷ rest)
all_pass word rest h t zero d lt = h
all_pass word rest h t (suc k) d lt = t k d (omega arith)

-- ---- what is spelled stays

slot_own : (n : Name) (v : Text) (given : Given) → slot n (put n v given) ≡ Some v
slot_own n v given = slot_put n n v given ∙ ap (λ b. cond b (Some v) (slot n given)) ((bytes_eq-Decides (id_of n) (id_of n)).1 refl)

slot_stays : (m n : Name) (x v : Text) (given : Given) → slot m given ≡ None → slot n given ≡ Some v → slot n (put m x given) ≡ Some v
slot_stays m n x v given free e = slot_put m n x given ∙ by (bytes_eq (id_of m) (id_of n)) refl
  where
    by : (b : Bool) → bytes_eq (id_of m) (id_of n) ≡ b → cond b (Some x) (slot n given) ≡ Some v
    by true same = let gone : slot n given ≡ None = subst (λ k. slot k given ≡ None) (same_name m n same) free in absurd cc
    by false other = e

stays : (kind : Kind) (before after : Given) (words : List Text) (n : Name) (v : Text) → Spells kind before words after → slot n before ≡ Some v → slot n after ≡ Some v
stays kind before after words n v (done x) e = e
stays kind before after words n v (one b a w u m r gift taken free s) e = stays kind (put m u b) a r n v s (slot_stays m n u v b free e)
stays kind before after words n v (two b a w u m r t d p taken free s) e = stays kind (put m u b) a r n v s (slot_stays m n u v b free e)

pub takes_put : (kind : Kind) (n : Name) (v : Text) (given after : Given) (rest : List Text) → TakesAll kind after → Spells kind (put n v given) rest after → takes kind n ≡ true
takes_put kind n v given after rest h s = h n (ap is_some (stays kind (put n v given) after rest n v s (slot_own n v given)))

pub takes_all_put : (kind : Kind) (n : Name) (v : Text) (given : Given) → takes kind n ≡ true → TakesAll kind given → TakesAll kind (put n v given)
takes_all_put kind n v given taken h m e = by (bytes_eq (id_of n) (id_of m)) refl (sym (ap is_some (slot_put n m v given)) ∙ e)
  where
    by : (b : Bool) → bytes_eq (id_of n) (id_of m) ≡ b → is_some (cond b (Some v) (slot m given)) ≡ true → takes kind m ≡ true
    by true same e = subst (λ k. takes kind k ≡ true) (same_name n m same) taken
    by false other e = h m e
