-- Words stand for one command at most.
use Rattle.std.proofs.Common.{◌≡◌, ◌∙◌, ℕ, List, ◌∷◌, Option, Some, None, MatchOption, codes, refl, sym, ap, subst, arith}
use Rattle.std.specs.Prelude.{All, if◌then◌else◌}
use Rattle.std.specs.Str.{bytes_eq}
use Rattle.command_words.specs.Options.{Text, name_of}
use Rattle.command_words.specs.Given.{Given, nothing}
use Rattle.command_words.specs.Spelling.{Spells, IsFree, IsPlain, IsReserved}
use Rattle.command_words.specs.Numbers.{IsNumber, HasValue, HasSchedule}
use Rattle.command_words.specs.Meaning.{Asked, run, replay, paths, drill, check, print, asked, kind_of, HasValues, StandsFor, StandsForNone}
use Rattle.command_words.specs.Building.{Builds}
use Rattle.command_words.specs.declared.options.Kind.{Kind}
use Rattle.command_words.specs.declared.options.Kind.TheVariants.{Run, Replay, Paths, Drill, Check, Print}
use Rattle.command_words.specs.declared.command.Command.{Command}
use Rattle.command_words.proofs.ListLaws.{one_number, one_list}
use Rattle.command_words.proofs.ClapWords.{plain_passes}
use Rattle.command_words.proofs.ClapWalk.{AllPass, all_pass, rest_passes}
use Rattle.command_words.proofs.ClapLaws.{clap_law}

abbrev kind_at : Text → Option Kind
kind_at t = if bytes_eq t (codes "run") then Some Run else (if bytes_eq t (codes "replay") then Some Replay else (if bytes_eq t (codes "paths") then Some Paths
    else (if bytes_eq t (codes "drill") then Some Drill else (if bytes_eq t (codes "check") then Some Check else (if bytes_eq t (codes "print") then Some Print else None)))))

named : (kind : Kind) → kind_at (name_of kind) ≡ Some kind
named Run = refl
named Replay = refl
named Paths = refl
named Drill = refl
named Check = refl
named Print = refl

-- a first word names one command
pub one_kind : (k l : Kind) → name_of k ≡ name_of l → k ≡ l
one_kind k l e = let a = named k in let b = named l in let c : kind_at (name_of k) ≡ kind_at (name_of l) = ap kind_at e in cc

-- words give one thing, which clap finds
pub one_given : (kind : Kind) (words : List Text) (g h : Given) → Spells kind nothing words g → Spells kind nothing words h → g ≡ h
one_given kind words g h s t = sym ((clap_law kind words g).0 s).found ∙ ((clap_law kind words h).0 t).found

-- what a command is, in terms of a first word and what is given
meant : (words rest : List Text) (kind : Kind) (given : Given) (command : Asked) → words ≡ name_of kind ∷ rest → Spells kind nothing rest given
    → StandsFor words command → (kind_of command ≡ kind) × HasValues given command
meant words rest kind given command first spelled s =
    let other = s.first in
    let names : name_of (kind_of command) ≡ name_of kind = cc in
    let behind : s.rest ≡ rest = cc in
    let kinds = one_kind (kind_of command) kind names in
    let same : s.given ≡ given = one_given kind rest s.given given (subst (λ r. Spells kind nothing r s.given) behind (subst (λ k. Spells k nothing s.rest s.given) kinds s.spelled)) spelled in
    (kinds, subst (λ g. HasValues g command) same s.values)

-- ---- own checks

plain_name : (kind : Kind) → IsPlain (name_of kind)
plain_name Run e = absurd (omega arith)
plain_name Replay e = absurd (omega arith)
plain_name Paths e = absurd (omega arith)
plain_name Drill e = absurd (omega arith)
plain_name Check e = absurd (omega arith)
plain_name Print e = absurd (omega arith)

-- words that stand for a command pass them
pub all_free : (words : List Text) (command : Asked) → StandsFor words command → All IsFree words
all_free words command s k d lt = (s.free k d lt, passed k d lt)
  where
    passed : AllPass words
    passed = subst AllPass (sym s.first)
        (all_pass (name_of (kind_of command)) s.rest (plain_passes (name_of (kind_of command)) (plain_name (kind_of command))) ((clap_law (kind_of command) s.rest s.given).0 s.spelled).passed)

-- and so do those behind the first one
pub rest_free : (words rest : List Text) (word : Text) → words ≡ word ∷ rest → All IsFree words → AllPass rest
rest_free words rest word e h = rest_passes word rest (λ k d lt. (subst (All IsFree) e h k d lt).1)

pub none_reserved : (words : List Text) → All IsFree words → All (λ word. ¬ IsReserved word) words
none_reserved words h k d lt = (h k d lt).0

-- the command that is built is the one that the words stand for
pub built_meaning : (words rest : List Text) (kind : Kind) (given : Given) (found : Option Command)
    → All (λ word. ¬ IsReserved word) words → words ≡ name_of kind ∷ rest → Spells kind nothing rest given → Builds kind given found
    → MatchOption found (StandsForNone words) (λ command. StandsFor words (asked command))
built_meaning words rest kind given None free first spelled h = λ command s.
    let m = meant words rest kind given command first spelled s in
    h command m.0 m.1
built_meaning words rest kind given (Some command) free first spelled h = record {
  rest = rest;
  given = given;
  free = free;
  first = first ∙ ap (λ k. name_of k ∷ rest) (sym h.0);
  spelled = subst (λ k. Spells k nothing rest given) (sym h.0) spelled;
  values = h.1;
}

one_value : (least most default : ℕ) (slot : Option Text) (n m : ℕ) → HasValue least most default slot n → HasValue least most default slot m → n ≡ m
one_value least most default None n m h k = h ∙ sym k
one_value least most default (Some t) n m h k = one_number least most t n m h k

one_schedule : (workers : ℕ) (slot : Option Text) (ns ms : List ℕ) → HasSchedule workers slot ns → HasSchedule workers slot ms → ns ≡ ms
one_schedule workers None ns ms h k = h ∙ sym k
one_schedule workers (Some t) ns ms h k = one_list _ t ns ms h.listed k.listed

-- what is given has the values of one command of a kind
one_asked : (given : Given) (c d : Asked) → kind_of c ≡ kind_of d → HasValues given c → HasValues given d → c ≡ d
one_asked given (run w l r) (run v k q) e h i = let a = one_value 1 64 4 given.workers w v h.0 i.0 in let b = one_value 1 65535 65535 given.lives l k h.1 i.1 in let x = h.2 in let y = i.2 in cc
one_asked given (replay w l r s t) (replay v k q u z) e h i =
    let a = one_value 1 64 1 given.workers w v h.0 i.0 in
    let b = one_value 1 65535 65535 given.lives l k h.1 i.1 in
    let x = h.2 in
    let y = i.2 in
    let lists : s ≡ u = one_schedule v given.schedule s u (subst (λ n. HasSchedule n given.schedule s) a h.3) i.3 in
    let times : t ≡ z = one_time given.turns t z (h.4) (i.4) in
    cc
  where
    given_turns : Option Text → Option ℕ → Type 0
    given_turns slot (Some n) = MatchOption slot ⊥ (λ text. IsNumber 0 100000000 text n)
    given_turns slot None = slot ≡ None

    one_time : (slot : Option Text) (t z : Option ℕ) → given_turns slot t → given_turns slot z → t ≡ z
    one_time None None None h i = refl
    one_time None (Some n) z h i = absurd h
    one_time None None (Some m) h i = absurd i
    one_time (Some x) None z h i = absurd cc
    one_time (Some x) (Some n) None h i = absurd cc
    one_time (Some x) (Some n) (Some m) h i = ap (λ y. Some y) (one_number 0 100000000 x n m h i)
one_asked given (paths w l) (paths v k) e h i = let a = one_value 1 64 4 given.workers w v h.0 i.0 in let b = one_value 1 65535 65535 given.lives l k h.1 i.1 in cc
one_asked given (drill n w) (drill m v) e h i = let a = one_drilled given.number n m h.0 i.0 in let b = one_value 1 64 4 given.workers w v h.1 i.1 in cc
  where
    one_drilled : (slot : Option Text) (n m : ℕ) → MatchOption slot ⊥ (λ text. IsNumber 0 4294967295 text n) → MatchOption slot ⊥ (λ text. IsNumber 0 4294967295 text m) → n ≡ m
    one_drilled None n m h i = absurd h
    one_drilled (Some t) n m h i = one_number 0 4294967295 t n m h i
one_asked given check check e h i = refl
one_asked given print print e h i = refl
one_asked given c d e h i = absurd cc

-- words stand for one command at most
pub one_command : (words : List Text) (c d : Asked) → StandsFor words c → StandsFor words d → c ≡ d
one_command words c d s t =
    let m = meant words s.rest (kind_of c) s.given d s.first s.spelled t in
    one_asked s.given c d (sym m.0) s.values m.1
