-- The rows that clap keeps, one for each option that was given.
use Rattle.std.proofs.Common.{◌≡◌, ◌≢◌, ◌∙◌, Bool, cond, true, false, List, [], ◌∷◌, ◌++◌, Option, Some, None, codes, refl, sym, ap, is_some, option_map, append-nil}
use Rattle.std.specs.Prelude.{◌||◌, find, fold, if◌then◌else◌, option_and_then, slice_get}
use Rattle.std.specs.Option.{option_or}
use Rattle.std.specs.Str.{bytes_eq}
use Rattle.std.proofs.lemmas.List.Folds.{find-append}
use Rattle.std.proofs.lemmas.Slice.Eq.{bytes_eq-Decides}
use Rattle.clap.specs.Walk.{Row, all_of, at_row, default_rows, first_of, has_row, more_values, reading_by, used, with_default, with_values, without}
use Rattle.clap.specs.declared.parser.matches.ValueSource.TheVariants.{CommandLine, DefaultValue}
use Rattle.command_words.specs.Options.{Text}
use Rattle.command_words.specs.Given.{Given, nothing, put, slot}
use Rattle.command_words.specs.ByClap.{flag_text, found_in}
use Rattle.command_words.specs.declared.options.Name.{Name}
use Rattle.command_words.specs.declared.options.Name.TheVariants.{Workers, Lives, Records, Schedule, Turns, Number}
use Rattle.command_words.proofs.ClapTable.{id_of, rule, rules, values}

-- ---- an option put in among what is given

abbrev given_of : (Name → Option Text) → Given
given_of f = record { workers = f Workers; lives = f Lives; records = f Records; schedule = f Schedule; turns = f Turns; number = f Number }

slot_of : (f : Name → Option Text) (m : Name) → slot m (given_of f) ≡ f m
slot_of f Workers = refl
slot_of f Lives = refl
slot_of f Records = refl
slot_of f Schedule = refl
slot_of f Turns = refl
slot_of f Number = refl

put_is : (n : Name) (v : Text) (given : Given) → put n v given ≡ given_of (λ m. if bytes_eq (id_of n) (id_of m) then Some v else slot m given)
put_is Workers v given = refl
put_is Lives v given = refl
put_is Records v given = refl
put_is Schedule v given = refl
put_is Turns v given = refl
put_is Number v given = refl

pub slot_put : (n m : Name) (v : Text) (given : Given) → slot m (put n v given) ≡ (if bytes_eq (id_of n) (id_of m) then Some v else slot m given)
slot_put n m v given = ap (slot m) (put_is n v given) ∙ slot_of (λ k. if bytes_eq (id_of n) (id_of k) then Some v else slot k given) m

abbrev name_at : Text → Option Name
name_at t = if bytes_eq t (codes "workers") then Some Workers else (if bytes_eq t (codes "lives") then Some Lives else (if bytes_eq t (codes "records") then Some Records
    else (if bytes_eq t (codes "schedule") then Some Schedule else (if bytes_eq t (codes "turns") then Some Turns else Some Number))))

named : (n : Name) → name_at (id_of n) ≡ Some n
named Workers = refl
named Lives = refl
named Records = refl
named Schedule = refl
named Turns = refl
named Number = refl

-- two options with one name are one
pub same_name : (n m : Name) → bytes_eq (id_of n) (id_of m) ≡ true → n ≡ m
same_name n m e =
    let ids : id_of n ≡ id_of m = (bytes_eq-Decides (id_of n) (id_of m)).0 e in
    let a = named n in
    let b = named m in
    let c : name_at (id_of n) ≡ name_at (id_of m) = ap name_at ids in
    cc

-- ---- rows

has_row_is : (id : Text) (rows : List Row) → has_row id rows ≡ is_some (all_of id rows)
has_row_is id [] = refl
has_row_is id (x ∷ xs) = by (bytes_eq x.id id) (has_row_is id xs)
  where
    by : (b : Bool) → has_row id xs ≡ is_some (all_of id xs) → (b || has_row id xs) ≡ is_some (option_map (λ r. r.values) (cond b (Some x) (find (λ r. bytes_eq r.id id) xs)))
    by true e = refl
    by false e = e

absent : (id : Text) (f : Row → List Row) (missing rows : List Row) → has_row id rows ≡ false → at_row id f missing rows ≡ rows ++ missing
absent id f missing [] e = refl
absent id f missing (x ∷ xs) e = by (bytes_eq x.id id) (absent id f missing xs) e
  where
    by : (b : Bool) → (has_row id xs ≡ false → at_row id f missing xs ≡ xs ++ missing) → (b || has_row id xs) ≡ false
        → cond b (f x ++ xs) (x ∷ at_row id f missing xs) ≡ x ∷ (xs ++ missing)
    by true ih e = absurd cc
    by false ih e = ap (λ l. x ∷ l) (ih e)

-- one more row behind those that lack its name
all_of_push : (id : Text) (rows : List Row) (x : Row) → has_row x.id rows ≡ false
    → all_of id (rows ++ x ∷ []) ≡ (if bytes_eq x.id id then Some x.values else all_of id rows)
all_of_push id rows x none =
    ap (option_map (λ (r : Row). r.values)) (find-append (λ r. bytes_eq r.id id) rows (x ∷ []))
    ∙ by (bytes_eq x.id id) refl (find (λ r. bytes_eq r.id id) rows) refl
  where
    missing : (o : Option Row) → o ≡ find (λ r. bytes_eq r.id id) rows → bytes_eq x.id id ≡ true → o ≡ None
    missing None f e = refl
    missing (Some y) f e =
        let same : x.id ≡ id = (bytes_eq-Decides x.id id).0 e in
        let none_here : is_some (all_of id rows) ≡ false = sym (has_row_is id rows) ∙ ap (λ t. has_row t rows) (sym same) ∙ none in
        let here : true ≡ false = ap (λ z. is_some (option_map (λ (r : Row). r.values) z)) f ∙ none_here in
        absurd cc

    by : (b : Bool) → bytes_eq x.id id ≡ b → (o : Option Row) → o ≡ find (λ r. bytes_eq r.id id) rows
        → option_map (λ (r : Row). r.values) (option_or o (cond b (Some x) None)) ≡ cond b (Some x.values) (option_map (λ r. r.values) o)
    by true e o f = rw (missing o f e) refl
    by false e None f = refl
    by false e (Some y) f = refl

-- ---- rows that hold what is given

-- the text that clap keeps for an option
abbrev shown : Name → Text → Text
shown Records v = codes "true"
shown n v = v

abbrev kept : Name → Given → Option (List Text)
kept n given = option_map (λ v. shown n v ∷ []) (slot n given)

pub record Fits (given : Given) (rows : List Row) : Type 0 where
  pub holds : (n : Name) → all_of (id_of n) rows ≡ kept n given
  pub flag : given.records ≡ option_map (λ _. []) given.records

pub fits_nothing : Fits nothing []
fits_nothing = record { holds = λ n. by n; flag = refl }
  where
    by : (n : Name) → None ≡ kept n nothing
    by Workers = refl
    by Lives = refl
    by Records = refl
    by Schedule = refl
    by Turns = refl
    by Number = refl

no_slot : (o : Option Text) → is_some o ≡ false → o ≡ None
no_slot None e = refl
no_slot (Some v) e = absurd cc

-- an option has a row where it is given
pub row_given : (n : Name) (given : Given) (rows : List Row) → Fits given rows → has_row (id_of n) rows ≡ is_some (slot n given)
row_given n given rows f = has_row_is (id_of n) rows ∙ ap is_some (f.holds n) ∙ by (slot n given)
  where
    by : (o : Option Text) → is_some (option_map (λ v. shown n v ∷ []) o) ≡ is_some o
    by None = refl
    by (Some v) = refl

pub row_missing : (n : Name) (given : Given) (rows : List Row) → Fits given rows → has_row (id_of n) rows ≡ false → slot n given ≡ None
row_missing n given rows f e = no_slot (slot n given) (sym (row_given n given rows f) ∙ e)

abbrev row_for : Name → Text → Row
row_for n v = record { id = id_of n; values = shown n v ∷ []; count = None; source = Some CommandLine; reading = reading_by (rule n) }

used_is : (n : Name) (v : Text) (rows : List Row) → used (rule n) (values n v) rows ≡ with_values (id_of n) (reading_by (rule n)) CommandLine (shown n v ∷ []) (without (id_of n) rows)
used_is Workers v rows = refl
used_is Lives v rows = refl
used_is Records v rows = refl
used_is Schedule v rows = refl
used_is Turns v rows = refl
used_is Number v rows = refl

used_push : (n : Name) (v : Text) (rows : List Row) → has_row (id_of n) rows ≡ false → used (rule n) (values n v) rows ≡ rows ++ row_for n v ∷ []
used_push n v rows none =
    let same : without (id_of n) rows ≡ rows = absent (id_of n) (λ _. []) [] rows none ∙ append-nil rows in
    used_is n v rows ∙ ap (with_values (id_of n) (reading_by (rule n)) CommandLine (shown n v ∷ [])) same
    ∙ absent (id_of n) (more_values CommandLine (shown n v ∷ [])) (row_for n v ∷ []) rows none

-- what is kept once an option is put in
kept_put : (n m : Name) (v : Text) (given : Given) → (if bytes_eq (id_of n) (id_of m) then Some (shown n v ∷ []) else kept m given) ≡ kept m (put n v given)
kept_put n m v given = by (bytes_eq (id_of n) (id_of m)) refl ∙ ap (option_map (λ t. shown m t ∷ [])) (sym (slot_put n m v given))
  where
    by : (b : Bool) → bytes_eq (id_of n) (id_of m) ≡ b
        → (if b then Some (shown n v ∷ []) else kept m given) ≡ option_map (λ t. shown m t ∷ []) (if b then Some v else slot m given)
    by true e = ap (λ k. Some (shown k v ∷ [])) (same_name n m e)
    by false e = refl

flag_put : (n : Name) (v : Text) (given : Given) → (n ≡ Records → v ≡ []) → given.records ≡ option_map (λ _. []) given.records
    → (put n v given).records ≡ option_map (λ _. []) (put n v given).records
flag_put Workers v given h e = e
flag_put Lives v given h e = e
flag_put Records v given h e = ap Some (h refl)
flag_put Schedule v given h e = e
flag_put Turns v given h e = e
flag_put Number v given h e = e

-- the rows once an option is entered for the first time
pub fits_put : (n : Name) (v : Text) (given : Given) (rows : List Row) → (n ≡ Records → v ≡ []) → Fits given rows → slot n given ≡ None
    → Fits (put n v given) (used (rule n) (values n v) rows)
fits_put n v given rows h f free = record {
  holds = λ m. ap (all_of (id_of m)) (used_push n v rows none) ∙ all_of_push (id_of m) rows (row_for n v) none
      ∙ ap (λ o. if bytes_eq (id_of n) (id_of m) then Some (shown n v ∷ []) else o) (f.holds m) ∙ kept_put n m v given;
  flag = flag_put n v given h f.flag;
}
  where
    none : has_row (id_of n) rows ≡ false
    none = row_given n given rows f ∙ ap is_some free

-- ---- the rows in the end, where an option without value that was not given is `false`

unchanged : (n : Name) (rows : List Row) → n ≢ Records → with_default rows (rule n) ≡ rows
unchanged n rows h = by n (has_row (rule n).id rows) h
  where
    same : (b : Bool) → (if b then rows else rows) ≡ rows
    same true = refl
    same false = refl

    by : (n : Name) (b : Bool) → n ≢ Records → (if b then rows else default_rows (rule n).id (reading_by (rule n)) (rule n).defaults rows) ≡ rows
    by Workers b h = same b
    by Lives b h = same b
    by Records b h = absurd (h refl)
    by Schedule b h = same b
    by Turns b h = same b
    by Number b h = same b

finished_rows : (rows : List Row) → fold with_default rows rules ≡ with_default rows (rule Records)
finished_rows rows =
    unchanged Number _ (λ e. absurd cc) ∙ unchanged Turns _ (λ e. absurd cc) ∙ unchanged Schedule _ (λ e. absurd cc)
    ∙ ap (λ x. with_default x (rule Records)) (unchanged Lives _ (λ e. absurd cc) ∙ unchanged Workers rows (λ e. absurd cc))

abbrev first : Option (List Text) → Option Text
first = option_and_then (λ vs. slice_get vs 0)

first_is : (id : Text) (rows : List Row) → first_of id rows ≡ first (all_of id rows)
first_is id rows = by (find (λ r. bytes_eq r.id id) rows)
  where
    by : (o : Option Row) → option_and_then (λ (r : Row). slice_get r.values 0) o ≡ first (option_map (λ r. r.values) o)
    by None = refl
    by (Some r) = refl

first_kept : (n : Name) (given : Given) → n ≢ Records → first (kept n given) ≡ slot n given
first_kept n given h = by n (slot n given) h
  where
    by : (n : Name) (o : Option Text) → n ≢ Records → first (option_map (λ v. shown n v ∷ []) o) ≡ o
    by n None h = refl
    by Workers (Some v) h = refl
    by Lives (Some v) h = refl
    by Records (Some v) h = absurd (h refl)
    by Schedule (Some v) h = refl
    by Turns (Some v) h = refl
    by Number (Some v) h = refl

flag_kept : (given : Given) → given.records ≡ option_map (λ _. []) given.records → flag_text (first (kept Records given)) ≡ given.records
flag_kept given h = by given.records h
  where
    by : (o : Option Text) → o ≡ option_map (λ _. []) o → flag_text (first (option_map (λ v. codes "true" ∷ []) o)) ≡ o
    by None e = refl
    by (Some v) e = sym e

found_by : (given : Given) (rows : List Row) → ((n : Name) → n ≢ Records → first_of (id_of n) rows ≡ slot n given)
    → flag_text (first_of (codes "records") rows) ≡ given.records → found_in rows ≡ given
found_by given rows h f = λ i. record {
  workers = h Workers (λ e. absurd cc) i;
  lives = h Lives (λ e. absurd cc) i;
  records = f i;
  schedule = h Schedule (λ e. absurd cc) i;
  turns = h Turns (λ e. absurd cc) i;
  number = h Number (λ e. absurd cc) i;
}

abbrev default_row : Row
default_row = record { id = codes "records"; values = codes "false" ∷ []; count = None; source = Some DefaultValue; reading = reading_by (rule Records) }

-- what clap finds in them is what is given
pub fits_found : (given : Given) (rows : List Row) → Fits given rows → found_in (fold with_default rows rules) ≡ given
fits_found given rows f = ap found_in (finished_rows rows) ∙ by (has_row (codes "records") rows) refl
  where
    by : (b : Bool) → has_row (codes "records") rows ≡ b
        → found_in (if b then rows else with_values (codes "records") (reading_by (rule Records)) DefaultValue (codes "false" ∷ []) rows) ≡ given
    by true e = found_by given rows (λ n h. first_is (id_of n) rows ∙ ap first (f.holds n) ∙ first_kept n given h)
        (ap flag_text (first_is (codes "records") rows ∙ ap first (f.holds Records)) ∙ flag_kept given f.flag)
    by false e =
        let push = absent (codes "records") (more_values DefaultValue (codes "false" ∷ [])) (default_row ∷ []) rows e in
        let all = λ (id : Text). all_of_push id rows default_row e in
        let none : given.records ≡ None = no_slot given.records (sym (row_given Records given rows f) ∙ e) in
        ap found_in push ∙ found_by given (rows ++ default_row ∷ [])
        (λ n h. first_is (id_of n) (rows ++ default_row ∷ []) ∙ ap first (all (id_of n) ∙ other n h ∙ f.holds n) ∙ first_kept n given h)
        (ap flag_text (first_is (codes "records") (rows ++ default_row ∷ []) ∙ ap first (all (codes "records"))) ∙ sym none)
      where
        other : (n : Name) → n ≢ Records → (if bytes_eq (codes "records") (id_of n) then Some (codes "false" ∷ []) else all_of (id_of n) rows) ≡ all_of (id_of n) rows
        other Workers h = refl
        other Lives h = refl
        other Records h = absurd (h refl)
        other Schedule h = refl
        other Turns h = refl
        other Number h = refl
