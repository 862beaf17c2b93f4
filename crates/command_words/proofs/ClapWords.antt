-- What a word is to clap, where own checks let it pass.
use Rattle.std.proofs.Common.{◌≡◌, ◌≢◌, ◌∙◌, ◌⊎◌, ℕ, Bool, true, false, zero, suc, [], ◌∷◌, ◌++◌, Option, Some, None, codes, refl, sym, ap, subst, inl, inr, arith}
use Rattle.std.specs.Prelude.{◌==◌, slice_index}
use Rattle.std.specs.Str.{bytes_eq}
use Rattle.std.proofs.lemmas.Bool.{eqb-true}
use Rattle.std.proofs.lemmas.Bool.Decides.{nat_tests}
use Rattle.std.proofs.lemmas.Slice.Eq.{bytes_eq-Decides}
use Rattle.clap.specs.Lexer.{name_and_value}
use Rattle.clap.specs.Walk.{Held, arg_by_long}
use Rattle.clap.specs.Faults.{long_fault}
use Rattle.clap.specs.declared.error.kind.ErrorKind.TheVariants as kinds
use Rattle.clap.proofs.CutLemmas.{Lacks, after_first-at, before_first-Lacks, before_first-at, list_any-Lacks, list_any-at}
use Rattle.command_words.specs.Options.{Text, dashed, takes_value}
use Rattle.command_words.specs.Spelling.{Gives, IsPlain}
use Rattle.command_words.specs.Spelling as spelling
use Rattle.command_words.specs.Spelling.{IsLetThrough}
use Rattle.command_words.specs.declared.options.Name.{Name}
use Rattle.command_words.specs.declared.options.Name.TheVariants.{Workers, Lives, Records, Schedule, Turns, Number}
use Rattle.command_words.proofs.ClapTable.{id_of, rules}

-- a word that begins with no dash, one that begins with two and names an option, or one that names none
pub data View : Text → Type 0 where
  plain : (word : Text) → IsPlain word → View word
  joined : (n : Name) (v : Text) → takes_value n ≡ true → View (dashed n ++ 61 ∷ v)
  alone : (n : Name) → takes_value n ≡ true → View (dashed n)
  flag : View (dashed Records)
  refused : (x : ℕ) (xs : Text) → ((h : Held) → long_fault rules false (arg_by_long rules (name_and_value (x ∷ xs)).0) (name_and_value (x ∷ xs)).1 h ≢ []) → View (45 ∷ 45 ∷ x ∷ xs)

-- a test that fails
differs : (x c : ℕ) → (x == c) ≡ false → x ≢ c
differs x c e same = let bad : (c == c) ≡ false = subst (λ y. (y == c) ≡ false) same e in grind (arith, nat_tests)

-- a text is cut at its first equals sign, or has none
cut : (t : Text) → ((f : Text) × (r : Text) × (t ≡ f ++ 61 ∷ r) × Lacks 61 f) ⊎ Lacks 61 t
cut [] = inr (λ i lt. absurd (omega arith))
cut (x ∷ xs) = by (x == 61) refl (cut xs)
  where
    more : (f : Text) → x ≢ 61 → Lacks 61 f → Lacks 61 (x ∷ f)
    more f ne h zero lt e = ne e
    more f ne h (suc i) lt e = h i (omega arith) e

    by : (b : Bool) → (x == 61) ≡ b → ((f : Text) × (r : Text) × (xs ≡ f ++ 61 ∷ r) × Lacks 61 f) ⊎ Lacks 61 xs
        → ((f : Text) × (r : Text) × (x ∷ xs ≡ f ++ 61 ∷ r) × Lacks 61 f) ⊎ Lacks 61 (x ∷ xs)
    by true e h = inl ([], xs, ap (λ y. y ∷ xs) (eqb-true x 61 e), λ i lt. absurd (omega arith))
    by false e (inl h) = inl (x ∷ h.0, h.1, ap (λ l. x ∷ l) h.2, more h.0 (differs x 61 e) h.3)
    by false e (inr h) = inr (more xs (differs x 61 e) h)

-- the name is that of an option, or clap knows none of it
unnamed : (name : Text) → bytes_eq (codes "workers") name ≡ false → bytes_eq (codes "lives") name ≡ false → bytes_eq (codes "records") name ≡ false
    → bytes_eq (codes "schedule") name ≡ false → bytes_eq (codes "turns") name ≡ false → arg_by_long rules name ≡ None
unnamed name w l r s t = rw (w, l, r, s, t) refl

named_by : (name : Text) → (arg_by_long rules name ≡ None) ⊎ ((n : Name) × (n ≢ Number) × (name ≡ id_of n))
named_by name = attempt Workers (λ e. absurd cc) (λ w. attempt Lives (λ e. absurd cc) (λ l. attempt Records (λ e. absurd cc)
    (λ r. attempt Schedule (λ e. absurd cc) (λ s. attempt Turns (λ e. absurd cc) (λ t. inl (unnamed name w l r s t))))))
  where
    attempt : (n : Name) → n ≢ Number → (bytes_eq (id_of n) name ≡ false → (arg_by_long rules name ≡ None) ⊎ ((n : Name) × (n ≢ Number) × (name ≡ id_of n)))
        → (arg_by_long rules name ≡ None) ⊎ ((n : Name) × (n ≢ Number) × (name ≡ id_of n))
    attempt n h next = by (bytes_eq (id_of n) name) refl
      where
        by : (b : Bool) → bytes_eq (id_of n) name ≡ b → (arg_by_long rules name ≡ None) ⊎ ((n : Name) × (n ≢ Number) × (name ≡ id_of n))
        by true e = inr (n, h, sym ((bytes_eq-Decides (id_of n) name).0 e))
        by false e = next e

unknown : (name : Text) (v : Option Text) (h : Held) → arg_by_long rules name ≡ None → long_fault rules false (arg_by_long rules name) v h ≢ []
unknown name v h none bad =
    let fault : long_fault rules false (arg_by_long rules name) v h ≡ kinds.UnknownArgument ∷ [] = ap (λ o. long_fault rules false o v h) none in
    absurd cc

-- the two parts of a word
with_value : (t f r : Text) → t ≡ f ++ 61 ∷ r → Lacks 61 f → name_and_value t ≡ (f, Some r)
with_value t f r e lacks = ap name_and_value e ∙ rw (list_any-at 61 f r, before_first-at 61 f r lacks, after_first-at 61 f r lacks) refl

without_value : (t : Text) → Lacks 61 t → name_and_value t ≡ (t, None)
without_value t lacks = rw (list_any-Lacks 61 t lacks, before_first-Lacks 61 t lacks) refl

refused_as : (x : ℕ) (xs name : Text) (v : Option Text) → name_and_value (x ∷ xs) ≡ (name, v)
    → ((h : Held) → long_fault rules false (arg_by_long rules name) v h ≢ []) → View (45 ∷ 45 ∷ x ∷ xs)
refused_as x xs name v e bad = refused x xs (λ h. subst (λ (p : Text × Option Text). long_fault rules false (arg_by_long rules p.0) p.1 h ≢ []) (sym e) (bad h))

joined_view : (x : ℕ) (xs v : Text) (n : Name) → n ≢ Number → name_and_value (x ∷ xs) ≡ (id_of n, Some v) → x ∷ xs ≡ id_of n ++ 61 ∷ v → View (45 ∷ 45 ∷ x ∷ xs)
joined_view x xs v Workers h parts e = subst (λ t. View (45 ∷ 45 ∷ t)) (sym e) (joined Workers v refl)
joined_view x xs v Lives h parts e = subst (λ t. View (45 ∷ 45 ∷ t)) (sym e) (joined Lives v refl)
joined_view x xs v Records h parts e = refused_as x xs (id_of Records) (Some v) parts (λ held bad. absurd cc)
joined_view x xs v Schedule h parts e = subst (λ t. View (45 ∷ 45 ∷ t)) (sym e) (joined Schedule v refl)
joined_view x xs v Turns h parts e = subst (λ t. View (45 ∷ 45 ∷ t)) (sym e) (joined Turns v refl)
joined_view x xs v Number h parts e = absurd (h refl)

alone_view : (x : ℕ) (xs : Text) (n : Name) → n ≢ Number → x ∷ xs ≡ id_of n → View (45 ∷ 45 ∷ x ∷ xs)
alone_view x xs Workers h e = subst (λ t. View (45 ∷ 45 ∷ t)) (sym e) (alone Workers refl)
alone_view x xs Lives h e = subst (λ t. View (45 ∷ 45 ∷ t)) (sym e) (alone Lives refl)
alone_view x xs Records h e = subst (λ t. View (45 ∷ 45 ∷ t)) (sym e) flag
alone_view x xs Schedule h e = subst (λ t. View (45 ∷ 45 ∷ t)) (sym e) (alone Schedule refl)
alone_view x xs Turns h e = subst (λ t. View (45 ∷ 45 ∷ t)) (sym e) (alone Turns refl)
alone_view x xs Number h e = absurd (h refl)

long_view : (x : ℕ) (xs : Text) → View (45 ∷ 45 ∷ x ∷ xs)
long_view x xs = by (cut (x ∷ xs))
  where
    by : ((f : Text) × (r : Text) × (x ∷ xs ≡ f ++ 61 ∷ r) × Lacks 61 f) ⊎ Lacks 61 (x ∷ xs) → View (45 ∷ 45 ∷ x ∷ xs)
    by (inl c) = go (named_by c.0)
      where
        parts : name_and_value (x ∷ xs) ≡ (c.0, Some c.1)
        parts = with_value (x ∷ xs) c.0 c.1 c.2 c.3

        go : (arg_by_long rules c.0 ≡ None) ⊎ ((n : Name) × (n ≢ Number) × (c.0 ≡ id_of n)) → View (45 ∷ 45 ∷ x ∷ xs)
        go (inl none) = refused_as x xs c.0 (Some c.1) parts (λ h. unknown c.0 (Some c.1) h none)
        go (inr m) = joined_view x xs c.1 m.0 m.1 (parts ∙ ap (λ t. (t, Some c.1)) m.2) (c.2 ∙ ap (λ t. t ++ 61 ∷ c.1) m.2)
    by (inr lacks) = go (named_by (x ∷ xs))
      where
        go : (arg_by_long rules (x ∷ xs) ≡ None) ⊎ ((n : Name) × (n ≢ Number) × (x ∷ xs ≡ id_of n)) → View (45 ∷ 45 ∷ x ∷ xs)
        go (inl none) = refused_as x xs (x ∷ xs) None (without_value (x ∷ xs) lacks) (λ h. unknown (x ∷ xs) None h none)
        go (inr m) = alone_view x xs m.0 m.1 m.2

-- ---- words that own checks let pass

-- such a word begins with no dash, or with two and more behind them
pub parts : (word : Text) → ¬ IsLetThrough word → IsPlain word ⊎ ((x : ℕ) × (xs : Text) × (word ≡ 45 ∷ 45 ∷ x ∷ xs))
parts [] h = inl (λ e. absurd (omega arith))
parts (x ∷ []) h = by (x == 45) refl
  where
    by : (b : Bool) → (x == 45) ≡ b → IsPlain (x ∷ []) ⊎ ((y : ℕ) × (ys : Text) × (x ∷ [] ≡ 45 ∷ 45 ∷ y ∷ ys))
    by true e = absurd (h (inr (eqb-true x 45 e, λ e. absurd (omega arith))))
    by false e = inl (differs x 45 e)
parts (x ∷ y ∷ ys) h = by (x == 45) refl (y == 45) refl
  where
    more : (ys : Text) → ¬ IsLetThrough (45 ∷ 45 ∷ ys) → (z : ℕ) × (zs : Text) × (45 ∷ 45 ∷ ys ≡ 45 ∷ 45 ∷ z ∷ zs)
    more [] h = absurd (h (inl refl))
    more (z ∷ zs) h = (z, zs, refl)

    by : (b : Bool) → (x == 45) ≡ b → (c : Bool) → (y == 45) ≡ c → IsPlain (x ∷ y ∷ ys) ⊎ ((z : ℕ) × (zs : Text) × (x ∷ y ∷ ys ≡ 45 ∷ 45 ∷ z ∷ zs))
    by false e c f = inl (differs x 45 e)
    by true e false f = absurd (h (inr (eqb-true x 45 e, differs y 45 f)))
    by true e true f =
        let same : x ∷ y ∷ ys ≡ 45 ∷ 45 ∷ ys = (λ i. eqb-true x 45 e i ∷ eqb-true y 45 f i ∷ ys) in
        let m = more ys (subst (λ t. ¬ IsLetThrough t) same h) in
        inr (m.0, m.1, same ∙ m.2)

pub view : (word : Text) → ¬ IsLetThrough word → View word
view word h = by (parts word h)
  where
    by : IsPlain word ⊎ ((x : ℕ) × (xs : Text) × (word ≡ 45 ∷ 45 ∷ x ∷ xs)) → View word
    by (inl p) = plain word p
    by (inr l) = subst View (sym l.2) (long_view l.0 l.1)

-- ---- words that spell something pass them

long_passes : (x : ℕ) (xs : Text) → ¬ IsLetThrough (45 ∷ 45 ∷ x ∷ xs)
long_passes x xs (inl e) = absurd cc
long_passes x xs (inr h) = h.1 refl

joined_passes : (n : Name) (v : Text) → takes_value n ≡ true → ¬ IsLetThrough (dashed n ++ 61 ∷ v)
joined_passes Workers v e = long_passes 119 _
joined_passes Lives v e = long_passes 108 _
joined_passes Records v e = absurd cc
joined_passes Schedule v e = long_passes 115 _
joined_passes Turns v e = long_passes 116 _
joined_passes Number v e = absurd cc

pub alone_passes : (n : Name) → takes_value n ≡ true → ¬ IsLetThrough (dashed n)
alone_passes Workers e = long_passes 119 _
alone_passes Lives e = long_passes 108 _
alone_passes Records e = absurd cc
alone_passes Schedule e = long_passes 115 _
alone_passes Turns e = long_passes 116 _
alone_passes Number e = absurd cc

pub plain_passes : (word : Text) → IsPlain word → ¬ IsLetThrough word
plain_passes word h (inl e) = h (ap (λ t. slice_index t 0) e)
plain_passes word h (inr g) = h g.0

pub gift_passes : (word : Text) (n : Name) (v : Text) → Gives word n v → ¬ IsLetThrough word
gift_passes word n v (spelling.joined w u m t e) = subst (λ x. ¬ IsLetThrough x) (sym e) (joined_passes m u t)
gift_passes word n v (spelling.flag w e) = subst (λ x. ¬ IsLetThrough x) (sym e) (long_passes 114 _)
gift_passes word n v (spelling.plain w p) = plain_passes w p
