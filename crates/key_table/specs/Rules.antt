-- What the calls of `KeyWords` keep and tell.
use Rattle.std.specs.Prelude.{◌≡◌, ◌≢◌, ◌≤◌, ◌+◌, ℕ, List, Option, Some, length, Contains}
use Rattle.key_table.specs.declared.words.Claim.{Claim}
use Rattle.key_table.specs.declared.words.Claim.TheVariants.{Made, Found, Other}
use Rattle.key_table.specs.declared.words.Seen.{Seen}
use Rattle.key_table.specs.declared.words.Seen.TheVariants.{Empty, Holds}

-- the keys are no more than the rows; a known key is one of them, and is known of one row alone
pub record HasRules (rows : ℕ) (keys : List ℕ) (may stands : ℕ → Type 0) (known : ℕ → Option ℕ) : Type 0 where
  pub few : length keys ≤ rows
  pub may_listed : (key : ℕ) → may key → Contains keys key
  pub stands_listed : (key : ℕ) → stands key → Contains keys key
  pub known_listed : (row key : ℕ) → known row ≡ Some key → Contains keys key
  pub one_row : (row other key : ℕ) → known row ≡ Some key → known other ≡ Some key → row ≡ other

-- what no claim and no look changes, and that what was known is known
pub record IsKept {S : Type 0} (rows : S → ℕ) (keys : S → List ℕ) (may stands : S → ℕ → Type 0) (known : S → ℕ → Option ℕ) (s t : S) : Type 0 where
  pub same_rows : rows t ≡ rows s
  pub same_keys : keys t ≡ keys s
  pub may_stays : (key : ℕ) → may s key → may t key
  pub may_back : (key : ℕ) → may t key → may s key
  pub stands_stays : (key : ℕ) → stands s key → stands t key
  pub stands_back : (key : ℕ) → stands t key → stands s key
  pub known_stays : (row key : ℕ) → known s row ≡ Some key → known t row ≡ Some key

-- the number that the word held before the claim, by the answer
abbrev pub ClaimTells : Claim → ℕ → ℕ → Type 0
ClaimTells Made key number = number ≡ 0
ClaimTells Found key number = number ≡ key + 1
ClaimTells (Other other) key number = (number ≡ other.0 + 1) × (other.0 ≢ key)

-- the number that the word held at the look, by the answer
abbrev pub SeenTells : Seen → ℕ → Type 0
SeenTells Empty number = number ≡ 0
SeenTells (Holds key) number = number ≡ key.0 + 1

-- the key of the row after the claim
abbrev pub claimed_key : Claim → ℕ → ℕ
claimed_key Made key = key
claimed_key Found key = key
claimed_key (Other other) key = other.0

-- what is known of the row after the look
abbrev pub Learns : Seen → Option ℕ → Type 0
Learns Empty known = Unit {0}
Learns (Holds key) known = known ≡ Some key.0

-- room for at most one record goes, and only where the claim made the row
abbrev pub Spends : Claim → ℕ → ℕ → Type 0
Spends Made before after = before ≤ after + 1
Spends Found before after = after ≡ before
Spends (Other other) before after = after ≡ before
