-- What private functions say beside `Kept.antt`.
use Rattle.std.specs.Prelude.{◌≡◌, ◌<◌, ◌≤◌, ℕ, ◌+◌, Bool, false, not, ltb, List, [], drop, get_or, length, Option, None, Some}
use Rattle.just_names.specs.Texts.{Text}
use Rattle.just_module_contents.specs.declared.precedence.Claim.{Claim}
use Rattle.just_module_contents.specs.Kept.{gives_way, kept}

-- what is read where there is no claim
abbrev pub no_claim : Claim
no_claim = record { name = []; depth = 0 }

abbrev pub claim_at : List Claim → ℕ → Claim
claim_at claims i = get_or claims i no_claim

-- Of the first n claims, that of a name at a place is kept: no other lies at a smaller depth, and none after it at the same.
pub record IsBest (claims : List Claim) (n : ℕ) (name : Text) (place : ℕ) : Type 0 where
  pub there : place < n
  pub named : (claim_at claims place).name ≡ name
  pub least : (k : ℕ) → k < n → (claim_at claims k).name ≡ name → (claim_at claims place).depth ≤ (claim_at claims k).depth
  pub last : (k : ℕ) → place < k → k < n → (claim_at claims k).name ≡ name → (claim_at claims place).depth < (claim_at claims k).depth

-- the place of the one that is kept; none where no claim has the name
abbrev pub IsBestOf : List Claim → ℕ → Text → Option ℕ → Type 0
IsBestOf claims n name None = (k : ℕ) → k < n → (claim_at claims k).name ≡ name → ⊥
IsBestOf claims n name (Some place) = IsBest claims n name place

-- each name is found at the place of the one that is kept of the first n, or of all
abbrev pub IsBestSoFar : List Claim → ℕ → (Text → Option ℕ) → Type 0
IsBestSoFar claims n found = (name : Text) → IsBestOf claims n name (found name)

abbrev pub IsBestIndex : List Claim → (Text → Option ℕ) → Type 0
IsBestIndex claims found = IsBestSoFar claims (length claims) found

-- the one that is found lies at a smaller depth
abbrev pub outdoes : List Claim → ℕ → Option ℕ → Bool
outdoes claims i None = false
outdoes claims i (Some best) = ltb (claim_at claims best).depth (claim_at claims i).depth

abbrev pub is_outdone : List Claim → (Text → Option ℕ) → ℕ → Bool
is_outdone claims found i = outdoes claims i (found (claim_at claims i).name)

-- the claim at a place is kept
abbrev pub stays : List Claim → ℕ → Bool
stays claims i = not (gives_way claims (drop (i + 1) claims) (claim_at claims i))
