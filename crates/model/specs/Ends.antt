-- Layers and recognition. An end is one side of one hop and way: the sender's and the receiver's are alike.
use Rattle.std.specs.Prelude.{ℕ, zero, suc, ◌+◌, Bool, false, cond, ◌&&◌, ◌||◌, List, [], ◌∷◌, Some, None, Option, ◌==◌, nat_le}
use Rattle.cell.specs.Payload.{recognised_of, tag_of, tagged, zeroed}
use Rattle.model.specs.Lists.{same}

-- what the ciphers of type K and the digests with states S do
pub record Rules (K S : Type 0) : Type 0 where
  pub added : K → ℕ → List ℕ → List ℕ
  pub removed : K → ℕ → List ℕ → List ℕ
  pub takes : S → List ℕ → S
  pub tags : S → List ℕ → List ℕ

pub record End (K S : Type 0) : Type 0 where
  pub cipher : K
  pub layer : ℕ
  pub digest : S

-- an end gives up at layer 2^27
abbrev pub layer_limit : ℕ
layer_limit = 134217728

-- the test at a hop: the recognised field is zero, and the tag is the digest's of the payload with its tag zeroed
unfoldable pub recognises : {S : Type 0} → (S → List ℕ → List ℕ) → S → List ℕ → Bool
recognises tags s p = recognised_of p == 0 && same (tag_of p) (tags s (zeroed p))

-- the farther of two places, the first one hop less far
abbrev pub farther : Option ℕ → Bool → Option ℕ
farther (Some k) b = Some (suc k)
farther None b = cond b (Some 0) None

abbrev pub further : Option ℕ → Option ℕ
further None = None
further (Some k) = Some (suc k)

module _ {K S : Type 0} where
  -- a layer of some end up to place d is past the limit
  abbrev pub worn_out : List (End K S) → ℕ → Bool
  worn_out [] d = false
  worn_out (e ∷ es) zero = nat_le layer_limit e.layer
  worn_out (e ∷ es) (suc d) = nat_le layer_limit e.layer || worn_out es d

  -- the first of all ends whose layer is past it
  abbrev pub worn_at : List (End K S) → Option ℕ
  worn_at [] = None
  worn_at (e ∷ es) = cond (nat_le layer_limit e.layer) (Some 0) (further (worn_at es))

  -- a layer was used
  abbrev pub moved : End K S → End K S
  moved e = record { cipher = e.cipher; layer = e.layer + 1; digest = e.digest }

  -- the first n ends used one
  abbrev pub moved_to : ℕ → List (End K S) → List (End K S)
  moved_to zero es = es
  moved_to (suc n) [] = []
  moved_to (suc n) (e ∷ es) = moved e ∷ moved_to n es

-- in all of these b is a payload whose tag is zero, and d is the place of the addressed hop, 0 for the nearest
module _ {K S : Type 0} (R : Rules K S) where
  -- b with its sender's tag
  unfoldable pub sealed : S → List ℕ → List ℕ
  sealed s b = tagged (R.tags s b) b

  -- a layer was used, and the digest took b
  abbrev pub took : End K S → List ℕ → End K S
  took e b = record { cipher = e.cipher; layer = e.layer + 1; digest = R.takes e.digest b }

  -- sealed by the end at place d, under its layer and those of all ends before it
  abbrev pub wrapped : List (End K S) → ℕ → List ℕ → List ℕ
  wrapped [] d b = []
  wrapped (e ∷ es) zero b = R.added e.cipher e.layer (sealed e.digest b)
  wrapped (e ∷ es) (suc d) b = R.added e.cipher e.layer (wrapped es d b)

  -- the ends once it was sent, or once it was received: each of them used a layer, and the one at d took it
  abbrev pub advanced : List (End K S) → ℕ → List ℕ → List (End K S)
  advanced [] d b = []
  advanced (e ∷ es) zero b = took e b ∷ es
  advanced (e ∷ es) (suc d) b = moved e ∷ advanced es d b

  -- the farthest end before place d whose test it would pass with the layers up to that end removed
  abbrev pub coincidence : List (End K S) → ℕ → List ℕ → Option ℕ
  coincidence [] d b = None
  coincidence (e ∷ es) zero b = None
  coincidence (e ∷ es) (suc d) b = farther (coincidence es d b) (recognises R.tags e.digest (wrapped es d b))

  -- layers removed outward up to the first end whose test passes: its place
  abbrev pub recognised_at : List (End K S) → List ℕ → Option ℕ
  recognised_at [] p = None
  recognised_at (e ∷ es) p =
      cond (recognises R.tags e.digest (R.removed e.cipher e.layer p)) (Some 0) (further (recognised_at es (R.removed e.cipher e.layer p)))

  -- the layers of the first n ends removed
  abbrev pub unwrapped : ℕ → List (End K S) → List ℕ → List ℕ
  unwrapped zero es p = p
  unwrapped (suc n) [] p = p
  unwrapped (suc n) (e ∷ es) p = unwrapped n es (R.removed e.cipher e.layer p)
