-- The 25 lanes as the code holds them, plane by plane.
use Rattle.std.specs.Prelude.{ℕ, ◌+◌, List, [], ◌∷◌, ◌++◌, bit_and, bit_xor}
use Rattle.sha3.specs.Keccak.{rotl, not64}
use Rattle.sha3.specs.Sha3.{block_lane}
use Rattle.sha3.specs.declared.planes.KeccakState.{KeccakState}
use Rattle.sha3.specs.declared.planes.Lanes.{Lanes}
use Rattle.sha3.specs.declared.planes.Plane.{Plane}

abbrev pub plane_of : ℕ → ℕ → ℕ → ℕ → ℕ → Plane
plane_of a b c d e = record { x0 = a; x1 = b; x2 = c; x3 = d; x4 = e }

abbrev pub row : Plane → List ℕ
row p = p.x0 ∷ p.x1 ∷ p.x2 ∷ p.x3 ∷ p.x4 ∷ []

abbrev pub flat : Lanes → List ℕ
flat a = row a.y0 ++ (row a.y1 ++ (row a.y2 ++ (row a.y3 ++ row a.y4)))

abbrev pub view : KeccakState → List ℕ
view k = flat k.lanes

abbrev pub xor_plane : Plane → Plane → Plane
xor_plane p q = record { x0 = bit_xor p.x0 q.x0; x1 = bit_xor p.x1 q.x1; x2 = bit_xor p.x2 q.x2; x3 = bit_xor p.x3 q.x3; x4 = bit_xor p.x4 q.x4 }

-- what theta adds to each plane, from the parities c of the columns
abbrev pub theta_plane : Plane → Plane
theta_plane c = record { x0 = bit_xor c.x4 (rotl 1 c.x1); x1 = bit_xor c.x0 (rotl 1 c.x2); x2 = bit_xor c.x1 (rotl 1 c.x3); x3 = bit_xor c.x2 (rotl 1 c.x4); x4 = bit_xor c.x3 (rotl 1 c.x0) }

abbrev pub chi_plane : Plane → Plane
chi_plane p = record {
  x0 = bit_xor p.x0 (bit_and (not64 p.x1) p.x2);
  x1 = bit_xor p.x1 (bit_and (not64 p.x2) p.x3);
  x2 = bit_xor p.x2 (bit_and (not64 p.x3) p.x4);
  x3 = bit_xor p.x3 (bit_and (not64 p.x4) p.x0);
  x4 = bit_xor p.x4 (bit_and (not64 p.x0) p.x1);
}

abbrev pub rot_plane : Plane → ℕ → ℕ → ℕ → ℕ → ℕ → Plane
rot_plane p i j k l m = record { x0 = rotl i p.x0; x1 = rotl j p.x1; x2 = rotl k p.x2; x3 = rotl l p.x3; x4 = rotl m p.x4 }

-- five lanes of a block, from lane i on
abbrev pub block_plane : List ℕ → ℕ → Plane
block_plane bs i = record { x0 = block_lane bs i; x1 = block_lane bs (i + 1); x2 = block_lane bs (i + 2); x3 = block_lane bs (i + 3); x4 = block_lane bs (i + 4) }
