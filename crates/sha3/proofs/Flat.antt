-- The planes are the standard's lanes: each step on planes is the standard's step on the list of 25.
use Rattle.std.proofs.Common.{◌≡◌, ℕ, ◌+◌, ◌<◌, ◌≤◌, List, length, get_or, drop, sym, refl, ap, ◌∙◌}
use Rattle.std.proofs.lemmas.List.{at_drop_more, at_drop_all}
use Rattle.sha3.specs.Keccak.{theta, rho, pi, chi, offsets, round, rounds}
use Rattle.sha3.specs.Planes.{flat, plane_of, xor_plane, theta_plane, chi_plane, rot_plane, block_plane}
use Rattle.sha3.specs.Sha3.{xor_block}
use Rattle.sha3.specs.declared.planes.Lanes.{Lanes}
use Rattle.sha3.specs.declared.planes.Plane.{Plane}

abbrev pub planes : Plane → Plane → Plane → Plane → Plane → Lanes
planes p q r s t = record { y0 = p; y1 = q; y2 = r; y3 = s; y4 = t }

pub planes-same : {p q r s t p' q' r' s' t' : Plane} → p ≡ p' → q ≡ q' → r ≡ r' → s ≡ s' → t ≡ t' → planes p q r s t ≡ planes p' q' r' s' t'
planes-same a b c d e = cc

pub chi-flat : (a : Lanes) → flat (planes (chi_plane a.y0) (chi_plane a.y1) (chi_plane a.y2) (chi_plane a.y3) (chi_plane a.y4)) ≡ chi (flat a)
unfolding chi
chi-flat a = refl

-- the parities of the columns
abbrev pub parities : Lanes → Plane
parities a = xor_plane (xor_plane (xor_plane (xor_plane a.y0 a.y1) a.y2) a.y3) a.y4

pub theta-flat : (a : Lanes) (d : Plane) → d ≡ theta_plane (parities a)
    → flat (planes (xor_plane a.y0 d) (xor_plane a.y1 d) (xor_plane a.y2 d) (xor_plane a.y3 d) (xor_plane a.y4 d)) ≡ theta (flat a)
unfolding theta
theta-flat a d e = ap (λ (v : Plane). flat (planes (xor_plane a.y0 v) (xor_plane a.y1 v) (xor_plane a.y2 v) (xor_plane a.y3 v) (xor_plane a.y4 v))) e

-- the 25 rotations of the code are the walk's
pub rho-pi-flat : (a : Lanes) → flat (planes
    (rot_plane (plane_of a.y0.x0 a.y1.x1 a.y2.x2 a.y3.x3 a.y4.x4) 0 44 43 21 14)
    (rot_plane (plane_of a.y0.x3 a.y1.x4 a.y2.x0 a.y3.x1 a.y4.x2) 28 20 3 45 61)
    (rot_plane (plane_of a.y0.x1 a.y1.x2 a.y2.x3 a.y3.x4 a.y4.x0) 1 6 25 8 18)
    (rot_plane (plane_of a.y0.x4 a.y1.x0 a.y2.x1 a.y3.x2 a.y4.x3) 27 36 10 15 56)
    (rot_plane (plane_of a.y0.x2 a.y1.x3 a.y2.x4 a.y3.x0 a.y4.x1) 62 55 39 41 2))
    ≡ pi (rho (flat a))
unfolding rho pi offsets
rho-pi-flat a = refl

pub xor-block-flat : (a : Lanes) (bs : List ℕ)
    → flat (planes (xor_plane a.y0 (block_plane bs 0)) (xor_plane a.y1 (block_plane bs 5)) (xor_plane a.y2 (block_plane bs 10)) (xor_plane a.y3 (block_plane bs 15)) (xor_plane a.y4 (block_plane bs 20)))
    ≡ xor_block (flat a) bs
unfolding xor_block
xor-block-flat a bs = refl

pub rounds-more : (cs : List ℕ) (i x : ℕ) (a b z : List ℕ) → i < length cs → x ≡ get_or cs i 0 → b ≡ round x a → rounds (drop i cs) a ≡ z → rounds (drop (i + 1) cs) b ≡ z
rounds-more cs i x a b z lt e f h = ap (rounds (drop (i + 1) cs)) (f ∙ ap (λ v. round v a) e) ∙ sym (at_drop_more (λ v. rounds v a) cs i 0 lt) ∙ h

pub rounds-all : (cs : List ℕ) (i : ℕ) (a z : List ℕ) → length cs ≤ i → rounds (drop i cs) a ≡ z → a ≡ z
rounds-all cs i a z le h = sym (at_drop_all (λ v. rounds v a) cs i le) ∙ h
