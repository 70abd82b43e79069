-- A write to one element of a list, seen through a function of the elements.
use Rattle.std.proofs.Common.{◌≡◌, ℕ, ◌+◌, ◌<◌, List, [], ◌++◌, map, length, get_or, take, drop, set, sym, ap, ◌∙◌}
use Rattle.std.proofs.lemmas.List.{map-set, length-map, get_or-map, set-get_or, get_or_default}
use Rattle.std.proofs.lemmas.List.Edits.{map_over_more}
use Rattle.links.specs.Rows.{emptied}

module _ {L X : Type 0} (f : L → X) (d : X) (ls : List L) (i : ℕ) (y z : L) (lt : i < length ls) where
  pub row-set : (F : X → X) → f z ≡ F (f (get_or ls i y)) → map f (set ls i z) ≡ set (map f ls) i (F (get_or (map f ls) i d))
  row-set F e = map-set f ls i z ∙ ap (set (map f ls) i) (e ∙ ap F (sym (get_or-map f ls i y d lt)))

  pub row_same : f z ≡ f (get_or ls i y) → map f (set ls i z) ≡ map f ls
  row_same e = row-set (λ v. v) e ∙ set-get_or (map f ls) i d

-- a row of links, of which those before place i are cleared, with one more cleared
pub cleared_more : {L : Type 0} (f : L → List (List ℕ)) (ls ls₀ : List L) (i : ℕ) (z : L) → f z ≡ [] → map f ls ≡ emptied (take i (map f ls₀)) ++ drop i (map f ls₀) → i < length ls → i < length ls₀
    → map f (set ls i z) ≡ emptied (take (i + 1) (map f ls₀)) ++ drop (i + 1) (map f ls₀)
cleared_more f ls ls₀ i z none so_far lt below =
    let within : i < length (map f ls₀) = rw (length-map ls₀ f) below in
    let room : i < length (map f ls) = rw (length-map ls f) lt in
    map-set f ls i z ∙ ap (set (map f ls) i) none
    ∙ map_over_more (λ (v : List (List ℕ)). []) (map f ls₀) (map f ls) i (get_or (map f ls) i []) within so_far (get_or_default (map f ls) i [] (get_or (map f ls) i []) room)

-- and what stays the same of each
pub still_same : {L X : Type 0} (f : L → X) (ls ls₀ : List L) (i : ℕ) (y z : L) → f z ≡ f y → y ≡ get_or ls i y → i < length ls → map f ls ≡ map f ls₀ → map f (set ls i z) ≡ map f ls₀
still_same f ls ls₀ i y z same at lt so_far = row_same f (f y) ls i y z lt (same ∙ ap f at) ∙ so_far

pub ruleset one_more_cleared = (cleared_more, still_same)
