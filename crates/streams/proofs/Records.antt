-- A record at a place of the array, and the model's list of records.
use Rattle.std.proofs.Common.{◌≡◌, ℕ, zero, suc, ◌+◌, ◌-◌, ◌<◌, ◌≤◌, true, false, cond, ◌||◌, eqb, List, [], ◌∷◌, map, length, get_or, take, drop, set, is_some, Some, None, Option, sym, refl, ap, ◌∙◌, add-one, arith}
use Rattle.std.proofs.lemmas.List.{length-map, length-take-le, length-drop, map-append, map-set, take-map, drop-map, take-set, take-take, drop-take, drop-set-lt, get_or-map, get_or-take, set-get_or}
use Rattle.std.proofs.lemmas.List.Edits.{take-paste}
use lib.Seq.{paste, take-set-lt}
use Rattle.model.specs.Lists.{nth}
use Rattle.streams.specs.declared.types.Streams.{Streams}
use Rattle.std.proofs.lemmas.Bool.Decides.{nat_tests}
use Rattle.std.specs.List.{remove, list_any}
use Rattle.model.specs.Streams as model
use Rattle.model.specs.Streams.{applied, changed, in_front, is_of, is_recorded, effect, becomes, frees, forbidden, with_records, or_unchanged}
use Rattle.streams.specs.declared.types.StreamRecord.{StreamRecord}
use Rattle.streams.specs.declared.types.Effect.TheVariants.{Freed, Forbidden}
use Rattle.streams.specs.Views.{blank, state_seen, record_seen, records_seen, streams_seen}
use Rattle.streams.specs.Begins.{has_room}
use Rattle.streams.specs.Effects.{effect_seen, after_effect}

-- the records once the one at place i, r, had an effect
abbrev pub changed_at : List model.StreamRecord → ℕ → model.StreamRecord → model.Effect → Option (List model.StreamRecord)
changed_at rs i r (becomes s) = Some (set rs i (record { number = r.number; hop = r.hop; state = s }))
changed_at rs i r frees = Some (remove rs i)
changed_at rs i r forbidden = None

changed-first : (r : model.StreamRecord) (rs : List model.StreamRecord) (e : model.Effect) → changed r rs e ≡ changed_at (r ∷ rs) 0 r e
changed-first r rs (becomes s) = refl
changed-first r rs frees = refl
changed-first r rs forbidden = refl

changed-later : (x r : model.StreamRecord) (rs : List model.StreamRecord) (i : ℕ) (e : model.Effect) → in_front x (changed_at rs i r e) ≡ changed_at (x ∷ rs) (suc i) r e
changed-later x r rs i (becomes s) = refl
changed-later x r rs i frees = refl
changed-later x r rs i forbidden = refl

module _ (c n k : ℕ) where
  abbrev pub Other : List StreamRecord → ℕ → Type 0
  Other xs j = is_of n k (record_seen (get_or xs j blank)) ≡ false

  pub applied-none : (xs : List StreamRecord) (m : ℕ) → ((j : ℕ) → j < m → Other xs j) → applied c n k (map record_seen (take m xs)) ≡ None
  applied-none xs zero before = refl
  applied-none [] (suc m) before = refl
  applied-none (x ∷ xs) (suc m) before =
      let first : is_of n k (record_seen x) ≡ false = before 0 (omega arith) in
      let rest = applied-none xs m (λ j lt. before (suc j) (omega arith)) in
      rw (first, rest)

  pub applied-at : (xs : List StreamRecord) (m i : ℕ) → i < m → m ≤ length xs → is_of n k (record_seen (get_or xs i blank)) ≡ true → ((j : ℕ) → j < i → Other xs j)
      → applied c n k (map record_seen (take m xs)) ≡ changed_at (map record_seen (take m xs)) i (record_seen (get_or xs i blank)) (effect (state_seen (get_or xs i blank).state) c)
  applied-at xs zero i lt le here before = absurd (omega arith)
  applied-at [] (suc m) i lt le here before = absurd (omega arith)
  applied-at (x ∷ xs) (suc m) zero lt le here before = rw here (changed-first (record_seen x) (map record_seen (take m xs)) (effect (state_seen x.state) c))
  applied-at (x ∷ xs) (suc m) (suc i) lt le here before =
      let first : is_of n k (record_seen x) ≡ false = before 0 (omega arith) in
      let rest = applied-at xs m i (omega arith) (omega arith) here (λ j l. before (suc j) (omega arith)) in
      rw (first, rest) (changed-later (record_seen x) (record_seen (get_or xs i blank)) (map record_seen (take m xs)) i (effect (state_seen (get_or xs i blank).state) c))

-- the records in use, by number and by place
pub length_seen : (s : Streams) → length (records_seen s) ≡ s.count
length_seen s = length-map (take s.count s.records) record_seen ∙ length-take-le s.count s.records (omega (arith, s.full, s.fits))

pub nth_seen : (xs : List StreamRecord) (m i : ℕ) → i < m → m ≤ length xs → Some (record_seen (get_or xs i blank)) ≡ nth (map record_seen (take m xs)) i
nth_seen xs zero i lt le = absurd (omega arith)
nth_seen [] (suc m) i lt le = absurd (omega arith)
nth_seen (x ∷ xs) (suc m) zero lt le = refl
nth_seen (x ∷ xs) (suc m) (suc i) lt le = nth_seen xs m i (omega arith) (omega arith)

pub nth_past : (rs : List model.StreamRecord) (i : ℕ) → length rs ≤ i → None ≡ nth rs i
nth_past [] i le = refl
nth_past (r ∷ rs) zero le = absurd (omega arith)
nth_past (r ∷ rs) (suc i) le = nth_past rs i (omega arith)

pub room_seen : (s : Streams) → true ≡ has_room (streams_seen s) → s.count < 32
unfolding streams_seen
room_seen s e = let whole = length_seen s in grind (arith, nat_tests)

-- whether a number is recorded, asked of the code's records
pub recorded_any : (n : ℕ) (rs : List StreamRecord) → list_any (λ r. eqb r.number n) rs ≡ is_recorded n (map record_seen rs)
recorded_any n [] = refl
recorded_any n (r ∷ rs) = elim (eqb r.number n) as (λ b. (b || list_any (λ r. eqb r.number n) rs) ≡ cond b true (is_recorded n (map record_seen rs))) [ true ↦ refl | false ↦ recorded_any n rs ]

-- whether an effect lets the command pass
forbidden-at : (rs : List model.StreamRecord) (i : ℕ) (r : model.StreamRecord) (e : model.Effect) → Forbidden ≡ effect_seen e → false ≡ is_some (changed_at rs i r e)
forbidden-at rs i r (becomes s) is = cc
forbidden-at rs i r frees is = cc
forbidden-at rs i r forbidden is = refl

allowed_at : (rs : List model.StreamRecord) (i : ℕ) (r : model.StreamRecord) (e : model.Effect) → (effect_seen e ≡ Forbidden → ⊥) → true ≡ is_some (changed_at rs i r e)
allowed_at rs i r (becomes s) ne = refl
allowed_at rs i r frees ne = refl
allowed_at rs i r forbidden ne = absurd (ne refl)

-- whether some record lets the command pass, from the place of the stream's record
pub allowed_none : (c n k : ℕ) (s : Streams) → ((j : ℕ) → j < s.count → Other c n k s.records j) → false ≡ is_some (applied c n k (records_seen s))
allowed_none c n k s before = sym (ap is_some (applied-none c n k s.records s.count before))

pub allowed_some : (c n k : ℕ) (s : Streams) (i : ℕ) → i < s.count → is_of n k (record_seen (get_or s.records i blank)) ≡ true → ((j : ℕ) → j < i → Other c n k s.records j)
    → (effect_seen (effect (state_seen (get_or s.records i blank).state) c) ≡ Forbidden → false ≡ is_some (applied c n k (records_seen s)))
    × ((effect_seen (effect (state_seen (get_or s.records i blank).state) c) ≡ Forbidden → ⊥) → true ≡ is_some (applied c n k (records_seen s)))
allowed_some c n k s i lt here before =
    let r = record_seen (get_or s.records i blank) in
    let is = sym (ap is_some (applied-at c n k s.records s.count i lt (omega (arith, s.full, s.fits)) here before)) in
    (λ e. forbidden-at (records_seen s) i r _ (sym e) ∙ is, λ ne. allowed_at (records_seen s) i r _ ne ∙ is)

-- a record taken out of its place
map-removed : (rs : List StreamRecord) (i : ℕ) → map record_seen (remove rs i) ≡ remove (map record_seen rs) i
map-removed rs i =
    let whole = map-append record_seen (take i rs) (drop (suc i) rs) in
    let front = take-map record_seen i rs in
    let back = drop-map record_seen (suc i) rs in
    cc

removed-set : (rs : List StreamRecord) (i : ℕ) (y : StreamRecord) → remove (set rs i y) i ≡ remove rs i
removed-set rs i y =
    let front = take-set rs i y in
    let back = drop-set-lt (suc i) rs i y (omega arith) in
    cc

-- the records after place i move one place up
pub moved_up : (xs : List StreamRecord) (m i : ℕ) → i < m → m ≤ length xs → take (m - 1) (paste xs i (drop (i + 1) xs) (m - (i + 1))) ≡ remove (take m xs) i
moved_up xs m i lt le =
    let n : ℕ = m - (i + 1) in
    let shorter : m - 1 ≡ i + n = omega arith in
    let whole : suc i + n ≡ m = omega arith in
    let next = add-one i in
    let front = take-take i m xs (omega arith) in
    let back = drop-take (suc i) n xs in
    let both = take-paste xs i (drop (i + 1) xs) n (omega arith) (simp length-drop (omega arith)) in
    cc

-- the record at place i was changed into y by an effect
module _ (xs : List StreamRecord) (m i h : ℕ) (y : StreamRecord) (lt : i < m) (le : m ≤ length xs) where
  abbrev in_use : List model.StreamRecord
  in_use = map record_seen (take m xs)

  abbrev before : model.Streams
  before = record { records = in_use; highest = h }

  abbrev was : model.StreamRecord
  was = record_seen (get_or xs i blank)

  set-seen : map record_seen (take m (set xs i y)) ≡ set in_use i (record_seen y)
  set-seen = ap (map record_seen) (take-set-lt m xs i y lt) ∙ map-set record_seen (take m xs) i y

  was-there : set in_use i was ≡ in_use
  was-there =
      let here = get_or-map record_seen (take m xs) i blank (record_seen blank) (simp length-take-le (omega arith)) in
      let whole = get_or-take m xs i blank lt in
      let back = set-get_or in_use i (record_seen blank) in
      cc

  pub kept_at : (e : model.Effect) → record_seen y ≡ after_effect was e → (effect_seen e ≡ Freed → ⊥)
      → record { records = map record_seen (take m (set xs i y)); highest = h } ≡ or_unchanged before (with_records before (changed_at in_use i was e))
  kept_at (becomes s) is ne = let now = set-seen in cc
  kept_at frees is ne = absurd (ne refl)
  kept_at forbidden is ne = let now = set-seen in let same = was-there in cc

  pub freed-at : (e : model.Effect) (rs : List StreamRecord) → rs ≡ remove (take m (set xs i y)) i → effect_seen e ≡ Freed
      → record { records = map record_seen rs; highest = h } ≡ or_unchanged before (with_records before (changed_at in_use i was e))
  freed-at (becomes s) rs out is = cc
  freed-at frees rs out is =
      let set_first = take-set-lt m xs i y lt in
      let gone = removed-set (take m xs) i y in
      let seen = map-removed (take m xs) i in
      cc
  freed-at forbidden rs out is = cc
