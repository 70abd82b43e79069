-- Writes, reads and steps of a ring, on the list of what waits.
use Rattle.std.proofs.Common.{◌≡◌, ℕ, ◌+◌, ◌-◌, ◌<◌, ◌≤◌, min, List, [], ◌∷◌, ◌++◌, length, get_or, take, drop, set, sym, refl, ap, ◌∙◌, ⊎_elim, add-zero, zero-add, arith, take-add}
use lib.Seq.{take-set-lt}
use Rattle.std.proofs.Math.Seq.{take-append-add}
use Rattle.std.proofs.lemmas.List.{append-nil, append_assoc, length-take-le, length-drop, length-append, drop-set-add, take-set-le, drop-set-lt, set-append_left, set-append_right, take_more_set, take-append-le, drop-append-le, take_all, drop_all, take-take, drop-take, drop-drop, get_or-take, get_or_append_left, get_or-append_right, get_or-drop}
use Rattle.std.proofs.lemmas.Bool.{cases_lt, lt-ltb, le-ltb}
use Rattle.queue.specs.declared.place.Place.{Place}
use Rattle.queue.specs.Ring.{turned, waiting, slot_of}

pub length-turned : {X : Type 0} (xs : List X) (h : ℕ) → h ≤ length xs → length (turned xs h) ≡ length xs
length-turned xs h le = simp (length-append, length-drop, length-take-le h xs le) (omega arith)

pub length_waiting : {X : Type 0} (xs : List X) (p : Place) → p.head ≤ length xs → p.count ≤ length xs → length (waiting xs p) ≡ p.count
unfolding waiting
length_waiting xs p le few =
    let long = length-turned xs p.head le in
    length-take-le p.count (turned xs p.head) (omega arith)

---- the slot of an element: before the end of the ring, or round it
slot-near : (size h i : ℕ) → i < size - h → slot_of size h i ≡ h + i
slot-near size h i lt = let near = lt-ltb i (size - h) lt in rw near refl

slot-far : (size h i : ℕ) → size - h ≤ i → slot_of size h i ≡ i - (size - h)
slot-far size h i le = let far = le-ltb i (size - h) le in rw far refl

module _ {X : Type 0} (xs : List X) (h i : ℕ) (lt : h < length xs) (room : i < length xs) where
  set-near : (x : X) → i < length xs - h → turned (set xs (h + i) x) h ≡ set (turned xs h) i x
  set-near x near =
      let le : h ≤ h + i = omega arith in
      let within : i < length (drop h xs) = simp length-drop (omega arith) in
      ap (λ v. v ++ take h (set xs (h + i) x)) (drop-set-add h xs i x)
      ∙ ap (λ v. set (drop h xs) i x ++ v) (take-set-le h xs (h + i) x le)
      ∙ sym (set-append_left (drop h xs) (take h xs) i x within)

  set-far : (x : X) → length xs - h ≤ i → turned (set xs (i - (length xs - h)) x) h ≡ set (turned xs h) i x
  set-far x far =
      let at : ℕ = i - (length xs - h) in
      let below : at < h = omega arith in
      ap (λ v. v ++ take h (set xs at x)) (drop-set-lt h xs at x below)
      ∙ ap (λ v. drop h xs ++ v) (take-set-lt h xs at x below)
      ∙ sym (set-append_right (drop h xs) (take h xs) (length xs - h) i x (length-drop h xs) far)

  pub set-turned : (x : X) → turned (set xs (slot_of (length xs) h i) x) h ≡ set (turned xs h) i x
  set-turned x =
      ⊎_elim
      (λ near. ap (λ at. turned (set xs at x) h) (slot-near (length xs) h i near) ∙ set-near x near)
      (λ far. ap (λ at. turned (set xs at x) h) (slot-far (length xs) h i far) ∙ set-far x far)
      (cases_lt i (length xs - h))

  pub get_or-turned : (d : X) → get_or (turned xs h) i d ≡ get_or xs (slot_of (length xs) h i) d
  get_or-turned d =
      ⊎_elim
      (λ (near : i < length xs - h).
      let within : i < length (drop h xs) = simp length-drop (omega arith) in
      get_or_append_left (drop h xs) (take h xs) d i within ∙ get_or-drop h xs i d ∙ ap (λ n. get_or xs n d) (sym (slot-near (length xs) h i near)))
      (λ (far : length xs - h ≤ i).
      let below : i - (length xs - h) < h = omega arith in
      get_or-append_right (drop h xs) (take h xs) (length xs - h) i d (length-drop h xs) far
      ∙ get_or-take h xs (i - (length xs - h)) d below ∙ ap (λ n. get_or xs n d) (sym (slot-far (length xs) h i far)))
      (cases_lt i (length xs - h))

  -- a write behind the last
  pub waiting_set : (at : ℕ) (x : X) → at ≡ slot_of (length xs) h i → waiting (set xs at x) (record { head = h; count = i + 1 }) ≡ waiting xs (record { head = h; count = i }) ++ (x ∷ [])
  unfolding waiting
  waiting_set at x is =
      let le : h ≤ length xs = omega arith in
      let long : i < length (turned xs h) = rw (length-turned xs h le) room in
      ap (λ k. take (i + 1) (turned (set xs k x) h)) is ∙ ap (take (i + 1)) (set-turned x) ∙ take_more_set (turned xs h) i x long

---- the head, some slots on
-- what it passes is turned to the end
turned_on : {X : Type 0} (xs : List X) (h n : ℕ) → h + n ≤ length xs → turned xs (h + n) ≡ drop n (turned xs h) ++ take n (turned xs h)
turned_on xs h n le =
    let within : n ≤ length (drop h xs) = simp length-drop (omega arith) in
    let front : drop n (turned xs h) ≡ drop (h + n) xs ++ take h xs =
    drop-append-le n (drop h xs) (take h xs) within ∙ ap (λ v. v ++ take h xs) (drop-drop n h xs) in
    let back : take n (turned xs h) ≡ take n (drop h xs) = take-append-le n (drop h xs) (take h xs) within in
    ap (λ v. drop (h + n) xs ++ v) (take-add h n xs) ∙ sym (append_assoc (drop (h + n) xs) (take h xs) (take n (drop h xs)))
    ∙ sym (ap (λ v. v ++ take n (turned xs h)) front ∙ ap (λ v. (drop (h + n) xs ++ take h xs) ++ v) back)

-- a head at the end is one at the start
turned-end : {X : Type 0} (xs : List X) → turned xs (length xs) ≡ turned xs 0
turned-end xs =
    ap (λ v. v ++ take (length xs) xs) (drop_all (length xs) xs (omega arith)) ∙ take_all (length xs) xs (omega arith) ∙ sym (append-nil xs)

waiting-on : {X : Type 0} (xs : List X) (h n m : ℕ) → h + n ≤ length xs → n + m ≤ length xs → take m (turned xs (h + n)) ≡ drop n (take (n + m) (turned xs h))
waiting-on xs h n m le few =
    let near : h ≤ length xs = omega arith in
    let long : length (drop n (turned xs h)) ≡ length xs - n = length-drop n (turned xs h) ∙ ap (λ v. v - n) (length-turned xs h near) in
    let room : m ≤ length (drop n (turned xs h)) = omega arith in
    ap (take m) (turned_on xs h n le) ∙ take-append-le m (drop n (turned xs h)) (take n (turned xs h)) room ∙ sym (drop-take n m (turned xs h))

past-slot : {X : Type 0} (xs : List X) (h n m : ℕ) → h < length xs → n + m ≤ length xs → take m (turned xs (slot_of (length xs) h n)) ≡ drop n (take (n + m) (turned xs h))
past-slot xs h n m lt few =
    ⊎_elim
    (λ (near : n < length xs - h). ap (λ v. take m (turned xs v)) (slot-near (length xs) h n near) ∙ waiting-on xs h n m (omega arith) few)
    (λ (far : length xs - h ≤ n).
    let room : ℕ = length xs - h in
    let at : ℕ = n - room in
    let whole : h + room ≡ length xs = omega arith in
    let both : room + at ≡ n = omega arith in
    let all : room + (at + m) ≡ n + m = omega arith in
    let wrapped : take (at + m) (turned xs 0) ≡ drop room (take (n + m) (turned xs h)) =
    ap (take (at + m)) (sym (turned-end xs) ∙ ap (turned xs) (sym whole))
    ∙ waiting-on xs h room (at + m) (omega arith) (omega arith) ∙ ap (λ k. drop room (take k (turned xs h))) all in
    ap (λ v. take m (turned xs v)) (slot-far (length xs) h n far ∙ sym (zero-add at))
    ∙ waiting-on xs 0 at m (omega arith) (omega arith) ∙ ap (drop at) wrapped ∙ drop-drop at room (take (n + m) (turned xs h))
    ∙ ap (λ k. drop k (take (n + m) (turned xs h))) both)
    (cases_lt n (length xs - h))

---- what waits, element by element
pub get_or-waiting : {X : Type 0} (xs : List X) (p : Place) (i : ℕ) (d : X) → p.head < length xs → p.count ≤ length xs → i < p.count → get_or (waiting xs p) i d ≡ get_or xs (slot_of (length xs) p.head i) d
unfolding waiting
get_or-waiting xs p i d lt few below =
    get_or-take p.count (turned xs p.head) i d below ∙ get_or-turned xs p.head i lt (omega arith) d

pub waiting_first : {X : Type 0} (xs : List X) (p : Place) (d : X) → p.head < length xs → p.count ≤ length xs → 0 < p.count → get_or (waiting xs p) 0 d ≡ get_or xs p.head d
waiting_first xs p d lt few pos =
    get_or-waiting xs p 0 d lt few pos ∙ ap (λ n. get_or xs n d) (slot-near (length xs) p.head 0 (omega arith) ∙ add-zero p.head)

-- the first n of what waits: some from the head on, and those that are left over from the start of the ring
pub waiting_front : {X : Type 0} (xs oldest round : List X) (p : Place) (n m : ℕ) → p.head ≤ length xs → n ≤ p.count → oldest ≡ drop p.head xs → round ≡ take p.head xs → m ≡ min n (length oldest)
    → take m oldest ++ take (n - m) round ≡ take n (waiting xs p)
unfolding waiting
waiting_front xs oldest round p n m le few front back is =
    let turn : oldest ++ round ≡ turned xs p.head = cc in
    let whole : take n (oldest ++ round) ≡ take n (waiting xs p) = ap (take n) turn ∙ sym (take-take n p.count (turned xs p.head) few) in
    ⊎_elim
    (λ (near : n < length oldest).
    let same : m ≡ n = omega arith in
    let none : n - m ≡ 0 = omega arith in
    ap (λ k. take k oldest ++ take (n - m) round) same ∙ ap (λ k. take n oldest ++ take k round) none
    ∙ append-nil (take n oldest) ∙ sym (take-append-le n oldest round (omega arith)) ∙ whole)
    (λ (far : length oldest ≤ n).
    let same : m ≡ length oldest = omega arith in
    let sum : length oldest + (n - m) ≡ n = omega arith in
    ap (λ k. take k oldest ++ take (n - m) round) same ∙ ap (λ v. v ++ take (n - m) round) (take_all (length oldest) oldest (omega arith))
    ∙ sym (take-append-add oldest round (n - m)) ∙ ap (λ k. take k (oldest ++ round)) sum ∙ whole)
    (cases_lt n (length oldest))

-- what waits once the n oldest are gone
pub waiting_past : {X : Type 0} (xs : List X) (p : Place) (at n : ℕ) → at ≡ slot_of (length xs) p.head n → p.head < length xs → p.count ≤ length xs → n ≤ p.count
    → waiting xs (record { head = at; count = p.count - n }) ≡ drop n (waiting xs p)
unfolding waiting
waiting_past xs p at n is lt few le =
    let left : ℕ = p.count - n in
    let all : n + left ≡ p.count = omega arith in
    ap (λ k. take left (turned xs k)) is ∙ past-slot xs p.head n left lt (omega arith) ∙ ap (λ k. drop n (take k (turned xs p.head))) all
