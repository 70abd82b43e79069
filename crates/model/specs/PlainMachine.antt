-- The plain machine: a row of items for each link. It is fed a call's arguments and whether the call was accepted, and nothing
-- else; it knows no cell, no cipher and no layer number, and refuses nothing.
use Rattle.std.specs.Prelude.{ℕ, suc, ◌+◌, ◌-◌, ◌*◌, Bool, cond, List, [], ◌∷◌, ◌++◌, map, length, Some, None, Option, ◌==◌, slice_index_or, slice_set}
use Rattle.cell.specs.Payload.{Message}
use Rattle.cell.specs.declared.command.Way.{Way}
use Rattle.cell.specs.declared.command.Way.TheVariants.{Forward, Backward}
use Rattle.model.specs.Messages.{sendme}
use Rattle.model.specs.Circuit.{Call, send, carry, reply, bring, acknowledge, destroy}

-- a message for or from a hop
pub record Entry : Type 0 where
  pub hop : ℕ
  pub message : Message

abbrev pub entry : ℕ → Message → Entry
entry k m = record { hop = k; message = m }

-- by link, link 1 first; in a row the oldest first
pub record Rows (A : Type 0) : Type 0 where
  pub forward : List (List A)
  pub backward : List (List A)

-- what the rows hold: an item's hop, the item that a sending makes, and the item once relay j has passed it on
pub record Kind (A : Type 0) : Type 0 where
  pub hop : A → ℕ
  pub made : Way → ℕ → Message → A
  pub passed : Way → ℕ → A → A

-- plain entries, which nothing changes
abbrev pub entries : Kind Entry
entries = record { hop = λ e. e.hop; made = λ w k m. entry k m; passed = λ w j e. e }

-- what a call delivers, and the rows after it
pub record Turn (A : Type 0) : Type 0 where
  pub arrival : Option A
  pub rows : Rows A

module _ {A : Type 0} where
  -- x joins the end of the row at a place
  abbrev pub joined : ℕ → A → List (List A) → List (List A)
  joined i x rs = slice_set rs i (slice_index_or rs i [] ++ x ∷ [])

  abbrev pub with_forward : Rows A → List (List A) → Rows A
  with_forward r rs = record { forward = rs; backward = r.backward }

  abbrev pub with_backward : Rows A → List (List A) → Rows A
  with_backward r rs = record { forward = r.forward; backward = rs }

  abbrev pub silent : Rows A → Turn A
  silent r = record { arrival = None; rows = r }

  abbrev pub delivering : A → Rows A → Turn A
  delivering x r = record { arrival = Some x; rows = r }

  -- the first of forward row j: at its hop it is delivered, else it joins the next row's end
  abbrev pub carried : Kind A → Rows A → ℕ → List A → Turn A
  carried k r j [] = silent r
  carried k r j (x ∷ xs) =
      cond (k.hop x == j)
      (delivering x (with_forward r (slice_set r.forward (j - 1) xs)))
      (silent (with_forward r (joined j (k.passed Forward j x) (slice_set r.forward (j - 1) xs))))

  -- the first of backward row j: from row 1 it is delivered, else it joins the end of the row before
  abbrev pub brought : Kind A → Rows A → ℕ → List A → Turn A
  brought k r j [] = silent r
  brought k r j (x ∷ xs) =
      cond (j == 1)
      (delivering x (with_backward r (slice_set r.backward (j - 1) xs)))
      (silent (with_backward r (joined (j - 2) (k.passed Backward (j - 1) x) (slice_set r.backward (j - 1) xs))))

  -- an accepted call
  abbrev pub turn : Kind A → Rows A → Call → Turn A
  turn k r (send h m) = silent (with_forward r (joined 0 (k.made Forward h m) r.forward))
  turn k r (carry j) = carried k r j (slice_index_or r.forward (j - 1) [])
  turn k r (reply h m) = silent (with_backward r (joined (h - 1) (k.made Backward h m) r.backward))
  turn k r (bring j) = brought k r j (slice_index_or r.backward (j - 1) [])
  turn k r (acknowledge h Forward) = silent (with_backward r (joined (h - 1) (k.made Backward h sendme) r.backward))
  turn k r (acknowledge h Backward) = silent (with_forward r (joined 0 (k.made Forward h sendme) r.forward))
  turn k r destroy = silent (record { forward = map (λ row. []) r.forward; backward = map (λ row. []) r.backward })

  -- a refused call changes nothing
  abbrev pub fed : Kind A → Rows A → Call → Bool → Turn A
  fed k r x ok = cond ok (turn k r x) (silent r)

---- pipes: a hop's messages on one way, from the row nearest the receiver
abbrev pub of_hop : ℕ → List Entry → List Message
of_hop k [] = []
of_hop k (e ∷ es) = cond (e.hop == k) (e.message ∷ []) [] ++ of_hop k es

abbrev pub forward_pipe : ℕ → List (List Entry) → List Message
forward_pipe k [] = []
forward_pipe k (r ∷ rs) = forward_pipe k rs ++ of_hop k r

abbrev pub backward_pipe : ℕ → List (List Entry) → List Message
backward_pipe k [] = []
backward_pipe k (r ∷ rs) = of_hop k r ++ backward_pipe k rs

abbrev pub pipe : Way → ℕ → Rows Entry → List Message
pipe Forward k r = forward_pipe k r.forward
pipe Backward k r = backward_pipe k r.backward

---- the links that the entries have still to cross, from row j on: k - j + 1 for hop k's from forward row j, j from backward row j
abbrev pub forward_row : ℕ → List Entry → ℕ
forward_row j [] = 0
forward_row j (e ∷ es) = (e.hop - j + 1) + forward_row j es

abbrev pub forward_crossings : ℕ → List (List Entry) → ℕ
forward_crossings j [] = 0
forward_crossings j (r ∷ rs) = forward_row j r + forward_crossings (suc j) rs

abbrev pub backward_crossings : ℕ → List (List Entry) → ℕ
backward_crossings j [] = 0
backward_crossings j (r ∷ rs) = j * length r + backward_crossings (suc j) rs
