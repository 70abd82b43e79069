-- What holds of a state and the bytes that it took still holds once it took a list of payloads.
use Rattle.std.proofs.Common.{ℕ, List, [], ◌∷◌, ◌++◌, sym, subst}
use Rattle.std.proofs.lemmas.List.{append-nil, append_assoc}
use Rattle.hash_blocks.specs.Taking.{took_all, joined}

pub held_all : {S : Type 0} (takes : S → List ℕ → S) (Took : S → List ℕ → Type 0) → ((s : S) (m p : List ℕ) → Took s m → Took (takes s p) (m ++ p))
    → (s : S) (m : List ℕ) (ps : List (List ℕ)) → Took s m → Took (took_all takes s ps) (m ++ joined ps)
held_all takes Took more s m [] h = subst (Took s) (sym (append-nil m)) h
held_all takes Took more s m (p ∷ ps) h =
    subst (Took (took_all takes (takes s p) ps)) (append_assoc m p (joined ps)) (held_all takes Took more (takes s p) (m ++ p) ps (more s m p h))
