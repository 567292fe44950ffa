-- A field of a list at the front of a text, by its bytes and what it says: none where it takes no bytes.
use Rattle.std.specs.Prelude.{cond, List, ℕ, eqb, Option, Some, None}
use Rattle.journal_fields.specs.declared.Found.{Found}

abbrev pub found : {X : Type 0} → (List ℕ → ℕ) → (List ℕ → X) → List ℕ → Option (Found X)
found used value text = cond (eqb (used text) 0) None (Some (record { value = value text; used = used text }))
