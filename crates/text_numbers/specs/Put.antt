-- Bytes put into a list at a place, for every rule that writes into a lent buffer (rules 14.11 and 16.2): those before and after them stay.
use Rattle.std.specs.Prelude.{◌≡◌, List, ◌++◌, ℕ, ◌+◌, length, take, drop}

-- the list with these bytes from a place on
abbrev pub put_at : List ℕ → ℕ → List ℕ → List ℕ
put_at out at bytes = take at out ++ bytes ++ drop (at + length bytes) out

-- a text put into a buffer at a place: the place after it, and every byte of the buffer
pub record Put (before : List ℕ) (at : ℕ) (text after : List ℕ) (end : ℕ) : Type 0 where
  pub place : end ≡ at + length text
  pub bytes : after ≡ put_at before at text
