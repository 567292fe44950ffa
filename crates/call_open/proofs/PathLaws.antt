-- Laws about the paths that open makes.
use mathlib.Core.Path.{◌≡◌, refl, ap, ap₂}
use mathlib.Core.List.{List}
use Prim.Native.Nat.{ℕ, zero, suc, ◌+◌, ◌≤◌}
use native.Mathlib.Numerals.{add-one}
use lib.ListN.{get_or, set}
use Rattle.market.proofs.SoundLaws.{sound-parts, count-within}
use Rattle.market.specs.Books.{no_path}
use Rattle.market.specs.Limits.{path_limit}
use Rattle.market.specs.declared.book.Book.{Book}
use Rattle.market.specs.declared.book.Entry.{Entry}
use Rattle.market.specs.declared.book.Kind.{Kind}
use Rattle.market.specs.declared.book.Path.{Path}
use Rattle.market.specs.declared.book.Period.{Period}
use Rattle.register.specs.Refusals.{LentRegister}
use Rattle.register.specs.Entries.{outstanding}
use Rattle.call_open_offers.specs.Offers.{auction_offer}
use Rattle.call_open.specs.OpenedPaths.{quantities_at, offering, opened_paths}

-- where the book and its lent register are sound, the book has no more paths than slots
pub paths-within : (b : Book) (words : List ℕ) → LentRegister b words → b.path_count ≤ path_limit
paths-within b words lent = count-within b.path_count (sound-parts b lent.sound).path-count

-- the slots with the first paths opened by a list of what is outstanding on each
abbrev pub opened_by : Kind → List ℕ → List ℕ → List Path → ℕ → List Path
opened_by kind quantities out slots zero = slots
opened_by kind quantities out slots (suc n) =
    set (opened_by kind quantities out slots n) n (offering (get_or slots n no_path) (auction_offer kind (quantities_at quantities n) (get_or out n 0)))

-- opening one more path
pub more-opened :
    (kind :
    Kind) (quantities out : List ℕ) (slots : List Path) (i : ℕ)
    → opened_by kind quantities out slots (i + 1)
    ≡ set (opened_by kind quantities out slots i) i (offering (get_or slots i no_path) (auction_offer kind (quantities_at quantities i) (get_or out i 0)))
more-opened kind quantities out slots i = ap (opened_by kind quantities out slots) (add-one i)

-- where the list has what the entries make outstanding, these are the rule's
pub opened-same :
    (kind : Kind) (period : Period) (es : List Entry) (quantities out : List ℕ) (slots : List Path) → ((i : ℕ) → get_or out i 0 ≡ outstanding i period es) → (n : ℕ)
    → opened_by kind quantities out slots n ≡ opened_paths kind period es quantities slots n
opened-same kind period es quantities out slots is zero = refl
opened-same kind period es quantities out slots is (suc n) =
    ap₂ (λ (l : List Path) (mw : ℕ). set l n (offering (get_or slots n no_path) (auction_offer kind (quantities_at quantities n) mw))) (opened-same kind period es quantities out slots is n)
    (is n)
