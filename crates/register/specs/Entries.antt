-- The entries of the register: which are sound, are issued, leave it, or are outstanding: rules 3.3, 4.8, 6.3, 8.3, 8.8 and 9.1.
use Rattle.std.specs.Prelude.{Bool, cond, ◌&&◌, ◌||◌, List, [], ◌∷◌, ℕ, ◌+◌, leb, ltb, eqb}
use Rattle.market.specs.Limits.{bidder_limit, quantity_limit, pending, issued}
use Rattle.market.specs.Sound.{sound_period}
use Rattle.market.specs.declared.book.Entry.{Entry}
use Rattle.market.specs.declared.book.Period.{Period}
use Rattle.register.specs.declared.Removal.{Removal}
use Rattle.register.specs.declared.Removal.TheVariants.{PendingOf, EndedBefore}

-- rule 4.8: a sound entry, for a book with `paths` paths
abbrev pub sound_entry : ℕ → Entry → Bool
sound_entry paths e =
    ltb e.bidder bidder_limit
    && ltb e.path paths
    && leb 1 e.quantity.0
    && leb e.quantity.0 quantity_limit
    && sound_period e.period
    && (eqb e.state pending || eqb e.state issued)

-- an entry with its state replaced
abbrev pub with_state : Entry → ℕ → Entry
with_state e state =
    record { bidder = e.bidder; path = e.path; quantity = e.quantity; period = e.period; state = state }

-- rule 8.3: an entry after `bidder` has paid, which is issued if it is that bidder's
abbrev pub issued_to : ℕ → Entry → Entry
issued_to bidder e = cond (eqb e.bidder bidder) (with_state e issued) e

-- rules 8.8 and 9.1: which entries leave: the pending ones of a bidder that defaults, or the issued ones that ended before a day
abbrev pub goes : Removal → Entry → Bool
goes (PendingOf bidder) e = eqb e.bidder bidder && eqb e.state pending
goes (EndedBefore day) e = eqb e.state issued && ltb e.period.last.0 day.0

-- rule 3.3: where some are removed the others move up in their order
abbrev pub without : Removal → List Entry → List Entry
without what [] = []
without what (e ∷ es) = cond (goes what e) (without what es) (e ∷ without what es)

-- rules 1.2 and 6.3: two periods overlap; the first and the last day belong to them
abbrev pub shares_day : Period → Period → Bool
shares_day p q = leb p.first.0 q.last.0 && leb q.first.0 p.last.0

-- rule 6.3: the MW outstanding on a path for a new period, of one entry and of all: its state does not matter, its path and days do
abbrev pub counted_of : ℕ → Period → Entry → ℕ
counted_of path period e = cond (eqb e.path path && shares_day e.period period) e.quantity.0 0

abbrev pub outstanding : ℕ → Period → List Entry → ℕ
outstanding path period [] = 0
outstanding path period (e ∷ es) = counted_of path period e + outstanding path period es
