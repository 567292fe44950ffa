-- The line of a fresh book (rules 15.2 and 15.3): `fresh D Z D Z ..`, a direction and a zone for each path.
use Rattle.std.specs.Prelude.{cond, ◌&&◌, List, [], ◌∷◌, ℕ, ◌+◌, eqb, length, take, drop, replicate}
use Rattle.market.specs.Books.{no_route, with_front}
use Rattle.market.specs.Limits.{path_limit}
use Rattle.market.specs.declared.book.Direction.{Direction}
use Rattle.market.specs.declared.book.Direction.TheVariants.{Export, Import}
use Rattle.market.specs.declared.book.Route.{Route}
use Rattle.text_fields.specs.Fields.{word_top}
use Rattle.text_fields.specs.declared.Field.{Field}
use Rattle.journal_fields.specs.declared.Found.{Found}
use Rattle.journal_fields.specs.JournalFields.{present, is_found, number, choice, fields_said, fields_used}
use Rattle.journal_fresh_line.specs.declared.FreshLine.{FreshLine}

-- rule 15.2: ` X`
abbrev pub export_option : List ℕ
export_option = 32 ∷ 88 ∷ []

-- rule 15.2: ` M`
abbrev pub import_option : List ℕ
import_option = 32 ∷ 77 ∷ []

-- a route at the front of a text, and the bytes that it takes, 0 where it is not present
abbrev pub route_read : Found Direction → Field → Found Route
route_read w z =
    cond (is_found w && present z)
    (record { value = record { direction = w.value; zone = z.value }; used = w.used + z.used })
    (record { value = no_route; used = 0 })

-- rules 15.2 and 15.3: a direction and then a zone below 2^32
unfoldable pub route_at : List ℕ → Found Route
route_at text =
    let w = choice export_option Export import_option Import text in
    route_read w (number word_top (drop w.used text))

-- its bytes, and what it says
abbrev pub route_field_used : List ℕ → ℕ
route_field_used text = (route_at text).used

abbrev pub route_value : List ℕ → Route
route_value text = (route_at text).value

-- all routes of a text, and the bytes that they take
abbrev pub routes_said : List ℕ → List Route
routes_said text = fields_said route_field_used route_value (length text) text

abbrev pub routes_used : List ℕ → ℕ
routes_used text = fields_used route_field_used route_value (length text) text

-- a slot for each path that a book may have
abbrev pub no_slots : List Route
no_slots = replicate path_limit no_route

-- rules 15.2 and 15.3: what the text after the word `fresh` says: whether its routes go on to the end, how many there are, which may be any
-- number, and the first of them in their slots
unfoldable pub fresh_said : List ℕ → FreshLine
fresh_said text =
    record {
      present = eqb (routes_used text) (length text);
      count = length (routes_said text);
      routes = with_front (take path_limit (routes_said text)) no_slots;
    }
