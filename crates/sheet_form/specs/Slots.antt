-- The bidders and paths of a sheet in slots (rule 14.3): the first slots hold the lines, and the others are empty.
use Rattle.std.specs.Prelude.{List, ◌++◌, ℕ, ◌-◌, length, take, replicate}
use Rattle.market.specs.Limits.{bidder_limit, path_limit}
use Rattle.market.specs.declared.book.Direction.TheVariants.{Export}
use Rattle.sheet_form.specs.declared.rows.BidderLine.{BidderLine}
use Rattle.sheet_form.specs.declared.rows.BidderRows.{BidderRows}
use Rattle.sheet_form.specs.declared.rows.PathLine.{PathLine}
use Rattle.sheet_form.specs.declared.rows.PathRows.{PathRows}

-- the first `slots` elements of a list, and after its end what represents an empty slot
abbrev pub filled : {X : Type 0} → ℕ → X → List X → List X
filled slots none xs = take slots xs ++ replicate (slots - length xs) none

-- an empty slot of each sort
abbrev pub no_bidder_line : BidderLine
no_bidder_line = record { bidder = 0; cash = 0; letter = 0 }

abbrev pub no_path_line : PathLine
no_path_line = record { direction = Export; zone = 0; base = 0; upper = 0; first = 0; second = 0 }

-- how many lines there are, and the slots; rule 14.5: more paths than a book has slots are counted too
abbrev pub bidder_rows : List BidderLine → BidderRows
bidder_rows xs = record { count = length xs; lines = filled bidder_limit no_bidder_line xs }

abbrev pub path_slots : List PathLine → PathRows
path_slots ps = record { count = length ps; lines = filled path_limit no_path_line ps }
