-- A fresh book is sound.
use mathlib.Core.Path.{◌≡◌, refl}
use mathlib.Core.Bool.{true}
use mathlib.Core.List.{List, map}
use Prim.Native.Nat.{ℕ, ◌-◌}
use lib.ListN.{take, replicate}
use borrow.Author.Tests.{not-false}
use Rattle.market.proofs.Every.{every_append, every_take, every-replicate, every_map}
use Rattle.market.proofs.Tables.{none-hold}
use Rattle.market.specs.Answers.{no_refusal, first_of}
use Rattle.market.specs.Books.{every, no_path}
use Rattle.market.specs.Fresh.{sound_route, fresh_refusals, fresh_path, fresh_paths, fresh_book}
use Rattle.market.specs.Limits.{path_limit}
use Rattle.market.specs.Sound.{sound_path_count, sound_path, sound_book}
use Rattle.market.specs.declared.book.Route.{Route}

fresh-path-sound : (r : Route) → sound_route r ≡ true → sound_path 0 (fresh_path r) ≡ true
fresh-path-sound r h = rw h

fresh-paths-sound : (routes : List Route) (n : ℕ) → every sound_route (take n routes) ≡ true → every (sound_path 0) (take n (fresh_paths routes n)) ≡ true
fresh-paths-sound routes n h =
    every_take (sound_path 0) n (fresh_paths routes n)
    (every_append (sound_path 0) (map fresh_path (take n routes)) (replicate (path_limit - n) no_path)
    (every_map fresh_path (sound_path 0) sound_route fresh-path-sound (take n routes) h)
    (every-replicate (sound_path 0) (path_limit - n) no_path refl))

pub fresh-sound : (routes : List Route) (n : ℕ) → first_of (fresh_refusals routes n) ≡ no_refusal → sound_book (fresh_book routes n) ≡ true
unfolding sound_book fresh_book
fresh-sound routes n h =
    let none = none-hold (fresh_refusals routes n) h in
    rw (
      not-false (sound_path_count n) none.0,
      fresh-paths-sound routes n (not-false (every sound_route (take n routes)) none.1.0),
    )
