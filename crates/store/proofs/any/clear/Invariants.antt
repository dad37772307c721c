use Rattle.std.proofs.Common.{◌≡◌, ℕ, ◌<◌, false}
use Rattle.store.proofs.any.clear.Given as goal

abbrev pub invariant-loop-holder : goal.invariant-loop-holder
invariant-loop-holder g l =
    ((g.S.Store.contents l.store).size ≡ (g.S.Store.contents l.initial.store).size)
    × ((g.S.Store.contents l.store).limit ≡ (g.S.Store.contents l.initial.store).limit)
    × ((h t r : ℕ) → h < l.holder → (g.S.Store.contents l.store).holds h t r ≡ false)
