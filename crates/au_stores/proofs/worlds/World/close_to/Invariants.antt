use Rattle.std.proofs.Common.{◌≡◌, ◌-◌, length, take, drop, reverse}
use Rattle.au_effects.specs.Worlds as effect
use Rattle.au_stores.specs.Stores.{world_of, top_frame}
use Rattle.au_stores.proofs.worlds.World.close_to.Given as goal

-- what is left decides what is closed and what stays
abbrev pub invariant-loop-opened : goal.invariant-loop-opened
invariant-loop-opened l = (effect.closes (take (length l.opened.0 - l.count) (reverse l.opened.0))
    (world_of l.self)
    ≡ effect.closes (take (length l.fn.opened.0 - l.count) (reverse l.fn.opened.0)) (world_of l.fn.self))
    × (drop (length l.opened.0 - l.count) (reverse l.opened.0)
    ≡ drop (length l.fn.opened.0 - l.count) (reverse l.fn.opened.0))
    × (l.opened.1 ≡ l.fn.opened.1)
    × (top_frame l.self ≡ top_frame l.fn.self)

abbrev pub decreases-loop-opened : goal.decreases-loop-opened
decreases-loop-opened l = length l.opened.0
