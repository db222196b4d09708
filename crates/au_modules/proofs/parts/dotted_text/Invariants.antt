use Rattle.std.proofs.Common.{◌≡◌, ◌++◌, ◌<◌, drop, length}
use Rattle.std.specs.List.{flat_map}
use Rattle.au_modules.specs.Names.{dotted}
use Rattle.au_modules.proofs.parts.dotted_text.Given as goal

-- what is written, and what is left to write, are all; something is written once one was visited
abbrev pub invariant-loop-one : goal.invariant-loop-one
invariant-loop-one l = (l.text ++ flat_map dotted (drop l.one-index l.one-items)
    ≡ flat_map dotted l.one-items) × (0 < l.one-index → 1 < length l.text)
