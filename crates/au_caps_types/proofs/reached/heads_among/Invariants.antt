use Rattle.std.proofs.Common.{◌≡◌, take}
use Rattle.au_modules.specs.Slots as slots
use Rattle.au_caps_types.specs.Views.{heads_among}
use Rattle.au_caps_types.proofs.reached.heads_among.Given as goal

-- those so far
abbrev pub invariant-loop-one : goal.invariant-loop-one
invariant-loop-one l = l.made.items ≡ heads_among (slots.modules l.program) (take l.one-index l.one-items)
