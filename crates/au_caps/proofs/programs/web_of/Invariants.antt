use Rattle.std.proofs.Common.{length, take}
use Rattle.au_modules.specs.Slots as slots
use Rattle.au_caps_lists.specs.Views.{bodies_said}
use Rattle.au_caps.specs.Views.{IsWebOf}
use Rattle.au_caps.proofs.programs.web_of.Given as goal

-- what is held of the bodies so far
abbrev pub invariant-loop-own : goal.invariant-loop-own
invariant-loop-own l =
    IsWebOf (slots.modules l.program) l.reaching (length l.one-items)
    (bodies_said (take l.own l.one-items)) l.web
