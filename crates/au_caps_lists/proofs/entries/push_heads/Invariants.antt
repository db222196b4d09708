use Rattle.std.proofs.Common.{◌≡◌, ◌++◌, take}
use Rattle.au_modules.specs.Slots as slots
use Rattle.au_caps_lists.specs.Entries.{heads_at}
use Rattle.au_caps_text.specs.Views.{texts_in}
use Rattle.au_caps_lists.proofs.entries.push_heads.Given as goal

-- the heads so far
abbrev pub invariant-loop-place : goal.invariant-loop-place
invariant-loop-place l =
    texts_in l.made.items
    ≡ texts_in l.fn.made.items
    ++ heads_at (slots.modules l.program) l.reaching (take l.place-index l.places)
