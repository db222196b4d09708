use Rattle.std.proofs.Common.{◌≡◌, take}
use Rattle.au_modules.specs.Slots as slots
use Rattle.au_caps_lists.specs.Entries.{entries}
use Rattle.au_caps_lists.specs.Views.{mentions_said}
use Rattle.au_caps_text.specs.Views.{texts_in}
use Rattle.au_caps_lists.proofs.entries.entries_of.Given as goal

-- what the mentions so far add
abbrev pub invariant-loop-one : goal.invariant-loop-one
invariant-loop-one l =
    texts_in l.made.items
    ≡ entries (slots.modules l.program) l.reaching l.params (mentions_said (take l.one-index l.one-items))
