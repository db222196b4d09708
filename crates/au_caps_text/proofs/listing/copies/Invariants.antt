use Rattle.std.proofs.Common.{◌≡◌, take}
use Rattle.au_caps_text.specs.Views.{texts_in}
use Rattle.au_caps_text.proofs.listing.copies.Given as goal

-- the texts so far
abbrev pub invariant-loop-one : goal.invariant-loop-one
invariant-loop-one l = l.made.items ≡ texts_in (take l.one-index l.texts)
