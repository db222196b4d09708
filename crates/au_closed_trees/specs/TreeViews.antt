-- What the code's closed notes say.
use Rattle.std.specs.Prelude.{ℕ}
use Rattle.au_type_texts.specs.Views.{closed_meaning}
use Rattle.au_closed_trees.specs.declared.notes.ClosedNote as found
use Rattle.au_closed_trees.specs.declared.notes.Callee as found_callee
use Rattle.au_closed_trees.specs.declared.notes.Callee.TheVariants as code
use Rattle.au_closed_trees.specs.ClosedNotes.{Callee, ClosedNote, constructor, instance, shipped}

-- a note of an expression
abbrev pub closed_note : found.ClosedNote → ClosedNote
closed_note n = record { of = closed_meaning n.of; free = n.free; literal = n.literal }

-- what a call leads to
abbrev pub callee : found_callee.Callee → Callee ℕ
callee (code.Instance number) = instance number
callee (code.Constructor of tag) = constructor (closed_meaning of) tag
callee (code.Shipped call) = shipped call
