-- Runs of a program with notes from an entry.
use Rattle.std.specs.Prelude.{ℕ, List, [], ◌∷◌, Option}
use Rattle.au_type_texts.specs.Types.{ClosedType}
use Rattle.au_modules.specs.Programs.{ModuleParts}
use Rattle.au_judged_bodies.specs.Trees.{NotedParts}
use Rattle.au_meaning.specs.Meanings.{mean}
use Rattle.au_judged_bodies.specs.Generic.{generic_functions}
use Rattle.au_judged_bodies.specs.Instances.{Instance}
use Rattle.au_judged_bodies.specs.Keys.{Key, ways}
use Rattle.au_judged_bodies.specs.Tables.{types_of}
use Rattle.au_judged_bodies.specs.Held.{Permits}
use Rattle.au_judged_programs.specs.Judged.{AreCovered, CallsRunInBodies, anything, anywhere}
use Rattle.au_sound.specs.Runs.{CallsHold, HoldsWhereCut, IsEntry, IsSeenWell}

-- Where calls run in the bodies of functions, every run from a way in which an entry is called is seen well,
-- whatever the input and however many ticks there are, and whichever numbers the first names of functions
-- have.
abbrev pub RunsAreSeenWell : List ModuleParts → List NotedParts → (ClosedType → Option (List ℕ)) → Type 0
RunsAreSeenWell program noted owner =
    CallsRunInBodies program noted (anything (Key program noted)) (anywhere (Key program noted)) owner
    → (first : Instance → ℕ) (key : Key program noted)
    → IsEntry (types_of program) owner (ways program noted) (generic_functions program noted first) key
    → (input : List ℕ) (ticks : ℕ)
    → IsSeenWell owner (mean (generic_functions program noted first) key.one input ticks)

-- Where what is permitted covers the bodies of functions too, names hold what is permitted wherever such a
-- run is cut off, and its oldest frame is that of the entry.
abbrev pub RunsHoldWell : (program : List ModuleParts) (noted : List NotedParts)
    → (ClosedType → Option (List ℕ)) → {W : Type 0} → Permits (Key program noted) W → Type 0
RunsHoldWell program noted owner permits =
    CallsRunInBodies program noted (anything (Key program noted)) (anywhere (Key program noted)) owner
    → AreCovered program noted (anything (Key program noted)) permits → (first : Instance → ℕ)
    (key : Key program noted)
    → IsEntry (types_of program) owner (ways program noted) (generic_functions program noted first) key
    → (input : List ℕ) (ticks : ℕ)
    → HoldsWhereCut (types_of program) owner permits (key ∷ [])
    (mean (generic_functions program noted first) key.one input ticks)

-- So do those of each call, wherever it is cut off, in its own frame what is permitted in the way in which
-- the function was called.
abbrev pub CallsHoldWell : (program : List ModuleParts) (noted : List NotedParts)
    → (ClosedType → Option (List ℕ)) → {W : Type 0} → Permits (Key program noted) W → Type 0
CallsHoldWell program noted owner permits =
    CallsRunInBodies program noted (anything (Key program noted)) (anywhere (Key program noted)) owner
    → AreCovered program noted (anything (Key program noted)) permits → (first : Instance → ℕ)
    → CallsHold (types_of program) owner permits (ways program noted) (generic_functions program noted first)
