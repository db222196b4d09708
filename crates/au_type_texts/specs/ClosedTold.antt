-- Where texts tell closed types apart.
use Rattle.std.specs.Prelude.{◌≡◌, List, IsTrue, is_some}
use Rattle.au_types.specs.declared.headings.Head.{Head}
use Rattle.au_types.specs.declared.types.DeclAt.{DeclAt}
use Rattle.au_types.specs.Rows.{head_of}
use Rattle.au_type_texts.specs.Told.{AreTold}
use Rattle.au_type_texts.specs.ClosedTexts.{text_of}
use Rattle.au_type_texts.specs.Types.{ClosedType, ClosedTypes, unit, truth, integer, text, named, reads}
use Rattle.au_type_texts.specs.Types.{writes, no_types, types}

module _ (rows : List (DeclAt × Head)) where
  abbrev mutual
    -- each declared type in a closed type has a row
    pub HasRows : ClosedType → Type 0
    HasRows unit = Unit {0}
    HasRows truth = Unit {0}
    HasRows (integer kind) = Unit {0}
    HasRows text = Unit {0}
    HasRows (named at args) = IsTrue (is_some (head_of rows at)) × HaveRows args
    HasRows (reads to) = HasRows to
    HasRows (writes to) = HasRows to

    -- the same of some
    pub HaveRows : ClosedTypes → Type 0
    HaveRows no_types = Unit {0}
    HaveRows (types one rest) = HasRows one × HaveRows rest

-- over rows of which the texts tell declarations apart, two closed types with one text are one type
abbrev pub ClosedTextsTell : Type 0
ClosedTextsTell =
    (rows : List (DeclAt × Head)) → AreTold rows
    → (t u : ClosedType) → HasRows rows t → HasRows rows u
    → text_of rows t ≡ text_of rows u → t ≡ u
