-- What a type means, as a tree without pointers: two types are one type where their trees are equal.
use Rattle.std.specs.Prelude.{ℕ, List}
use Rattle.au_base.specs.declared.kinds.IntKind.{IntKind}
use Rattle.au_types.specs.declared.types.DeclAt.{DeclAt}
use Rattle.au_types.specs.declared.types.Region.{Region}

mutual
  -- a type
  pub data Meaning : Type 0 where
    unit : Meaning
    truth : Meaning
    integer : IntKind → Meaning
    text : Meaning
    parameter : List ℕ → Meaning
    named : DeclAt → Arguments → Meaning
    reads : Meaning → Region → Meaning
    writes : Meaning → Region → Meaning

  -- an argument of a declared type: a type or a region
  pub data Argument : Type 0 where
    of_type : Meaning → Argument
    in_region : Region → Argument

  -- the arguments of a declared type, in order
  pub data Arguments : Type 0 where
    no_arguments : Arguments
    arguments : Argument → Arguments → Arguments
