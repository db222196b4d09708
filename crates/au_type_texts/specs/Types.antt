-- What a closed type means, as a tree without pointers: a type without type parameters and regions.
use Rattle.au_base.specs.declared.kinds.IntKind.{IntKind}
use Rattle.au_types.specs.declared.types.DeclAt.{DeclAt}

mutual
  -- a closed type
  pub data ClosedType : Type 0 where
    unit : ClosedType
    truth : ClosedType
    integer : IntKind → ClosedType
    text : ClosedType
    named : DeclAt → ClosedTypes → ClosedType
    reads : ClosedType → ClosedType
    writes : ClosedType → ClosedType

  -- closed types in order
  pub data ClosedTypes : Type 0 where
    no_types : ClosedTypes
    types : ClosedType → ClosedTypes → ClosedTypes
