-- Files whose names are plain, as far as code has them, and the modules of such.
use Rattle.std.proofs.Common.{◌≡◌, Bool, true, Option, None, Some}
use Rattle.std.specs.List.{list_all}
use Rattle.au_syntax.specs.Plain.{PlainDeclaration, PlainModule}
use Rattle.au_syntax.specs.Sizes.{joined}
use Rattle.au_names.specs.DeclaredTypes.{DeclaredType, type_declared}
use Rattle.au_told.specs.Names.{IsPlain, is_plain}

-- whether the name of a type that is declared is plain
abbrev pub named_so : Option DeclaredType → Bool
named_so None = true
named_so (Some one) = list_all is_plain one.name

abbrev pub is_named : PlainDeclaration → Bool
is_named d = named_so (type_declared d)

-- The names that code has of a file are plain: that of its module, and those of the types that it declares.
pub record IsNamed (m : PlainModule) : Type 0 where
  pub home : IsPlain (joined m.name)
  pub types : list_all is_named m.declarations ≡ true
