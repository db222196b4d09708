-- When the written types of two instances, one of the interface and one of the body, are the same: word for
-- word, or where both mean nothing. Two words are the same where both mean one declaration, or where neither
-- means any and they are written alike. So type parameters go by their names, whatever their universes and
-- constraints are.
use Rattle.std.specs.Prelude.{Bool, true, false, ◌&&◌, ◌||◌, List, [], Option, None, Some}
use Rattle.au_syntax.specs.declared.types.Access.{Access}
use Rattle.au_syntax.specs.declared.types.Access.TheVariants as access
use Rattle.au_syntax.specs.Plain.{Bytes}
use Rattle.au_syntax.specs.Types.{WrittenType, WrittenTypes, named, reference, no_types, types}
use Rattle.au_types.specs.declared.headings.Head.{Head}
use Rattle.au_types.specs.declared.parameters.Parameter.{Parameter}
use Rattle.au_types.specs.declared.types.DeclAt.{DeclAt}
use Rattle.au_types.specs.Types.{Meaning}
use Rattle.au_types.specs.Meant.{meant}
use Rattle.au_types.specs.Senses.{Sense, declared, a_class, sense_of}
use Rattle.au_promises.specs.Agreeing.{same_declaration, Sight}

-- the declaration of what a name means, if it has one: type parameters and what is built in have none
abbrev pub declaration_of : Option Sense → Option DeclAt
declaration_of (Some (declared at expected)) = Some at
declaration_of (Some (a_class at)) = Some at
declaration_of other = None

-- the declaration that a name means among type parameters, names and rows, if it means one
abbrev pub declaration_meant : List Parameter → List (Bytes × DeclAt) → List (DeclAt × Head)
    → Bytes → Option DeclAt
declaration_meant scope visible rows name = declaration_of (sense_of [] scope visible rows name)

-- two kinds of references
abbrev pub same_access : Access → Access → Bool
same_access access.Read access.Read = true
same_access access.Write access.Write = true
same_access a b = false

-- neither of two types is meant
abbrev pub neither : Option Meaning → Option Meaning → Bool
neither None None = true
neither a b = false

-- what the instance of the interface has behind its `generic`, and what that of the body has
module _ (sight : Sight) (scope other : List Parameter) where
  -- a word of the interface and one of the body
  abbrev pub same_word : Bytes → Bytes → Bool
  same_word a b = same_declaration a b (declaration_meant scope sight.interface sight.rows a)
      (declaration_meant other sight.body sight.rows b)

  -- the signs of two references, and their regions
  abbrev pub same_sign : Access → Bytes → Access → Bytes → Bool
  same_sign kind region its other = same_access kind its && same_word region other

  abbrev mutual
    -- a written type of the interface and one of the body, word for word
    pub same_wording : WrittenType → WrittenType → Bool
    same_wording (named a args) (named b others) = same_word a.name b.name && same_wordings args others
    same_wording (reference at kind t r) (reference by its u s) = same_sign kind r.name its s.name
        && same_wording t u
    same_wording t u = false

    -- arguments, each with that in its place
    pub same_wordings : WrittenTypes → WrittenTypes → Bool
    same_wordings no_types no_types = true
    same_wordings (types t rest) (types u others) = same_wording t u && same_wordings rest others
    same_wordings rest others = false

  -- a written type of the interface and one of the body both mean nothing
  abbrev pub neither_means : WrittenType → WrittenType → Bool
  neither_means t u = neither (meant [] scope sight.interface sight.rows t)
      (meant [] other sight.body sight.rows u)

  -- a written type of the interface and one of the body: word for word, or both mean nothing
  abbrev pub same_written : WrittenType → WrittenType → Bool
  same_written t u = same_wording t u || neither_means t u
