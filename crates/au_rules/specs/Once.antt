-- The rule as it reads: no name is declared again in its space while it is in scope, and no field within its
-- record or case. What is declared at the top of a module is in scope in all of both its parts, before it
-- too, and the later name in the text is the one that is declared again; the interface stands before the
-- body. A definition of what the interface promises isn't declared again; a second one is.
use Rattle.std.specs.Prelude.{◌≡◌, ◌⊎◌, ◌≤◌, ◌+◌, ℕ, Bool, List, [], ◌∷◌, ◌++◌, Some, Contains, IsTrue}
use Rattle.std.specs.Prelude.{slice_get}
use Rattle.std.specs.List.{flat_map}
use Rattle.au_base.specs.declared.places.Pos.{Pos}
use Rattle.au_syntax.specs.declared.modules.Part.{Part}
use Rattle.au_syntax.specs.declared.modules.Part.TheVariants.{Interface, Body}
use Rattle.au_syntax.specs.Plain.{Bytes}
use Rattle.au_modules.specs.Programs.{ModuleParts}
use Rattle.au_names.specs.Meanings.{part_of}
use Rattle.au_names.specs.Owned.{declarations_in}
use Rattle.au_rules.specs.declared.marks.Kind.{Kind}
use Rattle.au_rules.specs.declared.marks.Mark.{Mark}
use Rattle.au_rules.specs.declared.marks.Mark.TheVariants.{Opens, Closes, Declares}
use Rattle.au_rules.specs.declared.marks.Role.{Role}
use Rattle.au_rules.specs.declared.marks.Role.TheVariants.{Local, Whole, Promise, Definition}
use Rattle.au_rules.specs.Marks.{marks}
use Rattle.au_rules.specs.Outside.{outside}

-- how many blocks begin among marks, and how many end
abbrev pub opened : List Mark → ℕ
opened [] = 0
opened (Opens ∷ rest) = 1 + opened rest
opened (m ∷ rest) = opened rest

abbrev pub closed : List Mark → ℕ
closed [] = 0
closed (Closes ∷ rest) = 1 + closed rest
closed (m ∷ rest) = closed rest

-- A block that is open before marks is open behind them: up to no place among them more blocks end than
-- begin.
abbrev pub StaysOpen : List Mark → Type 0
StaysOpen between = (first rest : List Mark) → between ≡ first ++ rest → closed first ≤ opened first

-- A name is declared among marks, in this role.
abbrev pub IsDeclared : List Mark → Role → Kind → Bytes → Type 0
IsDeclared before role kind name = (at : Pos) × Contains before (Declares role kind name at)

-- A local name is declared among marks, and its block is still open behind them.
abbrev pub IsInBlock : List Mark → Kind → Bytes → Type 0
IsInBlock before kind name =
    (first between : List Mark) × (at : Pos) × (before ≡ first ++ Declares Local kind name at ∷ between)
    × StaysOpen between

-- A name is declared among marks, at the top of the module.
abbrev pub IsAtTop : List Mark → Kind → Bytes → Type 0
IsAtTop before kind name =
    IsDeclared before Whole kind name
    ⊎ (IsDeclared before Promise kind name ⊎ IsDeclared before Definition kind name)

-- Behind marks, the interface has promised a name and the body hasn't defined it.
abbrev pub IsDue : List Mark → Kind → Bytes → Type 0
IsDue before kind name = IsDeclared before Promise kind name × ¬ IsDeclared before Definition kind name

-- Among marks, a name isn't declared at all.
abbrev pub IsUnknown : List Mark → Kind → Bytes → Type 0
IsUnknown before kind name = (role : Role) → ¬ IsDeclared before role kind name

module _ (foreign : Kind → Bytes → Bool) where
  -- A name that is declared behind marks isn't declared again. A local one isn't in scope there: neither from
  -- elsewhere, nor at the top of the module, nor in a block that is open. One at the top isn't declared
  -- before, or it defines what is due.
  abbrev pub IsNew : List Mark → Role → Kind → Bytes → Type 0
  IsNew before Local kind name = (¬ IsTrue (foreign kind name)) × (¬ IsAtTop before kind name)
      × (¬ IsInBlock before kind name)
  IsNew before Whole kind name = IsUnknown before kind name
  IsNew before Promise kind name = IsUnknown before kind name
  IsNew before Definition kind name = IsUnknown before kind name ⊎ IsDue before kind name

  -- No name of some marks is declared again, behind others.
  abbrev pub AreNew : List Mark → List Mark → Type 0
  AreNew before new =
      (first rest : List Mark) (role : Role) (kind : Kind) (name : Bytes) (at : Pos)
      → new ≡ first ++ Declares role kind name at ∷ rest → IsNew (before ++ first) role kind name

-- what the text of a part of a module says
abbrev pub text_of : Part → ModuleParts → List Mark
text_of part m = flat_map (marks part) (declarations_in (part_of part m))

-- No name of the module at a place is declared again.
pub record NamesAreOnce (program : List ModuleParts) (place : ℕ) (m : ModuleParts) : Type 0 where
  pub interface : AreNew (outside program place m Interface) [] (text_of Interface m)
  pub body : AreNew (outside program place m Body) (text_of Interface m) (text_of Body m)

-- No name of a program is declared again.
abbrev pub AllNamesAreOnce : List ModuleParts → Type 0
AllNamesAreOnce program = (place : ℕ) (m : ModuleParts) → slice_get program place ≡ Some m
    → NamesAreOnce program place m
