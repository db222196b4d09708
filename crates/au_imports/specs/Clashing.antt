-- Second meanings. No name means two different declarations in one space of which at least one is
-- imported or pervasive. The later in the text is refused, so it is compared with what comes before it:
-- what is pervasive, what the imports of its part bring under the name before it, and in a body what the
-- interface declares. The first that imports bring under a name speaks for all before it, since
-- an import that brings another is refused itself.
use Rattle.std.specs.Prelude.{ℕ, Bool, false, not, ◌||◌, ◌&&◌, ◌==◌, List, Option, None, Some, slice_get}
use Rattle.std.specs.Prelude.{reverse}
use Rattle.std.specs.Option.{option_map}
use Rattle.std.specs.Str.{bytes_eq}
use Rattle.au_syntax.specs.declared.modules.Part.{Part}
use Rattle.au_syntax.specs.declared.modules.Part.TheVariants.{Interface, Body}
use Rattle.au_syntax.specs.Plain.{Bytes}
use Rattle.au_types.specs.declared.spaces.Space.{Space}
use Rattle.au_types.specs.declared.spaces.Space.TheVariants.{Values, Callables, Types}
use Rattle.au_types.specs.DeclaredNames.{names_in}
use Rattle.au_types.specs.Tables.{find, has_name}
use Rattle.au_types.specs.Rows.{same_place}
use Rattle.au_modules.specs.Programs.{ModuleParts}
use Rattle.au_names.specs.declared.targets.Target.{Target}
use Rattle.au_names.specs.Importing.{imported}
use Rattle.au_names.specs.Meanings.{imports_in, part_of}
use Rattle.au_names.specs.Owned.{interface_of, target}
use Rattle.au_types.specs.Senses.{built_in}

-- whether two meanings are one
abbrev pub same_target : Target → Target → Bool
same_target a b = same_place a.at b.at && bytes_eq a.name b.name

-- something is meant, and it is something else
abbrev pub is_other : Option Target → Target → Bool
is_other None t = false
is_other (Some other) t = not (same_target other t)

-- the names that are built in are types and regions
abbrev pub is_built_in : Space → Bytes → Bool
is_built_in Values name = false
is_built_in Callables name = false
is_built_in Types name = has_name name built_in

-- the names of a space that the interface of a module declares, with the numbers of their declarations
abbrev pub offered_names : Space → ModuleParts → List (Bytes × ℕ)
offered_names space m = names_in space (interface_of m)

-- a name is declared in the interface of a module
abbrev pub is_offered : Space → ModuleParts → Bytes → Bool
is_offered space m name = has_name name (offered_names space m)

-- the number of the first declaration of an interface that brings in a name, and that of the last
abbrev pub first_offered : Space → ModuleParts → Bytes → Option ℕ
first_offered space m name = find name (offered_names space m)

abbrev pub last_offered : Space → ModuleParts → Bytes → Option ℕ
last_offered space m name = find name (names_in space (reverse (interface_of m)))

-- what a name first means by an interface of the module at a place
abbrev pub first_target : Space → ℕ → ModuleParts → Bytes → Option Target
first_target space place m name = option_map (λ number. target place name number) (first_offered space m name)

-- what is pervasive under a name, which the module at the first place declares
abbrev pub pervasive_target : Space → Option ModuleParts → Bytes → Option Target
pervasive_target space None name = None
pervasive_target space (Some m) name = first_target space 0 m name

-- a name is pervasive
abbrev pub is_pervasive : Space → Option ModuleParts → Bytes → Bool
is_pervasive space None name = false
is_pervasive space (Some m) name = is_offered space m name

module _ (program : List ModuleParts) (place : ℕ) (m : ModuleParts) where
  -- what the imports of a part bring into a space
  abbrev pub brought_to : Part → Space → List (Bytes × Target)
  brought_to part space = imported space program place (imports_in (part_of part m))

  -- the interface stands before the body
  abbrev pub is_declared_before : Part → Space → Bytes → Bool
  is_declared_before Interface space name = false
  is_declared_before Body space name = is_offered space m name

  -- an import of a part brings this under a name that means something else before it
  abbrev pub import_clashes : Part → Space → Bytes → Target → Bool
  import_clashes part space name t =
      is_built_in space name
      || is_other (pervasive_target space (slice_get program 0) name) t
      || is_other (find name (brought_to part space)) t
      || is_declared_before part space name

  -- the imports of a part and of those before it, which all stand before its declarations
  abbrev pub is_brought_before : Part → Space → Bytes → Bool
  is_brought_before Interface space name = has_name name (brought_to Interface space)
  is_brought_before Body space name = has_name name (brought_to Interface space)
      || has_name name (brought_to Body space)

  -- A declaration of a part brings in a name that means something before it that no declaration of its
  -- own module is. What the first module declares is itself pervasive.
  abbrev pub declaration_clashes : Part → Space → Bytes → Bool
  declaration_clashes part space name =
      is_built_in space name
      || (not (place == 0) && is_pervasive space (slice_get program 0) name)
      || is_brought_before part space name
