-- What names are refused for: the first fault, modules by place, the interface of each before its body,
-- in the order of the text. Imports stand before declarations.
use Rattle.std.specs.Prelude.{◌+◌, ℕ, Bool, false, not, ◌||◌, ◌==◌, nat_lt, List, [], ◌∷◌, Option, None, Some}
use Rattle.std.specs.Prelude.{unwrap_or, is_some, slice_get, if◌then◌else◌}
use Rattle.std.specs.Option.{option_or}
use Rattle.au_base.specs.declared.places.Pos.{Pos}
use Rattle.au_syntax.specs.declared.modules.Part.{Part}
use Rattle.au_syntax.specs.declared.modules.Part.TheVariants.{Interface, Body}
use Rattle.au_syntax.specs.Modules.{Importing}
use Rattle.au_syntax.specs.Names.{Placed, Renaming}
use Rattle.au_syntax.specs.Plain.{Bytes, PlainDeclaration}
use Rattle.au_syntax.specs.Sizes.{joined}
use Rattle.au_types.specs.declared.spaces.Space.{Space}
use Rattle.au_types.specs.declared.spaces.Space.TheVariants.{Values, Callables, Types}
use Rattle.au_types.specs.declared.parameters.Parameter.{Parameter}
use Rattle.au_modules.specs.Programs.{Entry, ModuleParts}
use Rattle.au_names.specs.HeadsOf.{heads_of}
use Rattle.au_names.specs.declared.targets.Target.{Target}
use Rattle.au_names.specs.Importing.{along, place_of}
use Rattle.au_names.specs.Meanings.{declared_by, part_of, seen}
use Rattle.au_names.specs.Owned.{interface_of, target}
use Rattle.au_types.specs.Senses.{sense_of}
use Rattle.au_imports.specs.declared.name_faults.NameFault.{NameFault}
use Rattle.au_imports.specs.declared.name_faults.NameFault.TheVariants.{NoModule, Late, NotVisible, NameTwice}
use Rattle.au_promises.specs.declared.mentions.Mention.{Mention}
use Rattle.au_promises.specs.declared.mentions.Mention.TheVariants.{Declares, Writes}
use Rattle.au_imports.specs.Choices.{first_of, where_so}
use Rattle.au_imports.specs.Clashing.{declaration_clashes, first_offered, import_clashes, is_offered}
use Rattle.au_imports.specs.Clashing.{last_offered}
use Rattle.au_promises.specs.Mentions.{mentions, type_parameters}

-- the place of the first of names, or else this place
abbrev pub first_place : Pos → List (Placed Bytes) → Pos
first_place at [] = at
first_place at (name ∷ names) = name.at

-- the name that an item gives: that after its `as`, or its own
abbrev pub given : Renaming Bytes → Placed Bytes
given item = unwrap_or item.alias item.name

-- whether two numbers of declarations are there and aren't one
abbrev pub is_apart : Option ℕ → Option ℕ → Bool
is_apart (Some a) (Some b) = not (a == b)
is_apart a b = false

module _ (program : List ModuleParts) (place : ℕ) (m : ModuleParts) (part : Part) where
  -- ---- imports, of the module at another place

  module _ (from : ℕ) (other : ModuleParts) where
    -- no space of the other interface has the name
    abbrev pub is_hidden : Bytes → Bool
    is_hidden name = not (is_offered Values other name || is_offered Callables other name
        || is_offered Types other name)

    -- what is brought under a name, if anything is, clashes
    abbrev pub found_clashes : Space → Bytes → Bytes → Option ℕ → Bool
    found_clashes space name local None = false
    found_clashes space name local (Some number) = import_clashes program place m part space local
        (target from name number)

    -- An item brings two different things into a space, or something that clashes.
    abbrev pub item_clashes : Renaming Bytes → Space → Bool
    item_clashes item space =
        is_apart (first_offered space other item.name.name) (last_offered space other item.name.name)
        || found_clashes space item.name.name (given item).name (first_offered space other item.name.name)

    -- a case or a method that comes along clashes
    abbrev pub member_fault : Pos → Bytes × Target → Option NameFault
    member_fault at p = where_so (import_clashes program place m part Callables p.0 p.1) (NameTwice at p.0)

    -- An item: its own name in the other interface, then the name that it gives, and then what comes along,
    -- which stands at the item's first token.
    abbrev pub item_fault : Renaming Bytes → Option NameFault
    item_fault item =
        option_or (where_so (is_hidden item.name.name) (NotVisible item.name.at item.name.name))
        (option_or (where_so (item_clashes item Values || item_clashes item Callables
        || item_clashes item Types) (NameTwice (given item).at (given item).name))
        (first_of (member_fault item.name.at) (along from item.name.name (interface_of other))))

  -- the items of an import of the module at a place, if that is there
  abbrev pub items_fault : List (Renaming Bytes) → ℕ → Option ModuleParts → Option NameFault
  items_fault items from None = None
  items_fault items from (Some other) = first_of (item_fault from other) items

  -- an import: there is a module of the name, it stands before this one, and its items are good
  abbrev pub source_fault : Importing Bytes → Option ℕ → Option NameFault
  source_fault i None = Some (NoModule (first_place i.at i.from) (joined i.from))
  source_fault i (Some from) =
      if nat_lt from place then items_fault i.items from (slice_get program from)
      else Some (Late (first_place i.at i.from) (joined i.from))

  abbrev pub import_fault : Importing Bytes → Option NameFault
  import_fault i = source_fault i (place_of program (joined i.from))

  -- ---- declarations

  -- a name means nothing among types, classes and regions, in the scope of type parameters
  abbrev pub means_nothing : List Parameter → Bytes → Bool
  means_nothing parameters name =
      not (is_some (sense_of [] parameters (declared_by (seen Types program place m part))
      (heads_of program) name))

  -- a name in a declaration with these type parameters
  abbrev pub mention_fault : List Parameter → Mention → Option NameFault
  mention_fault parameters (Declares space name at) =
      where_so (declaration_clashes program place m part space name) (NameTwice at name)
  mention_fault parameters (Writes name at) = where_so (means_nothing parameters name) (NotVisible at name)

  -- a declaration
  abbrev pub declaration_fault : PlainDeclaration → Option NameFault
  declaration_fault d = first_of (mention_fault (type_parameters d)) (mentions d)

  -- ---- the part, if the module has it

  abbrev pub file_fault : Option Entry → Option NameFault
  file_fault None = None
  file_fault (Some e) = option_or (first_of import_fault e.tree.imports)
      (first_of declaration_fault e.tree.declarations)

-- a part of the module at a place
abbrev pub part_fault : List ModuleParts → ℕ → ModuleParts → Part → Option NameFault
part_fault program place m part = file_fault program place m part (part_of part m)

-- the module at a place
abbrev pub module_fault : List ModuleParts → ℕ → ModuleParts → Option NameFault
module_fault program place m = option_or (part_fault program place m Interface)
    (part_fault program place m Body)

-- the modules from a place on
unfoldable pub faults_from : List ModuleParts → ℕ → List ModuleParts → Option NameFault
faults_from program place [] = None
faults_from program place (m ∷ ms) = option_or (module_fault program place m)
    (faults_from program (place + 1) ms)

-- what a program is refused for
abbrev pub name_fault : List ModuleParts → Option NameFault
name_fault program = faults_from program 0 program
