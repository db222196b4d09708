-- What an import brings. A name of the other module's interface brings whatever is declared there under
-- it, in each space. A union brings its cases along, and a class its methods, under their own names. A
-- record's constructor has the record's name, and comes under the name that the import gives. An opaque
-- type has no constructor in the interface, so that none comes.
use Rattle.std.specs.Prelude.{ℕ, Bool, nat_lt, List, [], ◌++◌, map, filter, find, Option, None, Some}
use Rattle.std.specs.Prelude.{unwrap_or, position, slice_get, if◌then◌else◌}
use Rattle.std.specs.List.{flat_map, list_any}
use Rattle.std.specs.Option.{option_map}
use Rattle.std.specs.Str.{bytes_eq}
use Rattle.au_syntax.specs.Modules.{Importing, Variant, Header, union_type, class}
use Rattle.au_syntax.specs.Names.{Placed, Renaming}
use Rattle.au_syntax.specs.Plain.{Bytes, PlainDeclaration}
use Rattle.au_syntax.specs.Sizes.{joined}
use Rattle.au_types.specs.declared.spaces.Space.{Space}
use Rattle.au_types.specs.declared.spaces.Space.TheVariants.{Values, Callables, Types}
use Rattle.au_types.specs.DeclaredNames.{given, declared_names}
use Rattle.au_modules.specs.Programs.{ModuleParts}
use Rattle.au_names.specs.declared.targets.Target.{Target}
use Rattle.au_names.specs.Owned.{exported, interface_of, targets}

-- the cases of a union, and the methods of a class, which come along with it
abbrev pub members : PlainDeclaration → List Bytes
members (union_type at name parameters universe cases) = map (λ (c : Variant Bytes). c.name.name) cases
members (class at name parameter methods) = map (λ (h : Header Bytes). h.name.name) methods
members other = []

-- a declaration is a type or a class of this name
abbrev pub is_type : Bytes → ℕ × PlainDeclaration → Bool
is_type name d = list_any (bytes_eq name) (declared_names Types d.1)

-- the name under which an item brings what it names: that after its `as`, or its own
abbrev pub given_name : Renaming Bytes → Bytes
given_name item = unwrap_or (option_map (λ (alias : Placed Bytes). alias.name) item.alias) item.name.name

-- what has this name, under another
abbrev pub renamed : Bytes → Bytes → List (Bytes × Target) → List (Bytes × Target)
renamed name local offered = map (λ p. (local, p.1)) (filter (λ p. bytes_eq name p.0) offered)

-- the cases or methods of a declaration that is found in the module at this place
abbrev pub members_of : ℕ → Option (ℕ × PlainDeclaration) → List (Bytes × Target)
members_of place None = []
members_of place (Some d) = targets place (given d.0 (members d.1))

-- The cases and methods that come along under a name from the module at this place: those of the type or
-- class that has it there. Of two of one name the first counts.
abbrev pub along : ℕ → Bytes → List (ℕ × PlainDeclaration) → List (Bytes × Target)
along place name offered = members_of place (find (is_type name) offered)

-- what an item brings from the module at this place, into a space
abbrev pub brought : Space → ℕ → ModuleParts → Renaming Bytes → List (Bytes × Target)
brought Values place m item = renamed item.name.name (given_name item) (exported Values place m)
brought Callables place m item =
    renamed item.name.name (given_name item) (exported Callables place m)
    ++ along place item.name.name (interface_of m)
brought Types place m item = renamed item.name.name (given_name item) (exported Types place m)

-- the place of the module of this name
abbrev pub place_of : List ModuleParts → Bytes → Option ℕ
place_of program name = position (λ (m : ModuleParts). bytes_eq name m.name) program

-- the module at a place, with it, if it stands before another place
abbrev pub earlier : List ModuleParts → ℕ → Option ℕ → Option (ℕ × ModuleParts)
earlier program place None = None
earlier program place (Some other) =
    if nat_lt other place then option_map (λ m. (other, m)) (slice_get program other) else None

-- the module that an import names, with its place, if it stands before this place
abbrev pub source : List ModuleParts → ℕ → Importing Bytes → Option (ℕ × ModuleParts)
source program place i = earlier program place (place_of program (joined i.from))

-- what items bring from a module, if there is one
abbrev pub brought_from : Space → List (Renaming Bytes) → Option (ℕ × ModuleParts) → List (Bytes × Target)
brought_from space items None = []
brought_from space items (Some other) = flat_map (brought space other.0 other.1) items

-- what an import in the module at this place brings
abbrev pub brings : Space → List ModuleParts → ℕ → Importing Bytes → List (Bytes × Target)
brings space program place i = brought_from space i.items (source program place i)

-- what the imports of a file bring, in the order of the text
abbrev pub imported : Space → List ModuleParts → ℕ → List (Importing Bytes) → List (Bytes × Target)
imported space program place imports = flat_map (brings space program place) imports
