-- What is refused of what comes along, and of items.
use Rattle.std.proofs.Common.{
  ◌≡◌,
  ℕ,
  ◌≤◌,
  Bool,
  true,
  false,
  ◌||◌,
  List,
  [],
  map,
  length,
  Option,
  None,
  Some,
  sym,
  ap,
  ◌∙◌,
  arith,
}
use Rattle.std.specs.Prelude.{slice_get}
use Rattle.std.specs.Option.{option_map, option_or}
use Rattle.std.proofs.lemmas.Option.{slice_get_past}
use Rattle.au_syntax.specs.declared.modules.Part.{Part}
use Rattle.au_syntax.specs.Names.{Renaming}
use Rattle.au_syntax.specs.Plain.{Bytes, PlainDeclaration, PlainModule}
use Rattle.au_types.specs.declared.spaces.Space.{Space}
use Rattle.au_types.specs.declared.spaces.Space.TheVariants.{Values, Callables, Types}
use Rattle.au_types.specs.DeclaredNames.{names_in, table_of}
use Rattle.au_types.specs.DeclaredNames as names
use Rattle.au_types.specs.Tables.{find}
use Rattle.au_types.proofs.TableLemmas.{find-firsts}
use Rattle.au_modules.specs.Programs.{ModuleParts}
use Rattle.au_modules.specs.Seen.{interface_tree}
use Rattle.au_names.specs.declared.targets.Target.{Target}
use Rattle.au_names.specs.Exporting.{declarations_seen, members_at}
use Rattle.au_names.specs.Importing.{along, members, members_of}
use Rattle.au_names.specs.Owned.{declarations_in, interface_of, targets}
use Rattle.au_names.proofs.ExportLemmas.{interface_seen}
use Rattle.au_names.proofs.ImportLemmas.{along_is, declaration_seen}
use Rattle.au_imports.specs.Choices.{first_of, where_so}
use Rattle.au_imports.specs.Clashing.{first_offered, last_offered}
use Rattle.au_imports.specs.NameFaults.{
  found_clashes,
  given,
  is_apart,
  is_hidden,
  item_clashes,
  item_fault,
  member_fault,
}
use Rattle.au_imports.specs.declared.name_faults.NameFault.TheVariants.{NotVisible, NameTwice}
use Rattle.au_imports.proofs.DeclaringLemmas.{first_none}

-- ---- what comes along

module _ {C : Type 0} (f : Bytes × Target → Option C) where
  -- past the declarations nothing is found
  pub members_past : {A B : Type 0} (p : B → PlainDeclaration) (v : A → B) (place number : ℕ) (xs : List A)
      → length xs ≤ number
      → None ≡ first_of f (members_at place number (map p (map v xs)))
  members_past p v place number xs past =
      sym (ap (λ o. first_of f (members_of place (option_map (λ d. (number, d)) o)))
      (declaration_seen p v xs number ∙ ap (λ o. option_map p (option_map v o))
      (slice_get_past xs number past)) ∙ first_none f)

  -- nor where there are none
  pub members_nowhere : (place number : ℕ) → None ≡ first_of f (members_at place number [])
  members_nowhere place number =
      sym (ap (λ o. first_of f (members_of place (option_map (λ d. (number, d)) o)))
      (slice_get_past [] number (omega arith)) ∙ first_none f)

  -- what is found of the declaration that stands there
  pub members_there : {A B : Type 0} (p : B → PlainDeclaration) (v : A → B)
      (place number : ℕ) (xs : List A) (x : A) → slice_get xs number ≡ Some x
      → first_of f (targets place (names.given number (members (p (v x)))))
      ≡ first_of f (members_at place number (map p (map v xs)))
  members_there p v place number xs x here =
      sym (ap (λ o. first_of f (members_of place (option_map (λ d. (number, d)) o)))
      (declaration_seen p v xs number ∙ ap (λ o. option_map p (option_map v o)) here))

  -- the number of the type that has the name
  type_found : (m : ModuleParts) (name : Bytes) → find name (table_of Types (interface_of m))
      ≡ first_offered Types m name
  type_found m name = find-firsts name (names_in Types (interface_of m))

  -- nothing is found where no type has the name
  pub along_none : (place : ℕ) (name : Bytes) (m : ModuleParts) → None ≡ first_offered Types m name
      → None ≡ first_of f (along place name (interface_of m))
  along_none place name m h =
      let nothing = rw (type_found m name ∙ sym h) at (along_is place name (declarations_in m.interface)) in
      sym (ap (first_of f) nothing ∙ first_none f)

  -- what is found of the type that has it
  pub along_some : (place : ℕ) (name : Bytes) (m : ModuleParts) (number : ℕ) (file : Option PlainModule)
      → Some number ≡ first_offered Types m name
      → file ≡ interface_tree (Some m) → first_of f (members_at place number (declarations_seen file))
      ≡ first_of f (along place name (interface_of m))
  along_some place name m number file h seen =
      let those = rw (type_found m name ∙ sym h) at (along_is place name (declarations_in m.interface)) in
      ap (λ ds. first_of f (members_at place number ds)) (ap declarations_seen seen ∙ sym (interface_seen m))
      ∙ sym (ap (first_of f) those)

-- ---- items

module _ (program : List ModuleParts) (place : ℕ) (m : ModuleParts) (part : Part)
    (from : ℕ) (other : ModuleParts) (item : Renaming Bytes) (space : Space) where
  module _ (first last : Option ℕ) (name : Bytes) (named : name ≡ item.name.name)
      (one : first ≡ first_offered space other name) (two : last ≡ last_offered space other name) where
    apart_is : is_apart first last ≡ is_apart (first_offered space other item.name.name)
        (last_offered space other item.name.name)
    apart_is = λ i. is_apart ((one ∙ ap (first_offered space other) named) i)
        ((two ∙ ap (last_offered space other) named) i)

    -- an item brings two different things into a space
    pub item_apart : is_apart first last ≡ true
        → true ≡ item_clashes program place m part from other item space
    item_apart h =
        ap (λ b. b || found_clashes program place m part from other space item.name.name
        (given item).name (first_offered space other item.name.name)) (sym h ∙ apart_is)

    -- or else what it brings decides
    pub item_found : (local : Bytes) (found : Bool) → is_apart first last ≡ false
        → local ≡ (given item).name → found ≡ found_clashes program place m part
        from other space name local first
        → found ≡ item_clashes program place m part from other item space
    item_found local found h locally is =
        is
        ∙ (λ i. found_clashes program place m part from other space (named i) (locally i)
        ((one ∙ ap (first_offered space other) named) i))
        ∙ ap (λ b. b || found_clashes program place m part from other space item.name.name
        (given item).name (first_offered space other item.name.name)) (sym h ∙ apart_is)

-- an item that isn't hidden and doesn't clash: what comes along decides
pub item_along : (program : List ModuleParts) (place : ℕ) (m : ModuleParts)
    (part : Part) (from : ℕ) (other : ModuleParts) (item : Renaming Bytes)
    → is_hidden program place m part from other item.name.name ≡ false
    → (item_clashes program place m part from other item Values
    || item_clashes program place m part from other item Callables
    || item_clashes program place m part from other item Types) ≡ false
    → first_of (member_fault program place m part from other item.name.at)
    (along from item.name.name (interface_of other)) ≡ item_fault program place m part from other item
item_along program place m part from other item seen good =
    let rest = first_of (member_fault program place m part from other item.name.at)
    (along from item.name.name (interface_of other)) in
    let any = item_clashes program place m part from other item Values
    || item_clashes program place m part from other item Callables
    || item_clashes program place m part from other item Types in
    let twice = NameTwice (given item).at (given item).name in
    sym (ap (λ b. option_or (where_so b (NotVisible item.name.at item.name.name))
    (option_or (where_so any twice) rest)) seen ∙ ap (λ b. option_or (where_so b twice) rest) good)
