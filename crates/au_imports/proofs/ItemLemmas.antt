-- What an import is refused for, by the names that it brings.
use Rattle.std.proofs.Common.{
  ◌≡◌,
  ℕ,
  ◌⊎◌,
  inl,
  inr,
  Bool,
  true,
  false,
  not,
  ◌||◌,
  List,
  Option,
  Some,
  None,
  refl,
  ap,
  sym,
  ◌∙◌,
  subst,
  unwrap_or,
}
use Rattle.std.specs.Prelude.{if◌then◌else◌, nat_lt, slice_get}
use Rattle.std.specs.Option.{option_map, option_or}
use Rattle.std.specs.Str.{bytes_eq}
use Rattle.std.proofs.lemmas.Bool.{
  and_parts,
  and_from,
  lt-ltb,
  ltb-true,
  not-false,
  not_from_true,
  or_cases,
  or_from,
  or_left,
  or_parts,
  or_right,
}
use Rattle.std.proofs.lemmas.Option.{none-some}
use Rattle.std.proofs.lemmas.Slice.Eq.{bytes_eq-Decides}
use Rattle.au_base.proofs.OptionLemmas.{or_first, or_second, or_neither}
use Rattle.au_syntax.specs.declared.modules.Part.{Part}
use Rattle.au_syntax.specs.Modules.{Importing}
use Rattle.au_syntax.specs.Names.{Placed, Renaming}
use Rattle.au_syntax.specs.Plain.{Bytes}
use Rattle.au_syntax.specs.Sizes.{joined}
use Rattle.au_types.specs.declared.spaces.Space.{Space}
use Rattle.au_types.specs.declared.spaces.Space.TheVariants.{Values, Callables, Types}
use Rattle.au_types.specs.DeclaredNames.{names_in}
use Rattle.au_types.specs.Tables.{find}
use Rattle.au_types.specs.Rows.{same_place}
use Rattle.au_types.proofs.SameLemmas.{place_is, place_self}
use Rattle.au_modules.specs.Programs.{ModuleParts}
use Rattle.au_names.specs.declared.targets.Target.{Target}
use Rattle.au_names.specs.Importing.{along, brought, given_name, place_of, renamed}
use Rattle.au_names.specs.Owned.{declarations_in, exported, interface_of, target}
use Rattle.au_imports.specs.declared.name_faults.NameFault.{NameFault}
use Rattle.au_imports.specs.declared.name_faults.NameFault.TheVariants.{Late, NotVisible, NameTwice}
use Rattle.au_imports.specs.Choices.{first_of, where_so}
use Rattle.au_imports.specs.Clashing.{
  same_target,
  is_other,
  is_built_in,
  is_offered,
  first_offered,
  last_offered,
  pervasive_target,
  brought_to,
  is_declared_before,
  import_clashes,
}
use Rattle.au_imports.specs.NameFaults.{
  first_place,
  given,
  is_apart,
  is_hidden,
  found_clashes,
  item_clashes,
  member_fault,
  item_fault,
  items_fault,
  source_fault,
  import_fault,
}
use Rattle.au_imports.specs.Good.{IsOffered, IsSourced}
use Rattle.au_names.proofs.AmongLemmas.{Among, among, among-append, among-append_left}
use Rattle.au_names.proofs.AmongLemmas.{among-append_right}
use Rattle.au_imports.proofs.ChoiceLemmas.{first_from, first_to, so_from, so_to, found_among, among_found}
use Rattle.au_imports.proofs.NumberLemmas.{one_number, one_number_to}
use Rattle.au_imports.proofs.SourceLemmas.{renamed_among, renamed_from, place_there}

-- ---- one meaning

target_is : (a b : Target) → same_target a b ≡ true → a ≡ b
target_is a b h =
    let both = and_parts (same_place a.at b.at) (bytes_eq a.name b.name) h in
    let place : a.at ≡ b.at = place_is a.at b.at both.0 in
    let name : a.name ≡ b.name = (bytes_eq-Decides a.name b.name).0 both.1 in
    λ j. record { at = place j; name = name j }

target_self : (a : Target) → same_target a a ≡ true
target_self a = and_from (same_place a.at a.at) (bytes_eq a.name a.name)
    (place_self a.at) ((bytes_eq-Decides a.name a.name).1 refl)

pub other_from : (o : Option Target) (t u : Target) → is_other o t ≡ false → o ≡ Some u → u ≡ t
other_from o t u h is =
    let same : not (same_target u t) ≡ false = sym (ap (λ p. is_other p t) is) ∙ h in
    target_is u t (not-false (same_target u t) same)

pub other_to : (o : Option Target) (t : Target) → ((u : Target) → o ≡ Some u → u ≡ t) → is_other o t ≡ false
other_to None t h = refl
other_to (Some u) t h = not_from_true (same_target u t)
    (subst (λ v. same_target u v ≡ true) (h u refl) (target_self u))

-- the name that an item gives
given_is : (item : Renaming Bytes) → (given item).name ≡ given_name item
given_is item = by item.alias
  where
    by : (o : Option (Placed Bytes)) → (unwrap_or o item.name).name
        ≡ unwrap_or (option_map (λ (alias : Placed Bytes). alias.name) o) item.name.name
    by None = refl
    by (Some alias) = refl

late : {A : Type 0} (b : Bool) (o : Option A) (x : A) → (if b then o else Some x) ≡ None
    → (b ≡ true) × (o ≡ None)
late true o x h = (refl, h)
late false o x h = absurd (none-some x (sym h))

module _ (program : List ModuleParts) (place : ℕ) (m : ModuleParts) (part : Part) where
  -- ---- the parts of a test

  -- what is brought under a name clashes with nothing
  pub record IsAlone (space : Space) (name : Bytes) (t : Target) : Type 0 where
    pub built_in : is_built_in space name ≡ false
    pub pervasive : is_other (pervasive_target space (slice_get program 0) name) t ≡ false
    pub brought : is_other (find name (brought_to program place m part space)) t ≡ false
    pub declared : is_declared_before program place m part space name ≡ false

  pub alone_from : (space : Space) (name : Bytes) (t : Target)
      → import_clashes program place m part space name t ≡ false → IsAlone space name t
  alone_from space name t h =
      let a = is_built_in space name in
      let b = is_other (pervasive_target space (slice_get program 0) name) t in
      let c = is_other (find name (brought_to program place m part space)) t in
      let d = is_declared_before program place m part space name in
      let one = or_parts (a || b || c) d h in
      let two = or_parts (a || b) c one.0 in
      let three = or_parts a b two.0 in
      record { built_in = three.0; pervasive = three.1; brought = two.1; declared = one.1 }

  pub alone_to : (space : Space) (name : Bytes) (t : Target) → IsAlone space name t
      → import_clashes program place m part space name t ≡ false
  alone_to space name t h =
      let a = is_built_in space name in
      let b = is_other (pervasive_target space (slice_get program 0) name) t in
      let c = is_other (find name (brought_to program place m part space)) t in
      let d = is_declared_before program place m part space name in
      or_from (a || b || c) d (or_from (a || b) c (or_from a b h.built_in h.pervasive) h.brought) h.declared

  -- nothing that imports of the part bring clashes
  abbrev pub AreAlone : Type 0
  AreAlone = (space : Space) (p : Bytes × Target) → Among p (brought_to program place m part space)
      → import_clashes program place m part space p.0 p.1 ≡ false

  -- two that are brought under a name are one
  pub one_brought : AreAlone → (space : Space) (name : Bytes) (t u : Target)
      → Among (name, t) (brought_to program place m part space)
      → Among (name, u) (brought_to program place m part space) → t ≡ u
  one_brought alone space name t u first second =
      let pairs = brought_to program place m part space in
      let found = among_found name pairs t first in
      let here : found.0 ≡ t = other_from (find name pairs) t found.0
      (alone_from space name t (alone space (name, t) first)).brought found.1 in
      let there : found.0 ≡ u = other_from (find name pairs) u found.0
      (alone_from space name u (alone space (name, u) second)).brought found.1 in
      sym here ∙ there

  -- ---- an item

  module _ (from : ℕ) (other : ModuleParts) where
    -- the items of an import bring no more than the part's imports
    abbrev Brings : Renaming Bytes → Type 0
    Brings item = (space : Space) (p : Bytes × Target) → Among p (brought space from other item)
        → Among p (brought_to program place m part space)

    space_from : (space : Space) (item : Renaming Bytes)
        → item_clashes program place m part from other item space ≡ false
        → (p : Bytes × Target)
        → Among p (renamed item.name.name (given_name item) (exported space from other))
        → import_clashes program place m part space p.0 p.1 ≡ false
    space_from space item h p n =
        let name = item.name.name in
        let first = first_offered space other name in
        let last = last_offered space other name in
        let parts = or_parts (is_apart first last) (found_clashes program place m part from other space name
        (given item).name first) h in
        let found = renamed_among from name (given_name item) (names_in space (interface_of other)) p n in
        let is : first ≡ Some found.0 = one_number space (declarations_in other.interface)
        name found.0 parts.0 found.1 in
        ap (λ q. import_clashes program place m part space q.0 q.1) (sym found.2)
        ∙ ap (λ l. import_clashes program place m part space l (target from name found.0))
        (sym (given_is item))
        ∙ sym (ap (found_clashes program place m part from other space name (given item).name) is)
        ∙ parts.1

    found_to : (space : Space) (name local : Bytes) (o : Option ℕ)
        → ((number : ℕ) → o ≡ Some number → import_clashes program place m part space local
        (target from name number) ≡ false)
        → found_clashes program place m part from other space name local o ≡ false
    found_to space name local None h = refl
    found_to space name local (Some number) h = h number refl

    space_to : AreAlone → (space : Space) (item : Renaming Bytes)
        → ((p : Bytes × Target)
        → Among p (renamed item.name.name (given_name item) (exported space from other))
        → Among p (brought_to program place m part space))
        → item_clashes program place m part from other item space ≡ false
    space_to alone space item brings =
        let name = item.name.name in
        let local = given_name item in
        let pairs = names_in space (interface_of other) in
        let first = first_offered space other name in
        let last = last_offered space other name in
        let there : (number : ℕ) → Among (name, number) pairs
        → Among (local, target from name number) (brought_to program place m part space) =
        λ number n. brings (local, target from name number) (renamed_from from name local pairs number n) in
        let near : is_apart first last ≡ false =
        one_number_to space (declarations_in other.interface) name
        (λ a b n k. ap (λ t. t.at.decl) (one_brought alone space local (target from name a)
        (target from name b) (there a n) (there b k))) in
        let free : found_clashes program place m part from other space name (given item).name first ≡ false =
        found_to space name (given item).name first
        (λ number is.
        ap (λ l. import_clashes program place m part space l (target from name number)) (given_is item)
        ∙ alone space (local, target from name number) (there number (found_among name pairs number is))) in
        or_from (is_apart first last) (found_clashes program place m part from other space name
        (given item).name first) near free

    -- an item's own name

    offered_from : (item : Renaming Bytes) → is_hidden program place m part from other item.name.name ≡ false
        → IsOffered other item
    offered_from item h =
        let a = is_offered Values other item.name.name in
        let b = is_offered Callables other item.name.name in
        let c = is_offered Types other item.name.name in
        by (or_cases (a || b) c (not-false (a || b || c) h))
      where
        first : (is_offered Values other item.name.name ≡ true)
            ⊎ (is_offered Callables other item.name.name ≡ true) → IsOffered other item
        first (inl values) = (Values, values)
        first (inr callables) = (Callables, callables)

        by : ((is_offered Values other item.name.name || is_offered Callables other item.name.name) ≡ true)
            ⊎ (is_offered Types other item.name.name ≡ true) → IsOffered other item
        by (inl one) = first (or_cases (is_offered Values other item.name.name)
            (is_offered Callables other item.name.name) one)
        by (inr types) = (Types, types)

    offered_to : (item : Renaming Bytes) → IsOffered other item
        → is_hidden program place m part from other item.name.name ≡ false
    offered_to item h =
        let a = is_offered Values other item.name.name in
        let b = is_offered Callables other item.name.name in
        let c = is_offered Types other item.name.name in
        not_from_true (a || b || c) (by h.0 h.1)
      where
        by : (space : Space) → is_offered space other item.name.name ≡ true
            → (is_offered Values other item.name.name || is_offered Callables other item.name.name
            || is_offered Types other item.name.name) ≡ true
        by Values e = or_left _ (is_offered Types other item.name.name)
            (or_left _ (is_offered Callables other item.name.name) e)
        by Callables e = or_left _ (is_offered Types other item.name.name)
            (or_right (is_offered Values other item.name.name) _ e)
        by Types e = or_right (is_offered Values other item.name.name
            || is_offered Callables other item.name.name) _ e

    -- the three things that an item is refused for

    abbrev hidden_fault : Renaming Bytes → Option NameFault
    hidden_fault item = where_so (is_hidden program place m part from other item.name.name)
        (NotVisible item.name.at item.name.name)

    abbrev clashes_so : Renaming Bytes → Space → Bool
    clashes_so item space = item_clashes program place m part from other item space

    abbrev twice_fault : Renaming Bytes → Option NameFault
    twice_fault item = where_so (clashes_so item Values || clashes_so item Callables || clashes_so item Types)
        (NameTwice (given item).at (given item).name)

    abbrev along_fault : Renaming Bytes → Option NameFault
    along_fault item = first_of (member_fault program place m part from other item.name.at)
        (along from item.name.name (interface_of other))

    pub item_offered : (item : Renaming Bytes) → item_fault program place m part from other item ≡ None
        → IsOffered other item
    item_offered item h =
        offered_from item (so_from (is_hidden program place m part from other item.name.name)
        (NotVisible item.name.at item.name.name)
        (or_first (hidden_fault item) (option_or (twice_fault item) (along_fault item)) h))

    pub item_alone : (item : Renaming Bytes) → item_fault program place m part from other item ≡ None
        → (space : Space) (p : Bytes × Target) → Among p (brought space from other item)
        → import_clashes program place m part space p.0 p.1 ≡ false
    item_alone item h = by
      where
        rest : option_or (twice_fault item) (along_fault item) ≡ None
        rest = or_second (hidden_fault item) (option_or (twice_fault item) (along_fault item)) h

        spaces : (clashes_so item Values || clashes_so item Callables || clashes_so item Types) ≡ false
        spaces = so_from _ (NameTwice (given item).at (given item).name)
            (or_first (twice_fault item) (along_fault item) rest)

        first_two : (clashes_so item Values ≡ false) × (clashes_so item Callables ≡ false)
        first_two = or_parts (clashes_so item Values) (clashes_so item Callables)
            (or_parts (clashes_so item Values || clashes_so item Callables) (clashes_so item Types) spaces).0

        members : first_of (member_fault program place m part from other item.name.at)
            (along from item.name.name (interface_of other)) ≡ None
        members = or_second (twice_fault item) (along_fault item) rest

        callable : (p : Bytes × Target)
            → Among p (renamed item.name.name (given_name item) (exported Callables from other))
            ⊎ Among p (along from item.name.name (interface_of other))
            → import_clashes program place m part Callables p.0 p.1 ≡ false
        callable p (inl n) = space_from Callables item first_two.1 p n
        callable p (inr n) =
            so_from (import_clashes program place m part Callables p.0 p.1) (NameTwice item.name.at p.0)
            (first_from (member_fault program place m part from other item.name.at)
            (along from item.name.name (interface_of other)) members p n)

        by : (space : Space) (p : Bytes × Target) → Among p (brought space from other item)
            → import_clashes program place m part space p.0 p.1 ≡ false
        by Values p n = space_from Values item first_two.0 p n
        by Callables p n =
            callable p (among-append (renamed item.name.name (given_name item)
            (exported Callables from other)) (along from item.name.name (interface_of other)) p n)
        by Types p n = space_from Types item (or_parts (clashes_so item Values || clashes_so item Callables)
            (clashes_so item Types) spaces).1 p n

    pub item_to : AreAlone → (item : Renaming Bytes) → IsOffered other item
        → Brings item → item_fault program place m part from other item ≡ None
    item_to alone item offered brings =
        let own = renamed item.name.name (given_name item) (exported Callables from other) in
        let members = along from item.name.name (interface_of other) in
        let values : clashes_so item Values ≡ false = space_to alone Values item (brings Values) in
        let callables : clashes_so item Callables ≡ false = space_to alone Callables item
        (λ p n. brings Callables p (among-append_left own members p n)) in
        let types : clashes_so item Types ≡ false = space_to alone Types item (brings Types) in
        or_neither (hidden_fault item) (option_or (twice_fault item) (along_fault item))
        (so_to _ (NotVisible item.name.at item.name.name) (offered_to item offered))
        (or_neither (twice_fault item) (along_fault item)
        (so_to _ (NameTwice (given item).at (given item).name)
        (or_from (clashes_so item Values || clashes_so item Callables) (clashes_so item Types)
        (or_from (clashes_so item Values) (clashes_so item Callables) values callables) types))
        (first_to (member_fault program place m part from other item.name.at) members
        (λ p n. so_to _ (NameTwice item.name.at p.0)
        (alone Callables p (brings Callables p (among-append_right own members p n))))))

  -- ---- an import

  -- the items of an import whose module is there and stands before
  abbrev pub ItemsPass : (i : Importing Bytes) → IsSourced program place i → Type 0
  ItemsPass i s = (item : Renaming Bytes) → Among item i.items
      → item_fault program place m part s.0 s.1 item ≡ None

  pub import_from : (i : Importing Bytes) → import_fault program place m part i ≡ None
      → (s : IsSourced program place i) × ItemsPass i s
  import_from i h = by (place_of program (joined i.from)) refl h
    where
      by : (o : Option ℕ) → place_of program (joined i.from) ≡ o
          → source_fault program place m part i o ≡ None → (s : IsSourced program place i) × ItemsPass i s
      by None is k = absurd (none-some _ (sym k))
      by (Some from) is k =
          let parts = late (nat_lt from place) (items_fault program place m part i.items from
          (slice_get program from)) (Late (first_place i.at i.from) (joined i.from)) k in
          let there = place_there program (joined i.from) from is in
          let none : first_of (item_fault program place m part from there.0) i.items
          ≡ None = sym (ap (items_fault program place m part i.items from) there.1) ∙ parts.1 in
          let each : (item : Renaming Bytes) → Among item i.items
          → item_fault program place m part from there.0 item ≡ None =
          first_from (item_fault program place m part from there.0) i.items none in (
            (
              from,
              there.0,
              is,
              ltb-true from place parts.0,
              there.1,
              (λ item c. item_offered from there.0 item (each item (among i.items item c))),
            ),
            each,
          )

  pub import_to : (i : Importing Bytes) (s : IsSourced program place i) → ItemsPass i s
      → import_fault program place m part i ≡ None
  import_to i s each =
      ap (source_fault program place m part i) s.2
      ∙ ap (λ b. if b then items_fault program place m part i.items s.0 (slice_get program s.0) else Some
      (Late (first_place i.at i.from) (joined i.from))) (lt-ltb s.0 place s.3)
      ∙ ap (items_fault program place m part i.items s.0) s.4
      ∙ first_to (item_fault program place m part s.0 s.1) i.items each
