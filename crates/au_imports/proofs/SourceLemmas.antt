-- What imports bring, item by item, and from where.
use Rattle.std.proofs.Common.{
  ◌≡◌,
  ℕ,
  ◌<◌,
  ◌⊎◌,
  inl,
  inr,
  Bool,
  true,
  false,
  true≢false,
  cond,
  List,
  [],
  ◌∷◌,
  map,
  filter,
  length,
  get_or,
  Option,
  Some,
  None,
  refl,
  ap,
  sym,
  ◌∙◌,
  subst,
}
use Rattle.std.specs.Prelude.{if◌then◌else◌, nat_lt, slice_get}
use Rattle.std.specs.List.{flat_map, position_or_len}
use Rattle.std.specs.Option.{option_map}
use Rattle.std.specs.Str.{bytes_eq}
use Rattle.std.proofs.lemmas.Bool.{lt-ltb, ltb-true}
use Rattle.std.proofs.lemmas.Option.{cond_some, slice_get-get_or}
use Rattle.std.proofs.lemmas.Slice.Eq.{bytes_eq-Decides}
use Rattle.au_syntax.specs.declared.modules.Part.{Part}
use Rattle.au_syntax.specs.Modules.{Importing}
use Rattle.au_syntax.specs.Names.{Renaming}
use Rattle.au_syntax.specs.Plain.{Bytes, PlainDeclaration}
use Rattle.au_types.specs.declared.spaces.Space.{Space}
use Rattle.au_types.specs.declared.spaces.Space.TheVariants.{Values, Callables, Types}
use Rattle.au_types.specs.DeclaredNames.{given}
use Rattle.au_types.specs.Tables.{find}
use Rattle.au_modules.specs.Programs.{ModuleParts}
use Rattle.au_names.specs.declared.targets.Target.{Target}
use Rattle.au_names.specs.Importing.{
  along,
  brings,
  brought,
  brought_from,
  earlier,
  given_name,
  is_type,
  members,
  members_of,
  place_of,
  renamed,
  source,
}
use Rattle.au_names.specs.Meanings.{imports_in, part_of}
use Rattle.au_names.specs.Owned.{exported, interface_of, target, targets}
use Rattle.std.specs.Prelude as std
use Rattle.au_imports.specs.Clashing.{brought_to}
use Rattle.au_imports.specs.Good.{IsSourced}
use Rattle.au_names.proofs.AmongLemmas.{Among, among-append, among-flat_map, among-flat_map_from}

-- ---- names with what they mean

pub targets_among : (place : ℕ) (xs : List (Bytes × ℕ)) (p : Bytes × Target) → Among p (targets place xs)
    → (number : ℕ) × Among (p.0, number) xs × (target place p.0 number ≡ p.1)
targets_among place [] p m = absurd m
targets_among place (x ∷ xs) p (inl here) =
    let key : x.0 ≡ p.0 = ap (λ q. q.0) here in
    (x.1, inl (λ i. (key i, x.1)), ap (λ n. target place n x.1) (sym key) ∙ ap (λ q. q.1) here)
targets_among place (x ∷ xs) p (inr later) =
    let found = targets_among place xs p later in
    (found.0, inr found.1, found.2)

pub targets_from : (place : ℕ) (xs : List (Bytes × ℕ)) (name : Bytes) (number : ℕ)
    → Among (name, number) xs → Among (name, target place name number) (targets place xs)
targets_from place [] name number m = absurd m
targets_from place (x ∷ xs) name number (inl here) = inl (ap (λ q. (q.0, target place q.0 q.1)) here)
targets_from place (x ∷ xs) name number (inr later) = inr (targets_from place xs name number later)

pub find-targets : (place : ℕ) (xs : List (Bytes × ℕ)) (name : Bytes)
    → find name (targets place xs) ≡ option_map (λ number. target place name number) (find name xs)
find-targets place [] name = refl
find-targets place (x ∷ xs) name = by (bytes_eq name x.0) refl (find-targets place xs name)
  where
    by : (b : Bool) → bytes_eq name x.0 ≡ b → find name (targets place xs)
        ≡ option_map (λ number. target place name number) (find name xs)
        → find name (targets place (x ∷ xs)) ≡ option_map (λ number. target place name number)
        (find name (x ∷ xs))
    by true e rest =
        ap (λ c. cond c (Some (target place x.0 x.1)) (find name (targets place xs))) e
        ∙ ap (λ n. Some (target place n x.1)) (sym ((bytes_eq-Decides name x.0).0 e))
        ∙ sym (ap (λ c. option_map (λ number. target place name number) (cond c (Some x.1) (find name xs))) e)
    by false e rest =
        ap (λ c. cond c (Some (target place x.0 x.1)) (find name (targets place xs))) e
        ∙ rest
        ∙ sym (ap (λ c. option_map (λ number. target place name number) (cond c (Some x.1) (find name xs))) e)

-- ---- what has a name, under another

module _ (from : ℕ) (name local : Bytes) where
  abbrev Renamed : List (Bytes × ℕ) → Bytes × Target → Type 0
  Renamed xs p = (number : ℕ) × Among (name, number) xs × ((local, target from name number) ≡ p)

  pub renamed_among : (xs : List (Bytes × ℕ)) (p : Bytes × Target)
      → Among p (renamed name local (targets from xs)) → Renamed xs p
  renamed_among [] p m = absurd m
  renamed_among (x ∷ xs) p m = by (bytes_eq name x.0) refl (renamed_among xs p)
    where
      rest : List (Bytes × Target)
      rest = filter (λ q. bytes_eq name q.0) (targets from xs)

      behind : Renamed xs p → Renamed (x ∷ xs) p
      behind found = (found.0, inr found.1, found.2)

      by : (b : Bool) → bytes_eq name x.0 ≡ b → (Among p (renamed name local (targets from xs))
          → Renamed xs p) → Renamed (x ∷ xs) p
      by true e others =
          on (subst (λ c. Among p (map (λ q. (local, q.1)) (cond c ((x.0, target from x.0 x.1) ∷ rest) rest)))
          e m)
        where
          key : name ≡ x.0
          key = (bytes_eq-Decides name x.0).0 e

          on : Among p ((local, target from x.0 x.1) ∷ map (λ q. (local, q.1)) rest) → Renamed (x ∷ xs) p
          on (inl here) = (x.1, inl (λ i. (sym key i, x.1)), ap (λ n. (local, target from n x.1)) key ∙ here)
          on (inr later) = behind (others later)
      by false e others =
          behind (others
          (subst (λ c. Among p (map (λ q. (local, q.1)) (cond c ((x.0, target from x.0 x.1) ∷ rest) rest)))
          e m))

  pub renamed_from : (xs : List (Bytes × ℕ)) (number : ℕ) → Among (name, number) xs
      → Among (local, target from name number) (renamed name local (targets from xs))
  renamed_from [] number m = absurd m
  renamed_from (x ∷ xs) number m = by (bytes_eq name x.0) refl m (renamed_from xs number)
    where
      rest : List (Bytes × Target)
      rest = filter (λ q. bytes_eq name q.0) (targets from xs)

      Here : Bool → Type 0
      Here b = Among {A = Bytes × Target} (local, target from name number)
          (map (λ q. (local, q.1)) (cond b ((x.0, target from x.0 x.1) ∷ rest) rest))

      by : (b : Bool) → bytes_eq name x.0 ≡ b → Among (name, number) (x ∷ xs)
          → (Among (name, number) xs → Among (local, target from name number)
          (renamed name local (targets from xs))) → Here (bytes_eq name x.0)
      by true e (inl here) others = subst Here (sym e) (inl (ap (λ q. (local, target from q.0 q.1)) here))
      by true e (inr later) others = subst Here (sym e) (inr (others later))
      by false e (inl here) others =
          absurd (true≢false (sym ((bytes_eq-Decides name x.0).1 (sym (ap (λ q. q.0) here))) ∙ e))
      by false e (inr later) others = subst Here (sym e) (others later)

-- ---- the module that brings it

renamed_module : (from : ℕ) (name local : Bytes) (xs : List (Bytes × ℕ)) (p : Bytes × Target)
    → Among p (renamed name local (targets from xs)) → from ≡ p.1.at.«module»
renamed_module from name local xs p m = ap (λ q. q.1.at.«module») (renamed_among from name local xs p m).2

along_module : (from : ℕ) (o : Option (ℕ × PlainDeclaration)) (p : Bytes × Target)
    → Among p (members_of from o) → from ≡ p.1.at.«module»
along_module from None p m = absurd m
along_module from (Some d) p m = ap (λ t. t.at.«module») (targets_among from (given d.0 (members d.1)) p m).2

brought_module : (space : Space) (from : ℕ) (other : ModuleParts) (item : Renaming Bytes) (p : Bytes × Target)
    → Among p (brought space from other item) → from ≡ p.1.at.«module»
brought_module Values from other item p m = renamed_module from item.name.name (given_name item) _ p m
brought_module Callables from other item p m =
    by (among-append (renamed item.name.name (given_name item) (exported Callables from other))
    (along from item.name.name (interface_of other)) p m)
  where
    by : Among p (renamed item.name.name (given_name item) (exported Callables from other))
        ⊎ Among p (along from item.name.name (interface_of other)) → from ≡ p.1.at.«module»
    by (inl own) = renamed_module from item.name.name (given_name item) _ p own
    by (inr others) = along_module from (std.find (is_type item.name.name) (interface_of other)) p others
brought_module Types from other item p m = renamed_module from item.name.name (given_name item) _ p m

-- ---- the module that an import names

nothing : ModuleParts
nothing = record { name = []; interface = None; body = None }

-- there is a module at a place that is found
pub place_there : (program : List ModuleParts) (name : Bytes) (from : ℕ)
    → place_of program name ≡ Some from → (other : ModuleParts) × (slice_get program from ≡ Some other)
place_there program name from h =
    let passes : ModuleParts → Bool = λ m. bytes_eq name m.name in
    let first : ℕ = position_or_len passes program in
    let found = cond_some (nat_lt first (length program)) first from h in
    let within : first < length program = ltb-true first (length program) found.0 in (
      get_or program from nothing,
      slice_get-get_or program from nothing
          (subst (λ k. k < length program) found.1 within),
    )

module _ (program : List ModuleParts) (place : ℕ) where
  source_is : (i : Importing Bytes) (s : IsSourced program place i) → source program place i ≡ Some (s.0, s.1)
  source_is i s =
      ap (earlier program place) s.2
      ∙ ap (λ b. if b then option_map (λ m. (s.0, m)) (slice_get program s.0) else None)
      (lt-ltb s.0 place s.3)
      ∙ ap (option_map (λ m. (s.0, m))) s.4

  brings_is : (space : Space) (i : Importing Bytes) (s : IsSourced program place i)
      → brings space program place i ≡ flat_map (brought space s.0 s.1) i.items
  brings_is space i s = ap (brought_from space i.items) (source_is i s)

  module _ (m : ModuleParts) (part : Part) (sources : (i : Importing Bytes)
      → Among i (imports_in (part_of part m)) → IsSourced program place i) where
    -- what imports bring an item of one of them brings
    abbrev pub IsBrought : Space → Bytes × Target → Type 0
    IsBrought space p =
        (i : Importing Bytes) × (one : Among i (imports_in (part_of part m))) × (item : Renaming Bytes)
        × Among item i.items
        × Among p (brought space (sources i one).0 (sources i one).1 item)

    pub brought_item : (space : Space) (p : Bytes × Target) → Among p (brought_to program place m part space)
        → IsBrought space p
    brought_item space p n =
        let found = among-flat_map (brings space program place) (imports_in (part_of part m)) p n in
        let s : IsSourced program place found.0 = sources found.0 found.1 in
        let parts = among-flat_map (brought space s.0 s.1) found.0.items p
        (subst (Among p) (brings_is space found.0 s) found.2) in
        (found.0, found.1, parts.0, parts.1, parts.2)

    pub brought_before : (space : Space) (p : Bytes × Target)
        → Among p (brought_to program place m part space) → p.1.at.«module» < place
    brought_before space p n =
        let found : IsBrought space p = brought_item space p n in
        let s : IsSourced program place found.0 = sources found.0 found.1 in
        subst (λ k. k < place) (brought_module space s.0 s.1 found.2 p found.4) s.3

  pub item_brings : (m : ModuleParts) (part : Part) (space : Space) (i : Importing Bytes)
      (s : IsSourced program place i) (item : Renaming Bytes) (p : Bytes × Target)
      → Among i (imports_in (part_of part m)) → Among item i.items → Among p (brought space s.0 s.1 item)
      → Among p (brought_to program place m part space)
  item_brings m part space i s item p one two n =
      among-flat_map_from (brings space program place) (imports_in (part_of part m)) i p one
      (subst (Among p) (sym (brings_is space i s))
      (among-flat_map_from (brought space s.0 s.1) i.items item p two n))
