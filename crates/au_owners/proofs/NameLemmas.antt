-- Names that come from other modules are those of their interfaces.
use Rattle.std.proofs.Common.{◌≡◌, ◌⊎◌, inl, inr, ℕ, ◌+◌, ◌<◌, Bool, true, false, List, [], ◌∷◌, length}
use Rattle.std.proofs.Common.{Option, Some, None, refl, sym, ap, subst, cond, slice_get, arith}
use Rattle.std.specs.Prelude.{filter, find, map, nat_lt, if◌then◌else◌}
use Rattle.std.specs.Option.{option_map}
use Rattle.std.specs.Str.{bytes_eq}
use Rattle.std.proofs.lemmas.Option.{none-some, same_Some}
use Rattle.au_syntax.specs.Modules.{Importing}
use Rattle.au_syntax.specs.Names.{Renaming}
use Rattle.au_syntax.specs.Plain.{Bytes, PlainDeclaration}
use Rattle.au_syntax.specs.Sizes.{joined}
use Rattle.au_types.specs.DeclaredNames.{declared_names, given, names_in, numbered}
use Rattle.au_types.specs.declared.spaces.Space.{Space}
use Rattle.au_types.specs.declared.spaces.Space.TheVariants.{Callables}
use Rattle.au_modules.specs.Programs.{ModuleParts}
use Rattle.au_names.specs.Importing.{along, brings, brought, brought_from, earlier, given_name, imported, is_type}
use Rattle.au_names.specs.Importing.{members, members_of, place_of, renamed, source}
use Rattle.au_names.specs.Meanings.{offered, pervasive}
use Rattle.au_names.specs.Owned.{declarations_in, declarations_of, exported, interface_of, own, target}
use Rattle.au_names.specs.declared.targets.Target.{Target}
use Rattle.au_names.proofs.AmongLemmas.{Among, among-append, among-flat_map}

-- ---- lists

among_map : {A B : Type 0} (f : A → B) (xs : List A) (y : B) → Among y (map f xs)
    → (x : A) × Among x xs × (f x ≡ y)
among_map f [] y m = absurd m
among_map f (x ∷ xs) y (inl here) = (x, inl refl, here)
among_map f (x ∷ xs) y (inr later) = let rest = among_map f xs y later in (rest.0, inr rest.1, rest.2)

among_filter : {A : Type 0} (p : A → Bool) (xs : List A) (y : A) → Among y (filter p xs) → Among y xs
among_filter p [] y m = absurd m
among_filter p (x ∷ xs) y m = by (p x) m (among_filter p xs y)
  where
    by : (b : Bool) → Among y (cond b (x ∷ filter p xs) (filter p xs)) → (Among y (filter p xs) → Among y xs)
        → Among y (x ∷ xs)
    by true (inl here) rest = inl here
    by true (inr later) rest = inr (rest later)
    by false m rest = inr (rest m)

-- ---- numbers of declarations

given_number : (number : ℕ) (names : List Bytes) (p : Bytes × ℕ) → Among p (given number names) → number ≡ p.1
given_number number [] p m = absurd m
given_number number (n ∷ ns) p (inl here) = ap (λ (q : Bytes × ℕ). q.1) here
given_number number (n ∷ ns) p (inr later) = given_number number ns p later

names_within : (space : Space) (first : ℕ) (ds : List PlainDeclaration) (p : Bytes × ℕ)
    → Among p (names_in space (numbered first ds)) → p.1 < first + length ds
unfolding names_in numbered
names_within space first [] p m = absurd m
names_within space first (d ∷ ds) p m =
    by (among-append (given first (declared_names space d)) (names_in space (numbered (first + 1) ds)) p m)
    (names_within space (first + 1) ds p)
  where
    by : Among p (given first (declared_names space d)) ⊎ Among p (names_in space (numbered (first + 1) ds))
        → (Among p (names_in space (numbered (first + 1) ds)) → p.1 < (first + 1) + length ds)
        → p.1 < first + length (d ∷ ds)
    by (inl here) rest = let same = given_number first (declared_names space d) p here in omega arith
    by (inr later) rest = let less = rest later in omega arith

found_within : (p : ℕ × PlainDeclaration → Bool) (first : ℕ) (ds : List PlainDeclaration) (e : ℕ × PlainDeclaration)
    → find p (numbered first ds) ≡ Some e → e.0 < first + length ds
unfolding numbered
found_within p first [] e h = absurd (none-some e h)
found_within p first (d ∷ ds) e h = by (p (first, d)) h (found_within p (first + 1) ds e)
  where
    by : (b : Bool) → cond b (Some (first, d)) (find p (numbered (first + 1) ds)) ≡ Some e
        → (find p (numbered (first + 1) ds) ≡ Some e → e.0 < (first + 1) + length ds)
        → e.0 < first + length (d ∷ ds)
    by true is rest =
        let same : first ≡ e.0 = ap (λ (q : ℕ × PlainDeclaration). q.0) (same_Some (first, d) e is) in omega arith
    by false is rest = let less = rest is in omega arith

-- ---- what a name means

-- A target is of an interface: it has the number of a declaration there.
pub record IsOffered (program : List ModuleParts) (t : Target) : Type 0 where
  pub place : ℕ
  pub number : ℕ
  pub other : ModuleParts
  pub here : slice_get program place ≡ Some other
  pub at : t.at ≡ record { «module» = place; decl = number }
  pub within : number < length (declarations_in other.interface)

module _ (program : List ModuleParts) where
  -- what an interface offers
  from_exported : (place : ℕ) (other : ModuleParts) → slice_get program place ≡ Some other → (p : Bytes × Target)
      → Among p (exported Callables place other) → IsOffered program p.1
  from_exported place other here p m =
      let q = among_map (λ (x : Bytes × ℕ). (x.0, target place x.0 x.1)) (names_in Callables (interface_of other)) p m in
      let less = names_within Callables 0 (declarations_in other.interface) q.0 q.1 in
      record {
        place = place;
        number = q.0.1;
        other = other;
        here = here;
        at = ap (λ (x : Bytes × Target). x.1.at) (sym q.2);
        within = omega arith;
      }

  from_members : (place : ℕ) (other : ModuleParts) → slice_get program place ≡ Some other → (name : Bytes)
      (found : Option (ℕ × PlainDeclaration)) → find (is_type name) (interface_of other) ≡ found
      → (p : Bytes × Target) → Among p (members_of place found) → IsOffered program p.1
  from_members place other here name None is p m = absurd m
  from_members place other here name (Some e) is p m =
      let q = among_map (λ (x : Bytes × ℕ). (x.0, target place x.0 x.1)) (given e.0 (members e.1)) p m in
      let same = given_number e.0 (members e.1) q.0 q.1 in
      let less = found_within (is_type name) 0 (declarations_in other.interface) e is in
      record {
        place = place;
        number = q.0.1;
        other = other;
        here = here;
        at = ap (λ (x : Bytes × Target). x.1.at) (sym q.2);
        within = omega arith;
      }

  from_renamed : (place : ℕ) (other : ModuleParts) → slice_get program place ≡ Some other → (name local : Bytes)
      (p : Bytes × Target) → Among p (renamed name local (exported Callables place other)) → IsOffered program p.1
  from_renamed place other here name local p m =
      let q = among_map (λ (x : Bytes × Target). (local, x.1))
      (filter (λ (x : Bytes × Target). bytes_eq name x.0) (exported Callables place other)) p m in
      let there = among_filter (λ (x : Bytes × Target). bytes_eq name x.0) (exported Callables place other) q.0 q.1 in
      subst (IsOffered program) (ap (λ (x : Bytes × Target). x.1) q.2) (from_exported place other here q.0 there)

  -- what an item brings
  from_item : (place : ℕ) (other : ModuleParts) → slice_get program place ≡ Some other → (item : Renaming Bytes)
      (p : Bytes × Target) → Among p (brought Callables place other item) → IsOffered program p.1
  from_item place other here item p m =
      by (among-append (renamed item.name.name (given_name item) (exported Callables place other))
      (along place item.name.name (interface_of other)) p m)
    where
      by : Among p (renamed item.name.name (given_name item) (exported Callables place other))
          ⊎ Among p (along place item.name.name (interface_of other)) → IsOffered program p.1
      by (inl first) = from_renamed place other here item.name.name (given_name item) p first
      by (inr second) =
          from_members place other here item.name.name (find (is_type item.name.name) (interface_of other)) refl p second

  source_there : (place : ℕ) (found : Option ℕ) (o : ℕ × ModuleParts) → earlier program place found ≡ Some o
      → slice_get program o.0 ≡ Some o.1
  source_there place None o h = absurd (none-some o h)
  source_there place (Some other) o h = by (nat_lt other place) h
    where
      at : (m : Option ModuleParts) → slice_get program other ≡ m → option_map (λ x. (other, x)) m ≡ Some o
          → slice_get program o.0 ≡ Some o.1
      at None is k = absurd (none-some o k)
      at (Some m) is k =
          subst (λ (x : ℕ × ModuleParts). slice_get program x.0 ≡ Some x.1) (same_Some (other, m) o k) is

      by : (b : Bool) → (if b then option_map (λ x. (other, x)) (slice_get program other) else None) ≡ Some o
          → slice_get program o.0 ≡ Some o.1
      by true k = at (slice_get program other) refl k
      by false k = absurd (none-some o k)

  -- what an import brings
  from_source : (items : List (Renaming Bytes)) (p : Bytes × Target) (o : Option (ℕ × ModuleParts))
      → ((one : ℕ × ModuleParts) → o ≡ Some one → slice_get program one.0 ≡ Some one.1)
      → Among p (brought_from Callables items o) → IsOffered program p.1
  from_source items p None there m = absurd m
  from_source items p (Some one) there m =
      let item = among-flat_map (brought Callables one.0 one.1) items p m in
      from_item one.0 one.1 (there one refl) item.0 p item.2

  pub from_imports : (place : ℕ) (imports : List (Importing Bytes)) (p : Bytes × Target)
      → Among p (imported Callables program place imports) → IsOffered program p.1
  from_imports place imports p m =
      let i = among-flat_map (brings Callables program place) imports p m in
      from_source i.0.items p (source program place i.0)
      (λ one is. source_there place (place_of program (joined i.0.from)) one is) i.2

  -- what is pervasive
  pub from_pervasive : (p : Bytes × Target) → Among p (pervasive Callables program) → IsOffered program p.1
  from_pervasive p m = by (slice_get program 0) refl m
    where
      by : (o : Option ModuleParts) → slice_get program 0 ≡ o → Among p (offered Callables 0 o) → IsOffered program p.1
      by None is k = absurd k
      by (Some other) is k = from_exported 0 other is p k

-- what a module declares is of its place
pub own_place : (space : Space) (place : ℕ) (m : ModuleParts) (p : Bytes × Target) → Among p (own space place m)
    → place ≡ p.1.at.«module»
own_place space place m p k =
    let q = among_map (λ (x : Bytes × ℕ). (x.0, target place x.0 x.1)) (names_in space (declarations_of m)) p k in
    ap (λ (x : Bytes × Target). x.1.at.«module») q.2
