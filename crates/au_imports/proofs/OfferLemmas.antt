-- What interfaces offer: the last declaration of each name, and how what is offered is found.
use Rattle.std.proofs.Common.{
  ◌≡◌,
  ℕ,
  ◌+◌,
  ◌<◌,
  ◌≤◌,
  List,
  [],
  ◌∷◌,
  ◌++◌,
  map,
  length,
  take,
  drop,
  get_or,
  reverse,
  Option,
  None,
  Some,
  refl,
  sym,
  ap,
  ◌∙◌,
  arith,
  append_assoc,
  length-take,
}
use Rattle.std.specs.Prelude.{slice_get}
use Rattle.std.specs.Option.{option_map}
use Rattle.std.proofs.lemmas.List.{
  append-nil,
  drop_all,
  length-map,
  map-append,
  reverse-append,
  take_more,
  take_all,
}
use Rattle.std.proofs.lemmas.Option.{
  none-some,
  same_Some,
  slice_get-map,
  slice_get-get_or,
  get_or_from_slice_get,
}
use Rattle.au_base.proofs.ListLemmas.{drop_at}
use Rattle.au_syntax.specs.Plain.{Bytes, PlainDeclaration, PlainModule}
use Rattle.au_types.specs.declared.name_tables.NameTables.{NameTables}
use Rattle.au_types.specs.declared.spaces.Space.{Space}
use Rattle.au_types.specs.declared.spaces.Space.TheVariants.{Values, Callables, Types}
use Rattle.au_types.specs.Tables.{find, with_all, firsts}
use Rattle.au_types.specs.DeclaredNames.{declared_names, given, numbered, names_in, table_of}
use Rattle.au_types.proofs.TableLemmas.{find-firsts, with_all-none, with_all-firsts}
use Rattle.au_types.proofs.DeclaredLemmas.{numbered-append, one_number}
use Rattle.au_modules.specs.Programs.{ModuleParts}
use Rattle.au_modules.specs.Seen.{interface_tree}
use Rattle.au_names.specs.Exporting.{in_space, declarations_seen}
use Rattle.au_names.specs.Owned.{interface_of}
use Rattle.au_names.proofs.ExportLemmas.{interface_seen, nothing}
use Rattle.au_names.proofs.PutLemmas.{with_all-append}
use Rattle.au_imports.specs.Clashing.{first_offered, last_offered}
use Rattle.au_imports.specs.Gathered.{last_offers, last_tables}

-- ---- tables of the last declarations

names_in-cons : (space : Space) (d : ℕ × PlainDeclaration) (ds : List (ℕ × PlainDeclaration))
    → names_in space (d ∷ ds) ≡ given d.0 (declared_names space d.1) ++ names_in space ds
unfolding names_in
names_in-cons space d ds = refl

module _ {A B : Type 0} (p : B → PlainDeclaration) (v : A → B) where
  -- the names of declarations from the last one before a place to the first
  abbrev pub names_back : Space → List A → List (Bytes × ℕ)
  names_back space xs = names_in space (reverse (numbered 0 (map p (map v xs))))

  -- those of one more come first
  pub names_more : (space : Space) (xs : List A) (i : ℕ) (d : A) → i < length xs
      → names_back space (take (i + 1) xs) ≡ given i (declared_names space (p (v (get_or xs i d))))
      ++ names_back space (take i xs)
  names_more space xs i d h =
      let seen = map p (map v (take i xs)) in
      let one = p (v (get_or xs i d)) in
      let split : map p (map v (take (i + 1) xs)) ≡ seen ++ one ∷ [] =
      ap (λ r. map p (map v r)) (take_more xs i d h)
      ∙ ap (map p) (map-append v (take i xs) (get_or xs i d ∷ []))
      ∙ map-append p (map v (take i xs)) (v (get_or xs i d) ∷ []) in
      let many : 0 + length seen ≡ i = omega (
        arith,
        length-map (map v (take i xs)) p,
        length-map (take i xs) v,
        length-take i xs,
      ) in
      let numbers : numbered 0 (seen ++ one ∷ []) ≡ numbered 0 seen ++ (i, one) ∷ [] =
      numbered-append 0 seen (one ∷ []) ∙ ap (λ r. numbered 0 seen ++ r) (one_number (0 + length seen) one
      ∙ ap (λ n. (n, one) ∷ []) many) in
      ap (λ r. names_in space (reverse (numbered 0 r))) split
      ∙ ap (λ r. names_in space (reverse r)) numbers
      ∙ ap (names_in space) (reverse-append (numbered 0 seen) ((i, one) ∷ []))
      ∙ names_in-cons space (i, one) (reverse (numbered 0 seen))

  -- A step of a loop that puts the names of declarations from the last to the first.
  pub back_step : (space : Space) (before after goal : List (Bytes × ℕ)) (xs : List A) (left i : ℕ) (x : A)
      → left ≡ i + 1 → i < length xs → x ≡ get_or xs i x
      → with_all before (names_back space (take left xs)) ≡ goal
      → after ≡ with_all before (given i (declared_names space (p (v x))))
      → with_all after (names_back space (take i xs)) ≡ goal
  back_step space before after goal xs left i x next within here old new =
      let given_here = given i (declared_names space (p (v x))) in
      ap (λ t. with_all t (names_back space (take i xs))) new
      ∙ sym (with_all-append before given_here (names_back space (take i xs)))
      ∙ ap (λ y. with_all before (given i (declared_names space (p (v y))) ++ names_back space (take i xs)))
      here
      ∙ ap (with_all before) (sym (names_more space xs i x within))
      ∙ ap (λ n. with_all before (names_back space (take n xs))) (sym next)
      ∙ old

  -- all are put once none is left
  pub back_end : (space : Space) (table : List (Bytes × ℕ)) (xs : List A) (left : ℕ) → left ≤ 0
      → with_all table (names_back space (take left xs)) ≡ with_all [] (names_back space xs)
      → table ≡ firsts (names_back space xs)
  unfolding numbered names_in
  back_end space table xs left none h =
      let zeroth : left ≡ 0 = omega arith in
      sym (ap (λ n. with_all table (names_back space (take n xs))) zeroth ∙ with_all-none table)
      ∙ h
      ∙ with_all-firsts (names_back space xs)

  -- at first all are left
  pub back_start : (space : Space) (table : List (Bytes × ℕ)) (xs : List A) (left : ℕ)
      → table ≡ [] → left ≡ length xs
      → with_all table (names_back space (take left xs)) ≡ with_all [] (names_back space xs)
  back_start space table xs left none all =
      ap (λ t. with_all t (names_back space (take left xs))) none
      ∙ ap (λ r. with_all [] (names_back space r)) (take_all left xs (omega (arith, all)))

-- tables with these fields
pub tables_are : (names : NameTables) (ds : List PlainDeclaration)
    → names.values ≡ table_of Values (reverse (numbered 0 ds))
    → names.callables ≡ table_of Callables (reverse (numbered 0 ds))
    → names.types ≡ table_of Types (reverse (numbered 0 ds)) → names ≡ last_tables ds
tables_are names ds values callables types = λ i. record {
  values = values i;
  callables = callables i;
  types = types i;
}

-- the tables of no declaration
pub none_named : ◌≡◌ {A = NameTables} (record { values = []; callables = []; types = [] }) (last_tables [])
unfolding names_in numbered firsts
none_named = refl

-- what the interface offers of which these declarations are seen
pub lasts_seen : (program : List ModuleParts) (place : ℕ) (seen : Option PlainModule)
    → place < length program → seen ≡ interface_tree (slice_get program place)
    → option_map last_offers (slice_get program place) ≡ Some (last_tables (declarations_seen seen))
lasts_seen program place seen within h = by (slice_get program place) refl h
  where
    by : (o : Option ModuleParts) → slice_get program place ≡ o → seen ≡ interface_tree o
        → option_map last_offers o ≡ Some (last_tables (declarations_seen seen))
    by None e k = absurd (none-some (get_or program place nothing) (sym e
        ∙ slice_get-get_or program place nothing within))
    by (Some m) e k = ap (λ ds. Some (last_tables ds)) (interface_seen m ∙ ap declarations_seen (sym k))

-- the tables of one more module
pub lasts_step : (items : List NameTables) (program : List ModuleParts) (place : ℕ) (names : NameTables)
    → items ++ map last_offers (drop place program) ≡ map last_offers program
    → option_map last_offers (slice_get program place) ≡ Some names
    → (items ++ names ∷ []) ++ map last_offers (drop (place + 1) program) ≡ map last_offers program
lasts_step items program place names old here = by (slice_get program place) refl here
  where
    by : (o : Option ModuleParts) → slice_get program place ≡ o → option_map last_offers o ≡ Some names
        → (items ++ names ∷ []) ++ map last_offers (drop (place + 1) program) ≡ map last_offers program
    by None e h = absurd (none-some names h)
    by (Some m) e h =
        append_assoc items (names ∷ []) (map last_offers (drop (place + 1) program))
        ∙ ap (λ n. items ++ n ∷ map last_offers (drop (place + 1) program))
        (sym (same_Some (last_offers m) names h))
        ∙ ap (λ r. items ++ map last_offers r) (sym (drop_at program place m e))
        ∙ old

pub lasts_end : (items : List NameTables) (program : List ModuleParts) (place : ℕ) → length program ≤ place
    → items ++ map last_offers (drop place program) ≡ map last_offers program
    → items ≡ map last_offers program
lasts_end items program place past h =
    sym (ap (λ r. items ++ map last_offers r) (drop_all place program past) ∙ append-nil items) ∙ h

-- ---- how what is offered is found

-- there is a module at a place
pub module_there : (program : List ModuleParts) (place : ℕ) → place < length program
    → (m : ModuleParts) × (slice_get program place ≡ Some m)
module_there program place within = (
  get_or program place nothing,
  slice_get-get_or program place nothing within,
)

-- the number of the first declaration of a name
pub first_found : (space : Space) (m : ModuleParts) (name : Bytes) (names : List (Bytes × ℕ))
    → names ≡ table_of space (interface_of m) → find name names ≡ first_offered space m name
first_found space m name names is = ap (find name) is ∙ find-firsts name (names_in space (interface_of m))

-- the table of a space
last_in : (space : Space) (m : ModuleParts) → in_space space (last_offers m)
    ≡ table_of space (reverse (interface_of m))
last_in Values m = refl
last_in Callables m = refl
last_in Types m = refl

-- the number of the last
pub last_found : (space : Space) (items : List NameTables) (program : List ModuleParts)
    (place : ℕ) (m : ModuleParts) (tables : NameTables) (name : Bytes)
    → items ≡ map last_offers program → slice_get program place ≡ Some m → tables ≡ get_or items place tables
    → find name (in_space space tables) ≡ last_offered space m name
last_found space items program place m tables name all here is =
    let found : slice_get items place ≡ Some (last_offers m) = ap (λ r. slice_get r place) all
    ∙ slice_get-map last_offers program place ∙ ap (option_map last_offers) here in
    ap (λ t. find name (in_space space t)) (is ∙ get_or_from_slice_get items place
    (last_offers m) tables found)
    ∙ ap (find name) (last_in space m)
    ∙ find-firsts name (names_in space (reverse (interface_of m)))

-- there are as many as modules
pub as_many : (items : List NameTables) (program : List ModuleParts) → items ≡ map last_offers program
    → length items ≡ length program
as_many items program h = ap length h ∙ length-map program last_offers
