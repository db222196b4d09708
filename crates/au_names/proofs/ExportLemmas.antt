-- What interfaces offer, and where modules stand by their names.
use Rattle.std.proofs.Common.{◌≡◌, ℕ, ◌+◌, ◌<◌, ◌≤◌, ◌⊎◌, inl, inr, Bool, true, false, cond, not, List, []}
use Rattle.std.proofs.Common.{◌∷◌, ◌++◌, map, length, drop, get_or, Option, None, Some, refl, sym, ap, ◌∙◌}
use Rattle.std.proofs.Common.{arith, append_assoc}
use Rattle.std.specs.Prelude.{slice_get, position, nat_lt}
use Rattle.std.specs.List.{position_or_len}
use Rattle.std.specs.Option.{option_map}
use Rattle.std.specs.Str.{bytes_eq}
use Rattle.std.proofs.lemmas.Bool.{lt-ltb, le-ltb, cases_lt}
use Rattle.std.proofs.lemmas.List.{append-nil, drop_all, length-map}
use Rattle.std.proofs.lemmas.Option.{none-some, same_Some, slice_get-map, slice_get-get_or}
use Rattle.std.proofs.lemmas.Option.{get_or_from_slice_get}
use Rattle.au_base.specs.Limits.{most_tokens}
use Rattle.au_base.proofs.ListLemmas.{drop_at}
use Rattle.au_syntax.specs.contracts.parsed.ParsedPhase.TheImpl.{ghosts as parsed}
use Rattle.au_syntax.specs.declared.modules.Module.{Module}
use Rattle.au_syntax.specs.declared.parsed.Parsed.{Parsed}
use Rattle.au_syntax.specs.Files.{says}
use Rattle.au_syntax.specs.Plain.{Bytes, PlainDeclaration, PlainModule, plain_declaration}
use Rattle.au_syntax.specs.Views.{declaration}
use Rattle.au_modules.proofs.PlaceLemmas.{declared}
use Rattle.au_types.specs.declared.name_tables.NameTables.{NameTables}
use Rattle.au_types.specs.declared.spaces.Space.{Space}
use Rattle.au_types.specs.declared.spaces.Space.TheVariants.{Values, Callables, Types}
use Rattle.au_types.specs.Tables.{find, with_pair, with_all, firsts}
use Rattle.au_types.specs.DeclaredNames.{numbered, names_in, table_of}
use Rattle.au_types.proofs.TableLemmas.{with_all-none, with_all-firsts, find-firsts}
use Rattle.au_modules.specs.Programs.{Entry, ModuleParts}
use Rattle.au_modules.specs.Seen.{name_of, interface_tree, body_tree}
use Rattle.au_names.specs.Owned.{declarations_in, interface_of}
use Rattle.au_names.specs.Importing.{place_of}
use Rattle.au_names.specs.Exporting.{in_space, tables_from, offers, declarations_seen}
use Rattle.au_names.specs.Placing.{places_from}
use Rattle.au_names.proofs.PutLemmas.{with_all-cons}

-- ---- places by names

-- one more module has its place
pub placed_step : (program : List ModuleParts) (place : ℕ) (name : Bytes)
    (before after goal : List (Bytes × ℕ))
    → name_of (slice_get program place) ≡ Some name
    → with_all before (places_from place (drop place program)) ≡ goal → after ≡ with_pair before name place
    → with_all after (places_from (place + 1) (drop (place + 1) program)) ≡ goal
placed_step program place name before after goal here old new = by (slice_get program place) refl here
  where
    by : (o : Option ModuleParts) → slice_get program place ≡ o → name_of o ≡ Some name
        → with_all after (places_from (place + 1) (drop (place + 1) program)) ≡ goal
    by None e h = absurd (none-some name h)
    by (Some m) e h =
        let rest = places_from (place + 1) (drop (place + 1) program) in
        ap (λ t. with_all t rest) new
        ∙ sym (with_all-cons before name place rest)
        ∙ ap (λ n. with_all before ((n, place) ∷ rest)) (sym (same_Some m.name name h))
        ∙ ap (λ r. with_all before (places_from place r)) (sym (drop_at program place m e))
        ∙ old

-- all have theirs
pub placed_end : (program : List ModuleParts) (place : ℕ) (table goal : List (Bytes × ℕ))
    → length program ≤ place
    → with_all table (places_from place (drop place program)) ≡ goal → table ≡ goal
placed_end program place table goal past h =
    sym (ap (λ r. with_all table (places_from place r)) (drop_all place program past) ∙ with_all-none table)
    ∙ h

-- the first passes
first_here : (p : ModuleParts → Bool) (place : ℕ) (m : ModuleParts) (ms : List ModuleParts) → p m ≡ true
    → option_map (λ i. place + i) (position p (m ∷ ms)) ≡ Some place
first_here p place m ms h =
    let zeroth : position_or_len p (m ∷ ms) ≡ 0 = ap (λ c. cond (not c) (1 + position_or_len p ms) 0) h in
    let within : nat_lt 0 (length (m ∷ ms)) ≡ true = lt-ltb 0 (length (m ∷ ms)) (omega arith) in
    let same : place + 0 ≡ place = omega arith in
    ap (λ i. option_map (λ k. place + k) (cond (nat_lt i (length (m ∷ ms))) (Some i) None)) zeroth
    ∙ ap (λ b. option_map (λ k. place + k) (cond b (Some 0) None)) within
    ∙ ap Some same

-- another passes
first_later : (p : ModuleParts → Bool) (place : ℕ) (m : ModuleParts) (ms : List ModuleParts) → p m ≡ false
    → option_map (λ i. place + i) (position p (m ∷ ms)) ≡ option_map (λ i. place + 1 + i) (position p ms)
first_later p place m ms h = by (cases_lt (position_or_len p ms) (length ms))
  where
    one_more : position_or_len p (m ∷ ms) ≡ 1 + position_or_len p ms
    one_more = ap (λ c. cond (not c) (1 + position_or_len p ms) 0) h

    by : (position_or_len p ms < length ms) ⊎ (length ms ≤ position_or_len p ms)
        → option_map (λ i. place + i) (position p (m ∷ ms)) ≡ option_map (λ i. place + 1 + i) (position p ms)
    by (inl less) =
        let within : nat_lt (1 + position_or_len p ms) (length (m ∷ ms)) ≡ true =
        lt-ltb (1 + position_or_len p ms) (length (m ∷ ms)) (omega arith) in
        let same : place + (1 + position_or_len p ms) ≡ place + 1 + position_or_len p ms = omega arith in
        ap (λ i. option_map (λ k. place + k) (cond (nat_lt i (length (m ∷ ms))) (Some i) None)) one_more
        ∙ ap (λ b. option_map (λ k. place + k) (cond b (Some (1 + position_or_len p ms)) None)) within
        ∙ ap Some same
        ∙ sym
        (ap (λ b. option_map (λ k. place + 1 + k) (cond b (Some (position_or_len p ms)) None))
        (lt-ltb (position_or_len p ms) (length ms) less))
    by (inr more) =
        let past : nat_lt (1 + position_or_len p ms) (length (m ∷ ms)) ≡ false =
        le-ltb (1 + position_or_len p ms) (length (m ∷ ms)) (omega arith) in
        ap (λ i. option_map (λ k. place + k) (cond (nat_lt i (length (m ∷ ms))) (Some i) None)) one_more
        ∙ ap (λ b. option_map (λ k. place + k) (cond b (Some (1 + position_or_len p ms)) None)) past
        ∙ sym
        (ap (λ b. option_map (λ k. place + 1 + k) (cond b (Some (position_or_len p ms)) None))
        (le-ltb (position_or_len p ms) (length ms) more))

-- a module is found by its name at its place
find-placed : (name : Bytes) (place : ℕ) (program : List ModuleParts)
    → find name (places_from place program) ≡ option_map (λ i. place + i) (place_of program name)
find-placed name place [] = refl
find-placed name place (m ∷ ms) = by (bytes_eq name m.name) refl (find-placed name (place + 1) ms)
  where
    by : (b : Bool) → bytes_eq name m.name ≡ b
        → find name (places_from (place + 1) ms) ≡ option_map (λ i. place + 1 + i) (place_of ms name)
        → find name (places_from place (m ∷ ms)) ≡ option_map (λ i. place + i) (place_of (m ∷ ms) name)
    by true e rest =
        ap (λ c. cond c (Some place) (find name (places_from (place + 1) ms))) e
        ∙ sym (first_here (λ (one : ModuleParts). bytes_eq name one.name) place m ms e)
    by false e rest =
        ap (λ c. cond c (Some place) (find name (places_from (place + 1) ms))) e
        ∙ rest
        ∙ sym (first_later (λ (one : ModuleParts). bytes_eq name one.name) place m ms e)

option_same : (o : Option ℕ) → option_map (λ i. 0 + i) o ≡ o
option_same None = refl
option_same (Some i) = ap Some (omega arith)

pub places_are : (program : List ModuleParts) (table : List (Bytes × ℕ))
    → table ≡ with_all [] (places_from 0 program)
    → (name : Bytes) → find name table ≡ place_of program name
places_are program table h name =
    ap (find name) (h ∙ with_all-firsts (places_from 0 program))
    ∙ find-firsts name (places_from 0 program)
    ∙ find-placed name 0 program
    ∙ option_same (place_of program name)

-- ---- what is made of items, one by one

module _ {A X : Type 0} (f : A → X) where
  -- of one item more
  pub mapped_step : (items : List X) (xs : List A) (i : ℕ) (made : X) → items ++ map f (drop i xs) ≡ map f xs
      → option_map f (slice_get xs i) ≡ Some made
      → (items ++ made ∷ []) ++ map f (drop (i + 1) xs) ≡ map f xs
  mapped_step items xs i made old here = by (slice_get xs i) refl here
    where
      by : (o : Option A) → slice_get xs i ≡ o → option_map f o ≡ Some made
          → (items ++ made ∷ []) ++ map f (drop (i + 1) xs) ≡ map f xs
      by None e h = absurd (none-some made h)
      by (Some x) e h =
          append_assoc items (made ∷ []) (map f (drop (i + 1) xs))
          ∙ ap (λ n. items ++ n ∷ map f (drop (i + 1) xs)) (sym (same_Some (f x) made h))
          ∙ ap (λ r. items ++ map f r) (sym (drop_at xs i x e))
          ∙ old

  -- of all
  pub mapped_end : (items : List X) (xs : List A) (i : ℕ) → length xs ≤ i
      → items ++ map f (drop i xs) ≡ map f xs → items ≡ map f xs
  mapped_end items xs i past h = sym (ap (λ r. items ++ map f r) (drop_all i xs past) ∙ append-nil items) ∙ h

-- ---- interfaces

-- the declarations of an interface are those that are seen of it
pub interface_seen : (m : ModuleParts)
    → declarations_in m.interface ≡ declarations_seen (interface_tree (Some m))
interface_seen m = by m.interface
  where
    by : (o : Option Entry) → declarations_in o ≡ declarations_seen (option_map (λ (e : Entry). e.tree) o)
    by None = refl
    by (Some e) = refl

pub body_seen : (m : ModuleParts) → declarations_in m.body ≡ declarations_seen (body_tree (Some m))
body_seen m = by m.body
  where
    by : (o : Option Entry) → declarations_in o ≡ declarations_seen (option_map (λ (e : Entry). e.tree) o)
    by None = refl
    by (Some e) = refl

-- a file has as many declarations as its tree
pub length_seen : (tree : Module Parsed (List ℕ) (Unit {0}) (Unit {0}))
    → length tree.declarations.items ≡ length (says parsed tree).declarations
length_seen tree =
    sym
    (length-map (map (declaration parsed) tree.declarations.items) (plain_declaration parsed.name_bytes)
    ∙ length-map tree.declarations.items (declaration parsed))

-- the declarations that are seen of a file are few where the file's are
pub few_seen : (seen file : Option PlainModule) → seen ≡ file → declared file ≤ most_tokens
    → length (declarations_seen seen) ≤ most_tokens
few_seen seen None same few = let none = ap (λ o. length (declarations_seen o)) same in omega (arith, none)
few_seen seen (Some tree) same few =
    let some = ap (λ o. length (declarations_seen o)) same in omega (arith, some, few)

-- a module without parts
pub nothing : ModuleParts
nothing = record { name = []; interface = None; body = None }

-- what the interface offers of which these declarations are seen
pub offers_seen : (program : List ModuleParts) (place : ℕ) (seen : Option PlainModule)
    → place < length program → seen ≡ interface_tree (slice_get program place)
    → option_map offers (slice_get program place) ≡ Some (tables_from 0 (declarations_seen seen))
offers_seen program place seen within h = by (slice_get program place) refl h
  where
    by : (o : Option ModuleParts) → slice_get program place ≡ o → seen ≡ interface_tree o
        → option_map offers o ≡ Some (tables_from 0 (declarations_seen seen))
    by None e k =
        absurd
        (none-some (get_or program place nothing) (sym e ∙ slice_get-get_or program place nothing within))
    by (Some m) e k = ap (λ ds. Some (tables_from 0 ds)) (interface_seen m ∙ ap declarations_seen (sym k))

-- tables with these fields
pub tables_are : (names : NameTables) (first : ℕ) (ds : List PlainDeclaration)
    → names.values ≡ table_of Values (numbered first ds)
    → names.callables ≡ table_of Callables (numbered first ds)
    → names.types ≡ table_of Types (numbered first ds) → names ≡ tables_from first ds
tables_are names first ds values callables types = λ i.
    record { values = values i; callables = callables i; types = types i }

-- the tables of no declaration
pub none_named : (first : ℕ)
    → ◌≡◌ {A = NameTables} (record { values = []; callables = []; types = [] }) (tables_from first [])
unfolding names_in numbered firsts
none_named first = refl

-- the table of a space
pub in_space-tables : (space : Space) (first : ℕ) (ds : List PlainDeclaration)
    → in_space space (tables_from first ds) ≡ table_of space (numbered first ds)
in_space-tables Values first ds = refl
in_space-tables Callables first ds = refl
in_space-tables Types first ds = refl

-- what an interface offers in a space
pub offered_is : (space : Space) (items : List NameTables) (program : List ModuleParts) (place : ℕ)
    (m : ModuleParts) (names : NameTables)
    → items ≡ map offers program → slice_get program place ≡ Some m → names ≡ get_or items place names
    → in_space space names ≡ table_of space (interface_of m)
offered_is space items program place m names all here is =
    let found : slice_get items place ≡ Some (offers m) =
    ap (λ r. slice_get r place) all ∙ slice_get-map offers program place ∙ ap (option_map offers) here in
    ap (in_space space) (is ∙ get_or_from_slice_get items place (offers m) names found)
    ∙ in_space-tables space 0 (declarations_in m.interface)

-- there are as many interfaces as modules
pub as_many : (items : List NameTables) (program : List ModuleParts) → items ≡ map offers program
    → length items ≡ length program
as_many items program h = ap length h ∙ length-map program offers
