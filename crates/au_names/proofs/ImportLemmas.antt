-- What items and imports bring, and how it is put.
use Rattle.std.proofs.Common.{◌≡◌, ℕ, suc, ◌+◌, ◌<◌, ◌≤◌, Bool, true, false, cond, List, [], ◌∷◌, ◌++◌, map}
use Rattle.std.proofs.Common.{filter, length, Option, None, Some, refl, sym, ap, ◌∙◌, arith, zero-add}
use Rattle.std.specs.Prelude.{slice_get, nat_lt}
use Rattle.std.specs.Prelude as std
use Rattle.std.specs.List.{flat_map, list_any}
use Rattle.std.specs.Option.{option_map}
use Rattle.std.specs.Str.{bytes_eq}
use Rattle.std.proofs.lemmas.Bool.{lt-ltb, le-ltb}
use Rattle.std.proofs.lemmas.Option.{none-some, same_Some, slice_get-map, slice_get_past}
use Rattle.std.proofs.lemmas.Slice.Eq.{bytes_eq-Decides}
use Rattle.au_syntax.specs.Modules.{Importing}
use Rattle.au_syntax.specs.Names.{Renaming}
use Rattle.au_syntax.specs.Plain.{Bytes, PlainDeclaration, PlainModule}
use Rattle.au_syntax.specs.Sizes.{joined}
use Rattle.au_types.specs.declared.spaces.Space.{Space}
use Rattle.au_types.specs.declared.spaces.Space.TheVariants.{Values, Callables, Types}
use Rattle.au_types.specs.Tables.{find, has_name, with_pair, with_all}
use Rattle.au_types.specs.DeclaredNames.{declared_names, given, numbered, names_in, table_of}
use Rattle.au_types.proofs.TableLemmas.{with_pair-old, with_all-none, find-firsts}
use Rattle.au_modules.specs.Programs.{ModuleParts}
use Rattle.au_modules.specs.Seen.{interface_tree}
use Rattle.au_names.specs.declared.targets.Target.{Target}
use Rattle.au_names.specs.Owned.{declarations_in, interface_of, exported, target, targets}
use Rattle.au_names.specs.Importing.{members, members_of, is_type, along, given_name, renamed, brought}
use Rattle.au_names.specs.Importing.{place_of, earlier, brought_from, brings}
use Rattle.au_names.specs.Exporting.{found_as, members_at, declarations_seen}
use Rattle.au_names.proofs.ExportLemmas.{interface_seen}
use Rattle.au_names.proofs.PutLemmas.{with_all-append, has-put}

-- ---- what has a name, under another

-- more of a name that is there
again : (t : List (Bytes × Target)) (place : ℕ) (name local : Bytes) (xs : List (Bytes × ℕ))
    → has_name local t ≡ true
    → with_all t (renamed name local (targets place xs)) ≡ t
unfolding with_all
again t place name local [] h = refl
again t place name local (x ∷ xs) h = by (bytes_eq name x.0) refl (again t place name local xs h)
  where
    rest : List (Bytes × Target)
    rest = filter (λ p. bytes_eq name p.0) (targets place xs)

    by : (b : Bool) → bytes_eq name x.0 ≡ b → with_all t (renamed name local (targets place xs)) ≡ t
        → with_all t (renamed name local (targets place (x ∷ xs))) ≡ t
    by true e others =
        ap (λ c. with_all t (map (λ p. (local, p.1)) (cond c ((x.0, target place x.0 x.1) ∷ rest) rest))) e
        ∙ ap (λ r. with_all r (map (λ p. (local, p.1)) rest)) (with_pair-old t local (target place x.0 x.1) h)
        ∙ others
    by false e others =
        ap (λ c. with_all t (map (λ p. (local, p.1)) (cond c ((x.0, target place x.0 x.1) ∷ rest) rest))) e
        ∙ others

-- of what has a name the first is put
pub renamed_put : (t : List (Bytes × Target)) (place : ℕ) (name local : Bytes) (xs : List (Bytes × ℕ))
    → with_all t (renamed name local (targets place xs))
    ≡ with_all t (found_as place name local (find name xs))
unfolding with_all
renamed_put t place name local [] = refl
renamed_put t place name local (x ∷ xs) = by (bytes_eq name x.0) refl (renamed_put t place name local xs)
  where
    rest : List (Bytes × Target)
    rest = filter (λ p. bytes_eq name p.0) (targets place xs)

    by : (b : Bool) → bytes_eq name x.0 ≡ b
        → with_all t (renamed name local (targets place xs))
        ≡ with_all t (found_as place name local (find name xs))
        → with_all t (renamed name local (targets place (x ∷ xs)))
        ≡ with_all t (found_as place name local (find name (x ∷ xs)))
    by true e others =
        ap (λ c. with_all t (map (λ p. (local, p.1)) (cond c ((x.0, target place x.0 x.1) ∷ rest) rest))) e
        ∙ again (with_pair t local (target place x.0 x.1)) place name local xs
        (has-put t local (target place x.0 x.1))
        ∙ ap (λ n. with_pair t local (target place n x.1)) (sym ((bytes_eq-Decides name x.0).0 e))
        ∙ sym (ap (λ c. with_all t (found_as place name local (cond c (Some x.1) (find name xs)))) e)
    by false e others =
        ap (λ c. with_all t (map (λ p. (local, p.1)) (cond c ((x.0, target place x.0 x.1) ∷ rest) rest))) e
        ∙ others
        ∙ sym (ap (λ c. with_all t (found_as place name local (cond c (Some x.1) (find name xs)))) e)

-- what an interface has of a name is put as it is found
pub exported_put : (space : Space) (t : List (Bytes × Target)) (place : ℕ) (m : ModuleParts)
    (name local : Bytes)
    → with_all t (renamed name local (exported space place m))
    ≡ with_all t (found_as place name local (find name (table_of space (interface_of m))))
exported_put space t place m name local =
    renamed_put t place name local (names_in space (interface_of m))
    ∙ ap (λ o. with_all t (found_as place name local o))
    (sym (find-firsts name (names_in space (interface_of m))))

-- ---- cases and methods

-- what is found among names with one number
find-given : (name : Bytes) (number : ℕ) (ys : List Bytes) (rest : List (Bytes × ℕ))
    → find name (given number ys ++ rest) ≡ cond (list_any (bytes_eq name) ys) (Some number) (find name rest)
find-given name number [] rest = refl
find-given name number (y ∷ ys) rest = by (bytes_eq name y) refl (find-given name number ys rest)
  where
    by : (b : Bool) → bytes_eq name y ≡ b
        → find name (given number ys ++ rest)
        ≡ cond (list_any (bytes_eq name) ys) (Some number) (find name rest)
        → find name (given number (y ∷ ys) ++ rest)
        ≡ cond (list_any (bytes_eq name) (y ∷ ys)) (Some number) (find name rest)
    by true e others = rw e
    by false e others = rw e others

-- a type is found by its name as its number is
find-type : (name : Bytes) (ds : List (ℕ × PlainDeclaration))
    → find name (names_in Types ds) ≡ option_map (λ d. d.0) (std.find (is_type name) ds)
unfolding names_in
find-type name [] = refl
find-type name (d ∷ ds) =
    find-given name d.0 (declared_names Types d.1) (names_in Types ds)
    ∙ by (is_type name d) refl (find-type name ds)
  where
    by : (b : Bool) → is_type name d ≡ b
        → find name (names_in Types ds) ≡ option_map (λ e. e.0) (std.find (is_type name) ds)
        → cond (is_type name d) (Some d.0) (find name (names_in Types ds))
        ≡ option_map (λ e. e.0) (cond (is_type name d) (Some d) (std.find (is_type name) ds))
    by true e others =
        ap (λ c. cond c (Some d.0) (find name (names_in Types ds))) e
        ∙ sym (ap (λ c. option_map (λ x. x.0) (cond c (Some d) (std.find (is_type name) ds))) e)
    by false e others =
        ap (λ c. cond c (Some d.0) (find name (names_in Types ds))) e ∙ others
        ∙ sym (ap (λ c. option_map (λ x. x.0) (cond c (Some d) (std.find (is_type name) ds))) e)

-- a declaration that is found stands at its number
found_at : (name : Bytes) (first : ℕ) (ds : List PlainDeclaration) (d : ℕ × PlainDeclaration)
    → std.find (is_type name) (numbered first ds) ≡ Some d
    → (i : ℕ) × (d.0 ≡ first + i) × (slice_get ds i ≡ Some d.1)
unfolding numbered
found_at name first [] d h = absurd (none-some d h)
found_at name first (x ∷ xs) d h = by (is_type name (first, x)) refl (found_at name (first + 1) xs d)
  where
    by : (b : Bool) → is_type name (first, x) ≡ b
        → (std.find (is_type name) (numbered (first + 1) xs) ≡ Some d
        → (i : ℕ) × (d.0 ≡ first + 1 + i) × (slice_get xs i ≡ Some d.1))
        → (i : ℕ) × (d.0 ≡ first + i) × (slice_get (x ∷ xs) i ≡ Some d.1)
    by true e others =
        let same : (first, x) ≡ d =
        same_Some (first, x) d
        (sym (ap (λ c. cond c (Some (first, x)) (std.find (is_type name) (numbered (first + 1) xs))) e)
        ∙ h)
        in
        let zeroth : first ≡ first + 0 = omega arith in
        (0, sym (ap (λ p. p.0) same) ∙ zeroth, ap (λ p. Some p.1) same)
    by false e others =
        let found : (i : ℕ) × (d.0 ≡ first + 1 + i) × (slice_get xs i ≡ Some d.1) =
        others
        (sym (ap (λ c. cond c (Some (first, x)) (std.find (is_type name) (numbered (first + 1) xs))) e)
        ∙ h)
        in
        let next : first + 1 + found.0 ≡ first + suc found.0 = omega arith in
        (suc found.0, found.1 ∙ next, found.2)

-- the cases or methods of the declaration of a number, if one is found
abbrev members_found : ℕ → Option ℕ → List PlainDeclaration → List (Bytes × Target)
members_found place None ds = []
members_found place (Some number) ds = members_at place number ds

-- what comes along is what the declaration has whose number is found
pub along_is : (place : ℕ) (name : Bytes) (ds : List PlainDeclaration)
    → along place name (numbered 0 ds) ≡ members_found place (find name (table_of Types (numbered 0 ds))) ds
along_is place name ds =
    by (std.find (is_type name) (numbered 0 ds)) refl
    ∙ sym
    (ap (λ o. members_found place o ds)
    (find-firsts name (names_in Types (numbered 0 ds)) ∙ find-type name (numbered 0 ds)))
  where
    by : (o : Option (ℕ × PlainDeclaration)) → std.find (is_type name) (numbered 0 ds) ≡ o
        → members_of place (std.find (is_type name) (numbered 0 ds))
        ≡ members_found place (option_map (λ d. d.0) (std.find (is_type name) (numbered 0 ds))) ds
    by None e = ap (members_of place) e ∙ sym (ap (λ o. members_found place (option_map (λ d. d.0) o) ds) e)
    by (Some d) e =
        let found : (i : ℕ) × (d.0 ≡ 0 + i) × (slice_get ds i ≡ Some d.1) = found_at name 0 ds d e in
        let same : found.0 ≡ d.0 = sym (found.1 ∙ zero-add found.0) in
        ap (members_of place) e
        ∙ ap (λ o. members_of place (option_map (λ x. (d.0, x)) o)) (sym found.2 ∙ ap (slice_get ds) same)
        ∙ sym (ap (λ o. members_found place (option_map (λ x. x.0) o) ds) e)

-- the declaration of a number, seen twice
pub declaration_seen : {A B C : Type 0} (p : B → C) (v : A → B) (xs : List A) (n : ℕ)
    → slice_get (map p (map v xs)) n ≡ option_map p (option_map v (slice_get xs n))
declaration_seen p v xs n = slice_get-map p (map v xs) n ∙ ap (option_map p) (slice_get-map v xs n)

-- past the declarations there is nothing to put
pub members_past : {A B : Type 0} (p : B → PlainDeclaration) (v : A → B) (t : List (Bytes × Target))
    (place number : ℕ) (xs : List A)
    → length xs ≤ number
    → t ≡ with_all t (members_at place number (map p (map v xs)))
members_past p v t place number xs past =
    sym
    (ap (λ o. with_all t (members_of place (option_map (λ d. (number, d)) o)))
    (declaration_seen p v xs number
    ∙ ap (λ o. option_map p (option_map v o)) (slice_get_past xs number past))
    ∙ with_all-none t)

-- the cases or methods of the declaration that stands there
pub members_there : {A B : Type 0} (p : B → PlainDeclaration) (v : A → B)
    (before after : List (Bytes × Target)) (place number : ℕ) (xs : List A) (x : A)
    → slice_get xs number ≡ Some x
    → after ≡ with_all before (targets place (given number (members (p (v x)))))
    → after ≡ with_all before (members_at place number (map p (map v xs)))
members_there p v before after place number xs x here h =
    h
    ∙ sym
    (ap (λ o. with_all before (members_of place (option_map (λ d. (number, d)) o)))
    (declaration_seen p v xs number ∙ ap (λ o. option_map p (option_map v o)) here))

-- nothing comes along where no type has the name
pub along_none : (t : List (Bytes × Target)) (place : ℕ) (name : Bytes) (m : ModuleParts)
    (names : List (Bytes × ℕ))
    → names ≡ table_of Types (interface_of m) → None ≡ find name names
    → t ≡ with_all t (along place name (interface_of m))
along_none t place name m names is h =
    let ds = declarations_in m.interface in
    sym
    (ap (with_all t)
    (along_is place name ds ∙ ap (λ r. members_found place (find name r) ds) (sym is)
    ∙ ap (λ o. members_found place o ds) (sym h))
    ∙ with_all-none t)

-- what comes along is put where one has it
pub along_some : (before after : List (Bytes × Target)) (place : ℕ) (name : Bytes) (m : ModuleParts)
    (names : List (Bytes × ℕ)) (number : ℕ) (file : Option PlainModule)
    → names ≡ table_of Types (interface_of m) → Some number ≡ find name names → file ≡ interface_tree (Some m)
    → after ≡ with_all before (members_at place number (declarations_seen file))
    → after ≡ with_all before (along place name (interface_of m))
along_some before after place name m names number file is h seen new =
    let ds = declarations_in m.interface in
    let same : declarations_seen file ≡ ds = ap declarations_seen seen ∙ sym (interface_seen m) in
    new
    ∙ ap (λ r. with_all before (members_at place number r)) same
    ∙ sym
    (ap (with_all before)
    (along_is place name ds ∙ ap (λ r. members_found place (find name r) ds) (sym is)
    ∙ ap (λ o. members_found place o ds) (sym h)))

-- ---- items and imports

-- what an item brings into the values
pub brought_value : (space : Space) (before after : List (Bytes × Target)) (place : ℕ) (m : ModuleParts)
    (item : Renaming Bytes) (names : List (Bytes × ℕ))
    → space ≡ Values → names ≡ table_of space (interface_of m)
    → after ≡ with_all before (found_as place item.name.name (given_name item) (find item.name.name names))
    → after ≡ with_all before (brought space place m item)
brought_value space before after place m item names e is h =
    h
    ∙ ap (λ r. with_all before (found_as place item.name.name (given_name item) (find item.name.name r))) is
    ∙ sym (exported_put space before place m item.name.name (given_name item))
    ∙ ap (λ s. with_all before (renamed item.name.name (given_name item) (exported s place m))) e
    ∙ ap (λ s. with_all before (brought s place m item)) (sym e)

-- what it brings into the types
pub brought_type : (space : Space) (before after : List (Bytes × Target)) (place : ℕ) (m : ModuleParts)
    (item : Renaming Bytes) (names : List (Bytes × ℕ))
    → space ≡ Types → names ≡ table_of space (interface_of m)
    → after ≡ with_all before (found_as place item.name.name (given_name item) (find item.name.name names))
    → after ≡ with_all before (brought space place m item)
brought_type space before after place m item names e is h =
    h
    ∙ ap (λ r. with_all before (found_as place item.name.name (given_name item) (find item.name.name r))) is
    ∙ sym (exported_put space before place m item.name.name (given_name item))
    ∙ ap (λ s. with_all before (renamed item.name.name (given_name item) (exported s place m))) e
    ∙ ap (λ s. with_all before (brought s place m item)) (sym e)

-- what it brings into the callables
pub brought_callable : (space : Space) (before between after : List (Bytes × Target)) (place : ℕ)
    (m : ModuleParts) (item : Renaming Bytes) (names : List (Bytes × ℕ))
    → space ≡ Callables
    → names ≡ table_of space (interface_of m)
    → between ≡ with_all before (found_as place item.name.name (given_name item) (find item.name.name names))
    → after ≡ with_all between (along place item.name.name (interface_of m))
    → after ≡ with_all before (brought space place m item)
brought_callable space before between after place m item names e is h k =
    let own = renamed item.name.name (given_name item) (exported space place m) in
    let others = along place item.name.name (interface_of m) in
    k
    ∙ ap (λ t. with_all t others)
    (h
    ∙ ap (λ r. with_all before (found_as place item.name.name (given_name item) (find item.name.name r))) is
    ∙ sym (exported_put space before place m item.name.name (given_name item)))
    ∙ sym (with_all-append before own others)
    ∙ ap (λ s. with_all before (renamed item.name.name (given_name item) (exported s place m) ++ others)) e
    ∙ ap (λ s. with_all before (brought s place m item)) (sym e)

-- an import of a module that isn't there brings nothing
pub brings_nothing : (space : Space) (program : List ModuleParts) (place : ℕ) (i : Importing Bytes)
    → place_of program (joined i.from) ≡ None → brings space program place i ≡ []
brings_nothing space program place i h = ap (λ o. brought_from space i.items (earlier program place o)) h

-- nor does one of a module that stands later
pub brings_later : (space : Space) (program : List ModuleParts) (place other : ℕ) (i : Importing Bytes)
    → place_of program (joined i.from) ≡ Some other → place ≤ other
    → brings space program place i ≡ []
brings_later space program place other i h later =
    ap (λ o. brought_from space i.items (earlier program place o)) h
    ∙ ap
    (λ b. brought_from space i.items (cond b (option_map (λ m. (other, m)) (slice_get program other)) None))
    (le-ltb other place later)

-- one of a module that stands before brings what its items do
pub brings_earlier : (space : Space) (program : List ModuleParts) (place other : ℕ) (i : Importing Bytes)
    (m : ModuleParts)
    → place_of program (joined i.from) ≡ Some other → other < place
    → slice_get program other ≡ Some m
    → brings space program place i ≡ flat_map (brought space other m) i.items
brings_earlier space program place other i m h before here =
    ap (λ o. brought_from space i.items (earlier program place o)) h
    ∙ ap
    (λ b.
    brought_from space i.items
    (cond b (option_map (λ one. (other, one)) (slice_get program other)) None))
    (lt-ltb other place before)
    ∙ ap (λ o. brought_from space i.items (option_map (λ one. (other, one)) o)) here

-- what is found under a name and put under another, by equal names
pub found_put : (before after : List (Bytes × Target)) (place : ℕ) (names : List (Bytes × ℕ))
    (name same local here : Bytes)
    → name ≡ same → local ≡ here
    → after ≡ with_all before (found_as place name local (find name names))
    → after ≡ with_all before (found_as place same here (find same names))
found_put before after place names name same local here a b h =
    h ∙ ap (λ n. with_all before (found_as place n local (find n names))) a
    ∙ ap (λ l. with_all before (found_as place same l (find same names))) b

-- nothing is put
pub nothing_put : (t xs : List (Bytes × Target)) → xs ≡ [] → t ≡ with_all t xs
nothing_put t xs h = sym (ap (with_all t) h ∙ with_all-none t)
