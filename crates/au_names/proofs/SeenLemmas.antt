-- What a part of a module sees, and that it is meant.
use Rattle.std.proofs.Common.{◌≡◌, ℕ, suc, zero, ◌<◌, Bool, true, false, cond, List, [], ◌∷◌, ◌++◌}
use Rattle.std.proofs.Common.{length, get_or, Option, None, Some, refl, sym, ap, ◌∙◌, arith, append_assoc}
use Rattle.std.proofs.Common.{zero-add}
use Rattle.std.specs.Prelude.{slice_get, Contains}
use Rattle.std.specs.Option.{option_map}
use Rattle.std.specs.Str.{bytes_eq}
use Rattle.std.specs.Cmp.Lexicographic.{nat_list_eq_equiv}
use Rattle.std.proofs.lemmas.List.{map-append}
use Rattle.std.proofs.lemmas.Option.{none-some, same_Some, slice_get-get_or}
use Rattle.std.proofs.lemmas.Slice.Eq.{bytes_eq-Decides}
use Rattle.au_syntax.specs.declared.modules.Part.{Part}
use Rattle.au_syntax.specs.declared.modules.Part.TheVariants.{Interface, Body}
use Rattle.au_syntax.specs.Plain.{Bytes, PlainDeclaration, PlainModule}
use Rattle.au_types.specs.declared.spaces.Space.{Space}
use Rattle.au_types.specs.Tables.{find, with_all, firsts}
use Rattle.au_types.specs.DeclaredNames.{declared_names, given, numbered, names_in, table_of}
use Rattle.au_types.proofs.TableLemmas.{with_all-firsts, find-firsts}
use Rattle.au_types.proofs.DeclaredLemmas.{numbered-append}
use Rattle.au_modules.specs.Programs.{Entry, ModuleParts}
use Rattle.au_modules.specs.Seen.{interface_tree, body_tree, part_tree}
use Rattle.au_names.specs.declared.targets.Target.{Target}
use Rattle.au_names.specs.Owned.{declarations_in, interface_of, target, targets, own}
use Rattle.au_names.specs.Importing.{imported}
use Rattle.au_names.specs.Meanings.{imports_in, part_of, offered, pervasive, meanings, Means, seen}
use Rattle.au_names.specs.Meanings.{declared_by}
use Rattle.au_names.specs.Exporting.{in_space, tables_from, body_names, declarations_seen, imports_seen}
use Rattle.au_names.proofs.ExportLemmas.{nothing, interface_seen, body_seen, in_space-tables}
use Rattle.au_names.proofs.PutLemmas.{with_all-append, firsts-put, firsts-changed}

-- ---- what is put

-- the table of names is put as all the names are
pub table_put : (space : Space) (t : List (Bytes × Target)) (place : ℕ) (ds : List (ℕ × PlainDeclaration))
    → with_all t (targets place (table_of space ds)) ≡ with_all t (targets place (names_in space ds))
table_put space t place ds =
    ap (with_all t) (sym (firsts-changed (λ p. target place p.0 p.1) (names_in space ds)))
    ∙ firsts-put t (targets place (names_in space ds))

pub names_in-append : (space : Space) (ds es : List (ℕ × PlainDeclaration))
    → names_in space (ds ++ es) ≡ names_in space ds ++ names_in space es
unfolding names_in
names_in-append space [] es = refl
names_in-append space (d ∷ ds) es =
    ap (λ r. given d.0 (declared_names space d.1) ++ r) (names_in-append space ds es)
    ∙ sym (append_assoc (given d.0 (declared_names space d.1)) (names_in space ds) (names_in space es))

-- the names of both parts
own_is : (space : Space) (place : ℕ) (m : ModuleParts)
    → own space place m
    ≡ targets place (names_in space (interface_of m))
    ++ targets place
    (names_in space (numbered (length (declarations_in m.interface)) (declarations_in m.body)))
own_is space place m =
    let interface = declarations_in m.interface in
    let body = declarations_in m.body in
    ap (λ ds. targets place (names_in space ds))
    (numbered-append 0 interface body
    ∙ ap (λ n. numbered 0 interface ++ numbered n body) (zero-add (length interface)))
    ∙ ap (targets place) (names_in-append space (numbered 0 interface) (numbered (length interface) body))
    ∙ map-append (λ p. (p.0, target place p.0 p.1)) (names_in space (numbered 0 interface))
    (names_in space (numbered (length interface) body))

-- what a module declares is put as its two parts are
pub own_put : (space : Space) (place : ℕ) (m : ModuleParts) (before between after : List (Bytes × Target))
    (interface body : List (Bytes × ℕ))
    → interface ≡ table_of space (interface_of m) → body ≡ in_space space (body_names m)
    → between ≡ with_all before (targets place interface) → after ≡ with_all between (targets place body)
    → after ≡ with_all before (own space place m)
own_put space place m before between after interface body first second h k =
    let others = numbered (length (declarations_in m.interface)) (declarations_in m.body) in
    let one : between ≡ with_all before (targets place (names_in space (interface_of m))) =
    h ∙ ap (λ r. with_all before (targets place r)) first ∙ table_put space before place (interface_of m) in
    let two : after ≡ with_all between (targets place (names_in space others)) =
    k
    ∙ ap (λ r. with_all between (targets place r))
    (second ∙ in_space-tables space (length (declarations_in m.interface)) (declarations_in m.body))
    ∙ table_put space between place others in
    two
    ∙ ap (λ t. with_all t (targets place (names_in space others))) one
    ∙ sym
    (with_all-append before (targets place (names_in space (interface_of m)))
    (targets place (names_in space others)))
    ∙ ap (with_all before) (sym (own_is space place m))

-- what is pervasive is put as the table of the first module's interface is
pub pervasive_put : (space : Space) (program : List ModuleParts) (m : ModuleParts)
    (before after : List (Bytes × Target)) (names : List (Bytes × ℕ))
    → slice_get program 0 ≡ Some m
    → names ≡ table_of space (interface_of m) → after ≡ with_all before (targets 0 names)
    → after ≡ with_all before (pervasive space program)
pervasive_put space program m before after names here is h =
    h
    ∙ ap (λ r. with_all before (targets 0 r)) is
    ∙ table_put space before 0 (interface_of m)
    ∙ ap (λ o. with_all before (offered space 0 o)) (sym here)

-- what is put in turn is what is seen
pub seen_put : (space : Space) (program : List ModuleParts) (place : ℕ) (m : ModuleParts) (part : Part)
    (empty first second third : List (Bytes × Target))
    → empty ≡ []
    → first ≡ with_all empty (own space place m)
    → second ≡ with_all first (imported space program place (imports_in (part_of part m)))
    → third ≡ with_all second (pervasive space program) → third ≡ seen space program place m part
seen_put space program place m part empty first second third none a b c =
    let owned = own space place m in
    let brought = imported space program place (imports_in (part_of part m)) in
    c
    ∙ ap (λ t. with_all t (pervasive space program))
    (b ∙ ap (λ t. with_all t brought) (a ∙ ap (λ t. with_all t owned) none))
    ∙ ap (λ t. with_all t (pervasive space program)) (sym (with_all-append [] owned brought))
    ∙ sym (with_all-append [] (owned ++ brought) (pervasive space program))
    ∙ with_all-firsts (owned ++ brought ++ pervasive space program)

-- the declarations of what is seen, put in turn
pub declared_put : (pairs : List (Bytes × Target))
    → with_all [] (declared_by (firsts pairs)) ≡ declared_by (firsts pairs)
declared_put pairs =
    ap (with_all []) (sym (firsts-changed (λ p. p.1.at) pairs))
    ∙ firsts-put [] (declared_by pairs)
    ∙ with_all-firsts (declared_by pairs)
    ∙ firsts-changed (λ p. p.1.at) pairs

-- the names of a body, from what is seen of both parts
pub body_names_seen : (program : List ModuleParts) (place : ℕ) (body : Option PlainModule)
    → place < length program → body ≡ body_tree (slice_get program place)
    → option_map body_names (slice_get program place)
    ≡ Some
    (tables_from (length (declarations_seen (interface_tree (slice_get program place))))
    (declarations_seen body))
body_names_seen program place body within h = by (slice_get program place) refl h
  where
    by : (o : Option ModuleParts) → slice_get program place ≡ o → body ≡ body_tree o
        → option_map body_names o
        ≡ Some (tables_from (length (declarations_seen (interface_tree o))) (declarations_seen body))
    by None e k =
        absurd
        (none-some (get_or program place nothing) (sym e ∙ slice_get-get_or program place nothing within))
    by (Some m) e k =
        ap (λ ds. Some (tables_from (length ds) (declarations_in m.body))) (interface_seen m)
        ∙ ap (λ ds. Some (tables_from (length (declarations_seen (interface_tree (Some m)))) ds))
        (body_seen m ∙ ap declarations_seen (sym k))

-- the imports of a part are those that are seen of it
imports_of : (o : Option Entry) → imports_seen (option_map (λ (e : Entry). e.tree) o) ≡ imports_in o
imports_of None = refl
imports_of (Some e) = refl

pub part_imports : (part : Part) (m : ModuleParts)
    → imports_seen (part_tree part (Some m)) ≡ imports_in (part_of part m)
part_imports Interface m = imports_of m.interface
part_imports Body m = imports_of m.body

-- ---- what is seen is meant

-- a pair that is found stands in the list
find-contains : (name : Bytes) (pairs : List (Bytes × Target)) (meaning : Target)
    → find name pairs ≡ Some meaning → Contains pairs (name, meaning)
find-contains name [] meaning h = absurd (none-some meaning h)
find-contains name (p ∷ ps) meaning h = by (bytes_eq name p.0) refl (find-contains name ps meaning)
  where
    by : (b : Bool) → bytes_eq name p.0 ≡ b → (find name ps ≡ Some meaning → Contains ps (name, meaning))
        → Contains (p ∷ ps) (name, meaning)
    by true e rest =
        let same : p.1 ≡ meaning =
        same_Some p.1 meaning (sym (ap (λ c. cond c (Some p.1) (find name ps)) e) ∙ h) in
        let named : p.0 ≡ name = sym ((bytes_eq-Decides name p.0).0 e) in
        (0, omega arith, λ i. (named i, same i))
    by false e rest =
        let found : Contains ps (name, meaning) =
        rest (sym (ap (λ c. cond c (Some p.1) (find name ps)) e) ∙ h) in
        (suc found.0, omega (arith, found.1), found.2)

-- under a name of a pair in the list something is found
contains-find : (name : Bytes) (meaning : Target) (pairs : List (Bytes × Target)) (k : ℕ) → k < length pairs
    → get_or pairs k (name, meaning) ≡ (name, meaning)
    → (first : Target) × (find name pairs ≡ Some first)
contains-find name meaning [] k within here = absurd (omega (arith, within))
contains-find name meaning (p ∷ ps) zero within here = (
  p.1,
  ap (λ n. cond (bytes_eq name n) (Some p.1) (find name ps)) (ap (λ x. x.0) here)
      ∙ ap (λ b. cond b (Some p.1) (find name ps)) (nat_list_eq_equiv.refl name),
)
contains-find name meaning (p ∷ ps) (suc k) within here =
    by (bytes_eq name p.0) refl (contains-find name meaning ps k (omega (arith, within)) here)
  where
    by : (b : Bool) → bytes_eq name p.0 ≡ b → (first : Target) × (find name ps ≡ Some first)
        → (first : Target) × (find name (p ∷ ps) ≡ Some first)
    by true e rest = (p.1, ap (λ c. cond c (Some p.1) (find name ps)) e)
    by false e rest = (rest.0, ap (λ c. cond c (Some p.1) (find name ps)) e ∙ rest.1)

pub seen_meant : (space : Space) (program : List ModuleParts) (place : ℕ) (m : ModuleParts) (part : Part)
    (name : Bytes) (meaning : Target)
    → find name (seen space program place m part) ≡ Some meaning
    → Means program place m part space name meaning
seen_meant space program place m part name meaning h =
    find-contains name (meanings space program place m part) meaning
    (sym (find-firsts name (meanings space program place m part)) ∙ h)

pub meant_seen : (space : Space) (program : List ModuleParts) (place : ℕ) (m : ModuleParts) (part : Part)
    (name : Bytes) (meaning : Target)
    → Means program place m part space name meaning
    → (first : Target) × (find name (seen space program place m part) ≡ Some first)
meant_seen space program place m part name meaning h =
    let found = contains-find name meaning (meanings space program place m part) h.0 h.1 h.2 in
    (found.0, find-firsts name (meanings space program place m part) ∙ found.1)
