-- A module's name is its parts with a dot before each, but for the first dot.
use Rattle.std.proofs.Common.{◌≡◌, ℕ, ◌+◌, ◌-◌, ◌≤◌, ◌<◌, get_or, true, List, [], ◌∷◌, ◌++◌, length, map}
use Rattle.std.proofs.Common.{take, drop, refl, ap, sym, ◌∙◌}
use Rattle.std.specs.Prelude.{IsTrue, nat_le}
use Rattle.std.proofs.lemmas.Bool.{and_parts, leb-true}
use Rattle.std.specs.List.{flat_map}
use Rattle.std.proofs.lemmas.List.{map-append, take_more, take_rest}
use Rattle.au_base.specs.Limits.{most_name_bytes}
use Rattle.au_syntax.specs.contracts.parsed.ParsedPhase.TheImpl.{ghosts as parsed}
use Rattle.au_syntax.specs.declared.names.Ident.{Ident}
use Rattle.au_syntax.specs.declared.parsed.Parsed.{Parsed}
use Rattle.au_syntax.specs.Names.{Placed}
use Rattle.au_syntax.specs.Plain.{Bytes, PlainModule, plain_name}
use Rattle.au_syntax.specs.Sizes.{joined, fits, fits_name, names_fit}
use Rattle.au_syntax.specs.Views.{placed}
use Rattle.au_syntax.specs.Files.{says}
use Rattle.au_syntax.specs.declared.modules.Module.{Module}
use Rattle.au_syntax.specs.declared.wholes.FileTree.{FileTree}
use Rattle.au_modules.specs.declared.parts.Given.{Given}
use Rattle.au_modules.specs.Programs.{entry, given, first_shipped}
use Rattle.au_modules.specs.Names.{dotted}

rest_joined : (names : List (Ident Parsed (List ℕ) (Unit {0}) (Unit {0})))
    → flat_map (λ (one : Placed Bytes). 46 ∷ one.name)
    (map (plain_name parsed.name_bytes) (map (placed parsed) names)) ≡ flat_map dotted names
rest_joined [] = refl
rest_joined (x ∷ names) = ap (λ r. dotted x ++ r) (rest_joined names)

pub name_joined : (names : List (Ident Parsed (List ℕ) (Unit {0}) (Unit {0})))
    → joined (map (plain_name parsed.name_bytes) (map (placed parsed) names)) ≡ drop 1 (flat_map dotted names)
name_joined [] = refl
name_joined (x ∷ names) = ap (λ r. x.name ++ r) (rest_joined names)

-- the name of a file that is within the limits is within its own
pub name_fits : (m : PlainModule) → IsTrue (fits m) → length (joined m.name) ≤ most_name_bytes
name_fits m h =
    let names : names_fit m ≡ true = (and_parts _ _ h).1 in
    let own : fits_name m.name ≡ true = (and_parts _ _ names).0 in
    leb-true (length (joined m.name)) most_name_bytes own

-- the bytes of a module's name in the code's tree
pub bytes_joined : (text : List ℕ) (names : List (Ident Parsed (List ℕ) (Unit {0}) (Unit {0})))
    → text ≡ flat_map dotted names
    → take (length text - 1) (drop 1 text)
    ≡ joined (map (plain_name parsed.name_bytes) (map (placed parsed) names))
bytes_joined text names is = take_rest text 1 ∙ ap (drop 1) is ∙ sym (name_joined names)

-- what is given, from its fields
pub given_is : (name : List ℕ) (tree : Module Parsed (List ℕ) (Unit {0}) (Unit {0})) (file : FileTree)
    → tree ≡ file.tree.tree
    → name ≡ joined (map (plain_name parsed.name_bytes) (map (placed parsed) tree.name.items))
    → ◌≡◌ {A = Given} (record { name = name; part = tree.part; shipped = nat_le first_shipped file.file })
    (given (entry file))
given_is name tree file same named =
    (λ i. record { name = named i; part = tree.part; shipped = nat_le first_shipped file.file })
    ∙ ap (λ (m : Module Parsed (List ℕ) (Unit {0}) (Unit {0})). given
    (record { file = file.file; tree = says parsed m })) same

-- what the files up to a place give, and the one there
pub given_more : (files : List FileTree) (i : ℕ) (one : FileTree) → i < length files
    → one ≡ get_or files i one
    → map given (map entry (take (i + 1) files)) ≡ map given (map entry (take i files)) ++ given (entry one)
    ∷ []
given_more files i one within is =
    ap (λ r. map given (map entry r)) (take_more files i one within
    ∙ ap (λ x. take i files ++ x ∷ []) (sym is))
    ∙ ap (map given) (map-append entry (take i files) (one ∷ []))
    ∙ map-append given (map entry (take i files)) (entry one ∷ [])
