-- The imports of a whole file name modules, each by a name within the limit.
use Rattle.std.proofs.Common.{◌≡◌, ℕ, zero, suc, ◌<◌, ◌≤◌, true, List, [], ◌∷◌, length, map, get_or, refl, ap}
use Rattle.std.proofs.Common.{◌∙◌, arith}
use Rattle.std.specs.Prelude.{IsTrue}
use Rattle.std.specs.List.{list_all}
use Rattle.std.proofs.lemmas.Bool.{and_parts, leb-true, and_from}
use Rattle.au_base.specs.Limits.{most_name_bytes}
use Rattle.au_syntax.specs.contracts.parsed.ParsedPhase.TheImpl.{ghosts as parsed}
use Rattle.au_syntax.specs.declared.modules.Import.{Import}
use Rattle.au_syntax.specs.declared.parsed.Parsed.{Parsed}
use Rattle.au_syntax.specs.Forms.{formed_import, formed_module, some}
use Rattle.au_syntax.specs.Modules.{Importing}
use Rattle.au_syntax.specs.Names.{Placed}
use Rattle.au_syntax.specs.Plain.{Bytes, PlainModule, plain_importing}
use Rattle.au_syntax.specs.Sizes.{fits, fits_name, joined, names_fit}
use Rattle.au_syntax.specs.Views.{importing}
use Rattle.au_imports.specs.Importers.{is_module_name, name_modules}

abbrev TheImport : Type 0
TheImport = Import Parsed (List ℕ) (Unit {0}) (Unit {0})

-- ---- one name

pub within_limit : (names : List (Placed Bytes)) → IsTrue (is_module_name names)
    → length (joined names) ≤ most_name_bytes
within_limit names h =
    let fit : fits_name names ≡ true = (and_parts _ _ h).1 in
    leb-true (length (joined names)) most_name_bytes fit

-- ---- those of imports

both : (imports : List (Importing Bytes)) → list_all formed_import imports ≡ true
    → list_all (λ (i : Importing Bytes). fits_name i.from) imports ≡ true
    → name_modules imports ≡ true
both [] formed fit = refl
both (i ∷ rest) formed fit =
    let one : some i.from ≡ true = (and_parts _ _ (and_parts _ _ formed).0).0 in
    let short : fits_name i.from ≡ true = (and_parts _ _ fit).0 in
    and_from (is_module_name i.from) (name_modules rest) (and_from (some i.from) (fits_name i.from) one short)
    (both rest (and_parts _ _ formed).1 (and_parts _ _ fit).1)

pub modules_named : (m : PlainModule) → IsTrue (formed_module m) → IsTrue (fits m)
    → IsTrue (name_modules m.imports)
modules_named m formed within =
    let fit : names_fit m ≡ true = (and_parts _ _ within).1 in
    both m.imports (and_parts _ _ (and_parts _ _ formed).0).1 (and_parts _ _ fit).1

there : (items : List TheImport) (i : ℕ) (one : TheImport) → i < length items → one ≡ get_or items i one
    → name_modules (map (plain_importing parsed.name_bytes) (map (importing parsed) items)) ≡ true
    → is_module_name (plain_importing parsed.name_bytes (importing parsed one)).from ≡ true
there [] i one within is h = absurd (omega arith)
there (x ∷ xs) zero one within is h =
    ap (λ (y : TheImport). is_module_name (plain_importing parsed.name_bytes (importing parsed y)).from) is
    ∙ (and_parts _ _ h).0
there (x ∷ xs) (suc i) one within is h = there xs i one (omega arith) is (and_parts _ _ h).1

pub import_named : (all items : List TheImport) (i : ℕ) (one : TheImport)
    → items ≡ all → i < length items → one ≡ get_or items i one
    → IsTrue (name_modules (map (plain_importing parsed.name_bytes) (map (importing parsed) all)))
    → IsTrue (is_module_name (plain_importing parsed.name_bytes (importing parsed one)).from)
import_named all items i one same within is h =
    there items i one within is
    (ap (λ xs. name_modules (map (plain_importing parsed.name_bytes) (map (importing parsed) xs))) same
    ∙ h)
