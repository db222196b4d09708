-- The code of a closed program, put together.
use Rattle.std.proofs.Common.{◌≡◌, ℕ, Bool, List, [], ◌∷◌, ◌++◌, Some, Result, Ok, Err, IfOk, map, refl}
use Rattle.std.proofs.Common.{sym, ap, ◌∙◌}
use Rattle.std.specs.Str.{bytes_eq}
use Rattle.std.proofs.lemmas.List.{map-append}
use Rattle.au_base.specs.declared.faults.Memory.{Memory}
use Rattle.au_type_texts.specs.Keys.{key_of}
use Rattle.au_closed_trees.specs.Parts.{ClosedField}
use Rattle.au_closed_programs.specs.Programs.{ClosedProgram}
use Rattle.au_type_texts.specs.Same.{same}
use Rattle.au_type_texts.specs.Types.{ClosedType}
use Rattle.au_closing.specs.Closes.{ClosedFunction}
use Rattle.au_low.specs.declared.code.Code.{Code}
use Rattle.au_low.specs.declared.code.Function as low
use Rattle.au_low.specs.declared.code.LowType.{LowType}
use Rattle.au_lowered.specs.Programs.{entry_types, texts_named, types_named}
use Rattle.au_lowering.specs.Closed.{code_of, fields_seen, functions_of, is_too_long, roots_of}
use Rattle.au_lowering.specs.Closed.{takes_root_of, told_in, types_of}
use Rattle.au_lowering.specs.Drafted.{Drafted, all_drafts, coded, drafted, function_by}
use Rattle.au_lowering.specs.Drafted.{function_of, is_long}
use Rattle.au_lowering.specs.Rows.{rows_told}
use Rattle.au_lowering.proofs.CodedLemmas.{coded_is, functions_by, keys_added, long_is}
use Rattle.au_lowering.proofs.RowLemmas.{told_all}
use Rattle.au_meaning.specs.Views.{Field}
use Rattle.au_graphs.specs.Reached.{adds}
use Rattle.au_graphs.proofs.HasLemmas.{adds_both}
use Rattle.au_syntax.specs.Plain.{Bytes}
use Rattle.au_types.specs.Tables.{find, with_all}

-- the types of an entry's parameters and then of what instructions name
pub more_types : (roots : List ClosedType) (types : List ClosedType)
    → adds bytes_eq (adds bytes_eq [] (map key_of roots)) (map key_of types)
    ≡ map key_of (adds same [] (roots ++ types))
more_types roots types =
    sym (adds_both bytes_eq [] (map key_of roots) (map key_of types))
    ∙ ap (adds bytes_eq []) (sym (map-append key_of roots types))
    ∙ keys_added [] (roots ++ types)

fields_same : (fields : List ClosedField) → map (λ (p : Field). p.of) (fields_seen fields) ≡ types_of fields
fields_same [] = refl
fields_same (p ∷ rest) = ap (λ l. p.of ∷ l) (fields_same rest)

roots_same : (functions : List ClosedFunction) (c : ClosedProgram) → c.functions ≡ functions
    → entry_types (functions_of c) ≡ roots_of functions
roots_same functions c is = by functions c is
  where
    by : (functions : List ClosedFunction) (c : ClosedProgram) → c.functions ≡ functions
        → entry_types (functions_of c) ≡ roots_of functions
    by [] c e = ap (λ l. entry_types
        (functions_of (record { functions = l; types = c.types; root = c.root }))) e
    by (f ∷ rest) c e = ap
        (λ l. entry_types (functions_of
        (record { functions = l; types = c.types; root = c.root }))) e ∙ fields_same f.parameters

-- code with these texts, types and functions
pub code_is : (c : ClosedProgram) (all : List Drafted) (texts : List Bytes) (keys : List (List ℕ))
    (types : List LowType) (functions : List low.Function) (root : Bool)
    → all ≡ map drafted (functions_of c)
    → texts ≡ adds bytes_eq [] (texts_named (all_drafts all))
    → keys ≡ map key_of (adds same [] (roots_of c.functions ++ types_named (all_drafts all)))
    → map Some types ≡ map (λ key. find key (with_all [] (rows_told c.types))) keys
    → functions ≡ map (function_by texts keys) all
    → root ≡ takes_root_of c.functions
    → record { texts = texts; types = types; functions = functions; root = root } ≡ code_of c
code_is c all texts keys types functions root ours is_texts is_keys is_types is_functions is_root =
    let roots : entry_types (functions_of c) ≡ roots_of c.functions = roots_same c.functions c refl in
    let names : List ClosedType = adds same [] (roots_of c.functions ++ types_named (all_drafts all)) in
    let told : types ≡ map (told_in c.types) names =
    told_all c.types names types
    (is_types ∙ ap (map (λ key. find key (with_all [] (rows_told c.types)))) is_keys) in
    let made : functions ≡ map (function_of texts names) all =
    is_functions ∙ ap (λ k. map (function_by texts k) all) is_keys ∙ functions_by texts names all in
    let whole : Code = coded (told_in c.types) (roots_of c.functions) all in
    let put : record { texts = texts; types = types; functions = functions; root = root } ≡ whole =
    (λ i. record {
      texts = is_texts i;
      types = told i;
      functions = (made ∙ ap (λ x. map (function_of x names) all) is_texts) i;
      root = is_root i;
    }) in
    put
    ∙ (λ i. coded (told_in c.types) (sym roots i) (ours i))
    ∙ coded_is (told_in c.types) (functions_of c)

-- whether it is too long
pub too_long_is : (c : ClosedProgram) (all : List Drafted) → all ≡ map drafted (functions_of c)
    → is_long all ≡ is_too_long c
too_long_is c all ours = ap is_long ours ∙ long_is (functions_of c)

-- the code that was put together
pub code_made : (c : ClosedProgram) (all : List Drafted) (texts : List Bytes) (keys : List (List ℕ))
    (pairs : List (List ℕ × LowType)) (root : Bool) (result : Result Code Memory)
    → all ≡ map drafted (functions_of c)
    → texts ≡ adds bytes_eq [] (texts_named (all_drafts all))
    → keys ≡ map key_of (adds same [] (roots_of c.functions ++ types_named (all_drafts all)))
    → pairs ≡ with_all [] (rows_told c.types)
    → root ≡ takes_root_of c.functions
    → IfOk result (λ code. code.texts ≡ texts)
    → IfOk result (λ code. map Some code.types ≡ map (λ key. find key pairs) keys)
    → IfOk result (λ code. code.functions ≡ map (function_by texts keys) all)
    → IfOk result (λ code. code.root ≡ root)
    → IfOk result (λ code. code ≡ code_of c)
code_made c all texts keys pairs root (Ok code) ours is_texts is_keys is_pairs is_root t ty f r =
    code_is c all code.texts keys code.types code.functions code.root ours (t ∙ is_texts) is_keys
    (ty ∙ ap (λ p. map (λ key. find key p) keys) is_pairs)
    (f ∙ ap (λ x. map (function_by x keys) all) (sym t))
    (r ∙ is_root)
code_made c all texts keys pairs root (Err fault) ours is_texts is_keys is_pairs is_root t ty f r = tt
