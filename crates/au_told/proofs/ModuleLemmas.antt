-- The modules of shipped files and of files that were read have plain names, and so have their declared
-- types.
use Rattle.std.proofs.Common.{◌≡◌, ℕ, ◌+◌, Bool, true, false, not, List, [], ◌∷◌, ◌++◌, map, find, cond}
use Rattle.std.proofs.Common.{Option, None}
use Rattle.std.proofs.Common.{Some, refl, ◌∙◌}
use Rattle.std.specs.Prelude.{codes, filter, unwrap_or}
use Rattle.std.specs.List.{AllByRecursion, flat_map, list_all}
use Rattle.std.specs.Map.{lookup}
use Rattle.std.specs.Option.{option_map}
use Rattle.std.specs.Str.{bytes_eq}
use Rattle.std.proofs.lemmas.Bool.{and_from, and_parts}
use Rattle.std.proofs.lemmas.List.Folds.{list_all-append}
use Rattle.au_syntax.specs.Plain.{Bytes, PlainDeclaration}
use Rattle.au_syntax.specs.Sizes.{joined}
use Rattle.au_types.specs.DeclaredNames.{numbered, type_names}
use Rattle.au_types.specs.declared.headings.Head.{Head}
use Rattle.au_types.specs.declared.types.DeclAt.{DeclAt}
use Rattle.au_types.specs.Rows.{head_of, same_place}
use Rattle.au_types.specs.Tables.{firsts}
use Rattle.au_modules.specs.Programs.{Entry, ModuleParts, is_interface_of, is_shipped, is_user_body}
use Rattle.au_modules.specs.Programs.{module_of}
use Rattle.au_modules.specs.Programs.{modules_of, shipped_module}
use Rattle.au_names.specs.DeclaredTypes.{DeclaredType, type_declared}
use Rattle.au_names.specs.HeadsOf.{counting, head_for, heads_of, row_of, row_under, rows_at, rows_from}
use Rattle.au_names.specs.HeadsOf.{under_names}
use Rattle.au_names.specs.Owned.{declarations_in, declarations_of}
use Rattle.au_type_texts.specs.ClosedTexts.{list_text, others_text, text_of}
use Rattle.au_type_texts.specs.Texts.{head_text, kind_name}
use Rattle.au_type_texts.specs.Types.{ClosedType, ClosedTypes, unit, truth, integer, text, named, reads}
use Rattle.au_type_texts.specs.Types.{writes}
use Rattle.au_type_texts.specs.Types.{no_types, types}
use Rattle.au_base.specs.declared.kinds.IntKind.{IntKind}
use Rattle.au_base.specs.declared.kinds.IntKind.TheVariants as kinds
use Rattle.au_told.specs.Names.{IsPlain}
use Rattle.au_told.proofs.FileLemmas.{IsNamed, is_named, named_so}
use Rattle.au_told.proofs.PlainLemmas.{all_both, all_filtered, all_found, all_from_each, all_mapped}
use Rattle.au_told.proofs.PlainLemmas.{plain_both}

-- ---- modules

-- a module and the types that it declares have plain names
pub record IsNamedModule (m : ModuleParts) : Type 0 where
  pub home : IsPlain m.name
  pub types : list_all is_named (declarations_in m.interface ++ declarations_in m.body) ≡ true

abbrev pub AreNamed : List Entry → Type 0
AreNamed files = AllByRecursion (λ (e : Entry). IsNamed e.tree) files

abbrev pub AreNamedModules : List ModuleParts → Type 0
AreNamedModules ms = AllByRecursion IsNamedModule ms

both_named : (xs ys : List PlainDeclaration) → list_all is_named xs ≡ true → list_all is_named ys ≡ true
    → list_all is_named (xs ++ ys) ≡ true
both_named xs ys h k = list_all-append is_named xs ys ∙ and_from (list_all is_named xs)
    (list_all is_named ys) h k

shipped_named : (e : Entry) → IsNamed e.tree → IsNamedModule (shipped_module e)
shipped_named e h = record {
  home = h.home;
  types = both_named e.tree.declarations [] h.types refl;
}

module _ (files : List Entry) (are : AreNamed files) where
  interface_named : (o : Option Entry) → ((e : Entry) → o ≡ Some e → IsNamed e.tree)
      → list_all is_named (declarations_in o) ≡ true
  interface_named None h = refl
  interface_named (Some e) h = (h e refl).types

  module_named : (e : Entry) → IsNamed e.tree → IsNamedModule (module_of files e)
  module_named e h =
      let its = find (is_interface_of (joined e.tree.name)) files in
      record {
        home = h.home;
        types = both_named (declarations_in its) e.tree.declarations
            (interface_named its
            (all_found (λ (x : Entry). IsNamed x.tree) (is_interface_of (joined e.tree.name)) files are))
            h.types;
      }

  own_named : (xs : List Entry) → AreNamed xs → AreNamedModules (map (module_of files) xs)
  own_named [] h = tt
  own_named (e ∷ xs) h = (module_named e h.0, own_named xs h.1)

  all_shipped_named : (xs : List Entry) → AreNamed xs → AreNamedModules (map shipped_module xs)
  all_shipped_named [] h = tt
  all_shipped_named (e ∷ xs) h = (shipped_named e h.0, all_shipped_named xs h.1)

  pub modules_named : AreNamedModules (modules_of files)
  modules_named =
      all_both IsNamedModule (map shipped_module (filter is_shipped files))
      (map (module_of files) (filter is_user_body files))
      (all_shipped_named (filter is_shipped files)
      (all_filtered (λ (e : Entry). IsNamed e.tree) is_shipped files are))
      (own_named (filter is_user_body files)
      (all_filtered (λ (e : Entry). IsNamed e.tree) is_user_body files are))

-- the name of a module at a place, if there is one
pub home_plain : (o : Option ModuleParts) → ((m : ModuleParts) → o ≡ Some m → IsNamedModule m)
    → IsPlain (unwrap_or (option_map (λ (m : ModuleParts). m.name) o) [])
home_plain None h = refl
home_plain (Some m) h = (h m refl).home

-- ---- the rows of declared types

abbrev IsNamedRow : DeclAt × Head → Type 0
IsNamedRow row = IsPlain row.1.text

abbrev IsNamedNumber : ℕ × PlainDeclaration → Type 0
IsNamedNumber d = is_named d.1 ≡ true

abbrev IsNamedPair : Bytes × (ℕ × PlainDeclaration) → Type 0
IsNamedPair pair = IsNamedNumber pair.1

numbered_named : (first : ℕ) (ds : List PlainDeclaration) → list_all is_named ds ≡ true
    → AllByRecursion IsNamedNumber (numbered first ds)
unfolding numbered
numbered_named first [] h = tt
numbered_named first (d ∷ ds) h =
    let both = and_parts (is_named d) (list_all is_named ds) h in
    (both.0, numbered_named (first + 1) ds both.1)

under_named : (d : ℕ × PlainDeclaration) → IsNamedNumber d → (names : List Bytes)
    → AllByRecursion IsNamedPair (map (λ name. (name, d)) names)
under_named d h [] = tt
under_named d h (name ∷ names) = (h, under_named d h names)

all_under_named : (ds : List (ℕ × PlainDeclaration)) → AllByRecursion IsNamedNumber ds
    → AllByRecursion IsNamedPair (flat_map under_names ds)
all_under_named [] h = tt
all_under_named (d ∷ ds) h =
    all_both IsNamedPair (under_names d) (flat_map under_names ds) (under_named d h.0 (type_names d.1))
    (all_under_named ds h.1)

firsts_named : (ps : List (Bytes × (ℕ × PlainDeclaration))) → AllByRecursion IsNamedPair ps
    → AllByRecursion IsNamedPair (firsts ps)
unfolding firsts
firsts_named [] h = tt
firsts_named (p ∷ ps) h =
    (h.0, all_filtered IsNamedPair (λ q. not (bytes_eq p.0 q.0)) (firsts ps) (firsts_named ps h.1))

row_named : (place : ℕ) (owner : Bytes) (d : ℕ × PlainDeclaration) → IsPlain owner → IsNamedNumber d
    → AllByRecursion IsNamedRow (row_of place owner d)
row_named place owner d h k = by (type_declared d.1) k
  where
    by : (o : Option DeclaredType) → named_so o ≡ true
        → AllByRecursion IsNamedRow
        (row_under (record { «module» = place; decl = d.0 }) (option_map (head_for owner) o))
    by None k = tt
    by (Some one) k = (plain_both owner (58 ∷ one.name) h k, tt)

each_row_named : (place : ℕ) (owner : Bytes) (ds : List (ℕ × PlainDeclaration)) → IsPlain owner
    → AllByRecursion IsNamedNumber ds
    → AllByRecursion (λ d. AllByRecursion IsNamedRow (row_of place owner d)) ds
each_row_named place owner [] h k = tt
each_row_named place owner (d ∷ ds) h k = (row_named place owner d h k.0, each_row_named place owner ds h k.1)

at_named : (place : ℕ) (m : ModuleParts) → IsNamedModule m
    → AllByRecursion IsNamedRow (rows_at place (Some m))
at_named place m h =
    all_from_each IsNamedRow (row_of place m.name) (counting (declarations_of m))
    (each_row_named place m.name (counting (declarations_of m)) h.home
    (all_mapped IsNamedNumber (λ p. p.1) (firsts (flat_map under_names (declarations_of m)))
    (firsts_named (flat_map under_names (declarations_of m))
    (all_under_named (declarations_of m)
    (numbered_named 0 (declarations_in m.interface ++ declarations_in m.body) h.types)))))

from_named : (place : ℕ) (ms : List ModuleParts) → AreNamedModules ms
    → AllByRecursion IsNamedRow (rows_from place ms)
unfolding rows_from
from_named place [] h = tt
from_named place (m ∷ ms) h =
    all_both IsNamedRow (rows_at place (Some m)) (rows_from (place + 1) ms) (at_named place m h.0)
    (from_named (place + 1) ms h.1)

-- ---- texts of closed types

module _ (rows : List (DeclAt × Head)) (are : AllByRecursion IsNamedRow rows) where
  looked_up : (t : DeclAt → Bool) (all : List (DeclAt × Head)) → AllByRecursion IsNamedRow all
      → IsPlain (head_text (lookup t all))
  looked_up t [] h = refl
  looked_up t (row ∷ all) h = by (t row.0) (looked_up t all h.1)
    where
      by : (b : Bool) → IsPlain (head_text (lookup t all))
          → IsPlain (head_text (cond b (Some row.1) (lookup t all)))
      by true k = h.0
      by false k = k

  kind_plain : (kind : IntKind) → IsPlain (kind_name kind)
  kind_plain kinds.Nat8 = refl
  kind_plain kinds.Nat16 = refl
  kind_plain kinds.Nat32 = refl
  kind_plain kinds.Nat64 = refl
  kind_plain kinds.Int8 = refl
  kind_plain kinds.Int16 = refl
  kind_plain kinds.Int32 = refl
  kind_plain kinds.Int64 = refl
  kind_plain kinds.Index = refl

  mutual
    pub text_plain : (t : ClosedType) → IsPlain (text_of rows t)
    text_plain unit = refl
    text_plain truth = refl
    text_plain (integer kind) = kind_plain kind
    text_plain text = refl
    text_plain (named at args) =
        plain_both (head_text (head_of rows at)) (list_text rows args) (looked_up (same_place at) rows are)
        (list_plain args)
    text_plain (reads to) =
        plain_both (codes "&[" ++ text_of rows to) (codes "]")
        (plain_both (codes "&[") (text_of rows to) refl (text_plain to)) refl
    text_plain (writes to) =
        plain_both (codes "&![" ++ text_of rows to) (codes "]")
        (plain_both (codes "&![") (text_of rows to) refl (text_plain to)) refl

    list_plain : (ts : ClosedTypes) → IsPlain (list_text rows ts)
    list_plain no_types = refl
    list_plain (types one rest) =
        plain_both (codes "[" ++ text_of rows one) (others_text rows rest)
        (plain_both (codes "[") (text_of rows one) refl (text_plain one)) (others_plain rest)

    others_plain : (ts : ClosedTypes) → IsPlain (others_text rows ts)
    others_plain no_types = refl
    others_plain (types one rest) =
        plain_both (codes ", " ++ text_of rows one) (others_text rows rest)
        (plain_both (codes ", ") (text_of rows one) refl (text_plain one)) (others_plain rest)

-- the text of a closed type of a program
pub type_plain : (ms : List ModuleParts) → AreNamedModules ms → (t : ClosedType)
    → IsPlain (text_of (heads_of ms) t)
type_plain ms are t = text_plain (heads_of ms) (from_named 0 ms are) t
