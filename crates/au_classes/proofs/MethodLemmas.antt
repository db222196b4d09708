-- Methods by their names.
use Rattle.std.proofs.Common.{◌≡◌, ℕ, ◌+◌, ◌<◌, ◌≤◌, Bool, true, false, List, [], ◌∷◌, ◌++◌, length, map}
use Rattle.std.proofs.Common.{take, drop, get_or, find, Option, None, Some, is_some, refl, sym, ap, ◌∙◌}
use Rattle.std.proofs.Common.{zero-add}
use Rattle.std.specs.Prelude.{◌||◌, not, slice_get}
use Rattle.std.specs.Borrow.{Bor}
use Rattle.std.specs.List.{list_any}
use Rattle.std.specs.Option.{option_copied}
use Rattle.std.proofs.lemmas.List.{drop_all, take_all}
use Rattle.au_base.proofs.ListLemmas.{seen_left, seen_more}
use Rattle.au_syntax.specs.contracts.parsed.ParsedPhase.TheImpl.{ghosts as parsed}
use Rattle.au_syntax.specs.declared.declarations.Method.{Method}
use Rattle.au_syntax.specs.declared.parsed.Parsed.{Parsed}
use Rattle.au_syntax.specs.Modules.{Header}
use Rattle.au_syntax.specs.Plain.{Bytes, PlainMethod, plain_method}
use Rattle.au_syntax.specs.Views.{method_body}
use Rattle.au_types.specs.Tables as tables
use Rattle.au_types.specs.Tables.{has_name}
use Rattle.au_classes.specs.Indices.{FindsFirst, first_index, has_key, with_key}
use Rattle.au_classes.specs.InstanceViews.{methods_of}
use Rattle.au_classes.proofs.IndexLemmas.{first_next, found_none, found_there}
use Rattle.au_classes.specs.Methods.{doubled_from, is_called, is_doubled, is_named}
use Rattle.au_classes.specs.Views.{called_by, method_of, named_by}
use Rattle.au_classes.proofs.ListLemmas.{or_second, some_index}

-- So many methods are visited: a table finds the first of each name, and those that are left decide whether
-- two have one name.
pub record NamedSoFar (xs : List (Method Parsed (List ℕ) (Unit {0}) (Unit {0}))) (i : ℕ)
    (table : List (Bytes × ℕ)) : Type 0 where
  pub finds : FindsFirst named_by (methods_of (take i xs)) table
  pub rest : is_doubled (methods_of xs) ≡ doubled_from (methods_of (take i xs)) (methods_of (drop i xs))

-- a name has an index where a method of the name is visited
has_index : (methods : List PlainMethod) (table : List (Bytes × ℕ)) (name : Bytes) →
    FindsFirst named_by methods table → has_name name table ≡ list_any (is_named name) methods
has_index methods table name finds = ap is_some (finds name) ∙ some_index (is_named name) 0 methods

module _ (xs : List (Method Parsed (List ℕ) (Unit {0}) (Unit {0}))) (i : ℕ)
    (x : Method Parsed (List ℕ) (Unit {0}) (Unit {0})) (table : List (Bytes × ℕ)) where
  abbrev name : Bytes
  name = (method_of x).header.name.name

  next : NamedSoFar xs i table → i < length xs → x ≡ get_or xs i x
      → is_doubled (methods_of xs) ≡
      (list_any (is_named name) (methods_of (take i xs)) || doubled_from (methods_of (take (i + 1) xs))
      (methods_of (drop (i + 1) xs)))
  next old h here =
      old.rest
      ∙ ap (doubled_from (methods_of (take i xs)))
      (seen_left (plain_method parsed.name_bytes) (method_body parsed) xs i x h here)
      ∙ ap (λ before. list_any (is_named name) (methods_of (take i xs)) || doubled_from before
      (methods_of (drop (i + 1) xs)))
      (sym (seen_more (plain_method parsed.name_bytes) (method_body parsed) xs i x h here))

  -- the next method has the name of one that is visited
  pub named_again : (is_new : Bool) → NamedSoFar xs i table → i < length xs → x ≡ get_or xs i x →
      is_new ≡ not (has_name name table) → is_new ≡ false → is_doubled (methods_of xs) ≡ true
  named_again is_new old h here is old_name =
      next old h here
      ∙ ap (λ b. b || doubled_from (methods_of (take (i + 1) xs)) (methods_of (drop (i + 1) xs)))
      (sym (has_index (methods_of (take i xs)) table name old.finds) ∙ was (has_name name table) (sym is ∙ old_name))
    where
      was : (b : Bool) → not b ≡ false → b ≡ true
      was true e = refl
      was false e = sym e

  -- it has a name of its own
  pub named_next : (is_new : Bool) (after : List (Bytes × ℕ)) → NamedSoFar xs i table → i < length xs →
      x ≡ get_or xs i x → is_new ≡ not (has_name name table) → is_new ≡ true
      → after ≡ with_key table (Some name) i → NamedSoFar xs (i + 1) after
  named_next is_new after old h here is new_name put = record {
    finds = first_next (plain_method parsed.name_bytes) (method_body parsed) named_by table after xs i x h
        here old.finds put;
    rest =
        next old h here
        ∙ ap (λ b. b || doubled_from (methods_of (take (i + 1) xs)) (methods_of (drop (i + 1) xs)))
        (sym (has_index (methods_of (take i xs)) table name old.finds)
        ∙ isnt (has_name name table) (sym is ∙ new_name));
  }
    where
      isnt : (b : Bool) → not b ≡ true → b ≡ false
      isnt true e = sym e
      isnt false e = refl

-- all methods are visited
pub named_all : (xs : List (Method Parsed (List ℕ) (Unit {0}) (Unit {0}))) (i : ℕ) (table : List (Bytes × ℕ))
    → NamedSoFar xs i table → length xs ≤ i
    → (is_doubled (methods_of xs) ≡ false) × FindsFirst named_by (methods_of xs) table
named_all xs i table old past = (
  old.rest ∙ ap (λ r. doubled_from (methods_of (take i xs)) (methods_of r)) (drop_all i xs past),
  λ key. old.finds key ∙ ap (λ r. first_index (has_key named_by key) (methods_of r)) (take_all i xs past),
)

-- no method is visited
pub named_none : (xs : List (Method Parsed (List ℕ) (Unit {0}) (Unit {0}))) (table : List (Bytes × ℕ)) →
    table ≡ [] → NamedSoFar xs 0 table
named_none xs table none = record { finds = λ key. ap (tables.find key) none; rest = refl }

-- the method that a table finds
pub method_found : (methods : List PlainMethod) (table : List (Bytes × ℕ)) (name : Bytes) (index : ℕ) →
    FindsFirst named_by methods table → tables.find name table ≡ Some index
    → slice_get methods index ≡ find (is_named name) methods
method_found methods table name index finds is =
    found_there (is_named name) 0 index methods (sym (finds name) ∙ is ∙ ap Some (sym (zero-add index)))

pub method_missing : (methods : List PlainMethod) (table : List (Bytes × ℕ)) (name : Bytes) →
    FindsFirst named_by methods table → tables.find name table ≡ None
    → find (is_named name) methods ≡ None
method_missing methods table name finds is = found_none (is_named name) 0 methods (sym (finds name) ∙ is)

is_copied : {A : Type 0} (r : Option (Bor A)) → is_some r ≡ is_some (option_copied r)
is_copied None = refl
is_copied (Some b) = refl

-- a method of an instance is one of a class where a table finds its name
pub declared_found : (class : List (Header Bytes)) (table : List (Bytes × ℕ)) (name : Bytes)
    (found : Option (Bor ℕ)) → FindsFirst called_by class table → option_copied found ≡ tables.find name table
    → is_some found ≡ list_any (is_called name) class
declared_found class table name found finds is =
    is_copied found ∙ ap is_some (is ∙ finds name) ∙ some_index (is_called name) 0 class
