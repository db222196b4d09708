-- A tree without its notes is what is read plainly of it.
use Rattle.std.proofs.Common.{◌≡◌, List, [], ◌∷◌, map, refl, ap}
use Rattle.std.specs.Prelude.{Option, Some, None}
use Rattle.std.specs.Option.{option_map}
use Rattle.au_base.proofs.ListLemmas.{map_same}
use Rattle.au_syntax.specs.Modules.{Constrained, Header, Importing, Variant, constant, opaque_type}
use Rattle.au_syntax.specs.Modules.{record_type, union_type, function, class, instance, constant_body}
use Rattle.au_syntax.specs.Modules.{function_body, instance_body}
use Rattle.au_syntax.specs.Names.{Placed, Renaming}
use Rattle.au_syntax.specs.Plain.{Bytes, plain_arms, plain_bound, plain_branches, plain_constrained}
use Rattle.au_syntax.specs.Plain.{plain_declaration, plain_header, plain_importing, plain_in_universe}
use Rattle.au_syntax.specs.Plain.{plain_labelled, plain_method, plain_module, plain_name, plain_renaming}
use Rattle.au_syntax.specs.Plain.{plain_statement, plain_statements, plain_variant}
use Rattle.au_syntax.specs.Statements.{destructure, assign, assign_through, conditional, conditional_else}
use Rattle.au_syntax.specs.Statements.{case_of, while_loop, for_loop, borrow_in, borrow_typed, no_statements}
use Rattle.au_syntax.specs.Statements.{statements, no_branches, branches, no_arms, arms}
use Rattle.au_syntax.specs.Types.{Bound, Labelled}
use Rattle.au_typing.proofs.Steps.{names_kept}
use Rattle.au_typing.specs.Notes.{erase}
use Rattle.au_typing.specs.Trees.{NotedArms, NotedBranches, NotedDeclaration, NotedMethod, NotedModule}
use Rattle.au_typing.specs.Trees.{NotedStatement, NotedStatements, erase_arms, erase_block, erase_branches}
use Rattle.au_typing.specs.Trees.{erase_declaration, erase_method, erase_module, erase_statement}

-- names stay as they are
abbrev same_name : Bytes → Bytes
same_name name = name

-- a list stays as it is where each of its items does
all_kept : {A B : Type 0} (f g : A → B) → ((x : A) → f x ≡ g x) → (xs : List A) → map f xs ≡ map g xs
all_kept f g h [] = refl
all_kept f g h (x ∷ xs) = λ i. h x i ∷ all_kept f g h xs i

alias_kept : (alias : Option (Placed Bytes)) → option_map (plain_name same_name) alias ≡ alias
alias_kept None = refl
alias_kept (Some x) = refl

renaming_kept : (r : Renaming Bytes) → plain_renaming same_name r ≡ r
renaming_kept r = λ i. record { name = r.name; alias = alias_kept r.alias i }

bound_kept : (b : Bound Bytes) → plain_bound same_name b ≡ b
bound_kept b = λ i. record { name = renaming_kept b.name i; of = b.of }

binds_kept : (binds : List (Bound Bytes)) → map (plain_bound same_name) binds ≡ binds
binds_kept binds = map_same (plain_bound same_name) bound_kept binds

labels_kept : (fields : List (Labelled Bytes)) → map (plain_labelled same_name) fields ≡ fields
labels_kept fields = map_same (plain_labelled same_name) (λ x. refl) fields

-- ---- statements

mutual
  pub statement_plain : (s : NotedStatement) → plain_statement same_name s ≡ erase_statement s
  statement_plain (destructure at binds e) = ap (λ bs. destructure at bs (erase e)) (binds_kept binds)
  statement_plain (assign at n fields e) = ap (λ fs. assign at n fs (erase e)) (names_kept fields)
  statement_plain (assign_through at n fields e) = ap (λ fs. assign_through at n fs (erase e))
      (names_kept fields)
  statement_plain (conditional at tests) = ap (conditional at) (branches_plain tests)
  statement_plain (conditional_else at tests b) =
      λ i. conditional_else at (branches_plain tests i) (block_plain b i)
  statement_plain (case_of at e all) = ap (case_of at (erase e)) (arms_plain all)
  statement_plain (while_loop at e b) = ap (while_loop at (erase e)) (block_plain b)
  statement_plain (for_loop at n a z b) = ap (for_loop at n (erase a) (erase z)) (block_plain b)
  statement_plain (borrow_in at access x r region b stop) =
      ap (λ c. borrow_in at access x r region c stop) (block_plain b)
  statement_plain (borrow_typed at r t mode x b stop) = ap (λ c. borrow_typed at r t mode x c stop)
      (block_plain b)
  statement_plain s = refl

  pub block_plain : (ss : NotedStatements) → plain_statements same_name ss ≡ erase_block ss
  block_plain no_statements = refl
  block_plain (statements s rest) = λ i. statements (statement_plain s i) (block_plain rest i)

  branches_plain : (all : NotedBranches) → plain_branches same_name all ≡ erase_branches all
  branches_plain no_branches = refl
  branches_plain (branches e b rest) = λ i. branches (erase e) (block_plain b i) (branches_plain rest i)

  arms_plain : (all : NotedArms) → plain_arms same_name all ≡ erase_arms all
  arms_plain no_arms = refl
  arms_plain (arms at n binds b rest) = λ i. arms at n (binds_kept binds i) (block_plain b i)
      (arms_plain rest i)

-- ---- declarations

header_kept : (h : Header Bytes) → plain_header same_name h ≡ h
header_kept h = λ i. record { name = h.name; parameters = labels_kept h.parameters i; result = h.result }

headers_kept : (hs : List (Header Bytes)) → map (plain_header same_name) hs ≡ hs
headers_kept hs = map_same (plain_header same_name) header_kept hs

generics_kept : (gs : List (Constrained Bytes)) → map (plain_constrained same_name) gs ≡ gs
generics_kept gs = map_same (plain_constrained same_name) constrained_kept gs
  where
    constrained_kept : (p : Constrained Bytes) → plain_constrained same_name p ≡ p
    constrained_kept p = λ i. record { parameter = p.parameter; classes = names_kept p.classes i }

cases_kept : (cases : List (Variant Bytes)) → map (plain_variant same_name) cases ≡ cases
cases_kept cases = map_same (plain_variant same_name) variant_kept cases
  where
    variant_kept : (v : Variant Bytes) → plain_variant same_name v ≡ v
    variant_kept v = λ i. record { name = v.name; fields = labels_kept v.fields i }

method_plain : (m : NotedMethod) → plain_method same_name m ≡ erase_method m
method_plain m = λ i. record { header = header_kept m.header i; body = block_plain m.body i; stop = m.stop }

declaration_plain : (d : NotedDeclaration) → plain_declaration same_name d ≡ erase_declaration d
declaration_plain (constant at n t) = refl
declaration_plain (opaque_type at n ps u) =
    ap (λ qs. opaque_type at n qs u) (map_same (plain_in_universe same_name) (λ p. refl) ps)
declaration_plain (record_type at n ps u fields) =
    λ i. record_type at n (map_same (plain_in_universe same_name) (λ p. refl) ps i) u (labels_kept fields i)
declaration_plain (union_type at n ps u cases) =
    λ i. union_type at n (map_same (plain_in_universe same_name) (λ p. refl) ps i) u (cases_kept cases i)
declaration_plain (function at gs h) = λ i. function at (generics_kept gs i) (header_kept h i)
declaration_plain (class at n p hs) = ap (class at n p) (headers_kept hs)
declaration_plain (instance at gs n t) = ap (λ all. instance at all n t) (generics_kept gs)
declaration_plain (constant_body at n t e) = refl
declaration_plain (function_body at gs h b stop) =
    λ i. function_body at (generics_kept gs i) (header_kept h i) (block_plain b i) stop
declaration_plain (instance_body at gs n t ms) =
    λ i. instance_body at (generics_kept gs i) n t
    (all_kept (plain_method same_name) erase_method method_plain ms i)

pub module_plain : (m : NotedModule) → plain_module same_name m ≡ erase_module m
module_plain m =
    λ i. record {
      imports = map_same (plain_importing same_name) importing_kept m.imports i;
      at = m.at;
      part = m.part;
      name = names_kept m.name i;
      pragma = m.pragma;
      declarations =
          all_kept (plain_declaration same_name) erase_declaration declaration_plain m.declarations i;
    }
  where
    importing_kept : (one : Importing Bytes) → plain_importing same_name one ≡ one
    importing_kept one = λ i. record {
      at = one.at;
      from = names_kept one.from i;
      items = map_same (plain_renaming same_name) renaming_kept one.items i;
    }
