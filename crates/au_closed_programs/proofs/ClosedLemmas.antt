-- There is one closed program from an entry.
use Rattle.std.proofs.Common.{◌≡◌, Bool, List, [], ◌∷◌, map, IsPermutation, Equal, refl, sym, ap, subst, ◌∙◌}
use Rattle.std.proofs.Common.{append-nil}
use Rattle.std.specs.Cmp.{IsTotalOrder, then_total}
use Rattle.std.specs.Cmp.Lexicographic.{on_texts}
use Rattle.std.specs.List.{AllByRecursion}
use Rattle.std.proofs.lemmas.List.Sorted.{All-permutation, IsPermutation-sym, IsPermutation-trans}
use Rattle.std.proofs.lemmas.List.Elements.{All-from_recursion, recursion_from_All}
use Rattle.au_syntax.specs.Plain.{Bytes}
use Rattle.au_modules.specs.Programs.{ModuleParts}
use Rattle.au_names.specs.declared.targets.Target.{Target}
use Rattle.au_names.specs.HeadsOf.{heads_of}
use Rattle.au_typing.specs.Trees.{NotedParts}
use Rattle.au_type_texts.specs.Same.{same}
use Rattle.au_type_texts.specs.Types.{ClosedType}
use Rattle.au_type_texts.proofs.SameLemmas.{same_is, same_self}
use Rattle.au_type_texts.specs.Keys.{key_of}
use Rattle.au_type_texts.proofs.KeyTellLemmas.{key_one}
use Rattle.au_graphs.specs.Reached.{TellsSame}
use Rattle.au_graphs.proofs.FoundLemmas.{one_list}
use Rattle.au_closed_trees.specs.Occurring.{follows}
use Rattle.au_closing.specs.Entries.{Found, begins}
use Rattle.au_closing.specs.Closes.{ClosedFunction, ClosesFunctions}
use Rattle.au_closing.proofs.ClosesLemmas.{one_closing}
use Rattle.au_closed_programs.specs.Programs.{ClosedProgram, Closes, ClosesTypes, TypeRow, plain_instance}
use Rattle.au_closed_programs.specs.Programs.{row_cmp, row_of, types_in_functions}
use Rattle.au_closed_programs.proofs.OrderLemmas.{one_order, same_numbers, second_level}

pub rows_total : IsTotalOrder row_cmp
rows_total = then_total (on_texts (λ (r : TypeRow). r.text)) (on_texts (λ (r : TypeRow). r.key))

pub key_tells : (t u : ClosedType) → key_of t ≡ key_of u → t ≡ u
key_tells t u e = (key_one t u [] [] (append-nil (key_of t) ∙ e ∙ sym (append-nil (key_of u)))).0

types_told : TellsSame same
types_told = record { agrees = same_is; itself = same_self }

module _ (program : List ModuleParts) where
  -- the row of a closed type
  abbrev IsRow : TypeRow → Type 0
  IsRow r = (t : ClosedType) × (r ≡ row_of program t)

  all_rows : (ts : List ClosedType) → AllByRecursion IsRow (map (row_of program) ts)
  all_rows [] = tt
  all_rows (t ∷ ts) = ((t, refl), all_rows ts)

  rows_tell : (r s : TypeRow) → IsRow r → IsRow s → row_cmp r s ≡ Equal → r ≡ s
  rows_tell r s one other e =
      let keys = same_numbers r.key s.key (second_level _ _ e) in
      one.1
      ∙ ap (row_of program)
      (key_tells one.0 other.0 (ap (λ (q : TypeRow). q.key) (sym one.1) ∙ keys ∙ ap (λ (q : TypeRow). q.key) other.1))
      ∙ sym other.1

  -- so are those of a list with the same elements
  rows_moved : (xs ys : List TypeRow) → IsPermutation xs ys → AllByRecursion IsRow xs → AllByRecursion IsRow ys
  rows_moved xs ys moved each =
      recursion_from_All IsRow ys (All-permutation IsRow xs ys moved (All-from_recursion IsRow xs each))

  -- there is one list of closed types for functions
  pub one_types : (functions : List ClosedFunction) (rows others : List TypeRow)
      → ClosesTypes program functions rows → ClosesTypes program functions others → rows ≡ others
  one_types functions rows others one other =
      let starts = types_in_functions (heads_of program) functions in
      let same_list = one_list same types_told (follows program) starts one.reached other.reached one.lists
      other.lists in
      let all = map (row_of program) one.reached in
      let theirs : IsPermutation all others =
      subst (λ ts. IsPermutation (map (row_of program) ts) others) (sym same_list) other.are_theirs in
      one_order row_cmp rows_total IsRow rows_tell rows others
      (rows_moved all rows one.are_theirs (all_rows one.reached))
      (rows_moved all others theirs (all_rows one.reached))
      (IsPermutation-trans rows all others (IsPermutation-sym all rows one.are_theirs) theirs)
      one.ordered other.ordered

-- what begins somewhere begins there alone
entry_in : Target → Found → Target
entry_in none (begins target root) = target
entry_in none other = none

root_in : Bool → Found → Bool
root_in none (begins target root) = root
root_in none other = none

-- there is one closed program
pub one_program : (program : List ModuleParts) (noted : List NotedParts) (owner name : Bytes)
    (one other : ClosedProgram)
    → Closes program noted owner name one
    → Closes program noted owner name other
    → one ≡ other
unfolding entry_in root_in
one_program program noted owner name one other these those =
    let found = sym these.begins_there ∙ those.begins_there in
    let entries : these.entry ≡ those.entry = ap (entry_in these.entry) found in
    let roots : one.root ≡ other.root = ap (root_in one.root) found in
    let functions = one_closing program noted (plain_instance those.entry) one.functions other.functions
    (subst (λ e. ClosesFunctions program noted (plain_instance e) one.functions) entries these.functions)
    those.functions in
    let types = one_types program other.functions one.types other.types
    (subst (λ fs. ClosesTypes program fs one.types) functions.1 these.types) those.types in
    λ i. record { functions = functions.1 i; types = types i; root = roots i }
