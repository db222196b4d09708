-- What is reached from gathered types is what is reached from all that occur.
use Rattle.std.proofs.Common.{◌≡◌, ℕ, ◌+◌, ◌<◌, true, List, [], ◌∷◌, ◌++◌, drop, get_or, length, map}
use Rattle.std.proofs.Common.{refl, sym, ap, ◌∙◌, subst, ⊎_elim}
use Rattle.std.proofs.lemmas.List.{drop_more}
use Rattle.au_types.specs.declared.headings.Head.{Head}
use Rattle.au_types.specs.declared.types.DeclAt.{DeclAt}
use Rattle.au_type_texts.specs.Same.{same}
use Rattle.au_type_texts.specs.Types.{ClosedType}
use Rattle.au_type_texts.proofs.SameLemmas.{same_is, same_self}
use Rattle.au_graphs.specs.Reached.{Has, Lists, Reached, TellsSame, adds, all_next, follows, start}
use Rattle.au_graphs.proofs.HasLemmas.{adds_both, adds_split, adds_takes}
use Rattle.au_closed_trees.specs.Notes.{said_in_block}
use Rattle.au_closed_trees.specs.Occurring.{counts_in, occurring, occurring_in_fields}
use Rattle.au_closing.specs.Closes.{ClosedFunction}
use Rattle.au_closed_programs.specs.Programs.{types_in_function, types_in_functions}

tells : TellsSame same
tells = record { agrees = same_is; itself = same_self }

module _ (next : ClosedType → List ClosedType) (xs ys : List ClosedType) (is : adds same [] xs ≡ adds same [] ys) where
  there : (x : ClosedType) → Has same xs x → Has same ys x
  there x has =
      ⊎_elim (λ nothing. absurd cc) (λ here. here)
      (adds_split same [] ys x (subst (λ l. Has same l x) is (adds_takes same tells [] xs x has)))

  turned : (x : ClosedType) → Reached same next xs x → Reached same next ys x
  turned x (start _ has) = start x (there x has)
  turned x (follows k _ before has) = follows k x (turned k before) has

  -- starts that add the same reach the same
  pub lists_same : (ks : List ClosedType) → Lists same next xs ks → Lists same next ys ks
  lists_same ks lists = record {
    order =
        lists.order ∙ adds_both same [] xs (all_next next ks) ∙ ap (λ l. adds same l (all_next next ks)) is
        ∙ sym (adds_both same [] ys (all_next next ks));
    reached = λ x has. turned x (lists.reached x has);
  }

-- all arguments count, whatever the heads are
every : (heads : List (DeclAt × Head)) → counts_in true [] ≡ counts_in true heads
every heads = λ i at. true

function_free : (heads : List (DeclAt × Head)) (f : ClosedFunction)
    → types_in_function [] f ≡ types_in_function heads f
function_free heads f =
    λ i. occurring_in_fields (every heads i) f.parameters ++ occurring (every heads i) f.result
    ++ said_in_block (λ note. occurring (every heads i) note.of) f.body

pub functions_free : (heads : List (DeclAt × Head)) (all : List ClosedFunction)
    → types_in_functions [] all ≡ types_in_functions heads all
functions_free heads [] = refl
functions_free heads (f ∷ rest) = λ i. function_free heads f i ++ functions_free heads rest i

-- one item more adds what it has, before what is left
pub left_less : {X Y : Type 0} (see : X → Y) (all : List Y → List ClosedType) (one : Y → List ClosedType)
    → ((y : Y) (rest : List Y) → all (y ∷ rest) ≡ one y ++ all rest)
    → (items : List X) (i : ℕ) (item : X) (found more whole : List ClosedType)
    → i < length items → item ≡ get_or items i item → more ≡ adds same found (one (see item))
    → adds same found (all (map see (drop i items))) ≡ whole
    → adds same more (all (map see (drop (i + 1) items))) ≡ whole
left_less see all one parts items i item found more whole below here grows so_far =
    let rest = map see (drop (i + 1) items) in
    ap (λ l. adds same l (all rest)) grows
    ∙ sym (adds_both same found (one (see item)) (all rest))
    ∙ ap (adds same found) (sym (parts (see item) rest))
    ∙ ap (λ x. adds same found (all (see x ∷ rest))) here
    ∙ ap (λ l. adds same found (all (map see l))) (sym (drop_more items i item below))
    ∙ so_far
