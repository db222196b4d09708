-- The row of a declared type has the type parameters that its declaration has, and what defines it.
use Rattle.std.proofs.Common.{◌≡◌, ◌⊎◌, inl, inr, ℕ, suc, ◌+◌, Bool, true, false, not, cond, List, []}
use Rattle.std.proofs.Common.{◌∷◌, ◌++◌, length, map, Option, None, Some, refl, sym, ap, ◌∙◌, subst}
use Rattle.std.proofs.Common.{arith}
use Rattle.std.specs.Prelude.{slice_get}
use Rattle.std.specs.List.{flat_map}
use Rattle.std.specs.Map.{lookup}
use Rattle.std.specs.Option.{option_map}
use Rattle.std.specs.Str.{bytes_eq}
use Rattle.std.proofs.lemmas.Option.{none-some, same_Some}
use Rattle.au_base.proofs.ListLemmas.{in_either}
use Rattle.au_syntax.specs.declared.modules.Part.TheVariants.{Interface, Body}
use Rattle.au_syntax.specs.Plain.{Bytes, PlainDeclaration}
use Rattle.au_types.specs.DeclaredNames.{numbered, type_names}
use Rattle.au_types.specs.Tables.{firsts}
use Rattle.au_types.specs.declared.headings.Head.{Head}
use Rattle.au_types.specs.declared.types.DeclAt.{DeclAt}
use Rattle.au_types.specs.Rows.{head_of, same_place}
use Rattle.au_types.proofs.SameLemmas.{place_is}
use Rattle.au_modules.specs.Programs.{ModuleParts}
use Rattle.au_names.specs.DeclaredTypes.{DeclaredType, type_declared}
use Rattle.au_names.specs.HeadsOf.{counting, head_for, heads_of, parameter, row_of, row_under}
use Rattle.au_names.specs.HeadsOf.{rows_at, rows_from, rows_of, under_names}
use Rattle.au_names.specs.Owned.{declarations_in, declarations_of}
use Rattle.au_names.specs.Standing.{Standing, standing_at}
use Rattle.au_names.proofs.AmongLemmas.{Among, among-append, among-flat_map}
use Rattle.au_closing_laws.proofs.GatheredLemmas.{among_filter, among_map}
use Rattle.au_closing_laws.proofs.ShippedMethodLemmas.{stands_defined, stands_promised}

-- ---- lists

firsts_among : {V : Type 0} (x : Bytes × V) (ps : List (Bytes × V)) → Among x (firsts ps) → Among x ps
unfolding firsts
firsts_among x [] m = m
firsts_among x (p ∷ ps) (inl here) = inl here
firsts_among x (p ∷ ps) (inr later) =
    inr (firsts_among x ps (among_filter (λ q. not (bytes_eq p.0 q.0)) x (firsts ps) later).0)

pub numbered_among : (first : ℕ) (ds : List PlainDeclaration) (d : ℕ × PlainDeclaration) →
    Among d (numbered first ds) → (k : ℕ) × (d.0 ≡ first + k) × (slice_get ds k ≡ Some d.1)
unfolding numbered
numbered_among first [] d m = absurd m
numbered_among first (x ∷ ds) d (inl here) =
    let at_zero : first ≡ first + 0 = omega arith in
    (0, sym (ap (λ (y : ℕ × PlainDeclaration). y.0) here) ∙ at_zero, ap (λ (y : ℕ × PlainDeclaration). Some y.1) here)
numbered_among first (x ∷ ds) d (inr later) =
    let its = numbered_among (first + 1) ds d later in
    let shifted : (first + 1) + its.0 ≡ first + suc its.0 = omega arith in
    (suc its.0, its.1 ∙ shifted, its.2)

lookup_among : (rows : List (DeclAt × Head)) (at : DeclAt) (head : Head) → lookup (same_place at) rows
    ≡ Some head → Among (at, head) rows
lookup_among [] at head e = absurd (none-some head e)
lookup_among (row ∷ rows) at head e = by (same_place at row.0) refl e (lookup_among rows at head)
  where
    by : (b : Bool) → same_place at row.0 ≡ b → cond b (Some row.1) (lookup (same_place at) rows)
        ≡ Some head → (lookup (same_place at) rows ≡ Some head → Among (at, head) rows) →
        Among (at, head) (row ∷ rows)
    by true is e later = inl (ap (λ a. (a, row.1)) (sym (place_is at row.0 is))
        ∙ ap (λ h. (at, h)) (same_Some row.1 head e))
    by false is e later = inr (later e)

-- ---- the declaration of a row

-- a declaration declares a type with the type parameters of a head
abbrev pub Declares : PlainDeclaration → Head → Type 0
Declares says head = (one : DeclaredType) × (type_declared says ≡ Some one)
    × (head.params ≡ map parameter one.parameters)

row_declares : (place : ℕ) (owner : Bytes) (d : ℕ × PlainDeclaration) (at : DeclAt) (head : Head) →
    Among (at, head) (row_of place owner d)
    → (at ≡ record { «module» = place; decl = d.0 }) × Declares d.1 head
row_declares place owner d at head m = by (type_declared d.1) refl m
  where
    by : (o : Option DeclaredType) → type_declared d.1 ≡ o →
        Among (at, head) (row_under (record { «module» = place; decl = d.0 }) (option_map (head_for owner) o)) →
        (at ≡ record { «module» = place; decl = d.0 }) × Declares d.1 head
    by None is m = absurd m
    by (Some one) is (inl here) = (
      sym (ap (λ (r : DeclAt × Head). r.0) here),
      (one, is, sym (ap (λ (r : DeclAt × Head). r.1.params) here)),
    )
    by (Some one) is (inr later) = absurd later

-- the declaration of a number in a module
pub standing_numbered : (program : List ModuleParts) (place : ℕ) (m : ModuleParts) (k : ℕ)
    (says : PlainDeclaration) → slice_get program place ≡ Some m
    → slice_get (declarations_in m.interface ++ declarations_in m.body) k ≡ Some says
    → (d : Standing) × (standing_at program (record { «module» = place; decl = k }) ≡ Some d) × (d.says ≡ says)
standing_numbered program place m k says is there =
    by (in_either (declarations_in m.interface) (declarations_in m.body) k says there)
  where
    by : (slice_get (declarations_in m.interface) k ≡ Some says)
        ⊎ ((j : ℕ) × (k ≡ length (declarations_in m.interface) + j)
        × (slice_get (declarations_in m.body) j ≡ Some says))
        → (d : Standing) × (standing_at program (record { «module» = place; decl = k }) ≡ Some d) × (d.says ≡ says)
    by (inl here) = (
      record { place = place; part = Interface; index = k; says = says },
      stands_promised program (record { «module» = place; decl = k }) m says is here,
      refl,
    )
    by (inr (j, numbered_so, behind)) = (
      record { place = place; part = Body; index = j; says = says },
      stands_defined program (record { «module» = place; decl = k }) m j says is numbered_so behind,
      refl,
    )

module _ (program : List ModuleParts) where
  abbrev IsRowOf : DeclAt → Head → Type 0
  IsRowOf at head = (d : Standing) × (standing_at program at ≡ Some d) × Declares d.says head

  rows_declare : (place : ℕ) (m : ModuleParts) (at : DeclAt) (head : Head) → slice_get program place
      ≡ Some m → Among (at, head) (rows_of place m.name (declarations_of m)) → IsRowOf at head
  rows_declare place m at head is among =
      let from = among-flat_map (row_of place m.name) (counting (declarations_of m)) (at, head) among in
      let row = row_declares place m.name from.0 at head from.2 in
      let named = among_map (λ (p : Bytes × (ℕ × PlainDeclaration)). p.1) from.0
      (firsts (flat_map under_names (declarations_of m))) from.1 in
      let under = among-flat_map under_names (declarations_of m) named.0
      (firsts_among named.0 (flat_map under_names (declarations_of m)) named.1) in
      let given = among_map (λ name. (name, under.0)) named.0 (type_names under.0.1) under.2 in
      let same : from.0 ≡ under.0 = named.2 ∙ ap (λ (p : Bytes × (ℕ × PlainDeclaration)). p.1) given.2 in
      let its = numbered_among 0 (declarations_in m.interface ++ declarations_in m.body) under.0 under.1 in
      let stands = standing_numbered program place m its.0 under.0.1 is its.2 in
      let number : its.0 ≡ from.0.0 = sym (zero_before its.0) ∙ sym its.1
      ∙ sym (ap (λ (x : ℕ × PlainDeclaration). x.0) same) in (
        stands.0,
        ap (standing_at program) (row.0 ∙ ap (λ n. record { «module» = place; decl = n }) (sym number)) ∙ stands.1,
        subst (λ says. Declares says head) (ap (λ (x : ℕ × PlainDeclaration). x.1) same ∙ sym stands.2) row.1,
      )
    where
      zero_before : (n : ℕ) → 0 + n ≡ n
      zero_before n = omega arith

  from_place : (place : ℕ) (ms : List ModuleParts) (at : DeclAt) (head : Head) →
      ((k : ℕ) (m : ModuleParts) → slice_get ms k ≡ Some m → slice_get program (place + k) ≡ Some m)
      → Among (at, head) (rows_from place ms) → IsRowOf at head
  unfolding rows_from
  from_place place [] at head there m = absurd m
  from_place place (one ∷ ms) at head there m =
      by (among-append (rows_at place (Some one)) (rows_from (place + 1) ms) (at, head) m)
      (from_place (place + 1) ms at head
      (λ k x e. subst (λ n. slice_get program n ≡ Some x) (shifted place k) (there (suc k) x e)))
    where
      shifted : (n k : ℕ) → n + suc k ≡ (n + 1) + k
      shifted n k = omega arith

      at_zero : (n : ℕ) → n + 0 ≡ n
      at_zero n = omega arith

      by : Among (at, head) (rows_at place (Some one)) ⊎ Among (at, head) (rows_from (place + 1) ms) →
          (Among (at, head) (rows_from (place + 1) ms) → IsRowOf at head) → IsRowOf at head
      by (inl here) later = rows_declare place one at head
          (subst (λ n. slice_get program n ≡ Some one) (at_zero place) (there 0 one refl)) here
      by (inr behind) later = later behind

  -- the row of a declared type is that of its declaration
  pub row_stands : (at : DeclAt) (head : Head) → head_of (heads_of program) at ≡ Some head → IsRowOf at head
  row_stands at head e =
      from_place 0 program at head (λ k m is. subst (λ n. slice_get program n ≡ Some m) (zero_first k) is)
      (lookup_among (heads_of program) at head e)
    where
      zero_first : (n : ℕ) → n ≡ 0 + n
      zero_first n = omega arith
