-- The row of a declared type has the type parameters and the universe that its declaration has.
use Rattle.std.proofs.Common.{◌≡◌, ◌⊎◌, inl, inr, ℕ, suc, ◌+◌, Bool, true, false, not, cond, List, []}
use Rattle.std.proofs.Common.{◌∷◌, ◌++◌, map, Option, None, Some, refl, sym, ap, ◌∙◌, subst}
use Rattle.std.proofs.Common.{arith}
use Rattle.std.specs.Prelude.{slice_get}
use Rattle.std.specs.List.{flat_map}
use Rattle.std.specs.Map.{lookup}
use Rattle.std.specs.Option.{option_map}
use Rattle.std.specs.Str.{bytes_eq}
use Rattle.std.proofs.lemmas.Option.{none-some, same_Some}
use Rattle.au_syntax.specs.Plain.{Bytes, PlainDeclaration}
use Rattle.au_types.specs.DeclaredNames.{type_names}
use Rattle.au_types.specs.Tables.{firsts}
use Rattle.au_types.specs.declared.headings.Head.{Head}
use Rattle.au_types.specs.declared.types.DeclAt.{DeclAt}
use Rattle.au_types.specs.Rows.{head_of, same_place}
use Rattle.au_types.proofs.SameLemmas.{place_is}
use Rattle.au_modules.specs.Programs.{ModuleParts}
use Rattle.au_names.specs.DeclaredTypes.{DeclaredType, type_declared}
use Rattle.au_names.specs.HeadsOf.{counting, head_for, heads_of, parameter, row_of, row_under}
use Rattle.au_names.specs.HeadsOf.{rows_at, rows_from, rows_of, under_names}
use Rattle.au_names.specs.Owned.{declarations_in, declarations_of}
use Rattle.au_names.specs.Standing.{Standing, standing_at}
use Rattle.au_names.proofs.AmongLemmas.{Among, among-append, among-flat_map}
use Rattle.au_closing_laws.proofs.GatheredLemmas.{among_filter, among_map}
use Rattle.au_closing_laws.proofs.HeadLemmas.{numbered_among, standing_numbered}

-- ---- lists

firsts_among : {V : Type 0} (x : Bytes × V) (ps : List (Bytes × V)) → Among x (firsts ps) → Among x ps
unfolding firsts
firsts_among x [] m = m
firsts_among x (p ∷ ps) (inl here) = inl here
firsts_among x (p ∷ ps) (inr later) =
    inr (firsts_among x ps (among_filter (λ q. not (bytes_eq p.0 q.0)) x (firsts ps) later).0)

lookup_among : (rows : List (DeclAt × Head)) (at : DeclAt) (head : Head) → lookup (same_place at) rows
    ≡ Some head → Among (at, head) rows
lookup_among [] at head e = absurd (none-some head e)
lookup_among (row ∷ rows) at head e = by (same_place at row.0) refl e (lookup_among rows at head)
  where
    by : (b : Bool) → same_place at row.0 ≡ b → cond b (Some row.1) (lookup (same_place at) rows)
        ≡ Some head → (lookup (same_place at) rows ≡ Some head → Among (at, head) rows) →
        Among (at, head) (row ∷ rows)
    by true is e later = inl (ap (λ a. (a, row.1)) (sym (place_is at row.0 is))
        ∙ ap (λ h. (at, h)) (same_Some row.1 head e))
    by false is e later = inr (later e)

-- ---- the declaration of a row

-- a declaration declares a type with the type parameters and the universe of a head
abbrev pub Declares : PlainDeclaration → Head → Type 0
Declares says head = (one : DeclaredType) × (type_declared says ≡ Some one)
    × (head.params ≡ map parameter one.parameters) × (head.universe ≡ one.universe)

-- a head is that of the type that a declaration of a module declares
abbrev pub IsHead : Bytes → PlainDeclaration → Head → Type 0
IsHead owner says head = (one : DeclaredType) × (type_declared says ≡ Some one) × (head ≡ head_for owner one)

head_declares : (owner : Bytes) (says : PlainDeclaration) (head : Head) → IsHead owner says head → Declares says head
head_declares owner says head (one, is, same) =
    (one, is, ap (λ (h : Head). h.params) same, ap (λ (h : Head). h.universe) same)

row_declares : (place : ℕ) (owner : Bytes) (d : ℕ × PlainDeclaration) (at : DeclAt) (head : Head) →
    Among (at, head) (row_of place owner d)
    → (at ≡ record { «module» = place; decl = d.0 }) × IsHead owner d.1 head
row_declares place owner d at head m = by (type_declared d.1) refl m
  where
    by : (o : Option DeclaredType) → type_declared d.1 ≡ o →
        Among (at, head) (row_under (record { «module» = place; decl = d.0 }) (option_map (head_for owner) o)) →
        (at ≡ record { «module» = place; decl = d.0 }) × IsHead owner d.1 head
    by None is m = absurd m
    by (Some one) is (inl here) = (
      sym (ap (λ (r : DeclAt × Head). r.0) here),
      (one, is, sym (ap (λ (r : DeclAt × Head). r.1) here)),
    )
    by (Some one) is (inr later) = absurd later

module _ (program : List ModuleParts) where
  abbrev IsRowOf : DeclAt → Head → Type 0
  IsRowOf at head = (d : Standing) × (standing_at program at ≡ Some d) × Declares d.says head

  -- a row is that of a declaration of its module
  abbrev pub IsHeadOf : DeclAt → Head → Type 0
  IsHeadOf at head =
      (d : Standing) × (m : ModuleParts) × (standing_at program at ≡ Some d) × (slice_get program at.«module» ≡ Some m)
      × IsHead m.name d.says head

  rows_declare : (place : ℕ) (m : ModuleParts) (at : DeclAt) (head : Head) → slice_get program place
      ≡ Some m → Among (at, head) (rows_of place m.name (declarations_of m)) → IsHeadOf at head
  rows_declare place m at head is among =
      let from = among-flat_map (row_of place m.name) (counting (declarations_of m)) (at, head) among in
      let row = row_declares place m.name from.0 at head from.2 in
      let named = among_map (λ (p : Bytes × (ℕ × PlainDeclaration)). p.1) from.0
      (firsts (flat_map under_names (declarations_of m))) from.1 in
      let under = among-flat_map under_names (declarations_of m) named.0
      (firsts_among named.0 (flat_map under_names (declarations_of m)) named.1) in
      let given = among_map (λ name. (name, under.0)) named.0 (type_names under.0.1) under.2 in
      let same : from.0 ≡ under.0 = named.2 ∙ ap (λ (p : Bytes × (ℕ × PlainDeclaration)). p.1) given.2 in
      let its = numbered_among 0 (declarations_in m.interface ++ declarations_in m.body) under.0 under.1 in
      let stands = standing_numbered program place m its.0 under.0.1 is its.2 in
      let number : its.0 ≡ from.0.0 = sym (zero_before its.0) ∙ sym its.1
      ∙ sym (ap (λ (x : ℕ × PlainDeclaration). x.0) same) in (
        stands.0,
        m,
        ap (standing_at program) (row.0 ∙ ap (λ n. record { «module» = place; decl = n }) (sym number)) ∙ stands.1,
        ap (λ (a : DeclAt). slice_get program a.«module») row.0 ∙ is,
        subst (λ says. IsHead m.name says head) (ap (λ (x : ℕ × PlainDeclaration). x.1) same ∙ sym stands.2) row.1,
      )
    where
      zero_before : (n : ℕ) → 0 + n ≡ n
      zero_before n = omega arith

  from_place : (place : ℕ) (ms : List ModuleParts) (at : DeclAt) (head : Head) →
      ((k : ℕ) (m : ModuleParts) → slice_get ms k ≡ Some m → slice_get program (place + k) ≡ Some m)
      → Among (at, head) (rows_from place ms) → IsHeadOf at head
  unfolding rows_from
  from_place place [] at head there m = absurd m
  from_place place (one ∷ ms) at head there m =
      by (among-append (rows_at place (Some one)) (rows_from (place + 1) ms) (at, head) m)
      (from_place (place + 1) ms at head
      (λ k x e. subst (λ n. slice_get program n ≡ Some x) (shifted place k) (there (suc k) x e)))
    where
      shifted : (n k : ℕ) → n + suc k ≡ (n + 1) + k
      shifted n k = omega arith

      at_zero : (n : ℕ) → n + 0 ≡ n
      at_zero n = omega arith

      by : Among (at, head) (rows_at place (Some one)) ⊎ Among (at, head) (rows_from (place + 1) ms) →
          (Among (at, head) (rows_from (place + 1) ms) → IsHeadOf at head) → IsHeadOf at head
      by (inl here) later = rows_declare place one at head
          (subst (λ n. slice_get program n ≡ Some one) (at_zero place) (there 0 one refl)) here
      by (inr behind) later = later behind

  -- the row of a declared type is that of its declaration
  pub head_stands : (at : DeclAt) (head : Head) → head_of (heads_of program) at ≡ Some head → IsHeadOf at head
  head_stands at head e =
      from_place 0 program at head (λ k m is. subst (λ n. slice_get program n ≡ Some m) (zero_first k) is)
      (lookup_among (heads_of program) at head e)
    where
      zero_first : (n : ℕ) → n ≡ 0 + n
      zero_first n = omega arith

  pub row_stands : (at : DeclAt) (head : Head) → head_of (heads_of program) at ≡ Some head → IsRowOf at head
  row_stands at head e =
      let its = head_stands at head e in
      (its.0, its.2, head_declares its.1.name its.0.says head its.4)
