-- A name that is declared again is one of a declaration of the text.
use Rattle.std.proofs.Common.{◌≡◌, ℕ, zero, suc, ◌+◌, ◌-◌, ◌<◌, ◌≤◌, ◌⊎◌, inl, inr, Bool, List, [], ◌∷◌, ◌++◌}
use Rattle.std.proofs.Common.{length, map, Option, None, Some, refl, sym, ap, ◌∙◌, subst, arith, zero-add}
use Rattle.std.specs.Prelude.{slice_get}
use Rattle.std.specs.Option.{option_map}
use Rattle.std.proofs.lemmas.Bool.{cases_lt}
use Rattle.std.proofs.lemmas.List.{length-append, length-map}
use Rattle.std.proofs.lemmas.Option.{none-some, same_Some}
use Rattle.au_syntax.specs.declared.modules.Part.{Part}
use Rattle.au_syntax.specs.declared.modules.Part.TheVariants.{Interface, Body}
use Rattle.au_syntax.specs.Plain.{Bytes, PlainDeclaration}
use Rattle.au_types.specs.declared.types.DeclAt.{DeclAt}
use Rattle.au_modules.specs.Programs.{ModuleParts}
use Rattle.au_names.specs.Meanings.{part_of}
use Rattle.au_names.specs.Owned.{declarations_in}
use Rattle.au_rules.specs.declared.doubles.Double.{Double}
use Rattle.au_rules.specs.declared.marks.Kind.{Kind}
use Rattle.au_rules.specs.declared.marks.Mark.{Mark}
use Rattle.au_rules.specs.Doubles.{marks_behind, behind_all, doubles_behind, doubles_of, first_double}
use Rattle.au_rules.specs.Doubles.{numbered_double}
use Rattle.au_rules.specs.Marks.{marks}
use Rattle.au_rules.specs.Outside.{outside}
use Rattle.au_names.proofs.AmongLemmas.{Among, among-append_left, among-append_right}
use Rattle.au_formed.specs.Text.{Spot, module_spots, spots_from, text, text_from}

-- ---- as many doubles as declarations

many_doubles : (foreign : Kind → Bytes → Bool) (before : List Mark) (ds : List (List Mark))
    → length (doubles_behind foreign before ds) ≡ length ds
unfolding doubles_behind
many_doubles foreign before [] = refl
many_doubles foreign before (d ∷ ds) = ap suc (many_doubles foreign (marks_behind before d) ds)

many_of : (program : List ModuleParts) (place : ℕ) (m : ModuleParts)
    → length (doubles_of program place m)
    ≡ length (declarations_in m.interface) + length (declarations_in m.body)
many_of program place m =
    let interface = map (marks Interface) (declarations_in m.interface) in
    let body = map (marks Body) (declarations_in m.body) in
    let one = doubles_behind (outside program place m Interface) [] interface in
    let other = doubles_behind (outside program place m Body) (behind_all [] interface) body in
    length-append one other
    ∙ ap (λ n. n + length other)
    (many_doubles (outside program place m Interface) [] interface
    ∙ length-map (declarations_in m.interface) (marks Interface))
    ∙ ap (λ n. length (declarations_in m.interface) + n)
    (many_doubles (outside program place m Body) (behind_all [] interface) body
    ∙ length-map (declarations_in m.body) (marks Body))

-- ---- where declarations stand

-- a declaration of this module and number stands there
abbrev Stands : List Spot → ℕ → ℕ → Type 0
Stands spots place number = (s : Spot) × Among s spots × (s.at ≡ record { «module» = place; decl = number })

part_stands : (place : ℕ) (part : Part) (first : ℕ) (ds : List PlainDeclaration) (i : ℕ) → i < length ds
    → Stands (spots_from place part first ds) place (first + i)
unfolding spots_from
part_stands place part first [] i h = absurd (omega arith)
part_stands place part first (d ∷ ds) zero h =
    let same : first ≡ first + 0 = omega arith in (
      record { at = record { «module» = place; decl = first }; part = part; says = d },
      inl refl,
      λ j. record
          { «module» = place; decl = same j },
    )
part_stands place part first (d ∷ ds) (suc i) h =
    let rest = part_stands place part (first + 1) ds i (omega arith) in
    let same : first + 1 + i ≡ first + suc i = omega arith in
    (rest.0, inr rest.1, rest.2 ∙ (λ j. record { «module» = place; decl = same j }))

module_stands : (place : ℕ) (m : ModuleParts) (i : ℕ)
    → i < length (declarations_in m.interface) + length (declarations_in m.body)
    → Stands (module_spots place m) place i
module_stands place m i h = by (cases_lt i (length (declarations_in m.interface)))
  where
    by : (i < length (declarations_in m.interface)) ⊎ (length (declarations_in m.interface) ≤ i)
        → Stands (module_spots place m) place i
    by (inl less) =
        let one = spots_from place Interface 0 (declarations_in m.interface) in
        let other = spots_from place Body (length (declarations_in m.interface)) (declarations_in m.body) in
        let there = part_stands place Interface 0 (declarations_in m.interface) i less in (
          there.0,
          among-append_left one other there.0 there.1,
          there.2
              ∙ (λ j. record { «module» = place; decl = zero-add i j }),
        )
    by (inr more) =
        let one = spots_from place Interface 0 (declarations_in m.interface) in
        let other = spots_from place Body (length (declarations_in m.interface)) (declarations_in m.body) in
        let there = part_stands place Body (length (declarations_in m.interface)) (declarations_in m.body)
        (i - length (declarations_in m.interface)) (omega arith) in
        let same : length (declarations_in m.interface) + (i - length (declarations_in m.interface))
        ≡ i = omega arith in (
          there.0,
          among-append_right one other there.0 there.1,
          there.2
              ∙ (λ j. record { «module» = place; decl = same j }),
        )

text_stands : (first : ℕ) (ms : List ModuleParts) (k : ℕ) (m : ModuleParts) (i : ℕ) → slice_get ms k ≡ Some m
    → i < length (declarations_in m.interface) + length (declarations_in m.body)
    → Stands (text_from first ms) (first + k) i
unfolding text_from
text_stands first [] k m i here h = absurd (none-some m here)
text_stands first (x ∷ xs) zero m i here h =
    let same : x ≡ m = same_Some x m here in
    let place : first ≡ first + 0 = omega arith in
    let there = module_stands first x i
    (subst (λ (n : ModuleParts). i < length (declarations_in n.interface) + length
    (declarations_in n.body)) (sym same) h) in (
      there.0,
      among-append_left (module_spots first x) (text_from (first + 1) xs) there.0 there.1,
      there.2
          ∙ (λ j. record { «module» = place j; decl = i }),
    )
text_stands first (x ∷ xs) (suc k) m i here h =
    let place : first + 1 + k ≡ first + suc k = omega arith in
    let there = text_stands (first + 1) xs k m i here h in (
      there.0,
      among-append_right (module_spots first x) (text_from (first + 1) xs) there.0 there.1,
      there.2
          ∙ (λ j. record { «module» = place j; decl = i }),
    )

-- ---- what is declared again

-- it has a number below the length of the list
numbered_within : (found : List (Option Double)) (number : ℕ) (d : Double)
    → numbered_double number (Some found) ≡ Some d → number < length found
numbered_within [] number d h = absurd (none-some d h)
numbered_within (x ∷ xs) zero d h = omega arith
numbered_within (x ∷ xs) (suc n) d h = let rest = numbered_within xs n d h in omega arith

pub double_stands : (program : List ModuleParts) (at : DeclAt) (d : Double) → first_double program at ≡ Some d
    → (s : Spot) × Among s (text program) × (s.at ≡ at)
double_stands program at d h = by (slice_get program at.«module») refl h
  where
    by : (o : Option ModuleParts) → slice_get program at.«module» ≡ o
        → numbered_double at.decl (option_map (doubles_of program at.«module») o) ≡ Some d
        → (s : Spot) × Among s (text program) × (s.at ≡ at)
    by None e k = absurd (none-some d k)
    by (Some m) e k =
        let less : at.decl < length (declarations_in m.interface) + length (declarations_in m.body) =
        subst (λ n. at.decl < n) (many_of program at.«module» m)
        (numbered_within (doubles_of program at.«module» m) at.decl d k) in
        let there = text_stands 0 program at.«module» m at.decl e less in
        (there.0, there.1, there.2 ∙ (λ j. record { «module» = zero-add at.«module» j; decl = at.decl }))
