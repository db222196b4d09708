-- What holds of all declarations of a program holds of each that stands in the body of a module.
use Rattle.std.proofs.Common.{◌≡◌, ℕ, zero, suc, ◌+◌, List, [], ◌∷◌, length, Some, sym}
use Rattle.std.proofs.Common.{subst, arith, zero-add}
use Rattle.std.specs.Prelude.{Contains, slice_get}
use Rattle.std.proofs.lemmas.List.Elements.{Contains-append_left, Contains-append_right}
use Rattle.std.proofs.lemmas.Option.{none-some, same_Some}
use Rattle.au_base.proofs.ListLemmas.{Contains-first, Contains-rest}
use Rattle.au_syntax.specs.declared.modules.Part.{Part}
use Rattle.au_syntax.specs.declared.modules.Part.TheVariants.{Interface, Body}
use Rattle.au_syntax.specs.Plain.{PlainDeclaration}
use Rattle.au_modules.specs.Programs.{ModuleParts}
use Rattle.au_names.specs.Owned.{declarations_in}
use Rattle.au_formed.specs.Text.{Spot, module_spots, spots_from, text, text_from}

-- ---- the text of a program

spot_in : (place : ℕ) (part : Part) (number : ℕ) (ds : List PlainDeclaration) (index : ℕ)
    (d : PlainDeclaration) → slice_get ds index ≡ Some d
    → (n : ℕ) × Contains (spots_from place part number ds)
    (record { at = record { «module» = place; decl = n }; part = part; says = d })
unfolding spots_from
spot_in place part number [] index d e = absurd (none-some d e)
spot_in place part number (first ∷ rest) zero d e = (
  number,
  subst (λ x. Contains (spots_from place part number (first ∷ rest))
      (record { at = record { «module» = place; decl = number }; part = part; says = x })) (same_Some first d e)
      (Contains-first (record { at = record { «module» = place; decl = number }; part = part; says = first })
      (spots_from place part (number + 1) rest)),
)
spot_in place part number (first ∷ rest) (suc index) d e =
    let later = spot_in place part (number + 1) rest index d e in (
      later.0,
      Contains-rest (record { at = record { «module» = place; decl = number }; part = part; says = first })
          (spots_from place part (number + 1) rest)
          (record { at = record { «module» = place; decl = later.0 }; part = part; says = d }) later.1,
    )

text_in : (place k : ℕ) (ms : List ModuleParts) (m : ModuleParts) (s : Spot) → slice_get ms k ≡ Some m
    → Contains (module_spots (place + k) m) s → Contains (text_from place ms) s
unfolding text_from
text_in place k [] m s e c = absurd (none-some m e)
text_in place zero (first ∷ rest) m s e c =
    Contains-append_left (module_spots place first) (text_from (place + 1) rest) s
    (subst (λ n. Contains (module_spots n first) s) (omega arith)
    (subst (λ x. Contains (module_spots (place + 0) x) s) (sym (same_Some first m e)) c))
text_in place (suc k) (first ∷ rest) m s e c =
    Contains-append_right (module_spots place first) (text_from (place + 1) rest) s
    (text_in (place + 1) k rest m s e (subst (λ n. Contains (module_spots n m) s) (omega arith) c))

-- a declaration of the body of a module is one of the text
pub spot_of_body : (program : List ModuleParts) (place : ℕ) (m : ModuleParts) (index : ℕ) (d : PlainDeclaration)
    → slice_get program place ≡ Some m → slice_get (declarations_in m.body) index ≡ Some d
    → (n : ℕ) × Contains (text program) (record { at = record { «module» = place; decl = n }; part = Body; says = d })
spot_of_body program place m index d is e =
    let spot = spot_in place Body (length (declarations_in m.interface)) (declarations_in m.body) index d e in
    let at : Spot = record { at = record { «module» = place; decl = spot.0 }; part = Body; says = d } in (
      spot.0,
      text_in 0 place program m at is
          (subst (λ n. Contains (module_spots n m) at) (sym (zero-add place))
          (Contains-append_right (spots_from place Interface 0 (declarations_in m.interface))
          (spots_from place Body (length (declarations_in m.interface)) (declarations_in m.body)) at spot.1)),
    )
