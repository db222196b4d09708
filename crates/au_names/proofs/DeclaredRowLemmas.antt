-- Declared types that written types mean have rows.
use Rattle.std.proofs.Common.{◌≡◌, Bool, true, false, cond, ◌&&◌, List, [], ◌∷◌, Option, None, Some, refl, ap}
use Rattle.std.proofs.Common.{subst}
use Rattle.std.specs.Option.{option_map, option_or}
use Rattle.std.specs.List.{list_any}
use Rattle.std.specs.Str.{bytes_eq}
use Rattle.std.proofs.lemmas.Option.{none-some, same_Some, cond_some}
use Rattle.au_base.specs.declared.kinds.IntKind.TheVariants as kinds
use Rattle.au_syntax.specs.declared.declarations.Universe.{Universe}
use Rattle.au_syntax.specs.declared.declarations.Universe.TheVariants as universes
use Rattle.au_syntax.specs.declared.types.Access.{Access}
use Rattle.au_syntax.specs.declared.types.Access.TheVariants as access
use Rattle.au_syntax.specs.Plain.{Bytes}
use Rattle.au_syntax.specs.Types as written
use Rattle.au_syntax.specs.Types.{WrittenType}
use Rattle.au_types.specs.Tables.{find}
use Rattle.au_types.specs.declared.headings.Head.{Head}
use Rattle.au_types.specs.declared.parameters.Parameter.{Parameter}
use Rattle.au_types.specs.declared.types.DeclAt.{DeclAt}
use Rattle.au_types.specs.declared.types.Region.{Region}
use Rattle.au_types.specs.declared.types.Region.TheVariants as regions
use Rattle.au_types.specs.Rows.{head_of}
use Rattle.au_types.specs.Same.{same, same_region}
use Rattle.au_types.specs.Types as mean
use Rattle.au_types.specs.Types.{Meaning, Arguments}
use Rattle.au_types.specs.Universes.{universe_in}
use Rattle.au_types.specs.Meant.{Given, refers, region_of, span_of, span_with, alone, meant}
use Rattle.au_types.specs.Meant.{all_given, applied, arguments_meant}
use Rattle.au_types.specs.Senses.{Sense, a_type, a_span, a_region, declared, a_class, built_in}
use Rattle.au_types.specs.Senses.{parameter_sense, declared_sense, open_region, outer_sense, sense_of}

-- a row of a declaration
abbrev pub HasRow : List (DeclAt × Head) → DeclAt → Type 0
HasRow heads at = (head : Head) × (head_of heads at ≡ Some head)

-- no declared type
abbrev pub IsPlain : Meaning → Type 0
IsPlain mean.unit = Unit {0}
IsPlain mean.truth = Unit {0}
IsPlain (mean.integer kind) = Unit {0}
IsPlain mean.text = Unit {0}
IsPlain (mean.parameter name) = Unit {0}
IsPlain (mean.named at args) = ⊥
IsPlain (mean.reads t region) = Unit {0}
IsPlain (mean.writes t region) = Unit {0}

-- a sense, if it is that of a declared type, has its row
abbrev pub Rowed : List (DeclAt × Head) → Option Sense → Type 0
Rowed heads None = Unit {0}
Rowed heads (Some (a_type t)) = IsPlain t
Rowed heads (Some a_span) = Unit {0}
Rowed heads (Some (a_region region)) = Unit {0}
Rowed heads (Some (declared at expected)) = HasRow heads at
Rowed heads (Some (a_class at)) = Unit {0}

module _ (heads : List (DeclAt × Head)) where
  rowed_or : (first second : Option Sense) → Rowed heads first → Rowed heads second
      → Rowed heads (option_or first second)
  rowed_or None second a b = b
  rowed_or (Some sense) second a b = a

  rowed_region : (name : Bytes) (b : Bool) → Rowed heads (cond b (Some (a_region (regions.Named name))) None)
  rowed_region name true = tt
  rowed_region name false = tt

  rowed_parameter : (name : Bytes) (found : Option Universe)
      → Rowed heads (option_map (parameter_sense name) found)
  rowed_parameter name None = tt
  rowed_parameter name (Some universes.Free) = tt
  rowed_parameter name (Some universes.Linear) = tt
  rowed_parameter name (Some universes.AnyType) = tt
  rowed_parameter name (Some universes.Region) = tt

  -- all senses of a table
  AllRowed : List (Bytes × Sense) → Type 0
  AllRowed [] = Unit {0}
  AllRowed (p ∷ ps) = Rowed heads (Some p.1) × AllRowed ps

  rowed_found : (name : Bytes) (table : List (Bytes × Sense)) → AllRowed table → Rowed heads (find name table)
  unfolding AllRowed
  rowed_found name [] all = tt
  rowed_found name (p ∷ ps) all = by (bytes_eq name p.0) (rowed_found name ps all.1)
    where
      by : (b : Bool) → Rowed heads (find name ps) → Rowed heads (cond b (Some p.1) (find name ps))
      by true rest = all.0
      by false rest = rest

  all_built_in : AllRowed built_in
  unfolding AllRowed
  all_built_in = (tt, (tt, (tt, (tt, (tt, (tt, (tt, (tt, (tt, (tt, (tt, (tt, (tt, tt)))))))))))))

  rowed_declared : (found : Option DeclAt) → Rowed heads (option_map (declared_sense heads) found)
  rowed_declared None = tt
  rowed_declared (Some at) =
      let P : Option Head → Type 0 = λ row.
      head_of heads at ≡ row
      → Rowed heads (Some (elim row [ None ↦ a_class at | Some head ↦ declared at head.params ])) in
      let both : (row : Option Head) → P row = λ row.
      elim row as P [ None ↦ (λ e. tt) | Some head ↦ (λ e. (head, e)) ] in
      both (head_of heads at) refl

  rowed_sense : (opened : List Bytes) (params : List Parameter) (visible : List (Bytes × DeclAt))
      (name : Bytes)
      → Rowed heads (sense_of opened params visible heads name)
  rowed_sense opened params visible name =
      rowed_or (open_region opened name)
      (option_or (option_map (parameter_sense name) (universe_in params name))
      (outer_sense visible heads name))
      (rowed_region name (list_any (bytes_eq name) opened))
      (rowed_or (option_map (parameter_sense name) (universe_in params name)) (outer_sense visible heads name)
      (rowed_parameter name (universe_in params name))
      (rowed_or (find name built_in) (option_map (declared_sense heads) (find name visible))
      (rowed_found name built_in all_built_in) (rowed_declared (find name visible))))

  -- a type without arguments
  alone_row : (t : Meaning) (args : List Given) (at : DeclAt) (of : Arguments) → IsPlain t
      → alone t args ≡ Some (mean.named at of) → HasRow heads at
  alone_row t [] at of plain h = absurd (subst IsPlain (same_Some t (mean.named at of) h) plain)
  alone_row t (one ∷ rest) at of plain h = absurd (none-some (mean.named at of) h)

  span_of_row : (t : Option Meaning) (region : Option Region) (at : DeclAt) (of : Arguments)
      → span_of t region ≡ Some (mean.named at of) → HasRow heads at
  span_of_row None region at of h = absurd (none-some (mean.named at of) h)
  span_of_row (Some t) None at of h = absurd (none-some (mean.named at of) h)
  span_of_row (Some t) (Some region) at of h =
      let text : mean.text ≡ mean.named at of =
      (cond_some (same t (mean.integer kinds.Nat8) && same_region region regions.Static) mean.text
      (mean.named at of) h).1
      in
      absurd (subst IsPlain text tt)

  span_row : (args : List Given) (at : DeclAt) (of : Arguments) → span_with args ≡ Some (mean.named at of)
      → HasRow heads at
  span_row [] at of h = absurd (none-some (mean.named at of) h)
  span_row (t ∷ []) at of h = absurd (none-some (mean.named at of) h)
  span_row (t ∷ region ∷ []) at of h = span_of_row t.as_type region.as_region at of h
  span_row (t ∷ region ∷ more ∷ rest) at of h = absurd (none-some (mean.named at of) h)

  -- the declaration of a declared type, and another for all else
  declaration_of : DeclAt → Meaning → DeclAt
  declaration_of other mean.unit = other
  declaration_of other mean.truth = other
  declaration_of other (mean.integer kind) = other
  declaration_of other mean.text = other
  declaration_of other (mean.parameter name) = other
  declaration_of other (mean.named at args) = at
  declaration_of other (mean.reads t region) = other
  declaration_of other (mean.writes t region) = other

  same_declaration : (at by : DeclAt) (args of : Arguments) → mean.named by args ≡ mean.named at of → by ≡ at
  unfolding declaration_of
  same_declaration at by args of e = ap (declaration_of at) e

  named_row : (by : DeclAt) (found : Option Arguments) (at : DeclAt) (of : Arguments) → HasRow heads by
      → option_map (mean.named by) found ≡ Some (mean.named at of) → HasRow heads at
  named_row by None at of row h = absurd (none-some (mean.named at of) h)
  named_row by (Some args) at of row h =
      subst (HasRow heads)
      (same_declaration at by args of (same_Some (mean.named by args) (mean.named at of) h)) row

  applied_row : (sense : Option Sense) (args : List Given) (at : DeclAt) (of : Arguments) → Rowed heads sense
      → applied sense args ≡ Some (mean.named at of) → HasRow heads at
  applied_row None args at of row h = absurd (none-some (mean.named at of) h)
  applied_row (Some (a_type t)) args at of row h = alone_row t args at of row h
  applied_row (Some a_span) args at of row h = span_row args at of h
  applied_row (Some (a_region region)) args at of row h = absurd (none-some (mean.named at of) h)
  applied_row (Some (declared by expected)) args at of row h =
      named_row by (arguments_meant expected args) at of row h
  applied_row (Some (a_class by)) args at of row h = absurd (none-some (mean.named at of) h)

  refers_row : (kind : Access) (t : Option Meaning) (region : Option Region) (at : DeclAt) (of : Arguments)
      → refers kind t region ≡ Some (mean.named at of) → HasRow heads at
  refers_row access.Read None region at of h = absurd (none-some (mean.named at of) h)
  refers_row access.Read (Some t) None at of h = absurd (none-some (mean.named at of) h)
  refers_row access.Read (Some t) (Some region) at of h =
      absurd (subst IsPlain (same_Some (mean.reads t region) (mean.named at of) h) tt)
  refers_row access.Write None region at of h = absurd (none-some (mean.named at of) h)
  refers_row access.Write (Some t) None at of h = absurd (none-some (mean.named at of) h)
  refers_row access.Write (Some t) (Some region) at of h =
      absurd (subst IsPlain (same_Some (mean.writes t region) (mean.named at of) h) tt)

-- a declared type that is meant has its row
pub meant_row : (opened : List Bytes) (params : List Parameter) (visible : List (Bytes × DeclAt))
    (heads : List (DeclAt × Head)) (t : WrittenType) (at : DeclAt) (of : Arguments)
    → meant opened params visible heads t ≡ Some (mean.named at of) → HasRow heads at
unfolding meant
meant_row opened params visible heads (written.named name args) at of h =
    applied_row heads (sense_of opened params visible heads name.name)
    (all_given opened params visible heads args) at of (rowed_sense heads opened params visible name.name) h
meant_row opened params visible heads (written.reference place kind target region) at of h =
    refers_row heads kind (meant opened params visible heads target)
    (region_of (sense_of opened params visible heads region.name)) at of h
