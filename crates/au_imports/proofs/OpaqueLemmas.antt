-- Opaque types of a good program are defined.
use Rattle.std.proofs.Common.{◌≡◌, ℕ, List, find, Some, refl, ap, sym, subst, ◌∙◌}
use Rattle.std.specs.Prelude.{Contains, slice_get}
use Rattle.std.proofs.lemmas.Option.{get_or_from_slice_get, none-some, slice_get_within}
use Rattle.au_syntax.specs.declared.modules.Part.TheVariants.{Interface, Body}
use Rattle.au_syntax.specs.Modules.{record_type, union_type, opaque_type}
use Rattle.au_syntax.specs.Plain.{Bytes, PlainDeclaration}
use Rattle.au_types.specs.declared.types.DeclAt.{DeclAt}
use Rattle.au_modules.specs.Programs.{Entry, ModuleParts}
use Rattle.au_names.specs.Owned.{declarations_in}
use Rattle.au_names.specs.Standing.{
  Standing,
  body_at,
  defined_by,
  definition_for,
  definition_of,
  is_named,
  is_whole,
  opaque_name,
  standing_at,
  standing_from,
  standing_in,
  whole_name,
}
use Rattle.au_names.proofs.DefinitionLemmas.{interface_listed, module_place, standing_found}
use Rattle.au_promises.proofs.DecidingLemmas.{keeps_decides}
use Rattle.au_promises.proofs.FulfilledLemmas.{Passes, kept_passes}
use Rattle.au_promises.specs.Agreeing.{Sight, sight_of}
use Rattle.au_promises.specs.Fulfilled.{Agrees, IsKept}
use Rattle.au_promises.specs.Promises.{defines, is_name, promised, type_defined}
use Rattle.au_imports.specs.Good.{IsGood}

-- the tests of what defines a type are one
same_test : (name : Bytes) (d : PlainDeclaration) → is_named name (whole_name d)
    ≡ is_name name (type_defined d)
same_test name (record_type at own parameters universe fields) = refl
same_test name (union_type at own parameters universe cases) = refl
same_test name other = refl

-- what is promised under an opaque type's name
opaque_promised : (d : PlainDeclaration) (name : Bytes) → opaque_name d ≡ Some name → promised d ≡ Some name
opaque_promised (opaque_type at own parameters universe) name h = h
opaque_promised other name h = absurd (none-some name h)

-- what defines an opaque type
opaque_test : (sight : Sight) (d one : PlainDeclaration) (name : Bytes)
    → opaque_name d ≡ Some name → is_named name (whole_name one) ≡ defines sight d one
opaque_test sight (opaque_type at own parameters universe) one name h =
    let same : Some own.name ≡ Some name = h in
    let is : own.name ≡ name = cc in
    same_test name one ∙ ap (λ n. is_name n (type_defined one)) (sym is)
opaque_test sight other one name h = absurd (none-some name h)

listed : (ds : List PlainDeclaration) (k : ℕ) (d : PlainDeclaration) → slice_get ds k ≡ Some d → Contains ds d
listed ds k d h = (k, slice_get_within ds k d h, get_or_from_slice_get ds k d d h)

pub opaque_defined : (program : List ModuleParts) (at : DeclAt) (m : ModuleParts)
    (interface body : Entry) (s : Standing) (name : Bytes) → IsGood program
    → slice_get program at.«module» ≡ Some m → m.interface ≡ Some interface → m.body ≡ Some body
    → standing_at program at ≡ Some s → s.part ≡ Interface → opaque_name s.says ≡ Some name
    → (d : Standing) × (definition_of program at ≡ Some d)
    × Agrees (sight_of program at.«module» m) s.says d.says
opaque_defined program at m interface body s name good here first second stands is opaque =
    let place = at.«module» in
    let there = sym (ap (standing_in place at.decl) here) ∙ stands in
    let of : s.place ≡ place = module_place place m at.decl s there in
    let declared : slice_get interface.tree.declarations at.decl ≡ Some s.says =
    ap (λ o. slice_get (declarations_in o) at.decl) (sym first)
    ∙ interface_listed place 0 m (declarations_in m.interface) at.decl s there is in
    let sight = sight_of program place m in
    let kept : IsKept sight body.tree.declarations s.says =
    good.promises place m interface body here first second s.says name
    (listed interface.tree.declarations at.decl s.says declared) (opaque_promised s.says name opaque) in
    let passes : Passes sight s.says body.tree.declarations =
    kept_passes sight s.says body.tree.declarations kept in
    let found = standing_found place 0 Body (defines sight s.says) (is_whole name)
    (λ t. opaque_test sight s.says t.says name opaque) body.tree.declarations passes.0 passes.1 in
    let own : body_at s.place (slice_get program s.place)
    ≡ standing_from place Body 0 body.tree.declarations =
    ap (λ p. body_at p (slice_get program p)) of ∙ ap (body_at place) here
    ∙ ap (λ o. standing_from place Body 0 (declarations_in o)) second in (
      found.0,
      ap (definition_for program) stands
          ∙ ap (defined_by (body_at s.place (slice_get program s.place)) s) opaque
          ∙ ap (find (is_whole name)) own ∙ found.1,
      subst (λ y. Agrees sight s.says y) (sym found.2) ((keeps_decides sight s.says passes.0).0 passes.2),
    )
