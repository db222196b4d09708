-- What comes along is refused for nothing wherever it stands, if it is refused for nothing somewhere.
use Rattle.std.proofs.Common.{
  ◌≡◌,
  ◌⊎◌,
  inl,
  inr,
  Bool,
  true,
  false,
  cond,
  List,
  [],
  ◌∷◌,
  ◌++◌,
  None,
  Some,
  refl,
  sym,
  ap,
  ◌∙◌,
  true≢false,
}
use Rattle.std.specs.Prelude.{slice_get}
use Rattle.std.specs.Option.{option_or}
use Rattle.std.proofs.lemmas.Option.{none-some}
use Rattle.au_base.specs.declared.places.Pos.{Pos}
use Rattle.au_syntax.specs.Plain.{Bytes}
use Rattle.au_types.specs.declared.spaces.Space.TheVariants.{Callables}
use Rattle.au_types.specs.declared.types.DeclAt.{DeclAt}
use Rattle.au_modules.specs.Programs.{ModuleParts}
use Rattle.au_names.specs.declared.targets.Target.{Target}
use Rattle.au_names.specs.Along.{is_among, members_in, with_declaration}
use Rattle.au_names.proofs.AlongLemmas.{among_more}
use Rattle.au_imports.specs.declared.clashes.Importer.{Importer}
use Rattle.au_imports.specs.declared.name_faults.NameFault.TheVariants.{NameTwice}
use Rattle.au_imports.specs.Choices.{first_of, where_so}
use Rattle.au_imports.specs.Importers.{AllPass, IsOf, clashes_in, fault_in, program_of}

-- where nothing is so nothing is given, whatever would be
nothing_so : {A C : Type 0} (so : A → Bool) (f g : A → C) (xs : List A)
    → first_of (λ x. where_so (so x) (f x)) xs ≡ None → first_of (λ x. where_so (so x) (g x)) xs ≡ None
unfolding first_of
nothing_so so f g [] h = refl
nothing_so so f g (x ∷ xs) h = by (so x) h (nothing_so so f g xs)
  where
    by : (b : Bool) → option_or (where_so b (f x)) (first_of (λ y. where_so (so y) (f y)) xs) ≡ None
        → (first_of (λ y. where_so (so y) (f y)) xs ≡ None → first_of (λ y. where_so (so y) (g y)) xs ≡ None)
        → option_or (where_so b (g x)) (first_of (λ y. where_so (so y) (g y)) xs) ≡ None
    by true e rest = absurd (none-some (f x) (sym e))
    by false e rest = rest e

-- nothing is refused of none
pub pass_none : (one : Importer) (some : List DeclAt) → some ≡ [] → AllPass one some
pass_none one some none at m other stands among this here =
    absurd (true≢false (sym among ∙ ap (is_among at) none))

-- nothing changes with one that is one of them
pub pass_same : (one : Importer) (at : DeclAt) (some next : List DeclAt)
    → AllPass one some → is_among at some ≡ true → next ≡ with_declaration some at → AllPass one next
pass_same one at some next old among is another m other stands there this here =
    old another m other stands
    (sym (ap (is_among another) (is ∙ ap (λ c. cond c some (some ++ at ∷ [])) among)) ∙ there) this here

-- a declaration more passes
pub pass_more : (one : Importer) (some : List DeclAt) (at : DeclAt) (stands : Pos) → AllPass one some
    → ((m other : ModuleParts) → IsOf one m → slice_get (program_of one) at.«module» ≡ Some other
    → first_of (fault_in one m at.«module» other stands) (members_in at other) ≡ None)
    → AllPass one (with_declaration some at)
pass_more one some at stands old passes another m other elsewhere among this here =
    by (among_more another at some among)
  where
    by : (is_among another some ≡ true) ⊎ (another ≡ at)
        → first_of (fault_in one m another.«module» other elsewhere) (members_in another other) ≡ None
    by (inl earlier) = old another m other elsewhere earlier this here
    by (inr is) =
        let there : slice_get (program_of one) at.«module» ≡ Some other =
        ap (λ d. slice_get (program_of one) d.«module») (sym is) ∙ here in
        ap (λ d. first_of (fault_in one m d.«module» other elsewhere) (members_in d other)) is
        ∙ nothing_so (λ (p : Bytes × Target). clashes_in one m Callables p.0 p.1)
        (λ p. NameTwice stands p.0) (λ p. NameTwice elsewhere p.0) (members_in at other)
        (passes m other this there)
