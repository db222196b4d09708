-- What the lines of refusals say, as it was written by hand.
use Rattle.std.specs.Prelude.{ℕ, List, [], ◌∷◌, codes}
use Rattle.au_base.specs.declared.kinds.IntKind.TheVariants as kinds
use Rattle.au_types.specs.declared.headings.Head.{Head}
use Rattle.au_types.specs.declared.types.DeclAt.{DeclAt}
use Rattle.au_types.specs.declared.types.Region.TheVariants as regions
use Rattle.au_types.specs.Types.{Meaning, integer, named, parameter, reads, text, truth, writes}
use Rattle.au_types.specs.Types.{arguments, in_region, no_arguments, of_type}
use Rattle.au_syntax.specs.declared.declarations.Universe.TheVariants as universes
use Rattle.au_typing.specs.Faults.{Why, unknown, different, unfixed, no_instance, not_free, shape}
use Rattle.au_typing.specs.Faults.{after_return, falls_out}
use Rattle.au_typing.specs.Faults as forms

-- a declared type and a class
abbrev pub pair : DeclAt
pair = record { «module» = 1; decl = 0 }

abbrev pub rows : List (DeclAt × Head)
rows = (pair, record { text = codes "Main:Pair"; universe = universes.Free; params = [] }) ∷ []

abbrev pub class_text : DeclAt → List ℕ
class_text at = codes "Austral.Pervasive:Printable"

abbrev pub pair_of : Meaning → Meaning
pair_of one =
    named pair (arguments (of_type one) (arguments (in_region (regions.Named (codes "R"))) no_arguments))

-- what is wrong, and what is said of it
pub record Example : Type 0 where
  pub why : Why
  pub says : List ℕ

abbrev pub said : Why → List ℕ → Example
said why says = record { why = why; says = says }

abbrev pub examples : List Example
examples =
    said (unknown (codes "total")) (codes "unknown total")
    ∷ said (different (integer kinds.Nat8) truth) (codes "wanted Nat8, found Bool")
    ∷ said (different (reads (pair_of text) regions.Anonymous) (writes truth regions.Static))
    (codes "wanted &[Main:Pair[Span[Nat8, Static], R], ~], found &![Bool, Static]")
    ∷ said (unfixed (codes "T")) (codes "not fixed T")
    ∷ said (no_instance (record { «module» = 0; decl = 9 }) (pair_of (parameter (codes "T"))))
    (codes "no instance Austral.Pervasive:Printable for Main:Pair[T, R]")
    ∷ said (not_free (parameter (codes "T"))) (codes "not free T")
    ∷ said (shape forms.record_wanted) (codes "wanted a record")
    ∷ said (shape forms.union_wanted) (codes "wanted a union")
    ∷ said (shape forms.reference_wanted) (codes "wanted a reference")
    ∷ said (shape forms.write_reference_wanted) (codes "wanted a write reference")
    ∷ said (shape forms.integer_wanted) (codes "wanted an integer")
    ∷ said (shape forms.assignable_wanted) (codes "wanted an assignable place")
    ∷ said (shape forms.linear_wanted) (codes "wanted a linear type")
    ∷ said (shape forms.region_wanted) (codes "wanted a region")
    ∷ said (shape (forms.arguments_wanted 12)) (codes "wanted 12 arguments")
    ∷ said (shape (forms.arguments_wanted 1)) (codes "wanted 1 arguments")
    ∷ said (shape forms.labels_wanted) (codes "wanted other labels")
    ∷ said (shape forms.arms_wanted) (codes "wanted other arms")
    ∷ said (shape (forms.range_wanted kinds.Nat8)) (codes "wanted a value of Nat8")
    ∷ said (shape (forms.range_wanted kinds.Index)) (codes "wanted a value of Index")
    ∷ said after_return (codes "after return")
    ∷ said falls_out (codes "no return")
    ∷ []
